-- What proofs of this crate import of std, of the definitions and of the crates below, in one place.
pub use Rattle.std.proofs.Common.{Err, List, None, Ok, OnErr, Result, Some, Vec, [], ap, append-nil, arith, drop, inl, inr, length, length-append, map, refl, slice_index_or, slice_set, subst, suc, sym, take, zero, ℕ, ◌++◌, ◌+◌, ◌-◌, ◌<◌, ◌∙◌, ◌∷◌, ◌≡◌, ◌≤◌}
pub use Rattle.std.proofs.Math.Seq.{set-append_seam}
pub use Rattle.std.proofs.lemmas.List.{drop-append-le, length-drop, length-map, length-take-le, map-append, take_all, take_more}
pub use Rattle.std.proofs.lemmas.Option.{get_or_from_slice_get, none-some, slice_get-get_or, slice_get_within}
pub use Rattle.std.specs.Global.{Global}
pub use Rattle.std.specs.List.{slice_get}
pub use Rattle.std.specs.Vec.{vec_len}
pub use Rattle.raft_base.specs.declared.pipe_log.FileBlockHandle.{FileBlockHandle}
pub use Rattle.raft_base.specs.declared.pipe_log.LogQueue.{LogQueue}
pub use Rattle.raft_base.specs.declared.pipe_log.LogQueue.TheVariants.{Append, Rewrite}
pub use Rattle.raft_files.specs.Asks.{Act, Ask, Begin, Cut, Delete, Found, Put, Read, Sync, Unsynced, acts_on, ask}
pub use Rattle.raft_files.specs.Disk.{IsLeftOf, MayStand, NumberedBytes, begun, cut_last, deletions, files_of, on_last, put_behind, synced_deletions}
pub use Rattle.raft_files.specs.HeldFiles.{AreBothHeld, AreHeld, file_shown}
pub use Rattle.raft_files.specs.Places.{IsNext, bytes_at}
