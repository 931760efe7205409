-- What proofs of this crate import of std, of the definitions and of the crates below, in one place.
pub use Rattle.std.proofs.Common.{IfErr, IfOk, List, None, Ok, OnOk, Option, Result, Some, Vec, [], ap, append-nil, append_assoc, arith, drop, drop-drop, inl, inr, length, length-append, length-drop, map, refl, subst, suc, sym, take, take-append-drop, zero}
pub use Rattle.std.proofs.Common.{ℕ, ◌++◌, ◌*◌, ◌+◌, ◌-◌, ◌<◌, ◌^◌, ◌∙◌, ◌∷◌, ◌≡◌, ◌≢◌, ◌≤◌, ◌⊎◌}
pub use Rattle.std.proofs.lemmas.List.{drop-append-le, drop_at, length-take-le, map-append}
pub use Rattle.std.proofs.lemmas.Result.{IfErr-weaker, on_ok_weaker}
pub use Rattle.raft_codec.specs.Reading.{HasNoFront, Reads}
pub use Rattle.raft_base.specs.declared.compression_type.CompressionType.{CompressionType}
pub use Rattle.raft_base.specs.declared.pipe_log.FileBlockHandle.{FileBlockHandle}
pub use Rattle.raft_history.proofs.StretchOfHistory.{apart_back, apart_front, small_back, small_front}
pub use Rattle.raft_records.proofs.BufferLemmas.{header_len}
pub use Rattle.raft_records.proofs.FrameLemmas.{header_one, readable}
pub use Rattle.raft_records.proofs.Names.{part_signature, place_between}
pub use Rattle.raft_records.proofs.PartLemmas.{batch_inside}
pub use Rattle.raft_records.specs.Header.{IsHeader, IsHeaderFault}
pub use Rattle.raft_records.specs.Item.{Item}
pub use Rattle.raft_records.specs.ItemBatch.{IsItemBatchFault, placed_item}
pub use Rattle.raft_records.specs.LogBatch.{IsReadable}
pub use Rattle.raft_replay.proofs.CutPartLemmas.{batch_header, header_ends, one_header}
pub use Rattle.raft_replay.proofs.MachineOrderLemmas.{each_join, each_single}
pub use Rattle.raft_replay.proofs.Passed.{on_passed, or_passed}
pub use Rattle.raft_replay.proofs.ReplayedLemmas.{none_replayed, replayed_as, replayed_more}
pub use Rattle.raft_replay.proofs.StopLemmas.{fault_after}
pub use Rattle.raft_replay.proofs.WrittenPartLemmas.{held_after, longer_stands}
pub use Rattle.raft_reading.specs.Common.{AreGivenFrom, AreRead, CannotFollowAt, Error, Event, FileId, GoneOn, HasFaultAt, HasHeader, HasReplayed, HasReplayedFile, HeadersLead, HoldsFrom, IoError, IsAppended, IsBatchAt, IsFailure, IsFileStop}
pub use Rattle.raft_reading.specs.Common.{IsHopeless, IsIoOfKind, IsMiscount, IsNextFault, IsReadFault, IsReplayedFront, IsSmall, IsStoodFor, IsUnderway, IsUnread, IsUnreadableAt, LogFileContext, NoneIsWhole, Part, Sound, StandBetween}
pub use Rattle.raft_reading.specs.Common.{StandHeaders, StopsByFault, StopsIn, StopsInRead, error_kind, history_in, joined, part_of, with_bytes}
pub use Rattle.raft_reading.specs.Common.{Apart, AreAllRead, EachHolds, FileSize, FilesHold, IsAllRead, IsNothing, IsQueueReplayed, IsQueueStop, LogQueue, NumberedBytes, Version, file_of, whole_file}
