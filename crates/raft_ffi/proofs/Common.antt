-- What proofs of this crate import of std, of the definitions and of the crates below, in one place.
pub use Rattle.std.proofs.BoxSteps.Form.{B, Bx, D, P, R, args, box_ty, box_typed, word, τ}
pub use Rattle.std.proofs.BoxSteps.Steps.{box_in, box_out}
pub use Rattle.std.proofs.Common.{Bool, Err, IfErr, IfOk, List, None, Ok, OnErr, OnOk, Option, Result, Some, [], ap, arith, cond, drop, false, filter, inl, length, map, min, refl, rules, subst, suc}
pub use Rattle.std.proofs.Common.{sym, take, true, ℕ, ◌++◌, ◌+◌, ◌-◌, ◌<◌, ◌^◌, ◌∙◌, ◌∷◌, ◌≡◌, ◌≢◌, ◌≤◌}
pub use Rattle.std.proofs.Math.Nat.{min_comm}
pub use Rattle.std.proofs.ResultValues.{and_tt}
pub use Rattle.std.proofs.alloc.Calls.{Goes-blank, handle_tells, token}
pub use Rattle.std.proofs.lemmas.Cmp.{nat_list_cmp_total}
pub use Rattle.std.proofs.lemmas.Fn.{always_returns_same, filter_same}
pub use Rattle.std.proofs.lemmas.Iterator.{items_from_drains}
pub use Rattle.std.proofs.lemmas.Iterator.Adapters.{YieldsList-from_vec}
pub use Rattle.std.proofs.lemmas.List.{append_assoc, at_drop_more, drop_min, get_or-map, length-map, map-append, map-id, nil_from_length, take_all, take_at, take_min}
pub use Rattle.std.proofs.lemmas.List.Sorted.{IsNonDecreasingBy-from_sort, IsPermutation-map, IsPermutation-sym, IsPermutation-trans, ranks_by}
pub use Rattle.std.proofs.lemmas.Result.{err_from_is_err_and}
pub use Rattle.std.specs.List.Sorted.{IsSortedBy}
pub use Rattle.std.specs.Prelude.{IsTrue, is_some, slice_index_or}
pub use Rattle.std.specs.contracts.impls.GlobalAllocator.TheImpl.{dict, ghosts}
pub use Rattle.raft_contexts.proofs.RecoverContextLemmas.{merge_exact, merge_stands, merge_unsound, on_err, on_ok}
unfoldable pub use Rattle.raft_ffi.specs.Batches.{AcceptsOncePlaced}
unfoldable pub use Rattle.raft_ffi.specs.Contexts.{AreUnsound, HasBothRead, HasTablesRead, IsOverlaidExactly, StandsForBoth, StandsForBothExactly}
unfoldable pub use Rattle.raft_ffi.specs.Readers.{AreReadersUnsound, ReadersStand, ReadersStandExactly}
unfoldable pub use Rattle.raft_ffi.specs.Slots.{AcceptsShareOncePlaced}
pub use Rattle.raft_files.specs.Asks.{Put}
pub use Rattle.raft_records.proofs.PartLemmas.{batch_inside, one_batch_more}
pub use Rattle.raft_replay.proofs.StopLemmas.{fault_after, stands_sound}
unfoldable pub use Rattle.raft_table.specs.TableEntries.{placed_in}
pub use Rattle.raft_ffi.specs.Words.{Accessor, AllByRecursion, AllHold, Appending, AreAcceptedOncePlaced, AreBatchesUpTo, AreInKeyOrder, AreItemsRefused, ArePairsIn, AreRewritesUnpurged, AreScanned, AreScannedIn, AreTablesOf, AreUngroupedAs}
pub use Rattle.raft_ffi.specs.Words.{AreUnmovedAgain, AreWritten, Ask, Batch, BothHold, Called, ComparesAs, Drains, EntryIndex, Error, Event, Global, HasRead, HasReadExactly, HasStrings, Holds, IntoIter}
pub use Rattle.raft_ffi.specs.Words.{IsCodeForBoth, IsCodeOf, IsConsecutive, IsCopied, IsMemoryOr, IsNeighborFault, IsNextFault, IsOfBothExactly, IsOpened, IsPermutation, IsRun, IsShareRefused, IsStoodFor, IsStoppedAt, IsStrictWeakOrder}
pub use Rattle.raft_ffi.specs.Words.{HandedFails, IsUnopened, IsUnopenedAs, IsUnpurged, IsUnrewritten, IsUnwritten, Item, KeptEngine, Keys, Lasts, LogItem, Ordering, RecoverContext, RecoveryMode, Rewriting, RisesFrom, Sound, Stored, Version, Writing}
pub use Rattle.raft_ffi.specs.Words.{Yields, box_owns, bytes_of, code_of, copied_over, entries_from, entry_of, entry_with_index, file_of, found_asks, handle_owned, into_iter_items, into_iter_len, into_iter_steps, is_between}
pub use Rattle.raft_ffi.specs.Words.{IsReplayedBy, ReaderSeen, size_in}
pub use Rattle.raft_ffi.specs.Words.{is_lt, item_of, lengths_of, moving_entries, moving_pairs, nat_cmp, number_in, option_copied, pairs_shown, part_of, queue_of, share_of, signature_of, sized_entries, slice_cmp, strings_of, table_of, version_of}
