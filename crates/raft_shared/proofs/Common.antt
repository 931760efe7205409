-- What proofs of this crate import of std, of the definitions and of the crates below, in one place.
pub use Rattle.std.proofs.Common.{Bool, Err, IfSome, IsPermutation, List, None, Ok, Option, Result, Some, [], ap, append-nil, append_assoc, arith, cond, drop, false, inl, inr, length, map, refl, slice_index_or, slice_set, subst, suc, sym}
pub use Rattle.std.proofs.Common.{true, zero, ℕ, ◌++◌, ◌+◌, ◌<◌, ◌==◌, ◌^◌, ◌∙◌, ◌∷◌, ◌≡◌, ◌≢◌, ◌≤◌, ◌⊎◌}
pub use Rattle.std.proofs.Math.ListN.{drop_of_length-le}
pub use Rattle.std.proofs.iter.Next.{Yields-more}
pub use Rattle.std.proofs.lemmas.Bool.{ne_eqb}
pub use Rattle.std.proofs.lemmas.List.{at_drop_more, length-append, map-append, length-set}
pub use Rattle.std.proofs.lemmas.List.Elements.{All-from_recursion, filter-append, recursion_from_All}
pub use Rattle.std.proofs.lemmas.List.Sorted.{All-permutation}
pub use Rattle.std.proofs.lemmas.Result.{err_from_is_err_and, IfErr-weaker, on_ok_weaker}
pub use Rattle.std.specs.Borrow.{Bor}
pub use Rattle.std.specs.FinMap.{find}
pub use Rattle.std.specs.Fn.{CalledAt, Mut, Once}
pub use Rattle.std.specs.List.{filter}
pub use Rattle.std.specs.Option.{option_and_then, option_map, option_or}
pub use Rattle.std.specs.Ordering.{eq_by_cmp, is_eq, nat_cmp}
pub use Rattle.std.specs.Prelude.{if◌then◌else◌}
pub use Rattle.std.specs.Result.{IfErr, IfOk, OnErr, OnOk}
pub use Rattle.raft_shared.specs.Common.{AllByRecursion, AreCountsOf, AreSlotTablesAdded, AreTablesTaken, FoldsTo, HasCleans, HaveShares, HoldsOwnTables, IsAllowed, IsAnswer, IsChangeAnswer, IsChangeFault, IsChangeRefusal, IsNumberOf}
pub use Rattle.raft_shared.specs.Common.{IsRefusalOf, IsSharedItemFault, IsSlotTable, IsTableChanged, IsWritten, KeepsId, Makes, MayBeWritten, Table, TableChange, after_change, command_item, is_open, item_of, live_in_all, live_of, slot_of}
pub use Rattle.raft_shared.specs.Common.{table_in, writing_shown}
pub use Rattle.raft_accessor.proofs.LiveLemmas.{counted-with, live-none, table-counted}
pub use Rattle.raft_accessor.proofs.MapLemmas.{by_id, get_gone, get_left, get_other, get_own, none_some, self_same, some_is, with_other}
pub use Rattle.raft_accessor.proofs.WalkLemmas.{folds-append}
pub use Rattle.raft_accessor.specs.Accessor.{Accessor}
pub use Rattle.raft_accessor.specs.ItemWrites.{IsItemWritten}
pub use Rattle.raft_accessor.specs.Updates.{BecomesOutcome}
pub use Rattle.raft_accessor.specs.Writes.{AreWritten, IsFor, IsWriteFault, Writing, after_content, cleaned_by_content, listed_by, lists, queue_of}
pub use Rattle.raft_base.specs.declared.errors.Error.{Error}
pub use Rattle.raft_history.proofs.EffectLemmas.{each-append, each_weaker}
pub use Rattle.raft_history.specs.RegionSteps.{Tables, with_table}
pub use Rattle.raft_records.specs.Item.{Content, Item, command, entries}
pub use Rattle.raft_records.specs.ItemBatch.{raised_item}
pub use Rattle.raft_records.specs.LogBatch.{Batch, empty_batch, with_batch}
pub use Rattle.raft_shared.specs.Slot.{HasShare, Slot}
pub use Rattle.raft_shared.specs.SlotView.{AreOf, IsSlotKept, slot_shown}
pub use Rattle.raft_table.specs.Counts.{Counts, live}
pub use Rattle.raft_table.specs.Steps.{table_of}
pub use Rattle.raft_table.specs.Table.{IsRecounted, empty_table}
pub use Rattle.raft_shared.specs.declared.slot.Slot.TheInside.{Inside}
