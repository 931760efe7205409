-- What proofs of this crate import of std, of the definitions and of the crates below, in one place.
pub use Rattle.std.proofs.Common.{Bool, Err, IfSome, IsPermutation, IsTrue, List, MatchBool, MutBor, None, Ok, Option, Result, Some, [], ap, append-nil, append_assoc, arith, cond, drop, false, get_or, inl, inr, length, ltb, map, max, min}
pub use Rattle.std.proofs.Common.{nat_eq, not, of_calls, ok_or, refl, replicate, slice_index_or, slice_set, subst, suc, sum_by, sym, take, true, zero, ℕ, ◌*◌, ◌++◌, ◌+◌, ◌-◌, ◌<◌, ◌↔◌, ◌==◌, ◌^◌, ◌||◌, ◌∙◌, ◌∷◌, ◌≡◌, ◌≢◌, ◌≤◌, ◌⊎◌}
pub use Rattle.std.proofs.Math.ListN.{drop_of_length-le}
pub use Rattle.std.proofs.iter.Next.{Yields-more}
pub use Rattle.std.proofs.lemmas.Bool.{cases_lt, eqb-true, false≢true}
pub use Rattle.std.proofs.lemmas.Bool.Decides.{nat_tests}
pub use Rattle.std.proofs.lemmas.Fn.{called_at}
pub use Rattle.std.proofs.lemmas.List.{length-append, length-drop, length-take, length-take-le, map-append, nil_from_length, replicate_more, set-get_or, at_drop_more, get_or-set_same, length-map}
pub use Rattle.std.proofs.lemmas.List.Sorted.{IsPermutation-append_comm, IsPermutation-append_left, IsPermutation-append_right, IsPermutation-cons, IsPermutation-map, IsPermutation-refl, IsPermutation-trans, sum_by-IsPermutation}
pub use Rattle.std.proofs.lemmas.List.Sums.{sum_by-cons}
pub use Rattle.std.proofs.lemmas.Result.{err_from_is_err_and, IfErr-weaker, IfOk-weaker, on_err_weaker, on_ok_weaker}
pub use Rattle.std.proofs.raw_atomic.Walks.{leaves, proved}
pub use Rattle.std.specs.Cmp.{nat_cmp_is, nat_cmp_total, unsigned_tied}
pub use Rattle.std.specs.FinMap.{find, is_sorted, nat_cmp-IsAntisymmetric, put}
pub use Rattle.std.specs.FinMap.Entries.{by_order}
pub use Rattle.std.specs.List.{AllByRecursion}
unfoldable pub use Rattle.std.specs.List.{IsDistinct}
pub use Rattle.std.specs.Option.{OnSome, is_some, option_and_then, option_copied, option_copied_mut, option_map, option_or}
pub use Rattle.std.specs.Ordering.{eq_by_cmp, is_eq, nat_cmp}
pub use Rattle.std.specs.Prelude.{⊤}
pub use Rattle.std.specs.Result.{IfErr, IfOk, OnErr, OnOk}
pub use Rattle.std.specs.Vec.{with_item}
pub use Rattle.std.specs.declared.alloc.Global.{Global}
pub use Rattle.std.specs.declared.cmp.Ordering.TheVariants.{Equal, Greater, Less}
pub use Rattle.std.specs.declared.vec.Vec.{Vec}
pub use Rattle.raft_accessor.specs.Common.{Accessor, Append, Appending, AreAccepted, AreAcceptedOncePlaced, AreBefore, AreCountsAfter, AreCountsOf, AreItemsRefused, AreMerged, AreOthersLeft, AreRefusedOncePlaced, AreSlots, AreTablesLeft}
pub use Rattle.raft_accessor.specs.Common.{AreTablesMerged, AreWritten, BecomesOutcome, Collects, Counts, EntryIndex, Error, FoldsTo, IsAltered, IsAnswer, IsAppendCheckFault, IsChangeFault, IsCounted, IsExtentOf, IsFaultBeside, IsInserted}
pub use Rattle.raft_accessor.specs.Common.{IsItemWritten, IsMergeRefusal, IsNextFault, IsPairAccepted, IsPut, IsPutOver, IsRecounted, IsReplayed, IsRun, IsRunCheckFault, IsRunIn, IsRunTried, IsSlotTaken, IsStepTaken, IsTableChanged}
pub use Rattle.raft_accessor.specs.Common.{IsTableJoined, IsTableMade, IsTableMerged, IsTableOverlaid, IsTableRunFault, IsUpdated, IsWriteFault, IsWritten, Item, KeepsId, LogQueue, Makes, MayAlter, MayChange, Memory, Put, Replaying}
pub use Rattle.raft_accessor.specs.Common.{Rewrite, Rewriting, Table, Tables, TakesNext, TakesRun, after_append, after_change, after_replay, command_item, commanded, content_of, counts_with_run, empty_table, entries_after_append, known_extents}
pub use Rattle.raft_accessor.specs.Common.{entries_item, entries_of_block, file_at, from, item_of, keys_of, lent_as, live, live_in, live_of, lookup, other, pair, pair_change, pair_of, run_shown, slot_of, start_of, step_shown, table_in}
pub use Rattle.raft_accessor.specs.Common.{table_of, with_all_deleted, with_neighbor, with_table_added, with_table_deleted, writing_shown}
unfoldable pub use Rattle.raft_accessor.specs.Accessor.{live_in_all}
pub use Rattle.raft_accessor.specs.AccessorView.{IsAccessorKept, accessor_shown}
pub use Rattle.raft_accessor.specs.Extents.{AreChecked, AreKnown, HasValue, IsKnown, IsNextTaken, placed_entries}
pub use Rattle.raft_accessor.specs.ItemWrites.{IsPairReplayed}
pub use Rattle.raft_accessor.specs.Merges.{IsLeftAt, IsMergedAt, neighbor_rule}
pub use Rattle.raft_accessor.specs.RegionTablesView.{AreTablesKept, tables_shown}
pub use Rattle.raft_accessor.specs.Slots.{IsSlot, slot_entries}
unfoldable pub use Rattle.raft_accessor.specs.Slots.{together}
pub use Rattle.raft_accessor.specs.TableOverlays.{IsRunOverlaid}
pub use Rattle.raft_accessor.specs.Updates.{TableCall, TableCalls}
pub use Rattle.raft_accessor.specs.Writes.{AreCountsAfterItems, IsFor, IsPairOfQueue, MixesQueues, NoneMixesQueues, Writing, after_content, after_items, after_pair, after_rewrite_put, cleaned_by_content, counts_after_change}
pub use Rattle.raft_accessor.specs.Writes.{counts_after_content, listed_by, listed_by_items, lists, queue_of, with_change}
pub use Rattle.raft_accessor.specs.contracts.accessor.MemTableAccessor.{the_row}
pub use Rattle.raft_accessor.specs.declared.append_check.Extent.{Extent}
pub use Rattle.raft_base.proofs.ConsecutiveLemmas.{end_bounded}
pub use Rattle.raft_base.specs.Corruption.{IsCorruption}
pub use Rattle.raft_base.specs.Runs.{IsConsecutive, RisesFrom}
unfoldable pub use Rattle.raft_base.specs.Runs.{end_of}
pub use Rattle.raft_base.specs.declared.compression_type.CompressionType.{CompressionType}
pub use Rattle.raft_base.specs.declared.errors.Error.TheVariants.{Full}
pub use Rattle.raft_base.specs.declared.pipe_log.FileBlockHandle.{FileBlockHandle}
pub use Rattle.raft_base.specs.declared.pipe_log.FileId.{FileId}
pub use Rattle.raft_history.proofs.TotalLemmas.{found, total-insert, total-none, total-ones, total-remove}
pub use Rattle.raft_history.specs.Joins.{overlaid_region}
pub use Rattle.raft_history.specs.Records.{total_of}
unfoldable pub use Rattle.raft_history.specs.Records.{total}
pub use Rattle.raft_history.specs.RegionStepShown.{item_step, region_step_shown}
pub use Rattle.raft_history.specs.RegionSteps.{RegionStep, cleaned_by_steps, command_step, content_step, pair_step, with_table}
pub use Rattle.raft_records.specs.Group.{is_reserved}
pub use Rattle.raft_records.specs.Item.{Content, Pair, command, entries}
pub use Rattle.raft_records.specs.ItemBatch.{placed_content, placed_item}
pub use Rattle.raft_records.specs.LogBatch.{is_open}
pub use Rattle.raft_records.specs.declared.command.Command.{Command}
pub use Rattle.raft_records.specs.declared.key_value.OpType.{OpType}
pub use Rattle.raft_table.proofs.MarkTables.{applied_none, own_alone}
pub use Rattle.raft_table.proofs.RegionLemmas.{applied_own}
pub use Rattle.raft_table.proofs.RunCounts.{append_full, replay_full}
pub use Rattle.raft_table.proofs.RunLemmas.{RisesFrom-append, RisesFrom-drop, RisesFrom-take, below_start, below_take, end_of-run, from_drop, from_start, rises}
pub use Rattle.raft_table.proofs.Shown.{equal, find-below, first_of_both, second_of_both}
pub use Rattle.raft_table.proofs.SizeLemmas.{records_of_both}
pub use Rattle.raft_table.proofs.TableLemmas.{live_of_empty}
pub use Rattle.raft_table.specs.Counts.{with_added}
pub use Rattle.raft_table.specs.MarkJoins.{end_at_reach}
pub use Rattle.raft_table.specs.MarkedJoins.{IsFaultUnder, IsMarkFault, IsRunOver}
pub use Rattle.raft_table.specs.Marks.{Mark, is_refused_over, table_over, table_over_older, there_if}
unfoldable pub use Rattle.raft_table.specs.Marks.{entries_within}
pub use Rattle.raft_table.specs.Merge.{IsTableMergeFault}
pub use Rattle.raft_table.specs.Overlay.{IsOverlayFault, kept_if, overlay_under}
pub use Rattle.raft_table.specs.Queues.{is_same}
pub use Rattle.raft_table.specs.Start.{entries_after_replay, leaves_hole, starts_in_front}
pub use Rattle.raft_table.specs.Steps.{Clean, Del, Run, Step, after_step}
pub use Rattle.raft_table.specs.Table.{IsTablePutFault, with_pair, with_pair_deleted}
pub use Rattle.raft_table.specs.TableEntries.{AreTableEntries}
unfoldable pub use Rattle.raft_table.specs.TableEntries.{below, is_placed_in}
pub use Rattle.raft_table.specs.TakenSteps.{IsReplayFault, IsStepFault, IsUnmixed, counts_after_step}
