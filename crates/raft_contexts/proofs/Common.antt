-- What proofs of this crate import of std, of the definitions and of the crates below, in one place.
pub use lib.Dec.{T}
pub use Rattle.std.proofs.Common.{Bool, Err, List, MatchBool, MutBor, None, Ok, Option, Result, Some, [], add-one, ap, append-nil, append_assoc, arith, cond, drop, drop-cons, eqb, false, filter, get_or, if◌then◌else◌, inl, inr, length, ltb}
pub use Rattle.std.proofs.Common.{map, max, nat_eq, not, refl, replicate, rules, slice_index_or, slice_set, subst, suc, sym, take, true, zero, ℕ, ◌*◌, ◌++◌, ◌+◌, ◌-◌, ◌<◌, ◌==◌, ◌^◌, ◌||◌, ◌∙◌, ◌∷◌, ◌≡◌, ◌≢◌, ◌≤◌, ◌⊎◌}
pub use Rattle.std.proofs.Math.Bool.{or-false}
pub use Rattle.std.proofs.Math.ListN.{drop_of_length-le}
pub use Rattle.std.proofs.lemmas.Bool.{eqb-true, false≢true}
pub use Rattle.std.proofs.lemmas.Bool.Decides.{nat_tests}
pub use Rattle.std.proofs.lemmas.Grind.{flat_map-append}
pub use Rattle.std.proofs.lemmas.Iterator.{YieldsList-from_slice, cases_from_all}
pub use Rattle.std.proofs.lemmas.List.{at_drop_more, drop-drop, length-drop, length-map, length-take, length-take-le, map-append, nil_from_length, replicate_more, set-get_or}
pub use Rattle.std.proofs.lemmas.List.Elements.{All-from_recursion, recursion_from_All}
pub use Rattle.std.proofs.lemmas.Option.{option_and_then_some}
pub use Rattle.std.proofs.lemmas.Result.{IfErr-weaker, IfOk-weaker, err_from_is_err_and, on_err_weaker, on_ok_weaker}
pub use Rattle.std.specs.BTreeMap.{insert_entry, is_at, values}
pub use Rattle.std.specs.Cmp.{alike_right, nat_cmp_total, unsigned_tied}
pub use Rattle.std.specs.Cmp.Lexicographic.{nat_list_cmp_total, slice_cmp}
pub use Rattle.std.specs.FinMap.{find, is_sorted, nat_cmp-IsAntisymmetric, same_map}
pub use Rattle.std.specs.FinMap.Entries.{find-where_key}
pub use Rattle.std.specs.List.{AllByRecursion, AllWithin, HoldsAt, cons_option, list_any}
unfoldable pub use Rattle.std.specs.List.{IsDistinct}
pub use Rattle.std.specs.List.Sorted.{IsStrictlySortedBy}
pub use Rattle.std.specs.Map.{keys_of, lookup, remove_entry, values_of}
pub use Rattle.std.specs.Option.{is_some, option_and_then, option_copied_mut, option_map, option_or, unwrap_or}
pub use Rattle.std.specs.Ordering.{eq_by_cmp, is_eq, nat_cmp}
pub use Rattle.std.specs.Prelude.{IsTrue, flat_map, is_none, nat_le, nat_lt, option_to_list}
pub use Rattle.std.specs.Result.{IfErr, OnErr, OnOk}
pub use Rattle.std.specs.Vec.{with_item}
pub use Rattle.std.specs.Vec.Iter.{into_iter_items, into_iter_len}
pub use Rattle.std.specs.declared.alloc.AllocError.{AllocError}
pub use Rattle.raft_accessor.proofs.LiveLemmas.{live-all, live-none, live-remove, live-table_of, live-with, live_of_all, table_live-le}
pub use Rattle.raft_accessor.proofs.MapLemmas.{by_id, entries-empty, eq_self, get_gone, get_left, get_other, get_own, insert_same, insert_twice, none_some, not_same, one_same, one_written, same, self_same, some_is, with_other, with_own}
pub use Rattle.raft_accessor.proofs.MapLemmas.{with_same}
pub use Rattle.raft_accessor.proofs.OrderLemmas.{Once, drop-step, entries-permuted, once-distinct, once-slots, together-permuted}
pub use Rattle.raft_accessor.proofs.RegionTablesLemmas.{same_test}
pub use Rattle.raft_accessor.proofs.SlotLemmas.{IsChangedAt, Map, drop-none, find-both, front-or, get-together, length-set, slots-at, slots-none, together-at, together-empty, together-none}
pub use Rattle.raft_accessor.proofs.SlotTableLemmas.{live-front}
pub use Rattle.raft_accessor.proofs.TotalSums.{added, added-append, added-permuted, len-from, total-from, total-values}
pub use Rattle.raft_accessor.proofs.WriteLemmas.{replay_fault}
pub use Rattle.raft_accessor.specs.Accessor.{Accessor, AreCountsOf, live_in, live_in_all, slot_of, table_in}
pub use Rattle.raft_accessor.specs.Slots.{AreSlots, slot_entries}
unfoldable pub use Rattle.raft_accessor.specs.Slots.{together}
pub use Rattle.raft_accessor.specs.TableOverlays.{IsRunOverlaid}
pub use Rattle.raft_accessor.specs.TableSteps.{IsStepTaken}
pub use Rattle.raft_accessor.specs.Writes.{Appending, IsFor, IsWriteFault, Replaying, Rewriting, after_content, after_items, after_pair, after_rewrite_pair, listed_by, listed_by_items, with_change}
pub use Rattle.raft_base.specs.NoEntry.{no_entry}
pub use Rattle.raft_base.specs.Runs.{IsConsecutive, IsRun, RisesFrom, entries_of_block}
unfoldable pub use Rattle.raft_base.specs.Runs.{end_of}
pub use Rattle.raft_base.specs.declared.entry_index.EntryIndex.{EntryIndex}
pub use Rattle.raft_base.specs.declared.errors.Error.{Error}
pub use Rattle.raft_base.specs.declared.pipe_log.FileBlockHandle.{FileBlockHandle}
pub use Rattle.raft_base.specs.declared.pipe_log.FileId.{FileId}
pub use Rattle.raft_base.specs.declared.pipe_log.LogQueue.{LogQueue}
pub use Rattle.raft_base.specs.declared.pipe_log.LogQueue.TheVariants.{Append, Rewrite}
pub use Rattle.raft_contexts.specs.BatchChecks.{HaveNoMarker, marker_found}
pub use Rattle.raft_contexts.specs.FileRanges.{ranges_shown}
pub use Rattle.raft_contexts.specs.ImpliedMarks.{absent_in, count_absent, implied_mark}
unfoldable pub use Rattle.raft_contexts.specs.ImpliedMarks.{all_marks, implied_marks}
pub use Rattle.raft_contexts.specs.KeptShown.{kept_shown}
pub use Rattle.raft_contexts.specs.MarkedTables.{AreStepsOfQueue, AreStepsTaken, IsStepsFault, first_index, is_put, one_step, regions_in}
pub use Rattle.raft_contexts.specs.MovedPlaces.{AreMovedEntries, AreMovedTables, AreRuns, IsMovedEntry, IsMovedPair, IsMovedTable, ReadingLeavesRuns}
pub use Rattle.raft_contexts.specs.OverlaidContext.{AreOfBothQueues, IsMergeAppendFault, IsOfBothExactly, IsOverlaidWith, overlaid_with}
pub use Rattle.raft_contexts.specs.ReadItems.{AppendedItemsAreRead}
pub use Rattle.raft_contexts.specs.ReadStates.{AreAlone, AreOfSteps, AreWholesTaken, CanTakeEffect, CanTakeEffectIfAny, IsOfHistory, IsTakenIn, context_in, shown_with}
pub use Rattle.raft_contexts.specs.RecoverContext.{AreNeighbors, HasRead, HasReadExactly, IsBatchFault, IsBatchTaken, IsMergedWith, IsNeighborFault, MayFollow, RecoverContext, reading_on, records_held}
pub use Rattle.raft_contexts.specs.RegionJoins.{AreOthersKept, AreRunsOver, AreTablesLeft, IsJoinFault, IsSlotFault}
pub use Rattle.raft_contexts.specs.RegionMarks.{ChangesMark, IsImpliedStill, IsMarkUpdated, IsOneUpdated, IsRunKept, MarkChange, MayChangeMark, mark_in, run_at, with_slots}
pub use Rattle.raft_contexts.specs.RegionMarksView.{AreMarksKept, marks_shown}
pub use Rattle.raft_contexts.specs.RegionOverlays.{AreRunsOverlaid, AreTooMany}
pub use Rattle.raft_contexts.specs.SlotMarksView.{slot_shown}
pub use Rattle.raft_contexts.specs.SmallMarkView.{form_shown}
pub use Rattle.raft_contexts.specs.StepCounts.{AreCountsAfterSteps, counts_after_step}
pub use Rattle.raft_contexts.specs.WaitingShown.{group_shown, whole_shown}
pub use Rattle.raft_contexts.specs.declared.context_stage.ContextStage.{ContextStage}
pub use Rattle.raft_contexts.specs.declared.context_stage.ContextStage.TheVariants.{Overlaid, Reading}
pub use Rattle.raft_contexts.specs.declared.kept.Kept.{Kept}
pub use Rattle.raft_contexts.specs.declared.marked_tables.MarkedTables.{MarkedTables}
pub use Rattle.raft_contexts.specs.declared.read_state.ReadState.{ReadState}
pub use Rattle.raft_history.proofs.ContextLaws.{Merges, exact_reading, no_steps, regions_exact, regions_stand, regions_unsound}
pub use Rattle.raft_history.proofs.EffectLemmas.{each-append, each_left, each_markers, each_open, each_right, each_weaker}
pub use Rattle.raft_history.proofs.KeptLaws.{kept_at_most}
pub use Rattle.raft_history.proofs.KnownLemmas.{each_known, keys_distinct, known-groups_in, steps_across, tied}
pub use Rattle.raft_history.proofs.MapLemmas.{by_region, eqb_self, held_other}
pub use Rattle.raft_history.proofs.MoreLemmas.{groups_in-append, groups_in-one, steps-one}
pub use Rattle.raft_history.proofs.NewLaws.{new_exact}
pub use Rattle.raft_history.proofs.OptionLemmas.{map_none}
pub use Rattle.raft_history.proofs.QueueLemmas.{Holds, items_in_queue, known_holds, whole_in_queue}
pub use Rattle.raft_history.proofs.ReadItemLemmas.{items_in_file}
pub use Rattle.raft_history.proofs.ReadLemmas.{holds_none}
pub use Rattle.raft_history.proofs.RecordLemmas.{one_weight, read_records, whole_group-records, wholes-records}
pub use Rattle.raft_history.proofs.RegionLaws.{overlay_by_steps, stand_after, stand_joined}
pub use Rattle.raft_history.proofs.SoundLemmas.{files-back, files_follow, follow_files, steps_good}
pub use Rattle.raft_history.proofs.StepListLemmas.{names_cons, names_none}
pub use Rattle.raft_history.proofs.StretchOfHistory.{of_back, of_front, size-append, size-one}
pub use Rattle.raft_history.proofs.TakenLaws.{IsNextEvent, next_sound, taken_exact, taken_none, taken_stands}
pub use Rattle.raft_history.proofs.TotalLemmas.{found, total-at_most, total-both, total-insert, total-none, total-ones}
pub use Rattle.raft_history.proofs.WaitingLemmas.{joined_weight, merged_waiting, waiting_known, weight}
pub use Rattle.raft_history.proofs.WithoutMarkers.{named-steps}
pub use Rattle.raft_history.proofs.Words.{AreInFiles, ArePlacesInFile, with_step}
pub use Rattle.raft_history.specs.Batches.{BatchSteps, Event, GroupMarker, batch_of, batch_with_marker, batches, marker_in}
pub use Rattle.raft_history.specs.BothQueues.{IsReadingOfBoth}
pub use Rattle.raft_history.specs.Contexts.{AreExact, AreMerged, Context, FileRange, IsExactFor, StandsFor, StandsIn, Suits, completed_steps, files_of, follows, joined_files, merged_with, new_context, region_steps_or, taken_in, taken_with}
pub use Rattle.raft_history.specs.Effects.{EachApart, Numbered, effects, markers_of, numbered_from, open_stretch, steps_of}
pub use Rattle.raft_history.specs.Histories.{Apart, AreInFile, FilesFrom, HaveStatus, IsInFile, IsOfQueue, IsOneReading, IsSmall, IsSoundIn, IsStepOfQueue, Sound, cleaned_in, last_from, records_in, records_of}
pub use Rattle.raft_history.specs.Joins.{AreJoined, AreOverlaid, IsJoinRefused, StandForSteps, overlaid_region}
pub use Rattle.raft_history.specs.Kept.{IsAtMost, kept_by, kept_of}
pub use Rattle.raft_history.specs.MarkedRegions.{MarkedRegion, MarkedRegions, Marks, joined_marked, joined_region, named_regions, no_regions, on_each, region_in, region_steps_of_whole, region_steps_of_wholes, regions_after, stepped_region}
pub use Rattle.raft_history.specs.MarkedRegions.{with_region}
pub use Rattle.raft_history.specs.Records.{all_records, records_or, table_records, total_of, waiting_records}
unfoldable pub use Rattle.raft_history.specs.Records.{total}
pub use Rattle.raft_history.specs.RegionStepShown.{item_step, region_step_shown}
pub use Rattle.raft_history.specs.RegionSteps.{RegionStep, Tables, cleaned_by, cleaned_by_steps, content_step, names, pair_step, steps_of_items, tables_after, with_table}
pub use Rattle.raft_history.specs.ReplayMachine.{event}
pub use Rattle.raft_history.specs.WaitingGroup.{Begun, Ended, GroupFront, Open, OpenStretch, WaitingGroup, WholeGroup, front_behind, front_by, group_in, joined_group, led_by, one_marker, stretch_of, whole_group, whole_group_by, whole_of}
pub use Rattle.raft_history.specs.WaitingGroup.{without_marker}
unfoldable pub use Rattle.raft_history.specs.WaitingGroup.{front_of}
pub use Rattle.raft_history.specs.WaitingGroups.{WaitingGroups, front_steps, group_by, groups_after, held_steps, joined_groups, known_of, steps_of_wholes, steps_or, stretch_steps, waiting_steps, whole_groups, whole_with}
unfoldable pub use Rattle.raft_history.specs.WaitingGroups.{groups_in}
pub use Rattle.raft_records.proofs.GroupLemmas.{marker_is, one_byte}
pub use Rattle.raft_records.specs.DecodedIn.{AreDecodedIn, IsDecodedIn, IsPlaceInFile}
pub use Rattle.raft_records.specs.Group.{IsGroupMarkerRead, is_reserved, marker_byte, status_byte, status_of}
unfoldable pub use Rattle.raft_records.specs.Group.{first_marker}
pub use Rattle.raft_records.specs.Item.{Content, Item, command, content_of, entries, item_of, pair}
pub use Rattle.raft_records.specs.ReadBatch.{content_shown, item_shown, items_shown, spans_of, spans_taken}
pub use Rattle.raft_records.specs.declared.atomic_group.AtomicGroupStatus.{AtomicGroupStatus}
pub use Rattle.raft_records.specs.declared.atomic_group.AtomicGroupStatus.TheVariants.{Begin, End, Middle}
pub use Rattle.raft_records.specs.declared.key_value.OpType.{OpType}
pub use Rattle.raft_records.specs.declared.log_item.LogItem.{LogItem}
pub use Rattle.raft_records.specs.declared.read_batch.ReadItem.{ReadItem}
pub use Rattle.raft_table.proofs.FromCutLemmas.{run_stays}
pub use Rattle.raft_table.proofs.KeyValueCounts.{pair_count-insert, pair_count-le-len, pair_count-remove}
pub use Rattle.raft_table.proofs.MarkEntries.{accepted}
pub use Rattle.raft_table.proofs.MarkExact.{joined_fresh}
pub use Rattle.raft_table.proofs.MarkWords.{end_of-nil, within-below, within-from, within-whole}
pub use Rattle.raft_table.proofs.OverlayLemmas.{overlay_run}
pub use Rattle.raft_table.proofs.PlaceLemmas.{each_placed, entries_in_one}
pub use Rattle.raft_table.proofs.RegionLemmas.{stands_run}
pub use Rattle.raft_table.proofs.RunCounts.{entry_count-below, entry_count-le, replayed-in}
pub use Rattle.raft_table.proofs.RunLemmas.{RisesFrom-drop, RisesFrom-take, below_take, end_of-run, from_drop, hole_end, rises}
pub use Rattle.raft_table.proofs.Shown.{equal, find-below, find-shown, first_of_both, is_sorted-shown, second_of_both, shown, shown-insert_entry, shown-remove_entry}
pub use Rattle.raft_table.proofs.StepMarkLemmas.{run_added, run_covered}
pub use Rattle.raft_table.proofs.TableLemmas.{count_in_own}
pub use Rattle.raft_table.specs.Counts.{Counts, live}
pub use Rattle.raft_table.specs.KeyValues.{Keys, Stored, file_at, file_weight, moved_to, with_moved}
pub use Rattle.raft_table.specs.MarkJoins.{end_at_reach, fresh, joined_at, joined_mark, mark_of}
pub use Rattle.raft_table.specs.MarkedJoins.{IsFaultUnder, IsRunOver}
pub use Rattle.raft_table.specs.Marks.{Mark, atomic_group_over, entries_over, entries_within, is_there_over, keys_over, misses, table_over, table_over_older, there_if}
pub use Rattle.raft_table.specs.Overlay.{IsOverlayFault}
pub use Rattle.raft_table.specs.Queues.{count_in, is_same, other}
pub use Rattle.raft_table.specs.Rewriting.{entries_after_rewrite, may_move, moved_count, overlap, rewritten_from, with_places}
pub use Rattle.raft_table.specs.Stands.{Stands}
pub use Rattle.raft_table.specs.Start.{entries_after_append, entries_after_replay, leaves_hole, starts_in_front}
pub use Rattle.raft_table.specs.StepShown.{step_shown}
pub use Rattle.raft_table.specs.Steps.{AtomicGroup, Clean, Compact, Del, Put, Run, Step, Truncate, after, after_step, table_of}
pub use Rattle.raft_table.specs.Table.{IsTablePutFault, Table, after_replay, live_of, passes_gate, rewritten_in, rewritten_pair, with_pair}
pub use Rattle.raft_table.specs.TableEntries.{IsRunIn, entry_count, is_placed_in, start_of}
unfoldable pub use Rattle.raft_table.specs.TableEntries.{below, from}
pub use Rattle.raft_table.specs.TakenSteps.{IsStepFault}
