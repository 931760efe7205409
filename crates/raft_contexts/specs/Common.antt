-- What the contracts of this crate import of std, of the crates below and of the definitions, in one place.
pub use Rattle.std.specs.BTreeMap.{IsOrdered, is_at}
pub use Rattle.std.specs.List.{AllByRecursion, IsDistinct, list_any}
pub use Rattle.std.specs.Map.{keys_of, remove_entry}
pub use Rattle.std.specs.Option.{option_map}
pub use Rattle.std.specs.Ordering.{nat_cmp}
pub use Rattle.raft_base.specs.Runs.{IsRun, end_of}
pub use Rattle.raft_base.specs.declared.errors.Error.{Error}
pub use Rattle.raft_base.specs.declared.pipe_log.FileBlockHandle.{FileBlockHandle}
pub use Rattle.raft_base.specs.declared.pipe_log.LogQueue.{LogQueue}
pub use Rattle.raft_base.specs.declared.pipe_log.LogQueue.TheVariants.{Append, Rewrite}
pub use Rattle.raft_records.specs.DecodedIn.{IsDecodedIn, IsPlaceInFile}
pub use Rattle.raft_records.specs.Faults.{IsAnyCorruption}
pub use Rattle.raft_records.specs.Group.{first_marker, marker_byte}
pub use Rattle.raft_records.specs.Item.{Item, content_of, entries, item_of}
pub use Rattle.raft_records.specs.ReadBatch.{content_shown, item_shown, items_shown}
pub use Rattle.raft_table.specs.MarkJoins.{fresh, joined_at, joined_mark, mark_of}
pub use Rattle.raft_table.specs.MarkedJoins.{IsFaultUnder, IsRunOver}
pub use Rattle.raft_table.specs.Marks.{Mark}
pub use Rattle.raft_table.specs.Queues.{other}
pub use Rattle.raft_table.specs.StepShown.{step_shown}
pub use Rattle.raft_table.specs.Steps.{AtomicGroup, table_of}
pub use Rattle.raft_table.specs.Table.{live_of}
pub use Rattle.raft_table.specs.TableEntries.{start_of}
pub use Rattle.raft_history.specs.Batches.{BatchSteps, Event, batch_with_marker}
pub use Rattle.raft_history.specs.BothQueues.{IsReadingOfBoth}
pub use Rattle.raft_history.specs.Contexts.{AreMerged, Suits, files_of, follows, joined_files, merged_with, new_context, region_steps_or}
pub use Rattle.raft_history.specs.Effects.{EachApart, effects, steps_of}
pub use Rattle.raft_history.specs.Histories.{AreInFile, HaveStatus, IsInFile, IsOfQueue, IsOneReading, IsSmall, IsStepOfQueue}
pub use Rattle.raft_history.specs.Joins.{AreJoined, AreOverlaid, StandForSteps}
pub use Rattle.raft_history.specs.Kept.{IsAtMost, kept_by, kept_of}
pub use Rattle.raft_history.specs.MarkedRegions.{joined_region, no_regions, on_each, region_in, region_steps_of_whole, region_steps_of_wholes, regions_after, with_region}
pub use Rattle.raft_history.specs.Records.{all_records, total}
pub use Rattle.raft_history.specs.RegionStepShown.{region_step_shown}
pub use Rattle.raft_history.specs.RegionSteps.{Tables, cleaned_by_steps, names, steps_of_items}
pub use Rattle.raft_history.specs.ReplayMachine.{event}
pub use Rattle.raft_history.specs.WaitingGroup.{Ended, carried_stretch, joined_group, led_by, one_marker, whole_group, whole_of, without_marker}
pub use Rattle.raft_history.specs.WaitingGroups.{front_steps, groups_in, held_steps, joined_groups, known_of, steps_of_wholes, steps_or, waiting_steps, whole_groups}
pub use Rattle.raft_accessor.specs.Accessor.{AreCountsOf, live_in, live_in_all, table_in}
pub use Rattle.raft_accessor.specs.Slots.{AreSlots, together}
pub use Rattle.raft_accessor.specs.Writes.{Replaying, listed_by_items}
pub use Rattle.raft_contexts.specs.BatchChecks.{HaveNoMarker, marker_found}
pub use Rattle.raft_contexts.specs.FileRanges.{range_shown, ranges_shown}
pub use Rattle.raft_contexts.specs.ImpliedMarks.{absent_in, all_marks, count_absent, implied_mark, implied_marks}
pub use Rattle.raft_contexts.specs.KeptShown.{kept_shown}
pub use Rattle.raft_contexts.specs.MarkedTables.{AreStepsOfQueue, AreStepsTaken, IsStepsFault, is_put, one_step, regions_in}
pub use Rattle.raft_contexts.specs.MovedPlaces.{AppendedItemsFollow, AreMovedTables, AreRuns, ReadItemsLeaveRuns, ReadingLeavesRuns, RewritingMovesPlaces}
pub use Rattle.raft_contexts.specs.OverlaidContext.{AreOfBothQueues, IsMergeAppendFault, IsOfBothExactly, IsOverlaidWith, overlaid_with}
pub use Rattle.raft_contexts.specs.ReadItems.{AppendedItemsAreListed, AppendedItemsAreRead, ItemsAreRead}
pub use Rattle.raft_contexts.specs.ReadStates.{AreWholesTaken, CanTakeEffect, CanTakeEffectIfAny, IsOfHistory, IsTakenIn, context_in, shown_with}
pub use Rattle.raft_contexts.specs.RecoverContext.{AreNeighbors, HasRead, HasReadExactly, IsBatchCounted, IsBatchFault, IsBatchTaken, IsMergedWith, IsNeighborFault, MayFollow, blank_context, reading_on, refused_stage}
pub use Rattle.raft_contexts.specs.RegionJoins.{AreMarksJoined, AreRunsOver, IsJoinFault, IsSlotFault}
pub use Rattle.raft_contexts.specs.RegionMarks.{ChangesMark, IsMarkUpdated, IsOneUpdated, IsRunKept, MayChangeMark, mark_in, run_at, with_slots}
pub use Rattle.raft_contexts.specs.RegionOverlays.{AreMarksOverlaid, AreRunsOverlaid, AreTooMany}
pub use Rattle.raft_contexts.specs.StepCounts.{AreCountsAfterSteps, no_counts}
pub use Rattle.raft_contexts.specs.WaitingShown.{front_shown, group_shown, seen_entries, stretch_shown, whole_shown}
pub use Rattle.raft_contexts.specs.declared.context_stage.ContextStage.TheVariants.{Failed, Reading}
