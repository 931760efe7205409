-- What the contracts of this crate import of std, of the crates below and of the definitions, in one place.
pub use Rattle.std.specs.Iterator.{Drains, IsFinite, Yields}
pub use Rattle.std.specs.List.{FoldsTo, IsDistinct}
pub use Rattle.std.specs.Map.{keys_of, lookup}
pub use Rattle.raft_base.specs.Corruption.{IsCorruption}
pub use Rattle.raft_base.specs.Runs.{IsRun, end_of, entries_of_block}
pub use Rattle.raft_base.specs.declared.entry_index.EntryIndex.{EntryIndex}
pub use Rattle.raft_base.specs.declared.errors.Error.{Error}
pub use Rattle.raft_base.specs.declared.errors.Error.TheVariants.{Memory}
pub use Rattle.raft_base.specs.declared.pipe_log.LogQueue.{LogQueue}
pub use Rattle.raft_base.specs.declared.pipe_log.LogQueue.TheVariants.{Append, Rewrite}
pub use Rattle.raft_records.specs.Item.{Item, command_item, content_of, entries_item, item_of, pair, pair_of}
pub use Rattle.raft_records.specs.LogBatch.{empty_batch}
pub use Rattle.raft_records.specs.declared.command.Command.TheVariants.{Clean}
pub use Rattle.raft_records.specs.declared.log_item.LogItem.{LogItem}
pub use Rattle.raft_table.specs.Change.{AreCountsAfter, IsAllowed, IsAnswer, IsChangeFault, after_change}
pub use Rattle.raft_table.specs.Counts.{Counts, live}
pub use Rattle.raft_table.specs.KeyValues.{file_at}
pub use Rattle.raft_table.specs.Queues.{other}
pub use Rattle.raft_table.specs.Rewriting.{IsRewriteFault, counts_after_rewrite, entries_after_rewrite}
pub use Rattle.raft_table.specs.RunShown.{run_shown}
pub use Rattle.raft_table.specs.Start.{IsTableRunFault, counts_with_run, entries_after_append}
pub use Rattle.raft_table.specs.StepShown.{step_shown}
pub use Rattle.raft_table.specs.Steps.{Put, table_of}
pub use Rattle.raft_table.specs.Table.{IsCounted, IsKeyRewriteFault, IsRecounted, Table, after_append, after_replay, after_rewrite, after_rewrite_key, empty_table, leaves_append, live_of, with_rewritten_key, with_table_added}
pub use Rattle.raft_table.specs.Table.{with_table_deleted}
pub use Rattle.raft_table.specs.TableEntries.{IsRunIn, below, from, start_of}
pub use Rattle.raft_table.specs.TakenSteps.{IsStepOfQueue}
pub use Rattle.raft_history.specs.Records.{total}
pub use Rattle.raft_history.specs.RegionSteps.{Tables}
pub use Rattle.raft_accessor.specs.Accessor.{Accessor, AreCountsOf, live_in, live_in_all, slot_of, table_in}
pub use Rattle.raft_accessor.specs.AccessorCalls.{IsTableChanged, IsTableMade, IsTableTaken, IsWritten, lent_as}
pub use Rattle.raft_accessor.specs.AppendChecks.{AreAccepted, AreAcceptedOncePlaced, AreRefusedOncePlaced, IsAppendCheckFault}
pub use Rattle.raft_accessor.specs.Extents.{AreBefore, IsExtentOf, IsFirst, IsNextFault, IsPairAccepted, IsPairCheckFault, IsRunCheckFault, TakesNext, TakesRun, commanded, known_extents}
pub use Rattle.raft_accessor.specs.ItemWrites.{IsItemWritten, IsReplayed, pair_change}
pub use Rattle.raft_accessor.specs.Merges.{AreMerged, AreOthersLeft, AreTablesLeft, AreTablesMerged, IsAltered, IsAppendedFault, IsFaultBeside, IsMergeRefusal, IsMergedIn, IsNewerFault, IsTableMerged, MayAlter, with_appended, with_neighbor}
pub use Rattle.raft_accessor.specs.Merges.{with_newer}
pub use Rattle.raft_accessor.specs.SlotTables.{IsSlotTaken, counts_of, with_all_deleted}
pub use Rattle.raft_accessor.specs.Slots.{AreSlots, together}
pub use Rattle.raft_accessor.specs.TableJoins.{IsPut, IsTableJoined}
pub use Rattle.raft_accessor.specs.TableOverlays.{IsPutOver, IsTableOverlaid}
pub use Rattle.raft_accessor.specs.TableSteps.{IsChangeTried, IsRunPut, IsRunTried, IsStepTaken}
pub use Rattle.raft_accessor.specs.Updates.{BecomesOutcome, IsInserted, IsTakenOut, IsUpdated, MayChange}
pub use Rattle.raft_accessor.specs.Walks.{Collects, KeepsId, Makes}
pub use Rattle.raft_accessor.specs.Writes.{Appending, AreItemsRefused, AreWritten, IsWriteFault, Replaying, Rewriting}
pub use Rattle.raft_accessor.specs.WritingShown.{writing_shown}
