-- What the contracts of this crate import of std, of the crates below and of the definitions, in one place.
pub use Rattle.std.specs.List.{AllByRecursion, list_any}
pub use Rattle.raft_base.specs.declared.entry_index.EntryIndex.{EntryIndex}
pub use Rattle.raft_base.specs.declared.errors.Error.{Error}
pub use Rattle.raft_base.specs.declared.pipe_log.FileId.{FileId}
pub use Rattle.raft_base.specs.declared.pipe_log.LogQueue.{LogQueue}
pub use Rattle.raft_base.specs.declared.pipe_log.LogQueue.TheVariants.{Append, Rewrite}
pub use Rattle.raft_records.specs.DecodedIn.{AreDecodedIn, IsDecodedIn}
pub use Rattle.raft_records.specs.Item.{Item, content_of, entries, item_of, pair, pair_of}
pub use Rattle.raft_table.specs.LastWord.{last_entry, last_pair}
pub use Rattle.raft_table.specs.Overlay.{overlaid_table}
pub use Rattle.raft_table.specs.StepShown.{step_shown}
pub use Rattle.raft_table.specs.Steps.{after, table_of}
pub use Rattle.raft_table.specs.Table.{Table}
pub use Rattle.raft_table.specs.TableEntries.{IsRunIn, entry_at}
pub use Rattle.raft_history.specs.Batches.{BatchSteps, Event, batches}
pub use Rattle.raft_history.specs.BothQueues.{IsReadingOfBoth}
pub use Rattle.raft_history.specs.Contexts.{AreExact, AreMerged, AreRegionsRefused, Context, IsExactFor, StandsFor, Suits, files_of, follows, merged_context, merged_with, new_context, taken_in}
pub use Rattle.raft_history.specs.Effects.{EachApart, Effect, EndsNoEffect, effects, is_named, steps_of, without_group}
pub use Rattle.raft_history.specs.GoingOn.{PlacedItemsAreInFile, ReadingGoesOn, SoundHistoryGoesOn}
pub use Rattle.raft_history.specs.Histories.{Apart, AreInFile, FilesFrom, HaveStatus, IsOfQueue, IsOneReading, IsSmall, IsSoundIn, IsStepOfQueue, Sound}
pub use Rattle.raft_history.specs.Joins.{AreJoined, StandForSteps, overlaid_region}
pub use Rattle.raft_history.specs.Kept.{IsAtMost, kept_by, kept_of}
pub use Rattle.raft_history.specs.LeastFiles.{AreLeastFiles, HasNoneBelow}
pub use Rattle.raft_history.specs.MarkedRegions.{MarkedRegions, no_regions, region_steps_of_whole, region_steps_of_wholes, regions_after}
pub use Rattle.raft_history.specs.Records.{records_in_wholes, waiting_records}
pub use Rattle.raft_history.specs.RegionStepShown.{item_step, region_step_shown}
pub use Rattle.raft_history.specs.RegionSteps.{RegionStep, Tables, command_step, content_step, names, steps_of_items, steps_on, tables_after}
pub use Rattle.raft_history.specs.ReplayMachine.{event}
pub use Rattle.raft_history.specs.RewrittenRecords.{AreRewrittenFrom, HaveSameRecords}
pub use Rattle.raft_history.specs.Stretches.{AreEffects}
pub use Rattle.raft_history.specs.WaitingGroup.{WholeGroup, group_in, whole_group}
pub use Rattle.raft_history.specs.WaitingGroups.{WaitingGroups, groups_after, groups_in, joined_groups, known_of, names_by_batch, steps_by_batch, steps_of_wholes, whole_groups}
