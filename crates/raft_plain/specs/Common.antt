-- What the contracts of this crate import.
pub use Rattle.std.specs.BTreeMap.{IsOrdered}
pub use Rattle.std.specs.Io.KnownBytes.{Keeps}
pub use Rattle.std.specs.Ordering.{nat_cmp}
pub use Rattle.raft_base.specs.Errors.{IsInvalidArgument}
pub use Rattle.raft_base.specs.Runs.{end_of}
pub use Rattle.raft_base.specs.declared.pipe_log.LogQueue.TheVariants.{Append, Rewrite}
pub use Rattle.raft_records.specs.Group.{first_marker}
pub use Rattle.raft_records.specs.DecodedIn.{AreDecodedIn}
pub use Rattle.raft_records.specs.Item.{item_of}
pub use Rattle.raft_records.specs.Lines.{IsIoError}
pub use Rattle.raft_table.specs.Fetches.{first_entry_seq}
pub use Rattle.raft_table.specs.KeyValues.{least, lesser, pair_count, pairs_over, seqs_in}
pub use Rattle.raft_table.specs.KeySets.{without}
pub use Rattle.raft_table.specs.Least.{at_most_group_seq, least_seq}
pub use Rattle.raft_table.specs.Marks.{entries_within, is_under}
pub use Rattle.raft_table.specs.Overlay.{deleted_of, greatest_compaction, has_clean, is_unjoined, least_cut, overlaid_table, overlay, rewritten_within}
pub use Rattle.raft_table.specs.Queues.{is_same}
pub use Rattle.raft_table.specs.Start.{leaves_hole, entries_after_replay}
pub use Rattle.raft_table.specs.StepShown.{step_shown}
pub use Rattle.raft_table.specs.Steps.{after_step, table_of}
pub use Rattle.raft_table.specs.Table.{empty_table}
pub use Rattle.raft_table.specs.TableEntries.{below, entry_count, from, is_placed_in}
pub use Rattle.raft_history.specs.Batches.{Event, marker_in}
pub use Rattle.raft_history.specs.Histories.{HaveStatus, Sound}
pub use Rattle.raft_history.specs.RegionStepShown.{region_step_shown}
pub use Rattle.raft_history.specs.RegionSteps.{cleaned_by_steps, steps_of_items, steps_on, tables_after, with_table}
pub use Rattle.raft_history.specs.ReplayMachine.{event}
pub use Rattle.raft_accessor.specs.Accessor.{live_in_all}
pub use Rattle.raft_replay.specs.Replays.{HasReplayed, CannotFollow}
pub use Rattle.raft_replay.specs.Segments.{HoldsFrom, EachHolds}
pub use Rattle.raft_replay.specs.Stops.{IsPlaced, IsNothing, StopsIn, StopsAmong}
pub use Rattle.raft_recover.specs.AskedRequests.{file_shown}
pub use Rattle.raft_recover.specs.Files.{FilesCannotBeRead, IsPrintFailure, PrintsRecovered}
pub use Rattle.raft_reading.specs.QueueRead.{whole_file}
pub use Rattle.raft_recover.specs.Recovery.{AreBothRecovered, IsRecovered}
pub use Rattle.raft_recover.specs.TableLines.{IsTextOfTables, PrintsTables, PrintsFrontOfTables, cleaned_line, live_line, range_text, seq_text, table_line}
pub use Rattle.raft_plain.specs.Overlaid.{AreOverlaid, all_tables, recovered_shown}
pub use Rattle.raft_plain.specs.Parts.{ArePartsOf}
pub use Rattle.raft_plain.specs.Plain.{keys_shown, table_shown, tables_shown}
pub use Rattle.raft_plain.specs.Readings.{HasRead, IsReadOf}
