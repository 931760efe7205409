-- What the contracts of this crate import of std, of the crate below and of the definitions, in one place.
pub use Rattle.std.specs.Cmp.Lexicographic.{slice_cmp}
pub use Rattle.std.specs.Fn.{CalledAtTwo}
pub use Rattle.std.specs.List.{AllByRecursion, prefix_len, slice_get}
pub use Rattle.std.specs.List.Sorted.{IsNonDecreasingBy, IsStrictlySortedBy}
pub use Rattle.std.specs.Option.{option_copied, option_map, option_or}
pub use Rattle.std.specs.Ordering.{nat_cmp}
pub use Rattle.std.specs.Vec.{vec_capacity, vec_len}
pub use Rattle.std.specs.VecDeque.{deque_capacity, deque_len}
pub use Rattle.raft_base.specs.Corruption.{IsCorruption}
pub use Rattle.raft_base.specs.Runs.{IsRun, RisesFrom, end_of, entries_of_block}
pub use Rattle.raft_base.specs.declared.entry_index.EntryIndex.{EntryIndex}
pub use Rattle.raft_base.specs.declared.errors.Error.{Error}
pub use Rattle.raft_base.specs.declared.pipe_log.LogQueue.{LogQueue}
pub use Rattle.raft_base.specs.declared.pipe_log.LogQueue.TheVariants.{Append, Rewrite}
pub use Rattle.raft_table.specs.BlockWords.{AreStarts, IsAt, IsIndexOf, IsPart, count, first_of_last, joined_blocks, seam, shown, spans_of, starts_of, with_spans, without_first_of_first, without_span}
pub use Rattle.raft_table.specs.Blocks.{AreDistinctBlocks, BlockSpans, block_spans, blocks_shown, entries_in_blocks}
pub use Rattle.raft_table.specs.Change.{AreCountsAfter, IsAllowed, IsAnswer, IsChangeFault, IsListFault, after_change}
pub use Rattle.raft_table.specs.Counts.{Counts, after_refusal, live, with_added, with_deleted, without_deleted}
pub use Rattle.raft_table.specs.Fetches.{Fetches, FetchesWithin, Found, IsFetchFault, IsLimitCount, appended_before, block_count, entry_seq, first_entry_seq, is_some_before, range_answer, total_len}
pub use Rattle.raft_table.specs.Holes.{hole_text, hole_text_above, hole_text_from}
pub use Rattle.raft_table.specs.KeySets.{without}
pub use Rattle.raft_table.specs.KeyValues.{ArePartlyOver, Keys, file_at, file_weight, is_up_to, least, lesser, pair_count, pairs_over, pairs_shown, pairs_up_to, seqs_in, value_at, with_moved}
pub use Rattle.raft_table.specs.LastWord.{last_entry, last_pair}
pub use Rattle.raft_table.specs.Least.{at_most_group_seq, least_of}
pub use Rattle.raft_table.specs.MarkBounds.{with_bounds}
pub use Rattle.raft_table.specs.MarkJoins.{at_most_bound, end_at_reach, fresh, is_detached, is_settled, joined_at, joined_barred, joined_deleted, joined_floor, joined_mark, mark_of, narrowed_bars, own_of}
pub use Rattle.raft_table.specs.MarkedJoins.{IsFaultUnder, IsMarkFault, IsRunOver, left_by}
pub use Rattle.raft_table.specs.Marks.{Mark, entries_within, is_barred, is_missed, is_refused_over, misses, table_over, table_over_older}
pub use Rattle.raft_table.specs.Merge.{IsTableMergeFault, after_appended, after_merge, after_newer, append_rule, counts_after_merge, counts_with_keys, counts_with_others, joint_queue, newer_atomic_group}
pub use Rattle.raft_table.specs.Overlaps.{AreDisjoint, IsOverlap}
pub use Rattle.raft_table.specs.Overlay.{HoldsDeleted, IsExactMark, IsOverlayFault, deleted_of, greatest_compaction, has_clean, is_unjoined, least_cut, overlay, overlay_under, rewritten_within}
pub use Rattle.raft_table.specs.Queues.{count_in, of_queue, other}
pub use Rattle.raft_table.specs.Rewriting.{IsRewriteFault, MovesPlacesAlone, counts_after_rewrite, entries_after_rewrite, is_misplaced, may_move, moved_count, newly_rewritten, overlap, with_rewritten}
pub use Rattle.raft_table.specs.RunShown.{run_shown}
pub use Rattle.raft_table.specs.Scan.{IsDivided, VisitsUntilFalse, is_below, is_between, is_forward, is_from, pairs_between}
pub use Rattle.raft_table.specs.Stands.{Stands}
pub use Rattle.raft_table.specs.Start.{IsTableRunFault, counts_with_run, counts_without, entries_after_append, entries_after_replay, leaves_hole}
pub use Rattle.raft_table.specs.StartOf.{IsKeptUnder, IsStart}
pub use Rattle.raft_table.specs.StepShown.{step_shown}
pub use Rattle.raft_table.specs.Steps.{AreSteps, Clean, IsStep, IsTableOf, Run, Step, after, after_step, table_of}
pub use Rattle.raft_table.specs.Table.{IsCounted, IsKeyRewriteFault, IsRecounted, IsTablePutFault, MovesKeyAlone, Table, after_append, after_replay, after_rewrite, after_rewrite_key, empty_table, leaves_append, live_of, with_pair}
pub use Rattle.raft_table.specs.Table.{with_pair_deleted, with_rewritten_key, with_table_added, with_table_deleted}
pub use Rattle.raft_table.specs.TableEntries.{AreCounted, AreRecounted, AreTableEntries, IsRunIn, StandsBehind, below, entries_between, entry_at, entry_count, from, is_placed_in, placed_in, start_of}
pub use Rattle.raft_table.specs.TakenSteps.{IsStepFault, IsStepOfQueue, IsUnmixed, LeavesTable, counts_after_step}
pub use Rattle.raft_table.specs.Untruncated.{AreUntruncated, reaching_within}
pub use Rattle.raft_table.specs.declared.memtable.block.Block.{Block}
