-- What the proofs of functions import of std, of the definitions and of the lemmas, in one place.
pub use Rattle.raft_table.proofs.Common.{Append, AreStarts, AreTableEntries, Block, BlockSpans, Bool, CalledAtTwo, Counts, EntryIndex, Error, FileBlockHandle, Found, IfErr-weaker, IsAt, IsCorruption, IsFetchFault, IsOrdered}
pub use Rattle.raft_table.proofs.Common.{IsPartitionPoint, IsPartitionPoint-from_clause, IsPartitionedBy-leb, IsRewriteFault, IsRunIn, IsStart, List, LogQueue, Mark, MatchBool, MovesPlacesAlone, None, OnOk, Option, Result, Rewrite}
pub use Rattle.raft_table.proofs.Common.{RisesFrom, Some, Table, VisitsUntilFalse, [], after_merge, ap, append-nil, append_assoc, arith, block_spans, blocks_shown, cases_lt, count, deque_capacity, deque_iter_rest, deque_len, drop}
pub use Rattle.raft_table.proofs.Common.{drop_all, empty_table, end_at_reach, end_bounded, end_of, entries_after_rewrite, entries_in_blocks, entries_of_block, entries_within, eqb, err_from_is_err_and, false, file_at, file_weight, filter}
pub use Rattle.raft_table.proofs.Common.{first_of_last, fresh, get_or, get_or_default, inl, inr, is_between, is_le, is_placed_before, is_same, is_too_many, is_up_to, joined_at, joined_blocks, keys_shown, least, leb, leb-false}
pub use Rattle.raft_table.proofs.Common.{leb-true, left_by, length, length-append, length-drop, length-map, length-take, length-take-le, lesser, live, live_of, lookup, ltb, map, map-append, may_move, min, misses, nat_cmp, nat_lt, nat_tests}
pub use Rattle.raft_table.proofs.Common.{newer_atomic_group, nil_from_length, of_calls, on_ok_weaker, option_copied, option_copied_mut, option_map, other, pair_count, pairs_over, pairs_shown, prefix_len, prefix_len-le-length, range_answer}
pub use Rattle.raft_table.proofs.Common.{refl, reverse, rules, run_shown, seam, seqs_in, set, slice_cmp, slice_get_past, slice_index_or, spans_of, start_of, starts_of, stored_of, subst, suc, sym, table_of, table_over, table_shown, take}
pub use Rattle.raft_table.proofs.Common.{take-map, take_all, total_len, true, vec_capacity, vec_len, with_moved, with_pairs, with_rewritten, with_spans, without_first_spans, without_span, ℕ, ◌&&◌, ◌*◌, ◌++◌, ◌+◌, ◌-◌, ◌<◌, ◌^◌, ◌∙◌, ◌∷◌}
pub use Rattle.raft_table.proofs.Common.{◌≡◌, ◌≤◌, ◌⊎◌}
unfoldable pub use Rattle.raft_table.proofs.Common.{below, from}
pub use Rattle.raft_table.proofs.AloneLemmas.{key_moves, moved_alone, moved_by_index, none_moved}
pub use Rattle.raft_table.proofs.BlockCuts.{found, front_of, index_of, kept_bounded, kept_cut, kept_drop, kept_facts, kept_front, kept_length, kept_nil, kept_with, part_of, shown_len, starts_dropped, starts_kept, starts_length}
pub use Rattle.raft_table.proofs.BlockCuts.{starts_taken, within_of}
pub use Rattle.raft_table.proofs.BlockJoins.{AreMet, block_at, block_within, drop_front_blocks_shown, keep_front_blocks_shown, met_other, met_same, one_block, pushed_other, pushed_same, replaced_all, replaced_more, rest_set, set_same, shown_at, shown_three, spliced}
pub use Rattle.raft_table.proofs.BlockJoins.{spliced_round, spot_inside}
pub use Rattle.raft_table.proofs.BlockKept.{IsKeptAs, IsPushed, between_fits, blocks_filled, cut_order, joined_fits, joined_some, kept_join, kept_join_few, kept_push, one_left, pushed_count, pushed_fits, pushed_length, put_between}
pub use Rattle.raft_table.proofs.BlockLemmas.{at_start, count_front, count_take_more, entry_at_spot, entry_of, found_some, index_rises, index_some, length-expanded, length-spread, length-starts, rises_expanded, starts_more, walked_more}
pub use Rattle.raft_table.proofs.BlockLemmas.{walked_within}
pub use Rattle.raft_table.proofs.BlockParts.{IsStep, block_count_is, expanded_start, part_set, seq_at_spot, unset_more, walk_goes, walk_len, walk_more, walk_next_block, walk_part, walk_step, walk_stops}
pub use Rattle.raft_table.proofs.CutLemmas.{end_met, end_unmet, kept-fewer, none-fewer, pair_count-empty, within-cut}
pub use Rattle.raft_table.proofs.FetchLemmas.{appended_before_is, fetched_part, limit_more, limit_stops, range_behind, range_below, range_found, range_none}
pub use Rattle.raft_table.proofs.KeyValueCounts.{appended-shown, counted-shown, file-shown, get-shown, has, key_cmp, len-shown, none-shown, pair_count-insert, pair_count-remove, pair_count-with_moved, rewritten-le-len, shown-insert}
pub use Rattle.raft_table.proofs.KeyValueCounts.{shown-none, shown-remove, shown-set_file, shown-unmoved, sound-changed, sound-none}
pub use Rattle.raft_table.proofs.KeyValueLaws.{get-pairs_over, least-found, least-lowest, least-none}
pub use Rattle.raft_table.proofs.KeyValueReads.{Entry, IsFrontPut, below-range, chosen-yes, fetched-shown, files-shown, filter-same, first-shown, len-first, one_more_put, pair_count-first, pairs_over-empty, reverse-chosen-no}
pub use Rattle.raft_table.proofs.KeyValueReads.{reverse-chosen-yes, scanned-backwards, scanned-shown, visit-goes, visit-stops}
pub use Rattle.raft_table.proofs.LastWordLemmas.{appended_stands, entry_with_index-below, entry_with_index-from, last_entry_stands, last_pair_stands, replayed_stands, rewritten_stands}
pub use Rattle.raft_table.proofs.LaterSteps.{untruncated_overlay}
pub use Rattle.raft_table.proofs.MarkEntries.{same_some}
pub use Rattle.raft_table.proofs.MarkExact.{deleted_count, exact_join, exact_one, holds_join, len-set_of, removed, removed-without, set_of, set_of-insert_entry, union-insert, union-swap, union_empty}
pub use Rattle.raft_table.proofs.MarkLaws.{refused_join, stands_alone, stands_join, stands_one}
pub use Rattle.raft_table.proofs.MarkTables.{joined_parts, own_alone}
pub use Rattle.raft_table.proofs.MarkWords.{end_of-nil, within-from}
pub use Rattle.raft_table.proofs.OverlayLemmas.{blank, join_memory, joined_uncleaned, merge_refused, over_left, over_rewritten, overlay_exact, overlay_run, whole_keys, with_group_over}
pub use Rattle.raft_table.proofs.PlaceLemmas.{each_placed, each_queue, entry_count-cut}
pub use Rattle.raft_table.proofs.RewriteLemmas.{IsReplay, Moves, RewritesAt, below_zero, counts_joined, counts_under, few_behind, full_behind, is_replay, middle_sound, moves, none_above, none_below, recounted_apart, recounted_behind}
pub use Rattle.raft_table.proofs.RewriteLemmas.{recounted_is, rewrites_at, rewritten_apart, rewritten_none, run_end, same_deleted, sound_under}
pub use Rattle.raft_table.proofs.RunCounts.{replayed-in}
pub use Rattle.raft_table.proofs.RunLemmas.{entry_at_low, entry_at_past}
pub use Rattle.raft_table.proofs.SizeLemmas.{found_is_whole, visited_are_pairs}
pub use Rattle.raft_table.proofs.SoundLemmas.{AreTableEntries-take, CutCounts, cut_counts, no_first, sound_behind, start_of_front}
pub use Rattle.raft_table.proofs.StartLemmas.{group_of, has_place, may_join, not_nil, run_alone, sound_joined, start_behind, start_in_front, start_joins, start_none}
pub use Rattle.raft_table.proofs.StepMarkLemmas.{run_added, run_covered}
pub use Rattle.raft_table.proofs.TableLemmas.{live_of_empty, pair_counted}
