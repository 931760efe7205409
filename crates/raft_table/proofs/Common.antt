-- What proofs of this crate import of std, of the definitions and of the crates below, in one place.
pub use Rattle.std.proofs.Common.{All, Bool, Contains, IsTrue, List, None, Option, Some, [], ap, arith, cond, drop, eq-eqb, eqb, false, filter, get_or, inl, inr, leb, length, ltb, map, max, min, not, of_calls, refl}
pub use Rattle.std.proofs.Common.{reverse, rules, set, slice_index_or, subst, suc, sym, take, true, zero, ℕ, ◌&&◌, ◌*◌, ◌++◌, ◌+◌, ◌-◌, ◌<◌, ◌==◌, ◌^◌, ◌||◌, ◌↔◌, ◌∙◌, ◌∷◌, ◌≡◌, ◌≢◌, ◌≤◌, ◌⊎◌}
pub use Rattle.std.proofs.Math.Bool.{and-true}
pub use Rattle.std.proofs.Math.Nat.{eq-or-lt_of_le}
pub use Rattle.std.proofs.Math.Seq.{drop-append_seam, take-append_seam}
pub use Rattle.std.proofs.lemmas.Bool.{cases_lt, false≢true, leb-false, leb-true, lt-ltb}
pub use Rattle.std.proofs.lemmas.Bool.Decides.{nat_tests}
pub use Rattle.std.proofs.lemmas.List.{append-nil, append_assoc, drop-append-le, drop-take, drop_all, drop_at, drop_min, drop_more, get_or-drop, get_or-take, get_or_default, length-append, length-drop, length-map}
pub use Rattle.std.proofs.lemmas.List.{length-take, length-take-le, map-append, nil_from_length, reverse-append, take-append-drop, take-append-le, take-map, take-take, take_all, take_at, take_min, take_more}
pub use Rattle.std.proofs.lemmas.List.Elements.{All-append, All-cons, All-contains_itself, All-drop, All-map, All-nil, All-take, All-weaker, filter-append, filter_passes, recursion_from_All}
pub use Rattle.std.proofs.lemmas.List.Sorted.{IsPartitionPoint-from_clause, IsPartitionedBy-leb}
pub use Rattle.std.proofs.lemmas.List.Sums.{prefix_len-le-length, prefix_len_passes, sum_by_more}
pub use Rattle.std.proofs.lemmas.Map.Keys.{sorted_head, sorted_tail}
pub use Rattle.std.proofs.lemmas.Option.{option_and_then_some, slice_get_past}
pub use Rattle.std.proofs.lemmas.Result.{IfErr-weaker, err_from_is_err_and, on_ok_weaker}
pub use Rattle.std.specs.BTreeMap.{IsOrdered, insert_entry, is_at, values}
pub use Rattle.std.specs.BTreeMap.Comparable.{le_lt_trans}
pub use Rattle.std.specs.Cmp.{IsTotalOrder, alike_right, eq_by_cmp_equiv}
pub use Rattle.std.specs.Cmp.Lexicographic.{nat_list_cmp_total, slice_cmp}
pub use Rattle.std.specs.FinMap.{FinMap, IsAntisymmetric, find, is_sorted, nat_cmp-IsAntisymmetric, put, same_map, slice_cmp-IsAntisymmetric}
pub use Rattle.std.specs.FinMap.Entries.{below_all, by_order, find-where_key, is_sorted-where_key, where_key}
pub use Rattle.std.specs.Fn.{CalledAtTwo}
pub use Rattle.std.specs.List.{AllByRecursion, list_any, prefix_len, slice_get, take_while}
pub use Rattle.std.specs.List.Sorted.{IsNonDecreasingBy, IsPartitionPoint}
unfoldable pub use Rattle.std.specs.List.Sorted.{IsStrictlySortedBy}
pub use Rattle.std.specs.Map.{keys_of, lookup, remove_entry, set_value, values_of}
pub use Rattle.std.specs.Option.{IsSome, option_and_then, option_copied, option_copied_mut, option_map, option_map_or, option_or}
pub use Rattle.std.specs.Ordering.{eq_by_cmp, is_eq, is_le, is_lt, match_ordering, nat_cmp, ordering_reverse}
pub use Rattle.std.specs.Prelude.{MatchBool, is_some, nat_le, nat_lt}
pub use Rattle.std.specs.Result.{OnOk}
pub use Rattle.std.specs.Vec.{vec_capacity, vec_len}
pub use Rattle.std.specs.VecDeque.{deque_capacity, deque_len}
pub use Rattle.std.specs.VecDeque.Iter.{deque_iter_rest}
pub use Rattle.std.specs.declared.alloc.Global.{Global}
pub use Rattle.std.specs.declared.cmp.Ordering.{Ordering}
pub use Rattle.std.specs.declared.result.Result.{Result}
pub use Rattle.std.specs.declared.vec.Vec.{Vec}
pub use Rattle.raft_base.proofs.ConsecutiveLemmas.{bounded_of, end_bounded, run_of}
pub use Rattle.raft_base.specs.Corruption.{IsCorruption}
pub use Rattle.raft_base.specs.Runs.{IsRun, RisesFrom, entries_of_block}
unfoldable pub use Rattle.raft_base.specs.Runs.{end_of}
pub use Rattle.raft_base.specs.declared.compression_type.CompressionType.{CompressionType}
pub use Rattle.raft_base.specs.declared.entry_index.EntryIndex.{EntryIndex}
pub use Rattle.raft_base.specs.declared.errors.Error.{Error}
pub use Rattle.raft_base.specs.declared.pipe_log.FileBlockHandle.{FileBlockHandle}
pub use Rattle.raft_base.specs.declared.pipe_log.FileId.{FileId}
pub use Rattle.raft_base.specs.declared.pipe_log.LogQueue.{LogQueue}
pub use Rattle.raft_base.specs.declared.pipe_log.LogQueue.TheVariants.{Append, Rewrite}
pub use Rattle.raft_table.specs.BlockWords.{AreKept, AreStarts, IsAt, IsIndexOf, IsPart, count, first_of_last, first_spans, joined_blocks, seam, spans_of, starts_of, with_spans, with_spans_behind, without_first_of_first}
pub use Rattle.raft_table.specs.BlockWords.{without_first_spans, without_span}
pub use Rattle.raft_table.specs.Blocks.{AreDistinctBlocks, BlockSpans, Differs, block_spans, blocks_shown, entries_in_blocks}
pub use Rattle.raft_table.specs.Counts.{Counts, live, with_added, with_deleted}
pub use Rattle.raft_table.specs.Fetches.{Compacted, Empty, FetchesWithin, Found, IsFetchFault, IsLimitCount, NotFound, appended_before, are_same_places, block_count, change_count, entry_seq, is_same_place, is_too_many}
pub use Rattle.raft_table.specs.Fetches.{range_answer, total_len}
pub use Rattle.raft_table.specs.KeySets.{KeySet}
unfoldable pub use Rattle.raft_table.specs.KeySets.{without}
pub use Rattle.raft_table.specs.KeyValueView.{IsOrderedAndCounted, keys_shown, stored_of}
pub use Rattle.raft_table.specs.KeyValues.{Keys, Stored, file_at, file_weight, is_up_to, key_value, least, lesser, moved_to, pair_count, pairs_over, pairs_shown, pairs_up_to, seqs_in, value_at, with_moved, with_pairs}
pub use Rattle.raft_table.specs.LastWord.{is_same_key, last_entry, last_pair, last_that, said_of_index, said_of_key, speaks_of_index, speaks_of_key}
pub use Rattle.raft_table.specs.MarkFits.{AreFromCut, BarsIn, BarsStaying, EndsAtCut, Fits, FitsCut, FitsRun, IsBarring, IsBelow, IsNotAbove, LiesWithin}
pub use Rattle.raft_table.specs.MarkJoins.{at_most_bound, end_at_reach, fresh, is_detached, is_settled, joined_at, joined_deleted, joined_first, joined_later, joined_mark, joined_uncleaned, mark_of, narrowed_bars}
pub use Rattle.raft_table.specs.MarkJoins.{own_of}
pub use Rattle.raft_table.specs.MarkedJoins.{IsRunOver, left_by}
pub use Rattle.raft_table.specs.Marks.{Mark, atomic_group_over, entries_over, is_barred, is_missed, is_refused_over, is_there_over, is_under, keys_over, misses, older_entries, table_over, table_over_older, there_if}
unfoldable pub use Rattle.raft_table.specs.Marks.{entries_within}
pub use Rattle.raft_table.specs.Merge.{IsTableMergeFault, after_merge, newer_atomic_group, with_newer_atomic_group}
pub use Rattle.raft_table.specs.Overlaps.{AreDisjoint, IsOverlap}
pub use Rattle.raft_table.specs.Overlay.{HoldsDeleted, IsExactMark, deleted_of, greatest_compaction, has_clean, is_unjoined, least_cut, overlay, overlay_under, rewritten_within}
pub use Rattle.raft_table.specs.Queues.{count_in, is_same, of_queue, other}
pub use Rattle.raft_table.specs.Rewriting.{IsRewriteFault, MovesPlacesAlone, counts_after_rewrite, entries_after_rewrite, indexes_of, is_misplaced, is_placed_before, may_move, moved_count, newly_rewritten, overlap}
pub use Rattle.raft_table.specs.Rewriting.{rewritten_from, with_places, with_rewritten}
pub use Rattle.raft_table.specs.RunShown.{run_shown}
pub use Rattle.raft_table.specs.Scan.{IsDivided, VisitsUntilFalse, is_below, is_between, is_forward, is_from, pairs_between}
pub use Rattle.raft_table.specs.Stands.{Stands}
pub use Rattle.raft_table.specs.Start.{IsTableRunFault, counts_with_run, counts_without, entries_after_append, entries_after_replay, leaves_hole, replaced_by, starts_in_front}
pub use Rattle.raft_table.specs.StartOf.{IsKeptUnder, IsStart}
pub use Rattle.raft_table.specs.Steps.{AreSteps, AtomicGroup, Clean, Compact, Del, IsStep, IsTableOf, Put, Run, Step, Truncate, after, after_step, table_of}
pub use Rattle.raft_table.specs.Table.{MovesKeyAlone, Table, empty_table, live_of, with_pair}
pub use Rattle.raft_table.specs.TableEntries.{AreCounted, AreRecounted, AreTableEntries, IsRunIn, RewrittenInFront, StandsBehind, entry_at, entry_count, start_of}
unfoldable pub use Rattle.raft_table.specs.TableEntries.{below, entries_between, from, is_placed_in, placed_in}
pub use Rattle.raft_table.specs.TableView.{table_shown}
pub use Rattle.raft_table.specs.Untruncated.{AreUntruncated, reaching_within}
pub use Rattle.raft_table.specs.declared.memtable.block.Block.{Block}
pub use Rattle.raft_table.specs.declared.memtable.entries.Overlap.{Overlap}
pub use Rattle.raft_table.specs.declared.memtable.key_values.StoredValue.{StoredValue}
