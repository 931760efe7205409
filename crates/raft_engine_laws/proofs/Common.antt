-- What proofs of this crate import of std, of the definitions and of the crates below, in one place.
pub use Rattle.std.proofs.Common.{Bool, IsPermutation, List, None, Option, Some, [], ap, append-nil, append_assoc, arith, cond, drop, eqb, false, if◌then◌else◌, inl, inr, length, length-append, map, max, not, option_map, refl, subst, suc, sym, take, true, ℕ, ◌++◌, ◌+◌, ◌<◌, ◌||◌}
pub use Rattle.std.proofs.Common.{◌↔◌, ◌∙◌, ◌∷◌, ◌≡◌, ◌≢◌, ◌≤◌, ◌⊎◌}
pub use Rattle.std.proofs.lemmas.Bool.{eq-eqb, eqb-true, false≢true}
pub use Rattle.std.proofs.lemmas.Bool.Decides.{nat_tests}
pub use Rattle.std.proofs.lemmas.Cmp.{eq_by_cmp_equiv}
pub use Rattle.std.proofs.lemmas.Grind.{flat_map-append}
pub use Rattle.std.proofs.lemmas.List.{drop_at, nil_from_length, take_at}
pub use Rattle.std.proofs.lemmas.List.Elements.{All-from_recursion, filter-append, recursion_from_All}
pub use Rattle.std.proofs.lemmas.List.Sorted.{All-permutation, IsPermutation-sym}
pub use Rattle.std.proofs.lemmas.Map.Views.{any-filter_same}
pub use Rattle.std.proofs.lemmas.Option.{none-some}
pub use Rattle.std.specs.Cmp.{nat_cmp_total}
pub use Rattle.std.specs.Cmp.Lexicographic.{nat_list_cmp_total, slice_cmp}
pub use Rattle.std.specs.FinMap.{is_sorted}
pub use Rattle.std.specs.FinMap.Entries.{find, is_some-find}
pub use Rattle.std.specs.List.{AllByRecursion, concat, cons_option, list_any, prefix_len, slice_get}
pub use Rattle.std.specs.Option.{option_and_then, option_map_or, option_or}
pub use Rattle.std.specs.Ordering.{eq_by_cmp, is_eq, nat_cmp}
pub use Rattle.std.specs.Prelude.{filter, flat_map, is_some, min, nat_eq, nat_le, nat_lt, ◌&&◌, ◌-◌, ◌==◌, ◌^◌}
pub use Rattle.std.specs.declared.cmp.Ordering.{Ordering}
pub use Rattle.std.specs.declared.cmp.Ordering.TheVariants.{Equal, Greater, Less}
pub use Rattle.raft_accessor.proofs.MapLemmas.{eq_self, none_some, some_is, with_same}
pub use Rattle.raft_accessor.proofs.OrderLemmas.{Once}
pub use Rattle.raft_accessor.proofs.RegionTablesLemmas.{same_test}
pub use Rattle.raft_accessor.proofs.TotalSums.{added, added-permuted}
pub use Rattle.raft_accessor.specs.Writes.{Appending, Rewriting, after_content, after_items, after_pair, after_rewrite_pair, with_change}
pub use Rattle.raft_base.specs.Runs.{IsConsecutive, IsRun, RisesFrom}
unfoldable pub use Rattle.raft_base.specs.Runs.{end_of}
pub use Rattle.raft_base.specs.declared.compression_type.CompressionType.{CompressionType}
pub use Rattle.raft_base.specs.declared.entry_index.EntryIndex.{EntryIndex}
pub use Rattle.raft_base.specs.declared.pipe_log.FileBlockHandle.{FileBlockHandle}
pub use Rattle.raft_base.specs.declared.pipe_log.FileId.{FileId}
pub use Rattle.raft_base.specs.declared.pipe_log.LogQueue.{LogQueue}
pub use Rattle.raft_base.specs.declared.pipe_log.LogQueue.TheVariants.{Append, Rewrite}
pub use Rattle.raft_contexts.specs.MovedPlaces.{IsMovedPair}
pub use Rattle.raft_contexts.specs.RecoverContext.{RecoverContext}
pub use Rattle.raft_contexts.specs.TakenAway.{bounds_told, cut_told, first_in, first_of, front_told, is_apart_at, is_front_dropped, item_of_step, items_of_steps, items_of_table, keys_deleted, stays_under, steps_at_once, steps_later, takes_of, takes_pair, told_by_mark}
pub use Rattle.raft_contexts.specs.TakenBatches.{IsTakenAway}
pub use Rattle.raft_contexts.specs.declared.taken_away.TakenAway.{TakenAway}
pub use Rattle.raft_history.proofs.ContextLaws.{exact_reading}
pub use Rattle.raft_history.proofs.EachStepLemmas.{each_step_of}
pub use Rattle.raft_history.proofs.EffectFileLemmas.{history_rises}
pub use Rattle.raft_history.proofs.EffectLemmas.{all_steps-append, all_steps-one, each-append, each_filter, each_left, each_right, each_weaker, effects_behind-one, numbered_from-append}
pub use Rattle.raft_history.proofs.FileOrderLemmas.{InOrder, lower, seq_of, steps_order}
pub use Rattle.raft_history.proofs.JoinedLemmas.{effects-append, group_in-append}
pub use Rattle.raft_history.proofs.KnownLemmas.{each_known, has_marker, steps_across}
pub use Rattle.raft_history.proofs.MapLemmas.{IsOther, by_region, with_other, with_own}
pub use Rattle.raft_history.proofs.MarkerLemmas.{markers_of-append, open_stretch-append}
pub use Rattle.raft_history.proofs.MoreLemmas.{steps-one}
pub use Rattle.raft_history.proofs.QueueLemmas.{items_in_queue}
pub use Rattle.raft_history.proofs.ReadLemmas.{own-whole_group}
pub use Rattle.raft_history.proofs.ReadingLemmas.{reading_by_region}
pub use Rattle.raft_history.proofs.RewrittenLemmas.{IsAtOrAbove, cut_reached, entry_reached, settled}
pub use Rattle.raft_history.proofs.SoundLemmas.{append_apart, batches-append, files-append, in_files-append, status-append, steps_good, without_marker}
pub use Rattle.raft_history.proofs.StepListLemmas.{own-append, own_cons, own_head, own_none, own_other}
pub use Rattle.raft_history.proofs.StretchOfHistory.{apart_back, plain-append, sound_in_back, sound_in_front}
pub use Rattle.raft_history.proofs.WithoutMarkers.{named-steps, plain_steps}
pub use Rattle.raft_history.proofs.Words.{AreInFiles, all_steps, are_middles, is_on, with_step}
pub use Rattle.raft_history.specs.Batches.{BatchSteps, Event, GroupMarker, batch_of, batch_with_marker, batches, marker_in}
pub use Rattle.raft_history.specs.BothQueues.{IsReadingOfBoth}
pub use Rattle.raft_history.specs.Contexts.{AreExact}
pub use Rattle.raft_history.specs.Effects.{AreApart, EachApart, Effect, Numbered, completed_as, completed_by, effects, is_named, is_of, numbered_from, steps_by, steps_of}
unfoldable pub use Rattle.raft_history.specs.Effects.{effects_behind, markers_of, open_stretch, whole_steps}
pub use Rattle.raft_history.specs.Histories.{Apart, AreInFile, FilesFrom, HaveStatus, IsInFile, IsOneReading, IsPairIn, IsSoundIn, cleaned_in, last_from}
pub use Rattle.raft_history.specs.MarkedRegions.{MarkedRegions, region_in, region_steps_of_whole}
pub use Rattle.raft_history.specs.RegionSteps.{RegionStep, Tables, content_step, names, pair_step, steps_of_items, tables_after, with_table}
unfoldable pub use Rattle.raft_history.specs.RegionSteps.{steps_on}
pub use Rattle.raft_history.specs.WaitingGroup.{Begun, Ended, GroupFront, Open, OpenStretch, WaitingGroup, WholeGroup, front_behind, front_by, group_in, joined_group, joined_group_by, led_by, one_marker, whole_group, whole_group_by}
unfoldable pub use Rattle.raft_history.specs.WaitingGroup.{front_of}
pub use Rattle.raft_history.specs.WaitingGroups.{WaitingGroups, groups_in, known_of, steps_by_batch, steps_or, whole_groups, whole_with}
unfoldable pub use Rattle.raft_history.specs.WaitingGroups.{steps_of_wholes}
pub use Rattle.raft_records.proofs.BufferLemmas.{header_len}
pub use Rattle.raft_records.specs.DecodedIn.{IsPlaceInFile}
pub use Rattle.raft_records.specs.Entries.{with_lengths}
pub use Rattle.raft_records.specs.Group.{is_reserved, marker_byte, marker_byte_in, status_of}
unfoldable pub use Rattle.raft_records.specs.Group.{first_marker}
pub use Rattle.raft_records.specs.Header.{IsEntryBlockOf}
pub use Rattle.raft_records.specs.Item.{Content, Item, Pair, command, entries, pair}
pub use Rattle.raft_records.specs.ItemBatch.{checksum_bytes, item_batch_bytes, placed_content, placed_item, with_offsets_from}
pub use Rattle.raft_records.specs.LogBatch.{Batch, encoded_length, entry_block, header_bytes, item_offset, log_batch_bytes}
pub use Rattle.raft_records.specs.declared.atomic_group.AtomicGroupStatus.{AtomicGroupStatus}
pub use Rattle.raft_records.specs.declared.atomic_group.AtomicGroupStatus.TheVariants.{Begin, End, Middle}
pub use Rattle.raft_records.specs.declared.key_value.OpType.{OpType}
pub use Rattle.raft_table.proofs.KeyValueLaws.{get-pairs_over}
pub use Rattle.raft_table.proofs.LastWordLemmas.{last_entry_stands, last_pair_stands}
pub use Rattle.raft_table.proofs.MarkEntries.{same_some}
pub use Rattle.raft_table.proofs.MarkExact.{empty_union}
pub use Rattle.raft_table.proofs.MarkLaws.{after-append}
pub use Rattle.raft_table.proofs.MarkRuns.{first_rising, no_table, run_below, run_from, run_replayed, table_after, table_after_step}
pub use Rattle.raft_table.proofs.MarkTables.{get-without}
pub use Rattle.raft_table.proofs.MarkWords.{within-nil, within-whole}
pub use Rattle.raft_table.proofs.OverlayLemmas.{overlay_exact, overlay_run}
pub use Rattle.raft_table.proofs.PlaceLemmas.{each_placed, placed_apart, placed_each, placed_in_other}
pub use Rattle.raft_table.proofs.RewriteLemmas.{in_front_of}
pub use Rattle.raft_table.proofs.RunLemmas.{below-append, below_start, below_take, end_of-append, end_of-run, filter_comm, from-append, from_drop, from_start, hole_end, placed_in-append, rises}
pub use Rattle.raft_table.proofs.Shown.{find-below, first_of_both, second_of_both}
pub use Rattle.raft_table.proofs.SoundLemmas.{AreTableEntries-nil, RewrittenInFront-below, RewrittenInFront-from}
pub use Rattle.raft_table.proofs.StartLemmas.{in_front_appended}
pub use Rattle.raft_table.specs.Fetches.{entry_seq, first_entry_seq, place_seq}
pub use Rattle.raft_table.specs.KeySets.{KeySet, without}
pub use Rattle.raft_table.specs.KeyValues.{Keys, Stored, file_at, least, lesser, moved_to, pairs_over, seqs_in, value_at, with_moved}
pub use Rattle.raft_table.specs.LastWord.{is_same_key, last_pair, last_that, said_of_key, speaks_of_index, speaks_of_key}
pub use Rattle.raft_table.specs.Least.{at_most_group_seq, least_of, least_seq}
pub use Rattle.raft_table.specs.Marks.{Mark, is_under, misses}
unfoldable pub use Rattle.raft_table.specs.Marks.{entries_within}
pub use Rattle.raft_table.specs.Overlay.{IsExactMark, deleted_of, greatest_compaction, has_clean, is_unjoined, kept_if, least_cut, overlaid_table, overlay, rewritten_within}
pub use Rattle.raft_table.specs.Queues.{is_same}
pub use Rattle.raft_table.specs.Rewriting.{entries_after_rewrite, is_misplaced, may_move, moved_count, overlap, rewritten_from, with_places}
pub use Rattle.raft_table.specs.Stands.{Stands}
pub use Rattle.raft_table.specs.Start.{entries_after_replay, leaves_hole, starts_in_front}
pub use Rattle.raft_table.specs.Steps.{AreSteps, AtomicGroup, Clean, Compact, Del, IsStep, IsTableOf, Put, Run, Step, Truncate, after, after_step, table_of}
pub use Rattle.raft_table.specs.Table.{Table, after_append, after_rewrite, after_rewrite_key, empty_table, passes_gate, rewritten_in, rewritten_pair}
pub use Rattle.raft_table.specs.TableEntries.{AreTableEntries, RewrittenInFront, entry_at, entry_count, start_of}
unfoldable pub use Rattle.raft_table.specs.TableEntries.{below, from, is_placed_in, placed_in}
pub use Rattle.raft_table.specs.TakenSteps.{IsStepOfQueue}
pub use Rattle.raft_engine_laws.specs.Contents.{HaveBytes}
pub use Rattle.raft_engine_laws.specs.Crashes.{AreInFileOf, Crash, Deed, Delete, FilesEndNoOlderGroup, IsKeptWith, IsLeft, IsNextIn, IsSafe, IsSynced, LoseNothing, MayBeGone, MayStand, Sync, Write, deleted, synced, synced_deleted, written}
unfoldable pub use Rattle.raft_engine_laws.specs.Crashes.{in_files_from}
pub use Rattle.raft_engine_laws.specs.DeletedFiles.{AreFilesBelow, AreFrom, AreLeastFrom, IsSeqFrom, NeedsNoneBelow}
pub use Rattle.raft_engine_laws.specs.Groups.{EndNoOlderGroup, HasNoMarker, IsBeforeEnd, IsMarked, IsNotEnded, IsWholeGroup, LeavesOpen}
pub use Rattle.raft_engine_laws.specs.GroupsInRows.{AreGroupsInRows, MayStandAs, MayStandBy, StandBehind, left_open, open_as, open_behind, open_by}
pub use Rattle.raft_engine_laws.specs.KeptRegions.{IsRegionKept}
pub use Rattle.raft_engine_laws.specs.KeptTables.{AreKept}
pub use Rattle.raft_engine_laws.specs.MarksTold.{IsToldByMark, IsToldNowOrLater, Joins, MayBeToldLater, told_at_once}
pub use Rattle.raft_engine_laws.specs.MovedRecords.{AreFound, AreMoved, AreMovedPairs}
pub use Rattle.raft_engine_laws.specs.Moving.{AreCopies, AreOrdinary, AreRecordsMoved, IsFetched, IsMovingBatch, IsPairMoved, IsPutAgain, MoveAgain, MovesAgain, entries_on, moving_items, put_items, run_of}
pub use Rattle.raft_engine_laws.specs.NextBatches.{IsRewrittenNext, IsWrittenNext}
pub use Rattle.raft_engine_laws.specs.Records.{AreToldAlike, Entry, HasRecords, HaveRecords, Records, after_change, after_changes, entries_told, no_base, no_records}
unfoldable pub use Rattle.raft_engine_laws.specs.Records.{live}
pub use Rattle.raft_engine_laws.specs.RowSummaries.{AreJoined, FirstMayStand, IsSeam, IsSummaryOf, Summary}
pub use Rattle.raft_engine_laws.specs.Speaking.{AreCovered, IsOver, drops_key, is_index_spoken, is_key_dropped, is_key_spoken, pair_left}
unfoldable pub use Rattle.raft_engine_laws.specs.Speaking.{unspoken}
pub use Rattle.raft_engine_laws.specs.TakenTold.{AreBothRead, IsTakenToldByMarks, IsTakenToldNowOrLater}
pub use Rattle.raft_engine_laws.specs.Telling.{AreAllSteps, AreRemovals, IsRemoval, SayEnough, SayEnoughAtOpening, SayTheSame, TakeAway, TakesAway, content_takes_away, is_deletion, item_takes_from, takes_away, takes_from, taking_items, taking_steps, told_items, told_of}
