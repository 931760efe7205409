-- What proofs of this crate import of std, of the definitions and of the crates below, in one place.
pub use Rattle.std.proofs.Common.{Bool, List, None, Option, Some, [], ap, append-nil, append_assoc, arith, cond, eqb, false, inl, inr, length, ltb, min, not, refl, slice_index_or, subst, suc, sym, true, zero, ℕ, ◌&&◌, ◌++◌, ◌+◌, ◌-◌, ◌<◌}
pub use Rattle.std.proofs.Common.{◌^◌, ◌||◌, ◌↔◌, ◌∙◌, ◌∷◌, ◌≡◌, ◌≢◌, ◌≤◌, ◌⊎◌}
pub use Rattle.std.proofs.Math.Bool.{or-false, or_assoc}
pub use Rattle.std.proofs.Math.Nat.{lt_of_not-le}
pub use Rattle.std.proofs.lemmas.Bool.{and_parts, and_right, cases_Bool, cond_both, eq-eqb, eqb-true, ltb-true, ne_eqb, false_from_ne_true, le-leb, leb-true, false≢true, or_cases, or_left, or_parts, or_right}
pub use Rattle.std.proofs.lemmas.Bool.Decides.{nat_tests}
pub use Rattle.std.proofs.lemmas.List.{length-append, map-append, nil_from_length}
pub use Rattle.std.proofs.lemmas.List.Concat.{flat_map-append}
pub use Rattle.std.proofs.lemmas.List.Elements.{filter-append}
pub use Rattle.std.proofs.lemmas.List.Folds.{flat_map-map, list_all-append, list_all-map, list_any-append}
pub use Rattle.std.proofs.lemmas.Option.{cond_some, option_and_then_some}
pub use Rattle.std.specs.Cmp.{nat_cmp_total, unsigned_tied}
pub use Rattle.std.specs.Cmp.Lexicographic.{nat_list_cmp_total, slice_cmp}
pub use Rattle.std.specs.FinMap.{is_sorted, nat_cmp-IsAntisymmetric, put, same_map, slice_cmp-IsAntisymmetric}
pub use Rattle.std.specs.FinMap.Entries.{below_all, by_order, find, find-where_key, is_sorted-where_key, where_key}
pub use Rattle.std.specs.List.{cons_option, list_all, slice_get}
unfoldable pub use Rattle.std.specs.List.{IsDistinct}
pub use Rattle.std.specs.Option.{option_and_then, option_map_or, option_or, unwrap_or}
pub use Rattle.std.specs.Ordering.{eq_by_cmp, is_eq, is_lt, nat_cmp}
pub use Rattle.std.specs.Prelude.{filter, filter_map, flat_map, is_some, map, nat_le, nat_lt, option_map, ◌==◌}
pub use Rattle.std.specs.declared.cmp.Ordering.{Ordering}
pub use Rattle.raft_history.specs.Common.{AllByRecursion, Apart, Append, AreDecodedIn, AreEffects, AreExact, AreInFile, AreJoined, AreLeastFiles, AreMerged, AreRegionsRefused, AreRewrittenFrom, BatchSteps, Context, EachApart, Effect}
pub use Rattle.raft_history.specs.Common.{EndsNoEffect, EntryIndex, Event, FileId, FilesFrom, HasNoneBelow, HaveSameRecords, HaveStatus, IsAtMost, IsDecodedIn, IsExactFor, IsOfQueue, IsOneReading, IsReadingOfBoth, IsRunIn, IsSmall}
pub use Rattle.raft_history.specs.Common.{IsSoundIn, IsStepOfQueue, Item, LogQueue, MarkedRegions, RegionStep, Rewrite, Sound, StandForSteps, StandsFor, Suits, Table, Tables, WaitingGroups, WholeGroup, after, batches, content_step, effects}
pub use Rattle.raft_history.specs.Common.{entries, entry_at, files_of, follows, group_in, groups_after, is_named, joined_groups, kept_by, kept_of, known_of, last_entry, last_pair, list_any, merged_context, merged_with, names_by_batch}
pub use Rattle.raft_history.specs.Common.{new_context, no_regions, overlaid_region, overlaid_table, pair, records_in_wholes, region_steps_of_whole, region_steps_of_wholes, regions_after, steps_by_batch, steps_of, steps_of_items, table_of}
pub use Rattle.raft_history.specs.Common.{tables_after, taken_in, waiting_records, whole_group, whole_groups}
pub use Rattle.raft_base.specs.Runs.{IsRun, RisesFrom, end_of}
pub use Rattle.raft_base.specs.declared.compression_type.CompressionType.{CompressionType}
pub use Rattle.raft_base.specs.declared.pipe_log.FileBlockHandle.{FileBlockHandle}
pub use Rattle.raft_history.specs.Batches.{GroupMarker, batch_of, marker_in}
pub use Rattle.raft_history.specs.Contexts.{FileRange, IsBounded, RegionStandsFor, StandsIn, completed_steps, joined_files, merged_regions, region_steps_or, taken_with}
pub use Rattle.raft_history.specs.Effects.{AreApart, Numbered, completed_as, completed_by, first_in, has_status, is_of, is_same_status, numbered_from, region_steps_in, steps_by}
unfoldable pub use Rattle.raft_history.specs.Effects.{effects_behind, markers_of, open_stretch, whole_steps, without_group}
pub use Rattle.raft_history.specs.GoingOn.{IsReadNext}
pub use Rattle.raft_history.specs.Histories.{AreOfQueue, IsInFile, IsPairIn, cleaned_in, last_from, records_in, records_of}
pub use Rattle.raft_history.specs.Kept.{named_by}
unfoldable pub use Rattle.raft_history.specs.Kept.{deleted_in}
pub use Rattle.raft_history.specs.LeastFiles.{IsAtOrBelow, record_seqs}
pub use Rattle.raft_history.specs.MarkedRegions.{MarkedRegion, Marks, joined_each, joined_marked, joined_region, joined_regions, named_regions, on_each, region_in, stepped_region, with_region}
pub use Rattle.raft_history.specs.Records.{all_records, records_or, table_records, total_of}
unfoldable pub use Rattle.raft_history.specs.Records.{total}
pub use Rattle.raft_history.specs.RegionSteps.{cleaned_by_steps, pair_step, with_table}
unfoldable pub use Rattle.raft_history.specs.RegionSteps.{names, steps_on}
pub use Rattle.raft_history.specs.RewrittenRecords.{HadEntry, HadTables, IsStepHad}
pub use Rattle.raft_history.specs.Stretches.{IsAlone, IsEffect, IsIn, IsMarkerOf, IsStretch, RiseFrom}
pub use Rattle.raft_history.specs.WaitingGroup.{Begun, Ended, GroupFront, Open, OpenStretch, WaitingGroup, carried_stretch, front_behind, front_by, group_at, group_of, joined_group, joined_group_by, led_by, one_marker, stretch_of}
pub use Rattle.raft_history.specs.WaitingGroup.{whole_group_by, whole_of, without_marker}
unfoldable pub use Rattle.raft_history.specs.WaitingGroup.{front_of}
pub use Rattle.raft_history.specs.WaitingGroups.{IsListed, ListsGroups, front_steps, group_by, held_steps, joined_with, names_by, steps_or, stretch_steps, waiting_steps, whole_with, wholes}
unfoldable pub use Rattle.raft_history.specs.WaitingGroups.{groups_in, steps_of_wholes}
pub use Rattle.raft_records.specs.DecodedIn.{IsPlaceInFile}
pub use Rattle.raft_records.specs.Grammar.{end_of_content}
pub use Rattle.raft_records.specs.Group.{is_reserved}
pub use Rattle.raft_records.specs.Item.{Content, command}
pub use Rattle.raft_records.specs.ItemBatch.{FitTogether, FitsBehind, placed_content, placed_item}
pub use Rattle.raft_records.specs.Spelling.{IsWritableWith}
pub use Rattle.raft_records.specs.declared.atomic_group.AtomicGroupStatus.{AtomicGroupStatus}
pub use Rattle.raft_records.specs.declared.atomic_group.AtomicGroupStatus.TheVariants.{Begin, End, Middle}
pub use Rattle.raft_records.specs.declared.key_value.OpType.{OpType}
pub use Rattle.raft_table.proofs.KeyValueCounts.{entries-remove, length-filter-le}
pub use Rattle.raft_table.proofs.KeyValueLaws.{get-pairs_over}
pub use Rattle.raft_table.proofs.LastWordLemmas.{last_entry_stands, last_pair_stands}
pub use Rattle.raft_table.proofs.LaterSteps.{accepted_alone, steps_rewritten}
pub use Rattle.raft_table.proofs.MarkEntries.{same_some}
pub use Rattle.raft_table.proofs.MarkExact.{deleted_count, exact_join, exact_one, holds_join, holds_one, union_empty}
pub use Rattle.raft_table.proofs.MarkLaws.{after-append, refused_join, refused_step, stands_alone, stands_fresh, stands_join, stands_one}
pub use Rattle.raft_table.proofs.MarkTables.{get-without, joined_parts, one_step, same_keys}
pub use Rattle.raft_table.proofs.OverlayLemmas.{overlay_exact}
pub use Rattle.raft_table.proofs.Shown.{below_all-equal, below_all-less, equal, find-below, first_of_both, second_of_both, where_key-below}
pub use Rattle.raft_table.specs.Fetches.{entry_seq, place_seq}
pub use Rattle.raft_table.specs.KeySets.{KeySet}
unfoldable pub use Rattle.raft_table.specs.KeySets.{without}
pub use Rattle.raft_table.specs.KeyValues.{Keys, Stored, least, lesser, pairs_over, seqs_in, with_pairs}
pub use Rattle.raft_table.specs.LastWord.{is_same_key, last_that, said_of_index, said_of_key, speaks_of_index, speaks_of_key}
pub use Rattle.raft_table.specs.Least.{at_most_group_seq, least_seq}
pub use Rattle.raft_table.specs.MarkJoins.{end_at_reach, fresh, joined_mark, mark_of, own_of}
pub use Rattle.raft_table.specs.Marks.{Mark, atomic_group_over, is_missed, is_refused_over, is_there_over, older_entries, table_over, table_over_older, there_if}
unfoldable pub use Rattle.raft_table.specs.Marks.{entries_within}
pub use Rattle.raft_table.specs.Overlay.{HoldsDeleted, IsExactMark, deleted_of, greatest_compaction, has_clean, is_unjoined, kept_if, least_cut, overlay, overlay_under, rewritten_within}
pub use Rattle.raft_table.specs.Queues.{is_same, other}
pub use Rattle.raft_table.specs.Start.{entries_after_replay, leaves_hole}
pub use Rattle.raft_table.specs.Steps.{AreSteps, AtomicGroup, Clean, Compact, Del, IsStep, Put, Run, Step, Truncate, after_step}
pub use Rattle.raft_table.specs.Table.{empty_table}
unfoldable pub use Rattle.raft_table.specs.TableEntries.{below, from, is_placed_in, placed_in}
pub use Rattle.raft_history.proofs.OptionLemmas.{accepted_is, some_is, no_both, then_none, map_some, map_none}
pub use lib.Dec.{T}
pub use Rattle.std.specs.declared.cmp.Ordering.TheVariants.{Equal, Greater, Less}
