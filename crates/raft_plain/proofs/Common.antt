-- What proofs of this crate import of std, of the definitions and of the crates below, in one place.
pub use Rattle.std.proofs.Common.{Bool, Err, IfErr, List, None, Ok, OnOk, Option, Result, Some, Vec, [], add-one, ap, append-nil, append_assoc, arith, cond, drop, drop-cons, false, filter, get_or, inl, inr, length, map, max, not, refl, rules, slice_index_or, subst, suc, sym}
pub use Rattle.std.proofs.Common.{take, true, ℕ, ◌&&◌, ◌*◌, ◌++◌, ◌+◌, ◌-◌, ◌<◌, ◌^◌, ◌||◌, ◌∙◌, ◌∷◌, ◌≡◌, ◌≢◌, ◌≤◌, ◌⊎◌}
pub use Rattle.std.proofs.Math.ListN.{drop_of_length-le}
pub use Rattle.std.proofs.lemmas.Bool.{eq-eqb}
pub use Rattle.std.proofs.lemmas.Fn.{filter_same}
pub use Rattle.std.proofs.lemmas.List.{drop_more, take_all}
pub use Rattle.std.proofs.lemmas.List.Concat.{flat_map-append}
pub use Rattle.std.proofs.lemmas.List.Elements.{All-from_recursion, All-map}
pub use Rattle.std.proofs.lemmas.List.Sorted.{IsNonDecreasingBy-insert, IsNonDecreasingBy-short, IsPermutation-refl}
pub use Rattle.std.proofs.lemmas.Map.Keys.{sorted_head, sorted_tail}
pub use Rattle.std.proofs.lemmas.Map.Made.{filter_same_pairs}
pub use Rattle.std.proofs.lemmas.Result.{IfErr-weaker}
pub use Rattle.std.specs.BTreeMap.{BTreeMap, IsOrdered, insert_entry, is_at}
pub use Rattle.std.specs.Cmp.{eq_by_cmp_equiv, nat_cmp_total, ranked}
pub use Rattle.std.specs.Cmp.Lexicographic.{nat_list_cmp_total, slice_cmp}
pub use Rattle.std.specs.FinMap.{find, is_sorted, nat_cmp-IsAntisymmetric, put, slice_cmp-IsAntisymmetric}
pub use Rattle.std.specs.FinMap.Entries.{below_all, by_order, where_key}
pub use Rattle.std.specs.Fmt.{decimal}
pub use Rattle.std.specs.Global.{Global}
pub use Rattle.std.specs.List.{All, AllByRecursion, flat_map}
pub use Rattle.std.specs.List.Sorted.{IsNonDecreasingBy, IsPermutation}
unfoldable pub use Rattle.std.specs.List.Sorted.{IsStrictlySortedBy}
pub use Rattle.std.specs.Map.{keys_of, lookup, remove_entry}
pub use Rattle.std.specs.Option.{option_and_then, option_map, option_or}
pub use Rattle.std.specs.Ordering.{eq_by_cmp, is_eq, is_ne, match_ordering, nat_cmp}
pub use Rattle.std.specs.Prelude.{codes, is_some, nat_le, nat_lt, string_bytes, ◌==◌}
pub use Rattle.std.specs.declared.cmp.Ordering.{Ordering}
pub use Rattle.std.specs.declared.cmp.Ordering.TheVariants.{Equal, Greater, Less}
pub use Rattle.raft_accessor.proofs.TotalSums.{added, live-added}
pub use Rattle.raft_accessor.specs.Accessor.{Accessor, live_in_all}
pub use Rattle.raft_base.specs.NoEntry.{no_entry}
unfoldable pub use Rattle.raft_base.specs.Runs.{end_of}
pub use Rattle.raft_base.specs.declared.entry_index.EntryIndex.{EntryIndex}
pub use Rattle.raft_base.specs.declared.errors.Error.{Error}
pub use Rattle.raft_base.specs.declared.pipe_log.FileId.{FileId}
pub use Rattle.raft_base.specs.declared.pipe_log.LogQueue.{LogQueue}
pub use Rattle.raft_base.specs.declared.pipe_log.LogQueue.TheVariants.{Append, Rewrite}
pub use Rattle.raft_base.specs.declared.pipe_log.Version.{Version}
pub use Rattle.raft_history.proofs.JoinedLemmas.{group_in-append}
pub use Rattle.raft_history.proofs.KnownLemmas.{group_in-without_marker, has_marker, known-groups_in, tied}
pub use Rattle.raft_history.proofs.MapLemmas.{IsOther, by_region, get_gone, get_left, get_other, get_own, with_other, with_own}
pub use Rattle.raft_history.proofs.MarkerLemmas.{FitsFront, fits_front, middles_open_none, whole_is}
pub use Rattle.raft_history.proofs.MoreLemmas.{steps-one}
pub use Rattle.raft_history.proofs.OptionLemmas.{no_both, some_is}
pub use Rattle.raft_history.proofs.ReadItemLemmas.{items_in_file}
pub use Rattle.raft_history.proofs.ReadingLemmas.{reading_by_region, reading_refused}
pub use Rattle.raft_history.proofs.SoundLemmas.{batches-append, cleaned-append, files-append, files-back, in_files-append, status-append}
pub use Rattle.raft_history.proofs.StepListLemmas.{eqb_self, own-append}
pub use Rattle.raft_history.proofs.StretchOfHistory.{small_front}
pub use Rattle.raft_history.proofs.WithoutMarkers.{named-steps}
pub use Rattle.raft_history.specs.Batches.{BatchSteps, Event, GroupMarker, batches, marker_in}
pub use Rattle.raft_history.specs.Effects.{is_named, numbered_from, steps_of}
unfoldable pub use Rattle.raft_history.specs.Effects.{effects_behind, markers_of, open_stretch, whole_steps}
pub use Rattle.raft_history.specs.Histories.{HaveStatus, IsOneReading, IsSmall, IsSoundIn, Sound, cleaned_in, last_from}
pub use Rattle.raft_history.specs.RegionStepShown.{region_step_shown}
pub use Rattle.raft_history.specs.RegionSteps.{RegionStep, Tables, cleaned_by, cleaned_by_steps, steps_of_items, tables_after, with_table}
unfoldable pub use Rattle.raft_history.specs.RegionSteps.{names, steps_on}
pub use Rattle.raft_history.specs.ReplayMachine.{event}
pub use Rattle.raft_history.specs.WaitingGroup.{Begun, Ended, GroupFront, Open, OpenStretch, WaitingGroup, carried_stretch, group_in, joined_group, one_marker, stretch_of, whole_group, whole_of}
unfoldable pub use Rattle.raft_history.specs.WaitingGroup.{front_of}
pub use Rattle.raft_history.specs.WaitingGroups.{groups_in, steps_by_batch, steps_or}
pub use Rattle.raft_reading.specs.QueueRead.{FilesHold, NumberedBytes, whole_file}
pub use Rattle.raft_records.proofs.GroupLemmas.{marker_is, one_byte}
pub use Rattle.raft_records.proofs.PartLemmas.{batch_inside}
pub use Rattle.raft_records.proofs.PrintLemmas.{on_both}
pub use Rattle.raft_records.specs.DecodedIn.{AreDecodedIn}
pub use Rattle.raft_records.specs.FilePart.{IsBatchAt, Part}
pub use Rattle.raft_records.specs.Group.{IsGroupMarkerRead, marker_byte, status_byte}
unfoldable pub use Rattle.raft_records.specs.Group.{first_marker}
pub use Rattle.raft_records.specs.Item.{Item, item_of}
pub use Rattle.raft_records.specs.Lines.{AppendsFront, IsIoError}
pub use Rattle.raft_records.specs.declared.atomic_group.AtomicGroupStatus.{AtomicGroupStatus}
pub use Rattle.raft_records.specs.declared.atomic_group.AtomicGroupStatus.TheVariants.{Begin, End, Middle}
pub use Rattle.raft_recover.proofs.OrderLemmas.{three_parts}
pub use Rattle.raft_recover.specs.AskedRequests.{file_shown}
pub use Rattle.raft_recover.specs.Files.{FilesCannotBeRead, IsPrintFailure, PrintsRecovered}
pub use Rattle.raft_recover.specs.Recovery.{AreBothRecovered, IsRecovered}
pub use Rattle.raft_recover.specs.TableLines.{PrintsFrontOfTables, PrintsTables, cleaned_text, region_text, table_line}
pub use Rattle.raft_replay.proofs.MachineOrderLemmas.{each_more}
pub use Rattle.raft_replay.proofs.Passed.{on_passed}
pub use Rattle.raft_replay.proofs.ReplayedLemmas.{none_replayed, replayed_as, replayed_more}
pub use Rattle.raft_replay.proofs.SegmentLemmas.{item_between, item_taken}
pub use Rattle.raft_replay.proofs.StopLemmas.{IsFront, front_held, longer_front, parts_refused, stops_after}
pub use Rattle.raft_replay.proofs.Words.{PartHolds, PartsHold}
pub use Rattle.raft_replay.specs.Replays.{CannotFollow, HasReplayed}
pub use Rattle.raft_replay.specs.Stops.{CannotFollowAt, GoneOn, IsNothing, IsPlaced, IsUnreadableAt, StopsAmong, StopsIn, history_in}
pub use Rattle.raft_table.proofs.KeyValueCounts.{entries-map_of, entries-remove, len-map_of, map_of-insert_entry}
pub use Rattle.raft_table.proofs.KeyValueReads.{entries-empty, pairs_over-empty}
pub use Rattle.raft_table.proofs.MarkExact.{union_assoc, union_empty, union_one}
pub use Rattle.raft_table.proofs.MarkLaws.{after-append}
pub use Rattle.raft_table.proofs.MarkTables.{get-without, same_keys}
pub use Rattle.raft_table.proofs.MarkWords.{within-whole}
pub use Rattle.raft_table.proofs.Shown.{below_all-equal, equal, find-below, first_of_both, second_of_both, where_key-below}
pub use Rattle.raft_table.specs.Counts.{live}
pub use Rattle.raft_table.specs.Fetches.{first_entry_seq}
pub use Rattle.raft_table.specs.KeySets.{KeySet, without}
pub use Rattle.raft_table.specs.KeyValues.{Keys, least, lesser, pair_count, pairs_over, seqs_in, with_pairs}
pub use Rattle.raft_table.specs.Marks.{is_under}
unfoldable pub use Rattle.raft_table.specs.Marks.{entries_within}
pub use Rattle.raft_table.specs.Overlay.{deleted_of, greatest_compaction, has_clean, kept_if, least_cut, overlaid_table, overlay, rewritten_within}
pub use Rattle.raft_table.specs.Queues.{is_same}
pub use Rattle.raft_table.specs.StepShown.{step_shown}
pub use Rattle.raft_table.specs.Steps.{AtomicGroup, Clean, Compact, Del, Put, Run, Step, Truncate, after, after_step, table_of}
pub use Rattle.raft_table.specs.Table.{Table, empty_table, live_of}
pub use Rattle.raft_table.specs.TableEntries.{entry_count}
unfoldable pub use Rattle.raft_table.specs.TableEntries.{below, from}
pub use Rattle.raft_plain.specs.Groups.{AreOpenAfter, Stretches, effect_after, effect_by, marked_steps, stretch_after, stretches_after, with_stretch}
pub use Rattle.raft_plain.specs.Overlaid.{AreOverlaid, all_tables, recovered_shown}
pub use Rattle.raft_plain.specs.Plain.{keys_shown, stored_shown, table_shown, tables_in, tables_shown}
pub use Rattle.raft_plain.specs.Readings.{AreStepsOf, HasRead, IsReadOf}
pub use Rattle.raft_plain.specs.Waits.{stretch_shown, stretches_shown}
pub use Rattle.raft_plain.specs.declared.groups.Stretch.{Stretch}
pub use Rattle.raft_plain.specs.declared.reading.Reading.{Reading}
pub use Rattle.raft_plain.specs.declared.recovery.Recovered.{Recovered}
pub use Rattle.raft_plain.specs.declared.region.Region.{Region}
pub use Rattle.raft_plain.specs.declared.region.Stored.{Stored}
