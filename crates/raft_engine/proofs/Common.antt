-- What proofs of this crate import of std, of the definitions and of the crates below, in one place.
pub use Rattle.std.proofs.Common.{Bool, Contains, Err, IfErr, IfOk, IsPermutation, List, None, Ok, OnErr, OnOk, Option, Result, Some, Vec, [], ap, append-nil, append_assoc, arith, codes, cond, drop, eqb, false, filter, get_or, if◌then◌else◌, inl, inr, length, length-append, ltb}
pub use Rattle.std.proofs.Common.{map, option_map, refl, reverse, rules, set, string_bytes, subst, suc, sym, take, true, zero, ℕ, ◌&&◌, ◌*◌, ◌++◌, ◌+◌, ◌-◌, ◌<◌, ◌^◌, ◌↔◌, ◌∙◌, ◌∷◌, ◌≡◌, ◌≢◌, ◌≤◌, ◌⊎◌}
pub use Rattle.std.proofs.Math.Nat.{eq-or-lt_of_le}
pub use Rattle.std.proofs.Math.Seq.{take-add}
pub use Rattle.std.proofs.lemmas.Bool.{cases_lt, eq-eqb, eqb-true, false≢true}
pub use Rattle.std.proofs.lemmas.Bool.Decides.{Decides-eqb, nat_tests}
pub use Rattle.std.proofs.lemmas.Grind.{flat_map-append}
pub use Rattle.std.proofs.lemmas.Iterator.{YieldsList-from_slice, cases_from_all, items_from_drains}
pub use Rattle.std.proofs.lemmas.Iterator.Adapters.{YieldsList-from_vec}
pub use Rattle.std.proofs.lemmas.List.{append_cancel_left, drop-append-le, drop-drop, drop-map, drop-set-lt, drop-take, drop_all, drop_at, drop_more, length-drop, length-map, length-take, length-take-le, map-append, map-id, nil_from_length, take-append-drop, take-append-le}
pub use Rattle.std.proofs.lemmas.List.{take-map, take-take, take_all, take_at, take_more, take_more_set}
pub use Rattle.std.proofs.lemmas.List.Elements.{All-from_recursion, Contains-append_left, Contains-append_right, recursion_from_All}
pub use Rattle.std.proofs.lemmas.List.Sorted.{All-permutation, IsPermutation-map, IsPermutation-sym}
pub use Rattle.std.proofs.lemmas.Option.{cond_some, get_or_from_slice_get, slice_get_within}
pub use Rattle.std.proofs.lemmas.Result.{IfErr-weaker, IfOk-weaker, err_from_is_err_and}
pub use Rattle.std.proofs.lemmas.Slice.Eq.{starts_is}
pub use Rattle.std.specs.Cmp.{IsTotalOrder, eq_by_cmp_equiv, unsigned_tied}
pub use Rattle.std.specs.Cmp.Lexicographic.{nat_list_cmp_total, slice_cmp}
pub use Rattle.std.specs.FinMap.{find, is_sorted}
pub use Rattle.std.specs.FinMap.Entries.{below_all}
pub use Rattle.std.specs.Fmt.{decimal}
pub use Rattle.std.specs.Fn.{FnOnceReturnsAtMut}
pub use Rattle.std.specs.Global.{Global}
pub use Rattle.std.specs.Iterator.{Drains, Yields}
pub use Rattle.std.specs.List.{AllByRecursion, AllWithin, AllZip, HoldsAt, concat, prefix_len, slice_get}
pub use Rattle.std.specs.Option.{is_some, option_and_then, option_copied, option_or}
pub use Rattle.std.specs.Ordering.{eq_by_cmp, is_eq, is_lt, nat_cmp}
pub use Rattle.std.specs.Prelude.{IfSome, IsTrue, MatchBool, MatchOption, flat_map, nat_le, nat_lt, ◌==◌}
pub use Rattle.std.specs.Vec.{vec_len}
pub use Rattle.std.specs.Vec.Iter.{into_iter_items, into_iter_len, into_iter_steps}
pub use Rattle.std.specs.declared.cmp.Ordering.{Ordering}
pub use Rattle.std.specs.declared.cmp.Ordering.TheVariants.{Equal, Greater, Less}
pub use Rattle.std.specs.declared.vec.IntoIter.{IntoIter}
pub use Rattle.raft_accessor.proofs.MapLemmas.{none_some, some_is}
pub use Rattle.raft_accessor.specs.Accessor.{Accessor, AreCountsOf, live_in_all}
pub use Rattle.raft_accessor.specs.AppendChecks.{AreAcceptedOncePlaced, IsAppendCheckFault}
pub use Rattle.raft_accessor.specs.Writes.{Appending, AreCountsAfterItems, AreItemsRefused, AreWritten, IsFor, IsWriteFault, NoneMixesQueues, Rewriting, Writing, after_content, after_items, counts_after_content, listed_by, listed_by_items}
pub use Rattle.raft_base.specs.Corruption.{IsArgumentRefusal, IsCorruption}
pub use Rattle.raft_base.specs.Errors.{IsCorruptionError, IsInvalidArgument}
pub use Rattle.raft_base.specs.Runs.{IsConsecutive, IsRun, RisesFrom}
unfoldable pub use Rattle.raft_base.specs.Runs.{end_of}
pub use Rattle.raft_base.specs.Signature.{signature_in, signature_of}
pub use Rattle.raft_base.specs.declared.compression_type.CompressionType.{CompressionType}
pub use Rattle.raft_base.specs.declared.entry_index.EntryIndex.{EntryIndex}
pub use Rattle.raft_base.specs.declared.errors.Error.{Error}
pub use Rattle.raft_base.specs.declared.pipe_log.FileBlockHandle.{FileBlockHandle}
pub use Rattle.raft_base.specs.declared.pipe_log.FileId.{FileId}
pub use Rattle.raft_base.specs.declared.pipe_log.LogFileContext.{LogFileContext}
pub use Rattle.raft_base.specs.declared.pipe_log.LogQueue.{LogQueue}
pub use Rattle.raft_base.specs.declared.pipe_log.LogQueue.TheVariants.{Append, Rewrite}
pub use Rattle.raft_base.specs.declared.pipe_log.Version.{Version}
pub use Rattle.raft_codec.specs.Reading.{HasNoFront, Reads}
pub use Rattle.raft_contexts.specs.MovedPlaces.{AppendedItemsFollow, AreMovedEntries, AreMovedTables, IsMovedPair, ReadingLeavesRuns, RewritingMovesPlaces}
pub use Rattle.raft_contexts.specs.OverlaidContext.{AreOfBothQueues, IsOfBothExactly}
pub use Rattle.raft_contexts.specs.ReadItems.{AppendedItemsAreListed, AppendedItemsAreRead, ItemsAreRead}
pub use Rattle.raft_contexts.specs.RecoverContext.{HasRead, HasReadExactly, RecoverContext}
pub use Rattle.raft_contexts.specs.TakenBatches.{IsTakenAway}
pub use Rattle.raft_contexts.specs.declared.context_stage.ContextStage.{ContextStage}
pub use Rattle.raft_contexts.specs.declared.context_stage.ContextStage.TheVariants.{Failed, Overlaid}
pub use Rattle.raft_contexts.specs.declared.taken_away.TakenAway.{TakenAway}
pub use Rattle.raft_engine_laws.proofs.AgainSteps.{copies-append}
pub use Rattle.raft_engine_laws.proofs.CopiedEntries.{copies_take_places}
pub use Rattle.raft_engine_laws.proofs.CopiedPairs.{IsCopied, moved_all, now_there, one_more, pairs_copied}
pub use Rattle.raft_engine_laws.proofs.CrashLemmas.{all_gone, from_none, keeps, synced_low, whole_stands}
pub use Rattle.raft_engine_laws.proofs.FileSteps.{steps_below}
pub use Rattle.raft_engine_laws.proofs.InRows.{rows_alone, rows_apart, rows_begun, rows_files, rows_gone_on, rows_left}
pub use Rattle.raft_engine_laws.proofs.LowEntries.{pair_below}
pub use Rattle.raft_engine_laws.proofs.OwnPrefixes.{own_joins}
pub use Rattle.raft_engine_laws.proofs.OwnTold.{nothing_told}
pub use Rattle.raft_engine_laws.proofs.RowJoins.{joined_summary}
pub use Rattle.raft_engine_laws.proofs.SafeOpenings.{left_of_crash}
pub use Rattle.raft_engine_laws.proofs.SoundEntries.{placed_twice}
pub use Rattle.raft_engine_laws.proofs.TakenAgain.{again_is_taken, entries_pair, entries_run}
pub use Rattle.raft_engine_laws.proofs.ToldContexts.{taken_in_steps}
pub use Rattle.raft_engine_laws.proofs.ToldItems.{steps-append}
pub use Rattle.raft_engine_laws.specs.Crashes.{AreInFileOf, Crash, Deed, IsLeft, IsNextIn, IsSafe, IsSynced, LoseNothing, MayBeGone, Write, deleted, synced, written}
unfoldable pub use Rattle.raft_engine_laws.specs.Crashes.{in_files_from}
pub use Rattle.raft_engine_laws.specs.DeletedFiles.{AreFilesBelow, AreLeastFrom}
pub use Rattle.raft_engine_laws.specs.Groups.{EndNoOlderGroup, HasNoMarker, IsBeforeEnd, IsMarked, IsWholeGroup, LeavesOpen}
pub use Rattle.raft_engine_laws.specs.GroupsInRows.{AreGroupsInRows, open_by}
pub use Rattle.raft_engine_laws.specs.KeptTables.{AreKept}
pub use Rattle.raft_engine_laws.specs.MarksTold.{IsToldNowOrLater}
pub use Rattle.raft_engine_laws.specs.Moving.{AreCopies, AreOrdinary, IsFetched, IsMovingBatch, MoveAgain, MovesAgain, entries_on, moving_items, put_item, put_items, run_of}
pub use Rattle.raft_engine_laws.specs.Records.{HaveRecords, Records, no_base}
unfoldable pub use Rattle.raft_engine_laws.specs.Records.{live}
pub use Rattle.raft_engine_laws.specs.RowSummaries.{AreJoined, IsSummaryOf, Marked}
pub use Rattle.raft_engine_laws.specs.Speaking.{pair_left}
pub use Rattle.raft_engine_laws.specs.TakenTold.{AreBothRead, AreFoundTables, DoesTakenTakeAway, IsTakenToldByMarks, IsTakenToldNowOrLater}
pub use Rattle.raft_engine_laws.specs.Telling.{AreRemovals, SayTheSame, TakeAway, TakesAway, taking_items, taking_steps, told_items}
pub use Rattle.raft_engine_prefixes.proofs.BatchPartLemmas.{batch_long, end_unreadable, shorter_unreadable}
pub use Rattle.raft_engine_prefixes.proofs.EndLemmas.{begin_within, cut_within, found_within, left_within, none_within, put_within}
pub use Rattle.raft_engine_prefixes.proofs.EntryPlaceLemmas.{written_within}
pub use Rattle.raft_engine_prefixes.proofs.EventLemmas.{files_high, files_low, files_up_to, from_both, from_twice, last_low}
pub use Rattle.raft_engine_prefixes.proofs.GoingOnLemmas.{puts_go_on}
pub use Rattle.raft_engine_prefixes.proofs.NumberLemmas.{below_drop, below_take, consecutive_drop, consecutive_rise, numbers_on_last, rising_low}
pub use Rattle.raft_engine_prefixes.proofs.PrefixLemmas.{all_front, all_held, begun_whole}
pub use Rattle.raft_engine_prefixes.proofs.RestLemmas.{rest_left}
pub use Rattle.raft_engine_prefixes.proofs.TableEntryLemmas.{both_so, stand}
pub use Rattle.raft_engine_prefixes.proofs.TornLemmas.{cut_found, items_of, more_torn, one_file, one_reading, one_stop, stand_up_to, stands_as, stop_unreadable, torn_more, untorn, whole_torn, with_all}
pub use Rattle.raft_engine_prefixes.proofs.UndamagedLemmas.{left_undamaged}
pub use Rattle.raft_engine_prefixes.specs.AnyTails.{IsUnforgedLeftOf}
pub use Rattle.raft_engine_prefixes.specs.Contents.{AddedEntriesAreTold, AreBothTold, AreTold, AreToldByFiles, HaveContents, KeepsBytes, ReadEntryIsTold, placed_entries}
pub use Rattle.raft_engine_prefixes.specs.Done.{AreConsecutive, AreDone, AreDoneWhole, AreRisingFrom, Follows, HoldLeft, LastFileIsNext, WrittenBatchIsDone, numbers}
pub use Rattle.raft_engine_prefixes.specs.EntryPlaces.{EachEntryAmong, EachEntryIn, EachEntryOf, EndsWithin, EntriesEndWithin, FilesEndWithin, FoundEndWithin, PlaceStands, StandsAt}
pub use Rattle.raft_engine_prefixes.specs.Prefixes.{AreFirstOf, ArePut, ArePutWhole, GoesOn, HoldPrefixWith, HoldRestOfPrefix, IsPrefixWith, WrittenBatchIsPut}
pub use Rattle.raft_engine_prefixes.specs.TornTails.{AreUndamaged, FilesHoldTorn, FoundUndamaged, HoldsTornFrom, IsDamagedAt, StopsAt}
pub use Rattle.raft_files.proofs.HeldLemmas.{length_on_last}
pub use Rattle.raft_files.proofs.LastLemmas.{at_last, last_of}
pub use Rattle.raft_files.proofs.LeftLemmas.{other_left, unsynced_left}
pub use Rattle.raft_files.specs.Asks.{Act, Ask, Begin, Cut, Delete, Found, IsNoFailedSync, IsReadOrUnsynced, IsTrusted, MayBeAsked, NoSyncFailed, NumberedBytes, Put, Read, Sync, Unsynced, acts_on, ask, failed_act, failed_ask, is_same_queue}
pub use Rattle.raft_files.specs.Disk.{IsFrontPut, IsLeftOf, MayStand, begun, cut_last, deletions, files_of, put_behind}
pub use Rattle.raft_files.specs.HeldFiles.{file_shown}
pub use Rattle.raft_files.specs.MemoryFaults.{IsMemoryFault}
pub use Rattle.raft_files.specs.Places.{bytes_at, stretch_of}
pub use Rattle.raft_history.proofs.EffectLemmas.{each-append, each_left, each_right, each_weaker}
pub use Rattle.raft_history.proofs.MapLemmas.{by_region, with_own}
pub use Rattle.raft_history.proofs.SoundLemmas.{append_apart, without_marker}
pub use Rattle.raft_history.proofs.StepListLemmas.{own-append, own_head, own_none, own_other}
pub use Rattle.raft_history.proofs.StretchOfHistory.{apart_back, apart_front, of_both, small_back, small_front, sound_front, sound_in_front}
pub use Rattle.raft_history.proofs.WithoutMarkers.{plain_steps, unnamed_steps}
pub use Rattle.raft_history.proofs.Words.{with_step}
pub use Rattle.raft_history.specs.Batches.{BatchSteps, Event, batches, marker_in}
pub use Rattle.raft_history.specs.BothQueues.{IsReadingOfBoth}
pub use Rattle.raft_history.specs.Contexts.{Suits}
pub use Rattle.raft_history.specs.Effects.{effects, is_named, steps_of}
unfoldable pub use Rattle.raft_history.specs.Effects.{effects_behind}
pub use Rattle.raft_history.specs.GoingOn.{IsReadNext, PlacedItemsAreInFile, ReadingGoesOn, SoundHistoryGoesOn}
pub use Rattle.raft_history.specs.Histories.{Apart, AreInFile, AreOfQueue, FilesFrom, HaveStatus, IsOfQueue, IsOneReading, IsSmall, IsSoundIn, Sound, last_from}
pub use Rattle.raft_history.specs.RegionSteps.{RegionStep, Tables, cleaned_by_steps, content_step, pair_step, steps_of_items, tables_after, with_table}
unfoldable pub use Rattle.raft_history.specs.RegionSteps.{steps_on}
pub use Rattle.raft_history.specs.ReplayMachine.{event}
pub use Rattle.raft_records.proofs.BufferLemmas.{checksum_len, header_len}
pub use Rattle.raft_records.proofs.FrameLemmas.{framed, header_one, log_batch_length, log_batch_spelled, readable}
pub use Rattle.raft_records.proofs.GroupLemmas.{is_reserved_key, marker_is, marker_written, reserved_is, reserved_test}
pub use Rattle.raft_records.proofs.HeaderLemmas.{unknown_type}
pub use Rattle.raft_records.proofs.ItemLemmas.{same_length}
pub use Rattle.raft_records.proofs.Names.{part_signature}
pub use Rattle.raft_records.proofs.PartLemmas.{batch_inside, one_batch_more, written_stands}
pub use Rattle.raft_records.proofs.SealLemmas.{content_is}
pub use Rattle.raft_records.proofs.StringLemmas.{cut_joined}
pub use Rattle.raft_records.specs.Entries.{strings_in, with_lengths}
pub use Rattle.raft_records.specs.EntryBlock.{HasEntryBlock}
pub use Rattle.raft_records.specs.Faults.{IsAnyCorruption}
pub use Rattle.raft_records.specs.FilePart.{AreBatchesUpTo, IsBatchAt, IsNextFault, Part, StandBetween, part_of}
pub use Rattle.raft_records.specs.Group.{AtomicGroupBuilder, IsGroupMarkerFault, IsGroupMarkerRead, IsKeyRefusal, IsRunning, group_marker_item, is_reserved, marker_byte, marker_byte_in, marker_of, reserved_key, status_byte, status_of}
unfoldable pub use Rattle.raft_records.specs.Group.{first_marker}
pub use Rattle.raft_records.specs.Header.{IsEntryBlockOf, IsHeader, IsLentBlockFault}
pub use Rattle.raft_records.specs.Item.{AreInBytes, Content, Item, bare, command, entries, entries_item, item_of, pair, pair_item}
pub use Rattle.raft_records.specs.ItemBatch.{HasSeal, checksum_bytes, entry_lengths, placed_content, placed_item, raised_item, with_offsets_from}
pub use Rattle.raft_records.specs.LogBatch.{Batch, IsBatchOf, IsLogBatch, IsReadable, Stage, approximate_length, empty_batch, encoded, encoded_length, entry_block, entry_place, header_bytes, is_open, log_batch_bytes, sealed, with_batch, with_item}
pub use Rattle.raft_records.specs.Range.{AreInRange}
pub use Rattle.raft_records.specs.ReadBatch.{items_shown}
pub use Rattle.raft_records.specs.declared.atomic_group.AtomicGroupStatus.{AtomicGroupStatus}
pub use Rattle.raft_records.specs.declared.atomic_group.AtomicGroupStatus.TheVariants.{End, Middle}
pub use Rattle.raft_records.specs.declared.key_value.OpType.{OpType}
pub use Rattle.raft_records.specs.declared.log_item.LogItem.{LogItem}
pub use Rattle.raft_records.specs.declared.read_batch.ReadItem.{ReadItem}
pub use Rattle.raft_recover.proofs.FileLemmas.{as_many, same_read, segments_are_of}
pub use Rattle.raft_recover.specs.Files.{AreWholeFiles, FilesCannotBeRead, FilesHold, bytes_of_files, segment_shown, whole_file}
pub use Rattle.raft_recover.specs.Recovery.{AreBothRecovered, IsRecovered, MayReplayBoth}
pub use Rattle.raft_replay.proofs.MachineOrderLemmas.{each_cut, each_more, segments_read_of_queue, unread_behind}
pub use Rattle.raft_replay.proofs.ReplayedLemmas.{none_replayed, replayed_more}
pub use Rattle.raft_replay.proofs.SegmentLemmas.{batch_none, batch_unique, item_between, item_taken, part_unique, parts_unique, segments_unique}
pub use Rattle.raft_replay.proofs.StopLemmas.{longer_front}
pub use Rattle.raft_replay.proofs.Words.{PartHolds, PartsHold}
pub use Rattle.raft_replay.specs.Cuts.{bytes_before}
pub use Rattle.raft_replay.specs.Replays.{HasReplayed, IsReplayed}
pub use Rattle.raft_replay.specs.Segments.{AreHeldInTurn, CannotBeRead, EachHolds, HoldsFrom, SegmentsAreOf, SegmentsHold, parts_within}
pub use Rattle.raft_replay.specs.Stops.{CannotFollowAt, GoneOn, IsNothing, IsUnreadableAt, StopsAmong, history_in, queue_text}
pub use Rattle.raft_replay.specs.WrittenParts.{bytes_of_parts, bytes_of_segments, written_event}
pub use Rattle.raft_table.proofs.BlockJoins.{other_place_is, same_place_self}
pub use Rattle.raft_table.proofs.FetchLemmas.{appended_before_is}
pub use Rattle.raft_table.proofs.KeyValueReads.{entries-empty}
pub use Rattle.raft_table.proofs.LastWordLemmas.{last_pair_stands}
pub use Rattle.raft_table.proofs.MarkTables.{own_keys}
pub use Rattle.raft_table.proofs.PlaceLemmas.{each_placed, placed_each, placed_in_other}
pub use Rattle.raft_table.proofs.RunLemmas.{placed_in-append}
pub use Rattle.raft_table.proofs.Shown.{first_of_both, less, second_of_both}
pub use Rattle.raft_table.proofs.SoundLemmas.{AreTableEntries-drop, AreTableEntries-take}
pub use Rattle.raft_table.specs.Counts.{Counts}
pub use Rattle.raft_table.specs.Fetches.{Fetches, appended_before, are_same_places, block_count, change_count, range_answer}
pub use Rattle.raft_table.specs.KeyValues.{Keys, Stored, file_at, is_up_to, key_value, moved_to, pairs_shown, pairs_up_to, value_at, with_moved}
pub use Rattle.raft_table.specs.Least.{least_of}
unfoldable pub use Rattle.raft_table.specs.Marks.{entries_within}
pub use Rattle.raft_table.specs.Overlay.{deleted_of, greatest_compaction, has_clean, is_unjoined, kept_if, least_cut, overlaid_table, overlay}
pub use Rattle.raft_table.specs.Queues.{is_same}
pub use Rattle.raft_table.specs.Rewriting.{entries_after_rewrite, is_misplaced, is_placed_before, may_move}
pub use Rattle.raft_table.specs.Scan.{VisitsUntilFalse, is_between, pairs_between}
pub use Rattle.raft_table.specs.Start.{entries_after_replay}
pub use Rattle.raft_table.specs.Steps.{AtomicGroup, Clean, Compact, Del, Run, Step, Truncate, after, after_step, table_of}
pub use Rattle.raft_table.specs.Table.{Table, empty_table, passes_gate, rewritten_in, rewritten_pair}
pub use Rattle.raft_table.specs.TableEntries.{AreTableEntries, IsRunIn, entry_at, entry_count}
unfoldable pub use Rattle.raft_table.specs.TableEntries.{is_placed_in, placed_in}
pub use Rattle.raft_tail.specs.Tails.{IsBrokenOff, IsNextElsewhere, IsNextSound}
pub use Rattle.raft_engine.specs.BatchBytes.{bytes_for, event_at, place_at, placed_at}
pub use Rattle.raft_engine.specs.BlockReads.{AreBytesIn, AreNoBytesIn, IsBlockOf, IsKeptOf, IsNoBlockOf, IsOfEntry, IsSoundRead, IsUnsoundRead}
pub use Rattle.raft_engine.specs.Broken.{IsBroken, IsBrokenTelling}
pub use Rattle.raft_engine.specs.CutFiles.{AreCut, IsLastCut}
pub use Rattle.raft_engine.specs.CutTails.{IsTailOf, IsTailTold, IsTornAs, tail_of}
pub use Rattle.raft_engine.specs.DamagedBatches.{AreDamagedBatches, AreDamagedTold, IsDamagedBatch, offsets}
pub use Rattle.raft_engine.specs.DamagedStretches.{AreDamagedBetween, AreReached, IsGathered, IsReachedAt}
pub use Rattle.raft_engine.specs.EntryReads.{AreFetched, AreOfRange, answer_of}
pub use Rattle.raft_engine.specs.FileFailures.{FailsAmong, Failures}
pub use Rattle.raft_engine.specs.FileSegments.{AreSegmentsOfFiles}
pub use Rattle.raft_engine.specs.FoundFiles.{AreAccepted, AreReadyBy, BeginsInOther, IsCut, IsFirstBegun, IsFoundFault, IsLastOfOther, IsLastRefused, IsOfEngine, IsOfOther, IsOtherAs, IsOtherText, IsRefusalText, IsRefusedAt, IsTailRefused, IsTailRefusedAs, IsTornFrom, IsUntorn}
pub use Rattle.raft_engine.specs.FoundFiles.{StandTogether, engine_header, in_other, other_version}
pub use Rattle.raft_engine.specs.FoundQueues.{IsFoundQueue, IsLastOf, IsMissingOf, IsReadyQueue, begun_or_first, known_with, left_by}
pub use Rattle.raft_engine.specs.FoundRecords.{FoundRecordsLast, HaveEverRecords}
pub use Rattle.raft_engine.specs.GroupAsks.{AreGroupBatchesStored, BegunGroupsAreStored, EndedGroupsArePut, EndedGroupsAreStored, GroupsGoOnStored, IsGroupBegun, IsOfGroup, MovedGroupsAreStored}
pub use Rattle.raft_engine.specs.GroupBatches.{ArePartsRead, EntriesPart, IsGroupMoving, batches_behind, group_batches, marker_batch, part_batch, placed_from, puts_asks}
pub use Rattle.raft_engine.specs.GroupParts.{AreCutInto, ArePartsAdded, ArePartsRefused, IsGroupInParts, IsGroupRefused, IsPartRead, IsPartRefused, entries_of_parts}
pub use Rattle.raft_engine.specs.GroupPlaces.{AreFirstPut, BeginInTime, IsOneTooLong, as_encoded, end_from, items_of_batches}
pub use Rattle.raft_engine.specs.JoinedFiles.{BatchesJoin, FilesJoin, FoundFilesJoin}
pub use Rattle.raft_engine.specs.KeptEngine.{IsLastFile, KeptEngine, table_in}
pub use Rattle.raft_engine.specs.KeptEngineView.{AreFilesOf, IsKeptBy, engine_shown}
pub use Rattle.raft_engine.specs.Lasting.{AreFoundIn, AreSynced, HaveBothBegun, IsBegunOrFound, IsLasting, IsLastingAfter, before_sync}
pub use Rattle.raft_engine.specs.Lives.{EntriesAreFound, FollowEachOther, IsFirstLife, IsLeftToldNothing, IsNextLife, IsNothingTold, Life, OwnFilesAreToldNothing, SyncedStaysSynced, WhatLastsIsALife, WrittenEntriesAreFound, at_stop}
pub use Rattle.raft_engine.specs.Markers.{AreOutOfRows, HaveRows, NoneIsHeld, NoneIsInRows}
pub use Rattle.raft_engine.specs.Moments.{CallsGoOn, FindNoFiles, MomentsGoOn}
pub use Rattle.raft_engine.specs.Moved.{AreFirstMoved, AreRegions, AreRegionsRewritten, AreSomeRewritten, AreToMove, IsBatchHalfMoved, IsBatchMoved, IsBatchUnmoved, IsHalfTold, IsMoving, IsOnlyRead, IsReady, IsRegionRewritten, IsRegionUnmoved, IsRewritten, IsTold, IsUnrewritten}
pub use Rattle.raft_engine.specs.Moved.{IsUntold}
pub use Rattle.raft_engine.specs.MovedAgain.{AreMovedAgain, AreUnmovedAgain, IsRewriteRotated, IsRewriteRotationRefusal}
pub use Rattle.raft_engine.specs.MovedAsks.{MovedBatchesAreStored, PutBatchesAreStored, ReadsAreStored}
pub use Rattle.raft_engine.specs.MovedGroups.{AreRegionsMovedAgain, AreSomeRegionsMovedAgain, IsGroupHalfMoved, IsGroupMoved, IsGroupOf, IsGroupUnmoved, IsOnePartOf, IsRegionMovedAgain, IsRegionUnmovedAgain}
pub use Rattle.raft_engine.specs.NamedEntries.{EntriesAreSoundOrNamed, IsSoundOrNamed}
pub use Rattle.raft_engine.specs.OfVersion.{NoneIsOther, PrefixesAreNotOther, StaysOfVersion, WhatIsLeftIsNotOther}
pub use Rattle.raft_engine.specs.Opened.{AreRead, IsOpened}
pub use Rattle.raft_engine.specs.Opening.{AreRecovered}
pub use Rattle.raft_engine.specs.OpeningAsks.{AreWanted, asks_that_tell, missing_asks, opening_asks}
pub use Rattle.raft_engine.specs.Parts.{AreOnePart, IsCapped, IsFirstBlock, IsFirstPart, bytes_of_entries}
pub use Rattle.raft_engine.specs.Purged.{AreDeleted, AreExpired, AreFilesPurged, AreFilesUnpurged, BeginWithNeeded, IsExpired, IsHalfPurged, IsLeastNeeded, IsPurgeRefusal, asks_of_items, delete_asks, front_below, least_among, lowered, purge_asks, put_asks}
pub use Rattle.raft_engine.specs.QueueFilesOf.{AreOf, IsQueueShorterBy, files_known}
pub use Rattle.raft_engine.specs.ReadBack.{IsReadBack, IsReadBackAlone, MovedBatchesAreReadBack, MovedGroupsAreReadBack, NoneFound, NothingMoved, WrittenBatchesAreReadBack}
pub use Rattle.raft_engine.specs.ReadContexts.{AreReadBy, HasReadAll}
pub use Rattle.raft_engine.specs.ReadFound.{AreReadFound, AreReadyFiles, IsNoRefusal, reading_asks}
pub use Rattle.raft_engine.specs.ReadQueues.{AreBothReadUpTo, IsHistoryUpTo, IsReadUpTo, IsReplayedTo}
pub use Rattle.raft_engine.specs.Reads.{AreOnlyRead, AreReadByBlocks, AreReads, AreUnread, IsDamaged, IsNothingRead, IsReadAmong, NamesEntry}
pub use Rattle.raft_engine.specs.Restarts.{AreFromBefore, AreOpenable, AreSegmentsOf, AreTailsTolerated, FoundContentsStay, FoundEntriesStay, HaveSame, IsFoundByRestarts, IsKeptByRestarts, IsKeptUnordered, ModesAcceptMore, OpenedFoundUndamaged, OpeningsOverSucceed}
pub use Rattle.raft_engine.specs.Restarts.{OpeningsSucceed, RestartsFind, StandsInCut, SyncedBatchesLast}
pub use Rattle.raft_engine.specs.Rewriting.{IsBatchMoving, IsNextPart, batch_of, moving_entries, moving_pairs, pairs_with, puts_of, with_puts}
pub use Rattle.raft_engine.specs.RoundTrip.{AreReadOf, HasAllAppended, IsFoundIn, IsReadingOf, IsRecoveredAs, IsRoundTrip, ReadBackIsRoundTrip}
pub use Rattle.raft_engine.specs.RowsShown.{AreUnmarked, IsMarkedAs, IsUnmarked, marked_shown, marker_shown, rows_shown}
pub use Rattle.raft_engine.specs.SoundBlocks.{AreBlocksSound, HasSoundBlock, IsFileSound, IsLastSound, IsLastUnsoundAs, IsPartSound, IsUnsoundAs, NoneIsUnsound, damaged_entries_text}
pub use Rattle.raft_engine.specs.Stored.{AreAllDone, AreEverLasting, AreKeptStored, AreStored, Bases}
pub use Rattle.raft_engine.specs.StoredAsks.{DeletionsAreStored, FailedSyncsAreStored, FirstFilesAreStored, IsWritableBatch, NewFilesAreStored, SyncsAreStored, ToldBatchesAreStored, WhatIsDoneLasts, WrittenBatchesAreStored}
pub use Rattle.raft_engine.specs.StoredFound.{AreMadeReady, AreReady, AreStoredBeside, FoundFilesAreReady, FoundFilesAreStored, found_asks, told_asks}
pub use Rattle.raft_engine.specs.TailsFound.{IsTailFrom}
pub use Rattle.raft_engine.specs.Unmoved.{AreKeysRefused, AreRecordsRefused, IsBatchRefused}
pub use Rattle.raft_engine.specs.Unopened.{AreManyAs, AreUngroupedAs, AreUnreadableAs, AreUnrecoveredAs, IsHalfOpened, IsOpeningRefusal, IsReadingFault, IsRecoveryFault, IsTooLongAs, IsUnopened, MayRecover, Refusal}
pub use Rattle.raft_engine.specs.Untaken.{AreTaken, AreUntaken}
pub use Rattle.raft_engine.specs.WellPut.{AreWellPut}
pub use Rattle.raft_engine.specs.WrittenBatch.{AreCutShort, IsHalfRotated, IsHalfWritten, IsLastFull, IsNextRefused, IsOneMore, IsRefusal, IsRotated, IsRotationRefusal, IsUnsynced, IsUnwritten, LacksRoom, file_of, next_asks, synced_if}
pub use Rattle.raft_engine.specs.declared.block_reads.EntryBlock.{EntryBlock}
pub use Rattle.raft_engine.specs.declared.both_reading.BothRead.{BothRead}
pub use Rattle.raft_engine.specs.declared.found_queue.FoundQueue.{FoundQueue}
pub use Rattle.raft_engine.specs.declared.group_rows.GroupRows.{GroupRows}
pub use Rattle.raft_engine.specs.declared.group_rows.MarkedBatch.{MarkedBatch}
pub use Rattle.raft_engine.specs.declared.missing.Missing.{Missing}
pub use Rattle.raft_engine.specs.declared.missing.Missing.TheVariants.{FirstFile, Nothing}
pub use Rattle.raft_engine.specs.declared.queue_files.QueueFiles.{QueueFiles}
pub use Rattle.raft_engine.specs.declared.reading.Reading.{Reading}
pub use Rattle.raft_engine.specs.declared.reading.Ready.{Ready}
pub use Rattle.raft_engine.specs.declared.recovered.CutTail.{CutTail}
pub use Rattle.raft_engine.specs.declared.recovered.DamagedBatch.{DamagedBatch}
pub use Rattle.raft_engine.specs.declared.recovery_mode.RecoveryMode.{RecoveryMode}
pub use Rattle.raft_engine.specs.declared.recovery_mode.RecoveryMode.TheVariants.{AbsoluteConsistency, TolerateTailCorruption, TolerateTornTail}
