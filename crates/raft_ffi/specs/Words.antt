-- What the contracts and the proofs of this crate import of std, of the crates below and of the definitions, in one place.
pub use Rattle.std.specs.Box.Ownership.{box_owns}
pub use Rattle.std.specs.Cmp.{IsStrictWeakOrder}
pub use Rattle.std.specs.Cmp.Lexicographic.{slice_cmp}
pub use Rattle.std.specs.Coded.{coded_option}
pub use Rattle.std.specs.Fn.{Called, ComparesAs}
pub use Rattle.std.specs.Global.{Global}
pub use Rattle.std.specs.Iterator.{Drains, Yields}
pub use Rattle.std.specs.List.{AllByRecursion, concat}
pub use Rattle.std.specs.List.Sorted.{IsPermutation}
pub use Rattle.std.specs.Option.{option_copied}
pub use Rattle.std.specs.Ordering.{is_lt, nat_cmp}
pub use Rattle.std.specs.Vec.Iter.{into_iter_items, into_iter_len, into_iter_steps}
pub use Rattle.std.specs.declared.cmp.Ordering.{Ordering}
pub use Rattle.std.specs.declared.vec.IntoIter.{IntoIter}
pub use Rattle.byteorder.specs.Endian.{little_bytes}
pub use Rattle.raft_accessor.specs.Accessor.{Accessor, slot_of, table_in}
pub use Rattle.raft_accessor.specs.AccessorCode.{accessor_code}
pub use Rattle.raft_accessor.specs.AppendChecks.{AreAcceptedOncePlaced, AreRefusedOncePlaced, IsAppendCheckFault}
pub use Rattle.raft_accessor.specs.Merges.{IsAppendedFault, IsNewerFault, with_appended, with_newer}
pub use Rattle.raft_accessor.specs.Writes.{Appending, AreItemsRefused, AreWritten, Rewriting, Writing}
pub use Rattle.raft_base.specs.Corruption.{IsCorruption}
pub use Rattle.raft_base.specs.Runs.{IsConsecutive, IsRun, RisesFrom, end_of}
pub use Rattle.raft_base.specs.Signature.{signature_of}
pub use Rattle.raft_base.specs.declared.entry_index.EntryIndex.{EntryIndex}
pub use Rattle.raft_base.specs.declared.errors.Error.{Error}
pub use Rattle.raft_base.specs.declared.pipe_log.LogQueue.TheVariants.{Append, Rewrite}
pub use Rattle.raft_base.specs.declared.pipe_log.Version.{Version}
pub use Rattle.raft_checksum.specs.Checksum.{crc32_of}
pub use Rattle.raft_codec.specs.Reading.{HasNoFront}
pub use Rattle.raft_contexts.specs.OverlaidContext.{IsMergeAppendFault, IsOfBothExactly, IsOverlaidWith}
pub use Rattle.raft_contexts.specs.RecoverContext.{HasRead, HasReadExactly, IsMergedWith, IsNeighborFault, RecoverContext, blank_context}
pub use Rattle.raft_contexts.specs.RecoverContextCode.{recover_context_code}
pub use Rattle.raft_contexts.specs.declared.context_stage.ContextStage.TheVariants.{Failed, Reading}
pub use Rattle.raft_engine.specs.FoundFiles.{IsFoundFault}
pub use Rattle.raft_engine.specs.KeptEngine.{KeptEngine}
pub use Rattle.raft_engine.specs.KeptEngineCode.{engine_code}
pub use Rattle.raft_engine.specs.Moved.{IsRewritten, IsUnrewritten}
pub use Rattle.raft_engine.specs.MovedAgain.{AreMovedAgain, AreUnmovedAgain}
pub use Rattle.raft_engine.specs.Opened.{IsOpened}
pub use Rattle.raft_engine.specs.Purged.{ArePurged, IsUnpurged}
pub use Rattle.raft_engine.specs.PurgedRewrites.{AreRewritesPurged, AreRewritesUnpurged}
pub use Rattle.raft_engine.specs.ReadFound.{AreReadFound}
pub use Rattle.raft_engine.specs.ReadQueues.{HaveBothRead, HaveBothReadExactly}
pub use Rattle.raft_engine.specs.Rewriting.{moving_entries, moving_pairs}
pub use Rattle.raft_engine.specs.StoredFound.{found_asks}
pub use Rattle.raft_engine.specs.Unopened.{AreBothAccepted, AreUngroupedAs, IsOpeningRefusal, IsUnopened}
pub use Rattle.raft_engine.specs.WrittenBatch.{IsRotated, IsUnrotated, IsUnsynced, IsUnwritten}
pub use Rattle.raft_engine.specs.declared.recovery_mode.RecoveryMode.{RecoveryMode}
pub use Rattle.raft_files.specs.Asks.{Ask}
pub use Rattle.raft_history.specs.Batches.{Event}
pub use Rattle.raft_history.specs.Histories.{Sound}
pub use Rattle.raft_history.specs.Kept.{kept_of}
pub use Rattle.raft_prefix.specs.Blocks.{damaged_entries_text}
pub use Rattle.raft_orders.specs.Orders.{act_of, ask_of, length_put, next_to_do}
pub use Rattle.raft_orders.specs.Refusals.{HandedFails}
pub use Rattle.raft_records.specs.Entries.{entry_with_index}
pub use Rattle.raft_records.specs.Faults.{IsAnyCorruption}
pub use Rattle.raft_records.specs.FilePart.{AreBatchesUpTo, IsNext, IsNextFault, part_of}
pub use Rattle.raft_records.specs.Group.{IsKeyRefusal, reserved_key}
pub use Rattle.raft_records.specs.Header.{IsEntryBlockOf, IsHeader}
pub use Rattle.raft_records.specs.Item.{Item, bare, command_item, content_of, item_of, pair_item}
pub use Rattle.raft_records.specs.LogBatch.{Batch, IsLogBatch, IsReadable, IsSealedStage, approximate_length, empty_batch, encoded, encoded_length, is_open, log_batch_bytes, sealed, stage_number, with_batch, with_entries_added, with_item}
pub use Rattle.raft_records.specs.Sizes.{HaveSmallNumbers}
pub use Rattle.raft_records.specs.declared.command.Command.TheVariants.{Clean, Compact, Truncate}
pub use Rattle.raft_records.specs.declared.key_value.OpType.TheVariants.{Del, Put}
pub use Rattle.raft_records.specs.declared.log_item.LogItem.{LogItem}
pub use Rattle.raft_replay.specs.Replays.{CannotFollow, HasReplayed}
pub use Rattle.raft_replay.specs.Segments.{HoldsFrom}
pub use Rattle.raft_replay.specs.Stops.{IsStoodFor, StopsByFault}
pub use Rattle.raft_table.specs.Change.{IsAllowed, IsAnswer, IsChangeFault, after_change}
pub use Rattle.raft_table.specs.Counts.{live}
pub use Rattle.raft_table.specs.Fetches.{IsFetchFault, appended_before, range_answer}
pub use Rattle.raft_table.specs.KeyValues.{Keys, Stored, pairs_shown, pairs_up_to}
pub use Rattle.raft_table.specs.Scan.{is_below, is_between}
pub use Rattle.raft_table.specs.Steps.{table_of}
pub use Rattle.raft_table.specs.TableEntries.{IsRunIn, entry_at, placed_in, start_of}
pub use Rattle.raft_ffi.specs.Batches.{AcceptsOncePlaced, at_stage, cleans_of, place_at, written_to}
pub use Rattle.raft_ffi.specs.Calls.{AllHold, BothHold, Holds, IsChangedIfMemory, IsChangedOrRefused, IsCodeFor, IsCodeForBoth, IsCodeOf, IsFound, IsMadeIfMemory, IsRead, IsReadIfMemory, IsReadOrRefused, code_of, file_of, id_of, next_shown}
pub use Rattle.raft_ffi.specs.Calls.{queue_of, version_of}
pub use Rattle.raft_ffi.specs.Changes.{AreAllOrSomeWritten, AreAppended, AreDropped, AreMergedOrLeft, AreRewritten, AreUnappended, AreUnrewritten, IsChangeOr, IsChangedTo, IsCompacted, IsDeleted, IsGroupSet, IsKeyRewritten}
pub use Rattle.raft_ffi.specs.Changes.{IsKeyUnrewritten, IsMemoryOr, IsPut, IsRemoved, IsStoppedAt, IsTruncated, IsUnput, no_tables, without_cleaned}
pub use Rattle.raft_ffi.specs.Contexts.{AreOfTwoQueues, AreTablesOf, AreUnsound, HasBothRead, HasTablesRead, IsOfFailed, IsOverlaidExactly, StandsForBoth, StandsForBothExactly}
pub use Rattle.raft_ffi.specs.Engines.{AreTailsIn, IsSynced, IsTailIn, IsUnwrittenAs, IsWrittenOrNone, Lasts, act_of_kind, ask_in, mode_of}
pub use Rattle.raft_ffi.specs.EntryData.{entry_of}
pub use Rattle.raft_ffi.specs.Handles.{handle_owned}
pub use Rattle.raft_ffi.specs.ItemLists.{IsHeadOf, entries_at, key_at, kind_of, number_of, value_at}
pub use Rattle.raft_ffi.specs.KeptNumbers.{AreKept, capped}
pub use Rattle.raft_ffi.specs.Lengths.{HasLength}
pub use Rattle.raft_ffi.specs.Pairs.{AreInKeyOrder, ArePairsIn, AreScanned, AreScannedIn, bound_in, bytes_of, lengths_of, pairs_of_both}
pub use Rattle.raft_ffi.specs.ReadQueues.{AreBothReadAs, AreSomeReadAs, IsFrontRead, IsLastReadTo, IsLeftRead, IsOpenedAs, IsQueueReadAs, IsReadOnAs, IsReadTo, IsReadyAs, IsTailBehind, IsUnopenedAs, size_in}
pub use Rattle.raft_ffi.specs.Readers.{ArePassedBy, AreReadersUnsound, BatchesRead, HasBothFound, HasReadNothing, IsNoneFound, IsReplayedBy, ReaderSeen, ReadersStand, ReadersStandExactly, reader_code}
pub use Rattle.raft_ffi.specs.Reads.{AreRegionsIn, IsEntryIn, IsFetched, IsSummaryIn, IsValueIn, value_in}
pub use Rattle.raft_ffi.specs.Rooms.{AreEntriesIn, HasText, IsCopied, IsCopiedIfAny, IsRefusedFor, IsTextIn, IsTextOf, copied_over}
pub use Rattle.raft_ffi.specs.Slots.{AcceptsShareOncePlaced, IsAppendTested, IsMoveFault, IsMoved, IsShareRefused, share_of}
pub use Rattle.raft_ffi.specs.Strings.{HasStrings, entries_from, sized_entries, strings_of}
pub use Rattle.raft_ffi.specs.Summaries.{number_in}
pub use Rattle.raft_ffi.specs.Taking.{IsTaking, IsWaiting}
