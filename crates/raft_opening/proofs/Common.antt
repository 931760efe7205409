-- What proofs of this crate import of std, of the definitions and of the crates below, in one place.
pub use Rattle.std.proofs.Common.{Contains, Err, IfOk, List, None, Ok, Option, Result, Some, [], ap, append-nil, append_assoc, arith, drop, drop-drop, get_or, inl, inr, length, length-append, length-drop, map, refl, subst, suc, sym, take, take-append-drop, zero, ℕ, ◌++◌, ◌+◌, ◌-◌, ◌<◌, ◌^◌, ◌∙◌}
pub use Rattle.std.proofs.Common.{◌∷◌, ◌≡◌, ◌≢◌, ◌≤◌, ◌⊎◌}
pub use Rattle.std.proofs.lemmas.Bool.{false≢true}
pub use Rattle.std.proofs.lemmas.List.{drop_at, drop_more, length-map, length-replicate, length-take-le, map-append, nil_from_length, take-append-le, take_all, take_at, take_more}
pub use Rattle.std.proofs.lemmas.Result.{IfErr-weaker, IfOk-weaker, err_from_is_err_and, on_ok_weaker}
pub use Rattle.std.specs.List.{AllByRecursion, AllZip}
pub use Rattle.std.specs.List.Sorted.{IsStrictlyIncreasing}
pub use Rattle.std.specs.Global.{Global}
pub use Rattle.std.specs.Prelude.{String, Vec, replicate, slice_index, string_bytes}
pub use Rattle.raft_base.specs.Corruption.{IsCorruption}
pub use Rattle.raft_base.specs.Errors.{IsInvalidArgument}
pub use Rattle.raft_base.specs.declared.errors.Error.{Error}
pub use Rattle.raft_base.specs.declared.pipe_log.FileBlockHandle.{FileBlockHandle}
pub use Rattle.raft_base.specs.declared.pipe_log.FileId.{FileId}
pub use Rattle.raft_base.specs.declared.pipe_log.LogFileContext.{LogFileContext}
pub use Rattle.raft_base.specs.declared.pipe_log.LogQueue.{LogQueue}
pub use Rattle.raft_base.specs.declared.pipe_log.LogQueue.TheVariants.{Append, Rewrite}
pub use Rattle.raft_base.specs.declared.pipe_log.Version.{Version}
pub use Rattle.raft_contexts.specs.RecoverContext.{HasRead, HasReadExactly, RecoverContext}
pub use Rattle.raft_engine.proofs.FileNumbers.{AreReadUpTo, stand_together}
pub use Rattle.raft_engine.proofs.FoundLemmas.{begins_as, elsewhere_stands, not_other, nothing_stands, one_last, sound_stands, tolerated, whole_not_other}
pub use Rattle.raft_engine.proofs.FoundQueueLemmas.{block_fault, first_missing, is_tail, last_missing, missing_fault, tail_told}
pub use Rattle.raft_engine.proofs.GroupRowLemmas.{invalid}
pub use Rattle.raft_engine.proofs.RecoveredLemmas.{files_of_queue, long_refused, on_any}
pub use Rattle.raft_engine.specs.CutTails.{IsTailOf}
pub use Rattle.raft_engine.specs.DamagedBatches.{AreDamagedBatches, AreDamagedTold, IsDamagedBatch, offsets}
pub use Rattle.raft_engine.specs.FoundFiles.{AreApartAs, BeginsInOther, IsApartAs, IsDamageText, IsFoundFault, IsOfEngine, IsOtherText, IsRefusalText, IsRefusedAt, StandTogether, elsewhere_text, followed_text, uncut_text}
pub use Rattle.raft_engine.specs.FoundQueues.{IsLastOf, IsMissingOf, IsReadyQueue, left_by}
pub use Rattle.raft_engine.specs.Markers.{AreOutOfRows}
pub use Rattle.raft_engine.specs.OpeningAsks.{missing_asks}
pub use Rattle.raft_engine.specs.QueueFilesOf.{AreOf}
pub use Rattle.raft_engine.specs.ReadContexts.{AreReadBy}
pub use Rattle.raft_engine.specs.ReadFound.{AreReadyFiles}
pub use Rattle.raft_engine.specs.ReadQueues.{HaveBothRead, HaveBothReadExactly}
pub use Rattle.raft_engine.specs.RowsShown.{rows_shown}
pub use Rattle.raft_engine.specs.SoundBlocks.{IsUnsoundAs, IsUnsoundAt, damaged_entries_text}
pub use Rattle.raft_engine.specs.Unopened.{AreManyAs, AreUnreadableAs, AreUnrecoveredAs, IsReadingFault, IsRecoveryFault, IsTooLongAs, MayRecover, Refusal, StopsInFiles}
pub use Rattle.raft_engine.specs.declared.both.Both.{Both}
pub use Rattle.raft_engine.specs.declared.group_rows.GroupRows.{GroupRows}
pub use Rattle.raft_engine.specs.declared.missing.Missing.{Missing}
pub use Rattle.raft_engine.specs.declared.missing.Missing.TheVariants.{Cut, FirstFile, Nothing}
pub use Rattle.raft_engine.specs.declared.queue_files.QueueFiles.{QueueFiles}
pub use Rattle.raft_engine.specs.declared.reading.ReadFiles.{ReadFiles}
pub use Rattle.raft_engine.specs.declared.recovered.CutTail.{CutTail}
pub use Rattle.raft_engine.specs.declared.recovered.DamagedBatch.{DamagedBatch}
pub use Rattle.raft_engine.specs.declared.recovery_mode.RecoveryMode.{RecoveryMode}
pub use Rattle.raft_engine_laws.specs.GroupsInRows.{AreGroupsInRows}
pub use Rattle.raft_engine_laws.specs.RowSummaries.{IsSummaryOf}
pub use Rattle.raft_engine_prefixes.specs.Done.{AreConsecutive, AreRisingFrom, numbers}
pub use Rattle.raft_engine_prefixes.specs.TornTails.{IsDamagedAt, StopsAt}
pub use Rattle.raft_files.proofs.LastLemmas.{last_of}
pub use Rattle.raft_files.specs.Asks.{NumberedBytes}
pub use Rattle.raft_files.specs.Disk.{cut_last}
pub use Rattle.raft_history.proofs.StretchOfHistory.{apart_back, apart_front, small_back, small_front}
pub use Rattle.raft_history.specs.Batches.{Event}
pub use Rattle.raft_history.specs.Histories.{Apart, IsSmall, Sound}
pub use Rattle.raft_prefix.specs.Blocks.{AreUnsoundIn}
pub use Rattle.raft_prefix.specs.Prefixes.{EndsOrStops, IsKnownOf, IsPrefix, IsPrefixOf, IsPrefixReplayed, IsRestRead, IsTailRead}
pub use Rattle.raft_prefix.specs.declared.file_prefix.ReplayedPrefix.{ReplayedPrefix}
pub use Rattle.raft_reading.proofs.PieceLemmas.{read_more}
pub use Rattle.raft_reading.specs.FilesRead.{AreGivenFrom, AreRead, IsFileStop, IsReadFault, IsUnread, StopsInRead, joined}
pub use Rattle.raft_reading.specs.IoErrors.{IoError}
pub use Rattle.raft_reading.specs.QueueRead.{AreAllRead, IsAllRead, IsQueueReplayed, IsQueueStop, file_of}
pub use Rattle.raft_reading.specs.declared.queue_files.FileSize.{FileSize}
pub use Rattle.raft_records.proofs.Names.{place_between}
pub use Rattle.raft_records.proofs.PartLemmas.{batch_inside}
pub use Rattle.raft_records.specs.FilePart.{IsBatchAt, Part, part_of}
pub use Rattle.raft_records.specs.Item.{Item}
pub use Rattle.raft_records.specs.ItemBatch.{placed_item}
pub use Rattle.raft_recover.specs.FileRecovery.{AreSizesOf, IsNamed, bytes_of_sizes}
pub use Rattle.raft_recover.specs.Requests.{NumberedPath}
pub use Rattle.raft_recover.specs.Files.{FilesHold, bytes_of_files, whole_file}
pub use Rattle.raft_replay.proofs.MachineOrderLemmas.{each_join, each_single}
pub use Rattle.raft_replay.proofs.StopLemmas.{stands_sound}
pub use Rattle.raft_replay.specs.Cuts.{rest_of}
pub use Rattle.raft_replay.specs.Replays.{HasReplayed}
pub use Rattle.raft_replay.specs.Segments.{EachHolds, HoldsFrom}
pub use Rattle.raft_replay.specs.Stops.{GoneOn, IsNothing, IsStoodFor, IsUnreadableAt, StopsIn}
pub use Rattle.raft_tail.specs.Tails.{IsBrokenOff, IsElsewhere, IsFirst, IsNextElsewhere, IsNextSound, IsNowhere, IsSignedFor, IsSoundAt, in_file}
pub use Rattle.raft_opening.specs.FolderPaths.{path_shown}
pub use Rattle.raft_opening.specs.NamedBatches.{AreNamed, IsDamageNamed}
pub use Rattle.raft_opening.specs.ReadOnce.{AreClosedAndLastRead, AreDamagedLast, AreReplayed, Giving, IsLastReplayed, IsStandingFor, before_tail}
pub use Rattle.raft_opening.specs.SizedFiles.{AreKnownOf, AreLeft, AreNumbersApartAs, AreSized, GiveOnly, GivesOnly, IsKnownLast, IsPartFault, IsReadRefusal, IsRestOf, IsSizedQueue, IsTailAccepted, kept_by, numbers_of, size_of}
pub use Rattle.raft_opening.specs.declared.last_file.LastRead.{LastRead}
pub use Rattle.raft_opening.specs.declared.queue_read.QueueReplayed.{QueueReplayed}
pub use Rattle.raft_opening.specs.declared.sized_files.SizedQueue.{SizedQueue}
