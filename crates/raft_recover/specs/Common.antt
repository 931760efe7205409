-- What the contracts and the proofs of this crate import of std, of the crates below and of the definitions, in one place.
pub use Rattle.std.specs.Char.{digit_value}
pub use Rattle.std.specs.Global.{Global}
pub use Rattle.std.specs.Io.KnownBytes.{Appends, Keeps}
pub use Rattle.std.specs.IoError.{error_kind}
pub use Rattle.std.specs.List.{AllByRecursion}
pub use Rattle.std.specs.List.Sorted.{IsNonDecreasingBy}
pub use Rattle.std.specs.Str.Parse.{AllDigits}
pub use Rattle.std.specs.Thread.{IsSync}
pub use Rattle.raft_accessor.specs.Accessor.{Accessor, AreCountsOf}
pub use Rattle.raft_base.specs.Errors.{IsInvalidArgument}
pub use Rattle.raft_base.specs.Reading.{HasNoFront}
pub use Rattle.raft_base.specs.Signature.{signature_in}
pub use Rattle.raft_base.specs.declared.errors.Error.{Error}
pub use Rattle.raft_base.specs.declared.pipe_log.FileId.{FileId}
pub use Rattle.raft_base.specs.declared.pipe_log.LogFileContext.{LogFileContext}
pub use Rattle.raft_base.specs.declared.pipe_log.LogQueue.{LogQueue}
pub use Rattle.raft_base.specs.declared.pipe_log.LogQueue.TheVariants.{Append, Rewrite}
pub use Rattle.raft_base.specs.declared.pipe_log.Version.{Version}
pub use Rattle.raft_contexts.specs.OverlaidContext.{IsOfBothExactly}
pub use Rattle.raft_contexts.specs.RecoverContext.{HasRead, HasReadExactly, RecoverContext}
pub use Rattle.raft_contexts.specs.declared.context_stage.ContextStage.{ContextStage}
pub use Rattle.raft_history.specs.Batches.{Event}
pub use Rattle.raft_history.specs.BothQueues.{IsReadingOfBoth}
pub use Rattle.raft_history.specs.Contexts.{Suits, files_of}
pub use Rattle.raft_history.specs.Histories.{Apart, IsOfQueue, IsOneReading, IsSmall, IsSoundIn, Sound}
pub use Rattle.raft_history.specs.RegionSteps.{Tables}
pub use Rattle.raft_history.specs.RewrittenRecords.{AreRewrittenFrom, HaveSameRecords}
pub use Rattle.raft_records.specs.FilePart.{HasHeader, IsBatchAt, IsNextFault, Part}
pub use Rattle.raft_records.specs.Item.{Item, item_of}
pub use Rattle.raft_records.specs.Lines.{AppendsFront, IsIoError}
pub use Rattle.raft_records.specs.LogBatch.{IsReadable}
pub use Rattle.raft_replay.specs.Cuts.{AreCutInTurn}
pub use Rattle.raft_replay.specs.Replays.{HasReplayed, IsReplayed}
pub use Rattle.raft_replay.specs.Segments.{CannotBeRead, EachHolds, MayReplay, SegmentsAreOf, SegmentsHold, parts_within}
pub use Rattle.raft_replay.specs.Stops.{GoneOn, IsNothing, IsStoodFor, StopsAmong}
pub use Rattle.raft_replay.specs.WrittenParts.{bytes_of_segments}
pub use Rattle.raft_recover.specs.AskedRequests.{IsAsked, asks_for, path_shown}
pub use Rattle.raft_reading.specs.FilesRead.{IsAppended}
pub use Rattle.raft_reading.specs.IoErrors.{IoError}
pub use Rattle.raft_reading.specs.QueueRead.{AreAllRead, IsQueueReplayed, IsQueueStop}
pub use Rattle.raft_recover.specs.FileRecovery.{AreOverfull, AreSizesOf, IsFilesPrintFailure, IsFilesRefusal, IsNamed, IsRecoveredFrom, NamedGives, PrintsFiles, PrintsFrontOfFiles, bytes_of_sizes}
pub use Rattle.raft_recover.specs.Files.{AreWholeFiles, FilesCannotBeRead, FilesHold, IsPrintFailure, PrintsRecovered, bytes_of_files, file_shown, segment_shown, whole_file}
pub use Rattle.raft_recover.specs.Programs.{IsFrontPrinted, IsPrinted, IsRecoveryFrontPrinted, IsRecoveryPrinted}
pub use Rattle.raft_recover.specs.Recovery.{AreBothRecovered, IsRecovered, MayReplayBoth}
pub use Rattle.raft_recover.specs.Requests.{AreFilesOf, ArePathsNamed, AskedRecovery, AsksBatch, AsksNothing, AsksRecovery, IsFilesFault, IsNumberWord, IsPathWord, NamesContext, NamesPath, NumberedBytes, NumberedPath, queue_word}
pub use Rattle.raft_recover.specs.Requests.{refusal_word, version_word}
pub use Rattle.raft_recover.specs.ScanRequests.{AreScanned, AskedScan, AsksNoScan, AsksScan, IsScanFrontPrinted, IsScanPrinted, NamesFiles, flag_words}
pub use Rattle.raft_recover.specs.ScanWords.{scan_asked}
pub use Rattle.raft_recover.specs.Scans.{EndsWithin, IsBatchFound, IsBlockState, IsFound, IsHeaderLength, IsScanned, IsScannedFrom, are_undamaged, block_place, block_word, end_line, finding_line, is_undamaged, next_after, place_words}
pub use Rattle.raft_recover.specs.Scans.{reason_text}
pub use Rattle.raft_recover.specs.Shares.{AreDivided, IsCutInto, IsReplayedOrStopped, StopsWithin}
pub use Rattle.raft_recover.specs.TableLines.{IsTextOfTables, PrintsFrontOfTables, PrintsTables, cleaned_line, cleaned_text, live_line, range_text, region_text, seq_text, table_line}
pub use Rattle.raft_recover.specs.declared.scan.BlockState.{BlockState}
pub use Rattle.raft_recover.specs.declared.scan.Finding.{Finding}
