-- What proofs of this crate import of std, of the definitions and of the crates below, in one place.
pub use Rattle.std.proofs.Common.{Bool, Bor, Err, not, IfErr, IfNone, IfOk, IfSome, List, MatchOption, None, Ok, OnOk, Option, Result, Some, Vec, [], ap, append-nil, append_assoc, arith, codes, drop, false, get_or, inl, inr, length, map}
pub use Rattle.std.proofs.Common.{refl, rules, string_bytes, subst, suc, sym, take, take-append-drop, true, zero, ℕ, ◌&&◌, ◌++◌, ◌+◌, ◌-◌, ◌<◌, ◌^◌, ◌↔◌, ◌∙◌, ◌∷◌, ◌≡◌, ◌≢◌, ◌≤◌, ◌⊎◌}
pub use Rattle.std.proofs.lemmas.List.{drop_all, drop_more, get_or-map, length-drop, length-map, map-append, map_more, map_push, take_all}
pub use Rattle.std.proofs.lemmas.List.Elements.{All-from_recursion, All-map, recursion_from_All}
pub use Rattle.std.proofs.lemmas.List.Sorted.{IsNonDecreasingBy-from_sort_by_key, IsPermutation-map, IsPermutation-sym, IsPermutation-trans}
pub use Rattle.std.proofs.lemmas.Option.{IfSome_then}
pub use Rattle.std.proofs.lemmas.Result.{IfErr-weaker, IfOk-weaker, err_from_is_err_and, on_ok_weaker}
pub use Rattle.std.proofs.lemmas.Slice.Eq.{bytes_eq-Decides}
pub use Rattle.std.proofs.lemmas.Str.Pattern.{IsSplitOnceResult, split_after}
pub use Rattle.std.specs.List.{flat_map}
pub use Rattle.std.specs.Str.{bytes_eq}
pub use Rattle.raft_base.proofs.ConsecutiveLemmas.{end_bounded}
pub use Rattle.raft_history.proofs.RewrittenHistories.{both_same}
pub use Rattle.raft_history.proofs.SoundLemmas.{append_apart}
pub use Rattle.raft_history.proofs.StretchOfHistory.{of_both, small_front}
pub use Rattle.raft_history.proofs.Words.{records_in_history}
pub use Rattle.raft_records.proofs.PartLemmas.{batch_inside}
pub use Rattle.raft_records.proofs.PrintLemmas.{on_both}
pub use Rattle.raft_replay.proofs.CutPartLemmas.{batch_header, header_ends, uncut}
pub use Rattle.raft_replay.proofs.FewRecordLemmas.{part_few, small_segments}
pub use Rattle.raft_replay.proofs.MachineOrderLemmas.{each_cut, each_join, each_more, segments_read_of_queue}
pub use Rattle.raft_replay.proofs.ReplayedLemmas.{none_replayed, replayed_more}
pub use Rattle.raft_replay.proofs.SegmentLemmas.{item_between, item_taken, left_from, segments_unique}
pub use Rattle.raft_replay.proofs.StopLemmas.{fault_after, parts_refused, stands_sound, stops_after}
pub use Rattle.raft_replay.proofs.Words.{PartHolds, PartsAreOf, PartsHold, SegmentReads}
pub use Rattle.raft_replay.proofs.Passed.{on_passed, or_passed}
pub use Rattle.raft_recover.specs.Common.{Accessor, AllByRecursion, AllDigits, Apart, Appends, AppendsFront, AreBothRecovered, AreCountsOf, AreCutInTurn, AreDivided, ArePathsNamed, AreRewrittenFrom, AreScanned, AreWholeFiles, AskedScan}
pub use Rattle.raft_recover.specs.Common.{AsksBatch, AsksRecovery, AsksScan, BlockState, CannotBeRead, ContextStage, EachHolds, EndsWithin, Error, Event, FileId, FilesCannotBeRead, FilesHold, Finding, Global, GoneOn, HasHeader, HasRead}
pub use Rattle.raft_recover.specs.Common.{HasReadExactly, HasReplayed, HaveSameRecords, IsBatchAt, IsBatchFound, IsBlockState, IsCutInto, IsFound, IsHeaderLength, IsIoError, IsNonDecreasingBy, IsNothing, IsOfBothExactly, IsOfQueue}
pub use Rattle.raft_recover.specs.Common.{IsOneReading, IsPathWord, IsPrintFailure, IsReadingOfBoth, IsRecovered, IsReplayed, IsScanned, IsScannedFrom, IsSmall, IsSoundIn, IsStoodFor, Item, LogFileContext, LogQueue, NamesContext}
pub use Rattle.raft_recover.specs.Common.{NamesFiles, NamesPath, NumberedBytes, NumberedPath, Part, PrintsFrontOfTables, PrintsRecovered, PrintsTables, RecoverContext, SegmentsAreOf, SegmentsHold, Sound, StopsAmong, StopsWithin, Suits}
pub use Rattle.raft_recover.specs.Common.{Tables, Version, are_undamaged, block_place, bytes_of_files, bytes_of_segments, cleaned_text, digit_value, end_line, file_shown, files_of, finding_line, flag_words, is_undamaged, item_of}
pub use Rattle.raft_recover.specs.Common.{next_after, parts_within, path_shown, region_text, scan_asked, segment_shown, table_line, whole_file}
pub use Rattle.raft_history.specs.Histories.{AreOfQueue}
pub use Rattle.raft_records.specs.FilePart.{part_of}
pub use Rattle.raft_replay.specs.Segments.{HoldsFrom}
pub use Rattle.raft_reading.specs.IoErrors.{IoError}
pub use Rattle.raft_reading.specs.QueueRead.{file_of}
pub use Rattle.raft_reading.specs.declared.queue_files.FileSize.{FileSize}
pub use Rattle.raft_recover.specs.Common.{AreAllRead, AreOverfull, AreSizesOf, IsAppended, IsFilesPrintFailure, IsFilesRefusal, IsNamed, IsQueueReplayed, IsQueueStop, IsRecoveredFrom, IsRecoveryFrontPrinted, IsRecoveryPrinted, NamedGives, PrintsFiles, PrintsFrontOfFiles, asks_for, bytes_of_sizes}
pub use Rattle.raft_recover.specs.Common.{AskedRecovery}
