-- What proofs of this crate import of std, of the definitions and of the crates below, in one place.
pub use Rattle.std.proofs.Common.{Bool, List, None, Option, [], ap, append-nil, append_assoc, arith, codes, decimal, drop, false, flat_map, inl, inr, length, length-append, length-drop, length-take-le, map, refl, string_bytes, subst, sym, take, take-append-drop, ℕ, ◌++◌, ◌+◌}
pub use Rattle.std.proofs.Common.{◌-◌, ◌<◌, ◌∙◌, ◌∷◌, ◌≡◌, ◌≢◌, ◌≤◌, ◌⊎◌}
pub use Rattle.std.proofs.Math.Seq.{take-append-add}
pub use Rattle.std.proofs.lemmas.List.{drop_more}
pub use Rattle.std.proofs.lemmas.List.Elements.{Contains-get_or}
pub use Rattle.std.proofs.lemmas.Result.{IfErr-weaker, err_from_is_err_and, on_ok_weaker}
pub use Rattle.std.specs.List.{AllByRecursion}
pub use Rattle.std.specs.declared.io.ErrorKind.{ErrorKind}
pub use Rattle.raft_base.specs.declared.errors.Error.{Error}
pub use Rattle.raft_base.specs.declared.pipe_log.FileId.{FileId}
pub use Rattle.raft_base.specs.declared.pipe_log.LogFileContext.{LogFileContext}
pub use Rattle.raft_base.specs.declared.pipe_log.LogQueue.{LogQueue}
pub use Rattle.raft_base.specs.declared.pipe_log.LogQueue.TheVariants.{Append, Rewrite}
pub use Rattle.raft_base.specs.declared.pipe_log.Version.{Version}
pub use Rattle.raft_listing.proofs.TextLemmas.{four_added, if_appended}
pub use Rattle.raft_listing.specs.Dumped.{IsDumped, is_damaged_after}
pub use Rattle.raft_listing.specs.LossWords.{loss_words}
pub use Rattle.raft_listing.specs.Missing.{missing_between}
pub use Rattle.raft_listing.specs.Scanned.{AreSaidOf, IsSaidOfContent, IsScanned}
pub use Rattle.raft_listing.specs.SoundParts.{AreRead, AreSoundBetween, IsContentRead, IsSoundPart}
pub use Rattle.raft_listing.specs.Walks.{AreVisited, HasWalked, IsWalkFrom, Met, batch, damage}
pub use Rattle.raft_listing.specs.declared.damage.Damage.{Damage}
pub use Rattle.raft_listing.specs.declared.damage.DamageKind.TheVariants.{Batch}
pub use Rattle.raft_listing.specs.declared.dump.Dump.{Dump}
pub use Rattle.raft_listing.specs.declared.scan.FileScan.{FileScan}
pub use Rattle.raft_listing.specs.declared.selection.Selection.{Selection}
pub use Rattle.raft_prefix.specs.Pieces.{IsDecided}
pub use Rattle.raft_reading.proofs.PieceLemmas.{none_read, read_more}
pub use Rattle.raft_reading.specs.FilesRead.{IsAppended, IsReadFault, IsUnread, joined}
pub use Rattle.raft_reading.specs.IoErrors.{IoError}
pub use Rattle.raft_reading.specs.QueueRead.{file_of}
pub use Rattle.raft_reading.specs.declared.queue_files.FileSize.{FileSize}
pub use Rattle.raft_records.proofs.BufferLemmas.{header_len}
pub use Rattle.raft_records.proofs.FramedAt.{framed_at}
pub use Rattle.raft_records.proofs.PartLemmas.{batch_inside}
pub use Rattle.raft_records.specs.FilePart.{HasHeader, Part, part_of}
pub use Rattle.raft_records.specs.Item.{Content, Item, command, entries, pair}
pub use Rattle.raft_records.specs.Lines.{IsIoError}
pub use Rattle.raft_replay.proofs.CutPartLemmas.{batch_header, header_ends}
pub use Rattle.raft_replay.proofs.Passed.{on_passed}
pub use Rattle.raft_replay.specs.Stops.{IsIoOfKind}
pub use Rattle.raft_survey.specs.DumpedFiles.{AreDumped, DumpSoFar, IsAddedToDump}
pub use Rattle.raft_survey.specs.FileScans.{AreScansOf, IsScanOf}
pub use Rattle.raft_survey.specs.FileWalks.{AreBatchesByHeader, AreBothWalked, AreFilesWalked, AreWalkedFrom, HasNoWhole, HasWalkedFile, IsBatchByHeader, IsOneUnread, IsPrefixWalked, LeadsNowhere}
pub use Rattle.raft_survey.specs.Reported.{batches_words, damage_line, damage_words, end_words, entries_words, file_line, length_words, missing_line, missing_text, place_words, unsearched_words, unseen_line}
pub use Rattle.raft_survey.specs.SoundFiles.{AreSoundFiles, AreSoundParts, IsSoundFile}
