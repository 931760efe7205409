-- What proofs of this crate import of std, of the definitions and of the crates below, in one place.
pub use Rattle.std.proofs.Common.{Bool, Contains, Err, IfErr, List, None, Ok, OnErr, OnOk, Option, Result, Some, [], ap, append-nil, append_assoc, codes, decimal, drop, false, if◌then◌else◌, inl, inr, is_ok, length, nat_eq, refl, rules, string_bytes, subst, sym, true, ℕ, ◌&&◌, ◌++◌, ◌+◌, ◌↔◌}
pub use Rattle.std.proofs.Common.{◌∙◌, ◌∷◌, ◌≡◌, ◌≢◌}
pub use Rattle.std.proofs.lemmas.List.{drop_all, drop_more}
pub use Rattle.std.proofs.lemmas.List.Elements.{Contains-get_or}
pub use Rattle.std.proofs.lemmas.Result.{IfErr-weaker, IfOk-weaker, err_from_is_err_and, on_err_weaker, on_ok_weaker}
pub use Rattle.std.specs.Io.KnownBytes.{Appends, Keeps}
pub use Rattle.std.specs.List.{AllByRecursion}
unfoldable pub use Rattle.serde_json.proofs.OnLiterals.{serde_json_on_literals}
pub use Rattle.serde_json.specs.Data.{string}
pub use Rattle.serde_json.specs.Written.{compact_text}
pub use Rattle.raft_base.specs.declared.errors.Error.{Error}
pub use Rattle.raft_base.specs.declared.pipe_log.FileId.{FileId}
pub use Rattle.raft_base.specs.declared.pipe_log.LogQueue.{LogQueue}
pub use Rattle.raft_base.specs.declared.pipe_log.LogQueue.TheVariants.{Append, Rewrite}
pub use Rattle.raft_base.specs.declared.pipe_log.Version.{Version}
pub use Rattle.raft_engine.proofs.OpenedLemmas.{opened_so}
pub use Rattle.raft_engine.specs.CutTails.{IsTailTold, tail_of}
pub use Rattle.raft_engine.specs.FoundRecords.{FoundRecordsLast}
pub use Rattle.raft_engine.specs.OpeningAsks.{FailsAmong, Failures}
pub use Rattle.raft_engine.specs.ReadFound.{AreReadFound, reading_asks}
pub use Rattle.raft_engine.specs.StoredFound.{FoundFilesAreReady, FoundFilesAreStored, found_asks}
pub use Rattle.raft_engine.specs.declared.reading.ReadFiles.{ReadFiles}
pub use Rattle.raft_engine.specs.declared.reading.Reading.{Reading}
pub use Rattle.raft_engine.specs.declared.recovered.CutTail.{CutTail}
pub use Rattle.raft_engine.specs.declared.recovered.Recovered.{Recovered}
pub use Rattle.raft_engine.specs.declared.recovery_mode.RecoveryMode.TheVariants.{TolerateTornTail}
pub use Rattle.raft_files.specs.Asks.{Ask, Cut, MayBeAsked, NumberedBytes, ask, failed_ask}
pub use Rattle.raft_listing.specs.Reasons.{reason_text}
pub use Rattle.raft_listing.specs.declared.scan.FileScan.{FileScan}
pub use Rattle.raft_opening.specs.ReadOnce.{AreUnreadAs, IsReadingOf}
pub use Rattle.raft_records.specs.Lines.{AppendsFront}
pub use Rattle.raft_reading.specs.IoErrors.{IoError}
pub use Rattle.raft_reading.specs.declared.queue_files.FileSize.{FileSize}
pub use Rattle.raft_replay.proofs.Passed.{on_passed}
pub use Rattle.raft_report.specs.JsonData.{json_line}
pub use Rattle.raft_report.specs.JsonLines.{queue_data}
pub use Rattle.raft_report.specs.declared.form.Form.{Form}
pub use Rattle.raft_report.specs.declared.print_error.PrintError.{PrintError}
pub use Rattle.raft_report.specs.declared.print_error.PrintError.TheVariants.{Files, Output}
pub use Rattle.raft_survey.proofs.SoundLemmas.{files_sound}
pub use Rattle.raft_survey.specs.FileScans.{AreScansOf, IsScanOf}
pub use Rattle.raft_survey.specs.FileWalks.{IsFileUnread, IsOneOfBothUnread, IsOneUnread}
pub use Rattle.raft_inspect.specs.Checked.{IsChecked}
pub use Rattle.raft_inspect.specs.CutShort.{AreScansCutShort, IsCheckCutShort, IsTextCutShort, IsOpeningCutShort, IsScanCutShort}
pub use Rattle.raft_inspect.specs.Cuts.{IsCutFault, cut_asked}
pub use Rattle.raft_inspect.specs.Faults.{IsUnchecked, IsUnprinted, IsUnprintedFor, IsUntried}
pub use Rattle.raft_inspect.specs.Openings.{AreRefusedFor, AreTablesOf, CutsNothing, HoldsOfRead, IsAcceptedSo, IsOpenedSo, IsOpeningOf, is_refused_read}
pub use Rattle.raft_inspect.specs.Printed.{empty_line, opening_text, tail_words, verdict_word, word_of}
pub use Rattle.raft_inspect.specs.PrintedChecks.{AreBothScansPrinted, AreScansPrinted, IsCheckPrinted}
pub use Rattle.raft_inspect.specs.PrintedForms.{ending_lines, opening_lines, scan_lines, scans_lines}
pub use Rattle.raft_inspect.specs.PrintedJson.{cut_data, empty_json, opening_json, refused_data, verdict_data}
pub use Rattle.raft_inspect.specs.SoundFiles.{IsUncut}
pub use Rattle.raft_inspect.specs.Verdicts.{IsNothingWrong, IsUndamaged}
pub use Rattle.raft_inspect.specs.declared.findings.Findings.{Findings}
pub use Rattle.raft_inspect.specs.declared.findings.UndamagedQueues.{UndamagedQueues}
pub use Rattle.raft_inspect.specs.declared.opening.Opening.{Opening}
pub use Rattle.raft_inspect.specs.declared.opening.Opening.TheVariants.{Opens, Refuses}
