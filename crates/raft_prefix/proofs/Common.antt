-- What proofs of this crate import of std, of the definitions and of the crates below, in one place.
pub use Rattle.std.proofs.Common.{Contains, List, None, Option, Some, [], ap, append-nil, append_assoc, arith, drop, drop-drop, inl, inr, length, length-append, length-drop, refl, subst, sym, suc, take, zero, ℕ, ◌++◌, ◌+◌, ◌-◌, ◌<◌, ◌∙◌, ◌∷◌, ◌≡◌, ◌≢◌, ◌≤◌, ◌⊎◌}
pub use Rattle.std.proofs.lemmas.Bool.{cases_lt, false≢true}
pub use Rattle.std.proofs.lemmas.List.Elements.{Contains-append_left, Contains-push}
pub use Rattle.std.proofs.lemmas.List.{append_cancel_left, drop-append-le, drop-take, drop_at, length-take-le, nil_from_length, take-append-drop, take-append-le, take-take, take_at}
pub use Rattle.std.proofs.lemmas.Result.{IfErr-weaker, IfOk-weaker, err_from_is_err_and, on_ok_weaker}
pub use Rattle.std.specs.Global.{Global}
pub use Rattle.std.specs.List.{AllByRecursion}
pub use Rattle.std.specs.List.Sorted.{IsStrictlyIncreasing}
pub use Rattle.std.specs.Prelude.{Bool, Err, IfOk, IfSome, MatchOption, Ok, OnErr, Result, Vec, false, is_ok, slice_index, true}
pub use Rattle.raft_base.specs.Corruption.{IsCorruption}
pub use Rattle.raft_base.specs.Signature.{signature_of}
pub use Rattle.raft_base.specs.declared.compression_type.CompressionType.{CompressionType}
pub use Rattle.raft_base.specs.declared.errors.Error.{Error}
pub use Rattle.raft_base.specs.declared.pipe_log.LogFileContext.{LogFileContext}
pub use Rattle.raft_base.specs.declared.pipe_log.LogQueue.TheVariants.{Rewrite}
pub use Rattle.raft_codec.specs.Reading.{HasNoFront, Reads}
pub use Rattle.raft_history.proofs.EffectLemmas.{each-append}
pub use Rattle.raft_history.specs.Batches.{Event}
pub use Rattle.raft_history.specs.ReplayMachine.{event}
pub use Rattle.raft_reading.proofs.PieceLemmas.{none_read, read_more}
pub use Rattle.raft_reading.proofs.SettledLemmas.{IsSettled, fault_more, header_of, room_of, unread_more}
pub use Rattle.raft_reading.proofs.StopLemmas.{held_behind, stands_behind}
pub use Rattle.raft_reading.specs.FilesRead.{AreRead, IsAppended, IsReadFault, IsUnread}
pub use Rattle.raft_reading.specs.IoErrors.{IoError}
pub use Rattle.raft_records.proofs.BufferLemmas.{header_len}
pub use Rattle.raft_records.proofs.FrameLemmas.{framed, header_one}
pub use Rattle.raft_records.proofs.Names.{part_signature}
pub use Rattle.raft_records.proofs.PartLemmas.{batch_inside, no_batches, one_batch_more}
pub use Rattle.raft_records.specs.FilePart.{AreBatchesUpTo, IsBatchAt, IsNextFault, Part, StandBetween, part_of}
pub use Rattle.raft_records.specs.Header.{IsEntryBlockOf, IsHeader}
pub use Rattle.raft_records.specs.Item.{Item}
pub use Rattle.raft_records.specs.LogBatch.{IsReadable, entry_block, header_bytes}
pub use Rattle.raft_replay.proofs.CutPartLemmas.{one_header}
pub use Rattle.raft_replay.proofs.ReplayedLemmas.{none_replayed, replayed_as, replayed_more}
pub use Rattle.raft_replay.proofs.SegmentLemmas.{batch_none, batch_unique}
pub use Rattle.raft_replay.proofs.StopLemmas.{longer_front}
pub use Rattle.raft_replay.proofs.WrittenPartLemmas.{held_after}
pub use Rattle.raft_replay.specs.Cuts.{bytes_before}
pub use Rattle.raft_replay.specs.Replays.{HasReplayed}
pub use Rattle.raft_replay.specs.Segments.{HoldsFrom}
pub use Rattle.raft_replay.specs.Stops.{IsUnreadableAt, history_in}
pub use Rattle.raft_replay.specs.WrittenParts.{with_bytes}
pub use Rattle.raft_prefix.specs.Blocks.{AreBlocksSound, AreSoundTo, AreUnsoundIn, AreUnsoundTo, HasSoundBlock, IsUnsoundAs, IsUnsoundAt, damaged_entries_text}
pub use Rattle.raft_prefix.specs.Pieces.{ArePassed, IsDecided, IsGathered, IsHistoryUpTo, IsPassedTo, IsRefusedBehind, IsSoundIn, IsUnsoundIn}
pub use Rattle.raft_prefix.specs.Prefixes.{EndsOrStops, IsDamageRead, IsKnownOf, IsPrefixOf, IsPrefixReplayed}
