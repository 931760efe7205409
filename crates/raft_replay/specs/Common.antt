-- What the contracts and the proofs of this crate import of std, of the crates below and of the definitions, in one place.
pub use Rattle.std.specs.Borrow.{Bor}
pub use Rattle.std.specs.Global.{Global}
pub use Rattle.std.specs.IoError.{error_kind}
pub use Rattle.std.specs.List.{AllByRecursion, cons_option}
pub use Rattle.std.specs.List.Sorted.{IsNonDecreasingBy}
pub use Rattle.std.specs.Thread.{IsSync}
pub use Rattle.raft_base.specs.Corruption.{IsCorruption}
pub use Rattle.raft_base.specs.Errors.{IsInvalidArgument}
pub use Rattle.raft_base.specs.Signature.{signature_in}
pub use Rattle.raft_base.specs.declared.compression_type.CompressionType.{CompressionType}
pub use Rattle.raft_base.specs.declared.entry_index.EntryIndex.{EntryIndex}
pub use Rattle.raft_base.specs.declared.errors.Error.{Error}
pub use Rattle.raft_base.specs.declared.pipe_log.FileBlockHandle.{FileBlockHandle}
pub use Rattle.raft_base.specs.declared.pipe_log.FileId.{FileId}
pub use Rattle.raft_base.specs.declared.pipe_log.LogFileContext.{LogFileContext}
pub use Rattle.raft_base.specs.declared.pipe_log.LogQueue.{LogQueue}
pub use Rattle.raft_base.specs.declared.pipe_log.Version.{Version}
pub use Rattle.raft_codec.specs.Reading.{HasNoFront, IsSequence}
pub use Rattle.raft_codec.specs.Varint.{IsVarint}
pub use Rattle.raft_history.specs.Batches.{Event}
pub use Rattle.raft_history.specs.Contexts.{Context, FileRange, StandsFor, Suits}
pub use Rattle.raft_history.specs.Histories.{Apart, AreOfQueue, IsOfQueue, IsSmall, Sound, records_in}
pub use Rattle.raft_history.specs.RegionSteps.{RegionStep, content_step, pair_step, steps_of_items}
pub use Rattle.raft_history.specs.ReplayMachine.{event}
pub use Rattle.raft_records.specs.FilePart.{HasHeader, IsBatchAt, Part, StandBetween, part_of}
pub use Rattle.raft_records.specs.Framing.{IsFramed}
pub use Rattle.raft_records.specs.Grammar.{AreIndexAndTails, IsContent, IsItem, IsTail, end_of_content, tail_of}
pub use Rattle.raft_records.specs.Group.{is_reserved}
pub use Rattle.raft_records.specs.Item.{Content, Item, command, entries, pair}
pub use Rattle.raft_records.specs.ItemBatch.{IsItemBatch, checksum_bytes, placed_content, placed_item}
pub use Rattle.raft_records.specs.LogBatch.{IsReadable, encoded_length, log_batch_bytes}
pub use Rattle.raft_records.specs.declared.key_value.OpType.{OpType}
pub use Rattle.raft_table.specs.Steps.{Step}
pub use Rattle.raft_tickets.specs.Draws.{AreBelow, Draw, HasEnded, IsNewSeatOf, IsOpenRefusal, IsSeatOf, TicketSeat, Tickets, once_below}
pub use Rattle.raft_tickets.specs.Weights.{occurrences, weigh}
pub use Rattle.raft_replay.specs.Covers.{AreDone, CoverOnce, Gives, IsDone, IsPiece, IsPieceOf, cover_count, covers}
pub use Rattle.raft_replay.specs.Cuts.{ArePartsOf, BatchesMeet, StandInTurn, bytes_before, joined_bytes, rest_of}
pub use Rattle.raft_replay.specs.MachineOrder.{AreInOrder, IsUnderway}
pub use Rattle.raft_replay.specs.PieceMerges.{CannotMerge, IsMerged, Merges, StandForEach, histories_in_turn}
pub use Rattle.raft_replay.specs.PlanWalks.{ArePlansNext, AreWaiting, IsReached, cost, heft}
pub use Rattle.raft_replay.specs.Plans.{IsByHalves, leaves}
pub use Rattle.raft_replay.specs.Replays.{CannotFollow, HasReplayed, IsReplayed}
pub use Rattle.raft_replay.specs.Schedules.{IsSchedule, count_below, pieces_in, switches}
pub use Rattle.raft_replay.specs.Segments.{AreCutFrom, AreHeldInTurn, CannotBeRead, EachHolds, HoldsFrom, MayReplay, SegmentsAreOf, SegmentsHold}
pub use Rattle.raft_replay.specs.Stops.{CannotFollowAt, GoneOn, HasFaultAt, IsPlaced, IsStoodFor, IsUnreadableAt, IsWithPlace, StopsAmong, StopsByFault, StopsIn, history_in, place_text, queue_text}
pub use Rattle.raft_replay.specs.WorkedWords.{HasRefusal, IsBack, IsWork}
pub use Rattle.raft_replay.specs.WrittenParts.{WrittenBatchIsHeld, bytes_of_parts, bytes_of_segments, with_bytes, written_event}
pub use Rattle.raft_replay.specs.declared.piece.Piece.{Piece}
pub use Rattle.raft_replay.specs.declared.pieces.Waiting.{Waiting}
pub use Rattle.raft_replay.specs.declared.plan.Plan.{Plan}
pub use Rattle.raft_replay.specs.declared.workers.Worked.{Worked}
