-- What the contracts and the proofs of this crate import of std, of the crates below and of the definitions, in one place.
pub use Rattle.std.specs.IoError.{error_kind}
pub use Rattle.raft_base.specs.declared.errors.Error.{Error}
pub use Rattle.raft_base.specs.declared.pipe_log.FileId.{FileId}
pub use Rattle.raft_base.specs.declared.pipe_log.LogFileContext.{LogFileContext}
pub use Rattle.raft_history.specs.Batches.{Event}
pub use Rattle.raft_history.specs.Histories.{IsSmall, Sound}
pub use Rattle.raft_records.specs.FilePart.{HasHeader, IsBatchAt, IsNextFault, Part, StandBetween, part_of}
pub use Rattle.raft_replay.specs.Replays.{HasReplayed}
pub use Rattle.raft_replay.specs.Segments.{HoldsFrom}
pub use Rattle.raft_replay.specs.Stops.{CannotFollowAt, GoneOn, HasFaultAt, IsIoOfKind, IsStoodFor, IsUnreadableAt, StopsByFault, StopsIn, history_in}
pub use Rattle.raft_replay.specs.WrittenParts.{with_bytes}
pub use Rattle.raft_reading.specs.FilesRead.{AreGivenFrom, AreRead, HasReplayedFile, IsAppended, IsFailure, IsFileStop, IsMiscount, IsReadFault, IsUnread, StopsInRead, joined}
pub use Rattle.raft_reading.specs.Headers.{HeadersLead, IsHopeless, NoneIsWhole, StandHeaders}
pub use Rattle.raft_reading.specs.IoErrors.{IoError}
pub use Rattle.raft_reading.specs.Pieces.{IsReplayedFront, IsUnderway}
pub use Rattle.std.specs.Thread.{IsSync}
pub use Rattle.raft_base.specs.declared.pipe_log.LogQueue.{LogQueue}
pub use Rattle.raft_base.specs.declared.pipe_log.Version.{Version}
pub use Rattle.raft_history.specs.Histories.{Apart}
pub use Rattle.raft_replay.specs.Segments.{EachHolds}
pub use Rattle.raft_replay.specs.Stops.{IsNothing}
pub use Rattle.raft_reading.specs.QueueRead.{AreAllRead, FilesHold, IsAllRead, IsQueueReplayed, IsQueueStop, NumberedBytes, file_of, whole_file}
pub use Rattle.raft_reading.specs.declared.queue_files.FileSize.{FileSize}
