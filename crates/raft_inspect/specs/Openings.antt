-- What an opening would do with files.
use Rattle.std.specs.Prelude.{◌≡◌, ◌≢◌, ℕ, List, None, Bool, true, false, not}
use Rattle.std.specs.IoError.{error_kind}
use Rattle.std.specs.declared.io.ErrorKind.{ErrorKind}
use Rattle.std.specs.declared.io.ErrorKind.TheVariants.{UnexpectedEof}
use Rattle.raft_base.specs.declared.errors.Error.{Error}
use Rattle.raft_base.specs.declared.errors.Error.TheVariants as errors
use Rattle.raft_base.specs.declared.pipe_log.FileId.{FileId}
use Rattle.raft_base.specs.declared.pipe_log.LogQueue.TheVariants.{Append, Rewrite}
use Rattle.raft_base.specs.declared.pipe_log.Version.{Version}
use Rattle.raft_accessor.specs.Accessor.{Accessor}
use Rattle.raft_files.specs.Asks.{NumberedBytes}
use Rattle.raft_reading.specs.IoErrors.{IoError}
use Rattle.raft_reading.specs.declared.queue_files.FileSize.{FileSize}
use Rattle.raft_engine.specs.CutTails.{IsRecoveredOf, IsTailTold, tail_of}
use Rattle.raft_engine.specs.KeptEngine.{KeptEngine}
use Rattle.raft_engine.specs.Opened.{IsOpened}
use Rattle.raft_engine.specs.Unopened.{AreBothAccepted}
use Rattle.raft_engine.specs.declared.reading.Reading.{Reading}
use Rattle.raft_engine.specs.declared.recovered.Recovered.{Recovered}
use Rattle.raft_engine.specs.declared.recovery_mode.RecoveryMode.TheVariants.{TolerateTornTail}
use Rattle.raft_opening.specs.ReadOnce.{AreBothRead, AreUnreadAs}
use Rattle.raft_inspect.specs.declared.opening.Opening.{Opening}
use Rattle.raft_inspect.specs.declared.opening.Opening.TheVariants.{Opens, Refuses}

-- reads gave all bytes of the files of both queues, which have these sizes, and something holds of them
pub record HoldsOfRead (Gives : FileId → ℕ → List ℕ → Type 0) (append rewrite : List FileSize) (Holds : List NumberedBytes → List NumberedBytes → Type 0) : Type 0 where
  pub append_files : List NumberedBytes
  pub rewrite_files : List NumberedBytes
  pub given : AreBothRead Gives append rewrite append_files rewrite_files
  pub holds : Holds append_files rewrite_files

-- an opening accepts the files, and these are the tables of an engine that is opened over them
pub record AreTablesOf (version : Version) (accessor : Accessor) (append rewrite : List NumberedBytes) : Type 0 where
  pub accepted : AreBothAccepted TolerateTornTail version append rewrite
  pub engine : KeptEngine
  pub opened : IsOpened version append rewrite engine
  pub same : accessor ≡ engine.accessor

-- files are accepted, these tails are cut off, and an engine would have tables
pub record IsOpenedSo (version : Version) (recovered : Recovered) (append rewrite : List NumberedBytes) : Type 0 where
  pub accepted : AreBothAccepted TolerateTornTail version append rewrite
  pub told : IsRecoveredOf version append rewrite recovered
  pub tables : Accessor
  pub are_tables : AreTablesOf version tables append rewrite

-- what a reading says of files that are accepted: the tails that are missing are to be cut off, and an engine would have its tables
pub record IsAcceptedSo (version : Version) (reading : Reading) (append rewrite : List NumberedBytes) : Type 0 where
  pub accepted : AreBothAccepted TolerateTornTail version append rewrite
  pub append_told : IsTailTold Append version append (tail_of reading.append_missing)
  pub rewrite_told : IsTailTold Rewrite version rewrite (tail_of reading.rewrite_missing)
  pub are_tables : AreTablesOf version reading.accessor append rewrite

-- why an opening by so many workers doesn't open files, but for want of memory: a read failed, an engine's opening refuses them, or they changed meanwhile
abbrev pub AreRefusedFor : (FileId → ℕ → List ℕ → Type 0) → (FileId → ℕ → IoError → Type 0) → Version → ℕ → List FileSize → List FileSize → Error → Type 0
AreRefusedFor Gives Fails version workers append rewrite e = AreUnreadAs Gives Fails TolerateTornTail version workers append rewrite e

-- bytes end too early for a read
abbrev pub is_early_end : ErrorKind → Bool
is_early_end UnexpectedEof = true
is_early_end _ = false

-- the system refused a read; not where bytes end too early, which may be the refusal of a batch
abbrev pub is_refused_read : Error → Bool
is_refused_read (errors.Io e) = not (is_early_end (error_kind e))
is_refused_read _ = false

-- what an opening by so many workers would do; want of memory is no refusal, nor is a read that the system refused
abbrev pub IsOpeningOf : (FileId → ℕ → List ℕ → Type 0) → (FileId → ℕ → IoError → Type 0) → Version → ℕ → List FileSize → List FileSize → Opening → Type 0
IsOpeningOf Gives Fails version workers append rewrite (Opens recovered) = HoldsOfRead Gives append rewrite (IsOpenedSo version recovered)
IsOpeningOf Gives Fails version workers append rewrite (Refuses error) = (error ≢ errors.Memory) × (is_refused_read error ≡ false) × AreRefusedFor Gives Fails version workers append rewrite error

-- files are opened, and nothing is cut off from them
abbrev pub CutsNothing : Opening → Type 0
CutsNothing (Opens recovered) = (recovered.append ≡ None) × (recovered.rewrite ≡ None)
CutsNothing (Refuses error) = ⊥
