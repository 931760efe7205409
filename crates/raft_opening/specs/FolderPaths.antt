-- The files of a folder, by their numbers and paths.
use Rattle.std.specs.Prelude.{ℕ, List, String, string_bytes}
use Rattle.raft_base.specs.declared.pipe_log.LogQueue.{LogQueue}
use Rattle.raft_base.specs.declared.pipe_log.LogQueue.TheVariants.{Append, Rewrite}
use Rattle.raft_base.specs.declared.pipe_log.Version.{Version}
use Rattle.raft_reading.specs.declared.queue_files.FileSize.{FileSize}
use Rattle.raft_recover.specs.FileRecovery.{AreSizesOf, NamedGives}
use Rattle.raft_recover.specs.Requests.{NumberedPath}
use Rattle.raft_engine.specs.KeptEngine.{KeptEngine}
use Rattle.raft_engine.specs.declared.recovered.DamagedBatch.{DamagedBatch}
use Rattle.raft_engine.specs.declared.recovered.Recovered.{Recovered}
use Rattle.raft_engine.specs.declared.recovery_mode.RecoveryMode.{RecoveryMode}
use Rattle.raft_opening.specs.ReadOnce.{Giving, IsOpenedOver}

-- the number of a file, and its path
abbrev pub path_shown : {A : Type 0} → ℕ × String A → NumberedPath
path_shown file = (file.0, string_bytes file.1)

-- the files of a queue
abbrev pub paths_of : LogQueue → List NumberedPath → List NumberedPath → List NumberedPath
paths_of Append append rewrite = append
paths_of Rewrite append rewrite = rewrite

-- reads of the files of both queues, each at its path, gave these bytes
abbrev pub PathsGive : (List ℕ → ℕ → List ℕ → Type 0) → List NumberedPath → List NumberedPath → Giving
PathsGive Gives append rewrite file = NamedGives Gives (paths_of file.queue append rewrite) file

-- an engine was opened over files of both queues at some paths, by the bytes that reads at these paths gave
pub record IsFolderOpened (Gives : List ℕ → ℕ → List ℕ → Type 0) (mode : RecoveryMode) (version : Version) (engine : KeptEngine) (recovered : Recovered) (batches : List DamagedBatch) : Type 0 where
  pub append : List NumberedPath
  pub rewrite : List NumberedPath
  pub append_sizes : List FileSize
  pub rewrite_sizes : List FileSize
  pub of_append : AreSizesOf append append_sizes
  pub of_rewrite : AreSizesOf rewrite rewrite_sizes
  pub opened : IsOpenedOver (PathsGive Gives append rewrite) mode version append_sizes rewrite_sizes engine recovered batches
