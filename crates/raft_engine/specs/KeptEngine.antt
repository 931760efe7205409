-- An engine: what it asked of its files, and the tables that it keeps.
use Rattle.std.specs.Prelude.{◌≡◌, ℕ, Bool, List, [], ◌∷◌, ◌++◌}
use Rattle.std.specs.FinMap as finite
use Rattle.raft_base.specs.declared.pipe_log.LogQueue.{LogQueue}
use Rattle.raft_base.specs.declared.pipe_log.Version.{Version}
use Rattle.raft_records.specs.LogBatch.{Batch}
use Rattle.raft_table.specs.Steps.{table_of}
use Rattle.raft_table.specs.Table.{Table}
use Rattle.raft_accessor.specs.Accessor.{Accessor}
use Rattle.raft_files.specs.Asks.{Ask, NumberedBytes, acts_on}
use Rattle.raft_files.specs.Disk.{begun}

-- an engine: the version in which it signs batches; what was asked of its files, newest first; a batch of what the rewrite queue isn't told yet; the tables that are kept; whether it takes further calls, so that every batch that was asked for was applied to them
pub record KeptEngine : Type 0 where
  pub version : Version
  pub asks : List Ask
  pub untold : Batch
  pub accessor : Accessor
  pub intact : Bool

-- the last file of a queue has this number, and these bytes
pub record IsLastFile (queue : LogQueue) (asks : List Ask) (seq : ℕ) (bytes : List ℕ) : Type 0 where
  pub closed : List NumberedBytes
  pub files : begun (acts_on queue asks) ≡ closed ++ (seq, bytes) ∷ []

-- a region's table, an empty one where it has none
abbrev pub table_in : KeptEngine → ℕ → Table
table_in engine region = table_of region (finite.get engine.accessor.tables region)
