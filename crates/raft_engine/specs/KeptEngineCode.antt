-- When two engines are equal.
use Rattle.std.specs.Prelude.{Bool, List, refl}
use Rattle.std.specs.Coded.{Coded, code_by, coded×, coded_list, coded_bool}
use Rattle.raft_base.specs.contracts.pipe_log.Version as version
use Rattle.raft_base.specs.declared.pipe_log.Version.{Version}
use Rattle.raft_records.specs.LogBatch.{Batch}
use Rattle.raft_records.specs.contracts.log_batch.LogBatch as log_batch
use Rattle.raft_accessor.specs.Accessor.{Accessor}
use Rattle.raft_accessor.specs.AccessorCode.{accessor_code}
use Rattle.raft_files.specs.Asks.{Ask}
use Rattle.raft_files.specs.AskCode.{ask_code}
use Rattle.raft_engine.specs.KeptEngine.{KeptEngine}

-- an engine, field by field
abbrev pub engine_code : Coded KeptEngine
engine_code =
    code_by ((Version × List Ask) × (Batch × (Accessor × Bool)))
    (coded× (coded× version.the_row.coded (coded_list ask_code)) (coded× log_batch.the_row.coded (coded× accessor_code coded_bool)))
    (λ e. ((e.version, e.asks), (e.untold, (e.accessor, e.intact))))
    (λ p. record { version = p.0.0; asks = p.0.1; untold = p.1.0; accessor = p.1.1.0; intact = p.1.1.1 }) (λ _. refl)
