-- The code of recovery contexts, by which values of their type are told apart.
use Rattle.std.specs.Prelude.{ℕ, List, Option, refl}
use Rattle.std.specs.Coded.{Coded, code_by, coded×, coded_list, coded_option, coded_ℕ}
use Rattle.std.specs.FinMap as finite
use Rattle.raft_base.specs.contracts.pipe_log.LogQueue as queue
use Rattle.raft_base.specs.declared.pipe_log.LogQueue.{LogQueue}
use Rattle.raft_table.specs.Counts.{Counts}
use Rattle.raft_table.specs.MarkCode.{mark_code}
use Rattle.raft_history.specs.Contexts.{Context, FileRange}
use Rattle.raft_history.specs.MarkedRegions.{MarkedRegions, Marks}
use Rattle.raft_history.specs.RegionSteps.{Tables}
use Rattle.raft_history.specs.WaitingGroups.{WaitingGroups}
use Rattle.raft_accessor.specs.AccessorCode.{tables_code, counts_code}
use Rattle.raft_contexts.specs.RecoverContext.{RecoverContext}
use Rattle.raft_contexts.specs.WaitingGroupsCode.{groups_code}
use Rattle.raft_contexts.specs.contracts.context_stage.ContextStage as stage
use Rattle.raft_contexts.specs.declared.context_stage.ContextStage.{ContextStage}

-- regions as their tables and their region marks
abbrev pub regions_code : Coded MarkedRegions
regions_code = code_by (Tables × Marks) (coded× tables_code (finite.code coded_ℕ mark_code)) (λ r. (r.tables, r.marks)) (λ p. record { tables = p.0; marks = p.1 }) (λ _. refl)

-- files as their queue, the first and the last
abbrev pub range_code : Coded FileRange
range_code = code_by (LogQueue × (ℕ × ℕ)) (coded× queue.the_row.coded (coded× coded_ℕ coded_ℕ)) (λ f. (f.queue, (f.first_seq, f.last_seq))) (λ p. record { queue = p.0; first_seq = p.1.0; last_seq = p.1.1 }) (λ _. refl)

-- what is held, field by field
abbrev pub context_code : Coded Context
context_code =
    code_by ((MarkedRegions × WaitingGroups) × (List ℕ × Option FileRange)) (coded× (coded× regions_code groups_code) (coded× (coded_list coded_ℕ) (coded_option range_code)))
    (λ c. ((c.regions, c.groups), (c.cleaned, c.files))) (λ p. record { regions = p.0.0; groups = p.0.1; cleaned = p.1.0; files = p.1.1 }) (λ _. refl)

-- the stage, what is held, and what was counted
abbrev pub recover_context_code : Coded RecoverContext
recover_context_code = code_by (ContextStage × (Context × Counts)) (coded× stage.the_row.coded (coded× context_code counts_code)) (λ c. (c.stage, (c.context, c.counts))) (λ p. record { stage = p.0; context = p.1.0; counts = p.1.1 }) (λ _. refl)
