-- A recovery context's fields as its contracts see them.
use Rattle.std.specs.Prelude.{◌≡◌}
use Rattle.raft_history.specs.MarkedRegions.{Marks}
use Rattle.raft_contexts.specs.declared.recover_context.MemTableRecoverContext.TheInside.{Inside}
use Rattle.raft_contexts.specs.declared.context_stage.ContextStage.{ContextStage}
use Rattle.raft_contexts.specs.declared.context_stage.ContextStage.TheVariants.{Reading, Overlaid, Failed}
use Rattle.raft_contexts.specs.ReadStates.{context_in, shown_with, IsOfHistory}
use Rattle.raft_contexts.specs.declared.read_state.ReadState.{ReadState}
use Rattle.raft_contexts.specs.RecoverContext.{RecoverContext}

-- the region marks at a stage: those that are kept or implied; the kept ones alone once the context of the append queue was taken in, since no table implies one then
abbrev pub marks_at : ContextStage → ReadState → Marks
marks_at Reading s = (context_in s).regions.marks
marks_at Overlaid s = s.regions.marks
marks_at Failed s = (context_in s).regions.marks

-- the stage, what was read, and what was counted
abbrev pub recover_context_shown : Inside → RecoverContext
recover_context_shown a = record { stage = a.stage; context = shown_with (marks_at a.stage a.state) a.state; counts = a.state.regions.accessor.counts }

-- a context that reads on holds what some history gives
pub record IsContextKept (a : Inside) : Type 0 where
  pub read : a.stage ≡ Reading → IsOfHistory (context_in a.state)
