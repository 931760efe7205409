-- What the tables of a context are, and what a merge and an overlay make of contexts that hold whole histories.
use Rattle.std.specs.Prelude.{◌≡◌, List, ◌++◌}
use Rattle.raft_base.specs.declared.errors.Error.{Error}
use Rattle.raft_base.specs.declared.errors.Error.TheVariants.{Failed}
use Rattle.raft_base.specs.declared.pipe_log.LogQueue.{LogQueue}
use Rattle.raft_base.specs.declared.pipe_log.LogQueue.TheVariants.{Append, Rewrite}
use Rattle.raft_history.specs.Batches.{Event}
use Rattle.raft_history.specs.Contexts.{Suits}
use Rattle.raft_history.specs.Histories.{Apart, IsOfQueue, IsOneReading, IsSmall, Sound}
use Rattle.raft_history.specs.BothQueues.{IsReadingOfBoth}
use Rattle.raft_accessor.specs.Accessor.{Accessor, AreCountsOf}
use Rattle.raft_contexts.specs.RecoverContext.{RecoverContext, HasRead, HasReadExactly}
use Rattle.raft_contexts.specs.OverlaidContext.{IsOfBothExactly}
use Rattle.raft_contexts.specs.declared.context_stage.ContextStage.TheVariants as stages

-- whatever history of a queue the context stands for exactly, the tables are those of one reading of it
unfoldable pub HasTablesRead : RecoverContext → Accessor → Type 0
HasTablesRead c a = (q : LogQueue) (h : List Event) → HasReadExactly c h → Suits q c.context.files → IsOneReading q h a.tables a.cleaned

-- the context has failed, so it refuses
abbrev pub IsOfFailed : RecoverContext → Error → Type 0
IsOfFailed c e = (e ≡ Failed) × (c.stage ≡ stages.Failed)

-- the tables and the cleaned regions are those of the context; the live counts are those of the tables
pub record AreTablesOf (c : RecoverContext) (a : Accessor) : Type 0 where
  pub tables : a.tables ≡ c.context.regions.tables
  pub cleaned : a.cleaned ≡ c.context.cleaned
  pub counts : AreCountsOf a.tables a.counts

-- whatever histories of the two queues the context has exactly, the tables are those of one reading of both
unfoldable pub HasBothRead : RecoverContext → Accessor → Type 0
HasBothRead c a = (rewrite append : List Event) → IsOfBothExactly c rewrite append → IsReadingOfBoth rewrite append a.tables a.cleaned

-- whatever histories the two contexts stand for, small together, the merged one stands for the newer behind the older
unfoldable pub StandsForBoth : RecoverContext → RecoverContext → RecoverContext → Type 0
StandsForBoth newer old new = (h g : List Event) → IsSmall (h ++ g) → HasRead old h → HasRead newer g → HasRead new (h ++ g)

-- and exactly so where the two stand for theirs exactly, and no group has parts of both
unfoldable pub StandsForBothExactly : RecoverContext → RecoverContext → RecoverContext → Type 0
StandsForBothExactly newer old new = (h g : List Event) → IsSmall (h ++ g) → Apart (h ++ g) → HasReadExactly old h → HasReadExactly newer g → HasReadExactly new (h ++ g)

-- whatever histories of the queue the two contexts stand for, small together, the newer behind the older isn't sound
unfoldable pub AreUnsound : LogQueue → RecoverContext → RecoverContext → Type 0
AreUnsound queue old newer = (h g : List Event) → IsSmall (h ++ g) → IsOfQueue queue (h ++ g) → HasRead old h → HasRead newer g → Sound (h ++ g) → ⊥

-- the one context stands for a small history of the rewrite queue, the other for one of the append queue
pub record AreOfTwoQueues (old append : RecoverContext) : Type 0 where
  pub rewritten : List Event
  pub appended : List Event
  pub small : IsSmall rewritten × IsSmall appended
  pub queues : IsOfQueue Rewrite rewritten × IsOfQueue Append appended
  pub read : HasRead old rewritten × HasRead append appended

-- whatever histories the two contexts stand for exactly, the overlay has what one reading of both gives
unfoldable pub IsOverlaidExactly : RecoverContext → RecoverContext → RecoverContext → Type 0
IsOverlaidExactly append old new = (rewrite appended : List Event) → HasReadExactly old rewrite → HasReadExactly append appended → IsOfBothExactly new rewrite appended
