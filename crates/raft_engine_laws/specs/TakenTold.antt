-- What a context of the append queue takes away of rewritten tables, as it is told.
use Rattle.std.specs.Prelude.{ℕ, List}
use Rattle.std.specs.FinMap as finite
use Rattle.raft_table.specs.Steps.{table_of}
use Rattle.raft_table.specs.TableEntries.{AreTableEntries}
use Rattle.raft_history.specs.Batches.{Event, batches}
use Rattle.raft_history.specs.BothQueues.{IsReadingOfBoth}
use Rattle.raft_history.specs.Effects.{steps_of}
use Rattle.raft_history.specs.MarkedRegions.{MarkedRegions}
use Rattle.raft_history.specs.RegionSteps.{Tables, steps_of_items, steps_on}
use Rattle.raft_contexts.specs.OverlaidContext.{AreOfBothQueues}
use Rattle.raft_contexts.specs.RecoverContext.{HasRead, HasReadExactly, RecoverContext}
use Rattle.raft_contexts.specs.TakenBatches.{IsTakenAway}
use Rattle.raft_contexts.specs.declared.taken_away.TakenAway.{TakenAway}
use Rattle.raft_engine_laws.specs.MarksTold.{IsToldByMark, IsToldNowOrLater}
use Rattle.raft_engine_laws.specs.Telling.{TakeAway}

-- the one context has read batches of the append queue, the other one, exactly, batches of the rewrite queue
pub record AreBothRead (appended rewritten : RecoverContext) (append rewrite : List Event) : Type 0 where
  pub append_read : HasRead appended append
  pub rewrite_read : HasReadExactly rewritten rewrite
  pub queues : AreOfBothQueues rewritten.context appended.context

-- what the one takes away of the tables of the other is told of each region as its mark says
abbrev pub IsTakenToldByMarks : Type 0
IsTakenToldByMarks =
    (appended rewritten : RecoverContext) (append rewrite : List Event) → AreBothRead appended rewritten append rewrite
    → (taken : TakenAway) → IsTakenAway appended.context.regions rewritten.context.regions.tables taken
    → (found : Tables) (cleaned : List ℕ) (both : IsReadingOfBoth rewrite append found cleaned) → (r : ℕ)
    → IsToldByMark (steps_of r (batches append)) (steps_on r (steps_of_items taken.at_once.items)) (steps_on r (steps_of_items taken.later.items))
    (table_of r (finite.get both.appended r)) (table_of r (finite.get both.rewritten r))

-- and of each region it is told at once as much as an opening needs to tell, or may be told later
abbrev pub IsTakenToldNowOrLater : Type 0
IsTakenToldNowOrLater =
    (appended rewritten : RecoverContext) (append rewrite : List Event) → AreBothRead appended rewritten append rewrite
    → (taken : TakenAway) → IsTakenAway appended.context.regions rewritten.context.regions.tables taken
    → (found : Tables) (cleaned : List ℕ) (both : IsReadingOfBoth rewrite append found cleaned) → (r : ℕ)
    → IsToldNowOrLater (steps_of r (batches append)) (steps_on r (steps_of_items taken.at_once.items)) (steps_on r (steps_of_items taken.later.items))
    (table_of r (finite.get both.rewritten r)) (table_of r (finite.get found r))

-- its items only take away
abbrev pub DoesTakenTakeAway : Type 0
DoesTakenTakeAway =
    (append : MarkedRegions) (rewritten : Tables) (taken : TakenAway) → IsTakenAway append rewritten taken → TakeAway taken.at_once.items × TakeAway taken.later.items

-- the entries that both give together are those of a table
abbrev pub AreFoundTables : Type 0
AreFoundTables =
    (appended rewritten : RecoverContext) (append rewrite : List Event) → AreBothRead appended rewritten append rewrite
    → (found : Tables) (cleaned : List ℕ) → IsReadingOfBoth rewrite append found cleaned → (r : ℕ) → AreTableEntries (table_of r (finite.get found r)).entries
