-- Why tables take no more of the items that move to the rewrite queue.
use Rattle.std.specs.Prelude.{◌≡◌, ℕ, List, Option, Some, None}
use Rattle.std.specs.List.{AllByRecursion}
use Rattle.raft_base.specs.declared.errors.Error.{Error}
use Rattle.raft_records.specs.Item.{Item}
use Rattle.raft_history.specs.RegionSteps.{Tables}
use Rattle.raft_accessor.specs.Accessor.{Accessor}
use Rattle.raft_accessor.specs.Writes.{IsFor, Rewriting, after_items}
use Rattle.raft_engine.specs.WrittenBatch.{IsNextRefused, LacksRoom}

-- tables take items by a rewriting to a file of this number
pub record AreTaken (gate : Option ℕ) (seq : ℕ) (tables : Tables) (items : List Item) : Type 0 where
  pub each : AllByRecursion (λ (item : Item). IsFor (Rewriting gate seq) item.content) items
  pub after : Tables
  pub taken : after_items (Rewriting gate seq) tables items ≡ Some after

-- tables refuse one of these items by a rewriting to a file of this number, past a gate for want of room alone
abbrev pub AreUntaken : Option ℕ → ℕ → List Item → Accessor → Accessor → Error → Type 0
AreUntaken (Some gate) seq items old new e = LacksRoom e × IsNextRefused (Rewriting (Some gate) seq) items old new e
AreUntaken None seq items old new e = IsNextRefused (Rewriting None seq) items old new e
