-- Kept records beside those that are read: the same, or moved to the rewrite queue, with the same contents.
use Rattle.std.specs.Prelude.{◌≡◌, ℕ, List, [], ◌∷◌}
use Rattle.std.specs.FinMap as finite
use Rattle.raft_base.specs.declared.entry_index.EntryIndex.{EntryIndex}
use Rattle.raft_table.specs.KeyValues.{Keys}
use Rattle.raft_table.specs.Steps.{table_of}
use Rattle.raft_history.specs.RegionSteps.{Tables}
use Rattle.raft_contexts.specs.MovedPlaces.{IsMovedEntry, IsMovedPair}

-- as many entries, each for one that is read: it is that one, or has its index and a place in the rewrite queue; and it has the same contents, told by what stands at the place of each entry
abbrev pub AreMoved : (EntryIndex → List ℕ) → List EntryIndex → List EntryIndex → Type 0
AreMoved content [] [] = Unit {0}
AreMoved content (k ∷ kept) (e ∷ es) = (IsMovedEntry k e × (content k ≡ content e)) × AreMoved content kept es
AreMoved content [] (e ∷ es) = ⊥
AreMoved content (k ∷ kept) [] = ⊥

-- under each key the value that is read, in its file or in one of the rewrite queue; and none where none is read
abbrev pub AreMovedPairs : Keys → Keys → Type 0
AreMovedPairs kept keys = (key : List ℕ) → IsMovedPair (finite.get kept key) (finite.get keys key)

-- each region's kept records are those that are found, but for places and files that are in the rewrite queue; an absent table counts as one without records, and nothing is said of atomic groups
pub record AreFound (content : EntryIndex → List ℕ) (kept found : Tables) : Type 0 where
  pub entries : (r : ℕ) → AreMoved content (table_of r (finite.get kept r)).entries (table_of r (finite.get found r)).entries
  pub pairs : (r : ℕ) → AreMovedPairs (table_of r (finite.get kept r)).keys (table_of r (finite.get found r)).keys
