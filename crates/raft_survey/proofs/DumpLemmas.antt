-- What is dumped, as it is seen from outside.
use Rattle.raft_survey.proofs.Common.{◌≡◌, ℕ, List, Option, Bool, false, ◌∙◌, subst, FileId, Version, Part, FileSize, IsDumped, is_damaged_after, Met, Dump, Selection, AreDumped, DumpSoFar, IsAddedToDump, AreBothWalked}
use Rattle.raft_survey.proofs.SeenLemmas.{both_seen}

module _ {F W : Type 0} (Says : Selection → Part → ℕ → Met → List ℕ → Type 0) (contents : W → Option (List ℕ)) (s : Selection) where
  abbrev seen_of : Dump F W → DumpSoFar
  seen_of d = record { written = contents d.writer; is_damaged = d.is_damaged }

  abbrev pub Visits : Dump F W → Part → ℕ → Met → Dump F W → Type 0
  Visits old part at met new = IsDumped Says old.selection part at met (contents old.writer) (contents new.writer) × (new.is_damaged ≡ is_damaged_after met old.is_damaged) × (new.selection ≡ old.selection)

  step : (old : Dump F W) (part : Part) (at : ℕ) (met : Met) (new : Dump F W) → old.selection ≡ s → Visits old part at met new → IsAddedToDump Says s (seen_of old) part at met (seen_of new) × (new.selection ≡ s)
  step old part at met new is visited = ((subst (λ (t : Selection). IsDumped Says t part at met (contents old.writer) (contents new.writer)) is visited.0, visited.1), visited.2 ∙ is)

  pub dumped : (Gives : FileId → ℕ → List ℕ → Type 0) (version : Version) (append rewrite : List FileSize) (old new : Dump F W) → old.selection ≡ s → old.is_damaged ≡ false → AreBothWalked Visits Gives version append rewrite old new
      → AreDumped Says Gives version append rewrite s (contents old.writer) (contents new.writer) new.is_damaged
  dumped Gives version append rewrite old new is undamaged walked =
      subst (λ (b : Bool). AreBothWalked (IsAddedToDump Says s) Gives version append rewrite (record { written = contents old.writer; is_damaged = b }) (seen_of new)) undamaged
      (both_seen seen_of (λ (d : Dump F W). d.selection ≡ s) Visits (IsAddedToDump Says s) step Gives version append rewrite old new is walked).0
