-- What both queues give together where the append queue had each rewritten record.
use Rattle.raft_history.proofs.Common.{Append, Rewrite, some_is, ◌≡◌, ℕ, Bool, true, false, cond, List, [], ◌∷◌, ◌++◌, Some, None, refl, sym, ap, subst, ◌∙◌, AllByRecursion, EntryIndex, Stored, overlaid_table, Step, Run, Put, table_of}
use Rattle.raft_history.proofs.Common.{after, entry_at, last_entry_stands, last_pair_stands, Event, BatchSteps, batches, IsReadingOfBoth, is_named, steps_of, IsSoundIn, IsOneReading, RegionStep, Tables, steps_of_items, AreRewrittenFrom}
use Rattle.raft_history.proofs.Common.{HadEntry, HadTables, HaveSameRecords, IsStepHad}
use Rattle.std.specs.FinMap as finite
use Rattle.raft_history.proofs.RewrittenLemmas.{HasSameRecords, Indexes, IsReached, IsSpoken, IsSpokenTable, IsStepWithin, any_front, entries_stay_within, entry_reached, overlay_same, pair_spoken, pairs_stay_within, unnamed_same}
use Rattle.raft_history.proofs.EachStepLemmas.{each_step_of}
use Rattle.raft_history.proofs.EffectLemmas.{each_weaker}
use Rattle.raft_history.proofs.SoundLemmas.{steps_good}
use Rattle.raft_history.proofs.StretchOfHistory.{plain-append, sound_in_front, sound_in_back}
use Rattle.raft_history.proofs.WithoutMarkers.{named-steps}

module _ (append : List Event) (sound : IsSoundIn Append append) where
  abbrev steps : ℕ → List Step
  steps r = steps_of r (batches append)

  module _ (tables : Tables) (had : HadTables append tables) where
    whole : IsSoundIn Append (had.front ++ had.back)
    whole = subst (IsSoundIn Append) had.split sound

    front : IsSoundIn Append had.front
    front = sound_in_front Append had.front had.back whole

    parted : (r : ℕ) → steps r ≡ steps_of r (batches had.front) ++ steps_of r (batches had.back)
    parted r = ap (λ h. steps_of r (batches h)) had.split ∙ plain-append r had.front had.back front.files (sound_in_back Append had.front had.back whole).files whole.files

    entry_had : (r i : ℕ) (e : EntryIndex) → entry_at i (table_of r (finite.get tables r)).entries ≡ Some e → IsReached (steps r) i
    entry_had r i e there =
        let last = last_entry_stands i r (finite.get tables r) (steps_of r (batches had.front)) (steps_good r had.front front.items) (had.read.tables_read r) in
        subst (λ ss. IsReached ss i) (sym (parted r)) (any_front _ (steps_of r (batches had.front)) (steps_of r (batches had.back)) (entry_reached i (steps_of r (batches had.front)) e (sym last ∙ there)))

    key_had : (r : ℕ) (key : List ℕ) (s : Stored) → finite.get (table_of r (finite.get tables r)).keys key ≡ Some s → IsSpoken (steps r) key
    key_had r key s there =
        let last = last_pair_stands Append key r (finite.get tables r) (steps_of r (batches had.front)) (had.read.tables_read r) in
        subst (λ ss. IsSpoken ss key) (sym (parted r)) (any_front _ (steps_of r (batches had.front)) (steps_of r (batches had.back)) (pair_spoken key (steps_of r (batches had.front)) s (sym last ∙ there)))

  run_within : (r : ℕ) (run : List EntryIndex) → AllByRecursion (λ (e : EntryIndex). HadEntry append r e.index) run → Indexes (IsReached (steps r)) run
  run_within r run h = each_weaker (λ e. HadEntry append r e.index) (λ e. IsReached (steps r) e.index) (λ e k. entry_had k.tables k.had r e.index k.entry k.there) run h

  step_within : (r : ℕ) (s : Step) → IsStepHad append r s → IsStepWithin (IsReached (steps r)) (IsSpoken (steps r)) s
  step_within r (Run run) h = run_within r run h
  step_within r (Put key value file) h = key_had h.tables h.had r key h.stored h.there
  step_within r _ h = tt

  own_within : (r : ℕ) (s : RegionStep) → IsStepHad append s.region s.step → s.region ≡ r → IsStepWithin (IsReached (steps r)) (IsSpoken (steps r)) s.step
  own_within r s h e = step_within r s.step (subst (λ q. IsStepHad append q s.step) e h)

  module _ (rewrite : List Event) (from : AreRewrittenFrom append rewrite) where
    items_within : (r : ℕ) (is : List RegionStep) → AllByRecursion (λ (s : RegionStep). IsStepHad append s.region s.step) is →
        AllByRecursion (λ (s : RegionStep). s.region ≡ r → IsStepWithin (IsReached (steps r)) (IsSpoken (steps r)) s.step) is
    items_within r is h = each_weaker (λ s. IsStepHad append s.region s.step) (λ s. s.region ≡ r → IsStepWithin (IsReached (steps r)) (IsSpoken (steps r)) s.step) (λ s k. own_within r s k) is h

    batches_within : (r : ℕ) (h : List Event) → AllByRecursion (λ (e : Event). AllByRecursion (λ (s : RegionStep). IsStepHad append s.region s.step) (steps_of_items e.items)) h
        → AllByRecursion (λ (b : BatchSteps). AllByRecursion (λ (s : RegionStep). s.region ≡ r → IsStepWithin (IsReached (steps r)) (IsSpoken (steps r)) s.step) b.steps) (batches h)
    batches_within r [] k = tt
    batches_within r (e ∷ h) k = (items_within r (steps_of_items e.items) k.0, batches_within r h k.1)

    rewritten_within : (r : ℕ) → AllByRecursion (IsStepWithin (IsReached (steps r)) (IsSpoken (steps r))) (steps_of r (batches rewrite))
    rewritten_within r = each_step_of (IsStepWithin (IsReached (steps r)) (IsSpoken (steps r))) (λ a b. tt) r (batches rewrite) (batches_within r rewrite from.each)

    module _ (rewritten : Tables) (read : IsOneReading Rewrite rewrite rewritten []) where
      spoken : (r : ℕ) → IsSpokenTable (steps r) (table_of r (finite.get rewritten r))
      spoken r = record {
        entries = entries_stay_within (IsReached (steps r)) (IsSpoken (steps r)) r None (finite.get rewritten r) (steps_of r (batches rewrite)) tt (rewritten_within r) (read.tables_read r);
        keys = λ key x e. pairs_stay_within (IsReached (steps r)) (IsSpoken (steps r)) r key (steps_of r (batches rewrite)) x (rewritten_within r)
            (sym (last_pair_stands Rewrite key r (finite.get rewritten r) (steps_of r (batches rewrite)) (read.tables_read r)) ∙ e);
      }

      module _ (appended : Tables) (cleaned : List ℕ) (own : IsOneReading Append append appended cleaned) where
        region_same : (r : ℕ) → HasSameRecords r (cond (is_named r (batches append)) (overlaid_table r (steps r) (finite.get appended r) (finite.get rewritten r)) (finite.get rewritten r)) (finite.get appended r)
        region_same r = go (is_named r (batches append)) refl
          where
            go : (b : Bool) → is_named r (batches append) ≡ b → HasSameRecords r (cond b (overlaid_table r (steps r) (finite.get appended r) (finite.get rewritten r)) (finite.get rewritten r)) (finite.get appended r)
            go true e = overlay_same r (steps r) (finite.get appended r) (finite.get rewritten r) (spoken r) (λ key. last_pair_stands Append key r (finite.get appended r) (steps r) (own.tables_read r))
            go false e =
                let none : steps r ≡ [] = (named-steps r (batches append)).0 e in
                unnamed_same r (finite.get appended r) (finite.get rewritten r)
                (subst (λ ss. IsSpokenTable ss (table_of r (finite.get rewritten r))) none (spoken r))
                (subst (λ ss. after Append r None ss ≡ Some (finite.get appended r)) none (own.tables_read r))

  pub both_same : (rewrite : List Event) (tables appended : Tables) (cleaned own_cleaned : List ℕ) → AreRewrittenFrom append rewrite →
      IsReadingOfBoth rewrite append tables cleaned → IsOneReading Append append appended own_cleaned → HaveSameRecords tables appended
  both_same rewrite tables appended cleaned own_cleaned from both own =
      let one : (r : ℕ) → HasSameRecords r (finite.get tables r)
      (finite.get both.appended r) = λ r. subst (λ t. HasSameRecords r t (finite.get both.appended r)) (sym (both.overlaid r))
      (region_same rewrite from both.rewritten both.rewrite_read both.appended cleaned both.append_read r) in
      let alike : (r : ℕ) → finite.get both.appended r ≡ finite.get appended r = λ r. some_is (sym (both.append_read.tables_read r) ∙ own.tables_read r) in
      record {
        entries = λ r. (one r).entries ∙ ap (λ o. (table_of r o).entries) (alike r);
        keys = λ r. (one r).keys ∙ ap (λ o. (table_of r o).keys) (alike r);
      }
