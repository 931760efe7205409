-- Steps on the tables of all regions, seen from each region.
use Rattle.raft_history.proofs.Common.{Append, option_and_then_some, then_none, ◌≡◌, ◌⊎◌, ℕ, List, [], ◌∷◌, Option, Some, None, sym, ap, subst, ◌∙◌, inl, inr, option_and_then, LogQueue, table_of, after_step, after, Table, same_some}
use Rattle.raft_history.proofs.Common.{RegionStep, Tables, with_table, steps_on, tables_after, flat_map-map, batch_of, flat_map, entry_at, last_entry, last_pair, last_entry_stands, last_pair_stands, Event, BatchSteps, batches, steps_of}
use Rattle.raft_history.proofs.Common.{IsSoundIn, IsOneReading, steps_of_items, ◌++◌, arith, append-nil, nat_cmp_total, nat_cmp-IsAntisymmetric, Step, after-append, IsReadNext, FilesFrom, HaveStatus, cleaned_in, cleaned_by_steps}
use Rattle.raft_history.proofs.MapLemmas.{IsOther, by_region, with_own, with_other}
use Rattle.raft_history.proofs.StepListLemmas.{own_none, own_head, own_other}
use Rattle.raft_history.proofs.SoundLemmas.{steps_good, without_marker, files-append, in_files-append, status-append, cleaned-append}
use Rattle.raft_history.proofs.WithoutMarkers.{plain_steps}
use Rattle.raft_history.proofs.StretchOfHistory.{plain-append}
use Rattle.std.specs.FinMap as finite

-- the steps of a region behind one step: where that is its own, from the table that it leaves
after_own : (q : LogQueue) (m : Tables) (s : RegionStep) (steps : List RegionStep) →
    after q s.region (finite.get m s.region) (steps_on s.region (s ∷ steps)) ≡ option_and_then (λ u. after q s.region u (steps_on s.region steps))
    (after_step q (table_of s.region (finite.get m s.region)) s.step)
after_own q m s steps = ap (after q s.region (finite.get m s.region)) (own_head s steps)

after_other : (q : LogQueue) (m : Tables) (s : RegionStep) (steps : List RegionStep) (t : Option Table) (r : ℕ) → IsOther r s.region →
    after q r (finite.get m r) (steps_on r (s ∷ steps)) ≡ after q r (finite.get (with_table m s.region t) r) (steps_on r steps)
after_other q m s steps t r f = ap (after q r (finite.get m r)) (own_other r s steps f.0) ∙ ap (λ u. after q r u (steps_on r steps)) (sym (with_other m s.region r t f.1))

after_first : (q : LogQueue) (m : Tables) (s : RegionStep) (steps : List RegionStep) (t : Option Table) → after_step q (table_of s.region (finite.get m s.region)) s.step ≡ Some t
    → after q s.region (finite.get m s.region) (steps_on s.region (s ∷ steps)) ≡ after q s.region (finite.get (with_table m s.region t) s.region) (steps_on s.region steps)
after_first q m s steps t is = after_own q m s steps ∙ ap (option_and_then (λ u. after q s.region u (steps_on s.region steps))) is ∙ ap (λ u. after q s.region u (steps_on s.region steps)) (sym (with_own m s.region t))

-- where no step is refused, each region has the table of its own steps
pub reading_by_region : (q : LogQueue) (m n : Tables) (steps : List RegionStep) → tables_after q m steps ≡ Some n → (r : ℕ) → after q r (finite.get m r) (steps_on r steps) ≡ Some (finite.get n r)
reading_by_region q m n [] h r = ap (after q r (finite.get m r)) (own_none r) ∙ ap (λ (x : Tables). Some (finite.get x r)) (same_some m n h)
reading_by_region q m n (s ∷ steps) h r = option_and_then_some (λ (t : Option Table). tables_after q (with_table m s.region t) steps) (after_step q (table_of s.region (finite.get m s.region)) s.step) n h
    (λ t is h. at t is (reading_by_region q (with_table m s.region t) n steps h) (by_region r s.region))
  where
    at : (t : Option Table) → after_step q (table_of s.region (finite.get m s.region)) s.step ≡ Some t
        → ((r : ℕ) → after q r (finite.get (with_table m s.region t) r) (steps_on r steps) ≡ Some (finite.get n r))
        → (r ≡ s.region) ⊎ IsOther r s.region → after q r (finite.get m r) (steps_on r (s ∷ steps)) ≡ Some (finite.get n r)
    at t is ih (inl p) = subst (λ r. after q r (finite.get m r) (steps_on r (s ∷ steps)) ≡ Some (finite.get n r)) (sym p) (after_first q m s steps t is ∙ ih s.region)
    at t is ih (inr f) = after_other q m s steps t r f ∙ ih r

-- where a step is refused, it is one of some region's own steps
pub reading_refused : (q : LogQueue) (m : Tables) (steps : List RegionStep) → tables_after q m steps ≡ None → (r : ℕ) × (after q r (finite.get m r) (steps_on r steps) ≡ None)
reading_refused q m [] h = absurd cc
reading_refused q m (s ∷ steps) h = then_none (λ (t : Option Table). tables_after q (with_table m s.region t) steps) (after_step q (table_of s.region (finite.get m s.region)) s.step) h
    (λ is. (s.region, after_own q m s steps ∙ ap (option_and_then (λ u. after q s.region u (steps_on s.region steps))) is))
    (λ t is h. let p = reading_refused q (with_table m s.region t) steps h in at t is p.0 p.1 (by_region p.0 s.region))
  where
    at : (t : Option Table) → after_step q (table_of s.region (finite.get m s.region)) s.step ≡ Some t → (r : ℕ) → after q r (finite.get (with_table m s.region t) r) (steps_on r steps) ≡ None
        → (r ≡ s.region) ⊎ IsOther r s.region → (r : ℕ) × (after q r (finite.get m r) (steps_on r (s ∷ steps)) ≡ None)
    at t is r h (inl e) = (s.region, after_first q m s steps t is ∙ subst (λ r. after q r (finite.get (with_table m s.region t) r) (steps_on r steps) ≡ None) e h)
    at t is r h (inr f) = (r, after_other q m s steps t r f ∙ h)

-- ---- the last word in one reading of the append queue

own_steps : (r : ℕ) (h : List Event) → IsSoundIn Append h → steps_of r (batches h) ≡ flat_map (λ (e : Event). steps_on r (steps_of_items e.items)) h
own_steps r h s = plain_steps r (batches h) (without_marker 0 h s.files) ∙ flat_map-map (λ (b : BatchSteps). steps_on r b.steps) batch_of h

pub entry_stands : (h : List Event) (tables : Tables) (cleaned : List ℕ) → IsSoundIn Append h → IsOneReading Append h tables cleaned → (r i : ℕ) →
    entry_at i (table_of r (finite.get tables r)).entries ≡ last_entry i (flat_map (λ (e : Event). steps_on r (steps_of_items e.items)) h)
entry_stands h tables cleaned s one r i = last_entry_stands i r (finite.get tables r) (steps_of r (batches h)) (steps_good r h s.items) (one.tables_read r) ∙ ap (last_entry i) (own_steps r h s)

pub pair_stands : (h : List Event) (tables : Tables) (cleaned : List ℕ) → IsSoundIn Append h → IsOneReading Append h tables cleaned →
    (r : ℕ) (key : List ℕ) → finite.get (table_of r (finite.get tables r)).keys key ≡ last_pair key
    (flat_map (λ (e : Event). steps_on r (steps_of_items e.items)) h)
pair_stands h tables cleaned s one r key = last_pair_stands Append key r (finite.get tables r) (steps_of r (batches h)) (one.tables_read r) ∙ ap (last_pair key) (own_steps r h s)

-- ---- one batch more after a history of the append queue that was read; and two readings of one history

module _ (h : List Event) (e : Event) (tables later : Tables) (cleaned : List ℕ) (sound : IsSoundIn Append h) (one : IsOneReading Append h tables cleaned) (next : IsReadNext h tables e later) where
  alone : FilesFrom Append 0 (e ∷ [])
  alone = (next.queue, omega arith, tt)

  files : FilesFrom Append 0 (h ++ e ∷ [])
  files = files-append Append 0 h (e ∷ []) sound.files (next.queue, next.follows, tt)

  -- the steps on a region are its old ones, and those of the batch
  steps_more : (r : ℕ) → steps_of r (batches (h ++ e ∷ [])) ≡ steps_of r (batches h) ++ steps_on r (steps_of_items e.items)
  steps_more r =
      plain-append r h (e ∷ []) sound.files alone files
      ∙ ap (λ (l : List Step). steps_of r (batches h) ++ l) (plain_steps r (batches (e ∷ [])) (without_marker 0 (e ∷ []) alone) ∙ append-nil (steps_on r (steps_of_items e.items)))

  read : (r : ℕ) → after Append r None (steps_of r (batches (h ++ e ∷ []))) ≡ Some (finite.get later r)
  read r =
      ap (after Append r None) (steps_more r)
      ∙ after-append Append r None (steps_of r (batches h)) (steps_on r (steps_of_items e.items))
      ∙ ap (option_and_then (λ u. after Append r u (steps_on r (steps_of_items e.items)))) (one.tables_read r)
      ∙ reading_by_region Append tables later (steps_of_items e.items) next.accepted r

  pub goes_on_sound : IsSoundIn Append (h ++ e ∷ [])
  goes_on_sound = record {
    files = files;
    items = in_files-append h (e ∷ []) sound.items (next.in_file, tt);
    markers = status-append h (e ∷ []) sound.markers (subst (λ (q : LogQueue). HaveStatus q e.items) (sym next.queue) tt, tt);
    accepted = λ r. (finite.get later r, read r);
  }

  abbrev cleaned_next : List ℕ
  cleaned_next = cleaned_by_steps Append (steps_of_items e.items)

  pub goes_on_reading : IsOneReading Append (h ++ e ∷ []) later (cleaned ++ cleaned_next)
  goes_on_reading = record {
    tables_read = read;
    regions_cleaned =
        ap (λ (l : List ℕ). l ++ cleaned_next) one.regions_cleaned
        ∙ ap (λ (l : List ℕ). cleaned_in Append h ++ l) (sym (append-nil cleaned_next))
        ∙ sym (cleaned-append Append h (e ∷ []));
  }

-- two readings of one history give the same
pub same_tables : (q : LogQueue) (h : List Event) (m n : Tables) (a b : List ℕ) → IsOneReading q h m a → IsOneReading q h n b → m ≡ n
same_tables q h m n a b x y = finite.same_map nat_cmp_total nat_cmp-IsAntisymmetric m n (λ r. same_some (finite.get m r) (finite.get n r) (sym (x.tables_read r) ∙ y.tables_read r))

pub same_cleaned : (q : LogQueue) (h : List Event) (m n : Tables) (a b : List ℕ) → IsOneReading q h m a → IsOneReading q h n b → a ≡ b
same_cleaned q h m n a b x y = x.regions_cleaned ∙ sym y.regions_cleaned
