-- One reading of the rewrite queue: no step is refused, and a batch without a group marker takes effect alone.
use Rattle.raft_engine_laws.proofs.Common.{◌≡◌, ℕ, List, [], ◌∷◌, ◌++◌, Option, Some, None, refl, sym, ap, ◌∙◌, flat_map, option_and_then, nat_cmp, Rewrite, Step, Run, Compact, Truncate, Put, Del, AtomicGroup, Clean, table_of, after_step, after, Table, Event, batch_of, batches}
use Rattle.raft_engine_laws.proofs.Common.{steps_of, Numbered, Effect, effects, steps_by, IsOneReading, cleaned_in, RegionStep, Tables, steps_on, steps_of_items, tables_after, with_table, groups_in, steps_by_batch, steps-one, reading_by_region, batches-append, own-append}
use Rattle.raft_engine_laws.proofs.Common.{own_none, region_steps_of_whole, own-whole_group, HasNoMarker}
use Rattle.std.specs.FinMap as finite

-- no step is refused in the rewrite queue
step_taken : (t : Table) (s : Step) → (v : Option Table) × (after_step Rewrite t s ≡ Some v)
step_taken t (Run []) = (_, refl)
step_taken t (Run (e ∷ run)) = (_, refl)
step_taken t (Compact i) = (_, refl)
step_taken t (Truncate i) = (_, refl)
step_taken t (Put key value file) = (_, refl)
step_taken t (Del key) = (_, refl)
step_taken t (AtomicGroup a b) = (_, refl)
step_taken t Clean = (None, refl)

pub steps_taken : (m : Tables) (steps : List RegionStep) → (n : Tables) × (tables_after Rewrite m steps ≡ Some n)
steps_taken m [] = (m, refl)
steps_taken m (s ∷ steps) =
    let one : (v : Option Table) × (after_step Rewrite (table_of s.region (finite.get m s.region)) s.step ≡ Some v) = step_taken (table_of s.region (finite.get m s.region)) s.step in
    let rest : (n : Tables) × (tables_after Rewrite (with_table m s.region one.0) steps ≡ Some n) = steps_taken (with_table m s.region one.0) steps in
    (rest.0, ap (option_and_then (λ t. tables_after Rewrite (with_table m s.region t) steps)) one.1 ∙ rest.1)

-- a batch without a group marker takes effect alone
pub plain_more : (r : ℕ) (h : List Event) (e : Event) → HasNoMarker e → steps_of r (batches (h ++ e ∷ [])) ≡ steps_of r (batches h) ++ steps_on r (steps_of_items e.items)
plain_more r h e plain = ap (steps_of r) (batches-append h (e ∷ [])) ∙ steps-one r (batches h) (batch_of e) ∙ ap (λ m. steps_of r (batches h) ++ steps_by_batch r (groups_in (batches h)) (batch_of e) m) plain

-- the rewrite queue lists no cleaned region
none_cleaned : (h : List Event) → [] ≡ cleaned_in Rewrite h
none_cleaned [] = refl
none_cleaned (e ∷ h) = none_cleaned h

pub reading_of : (h : List Event) (tables : Tables) → ((r : ℕ) → after Rewrite r None (steps_of r (batches h)) ≡ Some (finite.get tables r)) → IsOneReading Rewrite h tables []
reading_of h tables read = record { tables_read = read; regions_cleaned = none_cleaned h }

-- ---- each history of the rewrite queue has a reading

-- the steps of an effect on all regions
abbrev steps_with : List Numbered → Numbered → List RegionStep
steps_with [] last = last.batch.steps
steps_with (q ∷ qs) last = region_steps_of_whole (record { steps = flat_map (λ p. p.batch.steps) (q ∷ qs) ++ last.batch.steps; first_seq = q.batch.seq; last_seq = last.batch.seq })

own_with : (r : ℕ) (earlier : List Numbered) (last : Numbered) → steps_on r (steps_with earlier last) ≡ steps_by r earlier last
own_with r [] last = refl
own_with r (q ∷ qs) last = own-whole_group r (record { steps = flat_map (λ p. p.batch.steps) (q ∷ qs) ++ last.batch.steps; first_seq = q.batch.seq; last_seq = last.batch.seq })

abbrev steps_in_all : List Effect → List RegionStep
steps_in_all es = flat_map (λ (e : Effect). steps_with e.earlier e.last) es

own_all : (r : ℕ) (es : List Effect) → steps_on r (steps_in_all es) ≡ flat_map (λ (e : Effect). steps_by r e.earlier e.last) es
own_all r [] = own_none r
own_all r (e ∷ es) = own-append r (steps_with e.earlier e.last) (steps_in_all es) ∙ ap (λ l. l ++ steps_on r (steps_in_all es)) (own_with r e.earlier e.last) ∙ ap (λ l. steps_by r e.earlier e.last ++ l) (own_all r es)

abbrev pub no_tables : Tables
no_tables = finite.empty

pub reading_there : (h : List Event) → (tables : Tables) × IsOneReading Rewrite h tables []
reading_there h = (taken.0, reading_of h taken.0 by_region)
  where
    taken : (n : Tables) × (tables_after Rewrite no_tables (steps_in_all (effects (batches h))) ≡ Some n)
    taken = steps_taken no_tables (steps_in_all (effects (batches h)))

    by_region : (r : ℕ) → after Rewrite r None (steps_of r (batches h)) ≡ Some (finite.get taken.0 r)
    by_region r =
        ap (after Rewrite r None) (sym (own_all r (effects (batches h))))
        ∙ ap (λ (o : Option Table). after Rewrite r o (steps_on r (steps_in_all (effects (batches h))))) (sym (finite.get-empty nat_cmp r))
        ∙ reading_by_region Rewrite no_tables taken.0 (steps_in_all (effects (batches h))) taken.1 r
