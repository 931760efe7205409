-- Steps of a new batch that take nothing away of the tables needn't be told.
use Rattle.raft_engine_laws.proofs.Common.{◌≡◌, ℕ, suc, ◌<◌, ◌≤◌, max, Bool, true, false, cond, not, ◌||◌, List, [], ◌∷◌, ◌++◌, map, Option, Some, refl, sym, ap, subst, ◌∙◌, arith, filter, nat_le, nat_lt, list_any, false≢true, eqb-true, nat_tests, EntryIndex, Append, Rewrite}
use Rattle.raft_engine_laws.proofs.Common.{end_of, speaks_of_index, Step, Run, Compact, Truncate, Put, Del, AtomicGroup, Clean, table_of, Table, placed_in, is_placed_in, same_some, Event, IsOneReading, RegionStep, Tables, steps_on, steps_of_items, own-append, own_cons, is_on}
use Rattle.raft_engine_laws.proofs.Common.{Appending, after_items, AreKept, Records, is_index_spoken, unspoken, drops_key, is_key_dropped, Deed, Write, written, deleted, MayBeGone, in_files_from, IsNextIn, IsSafe, SayEnough, takes_away, takes_from, taking_steps}
use Rattle.std.specs.FinMap as finite
use Rattle.raft_engine_laws.proofs.EachLemmas.{Each}
use Rattle.raft_engine_laws.proofs.SafeWrites.{written_safe, untold_fewer}
use Rattle.raft_engine_laws.proofs.CrashLemmas.{all_gone}
use Rattle.raft_engine_laws.proofs.TestLemmas.{or_first, or_later, any-append}
use Rattle.raft_engine_laws.proofs.UnspokenLemmas.{spoken-append, unspoken-steps}

-- ---- the steps on a region

taking_on : (tables : Tables) (r : ℕ) (steps : List RegionStep) → steps_on r (taking_steps tables steps) ≡ filter (takes_away (end_of (table_of r (finite.get tables r)).entries)) (steps_on r steps)
unfolding steps_on
taking_on tables r [] = refl
taking_on tables r (s ∷ steps) = go (is_on r s) refl (takes_from tables s) refl (taking_on tables r steps)
  where
    same : is_on r s ≡ true → takes_from tables s ≡ takes_away (end_of (table_of r (finite.get tables r)).entries) s.step
    same k = ap (λ q. takes_away (end_of (table_of q (finite.get tables q)).entries) s.step) (sym (eqb-true r s.region k))

    first : (b : Bool) → is_on r s ≡ true → takes_from tables s ≡ b →
        cond b (s.step ∷ steps_on r (taking_steps tables steps)) (steps_on r (taking_steps tables steps)) ≡ cond
        (takes_away (end_of (table_of r (finite.get tables r)).entries) s.step) (s.step ∷ steps_on r (taking_steps tables steps))
        (steps_on r (taking_steps tables steps))
    first b k l = ap (λ c. cond c (s.step ∷ steps_on r (taking_steps tables steps)) (steps_on r (taking_steps tables steps))) (sym l ∙ same k)

    go : (a : Bool) → is_on r s ≡ a → (b : Bool) → takes_from tables s ≡ b → steps_on r (taking_steps tables steps) ≡ filter (takes_away (end_of (table_of r (finite.get tables r)).entries)) (steps_on r steps)
        → steps_on r (cond b (s ∷ taking_steps tables steps) (taking_steps tables steps)) ≡ filter
        (takes_away (end_of (table_of r (finite.get tables r)).entries))
        (map (λ i. i.step) (cond a (s ∷ filter (is_on r) steps) (filter (is_on r) steps)))
    go true k true l ih = own_cons r s (taking_steps tables steps)
        ∙ ap (λ c. cond c (s.step ∷ steps_on r (taking_steps tables steps)) (steps_on r (taking_steps tables steps))) k ∙ first true k l
        ∙ ap (λ m. cond (takes_away (end_of (table_of r (finite.get tables r)).entries) s.step) (s.step ∷ m) m) ih
    go true k false l ih = first false k l ∙ ap (λ m. cond (takes_away (end_of (table_of r (finite.get tables r)).entries) s.step) (s.step ∷ m) m) ih
    go false k true l ih = own_cons r s (taking_steps tables steps) ∙ ap (λ c. cond c (s.step ∷ steps_on r (taking_steps tables steps)) (steps_on r (taking_steps tables steps))) k ∙ ih
    go false k false l ih = ih

-- ---- what they leave

quiet_run : (i end n : ℕ) → i < end → nat_lt n end ≡ false → nat_le n i ≡ false
quiet_run i end n l k = grind (arith, nat_tests)

-- a quiet step speaks of nothing in front of the end, and drops no key
quiet_index : (i end : ℕ) (s : Step) → i < end → takes_away end s ≡ false → speaks_of_index i s ≡ false
quiet_index i end (Run []) l k = refl
quiet_index i end (Run (e ∷ run)) l k = quiet_run i end e.index l k
quiet_index i end (Compact n) l k = absurd (false≢true (sym k))
quiet_index i end (Truncate n) l k = absurd (false≢true (sym k))
quiet_index i end (Put key value file) l k = refl
quiet_index i end (Del key) l k = absurd (false≢true (sym k))
quiet_index i end (AtomicGroup a b) l k = refl
quiet_index i end Clean l k = absurd (false≢true (sym k))

quiet_key : (key : List ℕ) (end : ℕ) (s : Step) → takes_away end s ≡ false → drops_key key s ≡ false
quiet_key key end (Run run) k = refl
quiet_key key end (Compact n) k = refl
quiet_key key end (Truncate n) k = refl
quiet_key key end (Put key' value file) k = refl
quiet_key key end (Del key') k = absurd (false≢true (sym k))
quiet_key key end (AtomicGroup a b) k = refl
quiet_key key end Clean k = absurd (false≢true (sym k))

-- a test that fails for what a filter drops
any_kept : {X : Type 0} (p q : X → Bool) → ((x : X) → q x ≡ false → p x ≡ false) → (xs : List X) → list_any p (filter q xs) ≡ list_any p xs
any_kept p q law [] = refl
any_kept p q law (x ∷ xs) = go (q x) refl (any_kept p q law xs)
  where
    go : (b : Bool) → q x ≡ b → list_any p (filter q xs) ≡ list_any p xs → list_any p (cond b (x ∷ filter q xs) (filter q xs)) ≡ (p x || list_any p xs)
    go true k ih = ap (λ b. p x || b) ih
    go false k ih = ih ∙ ap (λ b. b || list_any p xs) (sym (law x k))

any_more : {X : Type 0} (p q : X → Bool) (xs : List X) → list_any p (filter q xs) ≡ true → list_any p xs ≡ true
any_more p q [] h = h
any_more p q (x ∷ xs) h = go (q x) (any_more p q xs) h
  where
    either : (b : Bool) → p x ≡ b → (list_any p (filter q xs) ≡ true → list_any p xs ≡ true) → (b || list_any p (filter q xs)) ≡ true → (p x || list_any p xs) ≡ true
    either true k ih h = or_first (p x) (list_any p xs) k
    either false k ih h = or_later (p x) (list_any p xs) (ih h)

    go : (b : Bool) → (list_any p (filter q xs) ≡ true → list_any p xs ≡ true) → list_any p (cond b (x ∷ filter q xs) (filter q xs)) ≡ true → (p x || list_any p xs) ≡ true
    go true ih h = either (p x) refl ih h
    go false ih h = or_later (p x) (list_any p xs) (ih h)

same_left : (end : ℕ) (ss : List Step) (es : List EntryIndex) → Each (λ i. i < end) es → unspoken (filter (takes_away end) ss) es ≡ unspoken ss es
unfolding unspoken
same_left end ss [] h = refl
same_left end ss (e ∷ es) h =
    ap (λ b. cond (not b) (e ∷ unspoken (filter (takes_away end) ss) es) (unspoken (filter (takes_away end) ss) es)) (any_kept (speaks_of_index e.index) (takes_away end) (λ s k. quiet_index e.index end s h.0 k) ss)
    ∙ ap (λ l. cond (not (is_index_spoken ss e.index)) (e ∷ l) l) (same_left end ss es h.1)

all_below : (end : ℕ) (es : List EntryIndex) → end_of es ≤ end → Each (λ i. i < end) es
unfolding end_of
all_below end [] h = tt
all_below end (e ∷ es) h = (omega (arith, h), all_below end es (omega (arith, h)))

placed_end : (es : List EntryIndex) → end_of (placed_in Rewrite es) ≤ end_of es
unfolding end_of placed_in
placed_end [] = omega arith
placed_end (e ∷ es) = go (is_placed_in Rewrite e) (placed_end es)
  where
    go : (b : Bool) → end_of (placed_in Rewrite es) ≤ end_of es → end_of (cond b (e ∷ placed_in Rewrite es) (placed_in Rewrite es)) ≤ max (suc e.index) (end_of es)
    go true h = omega (arith, h)
    go false h = omega (arith, h)

-- the untold steps and the taking ones say enough
enough : (end : ℕ) (untold ss taking : List Step) (es : List EntryIndex) → taking ≡ filter (takes_away end) ss → Each (λ i. i < end) (unspoken untold es) → SayEnough (untold ++ ss) (untold ++ taking) es
enough end untold ss taking es same low = subst (λ l. SayEnough (untold ++ ss) (untold ++ l) es) (sym same) (record {
  covers = λ i k. spoken-append untold ss i ∙ more i (is_index_spoken untold i) refl (sym (spoken-append untold (filter (takes_away end) ss) i) ∙ k);
  entries = sym (unspoken-steps untold (filter (takes_away end) ss) es) ∙ same_left end ss (unspoken untold es) low ∙ unspoken-steps untold ss es;
  keys = λ key. any-append (drops_key key) untold (filter (takes_away end) ss) ∙ ap (λ b. is_key_dropped untold key || b) (any_kept (drops_key key) (takes_away end) (quiet_key key end) ss) ∙ sym (any-append (drops_key key) untold ss);
})
  where
    more : (i : ℕ) (b : Bool) → is_index_spoken untold i ≡ b → (is_index_spoken untold i || is_index_spoken (filter (takes_away end) ss) i) ≡ true → (is_index_spoken untold i || is_index_spoken ss i) ≡ true
    more i true k h = or_first (is_index_spoken untold i) (is_index_spoken ss i) k
    more i false k h = or_later (is_index_spoken untold i) (is_index_spoken ss i) (any_more (speaks_of_index i) (takes_away end) ss (ap (λ b. b || is_index_spoken (filter (takes_away end) ss) i) (sym k) ∙ h))

-- ---- a batch

module _ (content : EntryIndex → List ℕ) (base : ℕ → Records) (appended rewritten : List Deed) (untold : List RegionStep) (tables new : Tables)
    (e : Event) (h : IsSafe content base appended rewritten untold tables) (next : IsNextIn Append appended e)
    (taken : after_items Appending tables e.items ≡ Some new) where
  abbrev steps : List RegionStep
  steps = steps_of_items e.items

  abbrev taking : List RegionStep
  taking = taking_steps tables steps

  enough_said : (n : ℕ) (before : Tables) → MayBeGone rewritten n → IsOneReading Rewrite (in_files_from n (written rewritten)) before [] → (r : ℕ) →
      SayEnough (steps_on r (untold ++ steps)) (steps_on r (untold ++ taking)) (table_of r (finite.get before r)).entries
  enough_said n before g read r =
      let a : AreKept content (in_files_from (deleted appended) (written appended)) (in_files_from n (written rewritten)) untold tables = h.kept (deleted appended) n (all_gone appended) g in
      let same : finite.get before r ≡ finite.get a.rewritten r = same_some _ _ (sym (read.tables_read r) ∙ a.read.tables_read r) in
      subst (λ l. SayEnough l (steps_on r (untold ++ taking)) (table_of r (finite.get before r)).entries) (sym (own-append r untold steps))
      (subst (λ l. SayEnough (steps_on r untold ++ steps_on r steps) l (table_of r (finite.get before r)).entries) (sym (own-append r untold taking))
      (enough (end_of (table_of r (finite.get tables r)).entries) (steps_on r untold) (steps_on r steps) (steps_on r taking) (table_of r (finite.get before r)).entries (taking_on tables r steps)
      (subst (Each (λ i. i < end_of (table_of r (finite.get tables r)).entries)) (sym (ap (λ (o : Option Table). unspoken (steps_on r untold) (table_of r o).entries) same ∙ (a.each r).told))
      (all_below (end_of (table_of r (finite.get tables r)).entries) (placed_in Rewrite (table_of r (finite.get tables r)).entries) (placed_end (table_of r (finite.get tables r)).entries)))))

  -- only its taking steps are untold then
  pub taking_safe : IsSafe content base (Write e ∷ appended) rewritten (untold ++ taking_steps tables (steps_of_items e.items)) new
  taking_safe = untold_fewer content base (Write e ∷ appended) rewritten (untold ++ steps) new (written_safe content base appended rewritten untold tables h new e next taken) (untold ++ taking) enough_said
