-- What the items that tell of all rewritten tables are on each region.
use Rattle.raft_engine_laws.proofs.Common.{◌≡◌, ℕ, ◌+◌, Bool, true, false, cond, List, [], ◌∷◌, ◌++◌, map, Option, Some, None, IsPermutation, refl, sym, ap, subst, ◌∙◌, append-nil, arith, nat_cmp_total, eqb, flat_map, is_some, nat_eq, is_sorted, AllByRecursion, nat_cmp, eqb-true}
use Rattle.raft_engine_laws.proofs.Common.{false≢true, All-from_recursion, recursion_from_All, All-permutation, IsPermutation-sym, is_reserved, Item, Mark, Step, Run, Compact, Truncate, Put, Del, AtomicGroup, Clean, table_of, Table, empty_table, same_some, find-below}
use Rattle.raft_engine_laws.proofs.Common.{first_of_both, second_of_both, MarkedRegions, region_in, Tables, steps_of_items, steps_on, own-append, own_cons, own_none, own_other, with_step, eq_self, none_some, Once, same_test, added, added-permuted, first_in, item_of_step}
use Rattle.raft_engine_laws.proofs.Common.{items_of_steps, items_of_table}
use lib.Dec.{T}
use Rattle.std.specs.FinMap as finite
use Rattle.std.specs.FinMap.{find}
use Rattle.raft_engine_laws.proofs.ToldItems.{steps-append}

-- a step that an item tells: a command, or the deletion of a key that isn't reserved
abbrev pub IsTellable : Step → Type 0
IsTellable (Compact i) = Unit {0}
IsTellable (Truncate i) = Unit {0}
IsTellable (Del key) = is_reserved key ≡ false
IsTellable Clean = Unit {0}
IsTellable _ = ⊥

abbrev pub AreTellable : List Step → Type 0
AreTellable ss = AllByRecursion IsTellable ss

module _ (r region : ℕ) where
  on_step : (s : Step) → IsTellable s → (rest : List Item) → steps_on r (steps_of_items (item_of_step region s ++ rest)) ≡ cond (eqb r region) (s ∷ steps_on r (steps_of_items rest)) (steps_on r (steps_of_items rest))
  on_step (Compact i) h rest = own_cons r (record { region = region; step = Compact i }) (steps_of_items rest)
  on_step (Truncate i) h rest = own_cons r (record { region = region; step = Truncate i }) (steps_of_items rest)
  on_step Clean h rest = own_cons r (record { region = region; step = Clean }) (steps_of_items rest)
  on_step (Del key) h rest = go (is_reserved key) h
    where
      go : (b : Bool) → b ≡ false
          → steps_on r (with_step region (cond b None (Some (Del key))) (steps_of_items rest)) ≡ cond (eqb r region) (Del key ∷ steps_on r (steps_of_items rest)) (steps_on r (steps_of_items rest))
      go true e = absurd (false≢true (sym e))
      go false e = own_cons r (record { region = region; step = Del key }) (steps_of_items rest)
  on_step (Run run) h rest = absurd h
  on_step (Put key value file) h rest = absurd h
  on_step (AtomicGroup a b) h rest = absurd h

  -- steps that are told are on their region
  on_own : eqb r region ≡ true → (ss : List Step) → AreTellable ss → steps_on r (steps_of_items (items_of_steps region ss)) ≡ ss
  on_own is [] h = own_none r
  on_own is (s ∷ ss) h = on_step s h.0 (items_of_steps region ss)
      ∙ ap (λ b. cond b (s ∷ steps_on r (steps_of_items (items_of_steps region ss))) (steps_on r (steps_of_items (items_of_steps region ss)))) is ∙ ap (λ l. s ∷ l) (on_own is ss h.1)

  off_step : eqb r region ≡ false → (s : Step) (rest : List Item) → steps_on r (steps_of_items (item_of_step region s ++ rest)) ≡ steps_on r (steps_of_items rest)
  off_step is (Compact i) rest = own_other r (record { region = region; step = Compact i }) (steps_of_items rest) is
  off_step is (Truncate i) rest = own_other r (record { region = region; step = Truncate i }) (steps_of_items rest) is
  off_step is Clean rest = own_other r (record { region = region; step = Clean }) (steps_of_items rest) is
  off_step is (Del key) rest = go (is_reserved key)
    where
      go : (b : Bool) → steps_on r (with_step region (cond b None (Some (Del key))) (steps_of_items rest)) ≡ steps_on r (steps_of_items rest)
      go true = refl
      go false = own_other r (record { region = region; step = Del key }) (steps_of_items rest) is
  off_step is (Run run) rest = refl
  off_step is (Put key value file) rest = refl
  off_step is (AtomicGroup a b) rest = refl

  -- and on no other one
  on_other : eqb r region ≡ false → (ss : List Step) → steps_on r (steps_of_items (items_of_steps region ss)) ≡ []
  on_other is [] = own_none r
  on_other is (s ∷ ss) = off_step is s (items_of_steps region ss) ∙ on_other is ss

-- ---- tables under their own regions' ids

once_each : (es : List (ℕ × Table)) → T (is_sorted nat_cmp es) → Once es
once_each [] h = tt
once_each (e ∷ es) h = (find-below nat_cmp_total e.0 es (first_of_both _ _ h), once_each es (second_of_both _ _ h))

-- what holds of all that is found holds of each entry
each_found : (P : ℕ → Table → Type 0) (es : List (ℕ × Table)) → Once es → ((k : ℕ) (t : Table) → find nat_cmp k es ≡ Some t → P k t) → AllByRecursion (λ (e : ℕ × Table). P e.0 e.1) es
each_found P [] once of = tt
each_found P (e ∷ es) once of = (of e.0 e.1 (ap (λ b. cond b (Some e.1) (find nat_cmp e.0 es)) (eq_self e.0)), each_found P es once.1 later)
  where
    later : (k : ℕ) (t : Table) → find nat_cmp k es ≡ Some t → P k t
    later k t f = go (nat_eq k e.0) refl
      where
        go : (b : Bool) → nat_eq k e.0 ≡ b → P k t
        go true p = absurd (none_some (sym once.0 ∙ ap (λ q. find nat_cmp q es) (sym (eqb-true k e.0 p)) ∙ f))
        go false p = of k t (ap (λ b. cond b (Some e.1) (find nat_cmp k es)) (same_test k e.0 ∙ p) ∙ f)

-- how many of some tables are a region's
abbrev passes : ℕ → Table → ℕ
passes r t = cond (eqb r t.region_id) 1 0

abbrev AreOwn : List (ℕ × Table) → Type 0
AreOwn es = AllByRecursion (λ (e : ℕ × Table). e.1.region_id ≡ e.0) es

none_counted : (r : ℕ) (es : List (ℕ × Table)) → AreOwn es → find nat_cmp r es ≡ None → added (passes r) (map (λ e. e.1) es) ≡ 0
none_counted r [] own none = refl
none_counted r (e ∷ es) own none =
    ap (λ k. cond (eqb r k) 1 0 + added (passes r) (map (λ e. e.1) es)) own.0
    ∙ go (nat_eq r e.0) (ap (λ b. cond b (Some e.1) (find nat_cmp r es)) (sym (same_test r e.0)) ∙ none) (none_counted r es own.1)
  where
    go : (b : Bool) → cond b (Some e.1) (find nat_cmp r es) ≡ None → (find nat_cmp r es ≡ None → added (passes r) (map (λ e. e.1) es) ≡ 0)
        → cond b 1 0 + added (passes r) (map (λ e. e.1) es) ≡ 0
    go true f rest = absurd (none_some (sym f))
    go false f rest = omega (arith, rest f)

one_counted : (r : ℕ) (es : List (ℕ × Table)) → AreOwn es → Once es → added (passes r) (map (λ e. e.1) es) ≡ cond (is_some (find nat_cmp r es)) 1 0
one_counted r [] own once = refl
one_counted r (e ∷ es) own once =
    ap (λ k. cond (eqb r k) 1 0 + added (passes r) (map (λ e. e.1) es)) own.0
    ∙ go (nat_eq r e.0) refl (one_counted r es own.1 once.1)
    ∙ ap (λ b. cond (is_some (cond b (Some e.1) (find nat_cmp r es))) 1 0) (sym (same_test r e.0))
  where
    go : (b : Bool) → nat_eq r e.0 ≡ b → added (passes r) (map (λ e. e.1) es) ≡ cond (is_some (find nat_cmp r es)) 1 0
        → cond b 1 0 + added (passes r) (map (λ e. e.1) es) ≡ cond (is_some (cond b (Some e.1) (find nat_cmp r es))) 1 0
    go true p rest = omega (arith, none_counted r es own.1 (ap (λ k. find nat_cmp k es) (eqb-true r e.0 p) ∙ once.0))
    go false p rest = omega (arith, rest)

-- ---- what is told of all tables, on one region

module _ (m : Tables) (own : (k : ℕ) (t : Table) → finite.get m k ≡ Some t → t.region_id ≡ k) where
  once : Once (finite.entries m)
  once = once_each (finite.entries m) (finite.entries_sorted m)

  are_own : AreOwn (finite.entries m)
  are_own = each_found (λ k t. t.region_id ≡ k) (finite.entries m) once (λ k t f. own k t (finite.get-entries m k ∙ f))

  abbrev IsIn : Table → Type 0
  IsIn t = finite.get m t.region_id ≡ Some t

  are_in : AllByRecursion IsIn (finite.values m)
  are_in = through (finite.entries m) (each_found (λ k t. IsIn t) (finite.entries m) once (λ k t f. let is = finite.get-entries m k ∙ f in subst (λ i. finite.get m i ≡ Some t) (sym (own k t is)) is))
    where
      through : (es : List (ℕ × Table)) → AllByRecursion (λ (e : ℕ × Table). IsIn e.1) es → AllByRecursion IsIn (map (λ e. e.1) es)
      through [] h = tt
      through (e ∷ es) h = (h.0, through es h.1)

  module _ (ts : List Table) (all : IsPermutation ts (finite.values m)) where
    all_in : AllByRecursion IsIn ts
    all_in = recursion_from_All IsIn ts (All-permutation IsIn (finite.values m) ts (IsPermutation-sym ts (finite.values m) all) (All-from_recursion IsIn (finite.values m) are_in))

    counted : (r : ℕ) → added (passes r) ts ≡ cond (is_some (finite.get m r)) 1 0
    counted r =
        added-permuted (passes r) ts (finite.values m) all ∙ one_counted r (finite.entries m) are_own once
        ∙ ap (λ (o : Option Table). cond (is_some o) 1 0) (sym (finite.get-entries m r))

    module _ (steps : Mark → Option ℕ → Table → List Step) (append : MarkedRegions) (r : ℕ) where
      abbrev told_of : Table → List Step
      told_of t = steps (region_in append r).mark (first_in append r) t

      abbrev on : List Table → List Step
      on us = steps_on r (steps_of_items (flat_map (items_of_table steps append) us))

      split : (u : Table) (us : List Table) → on (u ∷ us) ≡ steps_on r (steps_of_items (items_of_table steps append u)) ++ on us
      split u us =
          ap (steps_on r) (steps-append (items_of_table steps append u) (flat_map (items_of_table steps append) us))
          ∙ own-append r (steps_of_items (items_of_table steps append u)) (steps_of_items (flat_map (items_of_table steps append) us))

      other : (u : Table) → eqb r u.region_id ≡ false → steps_on r (steps_of_items (items_of_table steps append u)) ≡ []
      other u is = on_other r u.region_id is (steps (region_in append u.region_id).mark (first_in append u.region_id) u)

      -- where none of them is the region's
      none_on : (us : List Table) → added (passes r) us ≡ 0 → on us ≡ []
      none_on [] h = own_none r
      none_on (u ∷ us) h = split u us ∙ go (eqb r u.region_id) refl h (none_on us)
        where
          go : (b : Bool) → eqb r u.region_id ≡ b → cond b 1 0 + added (passes r) us ≡ 0 → (added (passes r) us ≡ 0 → on us ≡ []) → steps_on r (steps_of_items (items_of_table steps append u)) ++ on us ≡ []
          go true is h rest = absurd (omega (arith, h))
          go false is h rest = ap (λ l. l ++ on us) (other u is) ∙ rest (omega (arith, h))

      module _ (t : Table) (there : finite.get m r ≡ Some t) (tellable : AreTellable (told_of t)) where
        one : (u : Table) → IsIn u → eqb r u.region_id ≡ true → steps_on r (steps_of_items (items_of_table steps append u)) ≡ told_of t
        one u is same =
            let id : r ≡ u.region_id = eqb-true r u.region_id same in
            let equal : u ≡ t = same_some u t (sym is ∙ ap (finite.get m) (sym id) ∙ there) in
            let told : told_of t ≡ steps (region_in append u.region_id).mark (first_in append u.region_id) u =
            ap told_of (sym equal) ∙ ap (λ i. steps (region_in append i).mark (first_in append i) u) id in
            on_own r u.region_id same (steps (region_in append u.region_id).mark (first_in append u.region_id) u) (subst AreTellable told tellable) ∙ sym told

        one_on : (us : List Table) → AllByRecursion IsIn us → added (passes r) us ≡ 1 → on us ≡ told_of t
        one_on [] is h = absurd (omega (arith, h))
        one_on (u ∷ us) is h = split u us ∙ go (eqb r u.region_id) refl h (one_on us is.1)
          where
            go : (b : Bool) → eqb r u.region_id ≡ b → cond b 1 0 + added (passes r) us ≡ 1 → (added (passes r) us ≡ 1 → on us ≡ told_of t)
                → steps_on r (steps_of_items (items_of_table steps append u)) ++ on us ≡ told_of t
            go true e h rest = ap (λ l. l ++ on us) (one u is.0 e) ∙ ap (λ l. told_of t ++ l) (none_on us (omega (arith, h))) ∙ append-nil (told_of t)
            go false e h rest = ap (λ l. l ++ on us) (other u e) ∙ rest (omega (arith, h))

      -- it is what is told of the region's table, if it has one
      pub told_on : AreTellable (told_of (table_of r (finite.get m r))) → told_of (empty_table r) ≡ [] → on ts ≡ told_of (table_of r (finite.get m r))
      told_on tellable nothing = go (finite.get m r) refl tellable
        where
          go : (o : Option Table) → finite.get m r ≡ o → AreTellable (told_of (table_of r o)) → on ts ≡ told_of (table_of r o)
          go None e tellable = none_on ts (counted r ∙ ap (λ (o : Option Table). cond (is_some o) 1 0) e) ∙ sym nothing
          go (Some t) e tellable = one_on t e tellable ts all_in (counted r ∙ ap (λ (o : Option Table). cond (is_some o) 1 0) e)
