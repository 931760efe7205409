-- A region of any files that a recovery could read: once the rewrite queue is told what the append files take away, and what lies in front of the recovered entries, it is kept.
use Rattle.raft_engine_laws.proofs.Common.{◌≡◌, ℕ, suc, ◌<◌, ◌≤◌, Bool, true, false, cond, not, List, [], ◌∷◌, ◌++◌, Option, Some, None, refl, sym, ap, subst, ◌∙◌, append-nil, arith, ◌&&◌, ◌==◌, nat_lt, nat_le, false≢true, nat_tests, EntryIndex, Append, RisesFrom, IsRun, end_of}
use Rattle.raft_engine_laws.proofs.Common.{entries_within, is_under, has_clean, greatest_compaction, least_cut, is_unjoined, rewritten_within, Step, Compact, AreSteps, table_of, after, Table, entry_at, from, start_of, last_entry_stands, no_table, rises, IsAtOrAbove, cut_reached}
use Rattle.raft_engine_laws.proofs.Common.{entry_reached, is_index_spoken, unspoken, IsOver}
use Rattle.raft_engine_laws.proofs.EachLemmas.{Each, each_left}
use Rattle.raft_engine_laws.proofs.OverLemmas.{steps_over}
use Rattle.raft_engine_laws.proofs.SpokenWords.{spoken_words, unspoken_within, unspoken_cleaned}
use Rattle.raft_engine_laws.proofs.UnspokenLemmas.{all_left, unspoken-steps, unspoken-compact, unspoken-nil}

-- own entries are all spoken of
pub own_spoken : (id : ℕ) (kept : List Step) (own : Option Table) → AreSteps kept → after Append id None kept ≡ Some own → unspoken kept (table_of id own).entries ≡ []
own_spoken id kept own good is =
    let r : (w : Option Table) × (after Append id None kept ≡ Some w) × IsOver ([] ++ kept) (table_of id w).entries (table_of id own).entries =
    steps_over id [] None None own kept good (record { split = sym (append-nil _ ∙ unspoken-nil []); spoken = unspoken-nil [] }) (no_table id) is in
    subst (λ (u : Option Table). unspoken kept (table_of id u).entries ≡ []) (some_is (sym r.1 ∙ is)) r.2.spoken
  where
    some_is : {X : Type 0} {x y : X} → Some x ≡ Some y → x ≡ y
    some_is e = cc

-- the first own entry is at the cut or above it
first_at_cut : (id : ℕ) (kept : List Step) (own : Option Table) (e : EntryIndex) (es : List EntryIndex) (cut : ℕ) → AreSteps kept →
    after Append id None kept ≡ Some own → (table_of id own).entries ≡ e ∷ es → least_cut kept ≡ Some cut → cut ≤ e.index
first_at_cut id kept own e es cut good is there c =
    let head : entry_at e.index (e ∷ es) ≡ Some e = ap (λ b. cond b (Some e) (entry_at e.index es)) (self e.index) in
    let word = sym (last_entry_stands e.index id own kept good is) ∙ ap (entry_at e.index) there ∙ head in
    subst (λ (o : Option ℕ). IsAtOrAbove o e.index) c (cut_reached kept e.index (entry_reached e.index kept e word))
  where
    self : (i : ℕ) → (i == i) ≡ true
    self i = grind (arith, nat_tests)

-- what a recovery leaves of the rewritten entries
pub record LeavesOf (kept : List Step) (own rewritten es : List EntryIndex) : Type 0 where
  pub left : List EntryIndex
  pub split : es ≡ left ++ own
  pub told : unspoken (kept ++ Compact (start_of es) ∷ []) rewritten ≡ left

-- entries at or above an index stay from it on; those below it go
pub all_from : (i : ℕ) (es : List EntryIndex) → Each (λ n. i ≤ n) es → from i es ≡ es
unfolding from
all_from i [] h = refl
all_from i (e ∷ es) h = let t : nat_le i e.index ≡ true = (let k : i ≤ e.index = h.0 in grind (arith, nat_tests)) in rw t (ap (λ l. e ∷ l) (all_from i es h.1))

none_from : (i : ℕ) (es : List EntryIndex) → Each (λ n. n < i) es → from i es ≡ []
unfolding from
none_from i [] h = refl
none_from i (e ∷ es) h = let t : nat_le i e.index ≡ false = (let k : e.index < i = h.0 in grind (arith, nat_tests)) in rw t (none_from i es h.1)

-- a filter of a run is at or above its first entry
pub rise_above : (s : ℕ) (es : List EntryIndex) → RisesFrom s es → Each (λ n. s ≤ n) es
rise_above s [] h = tt
rise_above s (e ∷ es) h = (let k : e.index ≡ s = h.0 in omega (arith, k), weaker es (rise_above (suc s) es h.1))
  where
    weaker : (l : List EntryIndex) → Each (λ n. suc s ≤ n) l → Each (λ n. s ≤ n) l
    weaker [] h = tt
    weaker (e ∷ l) h = (let k : suc s ≤ e.index = h.0 in omega (arith, k), weaker l h.1)

each_up : (a b : ℕ) → a ≤ b → (l : List EntryIndex) → Each (λ n. b ≤ n) l → Each (λ n. a ≤ n) l
each_up a b h [] k = tt
each_up a b h (e ∷ l) k = (let m : b ≤ e.index = k.0 in omega (arith, m, h), each_up a b h l k.1)

-- all entries are at or above the first
abbrev AtHead : List EntryIndex → Type 0
AtHead [] = Unit {0}
AtHead (x ∷ xs) = Each (λ n. x.index ≤ n) (x ∷ xs)

-- what steps leave of a run is at or above its first entry
left_above : (ss : List Step) (s : ℕ) (es : List EntryIndex) (x : EntryIndex) (xs : List EntryIndex) → RisesFrom s es → unspoken ss es ≡ x ∷ xs → Each (λ n. x.index ≤ n) (x ∷ xs)
unfolding unspoken
left_above ss s [] x xs h e = absurd cc
left_above ss s (y ∷ es) x xs h e = go (is_index_spoken ss y.index) e (λ k. left_above ss (suc s) es x xs h.1 k)
  where
    some : Each (λ n. y.index ≤ n) (y ∷ unspoken ss es)
    some = (omega arith, each_up y.index (suc s) (let k : y.index ≡ s = h.0 in omega (arith, k)) (unspoken ss es) (all_left (λ (e : EntryIndex). suc s ≤ e.index) ss es (rise_above (suc s) es h.1)))

    go : (b : Bool) → cond (not b) (y ∷ unspoken ss es) (unspoken ss es) ≡ x ∷ xs → (unspoken ss es ≡ x ∷ xs → Each (λ n. x.index ≤ n) (x ∷ xs)) → Each (λ n. x.index ≤ n) (x ∷ xs)
    go true e rest = rest e
    go false e rest = subst AtHead e some

below_of : (g i c : ℕ) → true ≡ (nat_le g i && nat_lt i c) → i < c
below_of g i c h = grind (arith, nat_tests)

module _ (id : ℕ) (kept : List Step) (own : Option Table) (rewritten : List EntryIndex) (good : AreSteps kept) (is : after Append id None kept ≡ Some own) (run : IsRun rewritten) where
  abbrev own_entries : List EntryIndex
  own_entries = (table_of id own).entries

  pub told_is : (i : ℕ) → unspoken (kept ++ Compact i ∷ []) rewritten ≡ from i (unspoken kept rewritten)
  told_is i = sym (unspoken-steps kept (Compact i ∷ []) rewritten) ∙ unspoken-compact i (unspoken kept rewritten)

  from_nil : (i : ℕ) → from i [] ≡ []
  from_nil i = all_from i [] tt

  pub from_first : (l : List EntryIndex) → unspoken kept rewritten ≡ l → from (start_of (l ++ own_entries)) l ≡ l
  from_first [] e = from_nil (start_of own_entries)
  from_first (x ∷ xs) e = all_from x.index (x ∷ xs) (left_above kept (start_of rewritten) rewritten x xs (rises rewritten run) e)

  -- where the own entries don't join the rewritten ones, those lie in front of them
  pub lie_in_front : has_clean kept ≡ false → (o : List EntryIndex) → own_entries ≡ o → (c : Option ℕ) → least_cut kept ≡ c → is_unjoined c (end_of rewritten) o ≡ true → from (start_of o) (unspoken kept rewritten) ≡ []
  lie_in_front clean o there None c u = absurd (false≢true u)
  lie_in_front clean [] there (Some cut) c u = absurd (false≢true u)
  lie_in_front clean (e ∷ es) there (Some cut) c u = none_from e.index (unspoken kept rewritten) (each (unspoken kept rewritten) (each_left kept rewritten))
    where
      at : cut ≤ e.index
      at = first_at_cut id kept own e es cut good is there c

      each : (l : List EntryIndex) → Each (λ i. is_index_spoken kept i ≡ false) l → Each (λ n. n < e.index) l
      each [] h = tt
      each (x ∷ l) h =
          let w : true ≡ (nat_le (greatest_compaction kept) x.index && nat_lt x.index cut) = ap not (sym h.0) ∙ spoken_words kept x.index clean ∙ ap (λ o. nat_le (greatest_compaction kept) x.index && is_under o x.index) c in
          let k = below_of (greatest_compaction kept) x.index cut w in
          (omega (arith, k, at), each l h.1)

  pub leaves : LeavesOf kept own_entries rewritten (cond (has_clean kept) own_entries (rewritten_within (greatest_compaction kept) (least_cut kept) own_entries rewritten ++ own_entries))
  leaves = go (has_clean kept) refl
    where
      by_join : has_clean kept ≡ false → (b : Bool) → is_unjoined (least_cut kept) (end_of rewritten) own_entries ≡ b →
          LeavesOf kept own_entries rewritten (cond b [] (entries_within (greatest_compaction kept) (least_cut kept) rewritten) ++ own_entries)
      by_join c true u = record { left = []; split = refl; told = told_is (start_of own_entries) ∙ lie_in_front c own_entries refl (least_cut kept) refl u }
      by_join c false u = subst (λ l. LeavesOf kept own_entries rewritten (l ++ own_entries)) (unspoken_within kept rewritten c)
          (record { left = unspoken kept rewritten; split = refl; told = told_is (start_of (unspoken kept rewritten ++ own_entries)) ∙ from_first (unspoken kept rewritten) refl })

      go : (b : Bool) → has_clean kept ≡ b → LeavesOf kept own_entries rewritten (cond b own_entries (rewritten_within (greatest_compaction kept) (least_cut kept) own_entries rewritten ++ own_entries))
      go true c = record { left = []; split = refl; told = told_is (start_of own_entries) ∙ ap (from (start_of own_entries)) (unspoken_cleaned kept rewritten c) ∙ from_nil (start_of own_entries) }
      go false c = by_join c (is_unjoined (least_cut kept) (end_of rewritten) own_entries) refl
