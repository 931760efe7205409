-- Steps on plain regions.
use Rattle.raft_plain.proofs.Common.{List, [], ◌∷◌, Option, Some, None, refl, sym, ap, ◌∙◌, ◌≡◌, ℕ, suc, arith, max, option_and_then, option_map, LogQueue, after_step, table_of, Table, some_is, RegionStep, Tables, tables_after, with_table, Region, table_shown, EntryIndex, end_of}
use Rattle.std.specs.FinMap as finite
use Rattle.raft_plain.proofs.WaitLemmas.{with_removed}

-- ---- the end of entries

three : (a b n total : ℕ) → max a (max b n) ≡ total → max (max a b) n ≡ total
three a b n total e = omega (arith, e)

pub end_next : (end total new : ℕ) (e : EntryIndex) (left rest : List EntryIndex) → new ≡ max end (suc e.index) → rest ≡ e ∷ left → max end (end_of rest) ≡ total → max new (end_of left) ≡ total
unfolding end_of
end_next end total new e left rest is here before =
    ap (λ n. max n (end_of left)) is ∙ three end (suc e.index) (end_of left) total (ap (λ l. max end (end_of l)) (sym here) ∙ before)

pub end_last : (end : ℕ) (rest : List EntryIndex) → rest ≡ [] → max end (end_of rest) ≡ end
unfolding end_of
end_last end rest is = ap (λ l. max end (end_of l)) is ∙ omega arith

-- ---- one step

module _ (q : LogQueue) (tables : Tables) (s : RegionStep) where
  abbrev put : Option Table → Tables
  put t = with_table tables s.region t

  module _ (own : Region) (before : Option Region) (same : table_shown s.region own ≡ table_of s.region (option_map (table_shown s.region) before)) (was : option_map (table_shown s.region) before ≡ finite.get tables s.region) where
    after_own : (o : Option (Option Table)) → after_step q (table_shown s.region own) s.step ≡ o → tables_after q tables (s ∷ []) ≡ option_and_then (λ t. Some (put t)) o
    after_own o is = ap (option_and_then (λ t. Some (put t))) (ap (λ (t : Table). after_step q t s.step) (sym (same ∙ ap (table_of s.region) was)) ∙ is)

    pub step_done : (others new : Tables) (r : Option Region) → others ≡ finite.remove tables s.region → after_step q (table_shown s.region own) s.step ≡ Some (option_map (table_shown s.region) r)
        → new ≡ with_table others s.region (option_map (table_shown s.region) r) → tables_after q tables (s ∷ []) ≡ Some new
    step_done others new r gone is there = after_own _ is ∙ ap Some (sym (there ∙ ap (λ (m : Tables). with_table m s.region (option_map (table_shown s.region) r)) gone ∙ with_removed tables s.region (option_map (table_shown s.region) r)))

    pub step_refused : after_step q (table_shown s.region own) s.step ≡ None → tables_after q tables (s ∷ []) ≡ None
    step_refused is = after_own _ is

  module _ (rest : List RegionStep) where
    pub steps_next : (new : Tables) → tables_after q tables (s ∷ []) ≡ Some new → tables_after q tables (s ∷ rest) ≡ tables_after q new rest
    steps_next new is = go (after_step q (table_of s.region (finite.get tables s.region)) s.step) is
      where
        go : (o : Option (Option Table)) → option_and_then (λ t. Some (put t)) o ≡ Some new → option_and_then (λ t. tables_after q (put t) rest) o ≡ tables_after q new rest
        go None e = absurd cc
        go (Some t) e = ap (λ m. tables_after q m rest) (some_is e)

    pub steps_refused : tables_after q tables (s ∷ []) ≡ None → tables_after q tables (s ∷ rest) ≡ None
    steps_refused is = go (after_step q (table_of s.region (finite.get tables s.region)) s.step) is
      where
        go : (o : Option (Option Table)) → option_and_then (λ t. Some (put t)) o ≡ None → option_and_then (λ t. tables_after q (put t) rest) o ≡ None
        go None e = refl
        go (Some t) e = absurd cc
