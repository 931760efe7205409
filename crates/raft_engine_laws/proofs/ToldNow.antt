-- What a region mark tells at once or later of a region that is found.
use Rattle.raft_engine_laws.proofs.Common.{◌≡◌, ℕ, Bool, true, false, cond, ◌||◌, List, [], ◌∷◌, ◌++◌, Option, Some, None, inl, inr, refl, sym, ap, subst, ◌∙◌, filter, ◌&&◌, list_any, false≢true, EntryIndex, Append, IsRun, end_of, Mark, entries_within, IsExactMark}
use Rattle.raft_engine_laws.proofs.Common.{greatest_compaction, has_clean, is_unjoined, least_cut, overlay, rewritten_within, Step, Compact, AreSteps, after, table_of, Table, from, start_of, first_of, front_told, is_apart_at, is_front_dropped, stays_under, steps_at_once}
use Rattle.raft_engine_laws.proofs.Common.{steps_later, takes_of, told_by_mark, IsToldNowOrLater, Joins, told_at_once, unspoken, AreRemovals, SayEnoughAtOpening}
use Rattle.raft_engine_laws.proofs.OpenedEntries.{all_from, from_first, lie_in_front, told_is}
use Rattle.raft_engine_laws.proofs.SpokenWords.{unspoken_cleaned, unspoken_within}
use Rattle.raft_engine_laws.proofs.TakenTables.{fewer_removals}
use Rattle.raft_engine_laws.proofs.ToldTables.{told_later, told_now, told_removals}
use Rattle.raft_engine_laws.proofs.UnspokenLemmas.{unspoken-steps, unspoken-nil}

none_within : (m : Mark) (es : List EntryIndex) → list_any (stays_under m) es ≡ false → entries_within m.floor m.cut es ≡ []
unfolding entries_within
none_within m [] h = refl
none_within m (e ∷ es) h = go (stays_under m e) h (none_within m es)
  where
    go : (b : Bool) → (b || list_any (stays_under m) es) ≡ false → (list_any (stays_under m) es ≡ false → entries_within m.floor m.cut es ≡ [])
        → cond b (e ∷ entries_within m.floor m.cut es) (entries_within m.floor m.cut es) ≡ []
    go true h rest = absurd (false≢true (sym h))
    go false h rest = rest h

-- where none is within, none stays
nothing_stays : (m : Mark) (es : List EntryIndex) → entries_within m.floor m.cut es ≡ [] → list_any (stays_under m) es ≡ false
unfolding entries_within
nothing_stays m [] h = refl
nothing_stays m (e ∷ es) h = go (stays_under m e) h (nothing_stays m es)
  where
    go : (b : Bool) → cond b (e ∷ entries_within m.floor m.cut es) (entries_within m.floor m.cut es) ≡ [] → (entries_within m.floor m.cut es ≡ [] → list_any (stays_under m) es ≡ false)
        → (b || list_any (stays_under m) es) ≡ false
    go true h rest = absurd cc
    go false h rest = rest h

and_both : (a b : Bool) → (a && b) ≡ true → (a ≡ true)
and_both true b h = refl
and_both false b h = absurd (false≢true h)

and_other : (a b : Bool) → (a && b) ≡ true → b ≡ true
and_other true b h = h
and_other false b h = absurd (false≢true h)

and_rest : (a b : Bool) → a ≡ true → (a && b) ≡ false → b ≡ false
and_rest true b e h = h
and_rest false b e h = absurd (false≢true e)

-- an appended table over a rewritten one, under a mark that tells these steps
module _ (id : ℕ) (kept : List Step) (own : Option Table) (old found : Table) (m : Mark) (exact : IsExactMark m kept) (good : AreSteps kept) (is : after Append id None kept ≡ Some own) (run : IsRun old.entries)
    (same : found.entries ≡ (overlay kept (table_of id own) old).entries) where
  abbrev own_entries : List EntryIndex
  own_entries = (table_of id own).entries

  abbrev left : List EntryIndex
  left = unspoken kept old.entries

  -- what is dropped is what the mark says, where there is no Clean
  dropped_is : m.cleaned ≡ false → (rest : List EntryIndex) (e : EntryIndex) → own_entries ≡ e ∷ rest
      → is_front_dropped m (first_of own_entries) old ≡ (is_unjoined (least_cut kept) (end_of old.entries) own_entries && list_any (stays_under m) old.entries)
  dropped_is clean rest e there =
      ap (λ (l : List EntryIndex). is_front_dropped m (first_of l) old) there
      ∙ ap (λ (b : Bool). cond b false (is_apart_at m.cut e.index (end_of old.entries) && list_any (stays_under m) old.entries)) clean
      ∙ ap (λ (c : Option ℕ). is_apart_at c e.index (end_of old.entries) && list_any (stays_under m) old.entries) (exact.least clean)
      ∙ ap (λ (b : Bool). b && list_any (stays_under m) old.entries) (at (least_cut kept))
      ∙ ap (λ (l : List EntryIndex). is_unjoined (least_cut kept) (end_of old.entries) l && list_any (stays_under m) old.entries) (sym there)
    where
      at : (c : Option ℕ) → is_apart_at c e.index (end_of old.entries) ≡ is_unjoined c (end_of old.entries) (e ∷ rest)
      at None = refl
      at (Some cut) = refl

  clean_is : has_clean kept ≡ false → m.cleaned ≡ false
  clean_is none = exact.holds.cleaned ∙ none

  within : has_clean kept ≡ false → entries_within m.floor m.cut old.entries ≡ left
  within none =
      ap (λ (n : ℕ). entries_within n m.cut old.entries) (exact.greatest (clean_is none)) ∙ ap (λ (c : Option ℕ). entries_within (greatest_compaction kept) c old.entries) (exact.least (clean_is none))
      ∙ sym (unspoken_within kept old.entries none)

  abbrev JoinsAt : List EntryIndex → Type 0
  JoinsAt es = unspoken (kept ++ Compact (start_of es) ∷ []) old.entries ≡ left

  joins_cleaned : has_clean kept ≡ true → (es : List EntryIndex) → JoinsAt es
  joins_cleaned c es =
      sym (unspoken-steps kept (Compact (start_of es) ∷ []) old.entries) ∙ ap (unspoken (Compact (start_of es) ∷ [])) (unspoken_cleaned kept old.entries c)
      ∙ unspoken-nil (Compact (start_of es) ∷ []) ∙ sym (unspoken_cleaned kept old.entries c)

  -- where nothing is left
  joins_nothing : left ≡ [] → (es : List EntryIndex) → JoinsAt es
  joins_nothing none es =
      sym (unspoken-steps kept (Compact (start_of es) ∷ []) old.entries) ∙ ap (unspoken (Compact (start_of es) ∷ [])) none ∙ unspoken-nil (Compact (start_of es) ∷ []) ∙ sym none

  joins_joined : JoinsAt (left ++ own_entries)
  joins_joined = told_is id kept own old.entries good is run (start_of (left ++ own_entries)) ∙ from_first id kept own old.entries good is run left refl

  module _ (kept_front : is_front_dropped m (first_of own_entries) old ≡ false) where
    by_join : has_clean kept ≡ false → (b : Bool) → is_unjoined (least_cut kept) (end_of old.entries) own_entries ≡ b
        → JoinsAt (cond b [] (entries_within (greatest_compaction kept) (least_cut kept) old.entries) ++ own_entries)
    by_join none false u = subst (λ (l : List EntryIndex). JoinsAt (l ++ own_entries)) (unspoken_within kept old.entries none) joins_joined
    by_join none true u = joins_nothing (go own_entries refl u) own_entries
      where
        unjoined : (c : Option ℕ) → is_unjoined c (end_of old.entries) [] ≡ true → ⊥
        unjoined None e = false≢true e
        unjoined (Some cut) e = false≢true e

        go : (o : List EntryIndex) → own_entries ≡ o → is_unjoined (least_cut kept) (end_of old.entries) o ≡ true → left ≡ []
        go [] there u = absurd (unjoined (least_cut kept) u)
        go (e ∷ rest) there u =
            sym (within none)
            ∙ none_within m old.entries (and_rest (is_unjoined (least_cut kept) (end_of old.entries) own_entries) (list_any (stays_under m) old.entries)
            (ap (is_unjoined (least_cut kept) (end_of old.entries)) there ∙ u) (sym (dropped_is (clean_is none) rest e there) ∙ kept_front))

    joins : Joins kept old found
    joins = subst JoinsAt (sym same) (go (has_clean kept) refl)
      where
        go : (b : Bool) → has_clean kept ≡ b → JoinsAt (cond b own_entries (rewritten_within (greatest_compaction kept) (least_cut kept) own_entries old.entries ++ own_entries))
        go true c = joins_cleaned c own_entries
        go false c = by_join c (is_unjoined (least_cut kept) (end_of old.entries) own_entries) refl

  -- where the prefix is dropped, what is found are the appended entries
  module _ (dropped : is_front_dropped m (first_of own_entries) old ≡ true) where
    not_cleaned : m.cleaned ≡ false
    not_cleaned = go (first_of own_entries) m.cleaned refl dropped
      where
        go : (f : Option ℕ) (b : Bool) → m.cleaned ≡ b → is_front_dropped m f old ≡ true → m.cleaned ≡ false
        go None b e h = absurd (false≢true h)
        go (Some first) true e h = absurd (false≢true (sym (ap (λ (b : Bool). cond b false (is_apart_at m.cut first (end_of old.entries) && list_any (stays_under m) old.entries)) e) ∙ h))
        go (Some first) false e h = e

    none_cleaned : has_clean kept ≡ false
    none_cleaned = sym exact.holds.cleaned ∙ not_cleaned

    unjoined_stay : (is_unjoined (least_cut kept) (end_of old.entries) own_entries && list_any (stays_under m) old.entries) ≡ true
    unjoined_stay = go own_entries refl dropped
      where
        go : (o : List EntryIndex) → own_entries ≡ o → is_front_dropped m (first_of o) old ≡ true → (is_unjoined (least_cut kept) (end_of old.entries) own_entries && list_any (stays_under m) old.entries) ≡ true
        go [] there h = absurd (false≢true h)
        go (e ∷ rest) there h = sym (dropped_is not_cleaned rest e there) ∙ dropped

    unjoined : is_unjoined (least_cut kept) (end_of old.entries) own_entries ≡ true
    unjoined = and_both _ _ unjoined_stay

    found_is : found.entries ≡ own_entries
    found_is =
        same ∙ ap (λ (b : Bool). cond b own_entries (rewritten_within (greatest_compaction kept) (least_cut kept) own_entries old.entries ++ own_entries)) none_cleaned
        ∙ ap (λ (b : Bool). cond b [] (entries_within (greatest_compaction kept) (least_cut kept) old.entries) ++ own_entries) unjoined

    -- what stays lies in front of what was found
    not_joined : Joins kept old found → ⊥
    not_joined joins =
        let none : left ≡ [] =
        sym joins ∙ told_is id kept own old.entries good is run (start_of found.entries) ∙ ap (λ (l : List EntryIndex). from (start_of l) left) found_is
        ∙ lie_in_front id kept own old.entries good is run none_cleaned own_entries refl (least_cut kept) refl unjoined in
        false≢true (sym (nothing_stays m old.entries (within none_cleaned ∙ none)) ∙ and_other _ _ unjoined_stay)

    front_is : front_told (first_of own_entries) old ≡ filter (takes_of old) (Compact (start_of found.entries) ∷ [])
    front_is = go own_entries refl dropped ∙ ap (λ (l : List EntryIndex). filter (takes_of old) (Compact (start_of l) ∷ [])) (sym found_is)
      where
        go : (o : List EntryIndex) → own_entries ≡ o → is_front_dropped m (first_of o) old ≡ true → front_told (first_of o) old ≡ filter (takes_of old) (Compact (start_of o) ∷ [])
        go [] there h = absurd (false≢true h)
        go (e ∷ rest) there h = refl

    now_removals : AreRemovals (told_at_once m old found)
    now_removals = more (told_by_mark m old) (filter (takes_of old) (Compact (start_of found.entries) ∷ [])) (told_removals m old) (fewer_removals (takes_of old) (Compact (start_of found.entries) ∷ []) (tt, tt))
      where
        more : (a b : List Step) → AreRemovals a → AreRemovals b → AreRemovals (a ++ b)
        more [] b h k = k
        more (s ∷ a) b h k = (h.0, more a b h.1 k)

  pub now_or_later : IsToldNowOrLater kept (steps_at_once m (first_of own_entries) old) (steps_later m (first_of own_entries) old) old found
  now_or_later = go (is_front_dropped m (first_of own_entries) old) refl
    where
      go : (b : Bool) → is_front_dropped m (first_of own_entries) old ≡ b
          → IsToldNowOrLater kept (cond b (told_by_mark m old ++ front_told (first_of own_entries) old) []) (cond b [] (told_by_mark m old)) old found
      go true e = inl (record {
        removals = subst (λ (l : List Step). AreRemovals (told_by_mark m old ++ l)) (sym (front_is e)) (now_removals e);
        says = subst (λ (l : List Step). SayEnoughAtOpening kept (told_by_mark m old ++ l) old found) (sym (front_is e)) (told_now m old kept exact found);
        none = refl;
      })
      go false e = inr (refl, told_later m old kept exact found (joins e))

  -- where none is left in front of what was found, nothing is told at once
  pub none_at_once : Joins kept old found → steps_at_once m (first_of own_entries) old ≡ []
  none_at_once joined = go (is_front_dropped m (first_of own_entries) old) refl
    where
      go : (b : Bool) → is_front_dropped m (first_of own_entries) old ≡ b → cond b (told_by_mark m old ++ front_told (first_of own_entries) old) [] ≡ []
      go true e = absurd (not_joined e joined)
      go false e = refl
