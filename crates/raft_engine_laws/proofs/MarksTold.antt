-- What the bounds and the deleted keys of a region mark say is what the region's steps say.
use Rattle.raft_engine_laws.proofs.Common.{◌≡◌, ℕ, Bool, true, false, cond, not, ◌||◌, List, [], ◌∷◌, Option, Some, None, refl, sym, ap, ◌∙◌, arith, filter, max, ◌&&◌, nat_le, nat_cmp, slice_cmp, nat_list_cmp_total, false≢true, KeySet, is_same_key, Mark, is_under, has_clean}
use Rattle.raft_engine_laws.proofs.Common.{greatest_compaction, least_cut, deleted_of, IsExactMark, Step, Run, Compact, Truncate, Put, Del, AtomicGroup, Clean, empty_union, cut_told, bounds_told, is_index_spoken, is_key_dropped}
use Rattle.std.specs.FinSet as finset
use Rattle.raft_engine_laws.proofs.SpokenWords.{spoken_words, spoken_clean}
use Rattle.raft_engine_laws.proofs.TestLemmas.{or_later, or_none}

-- ---- the keys that steps delete

swap_or : (a b c : Bool) → ((a || b) || c) ≡ (b || (a || c))
swap_or true true c = refl
swap_or true false c = refl
swap_or false b c = refl

dropped_in : (ss : List Step) (d : KeySet) (key : List ℕ) → has_clean ss ≡ false → finset.contains (deleted_of d ss) key ≡ (finset.contains d key || is_key_dropped ss key)
dropped_in [] d key c = sym (or_none (finset.contains d key))
dropped_in (Run run ∷ ss) d key c = dropped_in ss d key c
dropped_in (Compact i ∷ ss) d key c = dropped_in ss d key c
dropped_in (Truncate i ∷ ss) d key c = dropped_in ss d key c
dropped_in (Put k value file ∷ ss) d key c = dropped_in ss d key c
dropped_in (Del k ∷ ss) d key c =
    dropped_in ss (finset.insert d k) key c
    ∙ ap (λ b. b || is_key_dropped ss key) (finset.contains-insert nat_list_cmp_total d k key)
    ∙ swap_or (is_same_key key k) (finset.contains d key) (is_key_dropped ss key)
dropped_in (AtomicGroup a b ∷ ss) d key c = dropped_in ss d key c
dropped_in (Clean ∷ ss) d key c = absurd (false≢true (sym c))

dropped_clean : (ss : List Step) (key : List ℕ) → has_clean ss ≡ true → is_key_dropped ss key ≡ true
dropped_clean [] key c = absurd (false≢true c)
dropped_clean (Run run ∷ ss) key c = dropped_clean ss key c
dropped_clean (Compact i ∷ ss) key c = dropped_clean ss key c
dropped_clean (Truncate i ∷ ss) key c = dropped_clean ss key c
dropped_clean (Put k value file ∷ ss) key c = dropped_clean ss key c
dropped_clean (Del k ∷ ss) key c = or_later (is_same_key key k) (is_key_dropped ss key) (dropped_clean ss key c)
dropped_clean (AtomicGroup a b ∷ ss) key c = dropped_clean ss key c
dropped_clean (Clean ∷ ss) key c = refl

-- ---- the bounds of a mark without a Clean

abbrev bounds : ℕ → Option ℕ → List Step
bounds floor cut = Compact floor ∷ cut_told cut

bounds_clean : (floor : ℕ) (cut : Option ℕ) → has_clean (bounds floor cut) ≡ false
bounds_clean floor None = refl
bounds_clean floor (Some c) = refl

max_zero : (n : ℕ) → max n 0 ≡ n
max_zero n = omega arith

bounds_floor : (floor : ℕ) (cut : Option ℕ) → greatest_compaction (bounds floor cut) ≡ floor
bounds_floor floor None = max_zero floor
bounds_floor floor (Some c) = max_zero floor

bounds_cut : (floor : ℕ) (cut : Option ℕ) → least_cut (bounds floor cut) ≡ cut
bounds_cut floor None = refl
bounds_cut floor (Some c) = refl

same_not : (a b : Bool) → not a ≡ not b → a ≡ b
same_not true true e = refl
same_not true false e = absurd (false≢true e)
same_not false true e = absurd (false≢true (sym e))
same_not false false e = refl

-- of these bounds none takes a key away
pub keeps_keys : (p : Step → Bool) (floor : ℕ) (cut : Option ℕ) (key : List ℕ) → is_key_dropped (filter p (bounds floor cut)) key ≡ false
keeps_keys p floor None key = go (p (Compact floor))
  where
    go : (a : Bool) → is_key_dropped (cond a (Compact floor ∷ []) []) key ≡ false
    go true = refl
    go false = refl
keeps_keys p floor (Some c) key = go (p (Compact floor)) (p (Truncate c))
  where
    go : (a b : Bool) → is_key_dropped (cond a (Compact floor ∷ cond b (Truncate c ∷ []) []) (cond b (Truncate c ∷ []) [])) key ≡ false
    go true true = refl
    go true false = refl
    go false true = refl
    go false false = refl

-- ---- any mark that an overlay reads

module _ (m : Mark) (ss : List Step) (h : IsExactMark m ss) where
  pub bounds_say : (i : ℕ) → is_index_spoken (bounds_told m) i ≡ is_index_spoken ss i
  bounds_say i = go m.cleaned refl
    where
      go : (b : Bool) → m.cleaned ≡ b → is_index_spoken (cond b (Clean ∷ []) (bounds m.floor m.cut)) i ≡ is_index_spoken ss i
      go true e = sym (spoken_clean ss i (sym h.holds.cleaned ∙ e))
      go false e = same_not _ _ (
          spoken_words (bounds m.floor m.cut) i (bounds_clean m.floor m.cut)
          ∙ ap (λ f. nat_le f i && is_under (least_cut (bounds m.floor m.cut)) i) (bounds_floor m.floor m.cut ∙ h.greatest e)
          ∙ ap (λ c. nat_le (greatest_compaction ss) i && is_under c i) (bounds_cut m.floor m.cut ∙ h.least e)
          ∙ sym (spoken_words ss i (sym h.holds.cleaned ∙ e)))

  -- a cleaned mark drops each key
  pub clean_drops : (key : List ℕ) → m.cleaned ≡ true → is_key_dropped ss key ≡ true
  clean_drops key e = dropped_clean ss key (sym h.holds.cleaned ∙ e)

  -- another one drops those that it has
  pub deleted_drop : (key : List ℕ) → m.cleaned ≡ false → finset.contains m.deleted key ≡ is_key_dropped ss key
  deleted_drop key e =
      ap (λ s. finset.contains s key) (sym (h.holds.deleted e finset.empty ∙ empty_union m.deleted))
      ∙ dropped_in ss finset.empty key (sym h.holds.cleaned ∙ e)
      ∙ ap (λ b. b || is_key_dropped ss key) (finset.contains-empty (slice_cmp nat_cmp) key)
