-- What both queues give under each key, beside the kept pairs.
use Rattle.raft_engine_laws.proofs.Common.{◌≡◌, ◌⊎◌, ℕ, Bool, true, false, cond, not, ◌||◌, List, [], ◌∷◌, Option, Some, None, inl, inr, refl, sym, ap, subst, ◌∙◌, option_or, option_and_then, nat_cmp, slice_cmp, nat_list_cmp_total, false≢true, EntryIndex, LogQueue, Append}
use Rattle.raft_engine_laws.proofs.Common.{Rewrite, KeySet, without, Keys, Stored, pairs_over, is_same_key, speaks_of_key, said_of_key, last_pair, has_clean, deleted_of, overlay, Step, Run, Compact, Truncate, Put, Del, AtomicGroup, Clean, table_of, Table, get-pairs_over}
use Rattle.raft_engine_laws.proofs.Common.{last_pair_stands, get-without, settled, IsMovedPair, IsRegionKept, AreMovedPairs, is_key_spoken, is_key_dropped, pair_left}
use Rattle.std.specs.FinMap as finite
use Rattle.std.specs.FinSet as finset
use Rattle.raft_engine_laws.proofs.KeyLemmas.{none_that, not_dropped, clean_speaks}

neither : (a b : Bool) → (a || b) ≡ false → (a ≡ false) × (b ≡ false)
neither true b e = absurd (false≢true (sym e))
neither false b e = (refl, e)

-- a deleted key is spoken of
deleted_spoken : (ss : List Step) (d : KeySet) (key : List ℕ) → is_key_spoken ss key ≡ false → finset.contains (deleted_of d ss) key ≡ finset.contains d key
deleted_spoken [] d key h = refl
deleted_spoken (Run run ∷ ss) d key h = deleted_spoken ss d key h
deleted_spoken (Compact i ∷ ss) d key h = deleted_spoken ss d key h
deleted_spoken (Truncate i ∷ ss) d key h = deleted_spoken ss d key h
deleted_spoken (Put k value file ∷ ss) d key h = deleted_spoken ss d key (neither (is_same_key key k) (is_key_spoken ss key) h).1
deleted_spoken (Del k ∷ ss) d key h =
    deleted_spoken ss (finset.insert d k) key (neither (is_same_key key k) (is_key_spoken ss key) h).1
    ∙ finset.contains-insert nat_list_cmp_total d k key
    ∙ ap (λ b. b || finset.contains d key) (neither (is_same_key key k) (is_key_spoken ss key) h).0
deleted_spoken (AtomicGroup a b ∷ ss) d key h = deleted_spoken ss d key h
deleted_spoken (Clean ∷ ss) d key h = absurd (false≢true (sym h))

-- ---- any rewritten pairs

module _ (kept : List Step) (own rewritten : Keys) (own_last : (key : List ℕ) → finite.get own key ≡ last_pair key kept) where
  abbrev found : Keys
  found = cond (has_clean kept) own (pairs_over own (without (deleted_of finset.empty kept) rewritten))

  abbrev read_of : List ℕ → Option Stored
  read_of key = option_or (finite.get own key) (cond (not (finset.contains (deleted_of finset.empty kept) key)) (finite.get rewritten key) None)

  spoken_read : (key : List ℕ) → has_clean kept ≡ false → is_key_spoken kept key ≡ true → read_of key ≡ last_pair key kept
  spoken_read key c k = go (settled key kept finset.empty k c)
    where
      own_or_none : (o : Option Stored) → option_or o None ≡ o
      own_or_none None = refl
      own_or_none (Some s) = refl

      go : (finset.contains (deleted_of finset.empty kept) key ≡ true) ⊎ ((x : Stored) × (last_pair key kept ≡ Some x)) → read_of key ≡ last_pair key kept
      go (inl e) = ap (λ b. option_or (finite.get own key) (cond (not b) (finite.get rewritten key) None)) e ∙ own_or_none (finite.get own key) ∙ own_last key
      go (inr x) = ap (λ o. option_or o (cond (not (finset.contains (deleted_of finset.empty kept) key)) (finite.get rewritten key) None)) (own_last key ∙ x.1) ∙ sym x.1

  unspoken_read : (key : List ℕ) → is_key_spoken kept key ≡ false → read_of key ≡ finite.get rewritten key
  unspoken_read key k =
      ap (λ o. option_or o (cond (not (finset.contains (deleted_of finset.empty kept) key)) (finite.get rewritten key) None)) (own_last key ∙ ap (option_and_then said_of_key) (none_that (speaks_of_key key) kept k))
      ∙ ap (λ b. cond (not b) (finite.get rewritten key) None) (deleted_spoken kept finset.empty key k ∙ finset.contains-empty (slice_cmp nat_cmp) key)

  -- the last word of the kept steps, or else the rewritten pair
  pub overlaid_pair_is : (key : List ℕ) → finite.get found key ≡ cond (is_key_spoken kept key) (last_pair key kept) (finite.get rewritten key)
  overlaid_pair_is key = go (has_clean kept) refl (is_key_spoken kept key) refl
    where
      read_is : finite.get (pairs_over own (without (deleted_of finset.empty kept) rewritten)) key ≡ read_of key
      read_is = rw (get-pairs_over, get-without) refl

      go : (b : Bool) → has_clean kept ≡ b → (d : Bool) → is_key_spoken kept key ≡ d → finite.get (cond b own (pairs_over own (without (deleted_of finset.empty kept) rewritten))) key ≡ cond d (last_pair key kept) (finite.get rewritten key)
      go true c true k = own_last key
      go true c false k = absurd (false≢true (sym k ∙ clean_speaks kept c key))
      go false c true k = read_is ∙ spoken_read key c k
      go false c false k = read_is ∙ unspoken_read key k

  -- what holds of the pair that is found holds of the one or of the other
  pub by_speaking : (key : List ℕ) (X : Option Stored → Type 0) → X (finite.get found key) → ((is_key_spoken kept key ≡ true) × X (last_pair key kept)) ⊎ ((is_key_spoken kept key ≡ false) × X (finite.get rewritten key))
  by_speaking key X x = go (is_key_spoken kept key) refl (subst X (overlaid_pair_is key) x)
    where
      go : (b : Bool) → is_key_spoken kept key ≡ b → X (cond b (last_pair key kept) (finite.get rewritten key)) → ((is_key_spoken kept key ≡ true) × X (last_pair key kept)) ⊎ ((is_key_spoken kept key ≡ false) × X (finite.get rewritten key))
      go true k x = inl (k, x)
      go false k x = inr (k, x)

  -- kept steps leave a pair of which they don't speak
  pub whole_left : (key : List ℕ) → is_key_spoken kept key ≡ false → pair_left kept key (finite.get rewritten key) ≡ finite.get rewritten key
  whole_left key k = ap (λ b. cond b None (finite.get rewritten key)) (not_dropped key kept k)

-- ---- those of a kept region

module _ (content : EntryIndex → List ℕ) (id : ℕ) (kept untold : List Step) (rewritten t : Table) (h : IsRegionKept content id kept untold rewritten t) where
  pub own_last : (key : List ℕ) → finite.get (table_of id h.own).keys key ≡ last_pair key kept
  own_last key = last_pair_stands Append key id h.own kept h.read

  -- an untold removal is not of a key that no kept step speaks of
  untold_left : (key : List ℕ) → is_key_spoken kept key ≡ false → pair_left untold key (finite.get rewritten.keys key) ≡ finite.get rewritten.keys key
  untold_left key k = ap (λ b. cond b None (finite.get rewritten.keys key)) (go (is_key_dropped untold key) refl)
    where
      go : (b : Bool) → is_key_dropped untold key ≡ b → b ≡ false
      go false e = refl
      go true e = absurd (false≢true (sym (not_dropped key kept k) ∙ h.pair_covers key e))

  unspoken_pair : (key : List ℕ) → is_key_spoken kept key ≡ false → IsMovedPair (finite.get t.keys key) (finite.get rewritten.keys key)
  unspoken_pair key k = go (finite.get t.keys key) refl
    where
      by_queue : (s : Stored) → finite.get t.keys key ≡ Some s → (q : LogQueue) → s.file.queue ≡ q → IsMovedPair (Some s) (finite.get rewritten.keys key)
      by_queue s e Append q = absurd (false≢true (sym k ∙ h.pair_spoken key s e q))
      by_queue s e Rewrite q = subst (IsMovedPair (Some s)) (sym (sym (untold_left key k) ∙ h.pair_told key s e q)) (refl, inl refl)

      go : (o : Option Stored) → finite.get t.keys key ≡ o → IsMovedPair o (finite.get rewritten.keys key)
      go None e = subst (IsMovedPair None) (sym (sym (untold_left key k) ∙ h.pair_gone key e)) tt
      go (Some s) e = by_queue s e s.file.queue refl

  -- both queues give the kept pairs, but for files that moved
  pub overlaid_pairs : AreMovedPairs t.keys (overlay kept (table_of id h.own) rewritten).keys
  overlaid_pairs key = subst (IsMovedPair (finite.get t.keys key)) (sym (overlaid_pair_is kept (table_of id h.own).keys rewritten.keys own_last key)) (go (is_key_spoken kept key) refl)
    where
      go : (b : Bool) → is_key_spoken kept key ≡ b → IsMovedPair (finite.get t.keys key) (cond b (last_pair key kept) (finite.get rewritten.keys key))
      go true k = h.pair_moved key k
      go false k = unspoken_pair key k
