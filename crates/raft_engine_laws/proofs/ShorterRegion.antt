-- The front of the append files goes.
use Rattle.raft_engine_laws.proofs.Common.{◌≡◌, ℕ, ◌<◌, ◌≤◌, Bool, true, false, ◌||◌, List, [], ◌∷◌, ◌++◌, Option, Some, None, inl, inr, refl, sym, ap, subst, ◌∙◌, append-nil, arith, AllByRecursion, list_any, option_and_then, false≢true, EntryIndex, Append, Rewrite, place_seq}
use Rattle.raft_engine_laws.proofs.Common.{Stored, speaks_of_key, last_pair, Step, AreSteps, table_of, after, Table, placed_in, after-append, no_table, table_after, placed_in-append, IsMovedPair, AreFrom, NeedsNoneBelow, IsRegionKept, AreMoved, is_key_spoken, is_index_spoken}
use Rattle.raft_engine_laws.proofs.Common.{unspoken, IsOver}
use Rattle.std.specs.FinMap as finite
use Rattle.raft_engine_laws.proofs.EachLemmas.{each_left, left_each, each_gone, gone_each}
use Rattle.raft_engine_laws.proofs.FileWords.{IsSeqBelow, AreBelow, IsStepBelow}
use Rattle.raft_engine_laws.proofs.KeyLemmas.{pair_later, pair_prefix}
use Rattle.raft_engine_laws.proofs.LowEntries.{pair_below, below_after, left_after, placed_such, none_placed}
use Rattle.raft_engine_laws.proofs.MovedLemmas.{moved_parts, moved_each}
use Rattle.raft_engine_laws.proofs.OverLemmas.{steps_over, over_later}
use Rattle.raft_engine_laws.proofs.TestLemmas.{any-append, or_later}
use Rattle.raft_engine_laws.proofs.UnspokenLemmas.{unspoken-append, unspoken-none, unspoken-nil, all_left}

module _ (content : EntryIndex → List ℕ) (id n : ℕ) (dropped later : List Step) (rewritten t : Table) (h : IsRegionKept content id (dropped ++ later) [] rewritten t)
    (below : AllByRecursion (IsStepBelow n) dropped) (needs : NeedsNoneBelow Append n t) where
  steps_prefix : (ss : List Step) → AreSteps (ss ++ later) → AreSteps ss
  steps_prefix [] k = tt
  steps_prefix (s ∷ ss) k = (k.0, steps_prefix ss k.1)

  steps_back : (ss : List Step) → AreSteps (ss ++ later) → AreSteps later
  steps_back [] k = k
  steps_back (s ∷ ss) k = steps_back ss k.1

  -- the tables after the dropped steps, and after the later ones alone
  split : (gone : Option Table) × (after Append id None dropped ≡ Some gone) × (after Append id gone later ≡ Some h.own)
  split = go (after Append id None dropped) refl (sym (after-append Append id None dropped later) ∙ h.read)
    where
      go : (x : Option (Option Table)) → after Append id None dropped ≡ x → option_and_then (λ u. after Append id u later) x ≡ Some h.own →
          (gone : Option Table) × (after Append id None dropped ≡ Some gone) × (after Append id gone later ≡ Some h.own)
      go None e k = absurd cc
      go (Some u) e k = (u, e, k)

  alone : (w : Option Table) × (after Append id None later ≡ Some w) × IsOver ([] ++ later) (table_of id w).entries (table_of id h.own).entries
  alone = steps_over id [] None split.0 h.own later (steps_back dropped h.steps)
      (record { split = sym (append-nil _ ∙ unspoken-none (table_of id split.0).entries); spoken = unspoken-nil [] })
      (table_after Append id None split.0 dropped (steps_prefix dropped h.steps) (no_table id) split.1) split.2

  -- what later steps leave of the own table is in files below the number
  left_below : AreBelow n (unspoken later (table_of id h.own).entries)
  left_below = subst (AreBelow n) (sym (left_after id split.0 h.own later (steps_back dropped h.steps) split.2))
      (all_left (λ (x : EntryIndex). IsSeqBelow n (place_seq x.entries)) later (table_of id split.0).entries (below_after n id None split.0 dropped below tt split.1))

  -- the kept entries in three parts: of such as no step speaks of, of such as dropped steps put, and of those of later steps
  over_all : h.seen ≡ unspoken (dropped ++ later) h.seen ++ (unspoken later (table_of id h.own).entries ++ (table_of id alone.0).entries)
  over_all = h.over.split ∙ ap (λ l. unspoken (dropped ++ later) h.seen ++ l) alone.2.split

  front : (a : List EntryIndex) × (b : List EntryIndex) × (t.entries ≡ a ++ b) × AreMoved content a (unspoken (dropped ++ later) h.seen) × AreMoved content b (unspoken later (table_of id h.own).entries ++ (table_of id alone.0).entries)
  front = moved_parts content t.entries (unspoken (dropped ++ later) h.seen) (unspoken later (table_of id h.own).entries ++ (table_of id alone.0).entries) (subst (AreMoved content t.entries) over_all h.moved)

  back : (a : List EntryIndex) × (b : List EntryIndex) × (front.1 ≡ a ++ b) × AreMoved content a (unspoken later (table_of id h.own).entries) × AreMoved content b (table_of id alone.0).entries
  back = moved_parts content front.1 (unspoken later (table_of id h.own).entries) (table_of id alone.0).entries front.4

  appended : placed_in Append t.entries ≡ placed_in Append front.0 ++ (placed_in Append back.0 ++ placed_in Append back.1)
  appended = ap (placed_in Append) front.2 ∙ placed_in-append Append front.0 front.1 ∙ ap (λ l. placed_in Append front.0 ++ l) (ap (placed_in Append) back.2 ∙ placed_in-append Append back.0 back.1)

  -- no entry of the first part has its place in the append queue
  first_none : placed_in Append front.0 ≡ []
  first_none =
      sym (left_each (dropped ++ later) (placed_in Append front.0)
      (placed_such (λ i. is_index_spoken (dropped ++ later) i ≡ false) front.0
      (moved_each content (λ i. is_index_spoken (dropped ++ later) i ≡ false) front.0 _ front.3 (each_left (dropped ++ later) h.seen))))
      ∙ no_prefix (unspoken (dropped ++ later) (placed_in Append front.0)) _ (sym (unspoken-append (dropped ++ later) (placed_in Append front.0) _) ∙ ap (unspoken (dropped ++ later)) (sym appended) ∙ h.spoken)
    where
      no_prefix : (a b : List EntryIndex) → a ++ b ≡ [] → a ≡ []
      no_prefix [] b e = refl
      no_prefix (x ∷ a) b e = absurd cc

  -- nor one of the second, since its file would be below the number
  second_none : placed_in Append back.0 ≡ []
  second_none = none_placed content n back.0 (unspoken later (table_of id h.own).entries) back.3 left_below (middle (placed_in Append front.0) (placed_in Append back.0) (placed_in Append back.1) (subst (AreFrom n) appended needs.entries))
    where
      front_of : (a b : List EntryIndex) → AreFrom n (a ++ b) → AreFrom n a
      front_of [] b k = tt
      front_of (x ∷ a) b k = (k.0, front_of a b k.1)

      middle : (a b c : List EntryIndex) → AreFrom n (a ++ (b ++ c)) → AreFrom n b
      middle [] b c k = front_of b c k
      middle (x ∷ a) b c k = middle a b c k.1

  pub shorter_spoken : unspoken later (placed_in Append t.entries) ≡ []
  shorter_spoken =
      ap (unspoken later) (appended ∙ ap (λ l. l ++ (placed_in Append back.0 ++ placed_in Append back.1)) first_none ∙ ap (λ l. l ++ placed_in Append back.1) second_none)
      ∙ gone_each later (placed_in Append back.1)
      (placed_such (λ i. is_index_spoken later i ≡ true) back.1
      (moved_each content (λ i. is_index_spoken later i ≡ true) back.1 (table_of id alone.0).entries back.4
      (each_gone later (table_of id alone.0).entries alone.2.spoken)))

  -- ---- keys

  any_later : (p : Step → Bool) → list_any p later ≡ true → list_any p (dropped ++ later) ≡ true
  any_later p k = any-append p dropped later ∙ ap (λ b. list_any p dropped || b) k ∙ or_later (list_any p dropped) true refl

  pair_spoken_later : (key : List ℕ) (s : Stored) → finite.get t.keys key ≡ Some s → s.file.queue ≡ Append → is_key_spoken later key ≡ true
  pair_spoken_later key s e q = go (is_key_spoken later key) refl
    where
      low : (o : Option Stored) → last_pair key (dropped ++ later) ≡ o → is_key_spoken later key ≡ false → IsMovedPair (Some s) o → ⊥
      low None k none m = absurd m
      low (Some x) k none m =
          let high : n ≤ s.file.seq = needs.pairs key s e q in
          let lows : x.file.seq < n = pair_below n key dropped x below (sym (pair_prefix key dropped later none) ∙ k) in
          elim m.1 [
            | inl same ↦ (let eq : s.file.seq ≡ x.file.seq = ap (λ f. f.seq) same in omega (arith, high, lows, eq))
            | inr moved ↦ apart (sym q ∙ moved)
          ]
        where
          apart : Append ≡ Rewrite → ⊥
          apart e = cc

      go : (b : Bool) → is_key_spoken later key ≡ b → b ≡ true
      go true k = refl
      go false k = absurd (low (last_pair key (dropped ++ later)) refl k (subst (λ o. IsMovedPair o (last_pair key (dropped ++ later))) e (h.pair_moved key (h.pair_spoken key s e q))))

  -- the region is kept without the dropped steps
  pub shorter_kept : IsRegionKept content id later [] rewritten t
  shorter_kept = record {
    steps = steps_back dropped h.steps;
    sound = h.sound;
    own = alone.0;
    read = alone.1;
    seen = h.seen;
    over = over_later dropped later (table_of id h.own).entries (table_of id alone.0).entries h.seen h.over alone.2;
    moved = h.moved;
    told = h.told;
    covers = λ i k. absurd (false≢true k);
    spoken = shorter_spoken;
    pair_moved = λ key k. subst (IsMovedPair (finite.get t.keys key)) (pair_later key dropped later k) (h.pair_moved key (any_later (speaks_of_key key) k));
    pair_told = h.pair_told;
    pair_gone = h.pair_gone;
    pair_covers = λ key k. absurd (false≢true k);
    pair_spoken = pair_spoken_later;
  }
