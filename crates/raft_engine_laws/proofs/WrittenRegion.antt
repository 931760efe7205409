-- One step more on a kept region.
use Rattle.raft_engine_laws.proofs.Common.{◌≡◌, ℕ, Bool, true, false, cond, ◌||◌, List, [], ◌∷◌, ◌++◌, Option, Some, None, refl, sym, ap, subst, ◌∙◌, append-nil, list_any, option_and_then, EntryIndex, Append, Rewrite, Stored, speaks_of_index, speaks_of_key, said_of_key}
use Rattle.raft_engine_laws.proofs.Common.{last_pair, Step, Run, Compact, Truncate, Put, Del, AtomicGroup, Clean, IsStep, AreSteps, table_of, after_step, after, Table, IsStepOfQueue, placed_in, AreTableEntries, after-append, placed_in-append, IsMovedPair, IsRegionKept, AreMoved}
use Rattle.raft_engine_laws.proofs.Common.{is_key_spoken, unspoken, IsOver, drops_key, pair_left}
use Rattle.std.specs.FinMap as finite
use Rattle.raft_engine_laws.proofs.KeyLemmas.{not_dropping, said_drops}
use Rattle.raft_engine_laws.proofs.MovedLemmas.{moved_self, moved-append, moved_left, moved_hole, run_seen}
use Rattle.raft_engine_laws.proofs.OverLemmas.{over_one, put_spoken, entries_after, no_hole}
use Rattle.raft_engine_laws.proofs.TestLemmas.{or_none, or_later}
use Rattle.raft_engine_laws.proofs.UnspokenLemmas.{unspoken-append, unspoken-steps, unspoken-twice, unspoken-nil, unspoken-swap}
use Rattle.raft_engine_laws.proofs.WriteWords.{after_write, put_by}
use Rattle.raft_engine_laws.proofs.WrittenSteps.{LeavesNoHole, read_again, taken, none_rewritten, placed-left, pair_after, pair_word, said_appended, moved_pair, one_more}

module _ (content : EntryIndex → List ℕ) (id : ℕ) (kept untold : List Step) (rewritten t : Table) (h : IsRegionKept content id kept untold rewritten t)
    (s : Step) (v : Option Table) (good : IsStep s) (mine : IsStepOfQueue Append s) (is : after_write t s ≡ Some v) (sound : AreTableEntries (table_of id v).entries) where
  again : (after_step Append t s ≡ Some v) × LeavesNoHole t.entries s
  again = read_again t v s is

  es_are : (table_of id v).entries ≡ unspoken (s ∷ []) t.entries ++ put_by s
  es_are = entries_after id t v s again.0

  own_no_hole : (s : Step) → LeavesNoHole t.entries s → LeavesNoHole (table_of id h.own).entries s
  own_no_hole (Run []) k = tt
  own_no_hole (Run (e ∷ run)) k = no_hole kept (table_of id h.own).entries h.seen e.index h.over (run_seen content t.entries h.seen h.moved h.sound.consecutive.run) (sym (moved_hole content t.entries h.seen e.index h.moved) ∙ k)
  own_no_hole (Compact i) k = tt
  own_no_hole (Truncate i) k = tt
  own_no_hole (Put key value file) k = tt
  own_no_hole (Del key) k = tt
  own_no_hole (AtomicGroup a b) k = tt
  own_no_hole Clean k = tt

  own_taken : (w : Option Table) × (after_step Append (table_of id h.own) s ≡ Some w)
  own_taken = taken (table_of id h.own) s (own_no_hole s again.1)

  pair_is : (key : List ℕ) → finite.get (table_of id v).keys key ≡ cond (speaks_of_key key s) (said_of_key s) (finite.get t.keys key)
  pair_is key = pair_after key id t v s again.0

  steps_more : (ss : List Step) → AreSteps ss → AreSteps (ss ++ s ∷ [])
  steps_more [] k = (good, tt)
  steps_more (x ∷ ss) k = (k.0, steps_more ss k.1)

  unspoken_more : (ss : List Step) (es : List EntryIndex) → unspoken (ss ++ s ∷ []) es ≡ unspoken (s ∷ []) (unspoken ss es)
  unspoken_more ss es = sym (unspoken-steps ss (s ∷ []) es)

  put_gone : (ss : List Step) (es : List EntryIndex) → unspoken (ss ++ s ∷ []) (unspoken (s ∷ []) es ++ put_by s) ≡ unspoken (s ∷ []) (unspoken ss es)
  put_gone ss es =
      unspoken_more ss (unspoken (s ∷ []) es ++ put_by s)
      ∙ unspoken-swap ss (s ∷ []) (unspoken (s ∷ []) es ++ put_by s)
      ∙ ap (unspoken ss) (unspoken-append (s ∷ []) (unspoken (s ∷ []) es) (put_by s) ∙ ap (λ l. unspoken (s ∷ []) (unspoken (s ∷ []) es) ++ l) (put_spoken s good) ∙ append-nil _ ∙ unspoken-twice (s ∷ []) es)
      ∙ sym (unspoken-swap ss (s ∷ []) es)

  rewritten_part : placed_in Rewrite (table_of id v).entries ≡ unspoken (s ∷ []) (placed_in Rewrite t.entries)
  rewritten_part =
      ap (placed_in Rewrite) es_are
      ∙ placed_in-append Rewrite (unspoken (s ∷ []) t.entries) (put_by s)
      ∙ ap (λ l. placed_in Rewrite (unspoken (s ∷ []) t.entries) ++ l) (none_rewritten s mine)
      ∙ append-nil _
      ∙ placed-left Rewrite (s ∷ []) t.entries

  appended_part : unspoken (kept ++ s ∷ []) (placed_in Append (table_of id v).entries) ≡ []
  appended_part =
      sym (placed-left Append (kept ++ s ∷ []) (table_of id v).entries)
      ∙ ap (λ l. placed_in Append (unspoken (kept ++ s ∷ []) l)) es_are
      ∙ ap (placed_in Append) (put_gone kept t.entries)
      ∙ placed-left Append (s ∷ []) (unspoken kept t.entries)
      ∙ ap (unspoken (s ∷ [])) (placed-left Append kept t.entries ∙ h.spoken)
      ∙ unspoken-nil (s ∷ [])

  -- the pair of a key, by whether the step speaks of it
  by_speaking : (key : List ℕ) (X : Option Stored → Type 0) → (speaks_of_key key s ≡ true → X (said_of_key s)) → (speaks_of_key key s ≡ false → X (finite.get t.keys key)) → X (finite.get (table_of id v).keys key)
  by_speaking key X on off = subst X (sym (pair_is key)) (go (speaks_of_key key s) refl)
    where
      go : (b : Bool) → speaks_of_key key s ≡ b → X (cond b (said_of_key s) (finite.get t.keys key))
      go true e = on e
      go false e = off e

  left_more : (key : List ℕ) (o : Option Stored) → drops_key key s ≡ false → pair_left (untold ++ s ∷ []) key o ≡ pair_left untold key o
  left_more key o e = ap (λ b. cond b None o) (one_more (drops_key key) untold s ∙ ap (λ b. list_any (drops_key key) untold || b) e ∙ or_none (list_any (drops_key key) untold))

  left_gone : (key : List ℕ) (o : Option Stored) → drops_key key s ≡ true → pair_left (untold ++ s ∷ []) key o ≡ None
  left_gone key o e = ap (λ b. cond b None o) (one_more (drops_key key) untold s ∙ ap (λ b. list_any (drops_key key) untold || b) e ∙ or_later (list_any (drops_key key) untold) true refl)

  spoken_more : (key : List ℕ) → speaks_of_key key s ≡ false → is_key_spoken (kept ++ s ∷ []) key ≡ is_key_spoken kept key
  spoken_more key e = one_more (speaks_of_key key) kept s ∙ ap (λ b. is_key_spoken kept key || b) e ∙ or_none (is_key_spoken kept key)

  spoken_now : (key : List ℕ) → speaks_of_key key s ≡ true → is_key_spoken (kept ++ s ∷ []) key ≡ true
  spoken_now key e = one_more (speaks_of_key key) kept s ∙ ap (λ b. is_key_spoken kept key || b) e ∙ or_later (is_key_spoken kept key) true refl

  both_more : (p : Step → Bool) → (list_any p untold ≡ true → list_any p kept ≡ true) → list_any p (untold ++ s ∷ []) ≡ true → list_any p (kept ++ s ∷ []) ≡ true
  both_more p law k = one_more p kept s ∙ go (list_any p untold) (list_any p kept) (p s) law (sym (one_more p untold s) ∙ k)
    where
      go : (a b c : Bool) → (a ≡ true → b ≡ true) → (a || c) ≡ true → (b || c) ≡ true
      go a true c law k = refl
      go a false true law k = refl
      go true false false law k = law refl
      go false false false law k = k

  -- the region is kept with the step behind the others, untold
  pub write_kept : IsRegionKept content id (kept ++ s ∷ []) (untold ++ s ∷ []) rewritten (table_of id v)
  write_kept = record {
    steps = steps_more kept h.steps;
    sound = sound;
    own = own_taken.0;
    read = after-append Append id None kept (s ∷ []) ∙ ap (option_and_then (λ u. after Append id u (s ∷ []))) h.read ∙ ap (option_and_then (λ u. after Append id u [])) own_taken.1;
    seen = unspoken (s ∷ []) h.seen ++ put_by s;
    over = subst (λ l. IsOver (kept ++ s ∷ []) l (unspoken (s ∷ []) h.seen ++ put_by s))
        (sym (entries_after id (table_of id h.own) own_taken.0 s own_taken.1))
        (over_one kept s (table_of id h.own).entries h.seen (put_by s) h.over (put_spoken s good));
    moved = subst (λ l. AreMoved content l (unspoken (s ∷ []) h.seen ++ put_by s)) (sym es_are)
        (moved-append content (unspoken (s ∷ []) t.entries) (unspoken (s ∷ []) h.seen) (put_by s) (put_by s)
        (moved_left content (s ∷ []) t.entries h.seen h.moved) (moved_self content (put_by s)));
    told = unspoken_more untold rewritten.entries ∙ ap (unspoken (s ∷ [])) h.told ∙ sym rewritten_part;
    covers = λ i k. both_more (λ x. speaks_of_index i x) (h.covers i) k;
    spoken = appended_part;
    pair_moved = λ key k. subst (IsMovedPair (finite.get (table_of id v).keys key)) (sym (pair_word key kept s)) (moved_word key k);
    pair_told = λ key x e q. told_word key x e q;
    pair_gone = λ key e. gone_word key e;
    pair_covers = λ key k. both_more (drops_key key) (h.pair_covers key) k;
    pair_spoken = λ key x e q. spoken_word key x e q;
  }
    where
      moved_word : (key : List ℕ) → is_key_spoken (kept ++ s ∷ []) key ≡ true → IsMovedPair (finite.get (table_of id v).keys key) (cond (speaks_of_key key s) (said_of_key s) (last_pair key kept))
      moved_word key k = subst (λ o. IsMovedPair o (cond (speaks_of_key key s) (said_of_key s) (last_pair key kept))) (sym (pair_is key)) (go (speaks_of_key key s) refl)
        where
          go : (b : Bool) → speaks_of_key key s ≡ b → IsMovedPair (cond b (said_of_key s) (finite.get t.keys key)) (cond b (said_of_key s) (last_pair key kept))
          go true e = moved_pair (said_of_key s)
          go false e = h.pair_moved key (sym (spoken_more key e) ∙ k)

      told_word : (key : List ℕ) (x : Stored) → finite.get (table_of id v).keys key ≡ Some x → x.file.queue ≡ Rewrite → pair_left (untold ++ s ∷ []) key (finite.get rewritten.keys key) ≡ Some x
      told_word key x e q = by_speaking key (λ o. o ≡ Some x → pair_left (untold ++ s ∷ []) key (finite.get rewritten.keys key) ≡ Some x)
          (λ on k. absurd (apart (sym (said_appended s x mine k) ∙ q)))
          (λ off k. left_more key (finite.get rewritten.keys key) (not_dropping key s off) ∙ h.pair_told key x k q) e
        where
          apart : Append ≡ Rewrite → ⊥
          apart e = cc

      gone_word : (key : List ℕ) → finite.get (table_of id v).keys key ≡ None → pair_left (untold ++ s ∷ []) key (finite.get rewritten.keys key) ≡ None
      gone_word key e = by_speaking key (λ o. o ≡ None → pair_left (untold ++ s ∷ []) key (finite.get rewritten.keys key) ≡ None)
          (λ on k. left_gone key (finite.get rewritten.keys key) (said_drops key s on k))
          (λ off k. left_more key (finite.get rewritten.keys key) (not_dropping key s off) ∙ h.pair_gone key k) e

      spoken_word : (key : List ℕ) (x : Stored) → finite.get (table_of id v).keys key ≡ Some x → x.file.queue ≡ Append → is_key_spoken (kept ++ s ∷ []) key ≡ true
      spoken_word key x e q = by_speaking key (λ o. o ≡ Some x → is_key_spoken (kept ++ s ∷ []) key ≡ true)
          (λ on k. spoken_now key on)
          (λ off k. spoken_more key off ∙ h.pair_spoken key x k q) e
