-- Entries that steps put in files below a number.
use Rattle.raft_engine_laws.proofs.Common.{◌≡◌, ℕ, ◌<◌, Bool, true, false, cond, List, [], ◌∷◌, ◌++◌, Option, Some, None, inl, inr, refl, sym, ap, subst, ◌∙◌, append-nil, AllByRecursion, option_and_then, false≢true, EntryIndex, Append, Rewrite, place_seq, Stored, said_of_key}
use Rattle.raft_engine_laws.proofs.Common.{last_pair, Step, Run, Compact, Truncate, Put, Del, AtomicGroup, Clean, AreSteps, table_of, after_step, after, Table, placed_in, is_placed_in, same_some, placed_apart, each-append, AreFrom, AreMoved, unspoken}
use Rattle.raft_engine_laws.proofs.EachLemmas.{Each}
use Rattle.raft_engine_laws.proofs.FileWords.{IsSeqBelow, AreBelow, IsStepBelow, seq_clash}
use Rattle.raft_engine_laws.proofs.KeyLemmas.{pair_such}
use Rattle.raft_engine_laws.proofs.OverLemmas.{entries_after, put_spoken}
use Rattle.raft_engine_laws.proofs.UnspokenLemmas.{unspoken-append, unspoken-steps, unspoken-twice, unspoken-swap, all_left}
use Rattle.raft_engine_laws.proofs.WriteWords.{put_by}

put_below : (n : ℕ) (s : Step) → IsStepBelow n s → AreBelow n (put_by s)
put_below n (Run run) h = h
put_below n (Compact i) h = tt
put_below n (Truncate i) h = tt
put_below n (Put key value file) h = tt
put_below n (Del key) h = tt
put_below n (AtomicGroup a b) h = tt
put_below n Clean h = tt

-- entries of a table after steps are such as the steps put
pub below_after : (n id : ℕ) (o v : Option Table) (ss : List Step) → AllByRecursion (IsStepBelow n) ss → AreBelow n (table_of id o).entries → after Append id o ss ≡ Some v → AreBelow n (table_of id v).entries
below_after n id o v [] h k is = subst (λ (u : Option Table). AreBelow n (table_of id u).entries) (same_some o v is) k
below_after n id o v (s ∷ ss) h k is = go (λ u k e. below_after n id u v ss h.1 k e) (after_step Append (table_of id o) s) refl is
  where
    go : ((u : Option Table) → AreBelow n (table_of id u).entries → after Append id u ss ≡ Some v → AreBelow n (table_of id v).entries)
        → (x : Option (Option Table)) → after_step Append (table_of id o) s ≡ x → option_and_then (λ u. after Append id u ss) x ≡ Some v → AreBelow n (table_of id v).entries
    go rest None e m = absurd cc
    go rest (Some u) e m = rest u (subst (AreBelow n) (sym (entries_after id (table_of id o) u s e))
        (each-append (λ (x : EntryIndex). IsSeqBelow n (place_seq x.entries)) (unspoken (s ∷ []) (table_of id o).entries) (put_by s)
        (all_left (λ (x : EntryIndex). IsSeqBelow n (place_seq x.entries)) (s ∷ []) (table_of id o).entries k) (put_below n s h.0))) m

-- steps leave of what they made what they leave of what was there before
pub left_after : (id : ℕ) (o v : Option Table) (ss : List Step) → AreSteps ss → after Append id o ss ≡ Some v → unspoken ss (table_of id v).entries ≡ unspoken ss (table_of id o).entries
left_after id o v [] good is = ap (λ (u : Option Table). unspoken [] (table_of id u).entries) (sym (same_some o v is))
left_after id o v (s ∷ ss) good is = go (λ u k. left_after id u v ss good.1 k) (after_step Append (table_of id o) s) refl is
  where
    go : ((u : Option Table) → after Append id u ss ≡ Some v → unspoken ss (table_of id v).entries ≡ unspoken ss (table_of id u).entries)
        → (x : Option (Option Table)) → after_step Append (table_of id o) s ≡ x → option_and_then (λ u. after Append id u ss) x ≡ Some v → unspoken (s ∷ ss) (table_of id v).entries ≡ unspoken (s ∷ ss) (table_of id o).entries
    go rest None e k = absurd cc
    go rest (Some u) e k =
        sym (unspoken-steps (s ∷ []) ss (table_of id v).entries)
        ∙ unspoken-swap (s ∷ []) ss (table_of id v).entries
        ∙ ap (unspoken (s ∷ [])) (rest u k)
        ∙ unspoken-swap ss (s ∷ []) (table_of id u).entries
        ∙ ap (λ l. unspoken ss (unspoken (s ∷ []) l)) (entries_after id (table_of id o) u s e)
        ∙ ap (unspoken ss) (unspoken-append (s ∷ []) (unspoken (s ∷ []) (table_of id o).entries) (put_by s)
        ∙ ap (λ l. unspoken (s ∷ []) (unspoken (s ∷ []) (table_of id o).entries) ++ l) (put_spoken s good.0) ∙ append-nil _
        ∙ unspoken-twice (s ∷ []) (table_of id o).entries)
        ∙ unspoken-steps (s ∷ []) ss (table_of id o).entries

-- entries of a queue among those of which each index is such a one
pub placed_such : (X : ℕ → Type 0) (es : List EntryIndex) → Each X es → Each X (placed_in Append es)
unfolding placed_in
placed_such X [] h = tt
placed_such X (e ∷ es) h = go (is_placed_in Append e) (placed_such X es h.1)
  where
    go : (b : Bool) → Each X (placed_in Append es) → Each X (cond b (e ∷ placed_in Append es) (placed_in Append es))
    go true rest = (h.0, rest)
    go false rest = rest

-- kept entries beside such as are in files below the number have no place in the append queue, where those that have one are from it on
pub none_placed : (content : EntryIndex → List ℕ) (n : ℕ) (ks es : List EntryIndex) → AreMoved content ks es → AreBelow n es → AreFrom n (placed_in Append ks) → placed_in Append ks ≡ []
unfolding placed_in
none_placed content n [] es m low high = refl
none_placed content n (k ∷ ks) [] m low high = absurd m
none_placed content n (k ∷ ks) (e ∷ es) m low high = go (is_placed_in Append k) refl high (λ r. none_placed content n ks es m.1 low.1 r)
  where
    go : (b : Bool) → is_placed_in Append k ≡ b → AreFrom n (cond b (k ∷ placed_in Append ks) (placed_in Append ks)) →
        (AreFrom n (placed_in Append ks) → placed_in Append ks ≡ []) → cond b (k ∷ placed_in Append ks) (placed_in Append ks) ≡ []
    go false p r rest = rest r
    go true p r rest = absurd (elim m.0.0.1 [
      | inl same ↦ seq_clash n (place_seq k.entries) (subst (λ (x : EntryIndex). IsSeqBelow n (place_seq x.entries)) (sym same) low.0) r.0
      | inr moved ↦ false≢true (sym (placed_apart Append Rewrite refl k p) ∙ moved)
    ])

-- the last pair that steps say is in a file below the number
pub pair_below : (n : ℕ) (key : List ℕ) (ss : List Step) (x : Stored) → AllByRecursion (IsStepBelow n) ss → last_pair key ss ≡ Some x → x.file.seq < n
pair_below n = pair_such (IsStepBelow n) (λ x. x.file.seq < n) says
  where
    says : (s : Step) (x : Stored) → IsStepBelow n s → said_of_key s ≡ Some x → x.file.seq < n
    says (Put k value file) x h e = subst (λ (y : Stored). y.file.seq < n) (same_some _ x e) h
    says (Run run) x h e = absurd cc
    says (Compact i) x h e = absurd cc
    says (Truncate i) x h e = absurd cc
    says (Del k) x h e = absurd cc
    says (AtomicGroup a b) x h e = absurd cc
    says Clean x h e = absurd cc
