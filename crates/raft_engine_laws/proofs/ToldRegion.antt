-- The rewrite queue is told what untold steps take away.
use Rattle.raft_engine_laws.proofs.Common.{◌≡◌, ℕ, Bool, true, false, cond, ◌||◌, List, [], ◌∷◌, ◌++◌, Option, Some, None, refl, sym, ap, ◌∙◌, list_any, option_and_then, nat_cmp, slice_cmp, nat_list_cmp_total, EntryIndex, LogQueue, Rewrite, Stored, is_same_key, Step, Run}
use Rattle.raft_engine_laws.proofs.Common.{Compact, Truncate, Put, Del, AtomicGroup, Clean, table_of, after_step, after, Table, same_some, IsRegionKept, is_index_spoken, unspoken, drops_key, is_key_dropped, pair_left, IsRemoval, AreRemovals, SayTheSame}
use Rattle.std.specs.FinMap as finite
use Rattle.raft_engine_laws.proofs.OverLemmas.{unspoken-other}
use Rattle.raft_engine_laws.proofs.TestLemmas.{or_later, any-append}
use Rattle.raft_engine_laws.proofs.UnspokenLemmas.{spoken-append, unspoken_same, unspoken-none, unspoken-steps, unspoken-compact, unspoken-truncate, unspoken-clean}

-- one removal
removal_entries : (q : LogQueue) (id : ℕ) (t : Table) (v : Option Table) (s : Step) → IsRemoval s → after_step q t s ≡ Some v → (table_of id v).entries ≡ unspoken (s ∷ []) t.entries
removal_entries q id t v (Compact i) h is = ap (λ (u : Option Table). (table_of id u).entries) (sym (same_some _ v is)) ∙ sym (unspoken-compact i t.entries)
removal_entries q id t v (Truncate i) h is = ap (λ (u : Option Table). (table_of id u).entries) (sym (same_some _ v is)) ∙ sym (unspoken-truncate i t.entries)
removal_entries q id t v (Del key) h is = ap (λ (u : Option Table). (table_of id u).entries) (sym (same_some _ v is)) ∙ sym (unspoken-other (Del key) t.entries (λ i. refl))
removal_entries q id t v Clean h is = ap (λ (u : Option Table). (table_of id u).entries) (sym (same_some _ v is)) ∙ sym (unspoken-clean t.entries)
removal_entries q id t v (Run run) h is = absurd h
removal_entries q id t v (Put key value file) h is = absurd h
removal_entries q id t v (AtomicGroup a b) h is = absurd h

removal_pair : (q : LogQueue) (key : List ℕ) (id : ℕ) (t : Table) (v : Option Table) (s : Step) → IsRemoval s → after_step q t s ≡ Some v → finite.get (table_of id v).keys key ≡ pair_left (s ∷ []) key (finite.get t.keys key)
removal_pair q key id t v (Compact i) h is = ap (λ (u : Option Table). finite.get (table_of id u).keys key) (sym (same_some _ v is))
removal_pair q key id t v (Truncate i) h is = ap (λ (u : Option Table). finite.get (table_of id u).keys key) (sym (same_some _ v is))
removal_pair q key id t v (Del k) h is = ap (λ (u : Option Table). finite.get (table_of id u).keys key) (sym (same_some _ v is)) ∙ finite.get-remove nat_list_cmp_total t.keys k key ∙ go (is_same_key key k)
  where
    go : (b : Bool) → cond b None (finite.get t.keys key) ≡ cond (b || false) None (finite.get t.keys key)
    go true = refl
    go false = refl
removal_pair q key id t v Clean h is = ap (λ (u : Option Table). finite.get (table_of id u).keys key) (sym (same_some _ v is)) ∙ finite.get-empty (slice_cmp nat_cmp) key
removal_pair q key id t v (Run run) h is = absurd h
removal_pair q key id t v (Put k value file) h is = absurd h
removal_pair q key id t v (AtomicGroup a b) h is = absurd h

left_left : (a b : Bool) (o : Option Stored) → cond b None (cond (a || false) None o) ≡ cond (a || b) None o
left_left true true o = refl
left_left true false o = refl
left_left false b o = refl

pub removals_entries : (q : LogQueue) (id : ℕ) (o v : Option Table) (ss : List Step) → AreRemovals ss → after q id o ss ≡ Some v → (table_of id v).entries ≡ unspoken ss (table_of id o).entries
removals_entries q id o v [] h is = ap (λ (u : Option Table). (table_of id u).entries) (sym (same_some o v is)) ∙ sym (unspoken-none (table_of id o).entries)
removals_entries q id o v (s ∷ ss) h is = go (λ u k. removals_entries q id u v ss h.1 k) (after_step q (table_of id o) s) refl is
  where
    go : ((u : Option Table) → after q id u ss ≡ Some v → (table_of id v).entries ≡ unspoken ss (table_of id u).entries)
        → (x : Option (Option Table)) → after_step q (table_of id o) s ≡ x → option_and_then (λ u. after q id u ss) x ≡ Some v → (table_of id v).entries ≡ unspoken (s ∷ ss) (table_of id o).entries
    go rest None e k = absurd cc
    go rest (Some u) e k = rest u k ∙ ap (unspoken ss) (removal_entries q id (table_of id o) u s h.0 e) ∙ unspoken-steps (s ∷ []) ss (table_of id o).entries

pub removals_pair : (q : LogQueue) (key : List ℕ) (id : ℕ) (o v : Option Table) (ss : List Step) → AreRemovals ss → after q id o ss ≡ Some v → finite.get (table_of id v).keys key ≡ pair_left ss key (finite.get (table_of id o).keys key)
removals_pair q key id o v [] h is = ap (λ (u : Option Table). finite.get (table_of id u).keys key) (sym (same_some o v is))
removals_pair q key id o v (s ∷ ss) h is = go (λ u k. removals_pair q key id u v ss h.1 k) (after_step q (table_of id o) s) refl is
  where
    go : ((u : Option Table) → after q id u ss ≡ Some v → finite.get (table_of id v).keys key ≡ pair_left ss key (finite.get (table_of id u).keys key))
        → (x : Option (Option Table)) → after_step q (table_of id o) s ≡ x → option_and_then (λ u. after q id u ss) x ≡ Some v → finite.get (table_of id v).keys key ≡ pair_left (s ∷ ss) key (finite.get (table_of id o).keys key)
    go rest None e k = absurd cc
    go rest (Some u) e k = rest u k ∙ ap (pair_left ss key) (removal_pair q key id (table_of id o) u s h.0 e) ∙ left_left (drops_key key s) (list_any (drops_key key) ss) (finite.get (table_of id o).keys key)

and_left : (a b : Bool) (o : Option Stored) → cond b None (cond a None o) ≡ cond (a || b) None o
and_left true true o = refl
and_left true false o = refl
and_left false b o = refl

module _ (content : EntryIndex → List ℕ) (id : ℕ) (kept untold : List Step) (rewritten : Option Table) (t : Table) (h : IsRegionKept content id kept untold (table_of id rewritten) t)
    (told left : List Step) (removals : AreRemovals told) (same : SayTheSame (told ++ left) untold) (after_all : Option Table) (is : after Rewrite id rewritten told ≡ Some after_all) where
  pair_same : (key : List ℕ) → pair_left left key (finite.get (table_of id after_all).keys key) ≡ pair_left untold key (finite.get (table_of id rewritten).keys key)
  pair_same key =
      ap (pair_left left key) (removals_pair Rewrite key id rewritten after_all told removals is)
      ∙ and_left (is_key_dropped told key) (is_key_dropped left key) (finite.get (table_of id rewritten).keys key)
      ∙ ap (λ b. cond b None (finite.get (table_of id rewritten).keys key)) (sym (any-append (drops_key key) told left) ∙ same.keys key)

  -- the rewrite queue hasn't been told the others then
  pub told_kept : IsRegionKept content id kept left (table_of id after_all) t
  told_kept = record {
    steps = h.steps;
    sound = h.sound;
    own = h.own;
    read = h.read;
    seen = h.seen;
    over = h.over;
    moved = h.moved;
    told = ap (unspoken left) (removals_entries Rewrite id rewritten after_all told removals is)
        ∙ unspoken-steps told left (table_of id rewritten).entries ∙ unspoken_same (told ++ left) untold (table_of id rewritten).entries same.indexes
        ∙ h.told;
    covers = λ i k. h.covers i (sym (same.indexes i) ∙ spoken-append told left i ∙ or_later (is_index_spoken told i) (is_index_spoken left i) k);
    spoken = h.spoken;
    pair_moved = h.pair_moved;
    pair_told = λ key s e q. pair_same key ∙ h.pair_told key s e q;
    pair_gone = λ key e. pair_same key ∙ h.pair_gone key e;
    pair_covers = λ key k. h.pair_covers key (sym (same.keys key) ∙ any-append (drops_key key) told left ∙ or_later (is_key_dropped told key) (is_key_dropped left key) k);
    pair_spoken = h.pair_spoken;
  }
