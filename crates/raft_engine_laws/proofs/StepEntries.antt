-- What holds of each entry that steps put holds of each entry of the table that they make.
use Rattle.raft_engine_laws.proofs.Common.{◌≡◌, ℕ, Bool, true, false, cond, List, [], ◌∷◌, ◌++◌, Option, Some, None, refl, sym, ap, subst, nat_lt, nat_le, AllByRecursion, option_and_then, EntryIndex, LogQueue, Append, Rewrite, leaves_hole, entries_after_replay, Step, Run}
use Rattle.raft_engine_laws.proofs.Common.{Compact, Truncate, Put, Del, AtomicGroup, Clean, table_of, after_step, after, Table, below, from, same_some, each-append, each_filter}
use Rattle.std.specs.Option.{option_map}

module _ (P : EntryIndex → Type 0) where
  abbrev pub Are : List EntryIndex → Type 0
  Are es = AllByRecursion P es

  -- the entries that a step puts are such ones
  abbrev pub PutsSuch : Step → Type 0
  PutsSuch (Run run) = Are run
  PutsSuch _ = Unit {0}

  below_are : (i : ℕ) (es : List EntryIndex) → Are es → Are (below i es)
  unfolding below
  below_are i es h = each_filter P (λ e. nat_lt e.index i) es h

  from_are : (i : ℕ) (es : List EntryIndex) → Are es → Are (from i es)
  unfolding from
  from_are i es h = each_filter P (λ e. nat_le i e.index) es h

  run_are : (q : LogQueue) (es : List EntryIndex) (e : EntryIndex) (run after : List EntryIndex) → Are es → Are (e ∷ run) → entries_after_replay q es (e ∷ run) ≡ Some after → Are after
  run_are Append es e run after h k is = go (leaves_hole es e.index) is
    where
      go : (b : Bool) → cond b None (Some (below e.index es ++ e ∷ run)) ≡ Some after → Are after
      go true is = absurd cc
      go false is = subst Are (same_some _ after is) (each-append P (below e.index es) (e ∷ run) (below_are e.index es h) k)
  run_are Rewrite es e run after h k is = subst Are (same_some _ after is) (go (leaves_hole es e.index))
    where
      go : (b : Bool) → Are (cond b (e ∷ run) (below e.index es ++ e ∷ run))
      go true = k
      go false = each-append P (below e.index es) (e ∷ run) (below_are e.index es h) k

  empty_replay : (q : LogQueue) (t : Table) (v : Option Table) (id : ℕ) → after_step q t (Run []) ≡ Some v → (table_of id v).entries ≡ t.entries
  empty_replay Append t v id is = ap (λ (u : Option Table). (table_of id u).entries) (sym (same_some (Some t) v is))
  empty_replay Rewrite t v id is = ap (λ (u : Option Table). (table_of id u).entries) (sym (same_some (Some t) v is))

  step_are : (q : LogQueue) (id : ℕ) (t : Table) (v : Option Table) (s : Step) → PutsSuch s → Are t.entries → after_step q t s ≡ Some v → Are (table_of id v).entries
  step_are q id t v (Run []) h k is = subst Are (sym (empty_replay q t v id is)) k
  step_are q id t v (Run (e ∷ run)) h k is = go (entries_after_replay q t.entries (e ∷ run)) refl is
    where
      go : (x : Option (List EntryIndex)) → entries_after_replay q t.entries (e ∷ run) ≡ x → option_map Some (option_map {U = Table} (λ es. record t { entries = es }) x) ≡ Some v → Are (table_of id v).entries
      go None y is = absurd cc
      go (Some es) y is = subst (λ (u : Option Table). Are (table_of id u).entries) (same_some _ v is) (run_are q t.entries e run es k h y)
  step_are q id t v (Compact i) h k is = subst (λ (u : Option Table). Are (table_of id u).entries) (same_some (Some (record t { entries = from i t.entries })) v is) (from_are i t.entries k)
  step_are q id t v (Truncate i) h k is = subst (λ (u : Option Table). Are (table_of id u).entries) (same_some (Some (record t { entries = below i t.entries })) v is) (below_are i t.entries k)
  step_are q id t v (Put key value file) h k is = subst (λ (u : Option Table). Are (table_of id u).entries) (same_some _ v is) k
  step_are q id t v (Del key) h k is = subst (λ (u : Option Table). Are (table_of id u).entries) (same_some _ v is) k
  step_are q id t v (AtomicGroup a b) h k is = subst (λ (u : Option Table). Are (table_of id u).entries) (same_some _ v is) k
  step_are q id t v Clean h k is = subst (λ (u : Option Table). Are (table_of id u).entries) (same_some None v is) tt

  pub steps_are : (q : LogQueue) (id : ℕ) (o v : Option Table) (ss : List Step) → AllByRecursion PutsSuch ss → Are (table_of id o).entries → after q id o ss ≡ Some v → Are (table_of id v).entries
  steps_are q id o v [] h k is = subst (λ (u : Option Table). Are (table_of id u).entries) (same_some o v is) k
  steps_are q id o v (s ∷ ss) h k is = go (λ u k e. steps_are q id u v ss h.1 k e) (after_step q (table_of id o) s) refl is
    where
      go : ((u : Option Table) → Are (table_of id u).entries → after q id u ss ≡ Some v → Are (table_of id v).entries)
          → (x : Option (Option Table)) → after_step q (table_of id o) s ≡ x → option_and_then (λ u. after q id u ss) x ≡ Some v → Are (table_of id v).entries
      go rest None e m = absurd cc
      go rest (Some u) e m = rest u (step_are q id (table_of id o) u s h.0 k e) m
