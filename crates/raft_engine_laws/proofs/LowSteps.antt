-- What steps leave of entries in files below a number, and what they put there, is there.
use Rattle.raft_engine_laws.proofs.Common.{◌≡◌, ℕ, Bool, true, false, cond, List, [], ◌∷◌, ◌++◌, Option, Some, None, refl, subst, nat_lt, nat_le, AllByRecursion, option_and_then, EntryIndex, Rewrite, place_seq, leaves_hole, Step, Run, Compact, Truncate, Put, Del, AtomicGroup}
use Rattle.raft_engine_laws.proofs.Common.{Clean, table_of, after_step, after, Table, below, from, same_some, each-append, each_filter}
use Rattle.raft_engine_laws.proofs.FileWords.{IsSeqBelow, AreBelow, IsStepBelow}

pub below_low : (n i : ℕ) (es : List EntryIndex) → AreBelow n es → AreBelow n (below i es)
unfolding below
below_low n i es h = each_filter (λ (e : EntryIndex). IsSeqBelow n (place_seq e.entries)) (λ e. nat_lt e.index i) es h

pub from_low : (n i : ℕ) (es : List EntryIndex) → AreBelow n es → AreBelow n (from i es)
unfolding from
from_low n i es h = each_filter (λ (e : EntryIndex). IsSeqBelow n (place_seq e.entries)) (λ e. nat_le i e.index) es h

step_low : (n id : ℕ) (t : Table) (v : Option Table) (s : Step) → IsStepBelow n s → AreBelow n t.entries → after_step Rewrite t s ≡ Some v → AreBelow n (table_of id v).entries
step_low n id t v (Run []) h k is = subst (λ (u : Option Table). AreBelow n (table_of id u).entries) (same_some (Some t) v is) k
step_low n id t v (Run (e ∷ run)) h k is = subst (λ (u : Option Table). AreBelow n (table_of id u).entries)
    (same_some (Some (record t { entries = cond (leaves_hole t.entries e.index) (e ∷ run) (below e.index t.entries ++ e ∷ run) })) v is)
    (go (leaves_hole t.entries e.index))
  where
    go : (b : Bool) → AreBelow n (cond b (e ∷ run) (below e.index t.entries ++ e ∷ run))
    go true = h
    go false = each-append (λ (e : EntryIndex). IsSeqBelow n (place_seq e.entries)) (below e.index t.entries) (e ∷ run) (below_low n e.index t.entries k) h
step_low n id t v (Compact i) h k is = subst (λ (u : Option Table). AreBelow n (table_of id u).entries) (same_some (Some (record t { entries = from i t.entries })) v is) (from_low n i t.entries k)
step_low n id t v (Truncate i) h k is = subst (λ (u : Option Table). AreBelow n (table_of id u).entries) (same_some (Some (record t { entries = below i t.entries })) v is) (below_low n i t.entries k)
step_low n id t v (Put key value file) h k is = subst (λ (u : Option Table). AreBelow n (table_of id u).entries) (same_some _ v is) k
step_low n id t v (Del key) h k is = subst (λ (u : Option Table). AreBelow n (table_of id u).entries) (same_some _ v is) k
step_low n id t v (AtomicGroup a b) h k is = subst (λ (u : Option Table). AreBelow n (table_of id u).entries) (same_some _ v is) k
step_low n id t v Clean h k is = subst (λ (u : Option Table). AreBelow n (table_of id u).entries) (same_some None v is) tt

pub steps_low : (n id : ℕ) (o v : Option Table) (ss : List Step) → AllByRecursion (IsStepBelow n) ss → AreBelow n (table_of id o).entries → after Rewrite id o ss ≡ Some v → AreBelow n (table_of id v).entries
steps_low n id o v [] h k is = subst (λ (u : Option Table). AreBelow n (table_of id u).entries) (same_some o v is) k
steps_low n id o v (s ∷ ss) h k is = go (λ u k e. steps_low n id u v ss h.1 k e) (after_step Rewrite (table_of id o) s) refl is
  where
    go : ((u : Option Table) → AreBelow n (table_of id u).entries → after Rewrite id u ss ≡ Some v → AreBelow n (table_of id v).entries)
        → (x : Option (Option Table)) → after_step Rewrite (table_of id o) s ≡ x → option_and_then (λ u. after Rewrite id u ss) x ≡ Some v → AreBelow n (table_of id v).entries
    go rest None e m = absurd cc
    go rest (Some u) e m = rest u (step_low n id (table_of id o) u s h.0 k e) m
