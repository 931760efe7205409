-- One new step of the append queue on a table: it is taken when it is read again, and what it leaves.
use Rattle.raft_engine_laws.proofs.Common.{◌≡◌, ℕ, Bool, true, false, cond, not, ◌||◌, List, [], ◌∷◌, ◌++◌, Option, Some, None, option_map, inl, refl, sym, ap, ◌∙◌, list_any, option_or, option_and_then, nat_cmp, slice_cmp, nat_list_cmp_total, EntryIndex, LogQueue, Append}
use Rattle.raft_engine_laws.proofs.Common.{Rewrite, Stored, speaks_of_key, said_of_key, last_that, last_pair, leaves_hole, starts_in_front, Step, Run, Compact, Truncate, Put, Del, AtomicGroup, Clean, table_of, after_step, Table, IsStepOfQueue, below, placed_in, is_placed_in}
use Rattle.raft_engine_laws.proofs.Common.{same_some, each_placed, placed_in_other, filter_comm, IsMovedPair, is_index_spoken, unspoken}
use Rattle.std.specs.FinMap as finite
use Rattle.raft_engine_laws.proofs.TestLemmas.{any-append, or_none}
use Rattle.raft_engine_laws.proofs.WriteWords.{after_write, put_by}

-- ---- what a write leaves, it leaves when it is read again

-- where a run starts, if it has entries, it leaves no hole
abbrev pub LeavesNoHole : List EntryIndex → Step → Type 0
LeavesNoHole es (Run (e ∷ run)) = leaves_hole es e.index ≡ false
LeavesNoHole es _ = Unit {0}

pub read_again : (t : Table) (v : Option Table) (s : Step) → after_write t s ≡ Some v → (after_step Append t s ≡ Some v) × LeavesNoHole t.entries s
read_again t v (Run []) is = (is, tt)
read_again t v (Run (e ∷ run)) is = go (starts_in_front t.entries e.index) (leaves_hole t.entries e.index) refl is
  where
    go : (a b : Bool) → leaves_hole t.entries e.index ≡ b →
        option_map Some (option_map {U = Table} (λ es. record t { entries = es }) (cond (a || b) None (Some (below e.index t.entries ++ e ∷ run)))) ≡
        Some v → (after_step Append t (Run (e ∷ run)) ≡ Some v) × (leaves_hole t.entries e.index ≡ false)
    go true b h k = absurd cc
    go false true h k = absurd cc
    go false false h k = (ap (λ b. option_map Some (option_map {U = Table} (λ es. record t { entries = es }) (cond b None (Some (below e.index t.entries ++ e ∷ run))))) h ∙ k, h)
read_again t v (Compact i) is = (is, tt)
read_again t v (Truncate i) is = (is, tt)
read_again t v (Put key value file) is = (is, tt)
read_again t v (Del key) is = (is, tt)
read_again t v (AtomicGroup a b) is = (is, tt)
read_again t v Clean is = (is, tt)

-- a step that leaves no hole is taken
pub taken : (t : Table) (s : Step) → LeavesNoHole t.entries s → (w : Option Table) × (after_step Append t s ≡ Some w)
taken t (Run []) h = (Some t, refl)
taken t (Run (e ∷ run)) h = (Some (record t { entries = below e.index t.entries ++ e ∷ run }), ap (λ b. option_map Some (option_map {U = Table} (λ es. record t { entries = es }) (cond b None (Some (below e.index t.entries ++ e ∷ run))))) h)
taken t (Compact i) h = (_, refl)
taken t (Truncate i) h = (_, refl)
taken t (Put key value file) h = (_, refl)
taken t (Del key) h = (_, refl)
taken t (AtomicGroup a b) h = (_, refl)
taken t Clean h = (_, refl)

-- ---- places

placed-nil : (q : LogQueue) → placed_in q [] ≡ []
unfolding placed_in
placed-nil q = refl

-- a step of the append queue puts no entry of the rewrite queue
pub none_rewritten : (s : Step) → IsStepOfQueue Append s → placed_in Rewrite (put_by s) ≡ []
none_rewritten (Run run) h = ap (placed_in Rewrite) (sym (each_placed Append run h.placed)) ∙ placed_in_other Append Rewrite refl run
none_rewritten (Compact i) h = placed-nil Rewrite
none_rewritten (Truncate i) h = placed-nil Rewrite
none_rewritten (Put key value file) h = placed-nil Rewrite
none_rewritten (Del key) h = placed-nil Rewrite
none_rewritten (AtomicGroup a b) h = placed-nil Rewrite
none_rewritten Clean h = placed-nil Rewrite

pub placed-left : (q : LogQueue) (ss : List Step) (es : List EntryIndex) → placed_in q (unspoken ss es) ≡ unspoken ss (placed_in q es)
unfolding placed_in unspoken
placed-left q ss es = filter_comm (is_placed_in q) (λ e. not (is_index_spoken ss e.index)) es

-- ---- keys

pub pair_after : (key : List ℕ) (id : ℕ) (t : Table) (v : Option Table) (s : Step) → after_step Append t s ≡ Some v
    → finite.get (table_of id v).keys key ≡ cond (speaks_of_key key s) (said_of_key s) (finite.get t.keys key)
pair_after key id t v (Run []) is = ap (λ (u : Option Table). finite.get (table_of id u).keys key) (sym (same_some _ v is))
pair_after key id t v (Run (e ∷ run)) is = go (leaves_hole t.entries e.index) is
  where
    go : (b : Bool) → option_map Some (option_map {U = Table} (λ es. record t { entries = es }) (cond b None (Some (below e.index t.entries ++ e ∷ run)))) ≡ Some v → finite.get (table_of id v).keys key ≡ finite.get t.keys key
    go true k = absurd cc
    go false k = ap (λ (u : Option Table). finite.get (table_of id u).keys key) (sym (same_some _ v k))
pair_after key id t v (Compact j) is = ap (λ (u : Option Table). finite.get (table_of id u).keys key) (sym (same_some _ v is))
pair_after key id t v (Truncate j) is = ap (λ (u : Option Table). finite.get (table_of id u).keys key) (sym (same_some _ v is))
pair_after key id t v (Put k value file) is = ap (λ (u : Option Table). finite.get (table_of id u).keys key) (sym (same_some _ v is)) ∙ finite.get-insert nat_list_cmp_total t.keys k (record { value = value; file = file }) key
pair_after key id t v (Del k) is = ap (λ (u : Option Table). finite.get (table_of id u).keys key) (sym (same_some _ v is)) ∙ finite.get-remove nat_list_cmp_total t.keys k key
pair_after key id t v (AtomicGroup a b) is = ap (λ (u : Option Table). finite.get (table_of id u).keys key) (sym (same_some _ v is))
pair_after key id t v Clean is = ap (λ (u : Option Table). finite.get (table_of id u).keys key) (sym (same_some _ v is)) ∙ finite.get-empty (slice_cmp nat_cmp) key

last-append : (p : Step → Bool) (ss : List Step) (s : Step) → last_that p (ss ++ s ∷ []) ≡ cond (p s) (Some s) (last_that p ss)
last-append p [] s = refl
last-append p (x ∷ ss) s = ap (λ o. option_or o (cond (p x) (Some x) None)) (last-append p ss s) ∙ go (p s)
  where
    go : (b : Bool) → option_or (cond b (Some s) (last_that p ss)) (cond (p x) (Some x) None) ≡ cond b (Some s) (option_or (last_that p ss) (cond (p x) (Some x) None))
    go true = refl
    go false = refl

pub pair_word : (key : List ℕ) (ss : List Step) (s : Step) → last_pair key (ss ++ s ∷ []) ≡ cond (speaks_of_key key s) (said_of_key s) (last_pair key ss)
pair_word key ss s = ap (option_and_then said_of_key) (last-append (speaks_of_key key) ss s) ∙ go (speaks_of_key key s)
  where
    go : (b : Bool) → option_and_then said_of_key (cond b (Some s) (last_that (speaks_of_key key) ss)) ≡ cond b (said_of_key s) (last_pair key ss)
    go true = refl
    go false = refl

-- a step says a pair in the append queue, or else takes the key away, where it speaks
pub said_appended : (s : Step) (x : Stored) → IsStepOfQueue Append s → said_of_key s ≡ Some x → x.file.queue ≡ Append
said_appended (Put k value file) x h e = ap (λ (y : Stored). y.file.queue) (sym (same_some _ x e)) ∙ h
said_appended (Run run) x h e = absurd cc
said_appended (Compact i) x h e = absurd cc
said_appended (Truncate i) x h e = absurd cc
said_appended (Del k) x h e = absurd cc
said_appended (AtomicGroup a b) x h e = absurd cc
said_appended Clean x h e = absurd cc

pub moved_pair : (o : Option Stored) → IsMovedPair o o
moved_pair None = tt
moved_pair (Some s) = (refl, inl refl)

pub one_more : (p : Step → Bool) (ss : List Step) (s : Step) → list_any p (ss ++ s ∷ []) ≡ (list_any p ss || p s)
one_more p ss s = any-append p ss (s ∷ []) ∙ ap (λ b. list_any p ss || b) (or_none (p s))
