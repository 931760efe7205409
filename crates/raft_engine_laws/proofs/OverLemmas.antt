-- Entries that are what steps leave, and the own entries of these steps behind: through one step more, and through many.
use Rattle.raft_engine_laws.proofs.Common.{◌≡◌, ℕ, suc, ◌≤◌, Bool, true, false, cond, List, [], ◌∷◌, ◌++◌, Option, Some, None, option_map, refl, sym, ap, subst, ◌∙◌, arith, append_assoc, append-nil, option_and_then, EntryIndex, Append, RisesFrom, IsRun, end_of, misses}
use Rattle.raft_engine_laws.proofs.Common.{leaves_hole, Step, Run, Compact, Truncate, Put, Del, AtomicGroup, Clean, IsStep, AreSteps, IsTableOf, table_of, after_step, after, Table, below, from, same_some, first_rising, table_after_step, hole_end, end_of-append, below_start}
use Rattle.raft_engine_laws.proofs.Common.{is_index_spoken, unspoken, IsOver}
use Rattle.raft_engine_laws.proofs.UnspokenLemmas.{unspoken-append, unspoken-steps, unspoken-twice, unspoken-run, unspoken-compact, unspoken-truncate, unspoken-clean, unspoken-swap, unspoken-nil}
use Rattle.raft_engine_laws.proofs.WriteWords.{put_by}

-- nothing stays of entries, so nothing of some of them
left_of_none : (ss tt : List Step) (es : List EntryIndex) → unspoken ss es ≡ [] → unspoken ss (unspoken tt es) ≡ []
left_of_none ss tt es h = unspoken-swap tt ss es ∙ ap (unspoken tt) h ∙ unspoken-nil tt

-- one step that leaves what it doesn't speak of, and puts such as it speaks of
pub over_one : (ss : List Step) (s : Step) (own es put : List EntryIndex) → IsOver ss own es → unspoken (s ∷ []) put ≡ []
    → IsOver (ss ++ s ∷ []) (unspoken (s ∷ []) own ++ put) (unspoken (s ∷ []) es ++ put)
over_one ss s own es put h none = record {
  split =
      ap (λ l. unspoken (s ∷ []) l ++ put) h.split
      ∙ ap (λ l. l ++ put) (unspoken-append (s ∷ []) (unspoken ss es) own)
      ∙ append_assoc (unspoken (s ∷ []) (unspoken ss es)) (unspoken (s ∷ []) own) put
      ∙ ap (λ l. l ++ (unspoken (s ∷ []) own ++ put)) (sym left);
  spoken =
      sym (unspoken-steps ss (s ∷ []) (unspoken (s ∷ []) own ++ put))
      ∙ unspoken-swap ss (s ∷ []) (unspoken (s ∷ []) own ++ put)
      ∙ ap (unspoken ss) (both own)
      ∙ left_of_none ss (s ∷ []) own h.spoken;
}
  where
    both : (xs : List EntryIndex) → unspoken (s ∷ []) (unspoken (s ∷ []) xs ++ put) ≡ unspoken (s ∷ []) xs
    both xs = unspoken-append (s ∷ []) (unspoken (s ∷ []) xs) put ∙ ap (λ l. unspoken (s ∷ []) (unspoken (s ∷ []) xs) ++ l) none ∙ append-nil (unspoken (s ∷ []) (unspoken (s ∷ []) xs)) ∙ unspoken-twice (s ∷ []) xs

    left : unspoken (ss ++ s ∷ []) (unspoken (s ∷ []) es ++ put) ≡ unspoken (s ∷ []) (unspoken ss es)
    left =
        sym (unspoken-steps ss (s ∷ []) (unspoken (s ∷ []) es ++ put))
        ∙ unspoken-swap ss (s ∷ []) (unspoken (s ∷ []) es ++ put)
        ∙ ap (unspoken ss) (both es)
        ∙ sym (unspoken-swap ss (s ∷ []) es)

-- ---- a step on a table of the append queue

none_put : (e : EntryIndex) (run : List EntryIndex) → IsRun (e ∷ run) → unspoken (Run (e ∷ run) ∷ []) (e ∷ run) ≡ []
none_put e run h = unspoken-run e run (e ∷ run) ∙ below_start e.index e.index (e ∷ run) (first_rising e run h) (omega arith)

pub put_spoken : (s : Step) → IsStep s → unspoken (s ∷ []) (put_by s) ≡ []
put_spoken (Run []) h = unspoken-nil (Run [] ∷ [])
put_spoken (Run (e ∷ run)) h = none_put e run h
put_spoken (Compact i) h = unspoken-nil (Compact i ∷ [])
put_spoken (Truncate i) h = unspoken-nil (Truncate i ∷ [])
put_spoken (Put key value file) h = unspoken-nil (Put key value file ∷ [])
put_spoken (Del key) h = unspoken-nil (Del key ∷ [])
put_spoken (AtomicGroup a b) h = unspoken-nil (AtomicGroup a b ∷ [])
put_spoken Clean h = unspoken-nil (Clean ∷ [])

-- a step that speaks of no index
pub unspoken-other : (s : Step) (es : List EntryIndex) → ((i : ℕ) → is_index_spoken (s ∷ []) i ≡ is_index_spoken [] i) → unspoken (s ∷ []) es ≡ es
unfolding unspoken
unspoken-other s [] h = refl
unspoken-other s (e ∷ es) h = rw (h e.index) (ap (λ l. e ∷ l) (unspoken-other s es h))

-- what a step that isn't refused leaves in the append queue
pub entries_after : (id : ℕ) (t : Table) (v : Option Table) (s : Step) → after_step Append t s ≡ Some v → (table_of id v).entries ≡ unspoken (s ∷ []) t.entries ++ put_by s
entries_after id t v (Run []) is =
    ap (λ (u : Option Table). (table_of id u).entries) (sym (same_some (Some t) v is)) ∙ sym (unspoken-other (Run []) t.entries (λ i. refl)) ∙ sym (append-nil (unspoken (Run [] ∷ []) t.entries))
entries_after id t v (Run (e ∷ run)) is = go (leaves_hole t.entries e.index) is
  where
    go : (b : Bool) → option_map Some
        (option_map {U = Table} (λ es. record t { entries = es }) (cond b None (Some (below e.index t.entries ++ e ∷ run)))) ≡ Some v →
        (table_of id v).entries ≡ unspoken (Run (e ∷ run) ∷ []) t.entries ++ e ∷ run
    go true k = absurd cc
    go false k = ap (λ (u : Option Table). (table_of id u).entries) (sym (same_some _ v k)) ∙ ap (λ l. l ++ e ∷ run) (sym (unspoken-run e run t.entries))
entries_after id t v (Compact i) is = ap (λ (u : Option Table). (table_of id u).entries) (sym (same_some _ v is)) ∙ sym (unspoken-compact i t.entries) ∙ sym (append-nil (unspoken (Compact i ∷ []) t.entries))
entries_after id t v (Truncate i) is = ap (λ (u : Option Table). (table_of id u).entries) (sym (same_some _ v is)) ∙ sym (unspoken-truncate i t.entries) ∙ sym (append-nil (unspoken (Truncate i ∷ []) t.entries))
entries_after id t v (Put key value file) is = ap (λ (u : Option Table). (table_of id u).entries) (sym (same_some _ v is))
    ∙ sym (unspoken-other (Put key value file) t.entries (λ i. refl)) ∙ sym (append-nil (unspoken (Put key value file ∷ []) t.entries))
entries_after id t v (Del key) is = ap (λ (u : Option Table). (table_of id u).entries) (sym (same_some _ v is)) ∙ sym (unspoken-other (Del key) t.entries (λ i. refl)) ∙ sym (append-nil (unspoken (Del key ∷ []) t.entries))
entries_after id t v (AtomicGroup a b) is = ap (λ (u : Option Table). (table_of id u).entries) (sym (same_some _ v is))
    ∙ sym (unspoken-other (AtomicGroup a b) t.entries (λ i. refl)) ∙ sym (append-nil (unspoken (AtomicGroup a b ∷ []) t.entries))
entries_after id t v Clean is = ap (λ (u : Option Table). (table_of id u).entries) (sym (same_some _ v is)) ∙ sym (unspoken-clean t.entries) ∙ sym (append-nil (unspoken (Clean ∷ []) t.entries))

-- ---- the own table takes what the whole one takes

above : (own : List EntryIndex) (f : EntryIndex) (s : ℕ) (a : List EntryIndex) → RisesFrom s (a ++ f ∷ own) → end_of a ≤ end_of (f ∷ own)
unfolding end_of
above own f s [] h = omega arith
above own f s (x ∷ []) h = let p : x.index ≡ s = h.0 in let q : f.index ≡ suc s = h.1.0 in omega (arith, p, q)
above own f s (x ∷ y ∷ a) h =
    let k : end_of (y ∷ a) ≤ end_of (f ∷ own) = above own f (suc s) (y ∷ a) h.1 in
    let p : x.index ≡ s = h.0 in let q : y.index ≡ suc s = h.1.0 in
    omega (arith, k, p, q)

-- own entries that stand behind others end where both do
pub end_behind : (a own : List EntryIndex) (f : EntryIndex) → IsRun (a ++ f ∷ own) → end_of (a ++ f ∷ own) ≡ end_of (f ∷ own)
end_behind [] own f run = refl
end_behind (e ∷ a) own f run = end_of-append (e ∷ a) (f ∷ own) ∙ (let k = above own f e.index (e ∷ a) (refl, run) in omega (arith, k))

pub no_hole : (ss : List Step) (own es : List EntryIndex) (i : ℕ) → IsOver ss own es → IsRun es → leaves_hole es i ≡ false → leaves_hole own i ≡ false
no_hole ss [] es i h run joins = refl
no_hole ss (f ∷ own) es i h run joins =
    hole_end (f ∷ own) i
    ∙ ap (misses (Some i)) (sym (end_behind (unspoken ss es) own f (subst IsRun h.split run)) ∙ ap end_of (sym h.split))
    ∙ sym (hole_end es i)
    ∙ joins

own_taken : (id : ℕ) (ss : List Step) (own x v : Option Table) (s : Step) → IsOver ss (table_of id own).entries (table_of id x).entries → IsRun (table_of id x).entries → after_step Append (table_of id x) s ≡ Some v
    → (w : Option Table) × (after_step Append (table_of id own) s ≡ Some w)
own_taken id ss own x v (Run []) h run is = (Some (table_of id own), refl)
own_taken id ss own x v (Run (e ∷ r)) h run is = go (leaves_hole (table_of id x).entries e.index) refl is
  where
    go : (b : Bool) → leaves_hole (table_of id x).entries e.index ≡ b → option_map Some (option_map {U = Table} (λ es. record (table_of id x) { entries = es }) (cond b None (Some (below e.index (table_of id x).entries ++ e ∷ r)))) ≡ Some v
        → (w : Option Table) × (after_step Append (table_of id own) (Run (e ∷ r)) ≡ Some w)
    go true t k = absurd cc
    go false t k = (
      Some (record (table_of id own) { entries = below e.index (table_of id own).entries ++ e ∷ r }),
      ap (λ b. option_map Some (option_map {U = Table} (λ es. record (table_of id own) { entries = es })
          (cond b None (Some (below e.index (table_of id own).entries ++ e ∷ r)))))
          (no_hole ss (table_of id own).entries (table_of id x).entries e.index h run t),
    )
own_taken id ss own x v (Compact i) h run is = (Some (record (table_of id own) { entries = from i (table_of id own).entries }), refl)
own_taken id ss own x v (Truncate i) h run is = (Some (record (table_of id own) { entries = below i (table_of id own).entries }), refl)
own_taken id ss own x v (Put key value file) h run is = (_, refl)
own_taken id ss own x v (Del key) h run is = (_, refl)
own_taken id ss own x v (AtomicGroup a b) h run is = (_, refl)
own_taken id ss own x v Clean h run is = (None, refl)

pub step_over : (id : ℕ) (ss : List Step) (own x v : Option Table) (s : Step) → IsStep s → IsOver ss (table_of id own).entries (table_of id x).entries → IsRun (table_of id x).entries → after_step Append (table_of id x) s ≡ Some v
    → (w : Option Table) × (after_step Append (table_of id own) s ≡ Some w) × IsOver (ss ++ s ∷ []) (table_of id w).entries (table_of id v).entries
step_over id ss own x v s good h run is =
    let t : (w : Option Table) × (after_step Append (table_of id own) s ≡ Some w) = own_taken id ss own x v s h run is in (
      t.0,
      t.1,
      subst (λ l. IsOver (ss ++ s ∷ []) l (table_of id v).entries) (sym (entries_after id (table_of id own) t.0 s t.1))
          (subst (λ l. IsOver (ss ++ s ∷ []) (unspoken (s ∷ []) (table_of id own).entries ++ put_by s) l) (sym (entries_after id (table_of id x) v s is))
          (over_one ss s (table_of id own).entries (table_of id x).entries (put_by s) h (put_spoken s good))),
    )

-- what more steps take, their own table takes, and it stays behind what they leave
pub steps_over : (id : ℕ) (ss : List Step) (own x v : Option Table) (tt : List Step) → AreSteps tt → IsOver ss (table_of id own).entries (table_of id x).entries → IsTableOf id (table_of id x) → after Append id x tt ≡ Some v
    → (w : Option Table) × (after Append id own tt ≡ Some w) × IsOver (ss ++ tt) (table_of id w).entries (table_of id v).entries
steps_over id ss own x v [] good h at is = (
  own,
  refl,
  subst (λ l. IsOver l (table_of id own).entries (table_of id v).entries) (sym (append-nil ss))
      (subst (λ (u : Option Table). IsOver ss (table_of id own).entries (table_of id u).entries) (same_some x v is) h),
)
steps_over id ss own x v (s ∷ tt) good h at is = go (λ ss own u at h k. steps_over id ss own u v tt good.1 h at k) (after_step Append (table_of id x) s) refl is
  where
    go : ((ss : List Step) (own u : Option Table) → IsTableOf id (table_of id u) → IsOver ss (table_of id own).entries (table_of id u).entries → after Append id u tt ≡ Some v
        → (w : Option Table) × (after Append id own tt ≡ Some w) × IsOver (ss ++ tt) (table_of id w).entries (table_of id v).entries)
        → (y : Option (Option Table)) → after_step Append (table_of id x) s ≡ y → option_and_then (λ u. after Append id u tt) y ≡ Some v
        → (w : Option Table) × (after Append id own (s ∷ tt) ≡ Some w) × IsOver (ss ++ s ∷ tt) (table_of id w).entries (table_of id v).entries
    go rest None e k = absurd cc
    go rest (Some u) e k =
        let one : (w : Option Table) × (after_step Append (table_of id own) s ≡ Some w) × IsOver (ss ++ s ∷ []) (table_of id w).entries (table_of id u).entries = step_over id ss own x u s good.0 h at.run e in
        let more : (w : Option Table) × (after Append id one.0 tt ≡ Some w) × IsOver ((ss ++ s ∷ []) ++ tt) (table_of id w).entries (table_of id v).entries =
        rest (ss ++ s ∷ []) one.0 u (table_after_step Append id (table_of id x) u s good.0 at e) one.2 k in
        (more.0, ap (option_and_then (λ w. after Append id w tt)) one.1 ∙ more.1, subst (λ l. IsOver l (table_of id more.0).entries (table_of id v).entries) (append_assoc ss (s ∷ []) tt) more.2)

-- ---- the front of the steps goes

-- own entries of all steps are what the later ones leave, and the own ones of these behind
pub over_later : (ss tt : List Step) (own later es : List EntryIndex) → IsOver (ss ++ tt) own es → IsOver tt later own → IsOver tt later es
over_later ss tt own later es h k = record {
  split =
      h.split
      ∙ ap (λ l. unspoken (ss ++ tt) es ++ l) k.split
      ∙ sym (append_assoc (unspoken (ss ++ tt) es) (unspoken tt own) later)
      ∙ ap (λ l. l ++ later) (sym left);
  spoken = k.spoken;
}
  where
    left : unspoken tt es ≡ unspoken (ss ++ tt) es ++ unspoken tt own
    left =
        ap (unspoken tt) h.split
        ∙ unspoken-append tt (unspoken (ss ++ tt) es) own
        ∙ ap (λ l. l ++ unspoken tt own) (ap (unspoken tt) (sym (unspoken-steps ss tt es)) ∙ unspoken-twice tt (unspoken ss es) ∙ unspoken-steps ss tt es)
