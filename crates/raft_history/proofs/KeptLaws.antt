-- An exact context holds at most its history may hold.
use Rattle.raft_history.proofs.Common.{cases_Bool, inl, inr, list_any-append, some_is, ◌≡◌, ℕ, ◌≤◌, true, eqb, ◌||◌, List, [], ◌∷◌, length, Some, refl, sym, ap, subst, ◌∙◌, arith, is_some, map, list_any, eqb-true, unwrap_or, nat_cmp}
use Rattle.raft_history.proofs.Common.{nat_cmp_total, nat_cmp-IsAntisymmetric, find, LogQueue, KeySet, Mark, fresh, HoldsDeleted, deleted_of, Table, deleted_count, BatchSteps, Event, batches, Context, Suits, AreExact, IsExactFor, Effect}
use Rattle.raft_history.proofs.Common.{effects, region_steps_in, is_named, steps_of, IsOneReading, named_by, deleted_in, kept_of, kept_by, IsAtMost, MarkedRegions, total, RegionStep, names, Tables, waiting_steps}
use Rattle.std.specs.FinMap as finite
use Rattle.std.specs.FinSet as finset
use Rattle.raft_history.proofs.ContextLaws.{exact_reading}
use Rattle.raft_history.proofs.KnownLemmas.{tied}
use Rattle.raft_history.proofs.TotalLemmas.{total-ones, total-at_most}

-- the map of named regions
find-named : {X : Type 0} (F : ℕ → X) (r : ℕ) (l : List ℕ) → list_any (λ x. eqb r x) l ≡ true → find nat_cmp r (map (λ r. (r, F r)) l) ≡ Some (F r)
find-named F r [] h = cc
find-named F r (x ∷ l) h = elim (cases_Bool (eqb r x)) [
  | inl e ↦ rw (tied r x, e) (ap (λ x. Some (F x)) (sym (eqb-true r x e)))
  | inr e ↦ rw (tied r x, e) (find-named F r l (rw e at h))
]

any-items : (r : ℕ) (is : List RegionStep) → list_any (λ x. eqb r x) (map (λ (i : RegionStep). i.region) is) ≡ names r is
unfolding names
any-items r [] = refl
any-items r (i ∷ is) = ap (λ b. eqb r i.region || b) (any-items r is)

any-named : (r : ℕ) (es : List Effect) → list_any (λ x. eqb r x) (named_by es) ≡ list_any (λ e. names r (region_steps_in e)) es
any-named r [] = refl
any-named r (e ∷ es) = list_any-append (λ x. eqb r x) (map (λ (i : RegionStep). i.region) (region_steps_in e)) (named_by es)
    ∙ ap (λ b. b || list_any (λ x. eqb r x) (named_by es)) (any-items r (region_steps_in e))
    ∙ ap (λ b. names r (region_steps_in e) || b) (any-named r es)

get-deleted_in : (r : ℕ) (bs : List BatchSteps) → is_named r bs ≡ true → finite.get (deleted_in bs) r ≡ Some (deleted_of finset.empty (steps_of r bs))
unfolding deleted_in
get-deleted_in r bs e = finite.get-from_entries nat_cmp_total (map (λ r. (r, deleted_of finset.empty (steps_of r bs))) (named_by (effects bs))) r
    ∙ find-named (λ r. deleted_of finset.empty (steps_of r bs)) r (named_by (effects bs)) (any-named r (effects bs) ∙ e)

same_tables : (q : LogQueue) (rs : MarkedRegions) (h : List Event) (m : Tables) (l : List ℕ) → AreExact q rs (batches h) → IsOneReading q h m l → rs.tables ≡ m
same_tables q rs h m l ex is = finite.same_map nat_cmp_total nat_cmp-IsAntisymmetric rs.tables m (λ r. some_is (sym (exact_reading q rs (batches h) ex r) ∙ is.tables_read r))

marked_is : (q : LogQueue) (rs : MarkedRegions) (bs : List BatchSteps) → AreExact q rs bs → (r : ℕ) (m : Mark) → finite.get rs.marks r ≡ Some m → (is_named r bs ≡ true) × HoldsDeleted m (steps_of r bs)
marked_is q rs bs ex r m e = (sym (ex.marked r) ∙ ap is_some e, subst (λ o. HoldsDeleted (unwrap_or o fresh) (steps_of r bs)) e (ex.each r).deleted)

pub kept_at_most : (q : LogQueue) (c : Context) (h : List Event) (m : Tables) (l : List ℕ) → IsExactFor c h → Suits q c.files → IsOneReading q h m l → IsAtMost (kept_of c) (kept_by q h m)
kept_at_most q c h m l ex u is = record {
  entries = omega (arith, ap (total (λ (t : Table). length t.entries)) same);
  keys = omega (arith, ap (total (λ (t : Table). finite.len t.keys)) same);
  marks = omega (arith, ap finite.len ex.stands.groups, number);
  deleted_keys = deleted;
  cleaned = omega (arith, ap length (ex.stands.stands q u).cleaned);
  waiting_items = omega (arith, ap waiting_steps ex.stands.groups);
}
  where
    at : AreExact q c.regions (batches h)
    at = ex.regions q u

    same : c.regions.tables ≡ m
    same = same_tables q c.regions h m l at is

    number : finite.len c.regions.marks ≤ finite.len (deleted_in (batches h))
    number = omega (
      arith,
      sym (total-ones c.regions.marks),
      sym (total-ones (deleted_in (batches h))),
      total-at_most (λ (x : Mark). 1) (λ (x : KeySet). 1) c.regions.marks (deleted_in (batches h))
          (λ r x e. (deleted_of finset.empty (steps_of r (batches h)), get-deleted_in r (batches h) (marked_is q c.regions (batches h) at r x e).0, omega arith)),
    )

    deleted : total (λ (x : Mark). finset.len x.deleted) c.regions.marks ≤ total finset.len (deleted_in (batches h))
    deleted = total-at_most (λ (x : Mark). finset.len x.deleted) finset.len c.regions.marks (deleted_in (batches h))
        (λ r x e. (deleted_of finset.empty (steps_of r (batches h)), get-deleted_in r (batches h) (marked_is q c.regions (batches h) at r x e).0, deleted_count x (steps_of r (batches h)) (marked_is q c.regions (batches h) at r x e).1))
