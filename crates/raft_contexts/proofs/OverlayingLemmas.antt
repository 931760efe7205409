-- The regions of the append queue put over rewritten ones part by part: those of some region marks, and then those of the rest.
use Rattle.raft_contexts.proofs.Common.{◌≡◌, ◌≤◌, ◌+◌, ℕ, Option, Some, None, refl, sym, ap, subst, ◌∙◌, inl, inr, arith, unwrap_or, Result, OnOk, IfErr, on_ok_weaker, IfErr-weaker, Error, LogQueue, Counts, Mark, Stands, fresh}
use Rattle.raft_contexts.proofs.Common.{IsOverlayFault, table_of, Table, live_of, overlay_run, StandForSteps, overlaid_region, AreOverlaid, Marks, MarkedRegions, Tables, with_table, table_in, live_in, live_in_all, all_records, AreCountsOf}
use Rattle.raft_contexts.proofs.Common.{IsRunOverlaid, AreRunsOverlaid, AreTooMany, AreOthersKept, AreTablesLeft, implied_marks, all_marks, live-remove, live-with, live-table_of, by_id, with_other, none_some, Append, Rewrite}
use Rattle.std.specs.FinMap as finite
use Rattle.raft_base.specs.declared.errors.Error.TheVariants as errors
use Rattle.raft_contexts.proofs.JoiningLemmas.{kept_parts}
use Rattle.raft_contexts.proofs.LiveSteps.{live-le-all}
use Rattle.raft_contexts.proofs.PartLemmas.{AreParts, AreTaken, implied_left, implied_parts, one, one_left, one_other, one_own, own_there, parts_among, taken_none, taken_step}

-- where both sides stand for steps, what the region marks of the append queue make of both entries is a run
pub stand_overlaid : (rewritten appended : MarkedRegions) → StandForSteps Rewrite rewritten → StandForSteps Append appended → AreRunsOverlaid appended.marks appended.tables rewritten.tables
stand_overlaid rewritten appended h k r m is =
    overlay_run r m (finite.get appended.tables r) (k r).0 (table_in rewritten.tables r) (k r).1
    (subst (λ (m : Mark). Stands Append r m (finite.get appended.tables r) (k r).0) (ap (λ (o : Option Mark). unwrap_or o fresh) is) (k r).2.stands) (h r).2.stands.own_table

-- ---- the first part is overlaid

module _ (now left : Tables) (a all b : Marks) (parts : AreParts a b all) (next after : Tables) (kept : AreOthersKept a left after) (o : AreOverlaid record { tables = left; marks = a } now next) where
  abbrev found : ℕ → Option Mark → Option Table
  found r o = overlaid_region r o (finite.get left r) (finite.get now r)

  elsewhere : (r : ℕ) → finite.get a r ≡ None → finite.get next r ≡ finite.get now r
  elsewhere r none = o r ∙ ap (found r) none

  runs_next : AreRunsOverlaid all left now → AreRunsOverlaid b after next
  runs_next h r x is = elim (parts r) [
    | inl p ↦ subst (λ (o : Option Table). IsRunOverlaid x (table_of r o) (table_in next r)) (sym (kept r p.0)) (subst (λ (o : Option Table). IsRunOverlaid x (table_in left r) (table_of r o)) (sym (elsewhere r p.0)) (h r x (p.1 ∙ is)))
    | inr p ↦ absurd (none_some (sym p.0 ∙ is))
  ]

  overlaid_next : (z : Tables) → AreOverlaid record { tables = after; marks = b } next z → AreOverlaid record { tables = left; marks = all } now z
  overlaid_next z h r = h r ∙ elim (parts r) [
    | inl p ↦ ap (λ t. overlaid_region r (finite.get b r) t (finite.get next r)) (kept r p.0) ∙ ap (overlaid_region r (finite.get b r) (finite.get left r)) (elsewhere r p.0) ∙ ap (found r) (sym p.1)
    | inr p ↦ ap (λ (x : Option Mark). overlaid_region r x (finite.get after r) (finite.get next r)) p.0 ∙ o r ∙ ap (found r) (sym p.1)
  ]

-- ---- the rest is overlaid later

-- the regions of all region marks but the rest are overlaid, and their tables taken out of the appended ones
pub record AreOverlaying (appended first : Tables) (marks : Marks) (now left : Tables) (rest : Marks) : Type 0 where
  pub own_left : live_in_all Rewrite left ≡ 0
  pub few : (q : LogQueue) → live_in_all q now + live_in_all q left ≤ live_in_all q first + live_in_all q appended
  pub taken : AreTaken appended left marks rest
  pub runs : AreRunsOverlaid marks appended first → AreRunsOverlaid rest left now
  pub overlaid : AreRunsOverlaid marks appended first → (z : Tables) → AreOverlaid record { tables = left; marks = rest } now z → AreOverlaid record { tables = appended; marks = marks } first z

pub overlaying_none : (appended first : Tables) (marks rest : Marks) → rest ≡ marks → live_in_all Rewrite appended ≡ 0 → AreOverlaying appended first marks first appended rest
overlaying_none appended first marks rest is own = subst (AreOverlaying appended first marks first appended) (sym is) record { own_left = own; few = λ q. omega arith; taken = taken_none appended marks; runs = λ r. r; overlaid = λ r z h. h }

pub implied_overlaying_none : (appended left first : Tables) → left ≡ appended → live_in_all Rewrite appended ≡ 0 → AreOverlaying appended first (implied_marks appended) first left (implied_marks left)
implied_overlaying_none appended left first is own = subst (λ (t : Tables). AreOverlaying appended first (implied_marks appended) first t (implied_marks t)) (sym is)
    (overlaying_none appended first (implied_marks appended) (implied_marks appended) refl own)

-- a fault of what is left is one of all
pub still_too_many : (a b : ℕ) (e : Error) → a ≤ b → AreTooMany a e → AreTooMany b e
still_too_many a b errors.Full le f = omega (arith, le, f)
still_too_many a b errors.Memory le f = tt
still_too_many a b _ le f = absurd f

module _ (appended first : Tables) (marks : Marks) (now left : Tables) (rest : Marks) (at : AreOverlaying appended first marks now left rest) where
  pub overlaying_step : (a b : Marks) → AreParts a b rest → (next after : Tables) → (AreRunsOverlaid a left now → AreOverlaid record { tables = left; marks = a } now next) → AreTablesLeft a left after → live_in_all Rewrite after ≡ 0
      → ((q : LogQueue) → live_in_all q next + live_in_all q after ≤ live_in_all q now + live_in_all q left) → AreOverlaying appended first marks next after b
  overlaying_step a b parts next after ok l own few =
      let o : AreRunsOverlaid marks appended first → AreOverlaid record { tables = left; marks = a } now next = λ r. ok (λ q x is. at.runs r q x (parts_among a b rest parts q x is)) in
      record {
        own_left = own;
        few = λ q. omega (arith, few q, at.few q);
        taken = taken_step appended left after marks a b rest parts at.taken l;
        runs = λ r. runs_next now left a rest b parts next after l.others (o r) (at.runs r);
        overlaid = λ r z h. at.overlaid r z (overlaid_next now left a rest b parts next after l.others (o r) z h);
      }

  pub all_overlaid : ((r : ℕ) → finite.get rest r ≡ None) → AreRunsOverlaid marks appended first → AreOverlaid record { tables = appended; marks = marks } first now
  all_overlaid none runs = at.overlaid runs now (λ r. sym (ap (λ (x : Option Mark). overlaid_region r x (finite.get left r) (finite.get now r)) (none r)))

  -- ---- one region, with its table or without one

  module _ (id : ℕ) (m : Mark) (b : Marks) (parts : AreParts (one id m) b rest) (t : Option Table) (taken : t ≡ finite.get left id) where
    live_taken : (q : LogQueue) → live_in_all q (finite.remove left id) + live_in q t ≡ live_in_all q left
    live_taken q = omega (arith, live-remove q left id, ap (live_in q) taken)

    pub own_taken : live_in Rewrite t ≡ 0
    own_taken = omega (arith, at.own_left, live_taken Rewrite)

    pub over_step : (next after : Tables) → (IsRunOverlaid m (table_of id t) (table_in now id) → finite.get next id ≡ overlaid_region id (Some m) t (finite.get now id)) → next ≡ with_table now id (finite.get next id) →
        ((q : LogQueue) → live_of q (table_in next id) ≤ live_of q (table_in now id) + live_in q t) → after ≡ finite.remove left id → AreOverlaying appended first marks next after b
    over_step next after ok single few gone = subst (λ x. AreOverlaying appended first marks next x b) (sym gone)
        (overlaying_step (one id m) b parts next (finite.remove left id)
        (λ runs r. elim (by_id r id) [
          | inl p ↦ rw p (ok (subst (λ (o : Option Table). IsRunOverlaid m (table_of id o) (table_in now id)) (sym taken) (runs id m (one_own id m))) ∙ ap (λ o. overlaid_region id (Some m) o (finite.get now id)) taken
              ∙ ap (λ o. overlaid_region id o (finite.get left id) (finite.get now id)) (sym (one_own id m)))
          | inr f ↦ ap (λ n. finite.get n r) single ∙ with_other now id r (finite.get next id) f ∙ ap (λ (o : Option Mark). overlaid_region r o (finite.get left r) (finite.get now r)) (sym (one_other id m r f))
        ])
        (one_left left id m) (omega (arith, at.own_left, live_taken Rewrite))
        (λ q. omega (arith, few q, live_taken q, ap (live_in_all q) single, live-with q now id (finite.get next id), live-table_of q id (finite.get next id), live-table_of q id (finite.get now id))))

    pub over_fault : (counts : Counts) (e : Error) → AreCountsOf now counts → IsOverlayFault counts (table_of id t) e → (q : LogQueue) × AreTooMany (live_in_all q first + live_in_all q appended) e
    over_fault counts errors.Full counted f = (f.0, omega (arith, f.1, counted f.0, at.few f.0, live_taken f.0, live-table_of f.0 id t))
    over_fault counts errors.Memory counted f = (Append, tt)
    over_fault counts _ counted f = absurd f

-- ---- the tables of one slot, under the region marks that they imply

module _ (appended first now t b all : Tables) (parts : AreParts t b all) (live : (q : LogQueue) → live_in_all q all ≡ live_in_all q t + live_in_all q b)
    (at : AreOverlaying appended first (implied_marks appended) now all (implied_marks all)) where
  pub slot_own : live_in_all Rewrite t ≡ 0
  slot_own = omega (arith, at.own_left, live Rewrite)

  pub slot_over : (next : Tables) → (AreRunsOverlaid (implied_marks t) t now → AreOverlaid record { tables = t; marks = implied_marks t } now next) →
      ((q : LogQueue) → live_in_all q next ≤ live_in_all q now + live_in_all q t) → AreOverlaying appended first (implied_marks appended) next b (implied_marks b)
  slot_over next ok few = overlaying_step appended first (implied_marks appended) now all (implied_marks all) at (implied_marks t) (implied_marks b) (implied_parts t b all parts) next b
      (λ runs r. ok (λ r m e. subst (λ (o : Option Table). IsRunOverlaid m (table_of r o) (table_in now r)) (own_there t b all parts r m e) (runs r m e)) r ∙ go r (finite.get (implied_marks t) r) refl)
      (implied_left t b all parts) (omega (arith, at.own_left, live Rewrite)) (λ q. omega (arith, few q, live q))
    where
      go : (r : ℕ) (o : Option Mark) → finite.get (implied_marks t) r ≡ o → overlaid_region r o (finite.get t r) (finite.get now r) ≡ overlaid_region r o (finite.get all r) (finite.get now r)
      go r None e = refl
      go r (Some m) e = ap (λ u. overlaid_region r (Some m) u (finite.get now r)) (sym (own_there t b all parts r m e))

-- ---- all regions: those whose region mark is kept, and then those whose table implies it

pub too_many_in : (q : LogQueue) (a b c d : Tables) (e : Error) → live_in_all q a + live_in_all q b ≤ live_in_all q c + live_in_all q d → AreTooMany (live_in_all q a + live_in_all q b) e → AreTooMany (all_records c + all_records d) e
too_many_in q a b c d e few = still_too_many _ _ e (omega (arith, few, live-le-all q c, live-le-all q d))

module _ (newer first : Tables) (kept : Marks) (m left next rest : Tables) (same_now : next ≡ m) (same_left : rest ≡ left)
    (few : (q : LogQueue) → live_in_all q m + live_in_all q left ≤ live_in_all q first + live_in_all q newer) {R : Type 0} (r : Result R Error) where
  pub both_over : (own : live_in_all Rewrite newer ≡ 0) (own_left : live_in_all Rewrite left ≡ 0) (l : AreTablesLeft kept newer left) (ok : AreRunsOverlaid kept newer first → AreOverlaid record { tables = newer; marks = kept } first m) →
      (z : Tables) → (AreRunsOverlaid (implied_marks rest) rest next → OnOk r (AreOverlaid record { tables = rest; marks = implied_marks rest } next z)) → AreRunsOverlaid (all_marks newer kept) newer first →
      OnOk r (AreOverlaid record { tables = newer; marks = all_marks newer kept } first z)
  both_over own own_left l ok z h runs = on_ok_weaker r (at.overlaid runs z) (h (at.runs runs))
    where
      at : AreOverlaying newer first (all_marks newer kept) next rest (implied_marks rest)
      at = subst (λ t. AreOverlaying newer first (all_marks newer kept) t rest (implied_marks rest)) (sym same_now) (subst (λ t. AreOverlaying newer first (all_marks newer kept) m t (implied_marks t)) (sym same_left)
          (overlaying_step newer first (all_marks newer kept) first newer (all_marks newer kept) (overlaying_none newer first (all_marks newer kept) (all_marks newer kept) refl own) kept (implied_marks left)
          (kept_parts newer left kept l) m left ok l own_left few))

  pub both_too_many : IfErr r (λ e. (q : LogQueue) × AreTooMany (live_in_all q next + live_in_all q rest) e) → IfErr r (AreTooMany (all_records first + all_records newer))
  both_too_many = IfErr-weaker r _ _ (λ e f. too_many_in f.0 next rest first newer e (omega (arith, few f.0, ap (live_in_all f.0) same_left, ap (live_in_all f.0) same_now)) f.1)
