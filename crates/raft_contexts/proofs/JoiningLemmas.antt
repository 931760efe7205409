-- The regions of a newer neighbor joined part by part: those of some region marks, and then those of the rest.
use Rattle.raft_contexts.proofs.Common.{◌≡◌, ◌≤◌, ◌+◌, ℕ, Bool, true, false, ◌||◌, ◌⊎◌, Option, Some, None, refl, sym, ap, subst, ◌∙◌, inl, inr, arith, is_some, option_map, Result, OnOk, IfErr, on_ok_weaker, IfErr-weaker, Error, LogQueue}
use Rattle.raft_contexts.proofs.Common.{Counts, or-false, IsFaultUnder, IsRunOver, Mark, joined_mark, other, table_of, Table, table_over_older, AreJoined, IsJoinRefused, Marks, MarkedRegion, MarkedRegions, region_in, with_region}
use Rattle.raft_contexts.proofs.Common.{joined_region, joined_marked, Tables, table_in, live_in, live_in_all, AreCountsOf, AreRunsOver, AreOthersKept, IsSlotFault, AreTablesLeft, implied_mark, implied_marks, all_marks, IsJoinFault}
use Rattle.raft_contexts.proofs.Common.{live-remove, live-table_of, by_id, get_own, get_other, none_some, some_is, held_other}
use Rattle.std.specs.FinMap as finite
use Rattle.raft_base.specs.declared.errors.Error.TheVariants as errors
use Rattle.raft_contexts.proofs.PartLemmas.{AreAmong, AreParts, AreTaken, implied_left, implied_parts, one, one_left, one_other, one_own, own_there, parts_among, taken_none, taken_step}
use Rattle.raft_contexts.proofs.ImpliedMarkLemmas.{get_implied, get_kept, get_unkept}
use Rattle.raft_contexts.proofs.LiveSteps.{live-le-all}

-- ---- the first part is joined

module _ (queue : LogQueue) (now : MarkedRegions) (left : Tables) (a all : Marks) where
  abbrev found : ℕ → Option Mark → Option MarkedRegion
  found r o = joined_marked queue r o (finite.get left r) (region_in now r)

  refused_first : AreAmong a all → IsJoinRefused queue now record { tables = left; marks = a } → IsJoinRefused queue now record { tables = left; marks = all }
  refused_first among h = (h.0, go (finite.get a h.0) refl)
    where
      go : (o : Option Mark) → finite.get a h.0 ≡ o → found h.0 (finite.get all h.0) ≡ None
      go None e = absurd (none_some (sym h.1 ∙ ap (found h.0) e))
      go (Some m) e = ap (found h.0) (among h.0 m e ∙ sym e) ∙ h.1

  module _ (b : Marks) (parts : AreParts a b all) (next : MarkedRegions) (after : Tables) (kept : AreOthersKept a left after) (j : AreJoined queue now record { tables = left; marks = a } next) where
    elsewhere : (r : ℕ) → finite.get a r ≡ None → region_in next r ≡ region_in now r
    elsewhere r none = sym (some_is (sym (ap (found r) none) ∙ j.regions r))

    runs_next : AreRunsOver queue all left now.tables → AreRunsOver queue b after next.tables
    runs_next h r x is = elim (parts r) [
      | inl p ↦ subst (λ (o : Option Table). IsRunOver queue x (table_of r o) (table_in next.tables r)) (sym (kept r p.0))
          (subst (λ (o : Option Table). IsRunOver queue x (table_in left r) (table_of r o))
          (ap (λ (y : MarkedRegion). y.table) (sym (elsewhere r p.0))) (h r x (p.1 ∙ is)))
      | inr p ↦ absurd (none_some (sym p.0 ∙ is))
    ]

    found_next : (r : ℕ) → finite.get a r ≡ None → finite.get all r ≡ finite.get b r → found r (finite.get all r) ≡ joined_marked queue r (finite.get b r) (finite.get after r) (region_in next r)
    found_next r none is = ap (found r) is ∙ ap (λ t. joined_marked queue r (finite.get b r) t (region_in now r)) (sym (kept r none)) ∙ ap (joined_marked queue r (finite.get b r) (finite.get after r)) (sym (elsewhere r none))

    joined_next : (z : MarkedRegions) → AreJoined queue next record { tables = after; marks = b } z → AreJoined queue now record { tables = left; marks = all } z
    joined_next z h = record {
      regions = λ r. elim (parts r) [
        | inl p ↦ found_next r p.0 p.1 ∙ h.regions r
        | inr p ↦ ap (found r) p.1 ∙ j.regions r ∙ sym (ap (λ (o : Option Mark). joined_marked queue r o (finite.get after r) (region_in next r)) p.0) ∙ h.regions r
      ];
      marked = λ r. h.marked r ∙ ap (λ b'. b' || is_some (finite.get b r)) (j.marked r) ∙ elim (parts r) [
        | inl p ↦ ap (λ (o : Option Mark). (is_some (finite.get now.marks r) || is_some o) || is_some (finite.get b r)) p.0
            ∙ ap (λ b'. b' || is_some (finite.get b r)) (or-false _)
            ∙ ap (λ (o : Option Mark). is_some (finite.get now.marks r) || is_some o) (sym p.1)
        | inr p ↦ ap (λ (o : Option Mark). (is_some (finite.get now.marks r) || is_some (finite.get a r)) || is_some o) p.0 ∙ or-false _ ∙ ap (λ (o : Option Mark). is_some (finite.get now.marks r) || is_some o) (sym p.1)
      ];
    }

    refused_next : IsJoinRefused queue next record { tables = after; marks = b } → IsJoinRefused queue now record { tables = left; marks = all }
    refused_next h = elim (parts h.0) [
      | inl p ↦ (h.0, found_next h.0 p.0 p.1 ∙ h.1)
      | inr p ↦ absurd (none_some (sym h.1 ∙ ap (λ (o : Option Mark). joined_marked queue h.0 o (finite.get after h.0) (region_in next h.0)) p.0))
    ]

-- ---- the rest is joined later

-- the regions of all region marks but the rest are joined, and their tables taken out of the newer ones
pub record AreJoining (queue : LogQueue) (newer : Tables) (first : MarkedRegions) (marks : Marks) (now : MarkedRegions) (left : Tables) (rest : Marks) : Type 0 where
  pub alone : live_in_all (other queue) now.tables ≡ 0
  pub alone_left : live_in_all (other queue) left ≡ 0
  pub few : (q : LogQueue) → live_in_all q now.tables + live_in_all q left ≤ live_in_all q first.tables + live_in_all q newer
  pub taken : AreTaken newer left marks rest
  pub runs : AreRunsOver queue marks newer first.tables → AreRunsOver queue rest left now.tables
  pub joined : AreRunsOver queue marks newer first.tables → (z : MarkedRegions) → AreJoined queue now record { tables = left; marks = rest } z → AreJoined queue first record { tables = newer; marks = marks } z
  pub refused : AreRunsOver queue marks newer first.tables → IsJoinRefused queue now record { tables = left; marks = rest } → IsJoinRefused queue first record { tables = newer; marks = marks }

pub joining_none : (queue : LogQueue) (newer : Tables) (first : MarkedRegions) (marks rest : Marks) → rest ≡ marks → live_in_all (other queue) first.tables ≡ 0 → live_in_all (other queue) newer ≡ 0 →
    AreJoining queue newer first marks first newer rest
joining_none queue newer first marks rest is older own = subst (AreJoining queue newer first marks first newer) (sym is) record
    { alone = older; alone_left = own; few = λ q. omega arith; taken = taken_none newer marks; runs = λ r. r; joined = λ r z h. h; refused = λ r h. h }

pub implied_joining_none : (queue : LogQueue) (newer left : Tables) (first : MarkedRegions) → left ≡ newer → live_in_all (other queue) first.tables ≡ 0 → live_in_all (other queue) newer ≡ 0 →
    AreJoining queue newer first (implied_marks newer) first left (implied_marks left)
implied_joining_none queue newer left first is older own = subst (λ (t : Tables). AreJoining queue newer first (implied_marks newer) first t (implied_marks t)) (sym is)
    (joining_none queue newer first (implied_marks newer) (implied_marks newer) refl older own)

module _ (queue : LogQueue) (newer : Tables) (first : MarkedRegions) (marks : Marks) (now : MarkedRegions) (left : Tables) (rest : Marks) (at : AreJoining queue newer first marks now left rest) where
  pub joining_step : (a b : Marks) → AreParts a b rest → (next : MarkedRegions) (after : Tables) → (AreRunsOver queue a left now.tables → AreJoined queue now record { tables = left; marks = a } next) → AreTablesLeft a left after
      → ((q : LogQueue) → live_in_all q next.tables + live_in_all q after ≤ live_in_all q now.tables + live_in_all q left) → AreJoining queue newer first marks next after b
  joining_step a b parts next after ok l few =
      let j : AreRunsOver queue marks newer first.tables → AreJoined queue now record { tables = left; marks = a } next = λ r. ok (λ q x is. at.runs r q x (parts_among a b rest parts q x is)) in
      record {
        alone = omega (arith, few (other queue), at.alone, at.alone_left);
        alone_left = omega (arith, few (other queue), at.alone, at.alone_left);
        few = λ q. omega (arith, few q, at.few q);
        taken = taken_step newer left after marks a b rest parts at.taken l;
        runs = λ r. runs_next queue now left a rest b parts next after l.others (j r) (at.runs r);
        joined = λ r z h. at.joined r z (joined_next queue now left a rest b parts next after l.others (j r) z h);
        refused = λ r h. at.refused r (refused_next queue now left a rest b parts next after l.others (j r) h);
      }

  pub joining_fault : (a : Marks) → AreAmong a rest → (e : Error) → (AreRunsOver queue a left now.tables → IsSlotFault queue now record { tables = left; marks = a } e) →
      AreRunsOver queue marks newer first.tables → IsSlotFault queue first record { tables = newer; marks = marks } e
  joining_fault a among e fault runs = go e (fault (λ q x is. at.runs runs q x (among q x is)))
    where
      go : (e : Error) → IsSlotFault queue now record { tables = left; marks = a } e → IsSlotFault queue first record { tables = newer; marks = marks } e
      go (errors.Corruption text) f = at.refused runs (refused_first queue now left a rest among f)
      go errors.Full f = (f.0, omega (arith, f.1, at.few f.0))
      go errors.Memory f = tt
      go _ f = absurd f

  pub all_joined : ((r : ℕ) → finite.get rest r ≡ None) → AreRunsOver queue marks newer first.tables → AreJoined queue first record { tables = newer; marks = marks } now
  all_joined none runs = at.joined runs now record {
    regions = λ r. ap (λ (o : Option Mark). joined_marked queue r o (finite.get left r) (region_in now r)) (none r);
    marked = λ r. sym (ap (λ (o : Option Mark). is_some (finite.get now.marks r) || is_some o) (none r) ∙ or-false _);
  }

  -- ---- one region, with its table or without one

  module _ (id : ℕ) (m : Mark) (b : Marks) (parts : AreParts (one id m) b rest) (t : Option Table) (taken : t ≡ finite.get left id) where
    run_here : AreRunsOver queue (one id m) left now.tables → IsRunOver queue m (table_of id t) (table_in now.tables id)
    run_here h = subst (λ (o : Option Table). IsRunOver queue m (table_of id o) (table_in now.tables id)) (sym taken) (h id m (one_own id m))

    is_joined : (next : MarkedRegions) → joined_region queue id (region_in now id) record { mark = m; table = t } ≡ Some (region_in next id) → next ≡ with_region now id (region_in next id) →
        AreJoined queue now record { tables = left; marks = one id m } next
    is_joined next is e = record {
      regions = λ r. elim (by_id r id) [
        | inl p ↦ rw p (ap (λ o. joined_marked queue id o (finite.get left id) (region_in now id)) (one_own id m) ∙ ap (λ o. joined_region queue id (region_in now id) record { mark = m; table = o }) (sym taken) ∙ is)
        | inr f ↦ ap (λ o. joined_marked queue r o (finite.get left r) (region_in now r)) (one_other id m r f) ∙ ap (λ x. Some x) (sym (ap (λ (n : MarkedRegions). region_in n r) e ∙ held_other now id r (region_in next id) f))
      ];
      marked = λ r. ap (λ (n : MarkedRegions). is_some (finite.get n.marks r)) e ∙ elim (by_id r id) [
        | inl p ↦ rw p (ap (λ (o : Option Mark). is_some o) (get_own now.marks id (region_in next id).mark) ∙ either (is_some (finite.get now.marks id))
            ∙ ap (λ (o : Option Mark). is_some (finite.get now.marks id) || is_some o) (sym (one_own id m)))
        | inr f ↦ ap (λ (o : Option Mark). is_some o) (get_other now.marks id r (region_in next id).mark f) ∙ sym (or-false _) ∙ ap (λ (o : Option Mark). is_some (finite.get now.marks r) || is_some o) (sym (one_other id m r f))
      ];
    }
      where
        either : (x : Bool) → true ≡ (x || true)
        either true = refl
        either false = refl

    is_fault : (counts : Counts) (e : Error) → AreCountsOf now.tables counts → IsFaultUnder queue counts m (table_of id t) (table_in now.tables id) e → IsSlotFault queue now record { tables = left; marks = one id m } e
    is_fault counts (errors.Corruption text) counted f = (
      id,
      ap (λ o. joined_marked queue id o (finite.get left id) (region_in now id)) (one_own id m) ∙ ap (λ o. joined_region queue id (region_in now id) record { mark = m; table = o }) (sym taken)
          ∙ ap (option_map (λ t. record { mark = joined_mark queue id (region_in now id).mark (region_in now id).table m; table = t })) gone,
    )
      where
        gone : table_over_older queue id m t (finite.get now.tables id) ≡ None
        gone = rw f refl
    is_fault counts errors.Full counted f = (f.0, omega (arith, f.1, counted f.0, live-remove f.0 left id, live-table_of f.0 id t, ap (live_in f.0) taken))
    is_fault counts errors.Memory counted f = tt
    is_fault counts _ counted f = absurd f

    pub region_alone : live_in (other queue) t ≡ 0
    region_alone = omega (arith, at.alone_left, live-remove (other queue) left id, ap (live_in (other queue)) taken)

    pub region_step : (next : MarkedRegions) (after : Tables) → (IsRunOver queue m (table_of id t) (table_in now.tables id) → joined_region queue id (region_in now id) record { mark = m; table = t } ≡ Some (region_in next id))
        → (IsRunOver queue m (table_of id t) (table_in now.tables id) → next ≡ with_region now id (region_in next id)) → ((q : LogQueue) → live_in_all q next.tables ≤ live_in_all q now.tables + live_in q t) →
        after ≡ finite.remove left id → AreJoining queue newer first marks next after b
    region_step next after ok others few gone = joining_step (one id m) b parts next after (λ runs. is_joined next (ok (run_here runs)) (others (run_here runs)))
        (subst (λ x. AreTablesLeft (one id m) left x) (sym gone) (one_left left id m)) (λ q. omega (arith, few q, live-remove q left id, ap (live_in q) taken, ap (live_in_all q) gone))

    pub region_fault : (counts : Counts) (e : Error) → AreCountsOf now.tables counts → (IsRunOver queue m (table_of id t) (table_in now.tables id) → IsFaultUnder queue counts m (table_of id t) (table_in now.tables id) e) →
        AreRunsOver queue marks newer first.tables → IsSlotFault queue first record { tables = newer; marks = marks } e
    region_fault counts e counted fault = joining_fault (one id m) (parts_among (one id m) b rest parts) e (λ runs. is_fault counts e counted (fault (run_here runs)))

-- ---- the tables of one slot, under the region marks that they imply

module _ (queue : LogQueue) (newer : Tables) (first now : MarkedRegions) (t b all : Tables) (parts : AreParts t b all) (live : (q : LogQueue) → live_in_all q all ≡ live_in_all q t + live_in_all q b)
    (at : AreJoining queue newer first (implied_marks newer) now all (implied_marks all)) where
  own_runs : AreRunsOver queue (implied_marks t) all now.tables → AreRunsOver queue (implied_marks t) t now.tables
  own_runs h r m e = subst (λ (o : Option Table). IsRunOver queue m (table_of r o) (table_in now.tables r)) (own_there t b all parts r m e) (h r m e)

  among : (r : ℕ) (o : Option Mark) → finite.get (implied_marks t) r ≡ o → joined_marked queue r o (finite.get all r) (region_in now r) ≡ joined_marked queue r o (finite.get t r) (region_in now r)
  among r None e = refl
  among r (Some m) e = ap (λ u. joined_marked queue r (Some m) u (region_in now r)) (own_there t b all parts r m e)

  pub slot_alone : live_in_all (other queue) t ≡ 0
  slot_alone = omega (arith, at.alone_left, live (other queue))

  pub slot_step : (next : MarkedRegions) → (AreRunsOver queue (implied_marks t) t now.tables → AreJoined queue now record { tables = t; marks = implied_marks t } next) →
      ((q : LogQueue) → live_in_all q next.tables ≤ live_in_all q now.tables + live_in_all q t) → AreJoining queue newer first (implied_marks newer) next b (implied_marks b)
  slot_step next ok few = joining_step queue newer first (implied_marks newer) now all (implied_marks all) at (implied_marks t) (implied_marks b) (implied_parts t b all parts) next b
      (λ runs. let j = ok (own_runs runs) in record { regions = λ r. among r (finite.get (implied_marks t) r) refl ∙ j.regions r; marked = j.marked }) (implied_left t b all parts) (λ q. omega (arith, few q, live q))

  pub slot_fault : (e : Error) → (AreRunsOver queue (implied_marks t) t now.tables → IsSlotFault queue now record { tables = t; marks = implied_marks t } e) → AreRunsOver queue (implied_marks newer) newer first.tables →
      IsSlotFault queue first record { tables = newer; marks = implied_marks newer } e
  slot_fault e fault = joining_fault queue newer first (implied_marks newer) now all (implied_marks all) at (implied_marks t) (parts_among (implied_marks t) (implied_marks b) (implied_marks all) (implied_parts t b all parts)) e
      (λ runs. go e (fault (own_runs runs)))
    where
      go : (e : Error) → IsSlotFault queue now record { tables = t; marks = implied_marks t } e → IsSlotFault queue now record { tables = all; marks = implied_marks t } e
      go (errors.Corruption text) f = (f.0, among f.0 (finite.get (implied_marks t) f.0) refl ∙ f.1)
      go errors.Full f = (f.0, omega (arith, f.1, live f.0))
      go errors.Memory f = tt
      go _ f = absurd f

-- ---- all regions: those whose region mark is kept, and then those whose table implies it

pub kept_parts : (newer left : Tables) (kept : Marks) → AreTablesLeft kept newer left → AreParts kept (implied_marks left) (all_marks newer kept)
kept_parts newer left kept l r = go (finite.get kept r) refl
  where
    go : (o : Option Mark) → finite.get kept r ≡ o → ((finite.get kept r ≡ None) × (finite.get (all_marks newer kept) r ≡ finite.get (implied_marks left) r)) ⊎
        ((finite.get (implied_marks left) r ≡ None) × (finite.get (all_marks newer kept) r ≡ finite.get kept r))
    go None e = inl (e, get_unkept newer kept r e ∙ ap (option_map implied_mark) (sym (l.others r e)) ∙ sym (get_implied left r))
    go (Some m) e = inr (get_implied left r ∙ ap (option_map implied_mark) (l.gone r m e), get_kept newer kept r m e ∙ sym e)

all_fault : (queue : LogQueue) (older newer : MarkedRegions) (e : Error) → IsSlotFault queue older newer e → IsJoinFault queue older newer e
all_fault queue older newer (errors.Corruption text) f = f
all_fault queue older newer errors.Full f = omega (arith, f.1, live-le-all f.0 older.tables, live-le-all f.0 newer.tables)
all_fault queue older newer errors.Memory f = tt
all_fault queue older newer _ f = absurd f

module _ (queue : LogQueue) (newer : Tables) (first : MarkedRegions) (kept : Marks) (older : live_in_all (other queue) first.tables ≡ 0) (own : live_in_all (other queue) newer ≡ 0) where
  none_yet : AreJoining queue newer first (all_marks newer kept) first newer (all_marks newer kept)
  none_yet = joining_none queue newer first (all_marks newer kept) (all_marks newer kept) refl older own

  pub kept_fault : (e : Error) → (AreRunsOver queue kept newer first.tables → IsSlotFault queue first record { tables = newer; marks = kept } e) → AreRunsOver queue (all_marks newer kept) newer first.tables →
      IsJoinFault queue first record { tables = newer; marks = all_marks newer kept } e
  kept_fault e fault runs = all_fault queue first record { tables = newer; marks = all_marks newer kept } e
      (joining_fault queue newer first (all_marks newer kept) first newer (all_marks newer kept) none_yet kept (get_kept newer kept) e fault runs)

  module _ (now : Marks) (m left next rest : Tables) (same_now : next ≡ m) (same_left : rest ≡ left)
      (ok : AreRunsOver queue kept newer first.tables → AreJoined queue first record { tables = newer; marks = kept } record { tables = m; marks = all_marks m now })
      (l : AreTablesLeft kept newer left) (few : (q : LogQueue) → live_in_all q m + live_in_all q left ≤ live_in_all q first.tables + live_in_all q newer) {R : Type 0} (r : Result R Error) where
    kept_first : AreJoining queue newer first (all_marks newer kept) record { tables = next; marks = all_marks next now } rest (implied_marks rest)
    kept_first = subst (λ t. AreJoining queue newer first (all_marks newer kept) record { tables = t; marks = all_marks t now } rest (implied_marks rest)) (sym same_now)
        (subst (λ t. AreJoining queue newer first (all_marks newer kept) record { tables = m; marks = all_marks m now } t (implied_marks t)) (sym same_left)
        (joining_step queue newer first (all_marks newer kept) first newer (all_marks newer kept) none_yet kept (implied_marks left) (kept_parts newer left kept l) record { tables = m; marks = all_marks m now } left ok l few))

    pub both_ok : (z : MarkedRegions) → (AreRunsOver queue (implied_marks rest) rest next → OnOk r (AreJoined queue record { tables = next; marks = all_marks next now } record { tables = rest; marks = implied_marks rest } z)) →
        AreRunsOver queue (all_marks newer kept) newer first.tables → OnOk r (AreJoined queue first record { tables = newer; marks = all_marks newer kept } z)
    both_ok z h runs = on_ok_weaker r (kept_first.joined runs z) (h (kept_first.runs runs))

    pub both_fault : (AreRunsOver queue (implied_marks rest) rest next → IfErr r (IsSlotFault queue record { tables = next; marks = all_marks next now } record { tables = rest; marks = implied_marks rest })) →
        AreRunsOver queue (all_marks newer kept) newer first.tables → IfErr r (IsJoinFault queue first record { tables = newer; marks = all_marks newer kept })
    both_fault h runs = IfErr-weaker r _ _
        (λ e f. all_fault queue first record { tables = newer; marks = all_marks newer kept } e
        (joining_fault queue newer first (all_marks newer kept) record { tables = next; marks = all_marks next now } rest (implied_marks rest) kept_first (implied_marks rest) (λ r m is. is) e (λ _. f) runs)) (h (kept_first.runs runs))
