-- The files of a group, set for each region that it names: the order doesn't matter, nor whether a region comes twice.
use Rattle.raft_contexts.proofs.Common.{each-append, IsStepOfQueue, ◌≡◌, ℕ, ◌≤◌, Bool, true, false, cond, eqb, ◌||◌, List, [], ◌∷◌, ◌++◌, Option, Some, None, Result, refl, sym, ap, subst, ◌∙◌, inl, inr, arith, list_any, OnOk, IfErr}
use Rattle.raft_contexts.proofs.Common.{option_and_then, unwrap_or, Error, LogQueue, Counts, joined_mark, end_at_reach, fresh, mark_of, AtomicGroup, table_of, Table, joined_fresh, eqb-true, records_in, Marks, MarkedRegions, MarkedRegion}
use Rattle.raft_contexts.proofs.Common.{region_in, with_region, regions_after, named_regions, on_each, region_steps_of_whole, WholeGroup, RegionStep, Tables, names, with_table, by_region, eqb_self, names_none, names_cons, regions_in}
use Rattle.raft_contexts.proofs.Common.{AreStepsOfQueue, IsStepsFault, AreStepsTaken, live_in_all, counts_after_step, AreCountsAfterSteps, MarkedTables, same, get_own, get_other, nat_cmp, on_ok_weaker, IfErr-weaker, Append, Rewrite}
use Rattle.std.specs.FinMap as finite
use Rattle.raft_base.specs.declared.errors.Error.TheVariants as errors
use Rattle.raft_contexts.proofs.TakenLemmas.{after-append, records-append, other_in}

abbrev pub has : ℕ → List ℕ → Bool
has r ids = list_any (λ id. eqb r id) ids

abbrev filed_as : ℕ → ℕ → ℕ → Option Table → Table
filed_as first_seq last_seq r o = record (table_of r o) { atomic_group = Some (first_seq, last_seq) }

abbrev filed_table : ℕ → ℕ → ℕ → Option Table → Option Table
filed_table first_seq last_seq r o = Some (filed_as first_seq last_seq r o)

-- what becomes of each region
record AreFiled (first_seq last_seq : ℕ) (ids : List ℕ) (rs new : MarkedRegions) : Type 0 where
  tables : (r : ℕ) → finite.get new.tables r ≡ cond (has r ids) (filed_table first_seq last_seq r (finite.get rs.tables r)) (finite.get rs.tables r)
  marks : (r : ℕ) → finite.get new.marks r ≡ cond (has r ids) (Some (unwrap_or (finite.get rs.marks r) fresh)) (finite.get rs.marks r)

either : {X : Type 0} (b : Bool) (x : X) → cond b x x ≡ x
either true x = refl
either false x = refl

-- a map with a key set to what F makes of it, where F makes the same of that again
set_more : {X : Type 0} (F : ℕ → Option X → X) (m : finite.FinMap nat_cmp X) (id : ℕ) (x : X) (ids : List ℕ) (r : ℕ) → F id (Some x) ≡ x → x ≡ F id (finite.get m id)
    → cond (has r ids) (Some (F r (finite.get (finite.insert m id x) r))) (finite.get (finite.insert m id x) r) ≡ cond (has r (id ∷ ids)) (Some (F r (finite.get m r))) (finite.get m r)
set_more F m id x ids r again is = elim (by_region r id) [
  | inl same ↦ rw (same, get_own m id x, eqb_self id, again) (either (has id ids) (Some x) ∙ ap Some is)
  | inr f ↦ rw (get_other m id r x f.1, f.0) refl
]

module _ (q : LogQueue) (first_seq last_seq : ℕ) where
  abbrev filed_region : MarkedRegions → ℕ → MarkedRegion
  filed_region rs id = record { mark = joined_mark q id (region_in rs id).mark (region_in rs id).table (mark_of (AtomicGroup first_seq last_seq)); table = filed_table first_seq last_seq id (finite.get rs.tables id) }

  filed_mark : (rs : MarkedRegions) (id : ℕ) → (filed_region rs id).mark ≡ unwrap_or (finite.get rs.marks id) fresh
  filed_mark rs id = joined_fresh q (end_at_reach fresh (table_of id (finite.get rs.tables id))) (unwrap_or (finite.get rs.marks id) fresh)

  filed : (ids : List ℕ) (rs : MarkedRegions) → (new : MarkedRegions) × (regions_after q rs (on_each ids (AtomicGroup first_seq last_seq)) ≡ Some new) × AreFiled first_seq last_seq ids rs new
  filed [] rs = (rs, refl, record { tables = λ r. refl; marks = λ r. refl })
  filed (id ∷ ids) rs =
      let ih = filed ids (with_region rs id (filed_region rs id)) in (
        ih.0,
        ih.1,
        record {
          tables = λ r. ih.2.tables r ∙ set_more (filed_as first_seq last_seq) rs.tables id (filed_as first_seq last_seq id (finite.get rs.tables id)) ids r refl refl;
          marks = λ r. ih.2.marks r ∙ set_more (λ r o. unwrap_or o fresh) rs.marks id (filed_region rs id).mark ids r refl (filed_mark rs id);
        },
      )

  abbrev made : Tables → Marks → MarkedRegions
  made tables marks = record { tables = tables; marks = marks }

  -- the regions alone matter
  pub same_files : (xs ys : List ℕ) (rs : MarkedRegions) → ((r : ℕ) → has r xs ≡ has r ys) → regions_after q rs (on_each xs (AtomicGroup first_seq last_seq)) ≡ regions_after q rs (on_each ys (AtomicGroup first_seq last_seq))
  same_files xs ys rs h =
      let x = filed xs rs in
      let y = filed ys rs in
      let tables : x.0.tables ≡ y.0.tables = same _ _ (λ r. x.2.tables r ∙ ap (λ b. cond b (filed_table first_seq last_seq r (finite.get rs.tables r)) (finite.get rs.tables r)) (h r) ∙ sym (y.2.tables r)) in
      let marks : x.0.marks ≡ y.0.marks = same _ _ (λ r. x.2.marks r ∙ ap (λ b. cond b (Some (unwrap_or (finite.get rs.marks r) fresh)) (finite.get rs.marks r)) (h r) ∙ sym (y.2.marks r)) in
      x.1 ∙ ap Some (ap (λ t. made t x.0.marks) tables ∙ ap (made y.0.tables) marks) ∙ sym y.1

  pub behind_files : (steps : List RegionStep) (xs ys : List ℕ) (rs : MarkedRegions) → ((r : ℕ) → has r xs ≡ has r ys) →
      regions_after q rs (steps ++ on_each xs (AtomicGroup first_seq last_seq)) ≡ regions_after q rs
      (steps ++ on_each ys (AtomicGroup first_seq last_seq))
  behind_files steps xs ys rs h = after-append q rs steps (on_each xs (AtomicGroup first_seq last_seq)) ∙ go (regions_after q rs steps) ∙ sym (after-append q rs steps (on_each ys (AtomicGroup first_seq last_seq)))
    where
      go : (o : Option MarkedRegions) → option_and_then (λ x. regions_after q x (on_each xs (AtomicGroup first_seq last_seq))) o ≡ option_and_then (λ x. regions_after q x (on_each ys (AtomicGroup first_seq last_seq))) o
      go None = refl
      go (Some x) = same_files xs ys x h

  pub files_of_queue : (ids : List ℕ) → AreStepsOfQueue q (on_each ids (AtomicGroup first_seq last_seq))
  files_of_queue [] = tt
  files_of_queue (id ∷ ids) = (tt, files_of_queue ids)

  pub files-records : (ids : List ℕ) → records_in (on_each ids (AtomicGroup first_seq last_seq)) ≡ 0
  files-records [] = refl
  files-records (id ∷ ids) = omega (arith, files-records ids)

-- the regions that steps name
pub has_named : (r : ℕ) (steps : List RegionStep) → has r (named_regions steps) ≡ names r steps
has_named r [] = sym (names_none r)
has_named r (s ∷ steps) = go (names s.region steps) refl (has_named r steps) ∙ sym (names_cons r s steps)
  where
    there : names s.region steps ≡ true → (b : Bool) → eqb r s.region ≡ b → names r steps ≡ (b || names r steps)
    there e true k = subst (λ x. names x steps ≡ true) (sym (eqb-true r s.region k)) e
    there e false k = refl

    go : (b : Bool) → names s.region steps ≡ b → has r (named_regions steps) ≡ names r steps → has r (cond b (named_regions steps) (s.region ∷ named_regions steps)) ≡ (eqb r s.region || names r steps)
    go true e ih = ih ∙ there e (eqb r s.region) refl
    go false e ih = ap (λ b. eqb r s.region || b) ih

-- the files of its regions behind its items
pub whole_same : (q : LogQueue) (w : WholeGroup) (ids : List ℕ) (rs : MarkedRegions) → ((r : ℕ) → has r ids ≡ names r w.steps) →
    regions_after q rs (w.steps ++ on_each ids (AtomicGroup w.first_seq w.last_seq)) ≡ regions_after q rs (region_steps_of_whole w)
whole_same q w ids rs h = behind_files q w.first_seq w.last_seq w.steps ids (named_regions w.steps) rs (λ r. h r ∙ sym (has_named r w.steps))

pub whole_records : (w : WholeGroup) (ids : List ℕ) → records_in w.steps ≡ records_in (w.steps ++ on_each ids (AtomicGroup w.first_seq w.last_seq))
whole_records w ids = omega (arith, records-append w.steps (on_each ids (AtomicGroup w.first_seq w.last_seq)), files-records Rewrite w.first_seq w.last_seq ids)

pub whole_of_queue : (q : LogQueue) (w : WholeGroup) (ids : List ℕ) → AreStepsOfQueue q w.steps → AreStepsOfQueue q (w.steps ++ on_each ids (AtomicGroup w.first_seq w.last_seq))
whole_of_queue q w ids h = each-append (λ (s : RegionStep). IsStepOfQueue q s.step) w.steps (on_each ids (AtomicGroup w.first_seq w.last_seq)) h (files_of_queue q w.first_seq w.last_seq ids)

-- the files change no counts
filed_counts : (q : LogQueue) (first_seq last_seq : ℕ) (ids : List ℕ) (tables : Tables) (k n : Counts) → AreCountsAfterSteps q tables (on_each ids (AtomicGroup first_seq last_seq)) k n → n ≡ k
filed_counts q first_seq last_seq [] tables k n h = h
filed_counts q first_seq last_seq (id ∷ ids) tables k n h =
    let t = filed_table first_seq last_seq id (finite.get tables id) in
    filed_counts q first_seq last_seq ids (with_table tables id t) k n (h t refl)

counts_filed : (q : LogQueue) (first_seq last_seq : ℕ) (ids : List ℕ) (tables : Tables) (k n : Counts) → n ≡ k → AreCountsAfterSteps q tables (on_each ids (AtomicGroup first_seq last_seq)) k n
counts_filed q first_seq last_seq [] tables k n e = e
counts_filed q first_seq last_seq (id ∷ ids) tables k n e = λ t u. counts_filed q first_seq last_seq ids (with_table tables id t) k n e

counts_behind : (q : LogQueue) (first_seq last_seq : ℕ) (steps : List RegionStep) (xs ys : List ℕ) (tables : Tables) (k n : Counts) →
    AreCountsAfterSteps q tables (steps ++ on_each xs (AtomicGroup first_seq last_seq)) k n →
    AreCountsAfterSteps q tables (steps ++ on_each ys (AtomicGroup first_seq last_seq)) k n
counts_behind q first_seq last_seq [] xs ys tables k n h = counts_filed q first_seq last_seq ys tables k n (filed_counts q first_seq last_seq xs tables k n h)
counts_behind q first_seq last_seq (s ∷ steps) xs ys tables k n h = λ t u.
    counts_behind q first_seq last_seq steps xs ys (with_table tables s.region t) (counts_after_step q (table_of s.region (finite.get tables s.region)) s.step k) n (h t u)

-- what is told of the group, by what was taken in
module _ (w : WholeGroup) (ids : List ℕ) (a b : MarkedTables) (r : Result Unit Error) (h : (n : ℕ) → has n ids ≡ names n w.steps) (t : AreStepsTaken Rewrite (w.steps ++ on_each ids (AtomicGroup w.first_seq w.last_seq)) r a b) where
  pub whole_ok : OnOk r (regions_after Rewrite (regions_in a) (region_steps_of_whole w) ≡ Some (regions_in b))
  whole_ok = on_ok_weaker r (λ e. sym (whole_same Rewrite w ids (regions_in a) h) ∙ e) t.ok

  pub whole_counts : OnOk r (AreCountsAfterSteps Rewrite a.accessor.tables (region_steps_of_whole w) a.accessor.counts b.accessor.counts)
  whole_counts = on_ok_weaker r (counts_behind Rewrite w.first_seq w.last_seq w.steps ids (named_regions w.steps) a.accessor.tables a.accessor.counts b.accessor.counts) t.counts

  same_fault : (e : Error) → IsStepsFault Rewrite (regions_in a) (w.steps ++ on_each ids (AtomicGroup w.first_seq w.last_seq)) e → IsStepsFault Rewrite (regions_in a) (region_steps_of_whole w) e
  same_fault (errors.Corruption text) f = sym (whole_same Rewrite w ids (regions_in a) h) ∙ f
  same_fault (errors.InvalidArgument text) f = f
  same_fault errors.Full f = omega (arith, f, whole_records w ids, whole_records w (named_regions w.steps))
  same_fault errors.Memory f = tt
  same_fault _ f = absurd f

  pub whole_fault : IfErr r (IsStepsFault Rewrite (regions_in a) (region_steps_of_whole w))
  whole_fault = IfErr-weaker r _ _ same_fault t.fault

  pub whole_other : AreStepsOfQueue Rewrite w.steps → OnOk r (live_in_all Append b.accessor.tables ≤ live_in_all Append a.accessor.tables)
  whole_other good = other_in Rewrite (w.steps ++ on_each ids (AtomicGroup w.first_seq w.last_seq)) a b r (whole_of_queue Rewrite w ids good) t.ok
