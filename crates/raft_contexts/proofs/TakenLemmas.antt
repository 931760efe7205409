-- Steps taken into the marks and tables of all regions, one after another.
use Rattle.raft_contexts.proofs.Common.{each_left, each_right, map_none, ◌≡◌, ℕ, ◌+◌, ◌≤◌, ◌<◌, get_or, List, [], ◌∷◌, ◌++◌, length, Bool, true, false, MatchBool, append-nil, append_assoc, Option, Some, None, Result, Ok, Err, refl, sym, ap}
use Rattle.raft_contexts.proofs.Common.{subst, ◌∙◌, inl, inr, arith, option_map, option_and_then, OnOk, IfErr, flat_map-append, Error, FileId, LogQueue, EntryIndex, end_of, entries, Counts, live, IsRunIn, file_at, joined_mark, joined_at}
use Rattle.raft_contexts.proofs.Common.{fresh, mark_of, Mark, other, count_in, Step, Run, Put, table_of, after_step, Table, IsTablePutFault, within-whole, count_in_own, IsStepOfQueue, records_in, Marks, MarkedRegions, MarkedRegion}
use Rattle.raft_contexts.proofs.Common.{region_in, with_region, stepped_region, regions_after, RegionStep, Tables, with_table, cleaned_by, cleaned_by_steps, Accessor, table_in, live_in_all, AreCountsOf, regions_in, AreStepsOfQueue}
use Rattle.raft_contexts.proofs.Common.{IsStepsFault, one_step, first_index, AreStepsTaken, mark_in, counts_after_step, AreCountsAfterSteps, IsStepFault, IsStepTaken, Replaying, IsWriteFault, MarkedTables, table_live-le, some_is, none_some}
use Rattle.raft_contexts.proofs.Common.{replay_fault, Append, Rewrite, start_of, all_marks}
use Rattle.std.specs.FinMap as finite
use Rattle.raft_base.specs.declared.errors.Error.TheVariants as errors
use Rattle.raft_contexts.proofs.LiveSteps.{steps_live}

pub after-append : (q : LogQueue) (rs : MarkedRegions) (xs ys : List RegionStep) → regions_after q rs (xs ++ ys) ≡ option_and_then (λ x. regions_after q x ys) (regions_after q rs xs)
after-append q rs [] ys = refl
after-append q rs (s ∷ xs) ys = go (stepped_region q s.region (region_in rs s.region) s.step) (λ x. after-append q (with_region rs s.region x) xs ys)
  where
    go : (o : Option MarkedRegion) → ((x : MarkedRegion) → regions_after q (with_region rs s.region x) (xs ++ ys) ≡ option_and_then (λ x. regions_after q x ys) (regions_after q (with_region rs s.region x) xs))
        → option_and_then (λ x. regions_after q (with_region rs s.region x) (xs ++ ys)) o ≡ option_and_then (λ x. regions_after q x ys) (option_and_then (λ x. regions_after q (with_region rs s.region x) xs) o)
    go None ih = refl
    go (Some x) ih = ih x

pub records-append : (xs ys : List RegionStep) → records_in (xs ++ ys) ≡ records_in xs + records_in ys
records-append [] ys = omega arith
records-append (x ∷ xs) ys = omega (arith, records-append xs ys)

listed-nil : (q : LogQueue) → cleaned_by_steps q [] ≡ []
listed-nil Append = refl
listed-nil Rewrite = refl

listed-append : (q : LogQueue) (xs ys : List RegionStep) → cleaned_by_steps q (xs ++ ys) ≡ cleaned_by_steps q xs ++ cleaned_by_steps q ys
listed-append Append xs ys = flat_map-append (λ s. cleaned_by s.region s.step) xs ys
listed-append Rewrite xs ys = refl

of_other : (q : LogQueue) (n : ℕ) → count_in (other q) q n ≡ 0
of_other Append n = refl
of_other Rewrite n = refl

-- a fault of steps behind some that are taken in
pub fault-behind : (q : LogQueue) (rs new : MarkedRegions) (xs ys : List RegionStep) (e : Error) → AreStepsOfQueue q xs → regions_after q rs xs ≡ Some new → IsStepsFault q new ys e → IsStepsFault q rs (xs ++ ys) e
fault-behind q rs new xs ys (errors.Corruption text) h is f = after-append q rs xs ys ∙ ap (option_and_then (λ x. regions_after q x ys)) is ∙ f
fault-behind q rs new xs ys (errors.InvalidArgument text) h is f = omega (arith, f, steps_live q (other q) rs new xs is h, of_other q (records_in xs))
fault-behind q rs new xs ys errors.Full h is f = omega (arith, f, steps_live q q rs new xs is h, count_in_own q (records_in xs), records-append xs ys)
fault-behind q rs new xs ys errors.Memory h is f = tt
fault-behind q rs new xs ys _ h is f = absurd f

-- and of steps in front of others
pub fault-front : (q : LogQueue) (rs : MarkedRegions) (xs ys : List RegionStep) (e : Error) → IsStepsFault q rs xs e → IsStepsFault q rs (xs ++ ys) e
fault-front q rs xs ys (errors.Corruption text) f = after-append q rs xs ys ∙ ap (option_and_then (λ x. regions_after q x ys)) f
fault-front q rs xs ys (errors.InvalidArgument text) f = f
fault-front q rs xs ys errors.Full f = omega (arith, f, records-append xs ys)
fault-front q rs xs ys errors.Memory f = tt
fault-front q rs xs ys _ f = absurd f

-- counts behind counts
pub counts-append : (q : LogQueue) (rs new : MarkedRegions) (xs ys : List RegionStep) (k l n : Counts) → regions_after q rs xs ≡ Some new →
    AreCountsAfterSteps q rs.tables xs k l → AreCountsAfterSteps q new.tables ys l n → AreCountsAfterSteps q rs.tables (xs ++ ys) k n
counts-append q rs new [] ys k l n e f g =
    subst (λ (x : MarkedRegions). AreCountsAfterSteps q x.tables ys k n) (sym (some_is e)) (subst (λ c. AreCountsAfterSteps q new.tables ys c n) f g)
counts-append q rs new (s ∷ xs) ys k l n e f g = λ t u.
    let x : MarkedRegion = record { mark = joined_mark q s.region (region_in rs s.region).mark (finite.get rs.tables s.region) (mark_of s.step); table = t } in
    let more : regions_after q (with_region rs s.region x) xs ≡ Some
    new = sym (ap (λ (o : Option (Option Table)). option_and_then (λ x. regions_after q (with_region rs s.region x) xs)
    (option_map (λ t. record {
      mark = joined_mark q s.region (region_in rs s.region).mark (finite.get rs.tables s.region) (mark_of s.step);
      table = t;
    }) o)) u) ∙ e in
    counts-append q (with_region rs s.region x) new xs ys (counts_after_step q (table_of s.region (finite.get rs.tables s.region)) s.step k) l n more (f t u) g

pub taken_none : (q : LogQueue) (a : MarkedTables) → AreStepsTaken q [] (Ok tt) a a
taken_none q a = record { ok = refl; cleaned = sym (ap (λ l. a.accessor.cleaned ++ l) (listed-nil q) ∙ append-nil a.accessor.cleaned); counts = refl; fault = tt }

pub taken_memory : (q : LogQueue) (steps : List RegionStep) (a b : MarkedTables) (e : Error) → e ≡ errors.Memory → AreStepsTaken q steps (Err e) a b
taken_memory q steps a b e is = record { ok = tt; cleaned = tt; counts = tt; fault = subst (IsStepsFault q (regions_in a) steps) (sym is) tt }

-- steps behind some that are taken in
pub taken_more : (q : LogQueue) (xs ys : List RegionStep) (a b c : MarkedTables) (r : Result Unit Error) → AreStepsOfQueue q xs → AreStepsTaken q xs (Ok tt) a b → AreStepsTaken q ys r b c → AreStepsTaken q (xs ++ ys) r a c
taken_more q xs ys a b c r h s t =
    let rest : regions_after q (regions_in a) (xs ++ ys) ≡ regions_after q (regions_in b) ys = after-append q (regions_in a) xs ys ∙ ap (option_and_then (λ x. regions_after q x ys)) s.ok in
    record {
      ok = elim r as (λ r. OnOk r (regions_after q (regions_in b) ys ≡ Some (regions_in c)) → OnOk r (regions_after q (regions_in a) (xs ++ ys) ≡ Some (regions_in c))) [ Ok u ↦ λ e. rest ∙ e | Err x ↦ λ e. tt ] t.ok;
      cleaned = elim r as (λ r. OnOk r (c.accessor.cleaned ≡ b.accessor.cleaned ++ cleaned_by_steps q ys) → OnOk r (c.accessor.cleaned ≡ a.accessor.cleaned ++ cleaned_by_steps q (xs ++ ys))) [
        | Ok u ↦ λ e. e ∙ ap (λ l. l ++ cleaned_by_steps q ys) s.cleaned ∙ append_assoc a.accessor.cleaned (cleaned_by_steps q xs) (cleaned_by_steps q ys) ∙ ap (λ l. a.accessor.cleaned ++ l) (sym (listed-append q xs ys))
        | Err x ↦ λ e. tt
      ] t.cleaned;
      counts = elim r as (λ r. OnOk r (AreCountsAfterSteps q b.accessor.tables ys b.accessor.counts c.accessor.counts) → OnOk r (AreCountsAfterSteps q a.accessor.tables (xs ++ ys) a.accessor.counts c.accessor.counts)) [
        | Ok u ↦ λ k. counts-append q (regions_in a) (regions_in b) xs ys a.accessor.counts b.accessor.counts c.accessor.counts s.ok s.counts k
        | Err x ↦ λ k. tt
      ] t.counts;
      fault = elim r as (λ r. IfErr r (IsStepsFault q (regions_in b) ys) → IfErr r (IsStepsFault q (regions_in a) (xs ++ ys))) [ Ok u ↦ λ f. tt | Err x ↦ λ f. fault-behind q (regions_in a) (regions_in b) xs ys x h s.ok f ] t.fault;
    }

-- where some are refused, so are they with more behind them
pub taken_refused : (q : LogQueue) (xs ys : List RegionStep) (a b : MarkedTables) (e : Error) → AreStepsTaken q xs (Err e) a b → AreStepsTaken q (xs ++ ys) (Err e) a b
taken_refused q xs ys a b e s = record { ok = tt; cleaned = tt; counts = tt; fault = fault-front q (regions_in a) xs ys e s.fault }

module _ (q : LogQueue) (id : ℕ) (s : Step) (a b : MarkedTables) where
  abbrev made : Tables → Marks → MarkedRegions
  made tables marks = record { tables = tables; marks = marks }

  abbrev put : Option Table → MarkedRegion
  put t = record { mark = joined_mark q id (mark_in (regions_in a).marks id) (finite.get a.accessor.tables id) (mark_of s); table = t }

  -- by what the marks answer
  pub step_taken : (r : Result Unit Error) (t : Option Table) → after_step q (table_of id (finite.get a.accessor.tables id)) s ≡ Some t → b.accessor.tables ≡ with_table a.accessor.tables id t
      → b.accessor.cleaned ≡ a.accessor.cleaned ++ cleaned_by_steps q (one_step id s) →
      b.accessor.counts ≡ counts_after_step q (table_of id (finite.get a.accessor.tables id)) s a.accessor.counts →
      OnOk r ((regions_in b).marks ≡ finite.insert (regions_in a).marks id (joined_mark q id (mark_in (regions_in a).marks id) (finite.get a.accessor.tables id) (mark_of s))) →
      IfErr r (λ e. e ≡ errors.Memory) → AreStepsTaken q (one_step id s) r a b
  step_taken (Ok u) t e k l c m n = record {
    ok = ap (λ o. option_and_then (λ x. regions_after q (with_region (regions_in a) id x) []) (option_map put o)) e
        ∙ ap Some (ap (λ ts. made ts (finite.insert (regions_in a).marks id (put t).mark)) (sym k) ∙ ap (made b.accessor.tables) (sym m));
    cleaned = l;
    counts = λ t u. c;
    fault = tt;
  }
  step_taken (Err x) t e k l c m n = taken_memory q (one_step id s) a b x n

  pub step_refused : (e : Error) → IsStepsFault q (regions_in a) (one_step id s) e → AreStepsTaken q (one_step id s) (Err e) a b
  step_refused e f = record { ok = tt; cleaned = tt; counts = tt; fault = f }

  pub no_step : after_step q (table_of id (finite.get a.accessor.tables id)) s ≡ None → regions_after q (regions_in a) (one_step id s) ≡ None
  no_step none = ap (λ o. option_and_then (λ x. regions_after q (with_region (regions_in a) id x) []) (option_map put o)) none

-- a step that changes a table, which is there afterwards
module _ (q : LogQueue) (id : ℕ) (s : Step) (a : MarkedTables) (mid : Accessor) (marks : Marks) where
  none_cleaned : (p : LogQueue) → cleaned_by id s ≡ [] → cleaned_by_steps p (one_step id s) ≡ []
  none_cleaned Append e = ap (λ l. l ++ []) e
  none_cleaned Rewrite e = refl

  pub changed_taken : (r : Result Unit Error) (outcome : Option Table) → after_step q (table_of id (finite.get a.accessor.tables id)) s ≡ option_map
      (λ t. Some t) outcome → outcome ≡ Some (table_in mid.tables id) → mid.tables ≡ finite.insert a.accessor.tables id (table_in mid.tables id)
      → mid.cleaned ≡ a.accessor.cleaned → mid.counts ≡ counts_after_step q (table_of id (finite.get a.accessor.tables id)) s a.accessor.counts →
      cleaned_by id s ≡ [] → OnOk r (all_marks mid.tables marks ≡ finite.insert (regions_in a).marks id
      (joined_mark q id (mark_in (regions_in a).marks id) (finite.get a.accessor.tables id) (mark_of s))) → IfErr r (λ e. e ≡ errors.Memory) →
      AreStepsTaken q (one_step id s) r a (record { accessor = mid; marks = marks })
  changed_taken r outcome e k t l c n m f =
      step_taken q id s a (record { accessor = mid; marks = marks }) r (Some (table_in mid.tables id)) (e ∙ ap (option_map (λ t. Some t)) k) t
      (l ∙ sym (ap (λ l. a.accessor.cleaned ++ l) (none_cleaned q n) ∙ append-nil a.accessor.cleaned)) c m f

-- ---- refusals of one step

run_by : (q : LogQueue) (id : ℕ) (run : List EntryIndex) (a b : MarkedTables) (n : ℕ) (e : Error) → IsRunIn q run →
    n ≡ live_in_all q a.accessor.tables → IsWriteFault (Replaying q) id (finite.get a.accessor.tables id) n (entries run) e →
    IsStepsFault q (regions_in a) (one_step id (Run run)) e
run_by q id run a b n (errors.Corruption text) h is (inl f) = absurd (f h)
run_by q id run a b n (errors.Corruption text) h is (inr f) = no_step q id (Run run) a b (ap (λ (t : Option Table). option_map Some t) (map_none (λ (t : Table). Some t) _ f))
run_by q id run a b n (errors.InvalidArgument text) h is f = omega (arith, f, table_live-le (other q) a.accessor.tables id)
run_by q id run a b n errors.Full h is f = omega (arith, f, is)
run_by q id run a b n errors.Memory h is f = tt
run_by q id run a b n _ h is f = absurd f

put_by : (q : LogQueue) (id : ℕ) (key value : List ℕ) (file : FileId) (replaced : Option FileId) (a : MarkedTables) (e : Error) →
    live q a.accessor.counts ≡ live_in_all q a.accessor.tables → IsTablePutFault q a.accessor.counts replaced e →
    IsStepsFault q (regions_in a) (one_step id (Put key value file)) e
put_by q id key value file replaced a errors.Full is f = omega (arith, f.0, is)
put_by q id key value file replaced a errors.Memory is f = tt
put_by q id key value file replaced a _ is f = absurd f

fault_by : (q : LogQueue) (id : ℕ) (s : Step) (a b : MarkedTables) (e : Error) → IsStepOfQueue q s → AreCountsOf a.accessor.tables a.accessor.counts →
    IsStepFault q (table_in a.accessor.tables id) a.accessor.counts s e → IsStepsFault q (regions_in a) (one_step id s) e
fault_by q id (Run run) a b e h counted f = run_by q id run a b (live q a.accessor.counts) e h (counted q) (replay_fault q id (finite.get a.accessor.tables id) run a.accessor.counts e f)
fault_by q id (Put key value file) a b e h counted f = put_by q id key value file (file_at (table_in a.accessor.tables id).keys key) a e (counted q)
    (subst (λ q. IsTablePutFault q a.accessor.counts (file_at (table_in a.accessor.tables id).keys key) e) h f)
fault_by q id _ a b e h counted f = absurd f

-- a step that the accessor takes or refuses, behind its region mark
pub by_accessor : (q : LogQueue) (id : ℕ) (s : Step) (a b : MarkedTables) (r : Result Unit Error) → IsStepOfQueue q s →
    AreCountsOf a.accessor.tables a.accessor.counts →
    OnOk r ((regions_in b).marks ≡ finite.insert (regions_in a).marks id (joined_mark q id (mark_in (regions_in a).marks id) (finite.get a.accessor.tables id) (mark_of s)))
    → IsStepTaken q id s a.accessor.tables a.accessor.counts a.accessor.cleaned r b.accessor.tables b.accessor.counts b.accessor.cleaned → AreStepsTaken q (one_step id s) r a b
by_accessor q id s a b (Ok u) h counted m k = step_taken q id s a b (Ok u) (finite.get b.accessor.tables id) k.ok k.one k.cleaned k.counts_ok m tt
by_accessor q id s a b (Err x) h counted m k = elim k.fault [ inl is ↦ taken_memory q (one_step id s) a b x is | inr f ↦ step_refused q id s a b x (fault_by q id s a b x h counted f) ]

-- the same, where the region mark is kept whatever the accessor answers
pub by_kept : (q : LogQueue) (id : ℕ) (s : Step) (a b : MarkedTables) (r : Result Unit Error) → IsStepOfQueue q s → AreCountsOf a.accessor.tables a.accessor.counts →
    (regions_in b).marks ≡ finite.insert (regions_in a).marks id (joined_mark q id (mark_in (regions_in a).marks id) (finite.get a.accessor.tables id) (mark_of s))
    → IsStepTaken q id s a.accessor.tables a.accessor.counts a.accessor.cleaned r b.accessor.tables b.accessor.counts b.accessor.cleaned → AreStepsTaken q (one_step id s) r a b
by_kept q id s a b (Ok u) h counted m k = by_accessor q id s a b (Ok u) h counted m k
by_kept q id s a b (Err x) h counted m k = by_accessor q id s a b (Err x) h counted tt k

-- ---- marks of one step

-- where the entries end in front of a run
pub end_met : (q : LogQueue) (id : ℕ) (m : Mark) (own : Option Table) (run : List EntryIndex) (end : ℕ) → end ≡ end_of (table_of id own).entries → joined_at q end m (mark_of (Run run)) ≡ joined_mark q id m own (mark_of (Run run))
end_met q id m own [] end e = ap (λ x. joined_at q x m fresh) (e ∙ ap end_of (sym (within-whole (table_of id own).entries)))
end_met q id m own (x ∷ run) end e = ap (λ y. joined_at q y m (mark_of (Run (x ∷ run)))) (e ∙ ap end_of (sym (within-whole (table_of id own).entries)))

pub no_ends : (id : ℕ) (o : Option Table) → None ≡ o → ◌≡◌ {A = ℕ × ℕ} (0, 0) (start_of (table_of id o).entries, end_of (table_of id o).entries)
unfolding end_of
no_ends id o e = ap (λ o. (start_of (table_of id o).entries, end_of (table_of id o).entries)) e

pub run_mark : (q : LogQueue) (id : ℕ) (run : List EntryIndex) (start end : ℕ) (o : Option Table) (m : Mark) → first_index run ≡ Some start →
    end ≡ end_of (table_of id o).entries → joined_at q end m (record fresh { reach = Some start; cut = Some start }) ≡ joined_mark q id m o
    (mark_of (Run run))
run_mark q id [] start end o m e k = absurd (none_some e)
run_mark q id (x ∷ run) start end o m e k =
    ap (λ i. joined_at q end m (record fresh { reach = Some i; cut = Some i })) (sym (some_is e))
    ∙ ap (λ y. joined_at q y m (record fresh { reach = Some x.index; cut = Some x.index })) (k ∙ ap end_of (sym (within-whole (table_of id o).entries)))

pub first_of : (run : List EntryIndex) (x : EntryIndex) → 0 < length run → x ≡ get_or run 0 x → first_index run ≡ Some x.index
first_of [] x l e = absurd (omega (arith, l))
first_of (y ∷ run) x l e = ap (λ (z : EntryIndex). Some z.index) (sym e)

-- ---- items, one after another

-- what a run tried first tells: it is taken in, or all is as it was
pub tried : (q : LogQueue) (steps : List RegionStep) (a b : MarkedTables) (taken : Bool) → taken ≡ true → MatchBool taken (AreStepsTaken q steps (Ok tt) a b) (b ≡ a) → AreStepsTaken q steps (Ok tt) a b
tried q steps a b taken e h = rw e at h

pub not_tried : (q : LogQueue) (steps : List RegionStep) (a b c : MarkedTables) (r : Result Unit Error) (taken : Bool) → taken ≡ false →
    MatchBool taken (AreStepsTaken q steps (Ok tt) a b) (b ≡ a) → AreStepsTaken q steps r b c → AreStepsTaken q steps r a c
not_tried q steps a b c r taken e h t =
    let k : b ≡ a = rw e at h in
    subst (λ x. AreStepsTaken q steps r x c) k t

pub rest_of_queue : (q : LogQueue) (one rest all : List RegionStep) → all ≡ one ++ rest → AreStepsOfQueue q all → AreStepsOfQueue q rest
rest_of_queue q one rest all e h = each_right (λ (s : RegionStep). IsStepOfQueue q s.step) one rest (subst (AreStepsOfQueue q) e h)

pub each_more : (q : LogQueue) (one rest all : List RegionStep) (a b c : MarkedTables) (r : Result Unit Error) → all ≡ one ++ rest →
    AreStepsOfQueue q all → AreStepsTaken q one (Ok tt) a b → AreStepsTaken q rest r b c → AreStepsTaken q all r a c
each_more q one rest all a b c r e h s t = subst (λ l. AreStepsTaken q l r a c) (sym e) (taken_more q one rest a b c r (each_left (λ (s : RegionStep). IsStepOfQueue q s.step) one rest (subst (AreStepsOfQueue q) e h)) s t)

pub each_refused : (q : LogQueue) (one rest all : List RegionStep) (a b : MarkedTables) (e : Error) → all ≡ one ++ rest → AreStepsTaken q one (Err e) a b → AreStepsTaken q all (Err e) a b
each_refused q one rest all a b e is s = subst (λ l. AreStepsTaken q l (Err e) a b) (sym is) (taken_refused q one rest a b e s)

pub no_items : {X : Type 0} (q : LogQueue) (steps_in : List X → List RegionStep) (xs : List X) (a : MarkedTables) → steps_in [] ≡ [] → length xs ≡ 0 → AreStepsTaken q (steps_in xs) (Ok tt) a a
no_items q steps_in [] a none e = subst (λ l. AreStepsTaken q l (Ok tt) a a) (sym none) (taken_none q a)
no_items q steps_in (x ∷ xs) a none e = absurd (omega (arith, e))

-- ---- what is told of all steps

pub other_in : (q : LogQueue) (steps : List RegionStep) (a b : MarkedTables) (r : Result Unit Error) → AreStepsOfQueue q steps →
    OnOk r (regions_after q (regions_in a) steps ≡ Some (regions_in b)) →
    OnOk r (live_in_all (other q) b.accessor.tables ≤ live_in_all (other q) a.accessor.tables)
other_in q steps a b (Ok u) h e = omega (arith, steps_live q (other q) (regions_in a) (regions_in b) steps e h, of_other q (records_in steps))
other_in q steps a b (Err x) h e = tt
