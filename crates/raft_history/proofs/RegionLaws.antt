-- That marks and tables of regions stand for some steps, kept by steps and joins; and overlays by exact marks.
use Rattle.raft_history.proofs.Common.{Append, some_is, ◌≡◌, ℕ, cond, ◌||◌, List, [], ◌++◌, Option, Some, None, refl, sym, ap, subst, ◌∙◌, is_some, AllByRecursion, unwrap_or, nat_cmp, FileId, LogQueue, Item, Mark, fresh, has_clean, kept_if}
use Rattle.raft_history.proofs.Common.{overlay_under, overlaid_table, IsExactMark, Step, Run, IsStep, AreSteps, table_of, Table, overlay_exact, Event, BatchSteps, batches, RegionStandsFor, AreExact, steps_of, is_named, AreInFile}
use Rattle.raft_history.proofs.Common.{IsStepOfQueue, StandForSteps, AreJoined, overlaid_region, MarkedRegions, MarkedRegion, no_regions, region_in, regions_after, region_steps_of_whole, joined_marked, RegionStep, steps_on, steps_of_items}
use Rattle.raft_history.proofs.Common.{WholeGroup}
use Rattle.std.specs.FinMap as finite
use Rattle.raft_history.proofs.Words.{AreInFiles}
use Rattle.raft_history.proofs.EffectLemmas.{each_weaker}
use Rattle.raft_history.proofs.QueueLemmas.{items_in_queue, whole_in_queue}
use Rattle.raft_history.proofs.ReadLemmas.{holds_none, holds_joined, read_holds}
use Rattle.raft_history.proofs.SoundLemmas.{own_good, steps_good}
use Rattle.raft_history.proofs.StepListLemmas.{steps-append}

abbrev AreOf : LogQueue → List RegionStep → Type 0
AreOf q steps = AllByRecursion (λ (s : RegionStep). IsStepOfQueue q s.step) steps

step_good : (q : LogQueue) (s : Step) → IsStepOfQueue q s → IsStep s
step_good q (Run run) h = h.consecutive.run
step_good q _ h = tt

are_good : (q : LogQueue) (steps : List RegionStep) → AreOf q steps → AllByRecursion (λ (s : RegionStep). IsStep s.step) steps
are_good q steps h = each_weaker (λ s. IsStepOfQueue q s.step) (λ s. IsStep s.step) (λ s k. step_good q s.step k) steps h

pub stand_none : (q : LogQueue) → StandForSteps q no_regions
stand_none q r = ([], tt, holds_none q r (region_in no_regions r) (ap (λ m. unwrap_or m fresh) (finite.get-empty nat_cmp r)) (finite.get-empty nat_cmp r))

pub stand_after : (q : LogQueue) (rs new : MarkedRegions) (steps : List RegionStep) → AreOf q steps → StandForSteps q rs → regions_after q rs steps ≡ Some new → StandForSteps q new
stand_after q rs new steps good h e r = (
  (h r).0 ++ steps_on r steps,
  steps-append (h r).0 (steps_on r steps) (h r).1 (own_good r steps (are_good q steps good)),
  read_holds q rs new steps (λ r. (h r).0) (λ r. (h r).1) (λ r. own_good r steps (are_good q steps good)) (λ r. (h r).2) e r,
)

pub stand_items : (file : FileId) (items : List Item) (rs new : MarkedRegions) → AreInFile file items → StandForSteps file.queue rs → regions_after file.queue rs (steps_of_items items) ≡ Some new → StandForSteps file.queue new
stand_items file items rs new f h e = stand_after file.queue rs new (steps_of_items items) (items_in_queue file.queue file items refl f) h e

pub stand_whole : (q : LogQueue) (rs new : MarkedRegions) (w : WholeGroup) → AreOf q w.steps → StandForSteps q rs → regions_after q rs (region_steps_of_whole w) ≡ Some new → StandForSteps q new
stand_whole q rs new w good h e = stand_after q rs new (region_steps_of_whole w) (whole_in_queue q w good) h e

pub stand_joined : (q : LogQueue) (older newer new : MarkedRegions) → StandForSteps q older → StandForSteps q newer → AreJoined q older newer new → StandForSteps q new
stand_joined q older newer new h k j r = go (finite.get newer.marks r) refl (j.regions r)
  where
    go : (o : Option Mark) → finite.get newer.marks r ≡ o → joined_marked q r o (finite.get newer.tables r) (region_in older r) ≡ Some (region_in new r) → (ss : List Step) × AreSteps ss × RegionStandsFor q r (region_in new r) ss
    go None is e = ((h r).0, (h r).1, subst (λ (x : MarkedRegion). RegionStandsFor q r x (h r).0) (some_is e) (h r).2)
    go (Some m) is e = (
      (h r).0 ++ (k r).0,
      steps-append (h r).0 (k r).0 (h r).1 (k r).1,
      holds_joined q r (region_in older r) (record { mark = m; table = finite.get newer.tables r }) (region_in new r) (h r).0 (k r).0 (h r).1 (k r).1 (h r).2
          (subst (λ (o : Option Mark). RegionStandsFor q r (record { mark = unwrap_or o fresh; table = finite.get newer.tables r }) (k r).0) is (k r).2) e,
    )

pub stand_exact : (q : LogQueue) (rs : MarkedRegions) (h : List Event) → AreInFiles h → AreExact q rs (batches h) → StandForSteps q rs
stand_exact q rs h f ex r = (steps_of r (batches h), steps_good r h f, ex.each r)

-- ---- overlays

pub overlay_by_steps : (r : ℕ) (rs : MarkedRegions) (bs : List BatchSteps) (rewritten : Option Table) → AreExact Append rs bs
    → overlaid_region r (finite.get rs.marks r) (finite.get rs.tables r) rewritten ≡ cond (is_named r bs) (overlaid_table r (steps_of r bs) (finite.get rs.tables r) rewritten) rewritten
overlay_by_steps r rs bs rewritten ex = go (finite.get rs.marks r) refl
  where
    go : (o : Option Mark) → finite.get rs.marks r ≡ o → overlaid_region r o (finite.get rs.tables r) rewritten ≡ cond (is_named r bs) (overlaid_table r (steps_of r bs) (finite.get rs.tables r) rewritten) rewritten
    go None is = sym (ap (λ b. cond b (overlaid_table r (steps_of r bs) (finite.get rs.tables r) rewritten) rewritten) (sym (ex.marked r) ∙ ap is_some is))
    go (Some m) is =
        let exact : IsExactMark m (steps_of r bs) = subst (λ (o : Option Mark). IsExactMark (unwrap_or o fresh) (steps_of r bs)) is ((ex.each r).exact refl) in
        ap (λ b. kept_if (cond b (is_some (finite.get rs.tables r)) (is_some (finite.get rs.tables r) || is_some rewritten)) (overlay_under m (table_of r (finite.get rs.tables r)) (table_of r rewritten))) exact.holds.cleaned
        ∙ ap (kept_if (cond (has_clean (steps_of r bs)) (is_some (finite.get rs.tables r)) (is_some (finite.get rs.tables r) || is_some rewritten)))
        (overlay_exact m (steps_of r bs) (table_of r (finite.get rs.tables r)) (table_of r rewritten) exact)
        ∙ sym (ap (λ b. cond b (overlaid_table r (steps_of r bs) (finite.get rs.tables r) rewritten) rewritten) (sym (ex.marked r) ∙ ap is_some is))
