-- What was read, with one more batch or with a newer neighbor.
use Rattle.raft_contexts.proofs.Common.{◌≡◌, ◌≢◌, ℕ, ◌+◌, ◌≤◌, true, false, List, [], ◌∷◌, ◌++◌, Option, Some, None, Ok, Err, refl, sym, ap, subst, ◌∙◌, inl, inr, arith, append-nil, nat_cmp, AllByRecursion, unwrap_or, nat_cmp_total}
use Rattle.raft_contexts.proofs.Common.{nat_cmp-IsAntisymmetric, Error, LogQueue, Item, AtomicGroupStatus, fresh, other, after, Event, GroupMarker, batch_of, batches, marker_in, Context, FileRange, Suits, files_of, follows, joined_files}
use Rattle.raft_contexts.proofs.Common.{AreExact, StandsFor, AreMerged, merged_with, completed_steps, region_steps_or, taken_in, AreInFile, HaveStatus, IsSoundIn, IsStepOfQueue, records_in, StandForSteps, AreJoined, MarkedRegions}
use Rattle.raft_contexts.proofs.Common.{region_in, regions_after, region_steps_of_whole, region_steps_of_wholes, all_records, waiting_records, records_or, RegionStep, steps_of_items, cleaned_by_steps, WholeGroup, without_marker}
use Rattle.raft_contexts.proofs.Common.{joined_group, whole_group, one_marker, WaitingGroups, known_of, groups_in, groups_after, whole_groups, joined_groups, exact_reading, no_steps, regions_stand, each-append, items_in_queue}
use Rattle.raft_contexts.proofs.Common.{whole_in_queue, holds_none, read_records, whole_group-records, wholes-records, one_weight, stand_after, stand_joined, files-back, files_follow, IsNextEvent, taken_stands, total-insert, named-steps}
use Rattle.raft_contexts.proofs.Common.{joined_weight, waiting_known, merged_waiting, weight, live_in_all, some_is, none_some, marker_found, AreStepsOfQueue, IsStepsFault, AreAlone, AreOfSteps, IsOfHistory, CanTakeEffect}
use Rattle.raft_contexts.proofs.Common.{CanTakeEffectIfAny, reading_on, MayFollow, records_held, IsBatchFault, AreNeighbors, IsNeighborFault, AreCountsAfterSteps, IsJoinFault, live-none, regions_in, context_in, ranges_shown, MarkedTables}
use Rattle.raft_contexts.proofs.Common.{is_some, option_map, Append, Rewrite, taken_with, IsTakenIn, AreWholesTaken, ReadState}
use Rattle.std.specs.FinMap as finite
use Rattle.raft_base.specs.declared.errors.Error.TheVariants as errors
use Rattle.raft_contexts.proofs.LiveSteps.{live-le-all}
use Rattle.raft_contexts.proofs.WholeFiles.{batch_takes, wholes_take, no_wholes}

pub next_of : (c : Context) (e : Event) → MayFollow c e → IsNextEvent c e
next_of c e m = record { suits = m.queue; follows = m.files; in_file = m.items; status = m.markers }

-- a batch that was tested may come next
pub may_follow : (c : Context) (e : Event) → Suits e.file.queue c.files → follows c.files (files_of (e ∷ [])) ≡ true → AreInFile e.file e.items → HaveStatus e.file.queue e.items → MayFollow c e
may_follow c e suits files items markers = record { queue = suits; files = files; items = items; markers = markers }

-- ---- no record of the other queue

-- without files there are no tables
untabled : (c : Context) (h : List Event) → StandsFor c h → c.files ≡ None → (r : ℕ) → finite.get c.regions.tables r ≡ None
untabled c [] st none r = sym (some_is (ap (after Append r None) (sym (no_steps r)) ∙ exact_reading Append c.regions [] ((st.stands Append (subst (Suits Append) (sym none) tt)).append refl) r))
untabled c (e ∷ h) st none r = absurd (none_some (sym none ∙ st.files))

pub alone_of : (q : LogQueue) (c : Context) → IsOfHistory c → Suits q c.files → live_in_all (other q) c.regions.tables ≡ 0
alone_of q c r u = go c.files refl u r.alone
  where
    go : (f : Option FileRange) → c.files ≡ f → Suits q f → AreAlone f c.regions.tables → live_in_all (other q) c.regions.tables ≡ 0
    go None e u a = ap (live_in_all (other q)) (finite.same_map nat_cmp_total nat_cmp-IsAntisymmetric c.regions.tables finite.empty (λ r'. untabled c r.history r.stands e r' ∙ sym (finite.get-empty nat_cmp r'))) ∙ live-none (other q)
    go (Some f) e u a = subst (λ q. live_in_all (other q) c.regions.tables ≡ 0) u a

-- ---- marks and tables of some steps

-- without files every region is as no step leaves it
blank : (q : LogQueue) (c : Context) (h : List Event) → StandsFor c h → c.files ≡ None → StandForSteps q c.regions
blank q c (e ∷ h) st none = λ r. absurd (none_some (sym none ∙ st.files))
blank q c [] st none = λ r. ([], tt, holds_none q r (region_in c.regions r) (ap (λ m. unwrap_or m fresh) (is_none _ (exact.marked r ∙ (named-steps r []).1 (no_steps r)))) (untabled c [] st none r))
  where
    exact : AreExact Append c.regions []
    exact = (st.stands Append (subst (Suits Append) (sym none) tt)).append refl

    is_none : {X : Type 0} (o : Option X) → is_some o ≡ false → o ≡ None
    is_none None e = refl
    is_none (Some x) e = cc

pub steps_of_read : (q : LogQueue) (c : Context) → IsOfHistory c → Suits q c.files → StandForSteps q c.regions
steps_of_read q c r u = go c.files refl u r.steps
  where
    go : (f : Option FileRange) → c.files ≡ f → Suits q f → AreOfSteps f c.regions → StandForSteps q c.regions
    go None e u a = blank q c r.history r.stands e
    go (Some f) e u a = subst (λ q. StandForSteps q c.regions) u a

-- what a batch makes whole waited before, or is its own
pub whole_records : (groups : WaitingGroups) (g : ℕ) (s : AtomicGroupStatus) (is : List RegionStep) (f : ℕ) → records_or (whole_group (known_of groups g) (one_marker s is f)) ≤ waiting_records groups + records_in is
whole_records groups g s is f = omega (arith, joined_weight (known_of groups g) (one_marker s is f), total-insert weight groups g without_marker, waiting_known groups g, one_weight s is f)

found_none : (q : LogQueue) (items : List Item) → marker_found q items ≡ None → marker_in q items ≡ None
found_none Append items e = refl
found_none Rewrite items e = ap (option_map {U = GroupMarker} (λ m. record { group = m.0; status = m.1 })) e

found_some : (q : LogQueue) (items : List Item) (id : ℕ) (s : AtomicGroupStatus) → marker_found q items ≡ Some (id, s) → (q ≡ Rewrite) × (marker_in q items ≡ Some (record { group = id; status = s }))
found_some Append items id s e = absurd cc
found_some Rewrite items id s e = (refl, ap (option_map {U = GroupMarker} (λ m. record { group = m.0; status = m.1 })) e)

by_fields : (d : Context) (groups : WaitingGroups) (cleaned : List ℕ) (files : Option FileRange) → d.groups ≡ groups → d.cleaned ≡ cleaned → d.files ≡ files
    → d ≡ record { regions = d.regions; groups = groups; cleaned = cleaned; files = files }
by_fields d groups cleaned files g l f = rw (← g, ← l, ← f) refl

or_records : (w : Option WholeGroup) → records_in (region_steps_or w) ≤ records_or w
or_records None = omega arith
or_records (Some w) = omega (arith, whole_group-records w)

-- what takes effect with a batch waited before, or is its own
pub completed_records : (c : Context) (e : Event) → records_in (completed_steps c.groups (batch_of e) (batch_of e).marker) ≤ waiting_records c.groups + records_in (steps_of_items e.items)
completed_records c e = go (batch_of e).marker
  where
    go : (m : Option GroupMarker) → records_in (completed_steps c.groups (batch_of e) m) ≤ waiting_records c.groups + records_in (steps_of_items e.items)
    go None = omega arith
    go (Some m) = omega (arith, or_records (whole_group (known_of c.groups m.group) (one_marker m.status (steps_of_items e.items) e.file.seq)), whole_records c.groups m.group m.status (steps_of_items e.items) e.file.seq)

-- the steps that take effect with a batch, in its queue
pub record IsEffect (c : Context) (e : Event) (q : LogQueue) (steps : List RegionStep) : Type 0 where
  pub queue : e.file.queue ≡ q
  pub completed : completed_steps c.groups (batch_of e) (batch_of e).marker ≡ steps

pub lone_effect : (c : Context) (e : Event) → marker_found e.file.queue e.items ≡ None → IsEffect c e e.file.queue (steps_of_items e.items)
lone_effect c e m = record { queue = refl; completed = ap (completed_steps c.groups (batch_of e)) (found_none e.file.queue e.items m) }

pub group_effect : (c : Context) (e : Event) (id : ℕ) (s : AtomicGroupStatus) (is : List RegionStep) (w : Option WholeGroup) → marker_found e.file.queue e.items ≡ Some (id, s)
    → is ≡ steps_of_items e.items → w ≡ whole_group (known_of c.groups id) (one_marker s is e.file.seq) → IsEffect c e Rewrite (region_steps_or w)
group_effect c e id s is w m items whole =
    let f = found_some e.file.queue e.items id s m in
    record { queue = f.0; completed = ap (completed_steps c.groups (batch_of e)) f.1 ∙ ap (λ x. region_steps_or (whole_group (known_of c.groups id) (one_marker s x e.file.seq))) (sym items) ∙ ap region_steps_or (sym whole) }

-- why a batch is refused that may come next
pub effect_fault : (c : Context) (e : Event) (q : LogQueue) (steps : List RegionStep) → IsEffect c e q steps → IsOfHistory c → MayFollow c e → (x : Error) → IsStepsFault q c.regions steps x → IsBatchFault (reading_on c) e x
effect_fault c e q steps is r n x f = go x (subst (λ q. IsStepsFault q c.regions (completed_steps c.groups (batch_of e) (batch_of e).marker) x) (sym is.queue) (subst (λ l. IsStepsFault q c.regions l x) (sym is.completed) f))
  where
    go : (x : Error) → IsStepsFault e.file.queue c.regions (completed_steps c.groups (batch_of e) (batch_of e).marker) x → IsBatchFault (reading_on c) e x
    go (errors.Corruption text) f = inr (ap (option_map (taken_with c e)) f)
    go (errors.InvalidArgument text) f = absurd (omega (arith, f, alone_of e.file.queue c r n.queue))
    go errors.Full f = (n, f)
    go errors.Memory f = tt
    go _ f = absurd f

pub refused : (e : Event) (x : Error) (old new : ReadState) → IsBatchFault (reading_on (context_in old)) e x → IsTakenIn e (Err x) old new
refused e x old new f = record { next = tt; taken = tt; counts = tt; history = tt; fault = f }

-- what a batch with a marker makes whole may be taken in
pub group_takes : (c : Context) (e : Event) (id : ℕ) (s : AtomicGroupStatus) (is : List RegionStep) (w : Option WholeGroup) → IsOfHistory c → MayFollow c e → marker_found e.file.queue e.items ≡ Some (id, s)
    → is ≡ steps_of_items e.items → w ≡ whole_group (known_of c.groups id) (one_marker s is e.file.seq) → CanTakeEffectIfAny w
group_takes c e id s is w r n m items whole = subst CanTakeEffectIfAny (sym (whole ∙ ap (λ x. whole_group (known_of c.groups id) (one_marker s x e.file.seq)) items))
    (batch_takes c r.history e (record { group = id; status = s }) r.stands (next_of c e n) (found_some e.file.queue e.items id s m).0)

-- the steps that take effect with a batch are of its queue
completed_in_queue : (c : Context) (e : Event) → IsOfHistory c → MayFollow c e → AreStepsOfQueue e.file.queue (completed_steps c.groups (batch_of e) (batch_of e).marker)
completed_in_queue c e r n = go (batch_of e).marker refl
  where
    of : (w : Option WholeGroup) → CanTakeEffectIfAny w → AreStepsOfQueue Rewrite (region_steps_or w)
    of None t = tt
    of (Some w) t = whole_in_queue Rewrite w t.steps

    in_rewrite : (q : LogQueue) (m : GroupMarker) → marker_in q e.items ≡ Some m → q ≡ Rewrite
    in_rewrite Append m is = absurd cc
    in_rewrite Rewrite m is = refl

    go : (m : Option GroupMarker) → (batch_of e).marker ≡ m → AreStepsOfQueue e.file.queue (completed_steps c.groups (batch_of e) m)
    go None is = items_in_queue e.file.queue e.file e.items refl n.items
    go (Some m) is = let queue = in_rewrite e.file.queue m is in
        subst (λ q. AreStepsOfQueue q (region_steps_or (whole_group (known_of c.groups m.group) (one_marker m.status (steps_of_items e.items) e.file.seq)))) (sym queue)
        (of (whole_group (known_of c.groups m.group) (one_marker m.status (steps_of_items e.items) e.file.seq)) (batch_takes c r.history e m r.stands (next_of c e n) queue))

-- files of one queue behind files of that queue are of it
joined_suit : (q : LogQueue) (P : Option FileRange → Type 0) → P None → ((f : FileRange) → f.queue ≡ q → P (Some f)) → (f g : Option FileRange) → Suits q f → Suits q g → P (joined_files f g)
joined_suit q P none some None None u v = none
joined_suit q P none some None (Some g) u v = some g v
joined_suit q P none some (Some f) None u v = some f u
joined_suit q P none some (Some f) (Some g) u v = some (record { queue = f.queue; first_seq = f.first_seq; last_seq = g.last_seq }) u

read_from : (q : LogQueue) (c : Context) (h : List Event) (f g : Option FileRange) → StandsFor c h → c.files ≡ joined_files f g → Suits q f → Suits q g
    → live_in_all (other q) c.regions.tables ≡ 0 → StandForSteps q c.regions → IsOfHistory c
read_from q c h f g stands files u v alone steps = record {
  history = h;
  stands = stands;
  alone = subst (λ x. AreAlone x c.regions.tables) (sym files) (joined_suit q (λ x. AreAlone x c.regions.tables) tt (λ r k. subst (λ q. live_in_all (other q) c.regions.tables ≡ 0) (sym k) alone) f g u v);
  steps = subst (λ x. AreOfSteps x c.regions) (sym files) (joined_suit q (λ x. AreOfSteps x c.regions) tt (λ r k. subst (λ q. StandForSteps q c.regions) (sym k) steps) f g u v);
}

-- what takes effect with a batch was taken in
pub effect_taken : (old new : ReadState) (e : Event) (q : LogQueue) (steps : List RegionStep) → IsEffect (context_in old) e q steps → IsOfHistory (context_in old) → MayFollow (context_in old) e
    → regions_after q (regions_in old.regions) steps ≡ Some (regions_in new.regions)
    → AreCountsAfterSteps q old.regions.accessor.tables steps old.regions.accessor.counts new.regions.accessor.counts
    → live_in_all (other q) new.regions.accessor.tables ≤ live_in_all (other q) old.regions.accessor.tables → context_in new ≡ taken_with (context_in old) e (regions_in new.regions) → IsTakenIn e (Ok tt) old new
effect_taken old new e q steps is r n after counts few to = record {
  next = n;
  taken = taken;
  counts = subst (λ q. AreCountsAfterSteps q c.regions.tables (completed_steps c.groups (batch_of e) (batch_of e).marker) old.regions.accessor.counts new.regions.accessor.counts) (sym is.queue)
      (subst (λ l. AreCountsAfterSteps q c.regions.tables l old.regions.accessor.counts new.regions.accessor.counts) (sym is.completed) counts);
  history = read_from e.file.queue (context_in new) (r.history ++ e ∷ []) c.files (files_of (e ∷ [])) (taken_stands c (context_in new) r.history e (next_of c e n) r.stands taken)
      (ap (λ (d : Context). d.files) to) n.queue refl (omega (arith, fewer, alone_of e.file.queue c r n.queue))
      (stand_after e.file.queue c.regions (regions_in new.regions) (completed_steps c.groups (batch_of e) (batch_of e).marker) (completed_in_queue c e r n) (steps_of_read e.file.queue c r n.queue) own);
  fault = tt;
}
  where
    c : Context
    c = context_in old

    own : regions_after e.file.queue c.regions (completed_steps c.groups (batch_of e) (batch_of e).marker) ≡ Some (regions_in new.regions)
    own = ap (regions_after e.file.queue c.regions) is.completed ∙ ap (λ q. regions_after q c.regions steps) is.queue ∙ after

    taken : taken_in c e ≡ Some (context_in new)
    taken = ap (option_map (taken_with c e)) own ∙ ap Some (sym to)

    fewer : live_in_all (other e.file.queue) new.regions.accessor.tables ≤ live_in_all (other e.file.queue) old.regions.accessor.tables
    fewer = subst (λ q. live_in_all (other q) new.regions.accessor.tables ≤ live_in_all (other q) old.regions.accessor.tables) (sym is.queue) few

-- a batch without a marker
pub lone_taken : (old new : ReadState) (e : Event) → IsOfHistory (context_in old) → MayFollow (context_in old) e → marker_found e.file.queue e.items ≡ None
    → regions_after e.file.queue (regions_in old.regions) (steps_of_items e.items) ≡ Some (regions_in new.regions)
    → AreCountsAfterSteps e.file.queue old.regions.accessor.tables (steps_of_items e.items) old.regions.accessor.counts new.regions.accessor.counts
    → live_in_all (other e.file.queue) new.regions.accessor.tables ≤ live_in_all (other e.file.queue) old.regions.accessor.tables
    → new.regions.accessor.cleaned ≡ old.regions.accessor.cleaned ++ cleaned_by_steps e.file.queue (steps_of_items e.items)
    → new.groups ≡ old.groups → ranges_shown new.files ≡ joined_files (ranges_shown old.files) (files_of (e ∷ [])) → IsTakenIn e (Ok tt) old new
lone_taken old new e r n m after counts few cleaned groups files = effect_taken old new e e.file.queue (steps_of_items e.items) (lone_effect (context_in old) e m) r n after counts few
    (by_fields (context_in new) _ _ _ (groups ∙ sym (ap (groups_after old.groups (batch_of e)) (found_none e.file.queue e.items m))) cleaned files)

-- a batch with a marker
pub group_taken : (old new : ReadState) (e : Event) (id : ℕ) (s : AtomicGroupStatus) (is : List RegionStep) (w : Option WholeGroup) → IsOfHistory (context_in old) → MayFollow (context_in old) e
    → marker_found e.file.queue e.items ≡ Some (id, s) → is ≡ steps_of_items e.items → w ≡ whole_group (known_of old.groups id) (one_marker s is e.file.seq)
    → regions_after Rewrite (regions_in old.regions) (region_steps_or w) ≡ Some (regions_in new.regions)
    → AreCountsAfterSteps Rewrite old.regions.accessor.tables (region_steps_or w) old.regions.accessor.counts new.regions.accessor.counts
    → live_in_all Append new.regions.accessor.tables ≤ live_in_all Append old.regions.accessor.tables → new.regions.accessor.cleaned ≡ old.regions.accessor.cleaned
    → new.groups ≡ finite.insert old.groups id (joined_group (known_of old.groups id) (one_marker s is e.file.seq))
    → ranges_shown new.files ≡ joined_files (ranges_shown old.files) (files_of (e ∷ [])) → IsTakenIn e (Ok tt) old new
group_taken old new e id s is w r n m items whole after counts few cleaned groups files =
    let f = found_some e.file.queue e.items id s m in
    effect_taken old new e Rewrite (region_steps_or w) (group_effect (context_in old) e id s is w m items whole) r n after counts few
    (by_fields (context_in new) _ _ _
    (groups ∙ ap (λ x. finite.insert old.groups id (joined_group (known_of old.groups id) (one_marker s x e.file.seq))) items ∙ sym (ap (groups_after old.groups (batch_of e)) f.1))
    (cleaned ∙ sym (append-nil old.regions.accessor.cleaned) ∙ ap (λ q. old.regions.accessor.cleaned ++ cleaned_by_steps q (batch_of e).steps) (sym f.0)) files)

-- what two neighbors make whole
abbrev pub both_wholes : Context → Context → List WholeGroup
both_wholes c d = whole_groups c.groups d.groups

pub sound_of : (q : LogQueue) (c : Context) (r : IsOfHistory c) → Suits q c.files → IsSoundIn q r.history
sound_of q c r u = (r.stands.stands q u).sound

wholes_none : (c d : Context) (r : IsOfHistory d) → Suits Append d.files → both_wholes c d ≡ []
wholes_none c d r u = ap (whole_groups c.groups) r.stands.groups ∙ no_wholes c.groups r.history (sound_of Append d r u).files

pub merge_takes : (q : LogQueue) (c d : Context) → IsOfHistory c → IsOfHistory d → AreNeighbors q c d → AllByRecursion CanTakeEffect (both_wholes c d)
merge_takes Append c d r s n = subst (AllByRecursion CanTakeEffect) (sym (wholes_none c d s n.newer)) tt
merge_takes Rewrite c d r s n = subst (λ g. AllByRecursion CanTakeEffect (whole_groups g d.groups)) (sym r.stands.groups) (subst (λ g. AllByRecursion CanTakeEffect (whole_groups (groups_in (batches r.history)) g)) (sym s.stands.groups)
    (wholes_take r.history s.history (sound_of Rewrite c r n.older).files (sound_of Rewrite c r n.older).items (sound_of Rewrite d s n.newer).files (sound_of Rewrite d s n.newer).items
    (files-back Rewrite 0 r.history s.history (files_follow Rewrite r.history s.history (sound_of Rewrite c r n.older).files (sound_of Rewrite d s n.newer).files
    (ap (λ f. follows f (files_of s.history)) (sym r.stands.files) ∙ ap (follows c.files) (sym s.stands.files) ∙ n.files)))))

-- the append queue has none, so these are steps of either queue
pub either_queue : (q : LogQueue) (c d : Context) → IsOfHistory d → AreNeighbors q c d → regions_after Rewrite c.regions (region_steps_of_wholes (both_wholes c d)) ≡ regions_after q c.regions (region_steps_of_wholes (both_wholes c d))
either_queue Append c d s n = ap (λ ws. regions_after Rewrite c.regions (region_steps_of_wholes ws)) (wholes_none c d s n.newer) ∙ sym (ap (λ ws. regions_after Append c.regions (region_steps_of_wholes ws)) (wholes_none c d s n.newer))
either_queue Rewrite c d s n = refl

wholes_in_queue : (q : LogQueue) (c d : Context) → IsOfHistory c → IsOfHistory d → AreNeighbors q c d → AreStepsOfQueue q (region_steps_of_wholes (both_wholes c d))
wholes_in_queue Append c d r s n = subst (λ ws. AreStepsOfQueue Append (region_steps_of_wholes ws)) (sym (wholes_none c d s n.newer)) tt
wholes_in_queue Rewrite c d r s n = all (both_wholes c d) (merge_takes Rewrite c d r s n)
  where
    all : (ws : List WholeGroup) → AllByRecursion CanTakeEffect ws → AreStepsOfQueue Rewrite (region_steps_of_wholes ws)
    all [] t = tt
    all (w ∷ ws) t = each-append (λ (i : RegionStep). IsStepOfQueue Rewrite i.step) (region_steps_of_whole w) (region_steps_of_wholes ws) (whole_in_queue Rewrite w t.0.steps) (all ws t.1)

-- behind what two neighbors make whole
pub record IsMiddle (q : LogQueue) (c d : Context) (middle : MarkedRegions) : Type 0 where
  pub older : IsOfHistory c
  pub newer : IsOfHistory d
  pub neighbors : AreNeighbors q c d
  pub taken : regions_after Rewrite c.regions (region_steps_of_wholes (both_wholes c d)) ≡ Some middle
  pub few : live_in_all Append middle.tables ≤ live_in_all Append c.regions.tables

pub middle_of : (q : LogQueue) (s : ReadState) (d : Context) (ws : List WholeGroup) (new : MarkedTables) → IsOfHistory (context_in s) → IsOfHistory d → AreNeighbors q (context_in s) d
    → ws ≡ both_wholes (context_in s) d → AreWholesTaken (region_steps_of_wholes ws) (Ok tt) s.regions new → IsMiddle q (context_in s) d (regions_in new)
middle_of q s d ws new r t n is taken = record {
  older = r;
  newer = t;
  neighbors = n;
  taken = subst (λ ws. regions_after Rewrite (regions_in s.regions) (region_steps_of_wholes ws) ≡ Some (regions_in new)) is taken.taken;
  few = taken.other;
}

pub middle_alone : (q : LogQueue) (c d : Context) (middle : MarkedRegions) → IsMiddle q c d middle → live_in_all (other q) middle.tables ≡ 0
middle_alone Rewrite c d middle m = omega (arith, m.few, alone_of Rewrite c m.older m.neighbors.older)
middle_alone Append c d middle m = subst (λ (x : MarkedRegions). live_in_all Rewrite x.tables ≡ 0)
    (some_is (sym (ap (λ ws. regions_after Rewrite c.regions (region_steps_of_wholes ws)) (wholes_none c d m.newer m.neighbors.newer)) ∙ m.taken))
    (alone_of Append c m.older m.neighbors.older)

pub middle_steps : (q : LogQueue) (c d : Context) (middle : MarkedRegions) → IsMiddle q c d middle → StandForSteps q middle
middle_steps q c d middle m = stand_after q c.regions middle (region_steps_of_wholes (both_wholes c d))
    (wholes_in_queue q c d m.older m.newer m.neighbors) (steps_of_read q c m.older m.neighbors.older)
    (sym (either_queue q c d m.newer m.neighbors) ∙ m.taken)

pub middle_records : (q : LogQueue) (c d : Context) (middle : MarkedRegions) → IsMiddle q c d middle → all_records middle.tables ≤ records_held c + waiting_records d.groups
middle_records q c d middle m = omega (arith, read_records Rewrite c.regions middle (region_steps_of_wholes (both_wholes c d)) m.taken, wholes-records (both_wholes c d), merged_waiting c.groups d.groups)

-- the groups are refused
pub wholes_fault : (q : LogQueue) (c d : Context) → IsOfHistory c → IsOfHistory d → AreNeighbors q c d → both_wholes c d ≢ [] → (x : Error) →
    IsStepsFault Rewrite c.regions (region_steps_of_wholes (both_wholes c d)) x → IsNeighborFault q (reading_on c) (reading_on d) x
wholes_fault Append c d r s n some x f = absurd (some (wholes_none c d s n.newer))
wholes_fault Rewrite c d r s n some (errors.Corruption text) f = ((n.older, n.newer), inr (inl f))
wholes_fault Rewrite c d r s n some (errors.InvalidArgument text) f = absurd (omega (arith, f, alone_of Rewrite c r n.older))
wholes_fault Rewrite c d r s n some errors.Full f = (n, omega (arith, f, live-le-all Rewrite c.regions.tables, wholes-records (both_wholes c d), merged_waiting c.groups d.groups))
wholes_fault Rewrite c d r s n some errors.Memory f = tt
wholes_fault Rewrite c d r s n some _ f = absurd f

-- a region's join is refused
pub join_fault : (q : LogQueue) (c d : Context) (middle : MarkedRegions) → IsMiddle q c d middle → (x : Error) →
    (StandForSteps q middle → StandForSteps q d.regions → IsJoinFault q middle d.regions x) → IsNeighborFault q (reading_on c) (reading_on d) x
join_fault q c d middle m x h = go x (h (middle_steps q c d middle m) (steps_of_read q d m.newer m.neighbors.newer))
  where
    go : (x : Error) → IsJoinFault q middle d.regions x → IsNeighborFault q (reading_on c) (reading_on d) x
    go (errors.Corruption text) f = ((m.neighbors.older, m.neighbors.newer), inr (inr (middle, sym (either_queue q c d m.newer m.neighbors) ∙ m.taken, f)))
    go errors.Full f = (m.neighbors, omega (arith, f, middle_records q c d middle m))
    go errors.Memory f = tt
    go _ f = absurd f

-- the regions are joined
pub join_merged : (q : LogQueue) (c d : Context) (middle new : MarkedRegions) → IsMiddle q c d middle → (StandForSteps q middle → StandForSteps q d.regions → AreJoined q middle d.regions new) → AreMerged q c d new
join_merged q c d middle new m h = let j = h (middle_steps q c d middle m) (steps_of_read q d m.newer m.neighbors.newer) in
    record { middle = middle; wholes = sym (either_queue q c d m.newer m.neighbors) ∙ m.taken; regions = j.regions; marked = j.marked }

-- both were read from both histories, one behind the other
pub join_read : (q : LogQueue) (c d new : Context) (middle : MarkedRegions) → IsMiddle q c d middle → (StandForSteps q middle → StandForSteps q d.regions → AreJoined q middle d.regions new.regions)
    → new ≡ merged_with c d new.regions → live_in_all (other q) new.regions.tables ≡ 0 → IsOfHistory new
join_read q c d new middle m h is alone = read_from q new (m.older.history ++ m.newer.history) c.files d.files
    (subst (λ x. StandsFor x (m.older.history ++ m.newer.history)) (sym is) (regions_stand q c d m.older.history m.newer.history new.regions
    (record { older_suits = m.neighbors.older; newer_suits = m.neighbors.newer; older = m.older.stands; newer = m.newer.stands }) m.neighbors.files (join_merged q c d middle new.regions m h)))
    (ap (λ (x : Context). x.files) is) m.neighbors.older m.neighbors.newer alone (stand_joined q middle d.regions new.regions steps own (h steps own))
  where
    steps : StandForSteps q middle
    steps = middle_steps q c d middle m

    own : StandForSteps q d.regions
    own = steps_of_read q d m.newer m.neighbors.newer

pub merged_by : (c d new : Context) → new.groups ≡ joined_groups c.groups d.groups → new.cleaned ≡ c.cleaned ++ d.cleaned → new.files ≡ joined_files c.files d.files → new ≡ merged_with c d new.regions
merged_by c d new groups cleaned files = by_fields new (joined_groups c.groups d.groups) (c.cleaned ++ d.cleaned) (joined_files c.files d.files) groups cleaned files
