-- What waits, and what becomes whole, is of the queue.
use Rattle.raft_history.proofs.Common.{Begin, Middle, End, ◌≡◌, ℕ, suc, List, [], ◌∷◌, ◌++◌, Option, Some, None, sym, subst, AllByRecursion, cons_option, FileId, LogQueue, AtomicGroup, AtomicGroupStatus, GroupMarker, BatchSteps, Event}
use Rattle.raft_history.proofs.Common.{batches, AreInFile, FilesFrom, IsStepOfQueue, Numbered, numbered_from, markers_of, open_stretch, named_regions, on_each, region_steps_of_whole, region_steps_of_wholes, RegionStep, steps_of_items}
use Rattle.raft_history.proofs.Common.{GroupFront, Open, Ended, Begun, led_by, front_by, front_behind, front_of, OpenStretch, stretch_of, WaitingGroup, WholeGroup, whole_of, whole_group_by, whole_group, group_in, groups_in, known_of}
use Rattle.raft_history.proofs.Common.{whole_with, whole_groups, front_steps, stretch_steps, Item}
use Rattle.std.specs.FinMap as finite
use Rattle.raft_history.proofs.Words.{AreInFiles}
use Rattle.raft_history.proofs.EffectLemmas.{each-append, each_flat, each_markers, each_open, each_weaker}
use Rattle.raft_history.proofs.KnownLemmas.{known-groups_in, each_known}
use Rattle.raft_history.proofs.ReadItemLemmas.{IsStepInFile, is_of_queue, steps_in_file}

abbrev Are : LogQueue → List RegionStep → Type 0
Are q is = AllByRecursion (λ (i : RegionStep). IsStepOfQueue q i.step) is

are-append : (q : LogQueue) (is js : List RegionStep) → Are q is → Are q js → Are q (is ++ js)
are-append q is js a b = each-append (λ (i : RegionStep). IsStepOfQueue q i.step) is js a b

abbrev IsOf : LogQueue → Numbered → Type 0
IsOf q p = Are q p.batch.steps

abbrev pub Holds : LogQueue → WaitingGroup → Type 0
Holds q g = Are q (front_steps g.front) × Are q (stretch_steps g.stretch)

front_are : (q : LogQueue) (ps : List Numbered) → AllByRecursion (IsOf q) ps → Are q (front_steps (front_of ps))
unfolding front_of
front_are q [] h = tt
front_are q (p ∷ ps) h = go p.batch.marker (front_are q ps h.1)
  where
    led : (f : GroupFront) → Are q (front_steps f) → Are q (front_steps (led_by p.batch.steps f))
    led (Open js) k = are-append q p.batch.steps js h.0 k
    led (Ended js n) k = are-append q p.batch.steps js h.0 k
    led Begun k = tt

    by : (s : AtomicGroupStatus) → Are q (front_steps (front_of ps)) → Are q (front_steps (front_by s p.batch.steps p.batch.seq (front_of ps)))
    by Begin k = tt
    by Middle k = led (front_of ps) k
    by End k = h.0

    go : (m : Option GroupMarker) → Are q (front_steps (front_of ps)) → Are q (front_steps (front_behind m p.batch.steps p.batch.seq (front_of ps)))
    go None k = tt
    go (Some m) k = by m.status k

stretch_are : (q : LogQueue) (ps : List Numbered) → AllByRecursion (IsOf q) ps → Are q (stretch_steps (stretch_of ps))
stretch_are q [] h = tt
stretch_are q (p ∷ ps) h = each_flat (λ (i : RegionStep). IsStepOfQueue q i.step) (λ (p : Numbered). p.batch.steps) (p ∷ ps) h

group_holds : (q : LogQueue) (g : ℕ) (bs : List BatchSteps) → AllByRecursion (IsOf q) (numbered_from 0 bs) → Holds q (group_in g bs)
group_holds q g bs h = (
  front_are q (markers_of g (numbered_from 0 bs)) (each_markers (IsOf q) g (numbered_from 0 bs) h),
  stretch_are q (open_stretch (markers_of g (numbered_from 0 bs)))
      (each_open (IsOf q) (markers_of g (numbered_from 0 bs)) (each_markers (IsOf q) g (numbered_from 0 bs) h)),
)

abbrev pub OrAre : LogQueue → Option WholeGroup → Type 0
OrAre q None = Unit {0}
OrAre q (Some w) = Are q w.steps

whole_are : (q : LogQueue) (a b : WaitingGroup) → Holds q a → Holds q b → OrAre q (whole_group a b)
whole_are q a b h k = go a.front a.stretch b.front h.1 k.0
  where
    of : (s : Option OpenStretch) (g : GroupFront) → Are q (stretch_steps s) → Are q (front_steps g) → OrAre q (whole_of s g)
    of None g a b = tt
    of (Some s) (Ended is f) a b = are-append q s.steps is a b
    of (Some s) _ a b = tt

    go : (f : GroupFront) (s : Option OpenStretch) (g : GroupFront) → Are q (stretch_steps s) → Are q (front_steps g) → OrAre q (whole_group_by f s g)
    go (Open is) s g a b = tt
    go _ s g a b = of s g a b

spans_are : (q : LogQueue) (rs : List ℕ) (first_seq last_seq : ℕ) → Are q (on_each rs (AtomicGroup first_seq last_seq))
spans_are q [] s e = tt
spans_are q (r ∷ rs) s e = (tt, spans_are q rs s e)

pub items_in_queue : (q : LogQueue) (file : FileId) (items : List Item) → file.queue ≡ q → AreInFile file items → Are q (steps_of_items items)
items_in_queue q file items e h =
    subst (λ q. Are q (steps_of_items items)) e (each_weaker (λ i. IsStepInFile file i.step) (λ i. IsStepOfQueue file.queue i.step) (λ i k. is_of_queue file i.step k) (steps_of_items items) (steps_in_file file items h))

placed_are : (q : LogQueue) (n m : ℕ) (h : List Event) → FilesFrom q n h → AreInFiles h → AllByRecursion (IsOf q) (numbered_from m (batches h))
placed_are q n m [] f a = tt
placed_are q n m (e ∷ h) f a = (items_in_queue q e.file e.items f.0 a.0, placed_are q e.file.seq (suc m) h f.2 a.1)

pub known_holds : (q : LogQueue) (g : ℕ) (h : List Event) → FilesFrom q 0 h → AreInFiles h → Holds q (known_of (groups_in (batches h)) g)
known_holds q g h f a = subst (Holds q) (sym (known-groups_in g (batches h))) (group_holds q g (batches h) (placed_are q 0 0 h f a))

pub whole_in_queue : (q : LogQueue) (w : WholeGroup) → Are q w.steps → Are q (region_steps_of_whole w)
whole_in_queue q w h = are-append q w.steps (on_each (named_regions w.steps) (AtomicGroup w.first_seq w.last_seq)) h (spans_are q (named_regions w.steps) w.first_seq w.last_seq)

pub wholes_in_queue : (q : LogQueue) (h k : List Event) → FilesFrom q 0 h → AreInFiles h → FilesFrom q 0 k → AreInFiles k → Are q (region_steps_of_wholes (whole_groups (groups_in (batches h)) (groups_in (batches k))))
wholes_in_queue q h k f a g b = all (finite.entries (groups_in (batches k)))
    (each_weaker _ (λ (e : ℕ × WaitingGroup). Holds q e.1) (λ e x. subst (Holds q) (sym x.1) (group_holds q e.0 (batches k) (placed_are q 0 0 k g b)))
    (finite.entries (groups_in (batches k))) (each_known (batches k)))
  where
    one : (o : Option WholeGroup) (ws : List WholeGroup) → OrAre q o → Are q (region_steps_of_wholes ws) → Are q (region_steps_of_wholes (cons_option o ws))
    one None ws x y = y
    one (Some w) ws x y = are-append q (region_steps_of_whole w) (region_steps_of_wholes ws) (whole_in_queue q w x) y

    all : (es : List (ℕ × WaitingGroup)) → AllByRecursion (λ (e : ℕ × WaitingGroup). Holds q e.1) es → Are q (region_steps_of_wholes (whole_with (groups_in (batches h)) es))
    all [] x = tt
    all (e ∷ es) x = one (whole_group (known_of (groups_in (batches h)) e.0) e.1) (whole_with (groups_in (batches h)) es) (whole_are q (known_of (groups_in (batches h)) e.0) e.1 (known_holds q e.0 h f a) x.0) (all es x.1)
