-- Groups that become whole: their steps are of the queue, and their files in order.
use Rattle.raft_contexts.proofs.Common.{entries-empty, ◌≡◌, ℕ, suc, ◌≤◌, List, [], ◌∷◌, ◌++◌, Option, Some, None, refl, sym, ap, subst, ◌∙◌, arith, flat_map, AllByRecursion, cons_option, LogQueue, AtomicGroupStatus, GroupMarker, BatchSteps}
use Rattle.raft_contexts.proofs.Common.{Event, batches, Context, Suits, StandsFor, StandsIn, files_of, follows, AreInFiles, FilesFrom, last_from, IsStepOfQueue, Numbered, numbered_from, markers_of, open_stretch, RegionStep, steps_of_items}
use Rattle.raft_contexts.proofs.Common.{GroupFront, Open, Ended, Begun, led_by, front_by, front_behind, front_of, OpenStretch, stretch_of, WaitingGroup, WholeGroup, whole_of, whole_group_by, whole_group, one_marker, group_in, WaitingGroups}
use Rattle.raft_contexts.proofs.Common.{groups_in, known_of, whole_with, whole_groups, front_steps, stretch_steps, group_by, each-append, each_weaker, each_markers, each_open, known-groups_in, each_known, Holds, items_in_queue, known_holds}
use Rattle.raft_contexts.proofs.Common.{files-back, files_follow, IsNextEvent, AreStepsOfQueue, CanTakeEffect, CanTakeEffectIfAny, Append, Rewrite, Begin, Middle, End}
use Rattle.std.specs.FinMap as finite
use Rattle.raft_history.proofs.SoundLemmas.{without_marker}

abbrev StretchUpTo : ℕ → Option OpenStretch → Type 0
StretchUpTo n None = Unit {0}
StretchUpTo n (Some s) = s.first_seq ≤ n

abbrev FrontFrom : ℕ → GroupFront → Type 0
FrontFrom n (Open is) = Unit {0}
FrontFrom n (Ended is f) = n ≤ f
FrontFrom n Begun = Unit {0}

abbrev UpTo : ℕ → Numbered → Type 0
UpTo n p = p.batch.seq ≤ n

abbrev FromOn : ℕ → Numbered → Type 0
FromOn n p = n ≤ p.batch.seq

stretch_up_to : (n : ℕ) (ps : List Numbered) → AllByRecursion (UpTo n) ps → StretchUpTo n (stretch_of ps)
stretch_up_to n [] h = tt
stretch_up_to n (p ∷ ps) h = h.0

front_from : (n : ℕ) (ps : List Numbered) → AllByRecursion (FromOn n) ps → FrontFrom n (front_of ps)
unfolding front_of
front_from n [] h = tt
front_from n (p ∷ ps) h = go p.batch.marker (front_from n ps h.1)
  where
    led : (f : GroupFront) → FrontFrom n f → FrontFrom n (led_by p.batch.steps f)
    led (Open js) k = tt
    led (Ended js m) k = k
    led Begun k = tt

    by : (s : AtomicGroupStatus) → FrontFrom n (front_of ps) → FrontFrom n (front_by s p.batch.steps p.batch.seq (front_of ps))
    by Begin k = tt
    by Middle k = led (front_of ps) k
    by End k = h.0

    go : (m : Option GroupMarker) → FrontFrom n (front_of ps) → FrontFrom n (front_behind m p.batch.steps p.batch.seq (front_of ps))
    go None k = tt
    go (Some m) k = by m.status k

last_le : (q : LogQueue) (n : ℕ) (h : List Event) → FilesFrom q n h → n ≤ last_from n h
last_le q n [] f = omega arith
last_le q n (e ∷ h) f = omega (arith, f.1, last_le q e.file.seq h f.2)

placed_up_to : (q : LogQueue) (n m : ℕ) (h : List Event) → FilesFrom q n h → AllByRecursion (UpTo (last_from n h)) (numbered_from m (batches h))
placed_up_to q n m [] f = tt
placed_up_to q n m (e ∷ h) f = (last_le q e.file.seq h f.2, placed_up_to q e.file.seq (suc m) h f.2)

numbered_from_on : (q : LogQueue) (n m : ℕ) (h : List Event) → FilesFrom q n h → AllByRecursion (FromOn n) (numbered_from m (batches h))
numbered_from_on q n m [] f = tt
numbered_from_on q n m (e ∷ h) f = (f.1, each_weaker (FromOn e.file.seq) (FromOn n) (λ p k. omega (arith, k, f.1)) (numbered_from (suc m) (batches h)) (numbered_from_on q e.file.seq (suc m) h f.2))

known_up_to : (q : LogQueue) (g : ℕ) (h : List Event) → FilesFrom q 0 h → StretchUpTo (last_from 0 h) (known_of (groups_in (batches h)) g).stretch
known_up_to q g h f = subst (λ (w : WaitingGroup). StretchUpTo (last_from 0 h) w.stretch) (sym (known-groups_in g (batches h)))
    (stretch_up_to (last_from 0 h) (open_stretch (markers_of g (numbered_from 0 (batches h))))
    (each_open (UpTo (last_from 0 h)) (markers_of g (numbered_from 0 (batches h)))
    (each_markers (UpTo (last_from 0 h)) g (numbered_from 0 (batches h)) (placed_up_to q 0 0 h f))))

group_from : (q : LogQueue) (g n : ℕ) (h : List Event) → FilesFrom q n h → FrontFrom n (group_in g (batches h)).front
group_from q g n h f = front_from n (markers_of g (numbered_from 0 (batches h))) (each_markers (FromOn n) g (numbered_from 0 (batches h)) (numbered_from_on q n 0 h f))

whole_takes : (n : ℕ) (a b : WaitingGroup) → Holds Rewrite a → Holds Rewrite b → StretchUpTo n a.stretch → FrontFrom n b.front → CanTakeEffectIfAny (whole_group a b)
whole_takes n a b h k x y = go a.front a.stretch b.front h.1 k.0 x y
  where
    of : (s : Option OpenStretch) (g : GroupFront) → AreStepsOfQueue Rewrite (stretch_steps s) → AreStepsOfQueue Rewrite (front_steps g) → StretchUpTo n s → FrontFrom n g → CanTakeEffectIfAny (whole_of s g)
    of None g a b x y = tt
    of (Some s) (Open is) a b x y = tt
    of (Some s) (Ended is f) a b x y = record { steps = each-append (λ (i : RegionStep). IsStepOfQueue Rewrite i.step) s.steps is a b; seqs = omega (arith, x, y) }
    of (Some s) Begun a b x y = tt

    go : (f : GroupFront) (s : Option OpenStretch) (g : GroupFront) → AreStepsOfQueue Rewrite (stretch_steps s) → AreStepsOfQueue Rewrite (front_steps g) → StretchUpTo n s → FrontFrom n g → CanTakeEffectIfAny (whole_group_by f s g)
    go (Open is) s g a b x y = tt
    go (Ended is f) s g a b x y = of s g a b x y
    go Begun s g a b x y = of s g a b x y

-- the group that a batch makes whole
pub batch_takes : (c : Context) (h : List Event) (e : Event) (m : GroupMarker) → StandsFor c h → IsNextEvent c e → e.file.queue ≡ Rewrite →
    CanTakeEffectIfAny (whole_group (known_of c.groups m.group) (one_marker m.status (steps_of_items e.items) e.file.seq))
batch_takes c h e m st n queue = whole_takes (last_from 0 h) (known_of c.groups m.group) (one_marker m.status (steps_of_items e.items) e.file.seq)
    (subst (λ groups. Holds Rewrite (known_of groups m.group)) (sym st.groups) (known_holds Rewrite m.group h own.sound.files own.sound.items))
    (one m.status)
    (subst (λ groups. StretchUpTo (last_from 0 h) (known_of groups m.group).stretch) (sym st.groups) (known_up_to Rewrite m.group h own.sound.files))
    (end m.status)
  where
    own : StandsIn Rewrite c h
    own = st.stands Rewrite (subst (λ q. Suits q c.files) queue n.suits)

    steps : AreStepsOfQueue Rewrite (steps_of_items e.items)
    steps = items_in_queue Rewrite e.file e.items queue n.in_file

    one : (s : AtomicGroupStatus) → Holds Rewrite (one_marker s (steps_of_items e.items) e.file.seq)
    one Begin = (tt, steps)
    one Middle = (steps, tt)
    one End = (steps, tt)

    behind : last_from 0 h ≤ e.file.seq
    behind = (files-back Rewrite 0 h (e ∷ []) (files_follow Rewrite h (e ∷ []) own.sound.files (queue, omega arith, tt) (ap (λ p. follows p (files_of (e ∷ []))) (sym st.files) ∙ n.follows))).1

    end : (s : AtomicGroupStatus) → FrontFrom (last_from 0 h) (one_marker s (steps_of_items e.items) e.file.seq).front
    end Begin = tt
    end Middle = tt
    end End = behind

one_more : (o : Option WholeGroup) (ws : List WholeGroup) → CanTakeEffectIfAny o → AllByRecursion CanTakeEffect ws → AllByRecursion CanTakeEffect (cons_option o ws)
one_more None ws x y = y
one_more (Some w) ws x y = (x, y)

-- the groups that two neighbors make whole
pub wholes_take : (h k : List Event) → FilesFrom Rewrite 0 h → AreInFiles h → FilesFrom Rewrite 0 k → AreInFiles k →
    FilesFrom Rewrite (last_from 0 h) k → AllByRecursion CanTakeEffect (whole_groups (groups_in (batches h)) (groups_in (batches k)))
wholes_take h k f a g b behind = all (finite.entries (groups_in (batches k))) (each_weaker _ IsGroup (λ e x. x.1) (finite.entries (groups_in (batches k))) (each_known (batches k)))
  where
    IsGroup : ℕ × WaitingGroup → Type 0
    IsGroup e = e.1 ≡ group_in e.0 (batches k)

    held : (g' : ℕ) → Holds Rewrite (group_in g' (batches k))
    held g' = subst (Holds Rewrite) (known-groups_in g' (batches k)) (known_holds Rewrite g' k g b)

    all : (es : List (ℕ × WaitingGroup)) → AllByRecursion IsGroup es → AllByRecursion CanTakeEffect (whole_with (groups_in (batches h)) es)
    all [] x = tt
    all (e ∷ es) x = one_more (whole_group (known_of (groups_in (batches h)) e.0) e.1) (whole_with (groups_in (batches h)) es)
        (whole_takes (last_from 0 h) (known_of (groups_in (batches h)) e.0) e.1 (known_holds Rewrite e.0 h f a) (subst (Holds Rewrite) (sym x.0) (held e.0)) (known_up_to Rewrite e.0 h f)
        (subst (λ (w : WaitingGroup). FrontFrom (last_from 0 h) w.front) (sym x.0) (group_from Rewrite e.0 (last_from 0 h) k behind)))
        (all es x.1)

-- the append queue has no groups
pub no_wholes : (older : WaitingGroups) (k : List Event) → FilesFrom Append 0 k → whole_groups older (groups_in (batches k)) ≡ []
unfolding groups_in
no_wholes older k f = ap (whole_with older) (none (batches k) (without_marker 0 k f))
  where
    flat : (all bs : List BatchSteps) → AllByRecursion (λ (b : BatchSteps). b.marker ≡ None) bs → flat_map (λ (b : BatchSteps). group_by all b.marker) bs ≡ []
    flat all [] u = refl
    flat all (b ∷ bs) u = ap (λ m. group_by all m ++ flat_map (λ (b : BatchSteps). group_by all b.marker) bs) u.0 ∙ flat all bs u.1

    is_empty : (bs : List BatchSteps) → AllByRecursion (λ (b : BatchSteps). b.marker ≡ None) bs → groups_in bs ≡ finite.empty
    is_empty bs u = ap (λ es. finite.from_entries es) (flat bs bs u)

    none : (bs : List BatchSteps) → AllByRecursion (λ (b : BatchSteps). b.marker ≡ None) bs → finite.entries (groups_in bs) ≡ []
    none bs u = entries-empty (groups_in bs) (is_empty bs u)
