-- Batches that end no group which began before them.
use Rattle.raft_engine_laws.proofs.Common.{◌≡◌, ◌≢◌, ℕ, Bool, true, false, cond, eqb, List, [], ◌∷◌, ◌++◌, Option, Some, None, refl, sym, ap, subst, ◌∙◌, AllByRecursion, cons_option, eq-eqb, eqb-true, AtomicGroupStatus, Begin, Middle, End, Event, GroupMarker, BatchSteps}
use Rattle.raft_engine_laws.proofs.Common.{batch_of, batches, is_of, markers_of, numbered_from, RegionStep, GroupFront, Open, Ended, Begun, OpenStretch, WaitingGroup, WholeGroup, led_by, front_by, front_behind, front_of, group_in, joined_group, joined_group_by, whole_group}
use Rattle.raft_engine_laws.proofs.Common.{whole_group_by, WaitingGroups, groups_in, known_of, whole_with, whole_groups, each_weaker, group_in-append, each_known, has_marker, batches-append, HasNoMarker, IsBeforeEnd, LeavesOpen, IsMarked, IsWholeGroup, IsNotEnded}
use Rattle.raft_engine_laws.proofs.Common.{EndNoOlderGroup}
use Rattle.std.specs.FinMap as finite

-- no group becomes whole where the later batches end none

none_whole : (older newer : WaitingGroup) → IsNotEnded newer.front → whole_group older newer ≡ None
none_whole older newer h = go older.front older.stretch newer.front h
  where
    go : (t : GroupFront) (s : Option OpenStretch) (f : GroupFront) → IsNotEnded f → whole_group_by t s f ≡ None
    go (Open is) s f h = refl
    go (Ended is n) None f h = refl
    go (Ended is n) (Some s) (Open js) h = refl
    go (Ended is n) (Some s) (Ended js m) h = absurd h
    go (Ended is n) (Some s) Begun h = refl
    go Begun None f h = refl
    go Begun (Some s) (Open js) h = refl
    go Begun (Some s) (Ended js m) h = absurd h
    go Begun (Some s) Begun h = refl

none_with : (older : WaitingGroups) (es : List (ℕ × WaitingGroup)) → AllByRecursion (λ (e : ℕ × WaitingGroup). IsNotEnded e.1.front) es → whole_with older es ≡ []
none_with older [] h = refl
none_with older (e ∷ es) h = ap (λ (o : Option WholeGroup). cons_option o (whole_with older es)) (none_whole (known_of older e.0) e.1 h.0) ∙ none_with older es h.1

pub none_across : (h k : List Event) → EndNoOlderGroup k → whole_groups (groups_in (batches h)) (groups_in (batches k)) ≡ []
none_across h k none = none_with (groups_in (batches h)) (finite.entries (groups_in (batches k)))
    (each_weaker (λ (e : ℕ × WaitingGroup). (has_marker e.0 (batches k) ≡ true) × (e.1 ≡ group_in e.0 (batches k))) (λ (e : ℕ × WaitingGroup). IsNotEnded e.1.front)
    (λ e known. subst (λ (x : WaitingGroup). IsNotEnded x.front) (sym known.1) (none e.0)) (finite.entries (groups_in (batches k))) (each_known (batches k)))

-- ---- more batches

joined_prefix : (older newer : WaitingGroup) → IsNotEnded older.front → IsNotEnded newer.front → IsNotEnded (joined_group older newer).front
joined_prefix older newer h k = go older.front newer.front h k
  where
    led : (is : List RegionStep) (f : GroupFront) → IsNotEnded f → IsNotEnded (led_by is f)
    led is (Open js) k = tt
    led is (Ended js n) k = absurd k
    led is Begun k = tt

    go : (a b : GroupFront) → IsNotEnded a → IsNotEnded b → IsNotEnded (joined_group_by a b older newer).front
    go (Open is) b h k = led is b k
    go (Ended is n) b h k = absurd h
    go Begun (Open is) h k = tt
    go Begun (Ended is n) h k = absurd k
    go Begun Begun h k = tt

pub ends_none-append : (h k : List Event) → EndNoOlderGroup h → EndNoOlderGroup k → EndNoOlderGroup (h ++ k)
ends_none-append h k a b g = subst (λ (x : WaitingGroup). IsNotEnded x.front)
    (sym (ap (group_in g) (batches-append h k) ∙ group_in-append g (batches h) (batches k)))
    (joined_prefix (group_in g (batches h)) (group_in g (batches k)) (a g) (b g))

-- the prefix of a group in one batch
abbrev prefix_in_one : ℕ → BatchSteps → Bool → GroupFront
prefix_in_one g b true = front_behind b.marker b.steps b.seq (Open [])
prefix_in_one g b false = Open []

front_is : (g : ℕ) (b : BatchSteps) → (group_in g (b ∷ [])).front ≡ prefix_in_one g b (is_of g b.marker)
unfolding front_of markers_of
front_is g b = go (is_of g b.marker)
  where
    go : (t : Bool) → front_of (cond t (record { number = 0; batch = b } ∷ []) []) ≡ prefix_in_one g b t
    go true = refl
    go false = refl

pub ends_none-none : EndNoOlderGroup []
unfolding front_of markers_of
ends_none-none g = tt

pub ends_none-alone : (e : Event) → HasNoMarker e → EndNoOlderGroup (e ∷ [])
ends_none-alone e plain g = subst IsNotEnded (sym (front_is g (batch_of e) ∙ ap (λ m. prefix_in_one g (batch_of e) (is_of g m)) plain)) tt

pub ends_none-open : (e : Event) → LeavesOpen e → EndNoOlderGroup (e ∷ [])
ends_none-open e held g = subst IsNotEnded (sym (front_is g (batch_of e))) (go (is_of g (batch_of e).marker) refl (batch_of e).marker refl held)
  where
    by : (s : AtomicGroupStatus) → s ≢ End → IsNotEnded (front_by s (batch_of e).steps (batch_of e).seq (Open []))
    by Begin n = tt
    by Middle n = tt
    by End n = absurd (n refl)

    go : (t : Bool) → is_of g (batch_of e).marker ≡ t → (m : Option GroupMarker) → (batch_of e).marker ≡ m → IsBeforeEnd m → IsNotEnded (prefix_in_one g (batch_of e) t)
    go false t m k n = tt
    go true t None k n = absurd n
    go true t (Some m) k n = subst (λ (o : Option GroupMarker). IsNotEnded (front_behind o (batch_of e).steps (batch_of e).seq (Open []))) (sym k) (by m.status n)

-- ---- a group in a row

-- a group that begins in the first batch
begun_first : (g : ℕ) (begin : Event) (rest : List Event) → IsMarked g Begin begin → (group_in g (batches (begin ∷ rest))).front ≡ Begun
unfolding front_of markers_of
begun_first g begin rest marked = ap (λ (m : Option GroupMarker). front_of
    (cond (is_of g m) (record { number = 0; batch = batch_of begin } ∷ markers_of g (numbered_from 1 (batches rest)))
    (markers_of g (numbered_from 1 (batches rest))))) marked
    ∙ ap (λ b. front_of (cond b (record { number = 0; batch = batch_of begin } ∷ markers_of g (numbered_from 1 (batches rest))) (markers_of g (numbered_from 1 (batches rest))))) (eq-eqb g g refl)
    ∙ ap (λ (m : Option GroupMarker). front_behind m (batch_of begin).steps (batch_of begin).seq (front_of (markers_of g (numbered_from 1 (batches rest))))) marked

middles_open : (g : ℕ) (ms : List Event) → AllByRecursion (IsMarked g Middle) ms → EndNoOlderGroup ms
middles_open g [] h = ends_none-none
middles_open g (e ∷ ms) h = ends_none-append (e ∷ []) ms (ends_none-open e (subst IsBeforeEnd (sym h.0) (λ k. absurd cc))) (middles_open g ms h.1)

pub ends_none-group : (g : ℕ) (begin : Event) (ms : List Event) (end : Event) → IsWholeGroup g begin ms end → EndNoOlderGroup (begin ∷ (ms ++ end ∷ []))
ends_none-group g begin ms end group l = go (eqb l g) refl
  where
    front : EndNoOlderGroup (begin ∷ ms)
    front = ends_none-append (begin ∷ []) ms (ends_none-open begin (subst IsBeforeEnd (sym group.begins) (λ k. absurd cc))) (middles_open g ms group.goes_on)

    other : eqb l g ≡ false → IsNotEnded (group_in l (batches (end ∷ []))).front
    other k = subst IsNotEnded (sym (front_is l (batch_of end) ∙ ap (λ m. prefix_in_one l (batch_of end) (is_of l m)) group.ends ∙ ap (prefix_in_one l (batch_of end)) k)) tt

    go : (b : Bool) → eqb l g ≡ b → IsNotEnded (group_in l (batches (begin ∷ (ms ++ end ∷ [])))).front
    go true k = subst (λ n. IsNotEnded (group_in n (batches (begin ∷ (ms ++ end ∷ [])))).front) (sym (eqb-true l g k)) (subst IsNotEnded (sym (begun_first g begin (ms ++ end ∷ []) group.begins)) tt)
    go false k = subst (λ (x : WaitingGroup). IsNotEnded x.front) (sym (ap (group_in l) (batches-append (begin ∷ ms) (end ∷ [])) ∙ group_in-append l (batches (begin ∷ ms)) (batches (end ∷ []))))
        (joined_prefix (group_in l (batches (begin ∷ ms))) (group_in l (batches (end ∷ []))) (front l) (other k))
