-- The effects are those of the group markers' own words.
use Rattle.raft_history.proofs.Common.{Begin, Middle, End, and_parts, cond_both, ◌≡◌, ℕ, suc, ◌≤◌, Bool, true, false, cond, ◌&&◌, List, [], ◌∷◌, ◌++◌, Option, Some, None, refl, sym, ap, subst, ◌∙◌, inl, inr, append_assoc, arith, eqb-true}
use Rattle.raft_history.proofs.Common.{eq-eqb, filter, AllByRecursion, AtomicGroupStatus, GroupMarker, BatchSteps, Effect, completed_as, completed_by, effects_behind, effects, has_status, Numbered, numbered_from, is_of, markers_of}
use Rattle.raft_history.proofs.Common.{is_same_status, open_stretch, IsIn, IsMarkerOf, IsStretch, IsAlone, IsEffect, RiseFrom, AreEffects, ◌≢◌, ◌+◌, ◌<◌, ◌⊎◌, length, flat_map-append, region_steps_in, first_in, AreApart, EachApart}
use Rattle.raft_history.proofs.Common.{RegionStep, names, GroupFront, Open, Ended, Begun, front_of, front_by, front_behind, led_by, stretch_of, WholeGroup, whole_group, whole_of, group_in}
use Rattle.raft_history.proofs.Words.{are_middles, region_steps_of}
use Rattle.raft_history.proofs.EffectLemmas.{by_completed, each-append, each_weaker, effects_behind-append, each_right, each_markers, numbered_from-append, from_on, up_to}
use Rattle.raft_history.proofs.MarkerLemmas.{markers_of-append, open_stretch-append, whole_is}
use Rattle.raft_history.proofs.ShiftLemmas.{group_of-placed}

-- what of markers of one group is a Begin and Middles
abbrev pub HasMarker : ℕ → Numbered → Type 0
HasMarker g p = is_of g p.batch.marker ≡ true

pub each_marked : (g : ℕ) (ps : List Numbered) → AllByRecursion (HasMarker g) (markers_of g ps)
unfolding markers_of
each_marked g [] = tt
each_marked g (p ∷ ps) = cond_both (is_of g p.batch.marker) (p ∷ filter (λ p. is_of g p.batch.marker) ps) (filter (λ p. is_of g p.batch.marker) ps) (AllByRecursion (HasMarker g)) (λ e. (e, each_marked g ps)) (λ e. each_marked g ps)

-- the marker of a batch, by the tests
is_marker : (g : ℕ) (s : AtomicGroupStatus) (p : Numbered) → HasMarker g p → has_status s p.batch.marker ≡ true → IsMarkerOf g s p
is_marker g s p h b = go p.batch.marker h b
  where
    same : (s t : AtomicGroupStatus) → is_same_status s t ≡ true → t ≡ s
    same Begin Begin e = refl
    same Middle Middle e = refl
    same End End e = refl
    same _ _ e = cc

    go : (m : Option GroupMarker) → is_of g m ≡ true → has_status s m ≡ true → m ≡ Some record { group = g; status = s }
    go None h b = cc
    go (Some m) h b = subst (λ x. ◌≡◌ {A = Option GroupMarker} (Some m) (Some record { group = x; status = s })) (sym (eqb-true g m.group h))
        (ap (λ (x : AtomicGroupStatus). Some record { group = m.group; status = x }) (same s m.status b))

each_middle : (g : ℕ) (ps : List Numbered) → AllByRecursion (HasMarker g) ps → are_middles ps ≡ true → AllByRecursion (IsMarkerOf g Middle) ps
each_middle g [] h e = tt
each_middle g (p ∷ ps) h e = let n = and_parts (has_status Middle p.batch.marker) (are_middles ps) e in (is_marker g Middle p h.0 n.0, each_middle g ps h.1 n.1)

middles_are : (g : ℕ) (ps : List Numbered) → AllByRecursion (IsMarkerOf g Middle) ps → are_middles ps ≡ true
middles_are g [] h = refl
middles_are g (p ∷ ps) h = rw h.0 (middles_are g ps h.1)

same_head : (a b : Numbered) (xs ys : List Numbered) → a ∷ xs ≡ b ∷ ys → a ≡ b
same_head a b xs ys e = cc

same_tail : (a b : Numbered) (xs ys : List Numbered) → a ∷ xs ≡ b ∷ ys → xs ≡ ys
same_tail a b xs ys e = cc

-- what is open is a Begin and Middles at the end of the markers
pub record IsOpen (g : ℕ) (ms : List Numbered) (q : Numbered) (qs : List Numbered) : Type 0 where
  pub before : List Numbered
  pub split : ms ≡ before ++ q ∷ qs
  pub begin : IsMarkerOf g Begin q
  pub middles : AllByRecursion (IsMarkerOf g Middle) qs

pub open_is : (g : ℕ) (ms : List Numbered) (q : Numbered) (qs : List Numbered) → AllByRecursion (HasMarker g) ms → open_stretch ms ≡ q ∷ qs → IsOpen g ms q qs
unfolding open_stretch
open_is g [] q qs h e = cc
open_is g (m ∷ ms) q qs h e = go (has_status Begin m.batch.marker) refl (are_middles ms) refl e (open_is g ms q qs h.1)
  where
    rest : IsOpen g ms q qs → IsOpen g (m ∷ ms) q qs
    rest o = record { before = m ∷ o.before; split = ap (λ l. m ∷ l) o.split; begin = o.begin; middles = o.middles }

    go : (b : Bool) → has_status Begin m.batch.marker ≡ b → (c : Bool) → are_middles ms ≡ c → cond (b && c) (m ∷ ms) (open_stretch ms) ≡ q ∷ qs → (open_stretch ms ≡ q ∷ qs → IsOpen g ms q qs) → IsOpen g (m ∷ ms) q qs
    go true x true y e ih = record {
      before = [];
      split = e;
      begin = subst (IsMarkerOf g Begin) (same_head m q ms qs e) (is_marker g Begin m h.0 x);
      middles = subst (AllByRecursion (IsMarkerOf g Middle)) (same_tail m q ms qs e) (each_middle g ms h.1 y);
    }
    go true x false y e ih = rest (ih e)
    go false x c y e ih = rest (ih e)

-- a Begin and Middles at the end of the markers are open
is_open : (g : ℕ) (before : List Numbered) (q : Numbered) (qs : List Numbered) → IsMarkerOf g Begin q → AllByRecursion (IsMarkerOf g Middle) qs → open_stretch (before ++ q ∷ qs) ≡ q ∷ qs
unfolding open_stretch
is_open g before q qs b m = open_stretch-append before (q ∷ qs) ∙ rw (b, middles_are g qs m) refl

-- only effects
marks_at : (g : ℕ) (before : List Numbered) (p : Numbered) (behind : List Numbered) → HasMarker g p → markers_of g (before ++ p ∷ behind) ≡ markers_of g before ++ p ∷ markers_of g behind
unfolding markers_of
marks_at g before p behind h = markers_of-append g before (p ∷ behind) ∙ rw h refl

only_completed : (h : List BatchSteps) (before : List Numbered) (p : Numbered) (behind : List Numbered) → numbered_from 0 h ≡ before ++ p ∷ behind → AllByRecursion (IsEffect h) (completed_by p.batch.marker before p)
only_completed h before p behind is = by_completed (AllByRecursion (IsEffect h)) before p tt
    (λ e. (inl record { stands = record { before = before; behind = behind; split = is }; without_marker = e; none = refl }, tt)) (λ g q qs m e.
    let o : IsOpen g (markers_of g before) q qs = open_is g (markers_of g before) q qs (each_marked g before) e in
    let k : HasMarker g p = ap (is_of g) m ∙ eq-eqb g g refl in (
      inr (
        g,
        record {
          before = o.before;
          begin = q;
          middles = qs;
          behind = markers_of g behind;
          neighbors = ap (markers_of g) is ∙ marks_at g before p behind k ∙ ap (λ l. l ++ p ∷ markers_of g behind) o.split ∙ append_assoc o.before (q ∷ qs) (p ∷ markers_of g behind);
          begins = o.begin;
          goes_on = o.middles;
          ends = m;
          earlier = refl;
        },
      ),
      tt,
    ))

only_effects : (h : List BatchSteps) (before ps : List Numbered) → numbered_from 0 h ≡ before ++ ps → AllByRecursion (IsEffect h) (effects_behind before ps)
unfolding effects_behind
only_effects h before [] is = tt
only_effects h before (p ∷ ps) is = each-append (IsEffect h) (completed_by p.batch.marker before p) (effects_behind (before ++ p ∷ []) ps)
    (only_completed h before p ps is) (only_effects h (before ++ p ∷ []) ps (is ∙ sym (append_assoc before (p ∷ []) ps)))

-- every effect
record Parts (t : Numbered → Bool) (h xs : List Numbered) (y : Numbered) : Type 0 where
  before : List Numbered
  behind : List Numbered
  split : h ≡ before ++ y ∷ behind
  kept : filter t before ≡ xs

parts_of : (t : Numbered → Bool) (h xs : List Numbered) (y : Numbered) (ys : List Numbered) → filter t h ≡ xs ++ y ∷ ys → Parts t h xs y
parts_of t [] [] y ys e = cc
parts_of t [] (x ∷ xs) y ys e = cc
parts_of t (p ∷ ps) xs y ys e = go (t p) refl e (parts_of t ps)
  where
    later : (zs : List Numbered) (d : Parts t ps zs y) → t p ≡ true → Parts t (p ∷ ps) (p ∷ zs) y
    later zs d k = record { before = p ∷ d.before; behind = d.behind; split = ap (λ l. p ∷ l) d.split; kept = rw k (ap (λ l. p ∷ l) d.kept) }

    front : (xs : List Numbered) → t p ≡ true → p ∷ filter t ps ≡ xs ++ y ∷ ys → ((zs : List Numbered) (z : Numbered) (rest : List Numbered) → filter t ps ≡ zs ++ z ∷ rest → Parts t ps zs z) → Parts t (p ∷ ps) xs y
    front [] k e ih = record { before = []; behind = ps; split = ap (λ x. x ∷ ps) (same_head p y (filter t ps) ys e); kept = refl }
    front (x ∷ xs) k e ih = subst (λ z. Parts t (p ∷ ps) (z ∷ xs) y) (same_head p x (filter t ps) (xs ++ y ∷ ys) e) (later xs (ih xs y ys (same_tail p x (filter t ps) (xs ++ y ∷ ys) e)) k)

    go : (b : Bool) → t p ≡ b → cond b (p ∷ filter t ps) (filter t ps) ≡ xs ++ y ∷ ys → ((zs : List Numbered) (z : Numbered) (rest : List Numbered) → filter t ps ≡ zs ++ z ∷ rest → Parts t ps zs z) → Parts t (p ∷ ps) xs y
    go true k e ih = front xs k e ih
    go false k e ih = record { before = p ∷ d.before; behind = d.behind; split = ap (λ l. p ∷ l) d.split; kept = rw k d.kept }
      where
        d : Parts t ps xs y
        d = ih xs y ys e

-- the effect that a batch completes stands among all
completed_in : (h : List BatchSteps) (before : List Numbered) (p : Numbered) (behind : List Numbered) (e : Effect) → numbered_from 0 h ≡ before ++ p ∷ behind → completed_by p.batch.marker before p ≡ e ∷ [] → IsIn e (effects h)
unfolding effects_behind
completed_in h before p behind e is one = record {
  before = effects_behind [] before;
  behind = effects_behind (before ++ p ∷ []) behind;
  split = ap (effects_behind []) is ∙ effects_behind-append [] before (p ∷ behind) ∙ ap (λ l. effects_behind [] before ++ (l ++ effects_behind (before ++ p ∷ []) behind)) one;
}

same_effect : (e : Effect) (l : List Numbered) → e.earlier ≡ l → record { earlier = l; last = e.last } ≡ e
same_effect e l h = ap (λ x. record { earlier = x; last = e.last }) (sym h)

every_alone : (h : List BatchSteps) (e : Effect) → IsAlone h e → IsIn e (effects h)
every_alone h e a = completed_in h a.stands.before e.last a.stands.behind e a.stands.split (ap (λ m. completed_by m a.stands.before e.last) a.without_marker ∙ ap (λ x. x ∷ []) (same_effect e [] a.none))

pub every_stretch : (h : List BatchSteps) (g : ℕ) (e : Effect) → IsStretch h g e → IsIn e (effects h)
unfolding markers_of
every_stretch h g e s = completed_in h d.before e.last d.behind e d.split
    (ap (λ m. completed_by m d.before e.last) s.ends
    ∙ ap (λ l. completed_as End l e.last) (ap open_stretch d.kept ∙ is_open g s.before s.begin s.middles s.begins s.goes_on)
    ∙ ap (λ x. x ∷ []) (same_effect e (s.begin ∷ s.middles) s.earlier))
  where
    d : Parts (λ p. is_of g p.batch.marker) (numbered_from 0 h) (s.before ++ s.begin ∷ s.middles) e.last
    d = parts_of (λ p. is_of g p.batch.marker) (numbered_from 0 h) (s.before ++ s.begin ∷ s.middles) e.last s.behind (s.neighbors ∙ sym (append_assoc s.before (s.begin ∷ s.middles) (e.last ∷ s.behind)))

-- in order
rise_lower : (n m : ℕ) (es : List Effect) → n ≤ m → RiseFrom m es → RiseFrom n es
rise_lower n m [] k h = tt
rise_lower n m (e ∷ es) k h = (omega (arith, h.0), h.1)

pub later_from : (n : ℕ) (es : List Effect) → RiseFrom n es → AllByRecursion (λ e. n ≤ e.last.number) es
later_from n [] h = tt
later_from n (e ∷ es) h = (h.0, each_weaker (λ f. suc e.last.number ≤ f.last.number) (λ f. n ≤ f.last.number) (λ f k. omega (arith, h.0, k)) es (later_from (suc e.last.number) es h.1))

rise_behind : (n : ℕ) (olds : List Numbered) (h : List BatchSteps) → RiseFrom n (effects_behind olds (numbered_from n h))
unfolding effects_behind
rise_behind n olds [] = tt
rise_behind n olds (b ∷ bs) =
    let p : Numbered = record { number = n; batch = b } in
    let rises : RiseFrom (suc n) (effects_behind (olds ++ p ∷ []) (numbered_from (suc n) bs)) = rise_behind (suc n) (olds ++ p ∷ []) bs in
    by_completed (λ es. RiseFrom n (es ++ effects_behind (olds ++ p ∷ []) (numbered_from (suc n) bs))) olds p
    (rise_lower n (suc n) (effects_behind (olds ++ p ∷ []) (numbered_from (suc n) bs)) (omega arith) rises) (λ e. (omega arith, rises)) (λ g q qs m e. (omega arith, rises))

pub effects_are : (h : List BatchSteps) → AreEffects h (effects h)
effects_are h = record { only = only_effects h [] (numbered_from 0 h) refl; every = every; rise = rise_behind 0 [] h }
  where
    every : (e : Effect) → IsEffect h e → IsIn e (effects h)
    every e (inl a) = every_alone h e a
    every e (inr s) = every_stretch h s.0 e s.1

-- ---- the groups that become whole at one cut name different regions

-- an ended front is Middles and an End
record IsEnded (g : ℕ) (ms : List Numbered) (is : List RegionStep) (f : ℕ) : Type 0 where
  middles : List Numbered
  end : Numbered
  behind : List Numbered
  split : ms ≡ middles ++ end ∷ behind
  goes_on : AllByRecursion (IsMarkerOf g Middle) middles
  ends : IsMarkerOf g End end
  steps : is ≡ region_steps_of middles ++ end.batch.steps
  seq : f ≡ end.batch.seq

ended_items : (a b : List RegionStep) (c d : ℕ) → Ended a c ≡ Ended b d → b ≡ a
ended_items a b c d e = cc

ended_seq : (a b : List RegionStep) (c d : ℕ) → Ended a c ≡ Ended b d → d ≡ c
ended_seq a b c d e = cc

ended_is : (g : ℕ) (ms : List Numbered) (is : List RegionStep) (f : ℕ) → AllByRecursion (HasMarker g) ms → front_of ms ≡ Ended is f → IsEnded g ms is f
unfolding front_of
ended_is g [] is f h e = cc
ended_is g (p ∷ ps) is f h e = go p.batch.marker refl h.0 e (ended_is g ps)
  where
    led : (js : List RegionStep) (t : GroupFront) → led_by js t ≡ Ended is f → front_of ps ≡ t → IsMarkerOf g Middle p → js ≡ p.batch.steps →
        ((ks : List RegionStep) (l : ℕ) → AllByRecursion (HasMarker g) ps → front_of ps ≡ Ended ks l → IsEnded g ps ks l) → IsEnded g (p ∷ ps) is f
    led js (Open ks) e t m k ih = cc
    led js Begun e t m k ih = cc
    led js (Ended ks l) e t m k ih = record {
      middles = p ∷ x.middles;
      end = x.end;
      behind = x.behind;
      split = ap (λ l. p ∷ l) x.split;
      goes_on = (m, x.goes_on);
      ends = x.ends;
      steps = ended_items (js ++ ks) is l f e ∙ ap (λ z. z ++ ks) k ∙ ap (λ z. p.batch.steps ++ z) x.steps ∙ sym (append_assoc p.batch.steps (region_steps_of x.middles) x.end.batch.steps);
      seq = ended_seq (js ++ ks) is l f e ∙ x.seq;
    }
      where
        x : IsEnded g ps ks l
        x = ih ks l h.1 t

    go : (m : Option GroupMarker) → p.batch.marker ≡ m → is_of g m ≡ true → front_behind m p.batch.steps p.batch.seq (front_of ps) ≡ Ended is f →
        ((ks : List RegionStep) (l : ℕ) → AllByRecursion (HasMarker g) ps → front_of ps ≡ Ended ks l → IsEnded g ps ks l) → IsEnded g (p ∷ ps) is f
    go None m k e ih = cc
    go (Some x) m k e ih = at x.status (m ∙ ap (λ y. Some record { group = y; status = x.status }) (sym (eqb-true g x.group k))) e
      where
        at : (s : AtomicGroupStatus) → ◌≡◌ {A = Option GroupMarker} p.batch.marker (Some record { group = g; status = s }) → front_by s p.batch.steps p.batch.seq (front_of ps) ≡ Ended is f → IsEnded g (p ∷ ps) is f
        at Begin m e = cc
        at Middle m e = led p.batch.steps (front_of ps) e refl m refl ih
        at End m e = record { middles = []; end = p; behind = ps; split = refl; goes_on = tt; ends = m; steps = ended_items p.batch.steps is p.batch.seq f e; seq = ended_seq p.batch.steps is p.batch.seq f e }

-- the effect of a group that the cut divides
record IsAcross (h k : List BatchSteps) (g : ℕ) (w : WholeGroup) : Type 0 where
  effect : Effect
  stands : IsIn effect (effects (h ++ k))
  steps : region_steps_in effect ≡ w.steps
  group : effect.earlier ≢ []
  first : first_in effect < length h
  last : length h ≤ effect.last.number
  ends : IsMarkerOf g End effect.last

across : (h k : List BatchSteps) (g : ℕ) (w : WholeGroup) → whole_group (group_in g h) (group_in g k) ≡ Some w → IsAcross h k g w
across h k g w e = go (open_stretch (markers_of g (numbered_from 0 h))) refl (front_of (markers_of g (numbered_from (0 + length h) k))) refl
    (ap (whole_of (stretch_of (open_stretch (markers_of g (numbered_from 0 h))))) (ap (λ x. x.front) (group_of-placed (0 + length h) g k)) ∙ sym (whole_is (markers_of g (numbered_from 0 h)) (group_in g k).front) ∙ e)
  where
    made : (q : Numbered) (qs : List Numbered) (is : List RegionStep) (f : ℕ) → ◌≡◌ {A = Option WholeGroup} (Some record { steps = region_steps_of (q ∷ qs) ++ is; first_seq = q.batch.seq; last_seq = f }) (Some w) →
        IsOpen g (markers_of g (numbered_from 0 h)) q qs → IsEnded g (markers_of g (numbered_from (0 + length h) k)) is f → IsAcross h k g w
    made q qs is f e y x = record {
      effect = record { earlier = q ∷ (qs ++ x.middles); last = x.end };
      stands = every_stretch (h ++ k) g record { earlier = q ∷ (qs ++ x.middles); last = x.end } record {
        before = y.before;
        begin = q;
        middles = qs ++ x.middles;
        behind = x.behind;
        neighbors = ap (markers_of g) (numbered_from-append 0 h k) ∙ markers_of-append g (numbered_from 0 h) (numbered_from (0 + length h) k)
            ∙ ap (λ l. l ++ markers_of g (numbered_from (0 + length h) k)) y.split ∙ ap (λ l. (y.before ++ q ∷ qs) ++ l) x.split
            ∙ append_assoc y.before (q ∷ qs) (x.middles ++ x.end ∷ x.behind) ∙ ap (λ l. y.before ++ q ∷ l) (sym (append_assoc qs x.middles (x.end ∷ x.behind)));
        begins = y.begin;
        goes_on = each-append (IsMarkerOf g Middle) qs x.middles y.middles x.goes_on;
        ends = x.ends;
        earlier = refl;
      };
      steps = ap (λ l. l ++ x.end.batch.steps) (flat_map-append (λ (p : Numbered). p.batch.steps) (q ∷ qs) x.middles)
          ∙ append_assoc (region_steps_of (q ∷ qs)) (region_steps_of x.middles) x.end.batch.steps
          ∙ ap (λ l. region_steps_of (q ∷ qs) ++ l) (sym x.steps) ∙ whole_items (region_steps_of (q ∷ qs) ++ is) q.batch.seq f e;
      group = λ z. cc;
      first = (each_right (λ p. p.number < length h) y.before (q ∷ qs) (subst (AllByRecursion (λ p. p.number < length h)) y.split (each_markers (λ p. p.number < length h) g (numbered_from 0 h) (up_to 0 (length h) h (omega arith))))).0;
      last = (each_right (λ p. length h ≤ p.number) x.middles (x.end ∷ x.behind) (subst (AllByRecursion (λ p. length h ≤ p.number)) x.split (each_markers (λ p. length h ≤ p.number) g (numbered_from (0 + length h) k) later))).0;
      ends = x.ends;
    }
      where
        whole_items : (js : List RegionStep) (a b : ℕ) → ◌≡◌ {A = Option WholeGroup} (Some record { steps = js; first_seq = a; last_seq = b }) (Some w) → js ≡ w.steps
        whole_items js a b e = ap (λ o. items_or o) e
          where
            items_or : Option WholeGroup → List RegionStep
            items_or None = []
            items_or (Some x) = x.steps

        later : AllByRecursion (λ p. length h ≤ p.number) (numbered_from (0 + length h) k)
        later = each_weaker (λ p. 0 + length h ≤ p.number) (λ p. length h ≤ p.number) (λ p z. omega arith) (numbered_from (0 + length h) k) (from_on (0 + length h) k)

    go : (o : List Numbered) → open_stretch (markers_of g (numbered_from 0 h)) ≡ o → (t : GroupFront) → front_of (markers_of g (numbered_from (0 + length h) k)) ≡ t → whole_of (stretch_of o) t ≡ Some w → IsAcross h k g w
    go [] o t f e = cc
    go (q ∷ qs) o (Open is) f e = cc
    go (q ∷ qs) o Begun f e = cc
    go (q ∷ qs) o (Ended is l) f e = made q qs is l e (open_is g (markers_of g (numbered_from 0 h)) q qs (each_marked g (numbered_from 0 h)) o)
        (ended_is g (markers_of g (numbered_from (0 + length h) k)) is l (each_marked g (numbered_from (0 + length h) k)) f)

-- any two of a list
pub head_or_tail : (e x : Effect) (xs : List Effect) → IsIn e (x ∷ xs) → (x ≡ e) ⊎ IsIn e xs
head_or_tail e x xs i = go i.before i.split
  where
    go : (l : List Effect) → x ∷ xs ≡ l ++ e ∷ i.behind → (x ≡ e) ⊎ IsIn e xs
    go [] s = inl cc
    go (y ∷ ys) s = inr record { before = ys; behind = i.behind; split = cc }

pub in_none : (e : Effect) → IsIn e [] → ⊥
in_none e i = go i.before i.split
  where
    go : (l : List Effect) → [] ≡ l ++ e ∷ i.behind → ⊥
    go [] s = cc
    go (y ∷ ys) s = cc

pub each_in : (P : Effect → Type 0) (e : Effect) (es : List Effect) → AllByRecursion P es → IsIn e es → P e
each_in P e [] h i = absurd (in_none e i)
each_in P e (x ∷ xs) h i = go (head_or_tail e x xs i) (each_in P e xs h.1)
  where
    go : (x ≡ e) ⊎ IsIn e xs → (IsIn e xs → P e) → P e
    go (inl s) ih = subst P s h.0
    go (inr s) ih = ih s

apart_any : (e f : Effect) (es : List Effect) → (e ≡ f → ⊥) → EachApart es → IsIn e es → IsIn f es → AreApart e f ⊎ AreApart f e
apart_any e f [] other h i j = absurd (in_none e i)
apart_any e f (x ∷ xs) other h i j = go (head_or_tail e x xs i) (head_or_tail f x xs j) (apart_any e f xs other h.1)
  where
    go : (x ≡ e) ⊎ IsIn e xs → (x ≡ f) ⊎ IsIn f xs → (IsIn e xs → IsIn f xs → AreApart e f ⊎ AreApart f e) → AreApart e f ⊎ AreApart f e
    go (inl a) (inl b) ih = absurd (other (sym a ∙ b))
    go (inl a) (inr b) ih = inl (subst (λ z. AreApart z f) a (each_in (AreApart x) f xs h.0 b))
    go (inr a) (inl b) ih = inr (subst (λ z. AreApart z e) b (each_in (AreApart x) e xs h.0 a))
    go (inr a) (inr b) ih = ih a b

pub wholes_differ : (h k : List BatchSteps) → EachApart (effects (h ++ k)) → (g l : ℕ) → (g ≡ l → ⊥) → (w v : WholeGroup) →
    whole_group (group_in g h) (group_in g k) ≡ Some w → whole_group (group_in l h) (group_in l k) ≡ Some v → (r : ℕ) → names r w.steps ≡ true →
    names r v.steps ≡ true → ⊥
wholes_differ h k apart g l other w v a b r m n = go (apart_any x.effect y.effect (effects (h ++ k)) (λ s. other (same_group g l x.effect.last y.effect.last x.ends y.ends (ap (λ z. z.last) s))) apart x.stands y.stands)
  where
    x : IsAcross h k g w
    x = across h k g w a

    y : IsAcross h k l v
    y = across h k l v b

    group_or : Option GroupMarker → ℕ
    group_or None = 0
    group_or (Some z) = z.group

    same_group : (g l : ℕ) (p q : Numbered) → IsMarkerOf g End p → IsMarkerOf l End q → p ≡ q → g ≡ l
    same_group g l p q a b s = ap group_or (sym a ∙ ap (λ z. z.batch.marker) s ∙ b)

    go : AreApart x.effect y.effect ⊎ AreApart y.effect x.effect → ⊥
    go (inl h) = h (omega (arith, x.first, y.last), omega (arith, y.first, x.last)) (inl x.group) r (ap (names r) x.steps ∙ m) (ap (names r) y.steps ∙ n)
    go (inr h) = h (omega (arith, y.first, x.last), omega (arith, x.first, y.last)) (inl y.group) r (ap (names r) y.steps ∙ n) (ap (names r) x.steps ∙ m)

-- ---- the effects of a history are the only list of its effects in order

in_first : (e : Effect) (es : List Effect) → IsIn e (e ∷ es)
in_first e es = record { before = []; behind = es; split = refl }

in_later : (e x : Effect) (es : List Effect) → IsIn e es → IsIn e (x ∷ es)
in_later e x es i = record { before = x ∷ i.before; behind = i.behind; split = ap (λ l. x ∷ l) i.split }

-- what is in the one is in the other
abbrev HasAll : List Effect → List Effect → Type 0
HasAll es fs = (e : Effect) → IsIn e es → IsIn e fs

same_lists : (n m : ℕ) (es fs : List Effect) → RiseFrom n es → RiseFrom m fs → HasAll es fs → HasAll fs es → es ≡ fs
same_lists n m [] [] h k a b = refl
same_lists n m [] (f ∷ fs) h k a b = absurd (in_none f (b f (in_first f fs)))
same_lists n m (e ∷ es) [] h k a b = absurd (in_none e (a e (in_first e es)))
same_lists n m (e ∷ es) (f ∷ fs) h k a b = go (head_or_tail e f fs (a e (in_first e es))) (head_or_tail f e es (b f (in_first f fs))) (same_lists (suc e.last.number) (suc f.last.number) es fs h.1 k.1)
  where
    behind_e : (x : Effect) → IsIn x es → suc e.last.number ≤ x.last.number
    behind_e x i = each_in (λ y. suc e.last.number ≤ y.last.number) x es (later_from (suc e.last.number) es h.1) i

    behind_f : (x : Effect) → IsIn x fs → suc f.last.number ≤ x.last.number
    behind_f x i = each_in (λ y. suc f.last.number ≤ y.last.number) x fs (later_from (suc f.last.number) fs k.1) i

    rest : e ≡ f → HasAll es fs × HasAll fs es
    rest s = (λ x i. not_f (head_or_tail x f fs (a x (in_later x e es i))) i, λ x i. not_e (head_or_tail x e es (b x (in_later x f fs i))) i)
      where
        same_last : e.last.number ≡ f.last.number
        same_last = ap (λ z. z.last.number) s

        not_f : {x : Effect} → (f ≡ x) ⊎ IsIn x fs → IsIn x es → IsIn x fs
        not_f {x} (inl t) i = absurd (omega (arith, behind_e x i, same_last, ap (λ z. z.last.number) t))
        not_f {x} (inr t) i = t

        not_e : {x : Effect} → (e ≡ x) ⊎ IsIn x es → IsIn x fs → IsIn x es
        not_e {x} (inl t) i = absurd (omega (arith, behind_f x i, same_last, ap (λ z. z.last.number) t))
        not_e {x} (inr t) i = t

    both : e ≡ f → (HasAll es fs → HasAll fs es → es ≡ fs) → e ∷ es ≡ f ∷ fs
    both s ih = ap (λ x. x ∷ es) s ∙ ap (λ l. f ∷ l) (ih (rest s).0 (rest s).1)

    go : (f ≡ e) ⊎ IsIn e fs → (e ≡ f) ⊎ IsIn f es → (HasAll es fs → HasAll fs es → es ≡ fs) → e ∷ es ≡ f ∷ fs
    go (inl s) t ih = both (sym s) ih
    go (inr s) (inl t) ih = both t ih
    go (inr s) (inr t) ih = absurd (omega (arith, behind_f e s, behind_e f t))

pub effects_unique : (h : List BatchSteps) (es : List Effect) → AreEffects h es → es ≡ effects h
effects_unique h es a = same_lists 0 0 es (effects h) a.rise (effects_are h).rise (λ e i. (effects_are h).every e (each_in (IsEffect h) e es a.only i)) (λ e i. a.every e (each_in (IsEffect h) e (effects h) (effects_are h).only i))
