-- The markers of a group, one more and joined.
use Rattle.raft_history.proofs.Common.{Begin, Middle, End, and_parts, list_all-append, ◌≡◌, ℕ, Bool, true, false, cond, ◌&&◌, List, [], ◌∷◌, ◌++◌, Option, Some, None, refl, sym, ap, ◌∙◌, append_assoc, flat_map-append, filter-append}
use Rattle.raft_history.proofs.Common.{AtomicGroupStatus, GroupMarker, RegionStep, has_status, Numbered, is_of, markers_of, is_same_status, open_stretch, GroupFront, Open, Ended, Begun, led_by, front_by, front_behind, front_of, stretch_of}
use Rattle.raft_history.proofs.Common.{group_at, group_of, carried_stretch, joined_group_by, joined_group, whole_of, whole_group_by}
use Rattle.raft_history.proofs.Words.{region_steps_of, are_middles}

pub markers_of-append : (g : ℕ) (ps qs : List Numbered) → markers_of g (ps ++ qs) ≡ markers_of g ps ++ markers_of g qs
unfolding markers_of
markers_of-append g ps qs = filter-append (λ p. is_of g p.batch.marker) ps qs

pub are_middles-append : (ps qs : List Numbered) → are_middles (ps ++ qs) ≡ (are_middles ps && are_middles qs)
are_middles-append ps qs = list_all-append (λ (p : Numbered). has_status Middle p.batch.marker) ps qs

-- where Middles alone stand, nothing is open
pub middles_open_none : (ps : List Numbered) → are_middles ps ≡ true → open_stretch ps ≡ []
unfolding open_stretch
middles_open_none [] h = refl
middles_open_none (p ∷ ps) h = let n = and_parts (has_status Middle p.batch.marker) (are_middles ps) h in rw (begins_none p.batch.marker n.0) (middles_open_none ps n.1)
  where
    other : (s : AtomicGroupStatus) → is_same_status Middle s ≡ true → is_same_status Begin s ≡ false
    other Middle e = refl
    other _ e = cc

    begins_none : (m : Option GroupMarker) → has_status Middle m ≡ true → has_status Begin m ≡ false
    begins_none None e = refl
    begins_none (Some m) e = other m.status e

-- a stretch with the markers behind it
abbrev pub with_more : List Numbered → List Numbered → List Numbered
with_more [] qs = []
with_more (p ∷ ps) qs = p ∷ (ps ++ qs)

pub open_stretch-append : (ps qs : List Numbered) → open_stretch (ps ++ qs) ≡ cond (are_middles qs) (with_more (open_stretch ps) qs) (open_stretch qs)
unfolding open_stretch
open_stretch-append [] qs = go (are_middles qs) refl
  where
    go : (b : Bool) → are_middles qs ≡ b → open_stretch qs ≡ cond b [] (open_stretch qs)
    go true h = middles_open_none qs h
    go false h = refl
open_stretch-append (p ∷ ps) qs = rw (are_middles-append ps qs) (go (has_status Begin p.batch.marker) (are_middles ps) (are_middles qs) (open_stretch-append ps qs))
  where
    go : (b m n : Bool) → open_stretch (ps ++ qs) ≡ cond n (with_more (open_stretch ps) qs) (open_stretch qs) →
        cond (b && (m && n)) (p ∷ (ps ++ qs)) (open_stretch (ps ++ qs)) ≡ cond n (with_more (cond (b && m) (p ∷ ps) (open_stretch ps)) qs)
        (open_stretch qs)
    go true true true ih = refl
    go true true false ih = ih
    go true false n ih = ih
    go false m n ih = ih

pub led_by-led_by : (is js : List RegionStep) (f : GroupFront) → led_by is (led_by js f) ≡ led_by (is ++ js) f
led_by-led_by is js (Open ks) = ap Open (sym (append_assoc is js ks))
led_by-led_by is js (Ended ks f) = ap (λ l. Ended l f) (sym (append_assoc is js ks))
led_by-led_by is js Begun = refl

-- a front with what is behind it
abbrev pub front_with : GroupFront → GroupFront → GroupFront
front_with (Open is) g = led_by is g
front_with (Ended is f) g = Ended is f
front_with Begun g = Begun

pub front_of-append : (ps qs : List Numbered) → front_of (ps ++ qs) ≡ front_with (front_of ps) (front_of qs)
unfolding front_of
front_of-append [] qs = sym (led_none (front_of qs))
  where
    led_none : (f : GroupFront) → led_by [] f ≡ f
    led_none (Open is) = refl
    led_none (Ended is f) = refl
    led_none Begun = refl
front_of-append (p ∷ ps) qs = go p.batch.marker (front_of-append ps qs)
  where
    led_with : (is : List RegionStep) (f g : GroupFront) → led_by is (front_with f g) ≡ front_with (led_by is f) g
    led_with is (Open js) g = led_by-led_by is js g
    led_with is (Ended js f) g = refl
    led_with is Begun g = refl

    go : (m : Option GroupMarker) → front_of (ps ++ qs) ≡ front_with (front_of ps) (front_of qs) →
        front_behind m p.batch.steps p.batch.seq (front_of (ps ++ qs)) ≡ front_with (front_behind m p.batch.steps p.batch.seq (front_of ps))
        (front_of qs)
    go None ih = refl
    go (Some m) ih = at m.status
      where
        at : (s : AtomicGroupStatus) → front_by s p.batch.steps p.batch.seq (front_of (ps ++ qs)) ≡ front_with (front_by s p.batch.steps p.batch.seq (front_of ps)) (front_of qs)
        at Begin = refl
        at Middle = ap (led_by p.batch.steps) ih ∙ led_with p.batch.steps (front_of ps) (front_of qs)
        at End = refl

-- a front is open where Middles alone stand
abbrev pub FitsFront : GroupFront → List Numbered → Type 0
FitsFront (Open is) ps = (are_middles ps ≡ true) × (is ≡ region_steps_of ps)
FitsFront (Ended is f) ps = are_middles ps ≡ false
FitsFront Begun ps = are_middles ps ≡ false

pub fits_front : (ps : List Numbered) → FitsFront (front_of ps) ps
unfolding front_of
fits_front [] = (refl, refl)
fits_front (p ∷ ps) = go p.batch.marker refl (front_of ps) (fits_front ps)
  where
    go : (m : Option GroupMarker) → p.batch.marker ≡ m → (f : GroupFront) → FitsFront f ps → FitsFront (front_behind m p.batch.steps p.batch.seq f) (p ∷ ps)
    go None is f h = rw is refl
    go (Some m) is f h = at m.status (ap (has_status Middle) is) f h
      where
        at : (s : AtomicGroupStatus) → has_status Middle p.batch.marker ≡ is_same_status Middle s → (f : GroupFront) → FitsFront f ps → FitsFront (front_by s p.batch.steps p.batch.seq f) (p ∷ ps)
        at Begin is f h = rw is refl
        at Middle is (Open js) h = (rw is h.0, ap (λ l. p.batch.steps ++ l) h.1)
        at Middle is _ h = rw is h
        at End is f h = rw is refl

stretch_with : (ps qs : List Numbered) → stretch_of (with_more ps qs) ≡ carried_stretch (stretch_of ps) (region_steps_of qs)
stretch_with [] qs = refl
stretch_with (p ∷ ps) qs = ap (λ l. Some record { first_seq = p.batch.seq; steps = l }) (flat_map-append (λ x. x.batch.steps) (p ∷ ps) qs)

-- what is known of a group from two histories
pub group_at-append : (ps qs : List Numbered) → group_at (ps ++ qs) ≡ joined_group (group_at ps) (group_at qs)
group_at-append ps qs = rw (front_of-append, open_stretch-append) (go (front_of ps) (front_of qs) (are_middles qs) refl (fits_front ps) (fits_front qs))
  where
    go : (f g : GroupFront) (b : Bool) → are_middles qs ≡ b → FitsFront f ps → FitsFront g qs →
        record { front = front_with f g; stretch = stretch_of (cond b (with_more (open_stretch ps) qs) (open_stretch qs)) } ≡ joined_group_by f g
        record { front = f; stretch = stretch_of (open_stretch ps) } record { front = g; stretch = stretch_of (open_stretch qs) }
    go (Open is) g true e h k = rw (middles_open_none ps h.0, middles_open_none qs e) refl
    go (Open is) g false e h k = refl
    go f (Open js) true e h k = ap (λ s. record { front = f; stretch = s }) (stretch_with (open_stretch ps) qs ∙ ap (carried_stretch (stretch_of (open_stretch ps))) (sym k.1))
    go f (Open js) false e h k = cc
    go f g true e h k = cc
    go f g false e h k = refl

pub group_of-append : (g : ℕ) (ps qs : List Numbered) → group_of g (ps ++ qs) ≡ joined_group (group_of g ps) (group_of g qs)
group_of-append g ps qs = rw markers_of-append (group_at-append (markers_of g ps) (markers_of g qs))

-- with an open front there is no open stretch
pub whole_is : (ps : List Numbered) (f : GroupFront) → whole_group_by (front_of ps) (stretch_of (open_stretch ps)) f ≡ whole_of (stretch_of (open_stretch ps)) f
whole_is ps f = go (front_of ps) (fits_front ps)
  where
    go : (t : GroupFront) → FitsFront t ps → whole_group_by t (stretch_of (open_stretch ps)) f ≡ whole_of (stretch_of (open_stretch ps)) f
    go (Open is) h = rw (middles_open_none ps h.0) refl
    go _ h = refl
