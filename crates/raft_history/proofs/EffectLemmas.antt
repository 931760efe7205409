-- Words on effects: numbers, extents, names and steps.
use Rattle.raft_history.proofs.Common.{Begin, Middle, End, IsMarkerOf, cond_both, false_from_ne_true, flat_map, or_parts, ◌≡◌, ◌≢◌, ℕ, suc, ◌+◌, ◌<◌, ◌≤◌, Bool, true, false, ◌&&◌, List, [], ◌∷◌, ◌++◌, length, Option, Some, None, refl, sym}
use Rattle.raft_history.proofs.Common.{ap, subst, ◌∙◌, inr, append_assoc, arith, flat_map-append, filter, AllByRecursion, list_any, AtomicGroupStatus, GroupMarker, BatchSteps, Effect, completed_as, completed_by, effects_behind, whole_steps}
use Rattle.raft_history.proofs.Common.{region_steps_in, steps_by, first_in, AreApart, EachApart, has_status, Numbered, numbered_from, is_of, markers_of, open_stretch, RegionStep, names, steps_on}
use Rattle.std.proofs.lemmas.List.{append-nil}
use Rattle.raft_history.proofs.Words.{steps_in, is_on, region_steps_of, all_steps, are_middles}

-- what holds of each
pub each-append : {X : Type 0} (P : X → Type 0) (xs ys : List X) → AllByRecursion P xs → AllByRecursion P ys → AllByRecursion P (xs ++ ys)
each-append P [] ys h k = k
each-append P (x ∷ xs) ys h k = (h.0, each-append P xs ys h.1 k)

pub each_left : {X : Type 0} (P : X → Type 0) (xs ys : List X) → AllByRecursion P (xs ++ ys) → AllByRecursion P xs
each_left P [] ys h = tt
each_left P (x ∷ xs) ys h = (h.0, each_left P xs ys h.1)

pub each_right : {X : Type 0} (P : X → Type 0) (xs ys : List X) → AllByRecursion P (xs ++ ys) → AllByRecursion P ys
each_right P [] ys h = h
each_right P (x ∷ xs) ys h = each_right P xs ys h.1

pub each_weaker : {X : Type 0} (P Q : X → Type 0) → ((x : X) → P x → Q x) → (xs : List X) → AllByRecursion P xs → AllByRecursion Q xs
each_weaker P Q f [] h = tt
each_weaker P Q f (x ∷ xs) h = (f x h.0, each_weaker P Q f xs h.1)

pub each_filter : {X : Type 0} (P : X → Type 0) (t : X → Bool) (xs : List X) → AllByRecursion P xs → AllByRecursion P (filter t xs)
each_filter P t [] h = tt
each_filter {X} P t (x ∷ xs) h =
    let rest = each_filter P t xs h.1 in
    cond_both (t x) (x ∷ filter t xs) (filter t xs) (AllByRecursion P) (λ e. (h.0, rest)) (λ e. rest)

-- what holds of each of some lists holds of them joined
pub each_flat : {X Y : Type 0} (P : Y → Type 0) (f : X → List Y) (xs : List X) → AllByRecursion (λ x. AllByRecursion P (f x)) xs → AllByRecursion P (flat_map f xs)
each_flat P f [] h = tt
each_flat P f (x ∷ xs) h = each-append P (f x) (flat_map f xs) h.0 (each_flat P f xs h.1)

pub each_markers : (P : Numbered → Type 0) (g : ℕ) (ps : List Numbered) → AllByRecursion P ps → AllByRecursion P (markers_of g ps)
unfolding markers_of
each_markers P g ps h = each_filter P (λ p. is_of g p.batch.marker) ps h

pub each_open : (P : Numbered → Type 0) (ps : List Numbered) → AllByRecursion P ps → AllByRecursion P (open_stretch ps)
unfolding open_stretch
each_open P [] h = tt
each_open P (p ∷ ps) h = cond_both (has_status Begin p.batch.marker && are_middles ps) (p ∷ ps) (open_stretch ps) (AllByRecursion P) (λ e. h) (λ e. each_open P ps h.1)

-- by one more at the end
pub by_push : {X : Type 0} (P : List X → Type 0) → P [] → ((xs : List X) (x : X) → P xs → P (xs ++ x ∷ [])) → (xs : List X) → P xs
by_push {X} P none more xs = go [] xs none
  where
    go : (done todo : List X) → P done → P (done ++ todo)
    go done [] h = subst P (sym (append-nil done)) h
    go done (x ∷ todo) h = subst P (append_assoc done (x ∷ []) todo) (go (done ++ x ∷ []) todo (more done x h))

-- numbers
pub numbered_from-append : (n : ℕ) (h k : List BatchSteps) → numbered_from n (h ++ k) ≡ numbered_from n h ++ numbered_from (n + length h) k
numbered_from-append n [] k = ap (λ x. numbered_from x k) (omega arith)
numbered_from-append n (b ∷ bs) k = ap (λ l. record { number = n; batch = b } ∷ l) (numbered_from-append (suc n) bs k ∙ ap (λ x. numbered_from (suc n) bs ++ numbered_from x k) (omega arith))

pub from_on : (n : ℕ) (h : List BatchSteps) → AllByRecursion (λ p. n ≤ p.number) (numbered_from n h)
from_on n [] = tt
from_on n (b ∷ bs) = (omega arith, each_weaker (λ p. suc n ≤ p.number) (λ p. n ≤ p.number) (λ p k. omega arith) (numbered_from (suc n) bs) (from_on (suc n) bs))

pub up_to : (n m : ℕ) (h : List BatchSteps) → n + length h ≤ m → AllByRecursion (λ p. p.number < m) (numbered_from n h)
up_to n m [] e = tt
up_to n m (b ∷ bs) e = (omega arith, up_to (suc n) m bs (omega arith))

-- effects one behind another
pub effects_behind-append : (olds ps qs : List Numbered) → effects_behind olds (ps ++ qs) ≡ effects_behind olds ps ++ effects_behind (olds ++ ps) qs
unfolding effects_behind
effects_behind-append olds [] qs = ap (λ l. effects_behind l qs) (sym (append-nil olds))
effects_behind-append olds (p ∷ ps) qs = ap (λ l. completed_by p.batch.marker olds p ++ l)
    (effects_behind-append (olds ++ p ∷ []) ps qs ∙ ap (λ l. effects_behind (olds ++ p ∷ []) ps ++ effects_behind l qs)
    (append_assoc olds (p ∷ []) ps))
    ∙ sym (append_assoc (completed_by p.batch.marker olds p) (effects_behind (olds ++ p ∷ []) ps) (effects_behind (olds ++ p ∷ ps) qs))

pub effects_behind-one : (olds : List Numbered) (p : Numbered) → effects_behind olds (p ∷ []) ≡ completed_by p.batch.marker olds p
unfolding effects_behind
effects_behind-one olds p = append-nil (completed_by p.batch.marker olds p)

pub effects_behind-none : (olds : List Numbered) → effects_behind olds [] ≡ []
unfolding effects_behind
effects_behind-none olds = refl

pub all_steps-append : (r : ℕ) (es fs : List Effect) → all_steps r (es ++ fs) ≡ all_steps r es ++ all_steps r fs
all_steps-append r es fs = flat_map-append (steps_in r) es fs

pub all_steps-one : (r : ℕ) (e : Effect) → all_steps r (e ∷ []) ≡ steps_by r e.earlier e.last
all_steps-one r e = append-nil (steps_by r e.earlier e.last)

-- what isn't named has no steps
pub steps_on-none : (r : ℕ) (is : List RegionStep) → names r is ≡ false → steps_on r is ≡ []
unfolding names steps_on
steps_on-none r [] h = refl
steps_on-none r (i ∷ is) h = let n = or_parts (is_on r i) (list_any (is_on r) is) h in rw n.0 (steps_on-none r is n.1)

pub whole_steps-none : (r : ℕ) (is : List RegionStep) (first_seq last_seq : ℕ) → names r is ≡ false → whole_steps r is first_seq last_seq ≡ []
unfolding whole_steps
whole_steps-none r is first_seq last_seq h = rw (steps_on-none r is h, h) refl

pub steps_in-none : (r : ℕ) (e : Effect) → names r (region_steps_in e) ≡ false → steps_by r e.earlier e.last ≡ []
steps_in-none r e h = go e.earlier h
  where
    go : (l : List Numbered) → names r (region_steps_of l ++ e.last.batch.steps) ≡ false → steps_by r l e.last ≡ []
    go [] h = steps_on-none r e.last.batch.steps h
    go (q ∷ qs) h = whole_steps-none r (region_steps_of (q ∷ qs) ++ e.last.batch.steps) q.batch.seq e.last.batch.seq h

pub all_steps-unnamed : (r : ℕ) (es : List Effect) → AllByRecursion (λ e. names r (region_steps_in e) ≡ false) es → all_steps r es ≡ []
all_steps-unnamed r [] h = refl
all_steps-unnamed r (e ∷ es) h = rw (steps_in-none r e h.0) (all_steps-unnamed r es h.1)

-- what a batch completes behind others: nothing, itself alone, or the open stretch of its group with it
pub by_completed : (P : List Effect → Type 0) (olds : List Numbered) (p : Numbered) → P [] → (p.batch.marker ≡ None → P (record { earlier = []; last = p } ∷ []))
    → ((g : ℕ) (q : Numbered) (qs : List Numbered) → IsMarkerOf g End p → open_stretch (markers_of g olds) ≡ q ∷ qs → P (record { earlier = q ∷ qs; last = p } ∷ []))
    → P (completed_by p.batch.marker olds p)
by_completed P olds p none alone ended = go p.batch.marker refl
  where
    end : (g : ℕ) → IsMarkerOf g End p → (l : List Numbered) → open_stretch (markers_of g olds) ≡ l → P (completed_as End l p)
    end g m [] e = none
    end g m (q ∷ qs) e = ended g q qs m e

    by : (g : ℕ) (s : AtomicGroupStatus) → IsMarkerOf g s p → P (completed_as s (open_stretch (markers_of g olds)) p)
    by g Begin m = none
    by g Middle m = none
    by g End m = end g m (open_stretch (markers_of g olds)) refl

    go : (m : Option GroupMarker) → p.batch.marker ≡ m → P (completed_by m olds p)
    go None e = alone e
    go (Some m) e = by m.group m.status e

-- the open stretch of a group is of the batches that it is read from
pub open_among : (P : Numbered → Type 0) (g : ℕ) (olds : List Numbered) (q : Numbered) (qs : List Numbered) → AllByRecursion P olds → open_stretch (markers_of g olds) ≡ q ∷ qs → AllByRecursion P (q ∷ qs)
open_among P g olds q qs h e = subst (AllByRecursion P) e (each_open P (markers_of g olds) (each_markers P g olds h))

-- what holds of what each batch completes holds of all effects
pub each_effect : (P : Effect → Type 0) (Q : Numbered → Type 0) → ((olds : List Numbered) (p : Numbered) → AllByRecursion Q olds → Q p → AllByRecursion P (completed_by p.batch.marker olds p))
    → (olds ps : List Numbered) → AllByRecursion Q olds → AllByRecursion Q ps → AllByRecursion P (effects_behind olds ps)
unfolding effects_behind
each_effect P Q one olds [] h k = tt
each_effect P Q one olds (p ∷ ps) h k = each-append P (completed_by p.batch.marker olds p) (effects_behind (olds ++ p ∷ []) ps) (one olds p h k.0) (each_effect P Q one (olds ++ p ∷ []) ps (each-append Q olds (p ∷ []) h (k.0, tt)) k.1)

-- extents: where effects of the batches from n to below m begin and end
pub record Within (n m : ℕ) (e : Effect) : Type 0 where
  pub first : first_in e < m
  pub last : e.last.number < m
  pub from : n ≤ e.last.number

within_completed : (n m : ℕ) (olds : List Numbered) (p : Numbered) → AllByRecursion (λ q. q.number < m) olds → n ≤ p.number → p.number < m → AllByRecursion (Within n m) (completed_by p.batch.marker olds p)
within_completed n m olds p below from to = by_completed (AllByRecursion (Within n m)) olds p tt (λ e. (record { first = to; last = to; from = from }, tt))
    (λ g q qs k e. (record { first = (open_among (λ q. q.number < m) g olds q qs below e).0; last = to; from = from }, tt))

pub within : (n m : ℕ) (olds ps : List Numbered) → AllByRecursion (λ q. q.number < m) olds → AllByRecursion (λ q. n ≤ q.number) ps → AllByRecursion (λ q. q.number < m) ps → AllByRecursion (Within n m) (effects_behind olds ps)
unfolding effects_behind
within n m olds [] below from to = tt
within n m olds (p ∷ ps) below from to = each-append (Within n m) (completed_by p.batch.marker olds p) (effects_behind (olds ++ p ∷ []) ps) (within_completed n m olds p below from.0 to.0)
    (within n m (olds ++ p ∷ []) ps (each-append (λ q. q.number < m) olds (p ∷ []) below (to.0, tt)) from.1 to.1)

-- apart
pub apart_left : (es fs : List Effect) → EachApart (es ++ fs) → EachApart es
apart_left [] fs h = tt
apart_left (e ∷ es) fs h = (each_left (AreApart e) es fs h.0, apart_left es fs h.1)

pub apart_right : (es fs : List Effect) → EachApart (es ++ fs) → EachApart fs
apart_right [] fs h = h
apart_right (e ∷ es) fs h = apart_right es fs h.1

pub apart_last : (es : List Effect) (f : Effect) → EachApart (es ++ f ∷ []) → AllByRecursion (λ e. AreApart e f) es
apart_last [] f h = tt
apart_last (e ∷ es) f h = ((each_right (AreApart e) es (f ∷ []) h.0).0, apart_last es f h.1)

-- a group that begins before n and ends at m keeps its regions from what lies between
pub unnamed_between : (r n m : ℕ) (es : List Effect) (f : Effect) → AllByRecursion (Within n m) es → AllByRecursion (λ e. AreApart e f) es →
    f.earlier ≢ [] → first_in f < n → f.last.number ≡ m → names r (region_steps_in f) ≡ true →
    AllByRecursion (λ e. names r (region_steps_in e) ≡ false) es
unnamed_between r n m [] f w a group first last named = tt
unnamed_between r n m (e ∷ es) f w a group first last named = (false_from_ne_true _ (λ k. a.0 (omega (arith, w.0.first), omega (arith, w.0.from)) (inr group) r k named), unnamed_between r n m es f w.1 a.1 group first last named)
