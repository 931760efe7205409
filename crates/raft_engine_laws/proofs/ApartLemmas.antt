-- Effects stay apart: a batch without a group marker behind a history, and one that takes no effect.
use Rattle.raft_engine_laws.proofs.Common.{◌≡◌, ◌≢◌, ℕ, suc, ◌+◌, ◌<◌, List, [], ◌∷◌, ◌++◌, length, Option, Some, None, refl, sym, ap, subst, ◌∙◌, append-nil, arith, AllByRecursion, AtomicGroupStatus, Begin, Middle, End, GroupMarker, BatchSteps, Numbered, numbered_from}
use Rattle.raft_engine_laws.proofs.Common.{markers_of, open_stretch, Effect, completed_as, completed_by, effects_behind, effects, AreApart, EachApart, each-append, each_weaker, effects_behind-one, effects-append, IsBeforeEnd}

-- what a batch completes has it as its last
completed_last : (m : Option GroupMarker) (before : List Numbered) (p : Numbered) → AllByRecursion (λ (e : Effect). e.last.number ≡ p.number) (completed_by m before p)
completed_last None before p = (refl, tt)
completed_last (Some m) before p = by m.status (open_stretch (markers_of m.group before))
  where
    by : (s : AtomicGroupStatus) (l : List Numbered) → AllByRecursion (λ (e : Effect). e.last.number ≡ p.number) (completed_as s l p)
    by Begin l = tt
    by Middle l = tt
    by End [] = tt
    by End (q ∷ qs) = (refl, tt)

pub last_low : (before : List Numbered) (n : ℕ) (bs : List BatchSteps) → AllByRecursion (λ (e : Effect). e.last.number < n + length bs) (effects_behind before (numbered_from n bs))
unfolding effects_behind
last_low before n [] = tt
last_low before n (b ∷ bs) = each-append (λ (e : Effect). e.last.number < n + suc (length bs))
    (completed_by b.marker before record { number = n; batch = b })
    (effects_behind (before ++ record { number = n; batch = b } ∷ []) (numbered_from (suc n) bs))
    (each_weaker (λ (e : Effect). e.last.number ≡ n) (λ (e : Effect). e.last.number < n + suc (length bs)) (λ e is. omega (arith, is))
    (completed_by b.marker before record { number = n; batch = b }) (completed_last b.marker before record { number = n; batch = b }))
    (each_weaker (λ (e : Effect). e.last.number < suc n + length bs) (λ (e : Effect). e.last.number < n + suc (length bs))
    (λ e low. omega (arith, low)) (effects_behind (before ++ record { number = n; batch = b } ∷ []) (numbered_from (suc n) bs))
    (last_low (before ++ record { number = n; batch = b } ∷ []) (suc n) bs))

pub apart_more : (es : List Effect) (f : Effect) → EachApart es → AllByRecursion (λ (e : Effect). AreApart e f) es → EachApart (es ++ f ∷ [])
apart_more [] f h k = (tt, tt)
apart_more (e ∷ es) f h k = (each-append (AreApart e) es (f ∷ []) h.0 (k.0, tt), apart_more es f h.1 k.1)

pub effects_more : (h : List BatchSteps) (b : BatchSteps) → effects (h ++ b ∷ []) ≡ effects h ++ completed_by b.marker (numbered_from 0 h) record { number = length h; batch = b }
effects_more h b = effects-append h (b ∷ []) ∙ ap (λ l. effects h ++ l) (effects_behind-one (numbered_from 0 h) record { number = length h; batch = b })

-- a batch without a group marker comes after all effects before it
pub apart_plain : (h : List BatchSteps) (b : BatchSteps) → b.marker ≡ None → EachApart (effects h) → EachApart (effects (h ++ b ∷ []))
apart_plain h b plain apart = subst EachApart (sym (effects_more h b ∙ ap (λ m. effects h ++ completed_by m (numbered_from 0 h) record { number = length h; batch = b }) plain))
    (apart_more (effects h) record { earlier = []; last = record { number = length h; batch = b } } apart
    (each_weaker (λ (e : Effect). e.last.number < 0 + length h)
    (λ (e : Effect). AreApart e record { earlier = []; last = record { number = length h; batch = b } })
    (λ e low over. absurd (omega (arith, low, over.1))) (effects h) (last_low [] 0 h)))

-- a batch that begins a group or goes on with one takes no effect
pub effects_held : (h : List BatchSteps) (b : BatchSteps) → IsBeforeEnd b.marker → effects (h ++ b ∷ []) ≡ effects h
effects_held h b held = effects_more h b ∙ ap (λ l. effects h ++ l) (none b.marker held) ∙ append-nil (effects h)
  where
    by : (g : ℕ) (s : AtomicGroupStatus) → s ≢ End → completed_as s (open_stretch (markers_of g (numbered_from 0 h))) record { number = length h; batch = b } ≡ []
    by g Begin n = refl
    by g Middle n = refl
    by g End n = absurd (n refl)

    none : (m : Option GroupMarker) → IsBeforeEnd m → completed_by m (numbered_from 0 h) record { number = length h; batch = b } ≡ []
    none None n = absurd n
    none (Some m) n = by m.group m.status n

pub apart_held : (h : List BatchSteps) (b : BatchSteps) → IsBeforeEnd b.marker → EachApart (effects h) → EachApart (effects (h ++ b ∷ []))
apart_held h b held apart = subst EachApart (sym (effects_held h b held)) apart
