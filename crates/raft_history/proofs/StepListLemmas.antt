-- Lists of steps, and the steps on one region.
use Rattle.raft_history.proofs.Common.{arith, nat_tests, filter-append, map-append, ◌≡◌, ℕ, true, false, cond, eqb, ◌||◌, List, [], ◌∷◌, ◌++◌, refl, ap, ◌∙◌, map, filter, eq-eqb, Step, AreSteps, RegionStep, names, steps_on}
use Rattle.raft_history.proofs.Words.{is_on}

pub eqb_self : (r : ℕ) → eqb r r ≡ true
eqb_self r = eq-eqb r r refl

pub eqb_flip : (a b : ℕ) → eqb a b ≡ eqb b a
eqb_flip a b = grind (arith, nat_tests)

pub steps-append : (ss rs : List Step) → AreSteps ss → AreSteps rs → AreSteps (ss ++ rs)
steps-append [] rs a b = b
steps-append (s ∷ ss) rs a b = (a.0, steps-append ss rs a.1 b)

pub steps_left : (ss rs : List Step) → AreSteps (ss ++ rs) → AreSteps ss
steps_left [] rs a = tt
steps_left (s ∷ ss) rs a = (a.0, steps_left ss rs a.1)

pub steps_right : (ss rs : List Step) → AreSteps (ss ++ rs) → AreSteps rs
steps_right [] rs a = a
steps_right (s ∷ ss) rs a = steps_right ss rs a.1

pub head_none : (xs ys : List Step) → xs ++ ys ≡ [] → xs ≡ []
head_none [] ys e = refl
head_none (x ∷ xs) ys e = cc

pub tail_none : (xs ys : List Step) → xs ++ ys ≡ [] → ys ≡ []
tail_none [] ys e = e
tail_none (x ∷ xs) ys e = cc

pub own-append : (r : ℕ) (is js : List RegionStep) → steps_on r (is ++ js) ≡ steps_on r is ++ steps_on r js
unfolding steps_on
own-append r is js = ap (map (λ (i : RegionStep). i.step)) (filter-append (is_on r) is js) ∙ map-append (λ (i : RegionStep). i.step) (filter (is_on r) is) (filter (is_on r) js)

pub own_none : (r : ℕ) → steps_on r [] ≡ []
unfolding steps_on
own_none r = refl

pub own_cons : (r : ℕ) (i : RegionStep) (is : List RegionStep) → steps_on r (i ∷ is) ≡ cond (eqb r i.region) (i.step ∷ steps_on r is) (steps_on r is)
unfolding steps_on
own_cons r i is = elim (eqb r i.region) as (λ b. map (λ i. i.step) (cond b (i ∷ filter (is_on r) is) (filter (is_on r) is)) ≡ cond b (i.step ∷ map (λ i. i.step) (filter (is_on r) is)) (map (λ i. i.step) (filter (is_on r) is))) [
  | true ↦ refl
  | false ↦ refl
]

pub own_head : (i : RegionStep) (is : List RegionStep) → steps_on i.region (i ∷ is) ≡ i.step ∷ steps_on i.region is
own_head i is = own_cons i.region i is ∙ ap (λ b. cond b (i.step ∷ steps_on i.region is) (steps_on i.region is)) (eqb_self i.region)

pub own_other : (r : ℕ) (i : RegionStep) (is : List RegionStep) → eqb r i.region ≡ false → steps_on r (i ∷ is) ≡ steps_on r is
own_other r i is f = own_cons r i is ∙ ap (λ b. cond b (i.step ∷ steps_on r is) (steps_on r is)) f

pub own_first : (i : RegionStep) → steps_on i.region (i ∷ []) ≡ i.step ∷ []
own_first i = own_head i [] ∙ ap (λ l. i.step ∷ l) (own_none i.region)

pub own_nothing : (r : ℕ) (i : RegionStep) → eqb r i.region ≡ false → steps_on r (i ∷ []) ≡ []
own_nothing r i f = own_other r i [] f ∙ own_none r

pub names_none : (r : ℕ) → names r [] ≡ false
unfolding names
names_none r = refl

pub names_cons : (r : ℕ) (i : RegionStep) (is : List RegionStep) → names r (i ∷ is) ≡ (eqb r i.region || names r is)
unfolding names
names_cons r i is = refl
