-- What waits and what becomes whole, where groups are joined, has no more records than what waited before.
use Rattle.raft_history.proofs.Common.{◌≡◌, ℕ, ◌+◌, ◌≤◌, false, eqb, List, [], ◌∷◌, ◌++◌, Option, Some, None, refl, ap, ◌∙◌, arith, map, AllByRecursion, IsDistinct, cons_option, unwrap_or, records_in, total, total_of, records_or}
use Rattle.raft_history.proofs.Common.{records_in_wholes, waiting_records, RegionStep, without_marker, joined_group, GroupFront, Open, Ended, Begun, OpenStretch, WaitingGroup, WholeGroup, whole_group, WaitingGroups, known_of, joined_with}
use Rattle.raft_history.proofs.Common.{joined_groups, whole_with, whole_groups, held_steps}
use Rattle.std.specs.FinMap as finite
use Rattle.raft_history.proofs.KnownLemmas.{tied, keys_distinct}
use Rattle.raft_history.proofs.MapLemmas.{get_other}
use Rattle.raft_history.proofs.StepListLemmas.{eqb_flip}
use Rattle.raft_history.proofs.TotalLemmas.{found, total-insert}

pub records-append : (is js : List RegionStep) → records_in (is ++ js) ≡ records_in is + records_in js
records-append [] js = omega arith
records-append (i ∷ is) js = omega (arith, records-append is js)

abbrev pub weight : WaitingGroup → ℕ
weight g = records_in (held_steps g)

-- one group of two neighbors
pub joined_weight : (a b : WaitingGroup) → weight (joined_group a b) + records_or (whole_group a b) ≤ weight a + weight b
joined_weight a b = go a.front b.front a.stretch b.stretch
  where
    go : (f g : GroupFront) (s t : Option OpenStretch) →
        weight (joined_group record { front = f; stretch = s } record { front = g; stretch = t }) + records_or
        (whole_group record { front = f; stretch = s } record { front = g; stretch = t }) ≤ weight record { front = f; stretch = s } + weight record
        { front = g; stretch = t }
    go (Open is) (Open js) s t = simp records-append (omega arith)
    go (Open is) (Ended js n) s t = simp records-append (omega arith)
    go (Open is) Begun s t = simp records-append (omega arith)
    go f (Open js) None t = simp records-append (omega arith)
    go f (Open js) (Some s) t = simp records-append (omega arith)
    go f (Ended js n) None t = simp records-append (omega arith)
    go f (Ended js n) (Some s) t = simp records-append (omega arith)
    go f Begun None t = simp records-append (omega arith)
    go f Begun (Some s) t = simp records-append (omega arith)

pub waiting_known : (m : WaitingGroups) (k : ℕ) → found weight (finite.get m k) ≡ weight (known_of m k)
waiting_known m k = go (finite.get m k)
  where
    go : (o : Option WaitingGroup) → found weight o ≡ weight (unwrap_or o without_marker)
    go None = refl
    go (Some g) = refl

known_other : (m : WaitingGroups) (k : ℕ) (x : WaitingGroup) (es : List (ℕ × WaitingGroup)) → AllByRecursion (λ y. eqb k y ≡ false) (map (λ (e : ℕ × WaitingGroup). e.0) es) → whole_with (finite.insert m k x) es ≡ whole_with m es
known_other m k x [] h = refl
known_other m k x (e ∷ es) h = ap (λ o. cons_option (whole_group o e.1) (whole_with (finite.insert m k x) es))
    (ap (λ o. unwrap_or o without_marker) (get_other m k e.0 x (tied e.0 k ∙ eqb_flip e.0 k ∙ h.0)))
    ∙ ap (cons_option (whole_group (known_of m e.0) e.1)) (known_other m k x es h.1)

wholes-cons : (o : Option WholeGroup) (ws : List WholeGroup) → records_in_wholes (cons_option o ws) ≡ records_or o + records_in_wholes ws
wholes-cons None ws = omega arith
wholes-cons (Some w) ws = refl

joined_waiting : (m : WaitingGroups) (es : List (ℕ × WaitingGroup)) → IsDistinct eqb (map (λ (e : ℕ × WaitingGroup). e.0) es) →
    waiting_records (joined_with m es) + records_in_wholes (whole_with m es) ≤ waiting_records m + total_of weight es
unfolding IsDistinct
joined_waiting m [] one = omega arith
joined_waiting m (e ∷ es) one =
    let x : WaitingGroup = joined_group (known_of m e.0) e.1 in
    omega (
      arith,
      joined_waiting (finite.insert m e.0 x) es one.1,
      ap records_in_wholes (known_other m e.0 x es one.0),
      wholes-cons (whole_group (known_of m e.0) e.1) (whole_with m es),
      total-insert weight m e.0 x,
      waiting_known m e.0,
      joined_weight (known_of m e.0) e.1,
    )

-- a context's bound wants this: what waits after a merge, and what becomes whole there, waited before
pub merged_waiting : (a b : WaitingGroups) → waiting_records (joined_groups a b) + records_in_wholes (whole_groups a b) ≤ waiting_records a + waiting_records b
unfolding total
merged_waiting a b = joined_waiting a (finite.entries b) (keys_distinct (finite.entries b) (finite.entries_sorted b))
