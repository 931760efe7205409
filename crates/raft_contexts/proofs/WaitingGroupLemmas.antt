-- One group after another is joined.
use Rattle.raft_contexts.proofs.Common.{◌≡◌, ℕ, false, eqb, ◌<◌, List, [], ◌∷◌, ◌++◌, map, Option, Some, None, refl, sym, ap, subst, ◌∙◌, append_assoc, arith, option_to_list, AllByRecursion, cons_option, IsDistinct, nat_cmp_total}
use Rattle.raft_contexts.proofs.Common.{nat_tests, AtomicGroupStatus, RegionStep, BatchSteps, batch_with_marker, EachApart, effects, steps_of, WaitingGroup, joined_group, WholeGroup, whole_group, one_marker, WaitingGroups, groups_in}
use Rattle.raft_contexts.proofs.Common.{steps_or, known_of, joined_groups, whole_with, whole_groups, steps_of_wholes, keys_distinct, tied, steps_across, groups_in-append, groups_in-one, steps-one}
use Rattle.std.specs.FinMap as finite

pub joined-step : (m n a b : WaitingGroups) (id : ℕ) (g : WaitingGroup) → finite.entries a ≡ (id, g) ∷ finite.entries b → n ≡ finite.insert m id (joined_group (known_of m id) g) → joined_groups n b ≡ joined_groups m a
joined-step m n a b id g e k = rw (e, k) refl

pub joined-none : (m n : WaitingGroups) → finite.entries n ≡ [] → joined_groups m n ≡ m
joined-none m n e = rw e refl

pub wholes-none : (m n : WaitingGroups) → finite.entries n ≡ [] → whole_groups m n ≡ []
wholes-none m n e = rw e refl

whole-others : (m : WaitingGroups) (id : ℕ) (v : WaitingGroup) (es : List (ℕ × WaitingGroup)) → AllByRecursion (λ y. eqb id y ≡ false) (map (λ e. e.0) es) → whole_with (finite.insert m id v) es ≡ whole_with m es
whole-others m id v [] h = refl
whole-others m id v (e ∷ es) h = rw (finite.get-insert nat_cmp_total m id v e.0, tied e.0 id, flip e.0 id h.0) (ap (cons_option (whole_group (known_of m e.0) e.1)) (whole-others m id v es h.1))
  where
    flip : (a b : ℕ) → eqb b a ≡ false → eqb a b ≡ false
    flip a b e = grind (arith, nat_tests)

pub wholes-step : (m n a b : WaitingGroups) (id : ℕ) (g : WaitingGroup) (ws : List WholeGroup) (w : Option WholeGroup) →
    finite.entries a ≡ (id, g) ∷ finite.entries b → n ≡ finite.insert m id (joined_group (known_of m id) g) → w ≡ whole_group (known_of m id) g →
    (ws ++ option_to_list w) ++ whole_groups n b ≡ ws ++ whole_groups m a
unfolding IsDistinct
wholes-step m n a b id g ws w e k is = append_assoc ws (option_to_list w) (whole_groups n b)
    ∙ ap (λ l. ws ++ l) (ap (λ x. option_to_list w ++ whole_groups x b) k
    ∙ ap (λ l. option_to_list w ++ l) (whole-others m id (joined_group (known_of m id) g) (finite.entries b) distinct.0) ∙ go w is
    ∙ ap (whole_with m) (sym e))
  where
    distinct : IsDistinct eqb (id ∷ map (λ e. e.0) (finite.entries b))
    distinct = subst (λ es. IsDistinct eqb (map (λ e. e.0) es)) e (keys_distinct (finite.entries a) (finite.entries_sorted a))

    go : (w : Option WholeGroup) → w ≡ whole_group (known_of m id) g → option_to_list w ++ whole_with m (finite.entries b) ≡ whole_with m ((id, g) ∷ finite.entries b)
    go None e = rw (← e) refl
    go (Some x) e = rw (← e) refl

pub len-first : (a b : WaitingGroups) (p : ℕ × WaitingGroup) → finite.entries a ≡ p ∷ finite.entries b → finite.len b < finite.len a
len-first a b p e = rw (finite.len-entries a, finite.len-entries b, e) (omega arith)

-- one more batch with a marker, and a newer history, behind a history
pub stands-one : (m n : WaitingGroups) (h : List BatchSteps) (is : List RegionStep) (g : ℕ) (s : AtomicGroupStatus) (f : ℕ) (x : WaitingGroup) →
    m ≡ groups_in h → x ≡ one_marker s is f → n ≡ finite.insert m g (joined_group (known_of m g) x) →
    n ≡ groups_in (h ++ batch_with_marker is g s f ∷ [])
stands-one m n h is g s f x e k put = put ∙ ap (λ y. finite.insert m g (joined_group (known_of m g) y)) k ∙ ap (λ y. finite.insert y g (joined_group (known_of y g) (one_marker s is f))) e ∙ sym (groups_in-one h (batch_with_marker is g s f))

pub steps-with_marker : (m : WaitingGroups) (h : List BatchSteps) (r : ℕ) (is : List RegionStep) (g : ℕ) (s : AtomicGroupStatus) (f : ℕ)
    (x : WaitingGroup) (w : Option WholeGroup) → m ≡ groups_in h → x ≡ one_marker s is f → w ≡ whole_group (known_of m g) x →
    steps_of r (h ++ batch_with_marker is g s f ∷ []) ≡ steps_of r h ++ steps_or r w
steps-with_marker m h r is g s f x w e k is_whole = steps-one r h (batch_with_marker is g s f)
    ∙ ap (λ y. steps_of r h ++ steps_or r y)
    (sym (is_whole ∙ ap (whole_group (known_of m g)) k ∙ ap (λ y. whole_group (known_of y g) (one_marker s is f)) e))

pub stands-joined : (m n o : WaitingGroups) (h k : List BatchSteps) → o ≡ joined_groups m n → m ≡ groups_in h → n ≡ groups_in k → o ≡ groups_in (h ++ k)
stands-joined m n o h k j e f = j ∙ ap (λ x. joined_groups x n) e ∙ ap (joined_groups (groups_in h)) f ∙ sym (groups_in-append h k)

pub steps-joined : (m n : WaitingGroups) (h k : List BatchSteps) (r : ℕ) (ws : List WholeGroup) → ws ≡ whole_groups m n → m ≡ groups_in h →
    n ≡ groups_in k → EachApart (effects (h ++ k)) → steps_of r (h ++ k) ≡ steps_of r h ++ (steps_of_wholes r ws ++ steps_of r k)
steps-joined m n h k r ws j e f apart = steps_across r h k apart ∙ ap (λ x. steps_of r h ++ (steps_of_wholes r x ++ steps_of r k)) (sym (j ∙ ap (λ x. whole_groups x n) e ∙ ap (whole_groups (groups_in h)) f))
