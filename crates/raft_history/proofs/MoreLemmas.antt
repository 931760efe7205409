-- The map of groups of joined histories and of one more batch, and one more batch's steps.
use Rattle.raft_history.proofs.Common.{Begin, Middle, End, list_any-append, ◌≡◌, ℕ, Bool, true, false, cond, ◌||◌, eqb, List, [], ◌∷◌, ◌++◌, length, Option, Some, None, refl, sym, ap, ◌∙◌, eqb-true, eq-eqb, map, IsDistinct, unwrap_or}
use Rattle.raft_history.proofs.Common.{nat_cmp, nat_cmp_total, nat_cmp-IsAntisymmetric, same_map, find, AtomicGroupStatus, GroupMarker, BatchSteps, completed_as, completed_by, effects_behind, effects, steps_of, Numbered, numbered_from}
use Rattle.raft_history.proofs.Common.{is_of, markers_of, open_stretch, RegionStep, without_marker, front_of, Open, Begun, WaitingGroup, joined_group, whole_group, whole_of, stretch_of, one_marker, group_of, group_in, WaitingGroups}
use Rattle.raft_history.proofs.Common.{groups_in, known_of, joined_with, joined_groups, groups_after, steps_or, steps_by_batch}
use Rattle.std.proofs.lemmas.List.{append-nil}
use Rattle.std.specs.FinMap as finite
use Rattle.raft_history.proofs.Words.{all_steps}
use Rattle.raft_history.proofs.EffectLemmas.{effects_behind-one, all_steps-append, all_steps-one}
use Rattle.raft_history.proofs.JoinedLemmas.{group_in-append, effects-append}
use Rattle.raft_history.proofs.KnownLemmas.{entries-empty, find_none, has_marker, get-groups_in, group_in-without_marker, known-groups_in, keys_distinct, tied}
use Rattle.raft_history.proofs.MarkerLemmas.{whole_is}

-- what a join has at a group
abbrev joined_at : Option WaitingGroup → Option WaitingGroup → Option WaitingGroup
joined_at o None = o
joined_at o (Some n) = Some (joined_group (unwrap_or o without_marker) n)

pub get-joined_with : (older : WaitingGroups) (es : List (ℕ × WaitingGroup)) (q : ℕ) → IsDistinct eqb (map (λ e. e.0) es) → finite.get (joined_with older es) q ≡ joined_at (finite.get older q) (find nat_cmp q es)
unfolding IsDistinct
get-joined_with older [] q one = refl
get-joined_with older (e ∷ es) q one = get-joined_with (finite.insert older e.0 (joined_group (known_of older e.0) e.1)) es q one.1
    ∙ rw (finite.get-insert nat_cmp_total older e.0 (joined_group (known_of older e.0) e.1) q, tied q e.0) (go (eqb q e.0) refl)
  where
    go : (t : Bool) → eqb q e.0 ≡ t → joined_at (cond t (Some (joined_group (known_of older e.0) e.1)) (finite.get older q)) (find nat_cmp q es) ≡ joined_at (finite.get older q) (cond t (Some e.1) (find nat_cmp q es))
    go true t = rw (ap (λ k. find nat_cmp k es) (eqb-true q e.0 t) ∙ find_none e.0 es one.0) (ap (λ x. Some (joined_group (known_of older x) e.1)) (sym (eqb-true q e.0 t)))
    go false t = refl

-- no more markers
joined_group-without_marker : (g : ℕ) (h k : List BatchSteps) → has_marker g k ≡ false → group_in g (h ++ k) ≡ group_in g h
joined_group-without_marker g h k e = group_in-append g h k ∙ ap (joined_group (group_in g h)) (group_in-without_marker g k e ∙ sym (group_in-without_marker g [] refl)) ∙ sym (group_in-append g h []) ∙ ap (group_in g) (append-nil h)

pub groups_in-append : (h k : List BatchSteps) → groups_in (h ++ k) ≡ joined_groups (groups_in h) (groups_in k)
groups_in-append h k = same_map nat_cmp_total nat_cmp-IsAntisymmetric (groups_in (h ++ k)) (joined_groups (groups_in h) (groups_in k)) (λ q. both q ∙ sym (join q))
  where
    go : (q : ℕ) (s : Bool) → has_marker q h ≡ s → (t : Bool) → has_marker q k ≡ t → cond (s || t) (Some (group_in q (h ++ k))) None ≡ joined_at (cond s (Some (group_in q h)) None) (cond t (Some (group_in q k)) None)
    go q true a true b = ap Some (group_in-append q h k)
    go q true a false b = ap Some (joined_group-without_marker q h k b)
    go q false a true b = ap Some (group_in-append q h k ∙ ap (λ x. joined_group x (group_in q k)) (group_in-without_marker q h a))
    go q false a false b = refl

    both : (q : ℕ) → finite.get (groups_in (h ++ k)) q ≡ joined_at (cond (has_marker q h) (Some (group_in q h)) None) (cond (has_marker q k) (Some (group_in q k)) None)
    both q = get-groups_in q (h ++ k) ∙ ap (λ x. cond x (Some (group_in q (h ++ k))) None) (list_any-append (λ (b : BatchSteps). is_of q b.marker) h k) ∙ go q (has_marker q h) refl (has_marker q k) refl

    join : (q : ℕ) → finite.get (joined_groups (groups_in h) (groups_in k)) q ≡ joined_at (cond (has_marker q h) (Some (group_in q h)) None) (cond (has_marker q k) (Some (group_in q k)) None)
    join q = get-joined_with (groups_in h) (finite.entries (groups_in k)) q (keys_distinct (finite.entries (groups_in k)) (finite.entries_sorted (groups_in k)))
        ∙ ap (joined_at (finite.get (groups_in h) q)) (sym (finite.get-entries (groups_in k) q) ∙ get-groups_in q k)
        ∙ ap (λ x. joined_at x (cond (has_marker q k) (Some (group_in q k)) None)) (get-groups_in q h)

group_in-one : (g : ℕ) (is : List RegionStep) (s : AtomicGroupStatus) (f : ℕ) → group_in g (record { steps = is; marker = Some record { group = g; status = s }; seq = f } ∷ []) ≡ one_marker s is f
unfolding markers_of open_stretch front_of
group_in-one g is Begin f = rw (eq-eqb g g refl) (ap (λ l. record { front = Begun; stretch = Some record { first_seq = f; steps = l } }) (append-nil is))
group_in-one g is Middle f = rw (eq-eqb g g refl) (ap (λ l. record { front = Open l; stretch = None }) (append-nil is))
group_in-one g is End f = rw (eq-eqb g g refl) refl

one_entry : (is : List RegionStep) (m : GroupMarker) (f : ℕ) → finite.entries (groups_in (record { steps = is; marker = Some m; seq = f } ∷ [])) ≡ (m.group, one_marker m.status is f) ∷ []
unfolding groups_in
one_entry is m f = rw (finite.entries-insert nat_cmp_total finite.empty m.group (group_in m.group (record { steps = is; marker = Some m; seq = f } ∷ [])), entries-empty) (ap (λ x. (m.group, x) ∷ []) (group_in-one m.group is m.status f))

joined_group-one : (groups : WaitingGroups) (is : List RegionStep) (m : Option GroupMarker) (f : ℕ) →
    joined_groups groups (groups_in (record { steps = is; marker = m; seq = f } ∷ [])) ≡ groups_after groups record
    { steps = is; marker = m; seq = f } m
unfolding groups_in
joined_group-one groups is None f = rw entries-empty refl
joined_group-one groups is (Some m) f = ap (joined_with groups) (one_entry is m f)

pub groups_in-one : (h : List BatchSteps) (b : BatchSteps) → groups_in (h ++ b ∷ []) ≡ groups_after (groups_in h) b b.marker
groups_in-one h b = groups_in-append h (b ∷ []) ∙ joined_group-one (groups_in h) b.steps b.marker b.seq

-- one more batch's steps, in one context
completed-steps : (r : ℕ) (olds : List Numbered) (p : Numbered) (m : GroupMarker) →
    all_steps r (completed_as m.status (open_stretch (markers_of m.group olds)) p) ≡ steps_or r
    (whole_group (group_of m.group olds) (one_marker m.status p.batch.steps p.batch.seq))
completed-steps r olds p m = rw (whole_is (markers_of m.group olds)) (at m.status (open_stretch (markers_of m.group olds)))
  where
    at : (s : AtomicGroupStatus) (l : List Numbered) → all_steps r (completed_as s l p) ≡ steps_or r (whole_of (stretch_of l) (one_marker s p.batch.steps p.batch.seq).front)
    at Begin [] = refl
    at Begin (q ∷ qs) = refl
    at Middle [] = refl
    at Middle (q ∷ qs) = refl
    at End [] = refl
    at End (q ∷ qs) = all_steps-one r record { earlier = q ∷ qs; last = p }

pub steps-one : (r : ℕ) (h : List BatchSteps) (b : BatchSteps) → steps_of r (h ++ b ∷ []) ≡ steps_of r h ++ steps_by_batch r (groups_in h) b b.marker
steps-one r h b = ap (all_steps r) (effects-append h (b ∷ [])) ∙ all_steps-append r (effects h) (effects_behind (numbered_from 0 h) (numbered_from (length h) (b ∷ [])))
    ∙ ap (λ l. steps_of r h ++ l) (ap (all_steps r) (effects_behind-one (numbered_from 0 h) record { number = length h; batch = b }) ∙ go b.marker)
  where
    go : (m : Option GroupMarker) → all_steps r (completed_by m (numbered_from 0 h) record { number = length h; batch = b }) ≡ steps_by_batch r (groups_in h) b m
    go None = all_steps-one r record { earlier = []; last = record { number = length h; batch = b } }
    go (Some m) = completed-steps r (numbered_from 0 h) record { number = length h; batch = b } m ∙ ap (λ x. steps_or r (whole_group x (one_marker m.status b.steps b.seq))) (sym (known-groups_in m.group h))
