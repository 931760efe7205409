-- The map of groups: what it has at a group, of joined histories and of one more batch.
use Rattle.raft_history.proofs.Common.{Less, Equal, Greater, T, cond_some, ltb-true, ne_eqb, nil_from_length, ◌<◌, or_parts, or_right, ◌≡◌, ℕ, suc, Bool, true, false, cond, ◌||◌, eqb, ltb, List, [], ◌∷◌, ◌++◌, Option, Some, None, refl, sym}
use Rattle.raft_history.proofs.Common.{ap, ◌∙◌, arith, eqb-true, eq-eqb, flat_map, map, is_some, AllByRecursion, list_any, IsDistinct, cons_option, unwrap_or, nat_cmp, eq_by_cmp, is_lt, nat_cmp_total, unsigned_tied, find, below_all}
use Rattle.raft_history.proofs.Common.{GroupMarker, BatchSteps, steps_of, EachApart, effects, numbered_from, is_of, markers_of, open_stretch, without_marker, front_of, WaitingGroup, whole_group, group_in, group_by, groups_in, known_of}
use Rattle.raft_history.proofs.Common.{whole_with, whole_groups, wholes, steps_of_wholes, ListsGroups, IsListed, first_of_both, second_of_both}
use Rattle.std.specs.FinMap as finite
use Rattle.std.specs.FinMap.Entries.{is_sorted}
use Rattle.raft_history.proofs.EffectLemmas.{each_weaker}
use Rattle.raft_history.proofs.JoinedLemmas.{joined_steps}
use Rattle.raft_history.proofs.StepListLemmas.{eqb_flip}

pub tied : (a b : ℕ) → eq_by_cmp nat_cmp a b ≡ eqb a b
tied a b = unsigned_tied a b

abbrev pub has_marker : ℕ → List BatchSteps → Bool
has_marker g h = list_any (λ b. is_of g b.marker) h

find-entries : (g : ℕ) (all h : List BatchSteps) → find nat_cmp g (flat_map (λ b. group_by all b.marker) h) ≡ cond (has_marker g h) (Some (group_in g all)) None
find-entries g all [] = refl
find-entries g all (b ∷ bs) = go b.marker (find-entries g all bs)
  where
    go : (m : Option GroupMarker) → find nat_cmp g (flat_map (λ b. group_by all b.marker) bs) ≡ cond (has_marker g bs) (Some (group_in g all)) None →
        find nat_cmp g (group_by all m ++ flat_map (λ b. group_by all b.marker) bs) ≡ cond (is_of g m || has_marker g bs) (Some (group_in g all)) None
    go None ih = ih
    go (Some m) ih = rw (tied g m.group) (at (eqb g m.group) refl)
      where
        at : (t : Bool) → eqb g m.group ≡ t → cond t (Some (group_in m.group all)) (find nat_cmp g (flat_map (λ b. group_by all b.marker) bs)) ≡ cond (t || has_marker g bs) (Some (group_in g all)) None
        at true e = ap (λ x. Some (group_in x all)) (sym (eqb-true g m.group e))
        at false e = ih

pub get-groups_in : (g : ℕ) (h : List BatchSteps) → finite.get (groups_in h) g ≡ cond (has_marker g h) (Some (group_in g h)) None
unfolding groups_in
get-groups_in g h = finite.get-from_entries nat_cmp_total (flat_map (λ b. group_by h b.marker) h) g ∙ find-entries g h h

-- a group without a marker
no_markers : (g n : ℕ) (h : List BatchSteps) → has_marker g h ≡ false → markers_of g (numbered_from n h) ≡ []
unfolding markers_of
no_markers g n [] e = refl
no_markers g n (b ∷ bs) e = let t = or_parts (is_of g b.marker) (has_marker g bs) e in rw t.0 (no_markers g (suc n) bs t.1)

pub group_in-without_marker : (g : ℕ) (h : List BatchSteps) → has_marker g h ≡ false → group_in g h ≡ without_marker
unfolding open_stretch front_of
group_in-without_marker g h e = rw (no_markers g 0 h e) refl

pub known-groups_in : (g : ℕ) (h : List BatchSteps) → known_of (groups_in h) g ≡ group_in g h
known-groups_in g h = ap (λ o. unwrap_or o without_marker) (get-groups_in g h) ∙ go (has_marker g h) refl
  where
    go : (t : Bool) → has_marker g h ≡ t → unwrap_or (cond t (Some (group_in g h)) None) without_marker ≡ group_in g h
    go true e = refl
    go false e = sym (group_in-without_marker g h e)

pub entries-empty : {X : Type 0} → finite.entries (finite.empty {X = X} {R = nat_cmp}) ≡ []
entries-empty {X} = nil_from_length (finite.entries (finite.empty {X = X} {R = nat_cmp})) (sym (finite.len-entries (finite.empty {X = X} {R = nat_cmp})) ∙ finite.len-empty nat_cmp X)

-- entries in order
below_is : (a b : ℕ) → T (is_lt (nat_cmp a b)) → a < b
below_is a b t = go (ltb a b) refl (eqb a b) t
  where
    go : (l : Bool) → ltb a b ≡ l → (q : Bool) → T (is_lt (cond l Less (cond q Equal Greater))) → a < b
    go true x q t = ltb-true a b x
    go false x true t = absurd t
    go false x false t = absurd t

apart : (a b : ℕ) → T (is_lt (nat_cmp a b)) → eqb a b ≡ false
apart a b t = ne_eqb a b (λ e. omega (arith, below_is a b t, e))

each_found : {X : Type 0} (es : List (ℕ × X)) → T (is_sorted nat_cmp es) → AllByRecursion (λ e. find nat_cmp e.0 es ≡ Some e.1) es
each_found [] h = tt
each_found {X} (e ∷ es) h = (rw (tied e.0 e.0, eq-eqb e.0 e.0 refl) refl, later es (first_of_both _ _ h) (each_found es (second_of_both _ _ h)))
  where
    later : (fs : List (ℕ × X)) → T (below_all nat_cmp e.0 fs) → AllByRecursion (λ x. find nat_cmp x.0 es ≡ Some x.1) fs → AllByRecursion (λ x. find nat_cmp x.0 (e ∷ es) ≡ Some x.1) fs
    later [] b k = tt
    later (f ∷ fs) b k = (rw (tied f.0 e.0, eqb_flip f.0 e.0, apart e.0 f.0 (first_of_both _ _ b)) k.0, later fs (second_of_both _ _ b) k.1)

-- each entry has what is known of its group
pub each_known : (h : List BatchSteps) → AllByRecursion (λ e. (has_marker e.0 h ≡ true) × (e.1 ≡ group_in e.0 h)) (finite.entries (groups_in h))
each_known h = each_weaker (λ e. find nat_cmp e.0 (finite.entries (groups_in h)) ≡ Some e.1) (λ e. (has_marker e.0 h ≡ true) × (e.1 ≡ group_in e.0 h))
    (λ e k. let c = cond_some (has_marker e.0 h) (group_in e.0 h) e.1 (sym (get-groups_in e.0 h) ∙ finite.get-entries (groups_in h) e.0 ∙ k) in (c.0, sym c.1))
    (finite.entries (groups_in h)) (each_found (finite.entries (groups_in h)) (finite.entries_sorted (groups_in h)))

-- the groups' ids are distinct, and they are those of all markers
pub keys_distinct : {X : Type 0} (es : List (ℕ × X)) → T (is_sorted nat_cmp es) → IsDistinct eqb (map (λ e. e.0) es)
unfolding IsDistinct
keys_distinct [] h = tt
keys_distinct {X} (e ∷ es) h = (first es (first_of_both _ _ h), keys_distinct es (second_of_both _ _ h))
  where
    first : (fs : List (ℕ × X)) → T (below_all nat_cmp e.0 fs) → AllByRecursion (λ y. eqb e.0 y ≡ false) (map (λ x. x.0) fs)
    first [] b = tt
    first (f ∷ fs) b = (apart e.0 f.0 (first_of_both _ _ b), first fs (second_of_both _ _ b))

-- a key of no entry
pub find_none : {X : Type 0} (k : ℕ) (es : List (ℕ × X)) → AllByRecursion (λ y. eqb k y ≡ false) (map (λ e. e.0) es) → find nat_cmp k es ≡ None
find_none k [] h = refl
find_none k (e ∷ es) h = rw (tied k e.0, h.0) (find_none k es h.1)

lists_marked : (g : ℕ) (h : List BatchSteps) → has_marker g h ≡ true → list_any (λ x. eqb x g) (finite.keys (groups_in h)) ≡ true
lists_marked g h e =
    ap (λ (t : ℕ → Bool). list_any t (finite.keys (groups_in h))) (λ j x. (eqb_flip x g ∙ sym (tied g x)) j) ∙ sym (finite.contains_key-keys (groups_in h) g)
    ∙ ap is_some (get-groups_in g h) ∙ ap (λ b. is_some (cond b (Some (group_in g h)) None)) e

lists_groups : (h all : List BatchSteps) → ((g : ℕ) → has_marker g h ≡ true → has_marker g all ≡ true) → ListsGroups (finite.keys (groups_in all)) h
lists_groups [] all sub = tt
lists_groups (b ∷ bs) all sub = (go b.marker (λ g e. sub g (rw e refl)), lists_groups bs all (λ g e. sub g (or_right (is_of g b.marker) (has_marker g bs) e)))
  where
    go : (m : Option GroupMarker) → ((g : ℕ) → is_of g m ≡ true → has_marker g all ≡ true) → IsListed (finite.keys (groups_in all)) m
    go None f = tt
    go (Some m) f = lists_marked m.group all (f m.group (eq-eqb m.group m.group refl))

same_wholes : (h k : List BatchSteps) (es : List (ℕ × WaitingGroup)) → AllByRecursion (λ e. (has_marker e.0 k ≡ true) × (e.1 ≡ group_in e.0 k)) es → wholes (map (λ e. e.0) es) h k ≡ whole_with (groups_in h) es
same_wholes h k [] e = refl
same_wholes h k (x ∷ es) e = rw (known-groups_in x.0 h, e.0.1) (ap (cons_option (whole_group (group_in x.0 h) (group_in x.0 k))) (same_wholes h k es e.1))

-- the steps of joined histories, from what is known of their groups
pub steps_across : (r : ℕ) (h k : List BatchSteps) → EachApart (effects (h ++ k)) → steps_of r (h ++ k) ≡ steps_of r h ++ (steps_of_wholes r (whole_groups (groups_in h) (groups_in k)) ++ steps_of r k)
steps_across r h k apart =
    joined_steps r (finite.keys (groups_in k)) h k (keys_distinct (finite.entries (groups_in k)) (finite.entries_sorted (groups_in k))) (lists_groups k k (λ g e. e)) apart
    ∙ ap (λ l. steps_of r h ++ (steps_of_wholes r l ++ steps_of r k)) (same_wholes h k (finite.entries (groups_in k)) (each_known k))
