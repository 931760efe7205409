-- The entries of the map of groups, as contracts see them.
use Rattle.raft_contexts.proofs.Common.{◌≡◌, ℕ, Bool, true, false, cond, not, eqb, arith, List, [], ◌∷◌, ◌++◌, length, map, Option, Some, None, refl, sym, ap, subst, ◌∙◌, nil_from_length, length-map, flat_map, nat_cmp, eq_by_cmp, is_eq}
use Rattle.raft_contexts.proofs.Common.{option_map, unwrap_or, IsStrictlySortedBy, insert_entry, is_at, keys_of, values_of, lookup, remove_entry, nat_cmp_total, unsigned_tied, alike_right, nat_tests, nat_cmp-IsAntisymmetric, same_map}
use Rattle.raft_contexts.proofs.Common.{find-where_key, without_marker, joined_group, WaitingGroups, known_of, held_steps, waiting_steps, shown, is_sorted-shown, find-shown, shown-insert_entry, shown-remove_entry, group_shown, T, find}
use Rattle.std.specs.FinMap as finite
use Rattle.raft_history.specs.WaitingGroup as groups
use Rattle.raft_contexts.specs.declared.waiting_group.WaitingGroup.{WaitingGroup}

abbrev pub own : ℕ → ℕ
own x = x

-- the entries as the map of groups
abbrev pub seen : List (ℕ × WaitingGroup) → WaitingGroups
seen es = finite.from_sorted (map (λ e. (e.0, group_shown e.1)) es)

abbrev pub Ordered : List (ℕ × WaitingGroup) → Type 0
Ordered es = IsStrictlySortedBy nat_cmp (keys_of es)

in_order : (es : List (ℕ × WaitingGroup)) → Ordered es → T (finite.is_sorted nat_cmp (shown nat_cmp own group_shown es))
in_order es h = is_sorted-shown nat_cmp own group_shown es h

pub entries-seen : (es : List (ℕ × WaitingGroup)) → Ordered es → finite.entries (seen es) ≡ map (λ e. (e.0, group_shown e.1)) es
entries-seen es h = finite.entries-from_sorted nat_cmp _ (in_order es h)

pub get-seen : (es : List (ℕ × WaitingGroup)) (q : ℕ) → Ordered es → finite.get (seen es) q ≡ option_map group_shown (lookup (is_at (nat_cmp q)) es)
get-seen es q h = finite.get-from_sorted nat_cmp _ q (in_order es h) ∙ find-shown nat_cmp own group_shown q es

pub seen-insert : (k : ℕ) (x : WaitingGroup) (es : List (ℕ × WaitingGroup)) → Ordered es → Ordered (insert_entry nat_cmp es k x) → seen (insert_entry nat_cmp es k x) ≡ finite.insert (seen es) k (group_shown x)
seen-insert k x es h g = finite.same_entries_map _ _ (entries-seen _ g ∙ shown-insert_entry nat_cmp own group_shown k x es
    ∙ ap (finite.put nat_cmp k (group_shown x)) (sym (entries-seen es h)) ∙ sym (finite.entries-insert nat_cmp_total (seen es) k (group_shown x)))

-- without a group
get-without : (es : List (ℕ × WaitingGroup)) (k q : ℕ) → Ordered es → Ordered (remove_entry (is_at (nat_cmp k)) es) →
    finite.get (seen (remove_entry (is_at (nat_cmp k)) es)) q ≡ cond (not (eq_by_cmp nat_cmp k q)) (finite.get (seen es) q) None
get-without es k q h g =
    finite.get-from_sorted nat_cmp _ q (in_order _ g) ∙ ap (find nat_cmp q) (shown-remove_entry nat_cmp own group_shown nat_cmp_total k es (in_order es h))
    ∙ find-where_key nat_cmp (λ x. not (eq_by_cmp nat_cmp k x)) q (λ x t. ap (λ r. not (is_eq r)) (sym (alike_right nat_cmp_total q x k t))) (shown nat_cmp own group_shown es)
    ∙ ap (λ v. cond (not (eq_by_cmp nat_cmp k q)) v None) (sym (finite.get-from_sorted nat_cmp _ q (in_order es h)))

-- what is put back replaces what was taken out
pub seen-replace : (es : List (ℕ × WaitingGroup)) (k : ℕ) (v : groups.WaitingGroup) → Ordered es → Ordered (remove_entry (is_at (nat_cmp k)) es) → finite.insert (seen (remove_entry (is_at (nat_cmp k)) es)) k v ≡ finite.insert (seen es) k v
seen-replace es k v h g = same_map nat_cmp_total nat_cmp-IsAntisymmetric _ _ (λ q.
    finite.get-insert nat_cmp_total (seen (remove_entry (is_at (nat_cmp k)) es)) k v q
    ∙ ap (cond (eq_by_cmp nat_cmp q k) (Some v)) (get-without es k q h g) ∙ go q (eq_by_cmp nat_cmp q k) refl
    ∙ sym (finite.get-insert nat_cmp_total (seen es) k v q))
  where
    flip : (a b : ℕ) → eqb b a ≡ false → eqb a b ≡ false
    flip a b e = grind (arith, nat_tests)

    go : (q : ℕ) (b : Bool) → eq_by_cmp nat_cmp q k ≡ b → cond b (Some v) (cond (not (eq_by_cmp nat_cmp k q)) (finite.get (seen es) q) None) ≡ cond b (Some v) (finite.get (seen es) q)
    go q true e = refl
    go q false e = rw (unsigned_tied k q, flip k q (sym (unsigned_tied q k) ∙ e)) refl

pub known-seen : (es : List (ℕ × WaitingGroup)) (q : ℕ) (o : Option WaitingGroup) → Ordered es → o ≡ lookup (is_at (nat_cmp q)) es → known_of (seen es) q ≡ unwrap_or (option_map group_shown o) without_marker
known-seen es q o h e = ap (λ x. unwrap_or x without_marker) (get-seen es q h ∙ ap (option_map group_shown) (sym e))

pub seen-none : (es : List (ℕ × WaitingGroup)) → Ordered es → es ≡ [] → seen es ≡ finite.empty
seen-none es h e = finite.empty_of_len (seen es) (finite.len-entries (seen es) ∙ ap length (entries-seen es h ∙ ap (map (λ e. (e.0, group_shown e.1))) e))

-- a group is taken out, joined, and put back
pub seen-joined : (es fs gs : List (ℕ × WaitingGroup)) (id : ℕ) (older newer state : WaitingGroup) (now : WaitingGroups) → Ordered es → Ordered fs → Ordered gs → seen es ≡ now →
    group_shown older ≡ known_of (seen es) id → fs ≡ remove_entry (is_at (nat_cmp id)) es → group_shown state ≡ joined_group (group_shown older) (group_shown newer) → gs ≡ insert_entry nat_cmp fs id state →
    seen gs ≡ finite.insert now id (joined_group (known_of now id) (group_shown newer))
seen-joined es fs gs id older newer state now h k l is taken rest join put =
    ap seen put ∙ seen-insert id state fs k (subst Ordered put l) ∙ ap (λ x. finite.insert (seen x) id (group_shown state)) rest
    ∙ seen-replace es id (group_shown state) h (subst Ordered rest k) ∙ ap (finite.insert (seen es) id) (join ∙ ap (λ x. joined_group x (group_shown newer)) taken)
    ∙ ap (λ x. finite.insert x id (joined_group (known_of x id) (group_shown newer))) is

-- the first group is taken out
pub first-seen : (es fs : List (ℕ × WaitingGroup)) (p : ℕ × WaitingGroup) (now : WaitingGroups) → Ordered es → Ordered fs → seen es ≡ now → es ≡ p ∷ fs → finite.entries now ≡ (p.0, group_shown p.1) ∷ finite.entries (seen fs)
first-seen es fs p now h k is e = ap finite.entries (sym is) ∙ entries-seen es h ∙ ap (map (λ e. (e.0, group_shown e.1))) e ∙ ap (λ l. (p.0, group_shown p.1) ∷ l) (sym (entries-seen fs k))

pub none-seen : (es : List (ℕ × WaitingGroup)) (now : WaitingGroups) → Ordered es → seen es ≡ now → length es ≡ 0 → finite.entries now ≡ []
none-seen es now h is e = ap finite.entries (sym is) ∙ entries-seen es h ∙ ap (map (λ e. (e.0, group_shown e.1))) (nil_from_length es e)

-- the items that wait, over the stored groups
held-list : (es : List (ℕ × WaitingGroup)) → flat_map (λ (e : ℕ × groups.WaitingGroup). held_steps e.1) (map (λ e. (e.0, group_shown e.1)) es) ≡ flat_map (λ s. held_steps (group_shown s)) (values_of es)
held-list [] = refl
held-list (e ∷ es) = ap (λ l. held_steps (group_shown e.1) ++ l) (held-list es)

pub waiting-seen : (es : List (ℕ × WaitingGroup)) (now : WaitingGroups) → Ordered es → seen es ≡ now → waiting_steps now ≡ length (flat_map (λ s. held_steps (group_shown s)) (values_of es))
waiting-seen es now h is = ap waiting_steps (sym is) ∙ ap (λ l. length (flat_map (λ (e : ℕ × groups.WaitingGroup). held_steps e.1) l)) (entries-seen es h) ∙ ap length (held-list es)

pub len-seen : (es : List (ℕ × WaitingGroup)) (now : WaitingGroups) → Ordered es → seen es ≡ now → finite.len now ≡ length es
len-seen es now h is = ap finite.len (sym is) ∙ finite.len-entries (seen es) ∙ ap length (entries-seen es h) ∙ length-map es (λ e. (e.0, group_shown e.1))
