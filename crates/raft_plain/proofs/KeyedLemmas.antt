-- The entries of a map under numbers, shown by what their keys and values stand for.
use Rattle.raft_plain.proofs.Common.{◌≡◌, Bool, true, false, cond, not, ◌&&◌, List, [], ◌∷◌, ℕ, Option, Some, None, refl, sym, ap, subst, ◌∙◌, map, length, sorted_head, sorted_tail, insert_entry, is_at, nat_cmp_total, find, put, is_sorted, nat_cmp-IsAntisymmetric, below_all}
use Rattle.raft_plain.proofs.Common.{by_order, where_key, AllByRecursion, IsStrictlySortedBy, keys_of, lookup, remove_entry, option_map, eq_by_cmp, is_eq, match_ordering, nat_cmp, Less, Equal, Greater, entries-remove, first_of_both, second_of_both, equal, below_all-equal}
use Rattle.raft_plain.proofs.Common.{find-below, where_key-below, tied, eqb_self}
use Rattle.std.specs.FinMap as finite
use lib.Dec.{T}

both_hold : (a b : Bool) → T a → T b → T (a && b)
both_hold true b p q = q
both_hold false b p q = absurd p

module _ {X V : Type 0} (show : ℕ → X → V) where
  -- each entry by what it stands for
  abbrev pub seen : List (ℕ × X) → List (ℕ × V)
  seen es = map (λ e. (e.0, show e.0 e.1)) es

  abbrev pub map_of : List (ℕ × X) → finite.FinMap nat_cmp V
  map_of es = finite.from_sorted (seen es)

  abbrev pub Rises : List (ℕ × X) → Type 0
  Rises es = IsStrictlySortedBy nat_cmp (keys_of es)

  below_all-seen : (k : ℕ) (es : List (ℕ × X)) → AllByRecursion (λ y. nat_cmp k y ≡ Less) (keys_of es) → T (below_all nat_cmp k (seen es))
  below_all-seen k [] h = tt
  below_all-seen k (e ∷ es) h = rw h.0 (below_all-seen k es h.1)

  pub in_order : (es : List (ℕ × X)) → Rises es → T (is_sorted nat_cmp (seen es))
  in_order [] h = tt
  in_order (e ∷ es) h = both_hold _ _ (below_all-seen e.0 es (sorted_head nat_cmp _ _ h)) (in_order es (sorted_tail nat_cmp _ _ h))

  find-seen : (q : ℕ) (es : List (ℕ × X)) → find nat_cmp q (seen es) ≡ option_map (show q) (lookup (is_at (nat_cmp q)) es)
  find-seen q [] = refl
  find-seen q (e ∷ es) =
      elim (is_eq (nat_cmp q e.0)) as (λ b. is_eq (nat_cmp q e.0) ≡ b → cond b (Some (show e.0 e.1)) (find nat_cmp q (seen es)) ≡ option_map (show q) (cond b (Some e.1) (lookup (is_at (nat_cmp q)) es))) [
        | true ↦ λ t. ap (λ k. Some (show k e.1)) (sym (nat_cmp-IsAntisymmetric q e.0 (equal _ t)))
        | false ↦ λ t. find-seen q es
      ] refl

  seen-insert_entry : (k : ℕ) (x : X) (es : List (ℕ × X)) → seen (insert_entry nat_cmp es k x) ≡ put nat_cmp k (show k x) (seen es)
  seen-insert_entry k x [] = refl
  seen-insert_entry k x (e ∷ es) =
      elim (nat_cmp k e.0) as (λ r. nat_cmp k e.0 ≡ r → seen (match_ordering r ((k, x) ∷ e ∷ es) ((e.0, x) ∷ es) (e ∷ insert_entry nat_cmp es k x)) ≡ by_order r
      ((k, show k x) ∷ seen (e ∷ es)) ((e.0, show k x) ∷ seen es) ((e.0, show e.0 e.1) ∷ put nat_cmp k (show k x) (seen es))) [
        | Less ↦ λ t. refl
        | Equal ↦ λ t. ap (λ (j : ℕ). (e.0, show j x) ∷ seen es) (sym (nat_cmp-IsAntisymmetric k e.0 t))
        | Greater ↦ λ t. ap (λ r. (e.0, show e.0 e.1) ∷ r) (seen-insert_entry k x es)
      ] refl

  seen-remove_entry : (q : ℕ) (es : List (ℕ × X)) → T (is_sorted nat_cmp (seen es)) → seen (remove_entry (is_at (nat_cmp q)) es) ≡ where_key nat_cmp (λ x. not (eq_by_cmp nat_cmp q x)) (seen es)
  seen-remove_entry q [] h = refl
  seen-remove_entry q (e ∷ es) h =
      let P : Bool → Type 0 = λ b. seen (cond b es (e ∷ remove_entry (is_at (nat_cmp q)) es)) ≡ cond (not b)
      ((e.0, show e.0 e.1) ∷ where_key nat_cmp (λ x. not (eq_by_cmp nat_cmp q x)) (seen es)) (where_key nat_cmp (λ x. not (eq_by_cmp nat_cmp q x)) (seen es)) in
      elim (is_eq (nat_cmp q e.0)) as (λ b. is_eq (nat_cmp q e.0) ≡ b → P b) [
        | true ↦ λ t. sym (where_key-below nat_cmp_total q (seen es) (below_all-equal nat_cmp_total q _ _ (equal _ t) (first_of_both _ _ h)))
        | false ↦ λ t. ap (λ r. (e.0, show e.0 e.1) ∷ r) (seen-remove_entry q es (second_of_both _ _ h))
      ] refl

  pub entries-of : (es : List (ℕ × X)) → Rises es → finite.entries (map_of es) ≡ seen es
  entries-of es h = finite.entries-from_sorted nat_cmp _ (in_order es h)

  -- what stands under a key
  pub get-of : (es : List (ℕ × X)) (q : ℕ) → Rises es → finite.get (map_of es) q ≡ option_map (show q) (lookup (is_at (nat_cmp q)) es)
  get-of es q h = finite.get-from_sorted nat_cmp _ q (in_order es h) ∙ find-seen q es

  -- what was found under a key
  pub found : (es : List (ℕ × X)) (q : ℕ) (o : Option X) → Rises es → o ≡ lookup (is_at (nat_cmp q)) es → option_map (show q) o ≡ finite.get (map_of es) q
  found es q o h is = ap (option_map (show q)) is ∙ sym (get-of es q h)

  -- one entry put
  pub put-of : (old new : List (ℕ × X)) (k : ℕ) (x : X) → Rises old → Rises new → new ≡ insert_entry nat_cmp old k x → map_of new ≡ finite.insert (map_of old) k (show k x)
  put-of old new k x h g is =
      finite.same_entries_map _ _ (entries-of new g ∙ ap seen is ∙ seen-insert_entry k x old ∙ ap (put nat_cmp k (show k x)) (sym (entries-of old h))
      ∙ sym (finite.entries-insert nat_cmp_total (map_of old) k (show k x)))

  -- one entry taken away
  pub gone-of : (old new : List (ℕ × X)) (k : ℕ) → Rises old → Rises new → new ≡ remove_entry (is_at (nat_cmp k)) old → map_of new ≡ finite.remove (map_of old) k
  gone-of old new k h g is =
      finite.same_entries_map _ _ (entries-of new g ∙ ap seen is ∙ seen-remove_entry k old (in_order old h)
      ∙ sym (rw (entries-of old h) at (entries-remove nat_cmp_total nat_cmp-IsAntisymmetric (map_of old) k)))

  -- no entries
  pub none-of : (es : List (ℕ × X)) → es ≡ [] → map_of es ≡ finite.empty
  none-of es is = ap map_of is ∙ finite.same_entries_map _ _ (finite.entries-from_sorted nat_cmp [] tt ∙ sym entries-none)
    where
      entries-none : finite.entries (finite.empty {X = V} {R = nat_cmp}) ≡ []
      entries-none = none_from (finite.len-empty nat_cmp V)
        where
          none_from : finite.len (finite.empty {X = V} {R = nat_cmp}) ≡ 0 → finite.entries (finite.empty {X = V} {R = nat_cmp}) ≡ []
          none_from e = no_length _ (sym (finite.len-entries _) ∙ e)
            where
              no_length : (es : List (ℕ × V)) → length es ≡ 0 → es ≡ []
              no_length [] e = refl
              no_length (x ∷ es) e = absurd cc

  -- ---- the first entry, and those behind it

  pub head_is : (e : ℕ × X) (es : List (ℕ × X)) → Rises (e ∷ es) → finite.get (map_of (e ∷ es)) e.0 ≡ Some (show e.0 e.1)
  head_is e es h = get-of (e ∷ es) e.0 h ∙ ap (λ b. option_map (show e.0) (cond b (Some e.1) (lookup (is_at (nat_cmp e.0)) es))) (tied e.0 e.0 ∙ eqb_self e.0)

  pub head_gone : (e : ℕ × X) (es : List (ℕ × X)) → Rises (e ∷ es) → finite.get (map_of es) e.0 ≡ None
  head_gone e es h = finite.get-from_sorted nat_cmp _ e.0 (in_order es (sorted_tail nat_cmp _ _ h)) ∙ find-below nat_cmp_total e.0 (seen es) (below_all-seen e.0 es (sorted_head nat_cmp _ _ h))

  pub head_other : (e : ℕ × X) (es : List (ℕ × X)) (q : ℕ) → Rises (e ∷ es) → eq_by_cmp nat_cmp q e.0 ≡ false → finite.get (map_of es) q ≡ finite.get (map_of (e ∷ es)) q
  head_other e es q h apart = get-of es q (sorted_tail nat_cmp _ _ h) ∙ sym (get-of (e ∷ es) q h ∙ ap (λ b. option_map (show q) (cond b (Some e.1) (lookup (is_at (nat_cmp q)) es))) apart)

  pub rest_rises : (old rest : List (ℕ × X)) (e : ℕ × X) → old ≡ e ∷ rest → Rises old → Rises rest
  rest_rises old rest e is h = sorted_tail nat_cmp _ _ (subst Rises is h)
