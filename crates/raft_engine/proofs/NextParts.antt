-- The next part of the entries of a table that move past a gate, and what is left behind it.
use Rattle.raft_engine.proofs.Common.{◌≡◌, ◌≢◌, ℕ, zero, suc, ◌+◌, ◌<◌, Bool, true, List, [], ◌∷◌, ◌++◌, drop, length, take, Option, Some, None, refl, sym, ap, subst, ◌∙◌, append_assoc, arith, append_cancel_left, length-drop, length-take-le, take-append-drop, AllByRecursion}
use Rattle.raft_engine.proofs.Common.{prefix_len, EntryIndex, Append, Rewrite, each_left, each_right, appended_before, Keys, pairs_up_to, is_placed_before, may_move, is_placed_in, placed_in, each_placed, placed_each, placed_in_other, placed_in-append, AreCopies, IsFetched}
use Rattle.raft_engine.proofs.Common.{placed_twice, IsFirstPart, IsNextPart, pairs_with}
use Rattle.raft_engine.proofs.FetchedLemmas.{all_fetched, all_may_move}

-- all appended entries behind a part
abbrev pub back_of : ℕ → List EntryIndex → List EntryIndex → List EntryIndex
back_of gate left es = left ++ drop (prefix_len (is_placed_before gate) (placed_in Append es)) (placed_in Append es)

pub parted : (gate : ℕ) (part left es : List EntryIndex) → appended_before gate es ≡ part ++ left → placed_in Append es ≡ part ++ back_of gate left es
parted gate part left es e =
    let n : ℕ = prefix_len (is_placed_before gate) (placed_in Append es) in
    sym (take-append-drop n (placed_in Append es)) ∙ ap (λ (l : List EntryIndex). l ++ drop n (placed_in Append es)) e ∙ append_assoc part left (drop n (placed_in Append es))

pub part_may_move : (gate : ℕ) (part left es : List EntryIndex) → appended_before gate es ≡ part ++ left → AllByRecursion (λ (x : EntryIndex). may_move (Some gate) x ≡ true) part
part_may_move gate part left es e =
    each_left (λ (x : EntryIndex). may_move (Some gate) x ≡ true) part left (subst (AllByRecursion (λ (x : EntryIndex). may_move (Some gate) x ≡ true)) e (all_may_move gate es))

pub with_fetched : (gate : ℕ) (left : List EntryIndex) (keys : Keys) → AllByRecursion (IsFetched (Some gate) keys) (pairs_with left (pairs_up_to Append (Some gate) keys))
with_fetched gate [] keys = all_fetched gate keys
with_fetched gate (e ∷ left) keys = tt

-- ---- what is left moves next

-- the longest front that passes a test has all of a prefix that does
passing_prefix : {X : Type 0} (p : X → Bool) (a b : List X) → AllByRecursion (λ (x : X). p x ≡ true) a → take (prefix_len p (a ++ b)) (a ++ b) ≡ a ++ take (prefix_len p b) b
passing_prefix p [] b h = refl
passing_prefix {X} p (x ∷ a) b h =
    let k : 1 + prefix_len p (a ++ b) ≡ suc (prefix_len p (a ++ b)) = omega arith in rw (h.0, k) (ap (λ (l : List X). x ∷ l) (passing_prefix p a b h.1))

copies_in : (gs es : List EntryIndex) → AreCopies (λ e. []) gs es → AllByRecursion (λ (e : EntryIndex). is_placed_in Rewrite e ≡ true) gs
copies_in [] es h = tt
copies_in (g ∷ gs) [] h = absurd h
copies_in (g ∷ gs) (e ∷ es) h = (h.0.1, copies_in gs es h.1)

pub left_before : (gate : ℕ) (part left es copies moved : List EntryIndex) → AreCopies (λ e. []) copies part → appended_before gate es ≡ part ++ left
    → moved ≡ placed_in Rewrite es ++ (copies ++ back_of gate left es) → left ≡ appended_before gate moved
left_before gate part left es copies moved are e is =
    append_cancel_left part left (take (prefix_len (is_placed_before gate) back) back)
    (sym e ∙ ap (λ (l : List EntryIndex). take (prefix_len (is_placed_before gate) l) l) split ∙ passing_prefix (is_placed_before gate) part back (part_may_move gate part left es e))
    ∙ ap (λ (l : List EntryIndex). take (prefix_len (is_placed_before gate) l) l) (sym only_back)
  where
    back : List EntryIndex
    back = back_of gate left es

    split : placed_in Append es ≡ part ++ back
    split = parted gate part left es e

    none_in_copies : placed_in Append copies ≡ []
    none_in_copies = ap (placed_in Append) (sym (each_placed Rewrite copies (copies_in copies part are))) ∙ placed_in_other Rewrite Append refl copies

    back_stays : placed_in Append back ≡ back
    back_stays = each_placed Append back (each_right (λ (x : EntryIndex). is_placed_in Append x ≡ true) part back
        (subst (AllByRecursion (λ (x : EntryIndex). is_placed_in Append x ≡ true)) split (placed_each Append (placed_in Append es) (placed_twice Append es))))

    only_back : placed_in Append moved ≡ back
    only_back =
        ap (placed_in Append) is ∙ placed_in-append Append (placed_in Rewrite es) (copies ++ back)
        ∙ ap (λ (l : List EntryIndex). l ++ placed_in Append (copies ++ back)) (placed_in_other Rewrite Append refl es)
        ∙ placed_in-append Append copies back ∙ ap (λ (l : List EntryIndex). l ++ placed_in Append back) none_in_copies ∙ back_stays

-- ---- how many are next

none_behind : (l : List EntryIndex) → drop (length l) l ≡ []
none_behind [] = refl
none_behind (x ∷ l) = none_behind l

none_of_none : (k : ℕ) → drop {A = EntryIndex} k [] ≡ []
none_of_none zero = refl
none_of_none (suc k) = refl

pub next_part : (gate : Option ℕ) (es : List EntryIndex) (n : ℕ) → (gate ≢ None → IsFirstPart es n) → (gate ≡ None → n ≡ length es)
    → IsNextPart gate (take n es ++ drop n es) (take n es) (drop n es)
next_part None es n first all = record { split = refl; first = none_left (all refl) }
  where
    none_left : n ≡ length es → drop n es ≡ []
    none_left e = ap (λ (k : ℕ). drop k es) e ∙ none_behind es
next_part (Some gate) es n first all =
    let f : IsFirstPart es n = first (λ e. cc) in record {
      split = refl;
      first = subst (λ (l : List EntryIndex). IsFirstPart l (length (take n es))) (sym (take-append-drop n es)) (subst (IsFirstPart es) (sym (length-take-le n es f.at_most)) f);
    }

module _ (gate : Option ℕ) (es part left : List EntryIndex) (n : ℕ) (front : part ≡ take n es) (back : left ≡ drop n es) (first : gate ≢ None → IsFirstPart es n) (all : gate ≡ None → n ≡ length es) where
  pub joined_parts : es ≡ part ++ left
  joined_parts = sym (take-append-drop n es) ∙ ap (λ (l : List EntryIndex). take n es ++ l) (sym back) ∙ ap (λ (l : List EntryIndex). l ++ left) (sym front)

  pub parted_next : IsNextPart gate (part ++ left) part left
  parted_next =
      subst (λ (l : List EntryIndex). IsNextPart gate (part ++ l) part l) (sym back)
      (subst (λ (l : List EntryIndex). IsNextPart gate (l ++ drop n es) l (drop n es)) (sym front) (next_part gate es n first all))

  -- where entries are left, there is a gate
  pub past_gate : left ≢ [] → gate ≢ None
  past_gate some none = some (back ∙ ap (λ (k : ℕ). drop k es) (all none) ∙ none_behind es)

  pub fewer_left : left ≢ [] → length left < length es
  fewer_left some =
      let f : IsFirstPart es n = first (past_gate some) in
      let long = ap length back ∙ length-drop n es in
      let any = f.some some_of in
      let most = f.at_most in
      omega (arith, long, any, most)
    where
      some_of : es ≢ []
      some_of none = some (back ∙ ap (λ (l : List EntryIndex). drop n l) none ∙ none_of_none n)
