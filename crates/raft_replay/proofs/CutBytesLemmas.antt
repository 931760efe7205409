-- Which bytes the parts have that one is cut into.
use Rattle.raft_replay.proofs.Common.{◌≡◌, ℕ, ◌+◌, ◌≤◌, List, [], ◌∷◌, ◌++◌, length, take, drop, refl, sym, ap, ◌∙◌, subst, arith, append_assoc, append-nil, length-append, length-take-le, FileId, Version, Part, bytes_before, rest_of}
use Rattle.raft_replay.proofs.Common.{joined_bytes, StandInTurn, ArePartsOf}
use Rattle.std.proofs.lemmas.List.{take-append-drop}

-- ---- parts behind others

joined_append : (xs ys : List Part) → joined_bytes (xs ++ ys) ≡ joined_bytes xs ++ joined_bytes ys
joined_append [] ys = refl
joined_append (x ∷ xs) ys = ap (λ (t : List ℕ). x.bytes ++ t) (joined_append xs ys) ∙ sym (append_assoc x.bytes (joined_bytes xs) (joined_bytes ys))

module _ (id : FileId) (version : Version) where
  -- where the parts behind one begin
  behind_one : (offset : ℕ) (x : Part) (xs : List Part) → offset + length (joined_bytes (x ∷ xs)) ≡ offset + length x.bytes + length (joined_bytes xs)
  behind_one offset x xs = omega (arith, length-append x.bytes (joined_bytes xs))

  turn_append : (offset : ℕ) (xs ys : List Part) → StandInTurn id version offset xs → StandInTurn id version (offset + length (joined_bytes xs)) ys → StandInTurn id version offset (xs ++ ys)
  turn_append offset [] ys front back = subst (λ (n : ℕ). StandInTurn id version n ys) (omega arith) back
  turn_append offset (x ∷ xs) ys front back = (
    front.0,
    front.1,
    front.2,
    turn_append (offset + length x.bytes) xs ys front.3 (subst (λ (n : ℕ). StandInTurn id version n ys) (behind_one offset x xs) back),
  )

  turn_split : (offset : ℕ) (xs ys : List Part) → StandInTurn id version offset (xs ++ ys) → StandInTurn id version offset xs × StandInTurn id version (offset + length (joined_bytes xs)) ys
  turn_split offset [] ys all = (tt, subst (λ (n : ℕ). StandInTurn id version n ys) (omega arith) all)
  turn_split offset (x ∷ xs) ys all =
      let rest = turn_split (offset + length x.bytes) xs ys all.3 in
      ((all.0, all.1, all.2, rest.0), subst (λ (n : ℕ). StandInTurn id version n ys) (sym (behind_one offset x xs)) rest.1)

-- ---- one part more

-- the last part, cut in two
last_cut : (whole left : Part) (old : List Part) (at : ℕ) → ArePartsOf whole (old ++ left ∷ []) → at ≤ length left.bytes
    → ArePartsOf whole (old ++ bytes_before left at ∷ rest_of left at ∷ [])
last_cut whole left old at before inside =
    let turn = turn_split whole.id whole.version whole.offset old (left ∷ []) before.in_turn in
    let last = turn.1 in
    let ends : left.offset + at ≡ whole.offset + length (joined_bytes old) + length (take at left.bytes) =
    let n = length-take-le at left.bytes inside in let o = last.2 in omega (arith, n, o) in
    let two : joined_bytes (bytes_before left at ∷ rest_of left at ∷ []) ≡ joined_bytes (left ∷ []) =
    ap (λ (t : List ℕ). take at left.bytes ++ t) (append-nil (drop at left.bytes)) ∙ take-append-drop at left.bytes ∙ sym (append-nil left.bytes) in
    record {
      in_turn =
          turn_append whole.id whole.version whole.offset old (bytes_before left at ∷ rest_of left at ∷ [])
          turn.0 (last.0, last.1, last.2, (last.0, last.1, ends, tt));
      bytes =
          joined_append old (bytes_before left at ∷ rest_of left at ∷ [])
          ∙ ap (λ (t : List ℕ). joined_bytes old ++ t) two
          ∙ sym (joined_append old (left ∷ []))
          ∙ before.bytes;
    }

pub parts_more : (whole left front rest : Part) (old new : List Part) (at : ℕ) → ArePartsOf whole (old ++ left ∷ []) → at ≤ length left.bytes
    → front ≡ bytes_before left at → rest ≡ rest_of left at → new ≡ old ++ front ∷ [] → ArePartsOf whole (new ++ rest ∷ [])
parts_more whole left front rest old new at before inside front_is rest_is new_is =
    subst (ArePartsOf whole)
    (sym (append_assoc old (bytes_before left at ∷ []) (rest_of left at ∷ []))
    ∙ ap (λ (p : Part). old ++ p ∷ [] ++ rest_of left at ∷ []) (sym front_is)
    ∙ ap (λ (l : List Part). l ++ rest_of left at ∷ []) (sym new_is)
    ∙ ap (λ (p : Part). new ++ p ∷ []) (sym rest_is))
    (last_cut whole left old at before inside)
