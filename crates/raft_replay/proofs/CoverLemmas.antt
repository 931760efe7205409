-- What pieces cover: one more segment, all that a seat drew, and all pieces in order.
use Rattle.raft_replay.proofs.Common.{◌≡◌, ℕ, ◌+◌, ◌<◌, ◌≤◌, inl, inr, max, cond, List, [], ◌∷◌, ◌++◌, None, Vec, length, get_or, take, drop, sym, ap, ◌∙◌, subst, arith, take-append-drop, drop-drop, get_or-drop, length-drop, ◌==◌, Global}
use Rattle.raft_replay.proofs.Common.{nat_tests, take_more, drop_more, Part, Event, small_front, Piece, IsPiece, covers, cover_count, Draw, AreBelow, HasEnded, HasReplayed, CannotFollow, CannotBeRead, occurrences, weigh-append}
use Rattle.raft_replay.proofs.Words.{PartsHold, SegmentReads}
use Rattle.raft_replay.proofs.MachineOrderLemmas.{each_more, unread_behind, unread_after}

-- ---- what one piece covers

pub covers_inside : (from count x : ℕ) → from ≤ x → x < from + count → covers from count x ≡ 1
covers_inside from count x low high = grind (arith, nat_tests)

pub covers_below : (from count x : ℕ) → x < from → covers from count x ≡ 0
covers_below from count x below = grind (arith, nat_tests)

pub covers_behind : (from count x : ℕ) → from + count ≤ x → covers from count x ≡ 0
covers_behind from count x behind = grind (arith, nat_tests)

pub covers_none : (from x : ℕ) → covers from 0 x ≡ 0
covers_none from x = grind (arith, nat_tests)

-- the next number is one more
pub covers_more : (from count x : ℕ) → covers from (count + 1) x ≡ covers from count x + cond (x == from + count) 1 0
covers_more from count x = grind (arith, nat_tests)

-- ---- one segment more

module _ {M : Type 0} (stands_for stands_exactly : M → List Event → Type 0) (exact_stands : (m : M) (h : List Event) → stands_exactly m h → stands_for m h) where
  module _ (segments : List (Vec Part Global)) (from count : ℕ) (m : M) (piece : IsPiece stands_exactly segments from count m) (segment : Vec Part Global)
      (inside : from + count < length segments) (is : segment ≡ get_or segments (from + count) segment) where
    one_longer : take (count + 1) (drop from segments) ≡ take count (drop from segments) ++ segment ∷ []
    one_longer =
        let long : count < length (drop from segments) = omega (arith, length-drop from segments) in
        take_more (drop from segments) count segment long
        ∙ ap (λ (s : Vec Part Global). take count (drop from segments) ++ s ∷ []) (get_or-drop from segments count segment ∙ sym is)

    pub piece_more : (n : M) → HasReplayed (PartsHold segment.items) stands_for stands_exactly m n → IsPiece stands_exactly segments from (count + 1) n
    piece_more n more = record {
      inside = omega arith;
      history = piece.history ++ more.history;
      held = each_more SegmentReads (take count (drop from segments)) (take (count + 1) (drop from segments)) segment piece.history more.history one_longer piece.held more.held;
      exact = λ small. more.exact piece.history small (piece.exact (small_front piece.history more.history small));
    }

    around : segments ≡ take from segments ++ (take count (drop from segments) ++ segment ∷ drop (from + count + 1) segments)
    around =
        let rest : drop (from + count) segments ≡ segment ∷ drop (from + count + 1) segments =
        drop_more segments (from + count) segment inside ∙ ap (λ (s : Vec Part Global). s ∷ drop (from + count + 1) segments) (sym is) in
        sym (take-append-drop from segments)
        ∙ ap (λ (l : List (Vec Part Global)). take from segments ++ l)
        (sym (take-append-drop count (drop from segments)) ∙ ap (λ (l : List (Vec Part Global)). take count (drop from segments) ++ l) (drop-drop count from segments ∙ rest))

    pub piece_refused : CannotFollow (PartsHold segment.items) (stands_for m) → CannotBeRead segments
    piece_refused cannot =
        subst CannotBeRead (sym around)
        (unread_after (take from segments) (take count (drop from segments) ++ segment ∷ drop (from + count + 1) segments)
        (unread_behind (take count (drop from segments)) (drop (from + count + 1) segments) segment [] piece.history (stands_for m) piece.held
        (λ small. exact_stands m piece.history (piece.exact small)) cannot))

-- ---- what a seat draws

abbrev once_at : ℕ → ℕ → ℕ
once_at x n = cond (x == n) 1 0

-- one above the greatest number
abbrev pub bound : List ℕ → ℕ
bound [] = 0
bound (x ∷ xs) = max (x + 1) (bound xs)

pub bound_below : (n : ℕ) (xs : List ℕ) → AreBelow n xs → bound xs ≤ n
bound_below n [] below = omega arith
bound_below n (x ∷ xs) below = let b = below.0 in let r = bound_below n xs below.1 in omega arith

pub bound_more : (n : ℕ) (xs : List ℕ) → n < bound (xs ++ n ∷ [])
bound_more n [] = omega arith
bound_more n (x ∷ xs) = let r = bound_more n xs in omega arith

-- a number that isn't below the total is no segment's
times_past : (x n : ℕ) → x < n → (let z : ℕ = cond (x == n) 1 0 in z ≡ 0)
times_past x n less = grind (arith, nat_tests)

pub times_more : (x n : ℕ) (xs : List ℕ) → occurrences x (xs ++ n ∷ []) ≡ occurrences x xs + cond (x == n) 1 0
times_more x n xs = let a = weigh-append (λ (y : ℕ). cond (x == y) 1 0) xs (n ∷ []) in omega arith

-- a seat that is answered nothing has ended, and has drawn the same segments
pub none_left : (total : ℕ) (before after : List ℕ) → Draw total before None after
    → HasEnded total after × ((x : ℕ) → x < total → occurrences x after ≡ occurrences x before)
none_left total before after (inl last) = (
  record { front = before; last = last.0; split = last.3; below = last.2; past = last.1 },
  λ x small. ap (occurrences x) last.3 ∙ (let a = times_more x last.0 before in let past = last.1 in let b = times_past x last.0 (omega arith) in omega arith),
)
none_left total before after (inr ended) =
    (subst (HasEnded total) (sym ended.1) ended.0, λ x small. ap (occurrences x) ended.1)

-- a segment that was drawn is one more of a piece's
pub cover_step : {M : Type 0} (x n : ℕ) (old mid new : List (Piece M)) (p q : Piece M) (before after : List ℕ)
    → cover_count x mid + covers p.from p.count x ≡ cover_count x old → p.from + p.count ≡ n → q.from ≡ p.from → q.count ≡ p.count + 1 → new ≡ mid ++ q ∷ []
    → after ≡ before ++ n ∷ [] → cover_count x old ≡ occurrences x before → cover_count x new ≡ occurrences x after
cover_step {M} x n old mid new p q before after kept next from count push drew covered =
    let a = weigh-append (λ (r : Piece M). covers r.from r.count x) mid (q ∷ []) in
    let b : cover_count x new ≡ cover_count x (mid ++ q ∷ []) = ap (λ (l : List (Piece M)). cover_count x l) push in
    let d : covers q.from q.count x ≡ covers p.from (p.count + 1) x = λ i. covers (from i) (count i) x in
    let e = covers_more p.from p.count x in
    let f : once_at x (p.from + p.count) ≡ once_at x n = ap (once_at x) next in
    let t : occurrences x after ≡ occurrences x (before ++ n ∷ []) = ap (occurrences x) drew in
    let u = times_more x n before in omega arith
