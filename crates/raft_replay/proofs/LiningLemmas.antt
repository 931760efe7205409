-- Pieces that tile the segments, sorted by their first ones, stand in line.
use Rattle.raft_replay.proofs.Common.{◌≡◌, ℕ, suc, ◌+◌, ◌<◌, ◌≤◌, ◌⊎◌, inl, inr, List, [], ◌∷◌, ◌++◌, All, Vec, map, length, take, drop, sym, refl, ap, ◌∙◌, subst, arith, take-append-drop, drop-drop, IsPermutation, Global, AllByRecursion}
use Rattle.raft_replay.proofs.Common.{IsNonDecreasingBy, cases_lt, drop_all, recursion_from_All, is_sum_by, sum_by-IsPermutation, All-permutation, Part, Event, small_front, small_back, Piece, IsPieceOf, covers, cover_count, CoverOnce}
use Rattle.raft_replay.proofs.Common.{AreInOrder, histories_in_turn, SegmentsHold, weigh}
use Rattle.raft_replay.proofs.Words.{SegmentReads}
use Rattle.raft_replay.proofs.CoverLemmas.{covers_inside, covers_below, covers_behind, covers_none}
use Rattle.raft_replay.proofs.MachineOrderLemmas.{each_join}

-- the same elements weigh as much
pub weigh-permutation : {A : Type 0} (f : A → ℕ) (xs ys : List A) → IsPermutation xs ys → weigh f ys ≡ weigh f xs
weigh-permutation {A} f xs ys same =
    is_sum_by (weigh f) f refl (λ _ _. refl) ys ∙ sum_by-IsPermutation f xs ys same ∙ sym (is_sum_by (weigh f) f refl (λ _ _. refl) xs)

module _ {M : Type 0} where
  -- no later piece begins before an earlier one
  abbrev Ascends : List (Piece M) → Type 0
  Ascends [] = Unit {0}
  Ascends (p ∷ ps) = AllByRecursion (λ q. p.from ≤ q.from) ps × Ascends ps

  ascends : (ps : List (Piece M)) → IsNonDecreasingBy (λ p. p.from) ps → Ascends ps
  ascends [] up = tt
  ascends (p ∷ ps) up = (
    recursion_from_All (λ q. p.from ≤ q.from) ps (λ k d small. up 0 (suc k) d (omega arith) (omega arith)),
    ascends ps (λ i j d le small. up (suc i) (suc j) d (omega arith) (omega arith)),
  )

  -- pieces that all begin above a number don't cover it
  above_none : (x n : ℕ) → x < n → (ps : List (Piece M)) → AllByRecursion (λ q. n ≤ q.from) ps → cover_count x ps ≡ 0
  above_none x n less [] all = refl
  above_none x n less (p ∷ ps) all =
      let low = all.0 in let one = covers_below p.from p.count x (omega arith) in let rest = above_none x n less ps all.1 in omega arith

  module _ (stands_exactly : M → List Event → Type 0) (segments : List (Vec Part Global)) where
    -- they cover each segment from here on once, and none before
    pub record CoverFrom (low : ℕ) (ps : List (Piece M)) : Type 0 where
      pub inside : low ≤ length segments
      pub once : (x : ℕ) → low ≤ x → x < length segments → cover_count x ps ≡ 1
      pub none : (x : ℕ) → x < low → cover_count x ps ≡ 0

    abbrev Are : List (Piece M) → Type 0
    Are ps = AllByRecursion (IsPieceOf stands_exactly segments) ps

    abbrev machines : List (Piece M) → List M
    machines ps = map (λ p. p.machine.value) ps

    -- a piece in front of those in line
    in_front : (p : Piece M) (low : ℕ) (ps : List (Piece M)) → IsPieceOf stands_exactly segments p → p.from ≡ low
        → AreInOrder stands_exactly (drop (low + p.count) segments) (machines ps) → AreInOrder stands_exactly (drop low segments) (machines (p ∷ ps))
    in_front p low ps piece is line =
        let whole : take p.count (drop p.from segments) ++ drop (low + p.count) segments ≡ drop low segments =
        ap (λ (n : ℕ). take p.count (drop n segments) ++ drop (low + p.count) segments) is
        ∙ ap (λ (l : List (Vec Part Global)). take p.count (drop low segments) ++ l) (sym (drop-drop p.count low segments))
        ∙ take-append-drop p.count (drop low segments) in
        record {
          histories = piece.history ∷ line.histories;
          held =
              subst (λ (l : List (Vec Part Global)). SegmentsHold l (piece.history ++ histories_in_turn line.histories)) whole
              (each_join SegmentReads (take p.count (drop p.from segments)) (drop (low + p.count) segments) piece.history (histories_in_turn line.histories) piece.held line.held);
          stand = λ small.
              (piece.exact (small_front piece.history (histories_in_turn line.histories) small), line.stand (small_back piece.history (histories_in_turn line.histories) small));
        }

    -- a piece of no segments in front of those in line
    idle_in_front : (p : Piece M) (low : ℕ) (ps : List (Piece M)) → IsPieceOf stands_exactly segments p → p.count ≡ 0
        → AreInOrder stands_exactly (drop low segments) (machines ps) → AreInOrder stands_exactly (drop low segments) (machines (p ∷ ps))
    idle_in_front p low ps piece idle line =
        let nothing : piece.history ≡ [] = subst (λ (n : ℕ). SegmentsHold (take n (drop p.from segments)) piece.history) idle piece.held in
        let whole : piece.history ++ histories_in_turn line.histories ≡ histories_in_turn line.histories = ap (λ (t : List Event). t ++ histories_in_turn line.histories) nothing in
        record {
          histories = piece.history ∷ line.histories;
          held = subst (SegmentsHold (drop low segments)) (sym whole) line.held;
          stand = λ small.
              (piece.exact (small_front piece.history (histories_in_turn line.histories) small), line.stand (small_back piece.history (histories_in_turn line.histories) small));
        }

    -- a piece of some segments begins where the others are still to begin
    begins_here : (p : Piece M) (low : ℕ) (ps : List (Piece M)) → IsPieceOf stands_exactly segments p → 0 < p.count → AllByRecursion (λ q. p.from ≤ q.from) ps
        → CoverFrom low (p ∷ ps) → p.from ≡ low
    begins_here p low ps piece some_segments all cover = at (cases_lt p.from low) (cases_lt low p.from)
      where
        at : (p.from < low) ⊎ (low ≤ p.from) → (low < p.from) ⊎ (p.from ≤ low) → p.from ≡ low
        at (inl before) b = let none = cover.none p.from before in let own = covers_inside p.from p.count p.from (omega arith) (omega arith) in absurd (omega arith)
        at (inr a) (inl behind) =
            let inside = piece.inside in let once = cover.once low (omega arith) (omega arith) in
            let own = covers_below p.from p.count low behind in let rest = above_none low p.from behind ps all in absurd (omega arith)
        at (inr a) (inr b) = omega arith

    lined : (low : ℕ) (ps : List (Piece M)) → Ascends ps → Are ps → CoverFrom low ps → AreInOrder stands_exactly (drop low segments) (machines ps)
    lined low [] up are cover = none_left (cases_lt low (length segments))
      where
        none_left : (low < length segments) ⊎ (length segments ≤ low) → AreInOrder stands_exactly (drop low segments) []
        none_left (inl some_left) = let once = cover.once low (omega arith) some_left in absurd (omega arith)
        none_left (inr past) = record {
          histories = [];
          held = subst (λ (l : List (Vec Part Global)). SegmentsHold l []) (sym (drop_all low segments past)) refl;
          stand = λ small. tt;
        }
    lined low (p ∷ ps) up are cover = by (cases_lt 0 p.count) (λ n c. lined n ps up.1 are.1 c)
      where
        by : (0 < p.count) ⊎ (p.count ≤ 0) → ((n : ℕ) → CoverFrom n ps → AreInOrder stands_exactly (drop n segments) (machines ps))
            → AreInOrder stands_exactly (drop low segments) (machines (p ∷ ps))
        by (inl some_segments) rest =
            let here = begins_here p low ps are.0 some_segments up.0 cover in
            let inside = are.0.inside in
            in_front p low ps are.0 here
            (rest (low + p.count) record {
              inside = omega arith;
              once = λ x from_low small. let all = cover.once x (omega arith) small in let own = covers_behind p.from p.count x (omega arith) in omega arith;
              none = λ x below. covered x (cases_lt x low) below;
            })
          where
            covered : (x : ℕ) → (x < low) ⊎ (low ≤ x) → x < low + p.count → cover_count x ps ≡ 0
            covered x (inl before) below = let none = cover.none x before in omega arith
            covered x (inr behind) below =
                let here = begins_here p low ps are.0 some_segments up.0 cover in let inside = are.0.inside in
                let all = cover.once x behind (omega arith) in let own = covers_inside p.from p.count x (omega arith) (omega arith) in omega arith
        by (inr no_segments) rest =
            let idle : p.count ≡ 0 = omega arith in
            let own : (x : ℕ) → covers p.from p.count x ≡ 0 = λ x. ap (λ (n : ℕ). covers p.from n x) idle ∙ covers_none p.from x in
            idle_in_front p low ps are.0 idle
            (rest low record {
              inside = cover.inside;
              once = λ x behind small. let all = cover.once x behind small in let none = own x in omega arith;
              none = λ x below. let all = cover.none x below in let none = own x in omega arith;
            })

    -- sorted pieces that tile the segments
    pub in_line : (ps qs : List (Piece M)) → All (IsPieceOf stands_exactly segments) ps → CoverOnce segments ps → IsPermutation ps qs → IsNonDecreasingBy (λ q. q.from) qs
        → AreInOrder stands_exactly segments (machines qs)
    in_line ps qs all tile same up =
        lined 0 qs (ascends qs up) (recursion_from_All (IsPieceOf stands_exactly segments) qs (All-permutation (IsPieceOf stands_exactly segments) ps qs same all))
        record {
          inside = omega arith;
          once = λ x from_low small. weigh-permutation (λ (p : Piece M). covers p.from p.count x) ps qs same ∙ tile x small;
          none = λ x below. absurd (omega arith);
        }
