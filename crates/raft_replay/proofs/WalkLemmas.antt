-- Walks of a plan, step by step.
use Rattle.raft_replay.proofs.Common.{◌≡◌, ℕ, ◌+◌, ◌≤◌, List, [], ◌∷◌, ◌++◌, length, reverse, sym, refl, ap, ◌∙◌, subst, arith, append_assoc, append-nil, Bor, reverse-append, reverse-reverse, length-reverse, nil_from_length, LogQueue}
use Rattle.raft_replay.proofs.Common.{Event, IsSmall, Sound, Apart, IsOfQueue, Plan, Waiting, leaves, IsMerged, CannotMerge, AreWaiting, ArePlansNext, IsReached}
use Rattle.raft_replay.specs.declared.plan.Plan.TheVariants.{One, Join'}
use Rattle.raft_replay.specs.declared.pieces.Waiting.TheVariants.{Unmerged, Merged}
use Rattle.raft_replay.proofs.MergeLemmas.{alone, front_refused, back_refused, merge_refused, both_merged}

-- the last element of a list is the first one of it turned round
pub last_first : {A : Type 0} (xs ys : List A) (x : A) → xs ≡ ys ++ x ∷ [] → reverse xs ≡ x ∷ reverse ys
last_first xs ys x is = ap reverse is ∙ reverse-append ys (x ∷ [])

-- the joins and pieces of a plan, one for each
abbrev pub nodes : Plan → ℕ
nodes One = 1
nodes (Join' p a q b) = nodes a + nodes b + 1

module _ {M : Type 0} (stands_for stands_exactly : M → List Event → Type 0) (all : List M) where
  -- the next plan is the first one of a join, and the second one waits
  pub turned : (plan left : Plan) (second : Bor Plan) (waiting : List (Waiting M)) (rest : List M) → leaves plan ≡ leaves left + leaves second.now
      → ArePlansNext stands_for stands_exactly all plan waiting rest → ArePlansNext stands_for stands_exactly all left (Unmerged second ∷ waiting) rest
  turned plan left second waiting rest sum next = record {
    front = next.front;
    more = leaves second.now + next.more;
    split = next.split;
    pieces = let pieces = next.pieces in omega (arith, pieces, sum);
    waits = (next.more, refl, next.waits);
  }

  -- one piece
  pub taken : (waiting : List (Waiting M)) (rest left : List M) (piece : M) → rest ≡ piece ∷ left
      → ArePlansNext stands_for stands_exactly all One waiting rest → IsReached stands_for stands_exactly all waiting left piece
  taken waiting rest left piece is next = record {
    front = next.front;
    hand = piece ∷ [];
    split = next.split ∙ ap (λ (l : List M). next.front ++ l) is;
    merged = alone stands_for stands_exactly piece;
    waits =
        let few : next.more ≡ length left = let pieces = next.pieces in let long = ap length is in omega (arith, pieces, long) in
        subst (AreWaiting stands_for stands_exactly waiting next.front) few next.waits;
  }

  -- what is merged waits for the next plan
  pub waits : (plan : Bor Plan) (waiting : List (Waiting M)) (rest : List M) (merged : M) → IsReached stands_for stands_exactly all (Unmerged plan ∷ waiting) rest merged
      → ArePlansNext stands_for stands_exactly all plan.now (Merged merged ∷ waiting) rest
  waits plan waiting rest merged reached = record {
    front = reached.front ++ reached.hand;
    more = reached.waits.0;
    split = reached.split ∙ sym (append_assoc reached.front reached.hand rest);
    pieces = reached.waits.1;
    waits = (reached.front, reached.hand, refl, reached.merged, reached.waits.2);
  }

  -- a plan has no more pieces than are left
  pub enough : (plan : Plan) (waiting : List (Waiting M)) (pieces : List M) → ArePlansNext stands_for stands_exactly all plan waiting (reverse pieces) → leaves plan ≤ length pieces
  enough plan waiting pieces next = let same = length-reverse pieces in let few = next.pieces in omega (arith, same, few)

  -- nothing waits
  pub reached_all : (rest : List M) (merged : M) → IsReached stands_for stands_exactly all [] rest merged → IsMerged stands_for stands_exactly all merged
  reached_all rest merged reached =
      let whole : all ≡ reached.hand =
      reached.split ∙ ap (λ (l : List M). l ++ (reached.hand ++ rest)) reached.waits.0
      ∙ ap (λ (l : List M). reached.hand ++ l) (nil_from_length rest reached.waits.1) ∙ append-nil reached.hand in
      subst (λ (l : List M). IsMerged stands_for stands_exactly l merged) (sym whole) reached.merged

  module _ (older newer : M) (waiting : List (Waiting M)) (rest : List M) (reached : IsReached stands_for stands_exactly all (Merged older ∷ waiting) rest newer) where
    abbrev before : List M
    before = reached.waits.0

    -- the pieces of the older one that waits, and those in hand
    abbrev hands : List M
    hands = reached.waits.1 ++ reached.hand

    whole : all ≡ before ++ (hands ++ rest)
    whole = reached.split ∙ ap (λ (l : List M). l ++ (reached.hand ++ rest)) reached.waits.2
        ∙ append_assoc before reached.waits.1 (reached.hand ++ rest) ∙ ap (λ (l : List M). before ++ l) (sym (append_assoc reached.waits.1 reached.hand rest))

    -- what is merged is merged with the older one that waits
    pub joined : (merged : M)
        → ((h g : List Event) → IsSmall (h ++ g) → stands_for older h → stands_for newer g → stands_for merged (h ++ g))
        → ((h g : List Event) → IsSmall (h ++ g) → Apart (h ++ g) → stands_exactly older h → stands_exactly newer g → stands_exactly merged (h ++ g))
        → IsReached stands_for stands_exactly all waiting rest merged
    joined merged stands exact = record {
      front = before;
      hand = hands;
      split = whole;
      merged = both_merged stands_for stands_exactly reached.waits.1 reached.hand hands refl older newer reached.waits.3 reached.merged merged stands exact;
      waits = reached.waits.4;
    }

    -- or can't be
    pub unjoined : (queue : LogQueue)
        → ((h g : List Event) → IsSmall (h ++ g) → IsOfQueue queue (h ++ g) → stands_for older h → stands_for newer g → ¬ (Sound (h ++ g)))
        → CannotMerge stands_for queue all
    unjoined queue refused =
        let cannot = merge_refused stands_for stands_exactly reached.waits.1 reached.hand hands refl older newer reached.waits.3 reached.merged queue refused in
        back_refused stands_for stands_exactly before (hands ++ rest) all whole queue (front_refused stands_for stands_exactly hands rest (hands ++ rest) refl queue cannot)

-- a plan of all pieces, for which nothing waits
pub all_begun : {M : Type 0} (stands_for stands_exactly : M → List Event → Type 0) (all turned_round : List M) (plan : Plan) (waiting : List (Waiting M))
    → leaves plan ≡ length all → turned_round ≡ reverse all → waiting ≡ []
    → ArePlansNext stands_for stands_exactly all plan (reverse waiting) (reverse turned_round)
all_begun {M} stands_for stands_exactly all turned_round plan waiting sum is none =
    subst (λ (l : List M). ArePlansNext stands_for stands_exactly all plan (reverse waiting) l) (sym (ap reverse is ∙ reverse-reverse all))
    (subst (λ (l : List (Waiting M)). ArePlansNext stands_for stands_exactly all plan l all) (sym (ap reverse none)) begun)
  where
    begun : ArePlansNext stands_for stands_exactly all plan [] all
    begun = record { front = []; more = 0; split = refl; pieces = omega (arith, sum); waits = (refl, refl) }
