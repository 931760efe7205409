-- Walks of a plan: what waits for the pieces in hand, and what it comes to.
use Rattle.std.specs.Prelude.{◌≡◌, ℕ, ◌+◌, ◌*◌, List, [], ◌∷◌, ◌++◌, length}
use Rattle.raft_history.specs.Batches.{Event}
use Rattle.raft_replay.specs.declared.pieces.Waiting.{Waiting}
use Rattle.raft_replay.specs.declared.pieces.Waiting.TheVariants.{Unmerged, Merged}
use Rattle.raft_replay.specs.declared.plan.Plan.{Plan}
use Rattle.raft_replay.specs.declared.plan.Plan.TheVariants.{One, Join'}
use Rattle.raft_replay.specs.Plans.{leaves}
use Rattle.raft_replay.specs.PieceMerges.{IsMerged}

module _ {M : Type 0} (stands_for stands_exactly : M → List Event → Type 0) where
  -- what waits, the next first: machines that are merged of the pieces in front, one after another, and plans of so many pieces that are left
  abbrev pub AreWaiting : List (Waiting M) → List M → ℕ → Type 0
  AreWaiting [] front left = (front ≡ []) × (left ≡ 0)
  AreWaiting (Merged older ∷ waiting) front left =
      (before : List M) × (hand : List M) × (front ≡ before ++ hand) × IsMerged stands_for stands_exactly hand older × AreWaiting waiting before left
  AreWaiting (Unmerged plan ∷ waiting) front left = (more : ℕ) × (left ≡ leaves plan.now + more) × AreWaiting waiting front more

  module _ (all : List M) where
    -- the next pieces of the rest are a plan's, and what waits has those in front and those behind
    pub record ArePlansNext (plan : Plan) (waiting : List (Waiting M)) (rest : List M) : Type 0 where
      pub front : List M
      pub more : ℕ
      pub split : all ≡ front ++ rest
      pub pieces : length rest ≡ leaves plan + more
      pub waits : AreWaiting waiting front more

    -- a machine is merged of the pieces in hand, and what waits has those in front and the rest
    pub record IsReached (waiting : List (Waiting M)) (rest : List M) (machine : M) : Type 0 where
      pub front : List M
      pub hand : List M
      pub split : all ≡ front ++ (hand ++ rest)
      pub merged : IsMerged stands_for stands_exactly hand machine
      pub waits : AreWaiting waiting front (length rest)

-- one for what is merged, and two for each piece that a plan has to merge
abbrev pub cost : {M : Type 0} → Waiting M → ℕ
cost (Merged machine) = 1
cost (Unmerged plan) = 2 * leaves plan.now

-- how much is left to do of a plan that is taken apart from the front: less once the second plan of a join in front is joined with what follows it, or a piece in front is gone
abbrev pub heft : Plan → ℕ
heft One = 0
heft (Join' p a q b) = 2 * heft a + heft b + 1
