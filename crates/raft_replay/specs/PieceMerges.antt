-- What the merge of machines stands for, and when machines can't be merged.
use Rattle.std.specs.Prelude.{◌≢◌, List, [], ◌∷◌, ◌++◌, Result, MatchResult}
use Rattle.raft_base.specs.declared.errors.Error.{Error}
use Rattle.raft_base.specs.declared.errors.Error.TheVariants.{Memory}
use Rattle.raft_base.specs.declared.pipe_log.LogQueue.{LogQueue}
use Rattle.raft_history.specs.Batches.{Event}
use Rattle.raft_history.specs.Histories.{IsSmall, Sound, Apart, IsOfQueue}

-- histories, one after the other
abbrev pub histories_in_turn : List (List Event) → List Event
histories_in_turn [] = []
histories_in_turn (h ∷ hs) = h ++ histories_in_turn hs

-- each machine stands for its own history
abbrev pub StandForEach : {M : Type 0} → (M → List Event → Type 0) → List M → List (List Event) → Type 0
StandForEach Stands [] [] = Unit {0}
StandForEach Stands [] (h ∷ hs) = ⊥
StandForEach Stands (m ∷ ms) [] = ⊥
StandForEach Stands (m ∷ ms) (h ∷ hs) = Stands m h × StandForEach Stands ms hs

-- the machine stands for whatever histories the pieces stand for, one after the other, and exactly if they do and effects are apart
pub record IsMerged {M : Type 0} (stands_for stands_exactly : M → List Event → Type 0) (pieces : List M) (merged : M) : Type 0 where
  pub stands : (hs : List (List Event)) → IsSmall (histories_in_turn hs) → StandForEach stands_for pieces hs → stands_for merged (histories_in_turn hs)
  pub exact : (hs : List (List Event)) → IsSmall (histories_in_turn hs) → Apart (histories_in_turn hs) → StandForEach stands_exactly pieces hs → stands_exactly merged (histories_in_turn hs)

-- whatever histories of this queue the pieces stand for, one after the other they make none that can be read
pub record CannotMerge {M : Type 0} (stands_for : M → List Event → Type 0) (queue : LogQueue) (pieces : List M) : Type 0 where
  pub unsound : (hs : List (List Event)) → IsSmall (histories_in_turn hs) → IsOfQueue queue (histories_in_turn hs) → StandForEach stands_for pieces hs → ¬ (Sound (histories_in_turn hs))

-- what a merge answers: the merged machine, or a refusal, want of memory aside only where the pieces can't be merged
abbrev pub Merges : {M : Type 0} → (M → List Event → Type 0) → (M → List Event → Type 0) → LogQueue → List M → Result M Error → Type 0
Merges stands_for stands_exactly queue pieces result =
    MatchResult result (λ m. IsMerged stands_for stands_exactly pieces m) (λ e. e ≢ Memory → CannotMerge stands_for queue pieces)
