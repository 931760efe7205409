use Rattle.raft_replay.proofs.Common.{◌≡◌, ◌<◌, ◌-◌, ◌++◌, [], ◌∷◌, All, length, ArePartsOf, AreCutFrom}
use Rattle.raft_replay.proofs.cutting.cut_part.Given as goal

abbrev pub invariant-loop-alloc : goal.invariant-loop-alloc
invariant-loop-alloc l = record {
  read : AreCutFrom l.fn.part (l.parts.items ++ l.left ∷ []);
  bytes : ArePartsOf l.fn.part (l.parts.items ++ l.left ∷ []);
  file : All (λ p. p.id ≡ l.fn.part.id) l.parts.items;
  left_file : l.left.id ≡ l.fn.part.id;
  few : 0 < l.count → length l.parts.items < l.count;
}

abbrev pub decreases-loop-alloc : goal.decreases-loop-alloc
decreases-loop-alloc l = l.count - length l.parts.items
