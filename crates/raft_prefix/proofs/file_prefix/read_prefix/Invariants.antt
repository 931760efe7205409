use Rattle.raft_prefix.proofs.Common.{◌+◌, ◌-◌, length}
use Rattle.raft_prefix.proofs.PrefixLemmas.{IsUnder}
use Rattle.raft_prefix.proofs.file_prefix.read_prefix.Given as goal

abbrev pub invariant-loop-damaged : goal.invariant-loop-damaged
invariant-loop-damaged g l = IsUnder (g.S.ReadFiles.gives l.source l.file.id) (λ _. Unit {0}) l.file l.len l.at l.damaged.items l.piece.items

abbrev pub decreases-loop-damaged : goal.decreases-loop-damaged
decreases-loop-damaged g l = l.len - (l.at + length l.piece.items)
