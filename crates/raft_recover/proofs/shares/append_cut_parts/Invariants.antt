use Rattle.raft_recover.proofs.Common.{◌++◌, List, take, Part, AreDivided}
use Rattle.raft_recover.proofs.shares.append_cut_parts.Given as goal

-- what the parts were so far, they and those of the segment in front are divided into the parts now
abbrev pub invariant-loop-part : goal.invariant-loop-part
invariant-loop-part l = (these : List Part) → AreDivided these l.fn.to.items → AreDivided (these ++ take l.part-index l.fn.from.items) l.to.items
