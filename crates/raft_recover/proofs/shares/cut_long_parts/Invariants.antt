use Rattle.raft_recover.proofs.Common.{take, parts_within, AreDivided}
use Rattle.raft_recover.proofs.shares.cut_long_parts.Given as goal

-- the parts of the segments in front are divided into the parts so far
abbrev pub invariant-loop-segment : goal.invariant-loop-segment
invariant-loop-segment l = AreDivided (parts_within (take l.segment-index l.fn.segments)) l.parts.items
