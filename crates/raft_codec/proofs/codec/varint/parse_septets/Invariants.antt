use Rattle.raft_codec.proofs.Common.{◌≡◌, ◌≤◌, take, AllContinue, base_128}
use Rattle.raft_codec.proofs.codec.varint.parse_septets.Given as goal

-- the bytes so far continue, and spell the number so far
abbrev pub invariant-loop-i : goal.invariant-loop-i
invariant-loop-i l =
    AllContinue (take l.i l.bytes) × (l.number ≡ base_128 (take l.i l.bytes)) × (l.i ≤ 9)
