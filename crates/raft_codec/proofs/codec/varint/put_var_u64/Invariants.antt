use Rattle.raft_codec.proofs.Common.{◌≡◌, ◌-◌, ◌*◌, ◌^◌, ◌≤◌, ◌++◌, take, varint, septets_of}
use Rattle.raft_codec.proofs.codec.varint.put_var_u64.Given as goal

-- what is written and the septets that are left are the spelling
abbrev pub invariant-loop-i : goal.invariant-loop-i
invariant-loop-i l =
    (varint l.number ≡ take l.i l.bytes ++ septets_of (9 - l.i) l.rest) × (l.rest * 128 ^ l.i ≤ l.number)
