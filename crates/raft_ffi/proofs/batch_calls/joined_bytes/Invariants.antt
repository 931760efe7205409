use Rattle.std.proofs.Common.{drop}
use Rattle.raft_ffi.proofs.StringLemmas.{IsCut}
use Rattle.raft_ffi.proofs.batch_calls.joined_bytes.Given as goal

abbrev pub invariant-loop-len : goal.invariant-loop-len
invariant-loop-len l = IsCut l.lens (drop l.len-index l.lens) l.bytes l.rest
