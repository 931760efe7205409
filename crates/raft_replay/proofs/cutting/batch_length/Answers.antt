use Rattle.raft_replay.proofs.Common.{◌≡◌, arith}
use Rattle.raft_replay.proofs.CutPartLemmas.{one_header}
use Rattle.raft_replay.proofs.cutting.batch_length.Goals as goal

pub returns-in_err-len-clause-none : goal.returns-in_err-len-clause-none
returns-in_err-len-clause-none c = rw c.from_residual.ensures (λ offset len h. absurd (c.in_err-len.ensures.none offset len h))

pub returns-then-len-bytes-clause-some : goal.returns-then-len-bytes-clause-some
returns-then-len-bytes-clause-some c = let spells = c.in_ok-len.ensures.some.header.spells in omega (arith, spells.behind_header, spells.inside)

pub returns-else-len-bytes-clause-none : goal.returns-else-len-bytes-clause-none
returns-else-len-bytes-clause-none c =
    λ offset len h.
    let same : c.in_ok-len.len ≡ len = one_header c.args.bytes.now _ c.in_ok-len.len offset len c.in_ok-len.ensures.some h in
    omega (arith, same, c.if-len-bytes.false)
