use Rattle.raft_records.proofs.Common.{septets_last, varint}
use Rattle.raft_records.proofs.number.append_number.Goals as goal

pub returns-then-number-lt128-clause-ok : goal.returns-then-number-lt128-clause-ok
unfolding varint
returns-then-number-lt128-clause-ok c =
    rw (septets_last 9 c.args.number c.if-number-lt128.true) (c.in_ok-push.ensures.items)
