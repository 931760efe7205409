use Rattle.raft_recover.proofs.Common.{sym, subst, parts_within, IfOk-weaker, AreDivided}
use Rattle.raft_recover.proofs.ShareLemmas.{divided_bytes, shares_read, shares_of_queue}
use Rattle.raft_recover.proofs.shares.equal_shares.Goals as goal

pub returns-clause-same : goal.returns-clause-same
returns-clause-same c =
    IfOk-weaker c.group_into_shares.result _ _
    (λ shares same. shares_read c.args.segments.now shares.items (subst (AreDivided (parts_within c.args.segments.now)) (sym same) c.in_ok-cut_long_parts.ensures.cut))
    c.group_into_shares.ensures.same

pub returns-clause-of_queue : goal.returns-clause-of_queue
returns-clause-of_queue c =
    IfOk-weaker c.group_into_shares.result _ _
    (λ shares same. shares_of_queue c.args.segments.now shares.items (subst (AreDivided (parts_within c.args.segments.now)) (sym same) c.in_ok-cut_long_parts.ensures.cut))
    c.group_into_shares.ensures.same

pub returns-clause-bytes : goal.returns-clause-bytes
returns-clause-bytes c =
    IfOk-weaker c.group_into_shares.result _ _
    (λ shares same. divided_bytes _ _ (subst (AreDivided (parts_within c.args.segments.now)) (sym same) c.in_ok-cut_long_parts.ensures.cut))
    c.group_into_shares.ensures.same
