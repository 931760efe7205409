use Rattle.raft_recover.proofs.Common.{◌≡◌, List, subst, arith, Part}
use Rattle.raft_recover.proofs.ShareLemmas.{AreShared, no_shares, more_shared, all_shared}
use Rattle.raft_recover.proofs.shares.group_into_shares.Goals as goal

pub loop-part-init : goal.loop-part-init
loop-part-init c =
    let left_is : c.into_iter-part-iterator.result.rest.items ≡ c.args.parts.items = search in
    no_shares c.args.count c.args.parts.items c.into_iter-part-iterator.result.rest.items c.new-last.result.items c.new-shares.result.items left_is c.new-last.ensures.items c.new-shares.ensures.items c.requires.1

pub loop-part-preserved : goal.loop-part-preserved
loop-part-preserved c =
    let before = subst (λ (l : List Part). AreShared c.args.count c.args.parts.items l c.loop-part.last.items c.loop-part.shares.items) c.in-Some.ensures.steps.0 c.loop-part.invariant in
    more_shared c.args.count c.args.parts.items c.next.new.self.rest.items c.loop-part.last.items c.end_share.new.last.items c.push.new.self.items c.in-Some.part
    c.loop-part.shares.items c.end_share.new.shares.items before c.in_ok-end_share.ensures.same c.in_ok-end_share.ensures.few c.in_ok-push.ensures.items

pub returns-clause-same : goal.returns-clause-same
returns-clause-same c =
    all_shared c.args.count c.args.parts.items c.loop-part.part-iterator.rest.items c.loop-part.last c.loop-part.shares.items c.push-2.new.self.items
    (omega (arith, c.in-None.ensures.steps.0, c.loop-part.part-iterator.rest.ok.0)) c.loop-part.invariant c.in_ok-push-2.ensures.items
