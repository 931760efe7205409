use Rattle.raft_engine.proofs.Common.{subst, sym, AreWholeFiles}
use Rattle.raft_engine.proofs.FoundQueueLemmas.{cut_whole, last_inside}
use Rattle.raft_engine.proofs.found_queue.cut_last_segment.Goals as goal

pub split_off-requires : goal.split_off-requires
split_off-requires c =
    let r = c.requires in
    last_inside r.0 r.1 r.2 r.3 c.args.at c.pop-2.new.self.items c.in-Some-pop.part c.in-Some.segment (rw c.in-Some-pop.is at c.pop-2.ensures.items) c.pop.new.self.items
    (subst (AreWholeFiles r.0 r.1 _) (rw c.in-Some.is at c.pop.ensures.items) r.4) r.5

pub returns-clause-ok : goal.returns-clause-ok
returns-clause-ok c = λ queue version files whole.
    subst (AreWholeFiles queue version _) (sym c.in_ok-push-2.ensures.items)
    (cut_whole queue version c.args.at c.pop-2.new.self.items c.in-Some-pop.part c.split_off.new.self c.in-Some.segment c.push.new.self (rw c.in-Some-pop.is at c.pop-2.ensures.items) c.in_ok-push.ensures.items
    c.in_ok-split_off.ensures.front c.pop.new.self.items files (subst (AreWholeFiles queue version files) (rw c.in-Some.is at c.pop.ensures.items) whole))
