use Rattle.raft_engine.proofs.Common.{subst, arith, List, NumberedBytes, AreWholeFiles, IsMissingOf, FirstFile}
use Rattle.raft_engine.specs.declared.missing.Missing.TheVariants.{Cut}
use Rattle.raft_engine.proofs.FoundQueueLemmas.{first_added}
use Rattle.raft_engine.proofs.found_queue.complete_segments.Goals as goal

pub cut_last_segment-requires : goal.cut_last_segment-requires
cut_last_segment-requires c =
    let r = c.requires in
    let m : IsMissingOf r.0 c.args.queue c.args.version r.1 (Cut c.in-Cut.tail) = rw c.in-Cut.is at r.3 in
    let before = m.told.is.torn.1 in
    (c.args.queue, c.args.version, m.told.closed, m.told.last, subst (λ (fs : List NumberedBytes). AreWholeFiles c.args.queue c.args.version fs c.args.segments.now.items) m.told.split r.2, omega (arith, before))

pub returns-in-Nothing-clause-ok : goal.returns-in-Nothing-clause-ok
returns-in-Nothing-clause-ok c = λ mode files whole m. rw c.in-Nothing.is whole

pub returns-in-FirstFile-clause-ok : goal.returns-in-FirstFile-clause-ok
returns-in-FirstFile-clause-ok c = λ mode files whole m.
    let n : IsMissingOf mode c.args.queue c.args.version files FirstFile = rw c.in-FirstFile.is at m in
    rw c.in-FirstFile.is (first_added mode c.args.queue c.args.version files n _ _ whole c.add_first_segment.result c.add_first_segment.ensures.ok)

pub returns-in-Cut-clause-ok : goal.returns-in-Cut-clause-ok
returns-in-Cut-clause-ok c = λ mode files whole m. rw c.in-Cut.is (c.cut_last_segment.ensures.ok c.args.queue c.args.version files whole)
