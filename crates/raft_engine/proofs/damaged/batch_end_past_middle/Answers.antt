use Rattle.raft_engine.proofs.Common.{arith}
use Rattle.raft_engine.proofs.DamagedLemmas.{ends_behind, none_walked, one_walked, rises, stands}
use Rattle.raft_engine.proofs.damaged.batch_end_past_middle.Goals as goal

pub loop-at-init : goal.loop-at-init
loop-at-init c = none_walked c.args.file.now c.args.from c.args.end c.requires

pub overflow_sub-half : goal.overflow_sub-half
overflow_sub-half c = ends_behind c.args.file.now c.args.from c.args.end c.requires

pub end_of_batch-requires : goal.end_of_batch-requires
end_of_batch-requires c =
    let test = c.loop-at-test.true in
    let on = ends_behind c.args.file.now c.args.from c.args.end c.requires in
    stands c.args.file.now c.args.from c.args.end c.loop-at.at c.loop-at.invariant (omega (arith, test, on))

pub loop-at-preserved : goal.loop-at-preserved
loop-at-preserved c =
    let test = c.loop-at-test.true in
    let on = ends_behind c.args.file.now c.args.from c.args.end c.requires in
    one_walked c.args.file.now c.args.from c.args.end c.loop-at.at c.loop-at.invariant (omega (arith, test, on)) c.in_ok-at.at c.in_ok-at.ensures.ok

pub loop-at-smaller : goal.loop-at-smaller
loop-at-smaller c =
    let test = c.loop-at-test.true in
    let on = ends_behind c.args.file.now c.args.from c.args.end c.requires in
    let r = rises c.args.file.now c.args.from c.args.end c.loop-at.at c.loop-at.invariant (omega (arith, test, on)) c.in_ok-at.at c.in_ok-at.ensures.ok in
    omega (arith, r.0, r.1)

pub returns-clause-ok : goal.returns-clause-ok
returns-clause-ok c = (c.loop-at.invariant.behind, c.loop-at.invariant.ahead)
