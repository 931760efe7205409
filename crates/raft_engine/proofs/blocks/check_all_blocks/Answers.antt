use Rattle.raft_engine.proofs.Common.{arith, err_from_is_err_and}
use Rattle.raft_engine.proofs.BlockLemmas.{all_checked, next_stands, next_unsound, none_checked, one_checked, rises}
use Rattle.raft_engine.proofs.blocks.check_all_blocks.Goals as goal

pub loop-at-init : goal.loop-at-init
loop-at-init c = none_checked c.args.file.now c.args.end c.requires

pub check_block-requires : goal.check_block-requires
check_block-requires c = next_stands c.args.file.now c.args.end c.loop-at.at c.loop-at.invariant c.loop-at-test.true

pub loop-at-preserved : goal.loop-at-preserved
loop-at-preserved c = one_checked c.args.file.now c.args.end c.loop-at.at c.loop-at.invariant c.loop-at-test.true c.in_ok-at.at c.in_ok-at.ensures.ok

pub loop-at-smaller : goal.loop-at-smaller
loop-at-smaller c = let r = rises c.args.file.now c.args.end c.loop-at.at c.loop-at.invariant c.loop-at-test.true c.in_ok-at.at c.in_ok-at.ensures.ok in omega (arith, r.0, r.1)

pub returns-in_err-at-clause-refused : goal.returns-in_err-at-clause-refused
returns-in_err-at-clause-refused c =
    let p = err_from_is_err_and c.from_residual.result c.from_residual.ensures.1 in
    rw (p.1, p.2)
    (λ other. let r = c.in_err-at.ensures.refused other in next_unsound c.args.file.now c.args.end c.loop-at.at c.loop-at.invariant c.loop-at-test.true r.0 _ r.1)

pub returns-clause-ok : goal.returns-clause-ok
returns-clause-ok c = all_checked c.args.file.now c.args.end c.loop-at.at c.loop-at.invariant c.requires c.loop-at-test.false
