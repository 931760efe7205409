use Rattle.raft_engine.proofs.Common.{arith, sym, subst, AreDamagedBetween}
use Rattle.raft_engine.proofs.DamagedLemmas.{all_gathered, is_reached, none_there, none_walked, one_gathered, one_walked, rises}
use Rattle.raft_engine.proofs.damaged.gather_damaged.Goals as goal

pub loop-at-init : goal.loop-at-init
loop-at-init c = (
  none_walked c.args.file.now c.args.from c.args.end c.requires,
  subst (AreDamagedBetween c.args.file.now c.args.from c.args.from) (sym c.new-damaged.ensures.items) (none_there c.args.file.now c.args.from),
)

pub gather_if_damaged-requires : goal.gather_if_damaged-requires
gather_if_damaged-requires c = is_reached c.args.file.now c.args.from c.args.end c.loop-at.at c.loop-at.invariant.0 c.loop-at-test.true

pub loop-at-preserved : goal.loop-at-preserved
loop-at-preserved c = (
  one_walked c.args.file.now c.args.from c.args.end c.loop-at.at c.loop-at.invariant.0 c.loop-at-test.true c.in_ok-at.at c.in_ok-at.ensures.ok,
  one_gathered c.args.file.now c.args.from c.args.end c.loop-at.at c.loop-at.invariant.0 c.loop-at-test.true c.in_ok-at.at c.in_ok-at.ensures.ok c.loop-at.damaged.items c.gather_if_damaged.new.damaged.items
      c.loop-at.invariant.1 c.in_ok-at.ensures.gathered,
)

pub loop-at-smaller : goal.loop-at-smaller
loop-at-smaller c = let r = rises c.args.file.now c.args.from c.args.end c.loop-at.at c.loop-at.invariant.0 c.loop-at-test.true c.in_ok-at.at c.in_ok-at.ensures.ok in omega (arith, r.0, r.1)

pub returns-clause-ok : goal.returns-clause-ok
returns-clause-ok c = all_gathered c.args.file.now c.args.from c.args.end c.loop-at.at c.loop-at.invariant.0 c.loop-at.damaged.items c.loop-at-test.false c.loop-at.invariant.1
