use Rattle.raft_tail.proofs.Common.{ap, length, arith}
use Rattle.raft_tail.proofs.SearchLemmas.{none_at_all, none_yet, one_more_none, sound_inside}
use Rattle.raft_tail.proofs.sound.next_sound.Goals as goal

pub loop-at-init : goal.loop-at-init
loop-at-init c = none_yet

pub returns-then-branch-clause-ok : goal.returns-then-branch-clause-ok
returns-then-branch-clause-ok c =
    (c.loop-at.invariant.begins, c.in_ok-has_sound_batch_at.ensures.ok.0 c.if-branch.true, c.loop-at.invariant.none)

pub loop-at-preserved : goal.loop-at-preserved
loop-at-preserved c = one_more_none c.loop-at.invariant (λ sound. let yes = c.in_ok-has_sound_batch_at.ensures.ok.1 sound in let no = c.if-branch.false in cc)

pub returns-clause-ok : goal.returns-clause-ok
returns-clause-ok c = none_at_all c.loop-at.invariant (omega (arith, c.loop-at-test.false, ap length c.bytes-at-end.ensures)) (sound_inside c.args.part.now)
