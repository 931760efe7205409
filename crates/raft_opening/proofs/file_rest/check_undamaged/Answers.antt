use Rattle.raft_opening.proofs.Common.{◌∙◌, sym, false≢true}
use Rattle.raft_opening.proofs.RestLemmas.{broken_so, elsewhere_so, followed_so, nothing_so}
use Rattle.raft_opening.proofs.file_rest.check_undamaged.Goals as goal

pub returns-then-branch-clause-ok : goal.returns-then-branch-clause-ok
returns-then-branch-clause-ok c = λ whole at r. broken_so whole at c.args.rest.now r (c.in_ok-is_broken_off.ensures.ok.0 c.if-branch.true)

pub returns-in-Some-clause-refused : goal.returns-in-Some-clause-refused
returns-in-Some-clause-refused c = λ whole at r other.
    followed_so whole at c.args.rest.now r _ c.offset-at.ensures.value c.in-Some.sound _ (λ f. let t = c.in_ok-is_broken_off.ensures.ok.1 f in absurd (false≢true (sym c.if-branch.false ∙ t))) (rw c.in-Some.is at c.in_ok-sound.ensures.ok) c.followed.ensures

pub returns-in-Some-2-clause-refused : goal.returns-in-Some-2-clause-refused
returns-in-Some-2-clause-refused c = λ whole at r other.
    elsewhere_so whole at c.args.rest.now r _ c.offset-at.ensures.value c.in-Some-2.offset c.in-Some-2.seq _ (λ f. let t = c.in_ok-is_broken_off.ensures.ok.1 f in absurd (false≢true (sym c.if-branch.false ∙ t))) (rw c.in_default.is at c.in_ok-sound.ensures.ok)
    (rw c.in-Some-2.is at c.in_ok-offset.ensures.ok) c.of_elsewhere.ensures

pub returns-clause-ok : goal.returns-clause-ok
returns-clause-ok c = λ whole at r. nothing_so whole at c.args.rest.now r (rw c.in_default.is at c.in_ok-sound.ensures.ok) (rw c.in_default-2.is at c.in_ok-offset.ensures.ok)
