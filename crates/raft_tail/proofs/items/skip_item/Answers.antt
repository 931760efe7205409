use Rattle.raft_tail.proofs.Common.{no_content}
use Rattle.raft_tail.proofs.PassingLemmas.{item_passes, ok_as, option_as}
use Rattle.raft_tail.proofs.items.skip_item.Goals as goal

pub returns-in-Some-clause-ok : goal.returns-in-Some-clause-ok
returns-in-Some-clause-ok c =
    ok_as c.skip_content.result
    (λ passed. option_as passed (no_content c.args.start c.in-Some.field-0-0 c.args.bytes.now c.in-Some.behind.now c.in-Some.ensures) (λ x p. item_passes c.in-Some.ensures p))
    c.skip_content.ensures.ok
