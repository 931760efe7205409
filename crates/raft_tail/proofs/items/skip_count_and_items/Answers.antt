use Rattle.raft_tail.proofs.Common.{length, no_second, varint_one_front, IsVarint, AreItems}
use Rattle.raft_tail.proofs.PassingLemmas.{counted_pass, ok_as, option_as}
use Rattle.raft_tail.proofs.items.skip_count_and_items.Goals as goal

pub returns-in-Some-clause-ok : goal.returns-in-Some-clause-ok
returns-in-Some-clause-ok c =
    ok_as c.skip_items.result
    (λ passed. option_as passed
    (λ none front rest xs p e. no_second IsVarint AreItems varint_one_front c.in-Some.ensures none front rest (length xs) xs p e)
    (λ x p. counted_pass c.in-Some.ensures p))
    c.skip_items.ensures.ok
