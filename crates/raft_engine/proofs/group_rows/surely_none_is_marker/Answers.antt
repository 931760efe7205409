use Rattle.raft_engine.proofs.Common.{rules, YieldsList-from_slice, cases_from_all, ReadItem, IsUnmarked}
use borrow.Author.Tests.{tests}
use Rattle.raft_engine.proofs.GroupRowLemmas.{all_unmarked}
use Rattle.raft_engine.proofs.group_rows.surely_none_is_marker.Goals as goal

pub returns : goal.returns
returns c =
    all_unmarked c.args.items.now c.all.result
    (cases_from_all _ _ _ IsUnmarked (λ (i : ReadItem). Unit {0}) c.all.ensures.ran (YieldsList-from_slice c.args.items.now cc) (λ x q k. search (rules, tests)) (λ x q k. tt))
