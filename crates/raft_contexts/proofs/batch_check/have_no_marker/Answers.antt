use Rattle.raft_contexts.proofs.Common.{rules, YieldsList-from_slice, cases_from_all, ReadItem}
use borrow.Author.Tests.{tests}
use Rattle.raft_contexts.proofs.BatchCheckLemmas.{IsNoMarker, none_marks}
use Rattle.raft_contexts.proofs.batch_check.have_no_marker.Goals as goal

pub returns : goal.returns
returns c =
    none_marks c.args.items.now c.all.result
    (cases_from_all _ _ _ IsNoMarker (λ (i : ReadItem). Unit {0}) c.all.ensures.ran (YieldsList-from_slice c.args.items.now cc) (λ x q k. search (rules, tests)) (λ x q k. tt))
