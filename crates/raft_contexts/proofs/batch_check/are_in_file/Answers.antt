use Rattle.raft_contexts.proofs.Common.{rules, YieldsList-from_slice, cases_from_all, content_of, LogItem, IsInFile}
use borrow.Author.Tests.{tests}
use Rattle.raft_contexts.proofs.BatchCheckLemmas.{all_in_file}
use Rattle.raft_contexts.proofs.batch_check.are_in_file.Goals as goal

pub returns : goal.returns
returns c =
    all_in_file c.args.file c.args.items.now c.all.result
    (cases_from_all _ _ _ (λ (i : LogItem). IsInFile c.args.file (content_of i.content))
    (λ (i : LogItem). IsInFile c.args.file (content_of i.content) → ⊥) c.all.ensures.ran (YieldsList-from_slice c.args.items.now cc)
    (λ x q k. search (rules, tests)) (λ x q k. search (rules, tests)))
