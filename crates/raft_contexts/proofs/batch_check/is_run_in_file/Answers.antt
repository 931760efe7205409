use Rattle.raft_contexts.proofs.Common.{rules, YieldsList-from_slice, cases_from_all, EntryIndex, IsPlaceInFile}
use borrow.Author.Tests.{tests}
use Rattle.raft_contexts.proofs.BatchCheckLemmas.{in_file_if_placed}
use Rattle.raft_contexts.proofs.batch_check.is_run_in_file.Goals as goal

pub returns-then-is_consecutive : goal.returns-then-is_consecutive
returns-then-is_consecutive c =
    in_file_if_placed c.args.file c.args.entries.now c.all.result
    (cases_from_all _ _ _ (λ (e : EntryIndex). IsPlaceInFile c.args.file e.entries) (λ (e : EntryIndex). IsPlaceInFile c.args.file e.entries → ⊥)
    c.all.ensures.ran (YieldsList-from_slice c.args.entries.now cc) (λ x q k. search (rules, tests)) (λ x q k. search (rules, tests)))
    (c.is_consecutive.ensures.0 c.if-is_consecutive.true)
