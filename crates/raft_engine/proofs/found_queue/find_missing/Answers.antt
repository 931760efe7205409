use Rattle.raft_engine.proofs.Common.{err_from_is_err_and, inl, inr, refl, Nothing}
use Rattle.raft_engine.proofs.FoundQueueLemmas.{block_fault, first_missing, last_missing, missing_fault, torn_as}
use Rattle.raft_engine.specs.declared.missing.Missing.TheVariants.{Cut}
use Rattle.raft_engine.proofs.found_queue.find_missing.Goals as goal

pub check_tail-requires : goal.check_tail-requires
check_tail-requires c = let r = c.requires in torn_as r.0 r.1 r.2 _ _ (rw c.in-Some.is at (c.last_file_part.ensures r.0 r.1 r.2 r.3)) r.4

pub returns-in_default-clause-ok : goal.returns-in_default-clause-ok
returns-in_default-clause-ok c = λ queue version files whole told consecutive. first_missing queue version files c.args.mode consecutive (rw c.in_default.is at (c.last_file_part.ensures queue version files whole))

pub returns-in_err-check_tail-clause-fault : goal.returns-in_err-check_tail-clause-fault
returns-in_err-check_tail-clause-fault c = λ queue version files whole told.
    let p = err_from_is_err_and c.from_residual.result c.from_residual.ensures.1 in
    let l = rw c.in-Some.is at (c.last_file_part.ensures queue version files whole) in
    rw (p.1, p.2) (λ other. missing_fault queue version files c.args.mode c.in-Some.last.now l _ (c.in_err-check_tail.ensures.refused other))

pub returns-in-None-clause-ok : goal.returns-in-None-clause-ok
returns-in-None-clause-ok c = λ queue version files whole told consecutive.
    let l = rw c.in-Some.is at (c.last_file_part.ensures queue version files whole) in
    last_missing queue version files c.args.mode consecutive c.in-Some.last.now l c.in_ok-check_tail.ensures.tolerated c.in_ok-check_tail.ensures.of_version c.in_ok-check_blocks.ensures.ok c.args.tail told Nothing (inl (c.in-None.is, refl))

pub returns-in-Some-tail-clause-ok : goal.returns-in-Some-tail-clause-ok
returns-in-Some-tail-clause-ok c = λ queue version files whole told consecutive.
    let l = rw c.in-Some.is at (c.last_file_part.ensures queue version files whole) in
    last_missing queue version files c.args.mode consecutive c.in-Some.last.now l c.in_ok-check_tail.ensures.tolerated c.in_ok-check_tail.ensures.of_version c.in_ok-check_blocks.ensures.ok c.args.tail told (Cut c.in-Some-tail.tail)
    (inr (c.in-Some-tail.tail, c.in-Some-tail.is, refl))

pub returns-in_err-check_blocks-clause-fault : goal.returns-in_err-check_blocks-clause-fault
returns-in_err-check_blocks-clause-fault c = λ queue version files whole told.
    let p = err_from_is_err_and c.from_residual-in_err-check_blocks.result c.from_residual-in_err-check_blocks.ensures.1 in
    let l = rw c.in-Some.is at (c.last_file_part.ensures queue version files whole) in
    rw (p.1, p.2) (λ other. block_fault queue version files c.args.mode c.in-Some.last.now l _ (c.in_err-check_blocks.ensures.refused other))
