use Rattle.raft_engine.proofs.Common.{err_from_is_err_and, inl, inr, length, refl, StopsAt, IsTailOf}
use Rattle.raft_engine.proofs.FoundLemmas.{begins_as, tolerated, whole_not_other}
use Rattle.raft_engine.proofs.FoundQueueLemmas.{tail_of_version, tail_refused, tail_tolerated, tail_unreadable}
use Rattle.raft_engine.proofs.found.check_tail.Goals as goal

pub check_tolerated-requires : goal.check_tolerated-requires
check_tolerated-requires c = let told : IsTailOf c.args.file.now c.in-Some.tail = rw c.in-Some.is at c.requires in told.torn.1

pub returns-in_default-clause-tolerated : goal.returns-in_default-clause-tolerated
returns-in_default-clause-tolerated c =
    let stops : StopsAt c.args.file.now (length c.args.file.now.bytes) = rw c.in_default.is at c.requires in
    tolerated c.args.mode c.args.file.now (length c.args.file.now.bytes) stops (inl refl)

pub returns-in_default-clause-of_version : goal.returns-in_default-clause-of_version
returns-in_default-clause-of_version c =
    let stops : StopsAt c.args.file.now (length c.args.file.now.bytes) = rw c.in_default.is at c.requires in
    whole_not_other c.args.file.now (length c.args.file.now.bytes) stops.batches refl

pub returns-in_err-check_beginning-clause-refused : goal.returns-in_err-check_beginning-clause-refused
returns-in_err-check_beginning-clause-refused c =
    let told : IsTailOf c.args.file.now c.in-Some.tail = rw c.in-Some.is at c.requires in
    let p = err_from_is_err_and c.from_residual.result c.from_residual.ensures.1 in
    rw (p.1, p.2) (λ other. let r = c.in_err-check_beginning.ensures.refused other in inr (record {
      other = record { unreadable = tail_unreadable c.args.mode c.args.file.now c.in-Some.tail told 0 r.0; begins = begins_as c.args.file.now _ r.1 };
      text = r.1;
    }))

pub returns-clause-refused : goal.returns-clause-refused
returns-clause-refused c =
    let told : IsTailOf c.args.file.now c.in-Some.tail = rw c.in-Some.is at c.requires in
    tail_refused c.args.mode c.args.file.now c.in-Some.tail told c.check_tolerated.result c.check_tolerated.ensures.refused

pub returns-clause-tolerated : goal.returns-clause-tolerated
returns-clause-tolerated c =
    let told : IsTailOf c.args.file.now c.in-Some.tail = rw c.in-Some.is at c.requires in
    tail_tolerated c.args.mode c.args.file.now c.in-Some.tail told c.check_tolerated.result c.check_tolerated.ensures.ok

pub returns-clause-of_version : goal.returns-clause-of_version
returns-clause-of_version c =
    let told : IsTailOf c.args.file.now c.in-Some.tail = rw c.in-Some.is at c.requires in
    tail_of_version c.args.mode c.args.file.now c.in-Some.tail told c.check_tolerated.result c.in_ok-check_beginning.ensures.ok
