use Rattle.raft_ffi.proofs.Common.{version_of}
use Rattle.raft_ffi.specs.Engines.{mode_of}
use Rattle.raft_ffi.proofs.CodeLemmas.{failed, refusal}
use Rattle.raft_ffi.proofs.ReadLemmas.{opened_all}
use Rattle.raft_ffi.proofs.engine_calls.raft_ffi_engine_open.Goals as goal

pub open_into-answer-requires-clause-read : goal.open_into-answer-requires-clause-read
open_into-answer-requires-clause-read c =
    rw (c.to_version.ensures, c.into_both-appended.ensures, c.into_both-rewritten.ensures) (rw (c.into_held.ensures, c.into_held-2.ensures) at c.requires.read)

pub returns-clause-ok : goal.returns-clause-ok
returns-clause-ok c = λ zero.
    let opened = rw (c.to_version.ensures, c.to_recovery_mode.ensures, c.into_both-appended.ensures, c.into_both-rewritten.ensures) at c.open_into-answer.ensures.ok in
    rw (c.into_held.ensures, c.into_held-2.ensures)
    (opened_all (mode_of c.args.mode) (version_of c.args.is_signed) c.args.append.now c.args.append_rest.now c.args.rewrite.now c.args.rewrite_rest.now c.into_held.result c.into_held-2.result _ c.open_into-answer.result c.status_of.result.code
    c.open_into-answer.new.engine.value opened c.set_tails.ensures c.status_of.ensures.err zero)

pub returns-clause-err : goal.returns-clause-err
returns-clause-err c = λ some. failed c.open_into-answer.result c.status_of.result.code _ c.status_of.ensures.ok c.open_into-answer.ensures.err some

pub returns-clause-fault : goal.returns-clause-fault
returns-clause-fault c = λ some.
    let fault = rw (c.to_version.ensures, c.to_recovery_mode.ensures, c.into_both-appended.ensures, c.into_both-rewritten.ensures) at c.open_into-answer.ensures.fault in
    rw (c.into_held.ensures, c.into_held-2.ensures)
    (refusal c.open_into-answer.result c.status_of.result.code _ c.status_of.ensures.ok c.status_of.ensures.err fault some)
