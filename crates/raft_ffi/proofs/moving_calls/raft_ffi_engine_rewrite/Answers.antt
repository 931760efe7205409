use Rattle.raft_ffi.proofs.Common.{refl, HandedFails, IsUnrewritten}
use Rattle.raft_ffi.proofs.CodeLemmas.{refused_both}
use Rattle.raft_ffi.proofs.moving_calls.raft_ffi_engine_rewrite.Goals as goal

pub returns-clause-err : goal.returns-clause-err
returns-clause-err c =
    refused_both (IsUnrewritten HandedFails c.args.gate) c.rewrite-answer.result c.status_of.result.code c.take-held.ensures.value c.put.ensures c.deref_mut.ensures.value refl
    c.rewrite-answer.ensures.err c.status_of.ensures.ok c.status_of.ensures.err
