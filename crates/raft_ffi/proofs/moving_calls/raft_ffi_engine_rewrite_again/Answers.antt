use Rattle.raft_ffi.proofs.Common.{refl, HandedFails, AreUnmovedAgain}
use Rattle.raft_ffi.proofs.CodeLemmas.{refused_both}
use Rattle.raft_ffi.proofs.moving_calls.raft_ffi_engine_rewrite_again.Goals as goal

pub returns-clause-err : goal.returns-clause-err
returns-clause-err c =
    refused_both (AreUnmovedAgain HandedFails) c.rewrite_again-answer.result c.status_of.result.code c.take-held.ensures.value c.put.ensures c.deref_mut.ensures.value refl
    c.rewrite_again-answer.ensures.err c.status_of.ensures.ok c.status_of.ensures.err
