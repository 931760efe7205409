use Rattle.raft_ffi.proofs.Common.{refl, IsNeighborFault, queue_of}
use Rattle.raft_ffi.proofs.CodeLemmas.{refused_both}
use Rattle.raft_ffi.proofs.context_calls.raft_ffi_context_merge.Goals as goal

pub returns-clause-fault : goal.returns-clause-fault
returns-clause-fault c =
    let fault = rw (c.to_queue.ensures) at c.merge_newer-answer.ensures.fault in
    refused_both (IsNeighborFault (queue_of c.args.is_rewrite)) c.merge_newer-answer.result c.status_of.result.code c.take-held.ensures.value c.into_held.ensures
    c.deref_mut.ensures.value refl fault c.status_of.ensures.ok c.status_of.ensures.err
