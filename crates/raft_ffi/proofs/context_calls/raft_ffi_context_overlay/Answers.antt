use Rattle.raft_contexts.specs.OverlaidContext.{IsMergeAppendFault}
use Rattle.raft_ffi.proofs.Common.{refl}
use Rattle.raft_ffi.proofs.CodeLemmas.{refused_both}
use Rattle.raft_ffi.proofs.context_calls.raft_ffi_context_overlay.Goals as goal

pub returns-clause-fault : goal.returns-clause-fault
returns-clause-fault c =
    refused_both IsMergeAppendFault c.overlay_append-answer.result c.status_of.result.code c.take-held.ensures.value c.into_held.ensures c.deref_mut.ensures.value refl
    c.overlay_append-answer.ensures.fault c.status_of.ensures.ok c.status_of.ensures.err
