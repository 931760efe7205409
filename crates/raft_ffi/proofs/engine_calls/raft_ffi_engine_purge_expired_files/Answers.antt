use Rattle.raft_ffi.proofs.Common.{◌∙◌, refl, HandedFails, IsUnpurged}
use Rattle.raft_ffi.proofs.CodeLemmas.{refused_both}
use Rattle.raft_ffi.proofs.engine_calls.raft_ffi_engine_purge_expired_files.Goals as goal

pub returns-clause-err : goal.returns-clause-err
returns-clause-err c =
    refused_both (IsUnpurged HandedFails) c.purge_expired_files-answer.result c.store_and_answer.result.code c.take-held.ensures.value c.put.ensures (c.behind-held.view_is ∙ c.deref_mut.ensures.value) refl
    c.purge_expired_files-answer.ensures.err c.store_and_answer.ensures.ok c.store_and_answer.ensures.err
