use Rattle.raft_ffi.proofs.Common.{Appending, IsShareRefused, share_of}
use Rattle.raft_ffi.proofs.CodeLemmas.{refused_all}
use Rattle.raft_ffi.proofs.write_calls.raft_ffi_slot_apply_append.Goals as goal

pub returns-clause-refused : goal.returns-clause-refused
returns-clause-refused c =
    refused_all (λ xs. IsShareRefused Appending (share_of c.args.number xs)) c.append_share-answer.result c.status_of.result.code c.take-list.ensures.value c.take-held.ensures.value c.put-2.ensures
    c.deref.ensures c.deref_mut.ensures.value c.append_share-answer.ensures.refused c.status_of.ensures.ok c.status_of.ensures.err
