use Rattle.raft_ffi.proofs.Common.{Rewriting, IsShareRefused, share_of, number_in}
use Rattle.raft_ffi.proofs.CodeLemmas.{refused_all}
use Rattle.raft_ffi.proofs.write_calls.raft_ffi_slot_apply_rewrite.Goals as goal

pub returns-clause-refused : goal.returns-clause-refused
returns-clause-refused c =
    let refused = rw (c.to_option.ensures) at c.rewrite_share-answer.ensures.refused in
    refused_all (λ xs. IsShareRefused (Rewriting (number_in c.args.gate) c.args.seq) (share_of c.args.number xs)) c.rewrite_share-answer.result c.status_of.result.code
    c.take-list.ensures.value c.take-held.ensures.value c.put-2.ensures c.deref.ensures c.deref_mut.ensures.value refused c.status_of.ensures.ok c.status_of.ensures.err
