use Rattle.raft_ffi.proofs.Common.{drop, signature_of, IsNextFault, file_of, IsMemoryOr}
use Rattle.raft_ffi.proofs.CodeLemmas.{refusal}
use Rattle.raft_ffi.proofs.item_list.raft_ffi_items_next.Goals as goal

pub returns-clause-fault : goal.returns-clause-fault
returns-clause-fault c =
    let fault = rw (c.to_context.ensures) at c.read_next_items-answer.ensures.fault in
    refusal c.read_next_items-answer.result _ (IsMemoryOr (IsNextFault (signature_of (file_of c.args.file)) (drop c.args.at c.args.bytes.now))) c.status_of.ensures.ok c.status_of.ensures.err fault
