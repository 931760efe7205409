use Rattle.raft_tail.proofs.Common.{ℕ, List, Option, ap, ◌∙◌, drop, subst, signature_in, signature_of, FileId, Version, HasNoFront, IsReadable, in_file}
use Rattle.raft_tail.proofs.SearchLemmas.{never, unreadable_unsound}
use Rattle.raft_tail.proofs.elsewhere.can_read_batch_in_file.Goals as goal

pub returns-in_ok-check_not_memory-in-Err-clause-ok : goal.returns-in_ok-check_not_memory-in-Err-clause-ok
returns-in_ok-check_not_memory-in-Err-clause-ok c =
    let signature = ap signature_of c.new-file.ensures ∙ ap (λ (v : Version). signature_in v c.new-id.result.seq) c.version.ensures
    ∙ ap (λ (id : FileId). signature_in c.args.part.now.version id.seq) c.new-id.ensures in
    let none = c.in-Err.ensures.refused c.in_ok-check_not_memory-in-Err.ensures.ok in
    never (unreadable_unsound {part = in_file c.args.seq c.args.part.now} {at = c.args.at}
    (subst (λ (s : Option ℕ). HasNoFront (λ bytes. IsReadable bytes s) (drop c.args.at c.args.part.now.bytes)) signature
    (subst (λ (bytes : List ℕ). HasNoFront (λ xs. IsReadable xs (signature_of c.new-file.result)) (drop c.args.at bytes)) c.bytes.ensures none)))
