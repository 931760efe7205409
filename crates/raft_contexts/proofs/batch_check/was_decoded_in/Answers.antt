use Rattle.raft_contexts.proofs.Common.{rules, ◌≡◌, subst, FileId, AreDecodedIn, items_in_file}
use Rattle.raft_contexts.proofs.batch_check.was_decoded_in.Goals as goal

pub returns-in-Some : goal.returns-in-Some
returns-in-Some c = λ same.
    let file : c.in-Some.decoded_in ≡ c.args.file = search rules in
    items_in_file c.args.file c.args.batch.now (subst (λ (f : FileId). AreDecodedIn f c.args.batch.now) file c.in-Some.ensures)
