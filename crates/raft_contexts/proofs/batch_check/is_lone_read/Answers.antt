use Rattle.raft_contexts.proofs.Common.{rules, ◌≡◌, None, subst, FileId, AreDecodedIn, first_marker, HaveStatus, items_in_file, Rewrite}
use Rattle.raft_contexts.proofs.BatchCheckLemmas.{first_of_none, status_of_none}
use Rattle.raft_contexts.proofs.batch_check.is_lone_read.Goals as goal

pub returns-in-Append-clause-items : goal.returns-in-Append-clause-items
returns-in-Append-clause-items c = λ lone.
    let file : c.parts.result.0.id ≡ c.args.file = search rules in
    items_in_file c.args.file c.args.batch.now (subst (λ (f : FileId). AreDecodedIn f c.args.batch.now) file c.parts.ensures.in_file)

pub returns-in-Rewrite-clause-items : goal.returns-in-Rewrite-clause-items
returns-in-Rewrite-clause-items c = λ lone.
    let file : c.parts.result.0.id ≡ c.args.file = search rules in
    items_in_file c.args.file c.args.batch.now (subst (λ (f : FileId). AreDecodedIn f c.args.batch.now) file c.parts.ensures.in_file)

pub returns-in-Rewrite-clause-markers : goal.returns-in-Rewrite-clause-markers
returns-in-Rewrite-clause-markers c = λ lone.
    rw c.in-Rewrite.is (subst (HaveStatus Rewrite) c.parts.ensures.shown (status_of_none _ (c.have_no_marker.ensures lone c.parts.result.0 c.parts.result.2.now)))

pub returns-in-Rewrite-clause-marker : goal.returns-in-Rewrite-clause-marker
returns-in-Rewrite-clause-marker c = λ lone.
    rw c.in-Rewrite.is (subst (λ items. first_marker items ≡ None) c.parts.ensures.shown (first_of_none _ (c.have_no_marker.ensures lone c.parts.result.0 c.parts.result.2.now)))
