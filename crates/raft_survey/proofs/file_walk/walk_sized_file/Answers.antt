use Rattle.raft_survey.proofs.Common.{subst, IfErr-weaker, on_ok_weaker, LogFileContext, IsUnread, file_of, HasWalkedFile}
use Rattle.raft_survey.proofs.SoundLemmas.{context_of}
use Rattle.raft_survey.proofs.file_walk.walk_sized_file.Goals as goal

pub returns-clause-ok : goal.returns-clause-ok
returns-clause-ok g c =
    let gives = g.S.ReadFiles.gives c.args.source.now in
    on_ok_weaker c.walk_file.result
    (λ walked. subst (λ (f : LogFileContext). HasWalkedFile g.V.PartVisitor.visits (gives f.id) f c.args.size.now.len c.args.visitor.now c.walk_file.new.visitor)
    (context_of c.args.version c.new-file.result c.new.result (file_of c.args.queue c.args.size.now.seq) c.new-file.ensures c.new.ensures) walked)
    c.walk_file.ensures.ok

pub returns-clause-unread : goal.returns-clause-unread
returns-clause-unread g c =
    let gives = g.S.ReadFiles.gives c.args.source.now in
    let fails = g.S.ReadFiles.may_fail c.args.source.now in
    IfErr-weaker c.walk_file.result _ _
    (λ e stop other none. subst (λ (f : LogFileContext). IsUnread (gives f.id) (fails f.id) c.args.size.now.len e)
    (context_of c.args.version c.new-file.result c.new.result (file_of c.args.queue c.args.size.now.seq) c.new-file.ensures c.new.ensures) (stop other none))
    c.walk_file.ensures.unread
