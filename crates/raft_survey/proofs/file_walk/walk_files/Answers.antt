use Rattle.raft_survey.proofs.Common.{List, inl, inr, subst, IfErr-weaker, on_ok_weaker, Append, Rewrite, on_passed, FileSize, AreFilesWalked, IsOneUnread}
use Rattle.raft_survey.proofs.file_walk.walk_files.Goals as goal

pub returns-clause-ok : goal.returns-clause-ok
returns-clause-ok g c =
    let Visits = g.V.PartVisitor.visits in
    let gives = g.S.ReadFiles.gives c.args.source.now in
    on_ok_weaker c.walk_queue-2.result
    (λ second. (
      c.walk_queue.new.visitor,
      subst (λ (files : List FileSize). AreFilesWalked Visits gives Append c.args.version files c.args.visitor.now c.walk_queue.new.visitor) c.as_slice-append.ensures.value c.in_ok-walk_queue.ensures.ok,
      subst (λ (files : List FileSize). AreFilesWalked Visits gives Rewrite c.args.version files c.walk_queue.new.visitor c.walk_queue-2.new.visitor) c.as_slice-rewrite.ensures.value second,
    ))
    c.walk_queue-2.ensures.ok

pub returns-in_err-walk_queue-clause-unread : goal.returns-in_err-walk_queue-clause-unread
returns-in_err-walk_queue-clause-unread g c =
    let gives = g.S.ReadFiles.gives c.args.source.now in
    let fails = g.S.ReadFiles.may_fail c.args.source.now in
    on_passed _ _ c.from_residual.ensures.1
    (λ other none. inl (subst (λ (files : List FileSize). IsOneUnread gives fails Append files c.in_err-walk_queue.field-0.0) c.as_slice-append.ensures.value (c.in_err-walk_queue.ensures.unread other none)))

pub returns-clause-unread : goal.returns-clause-unread
returns-clause-unread g c =
    let gives = g.S.ReadFiles.gives c.args.source.now in
    let fails = g.S.ReadFiles.may_fail c.args.source.now in
    IfErr-weaker c.walk_queue-2.result _ _
    (λ e stop other none. inr (subst (λ (files : List FileSize). IsOneUnread gives fails Rewrite files e) c.as_slice-rewrite.ensures.value (stop other none)))
    c.walk_queue-2.ensures.unread
