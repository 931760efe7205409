use Rattle.raft_survey.proofs.Common.{List, subst, sym, drop_more, Contains-get_or, on_passed, FileSize, AreFilesWalked}
use Rattle.raft_survey.proofs.file_walk.walk_queue.Goals as goal

pub loop-size-preserved : goal.loop-size-preserved
loop-size-preserved g c = λ last rest.
    c.loop-size.invariant last
    (subst (λ (files : List FileSize). AreFilesWalked g.V.PartVisitor.visits (g.S.ReadFiles.gives c.args.source.now) c.args.queue c.args.version files c.loop-size.visitor last)
    (sym (drop_more c.args.sizes.now c.loop-size.size-index _ c.loop-size-test.true)) (c.walk_sized_file.new.visitor, c.in_ok-walk_sized_file.ensures.ok, rest))

pub returns-in_err-walk_sized_file-clause-unread : goal.returns-in_err-walk_sized_file-clause-unread
returns-in_err-walk_sized_file-clause-unread g c =
    on_passed _ _ c.from_residual.ensures.1
    (λ other none. record { size = _; among = Contains-get_or c.args.sizes.now c.loop-size.size-index _ c.loop-size-test.true; unread = c.in_err-walk_sized_file.ensures.unread other none })
