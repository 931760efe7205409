use Rattle.raft_survey.proofs.Common.{◌≡◌, ◌+◌, ◌-◌, ◌∙◌, ℕ, List, length, subst, arith, IfErr-weaker, on_ok_weaker, on_passed, IsDecided}
use Rattle.raft_survey.proofs.FaultLemmas.{read_is_io}
use Rattle.raft_survey.proofs.WalkedLemmas.{cannot_read_on, finished, front_shown, more_read}
use Rattle.raft_survey.proofs.file_walk.walk_file.Goals as goal

pub loop-piece-preserved : goal.loop-piece-preserved
loop-piece-preserved g c =
    let Visits = g.V.PartVisitor.visits in
    let gives = g.S.ReadFiles.gives c.args.source.now c.args.file.now.id in
    let piece = c.walk_whole_batches.new.piece.items in
    let reading =
    front_shown Visits c.args.file.now gives c.args.len c.args.visitor.now c.loop-piece.at c.in_ok-at.at c.loop-piece.piece.items piece c.loop-piece.visitor c.walk_whole_batches.new.visitor c.loop-piece.invariant c.in_ok-at.ensures.ok in
    let counted : c.len.result ≡ length piece = c.len.ensures ∙ c.walk_whole_batches.new.piece.ok.0 in
    let inside = reading.inside in
    more_read Visits c.args.file.now gives c.args.len c.args.visitor.now c.in_ok-at.at c.bytes_wanted-wanted.result piece c.read_behind.new.piece.items c.walk_whole_batches.new.visitor reading
    (omega (arith, counted, inside, c.bytes_wanted-wanted.ensures.some)) c.in_ok-read_behind.ensures.ok

pub returns-then-wanted-eq0-clause-ok : goal.returns-then-wanted-eq0-clause-ok
returns-then-wanted-eq0-clause-ok g c =
    let Visits = g.V.PartVisitor.visits in
    let gives = g.S.ReadFiles.gives c.args.source.now c.args.file.now.id in
    let piece = c.walk_whole_batches.new.piece.items in
    let left = c.args.len - c.in_ok-at.at - c.len.result in
    let reading =
    front_shown Visits c.args.file.now gives c.args.len c.args.visitor.now c.loop-piece.at c.in_ok-at.at c.loop-piece.piece.items piece c.loop-piece.visitor c.walk_whole_batches.new.visitor c.loop-piece.invariant c.in_ok-at.ensures.ok in
    let counted : c.len.result ≡ length piece = c.len.ensures ∙ c.walk_whole_batches.new.piece.ok.0 in
    let inside = reading.inside in
    let all : c.in_ok-at.at + length piece + left ≡ c.args.len = omega (arith, counted, inside) in
    let decided : IsDecided piece left = subst (λ (xs : List ℕ). IsDecided xs left) c.as_slice.ensures.value (c.bytes_wanted-wanted.ensures.none c.if-wanted-eq0.true) in
    on_ok_weaker c.walk_piece.result
    (λ walked. finished Visits c.args.file.now gives c.args.len c.args.visitor.now c.in_ok-at.at left piece c.walk_whole_batches.new.visitor c.walk_piece.new.visitor reading all c.in_ok-at.ensures.none decided walked)
    c.walk_piece.ensures.ok

pub returns-in_err-at-clause-unread : goal.returns-in_err-at-clause-unread
returns-in_err-at-clause-unread g c = on_passed _ _ c.from_residual.ensures.1 (λ other none. absurd (none (c.in_err-at.ensures.fault other)))

pub returns-in_err-read_behind-clause-unread : goal.returns-in_err-read_behind-clause-unread
returns-in_err-read_behind-clause-unread g c =
    let Visits = g.V.PartVisitor.visits in
    let gives = g.S.ReadFiles.gives c.args.source.now c.args.file.now.id in
    let fails = g.S.ReadFiles.may_fail c.args.source.now c.args.file.now.id in
    let piece = c.walk_whole_batches.new.piece.items in
    let reading =
    front_shown Visits c.args.file.now gives c.args.len c.args.visitor.now c.loop-piece.at c.in_ok-at.at c.loop-piece.piece.items piece c.loop-piece.visitor c.walk_whole_batches.new.visitor c.loop-piece.invariant c.in_ok-at.ensures.ok in
    let counted : c.len.result ≡ length piece = c.len.ensures ∙ c.walk_whole_batches.new.piece.ok.0 in
    let inside = reading.inside in
    on_passed _ _ c.from_residual-in_err-read_behind.ensures.1
    (λ other none. cannot_read_on Visits c.args.file.now gives c.args.len c.args.visitor.now fails c.in_ok-at.at c.bytes_wanted-wanted.result piece c.walk_whole_batches.new.visitor c.in_err-read_behind.field-0.0 reading
    (omega (arith, counted, inside, c.bytes_wanted-wanted.ensures.some)) (c.in_err-read_behind.ensures.fault other))

pub returns-in_err-read_behind-clause-fault : goal.returns-in_err-read_behind-clause-fault
returns-in_err-read_behind-clause-fault g c =
    on_passed _ _ c.from_residual-in_err-read_behind.ensures.1
    (λ no_io other. absurd (other (read_is_io _ _ _ c.in_err-read_behind.field-0.0 (c.in_err-read_behind.ensures.fault other) no_io)))

pub returns-then-wanted-eq0-clause-unread : goal.returns-then-wanted-eq0-clause-unread
returns-then-wanted-eq0-clause-unread g c = IfErr-weaker c.walk_piece.result _ _ (λ e fails other none. absurd (none (fails other))) c.walk_piece.ensures.fault
