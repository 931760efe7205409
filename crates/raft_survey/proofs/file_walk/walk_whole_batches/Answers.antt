use Rattle.raft_survey.proofs.Common.{◌+◌, ◌∙◌, ℕ, ap}
use Rattle.raft_survey.proofs.WalkedLemmas.{front_is_walked}
use Rattle.raft_survey.proofs.file_walk.walk_whole_batches.Goals as goal

pub returns-clause-ok : goal.returns-clause-ok
returns-clause-ok g c =
    front_is_walked g.V.PartVisitor.visits c.args.file.now c.args.at (c.args.at + c.len-count.result) c.args.piece.now.items c.in_ok-prefix.prefix.items c.take_whole_batches.new.piece.items c.args.visitor.now c.walk_piece.new.visitor
    c.in_ok-prefix.ensures.split c.in_ok-prefix.ensures.cut (ap (λ (n : ℕ). c.args.at + n) (c.len-count.ensures ∙ c.in_ok-prefix.prefix.ok.0)) c.in_ok-walk_piece.ensures.ok
