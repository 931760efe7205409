use Rattle.raft_replay.proofs.Common.{on_passed, subst, HasReplayed, CannotFollow}
use Rattle.raft_replay.proofs.Words.{PartsHold}
use Rattle.raft_replay.proofs.CoverLemmas.{piece_more, piece_refused}
use Rattle.raft_replay.proofs.piece.Piece.replay_next.Goals as goal

pub returns-in_err-replay_segment-clause-refused : goal.returns-in_err-replay_segment-clause-refused
returns-in_err-replay_segment-clause-refused g c =
    let laws = g.met.M.ReplayMachine g.world.𝓛 g.world.𝓜 g.world.𝓡 ((λ s x. x), (λ x. x), (λ x. x), λ x. x) in
    on_passed _ _ c.from_residual.ensures.1
    (λ not_memory.
    piece_refused g.M.ReplayMachine.stands_for g.M.ReplayMachine.stands_exactly laws.exact_stands c.args.segments.now c.args.self.from c.args.self.count
    c.args.self.machine.value c.requires.piece c.index-segments-next.result c.requires.inside c.index-segments-next.is
    (subst (λ (m : g.row.M.Denot). CannotFollow (PartsHold c.index-segments-next.result.items) (g.M.ReplayMachine.stands_for m)) c.deref_mut.ensures.value
    (c.in_err-replay_segment.ensures.refused not_memory)))

pub returns-clause-piece : goal.returns-clause-piece
returns-clause-piece g c =
    let laws = g.met.M.ReplayMachine g.world.𝓛 g.world.𝓜 g.world.𝓡 ((λ s x. x), (λ x. x), (λ x. x), λ x. x) in
    piece_more g.M.ReplayMachine.stands_for g.M.ReplayMachine.stands_exactly laws.exact_stands c.args.segments.now c.args.self.from c.args.self.count
    c.args.self.machine.value c.requires.piece c.index-segments-next.result c.requires.inside c.index-segments-next.is c.replay_segment.new.machine
    (subst
    (λ (m : g.row.M.Denot). HasReplayed (PartsHold c.index-segments-next.result.items) g.M.ReplayMachine.stands_for g.M.ReplayMachine.stands_exactly m c.replay_segment.new.machine)
    c.deref_mut.ensures.value c.in_ok-replay_segment.ensures.ok)
