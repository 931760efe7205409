use Rattle.raft_replay.proofs.Common.{or_passed, ◌≡◌, ℕ, ◌<◌, List, [], ◌∷◌, ◌++◌, length, sym, ap, ◌∙◌, subst, arith, All-push, Piece, IsPieceOf, AreBelow, HasEnded, below_more}
use Rattle.raft_replay.proofs.CoverLemmas.{bound, bound_below, bound_more, none_left, cover_step}
use Rattle.raft_replay.proofs.workers.replay_drawn_segments.Goals as goal

pub returns-in_err-piece-clause-given : goal.returns-in_err-piece-clause-given
returns-in_err-piece-clause-given g c =
    or_passed _ _ _ c.from_residual.ensures.1 (λ not_memory not_own. absurd (not_own (c.in_err-piece.ensures.err not_memory)))

pub loop-number-smaller : goal.loop-number-smaller
loop-number-smaller g c =
    let drew = c.in-Some.ensures.draw in
    let total = c.loop-number.invariant.of_tickets.1 ∙ c.requires.total in
    let small = drew.0 in
    let more = bound_more c.in-Some.number c.loop-number.seat.drawn in
    let low = bound_below c.in-Some.number c.loop-number.seat.drawn drew.1 in
    let new : bound c.draw.new.seat.drawn ≡ bound (c.loop-number.seat.drawn ++ c.in-Some.number ∷ []) = ap bound drew.2 in
    omega arith

pub loop-number-preserved : goal.loop-number-preserved
loop-number-preserved g c =
    let drew = c.in-Some.ensures.draw in
    let total : c.loop-number.seat.total ≡ length c.args.segments.now = c.loop-number.invariant.of_tickets.1 ∙ c.requires.total in
    let first = drew.0 in
    let small : c.in-Some.number < length c.args.segments.now = omega arith in
    let kept = c.in_ok-piece.ensures.piece c.args.segments.now (omega arith) c.loop-number.invariant.each in
    let next = c.in_ok-replay_next.ensures.next in
    record {
      of_tickets = c.in-Some.ensures.same;
      below =
          subst (λ (l : List ℕ). AreBelow (length c.args.segments.now) l) (sym drew.2)
          (below_more (length c.args.segments.now) c.in-Some.number c.loop-number.seat.drawn small c.loop-number.invariant.below);
      each =
          rw c.in_ok-push.ensures.items
          (All-push (λ (p : Piece g.row.M.Denot). IsPieceOf g.M.ReplayMachine.stands_exactly c.args.segments.now p) c.take_last_or_begin.new.pieces.items c.in_ok-replay_next.field-0 kept.1
          c.in_ok-replay_next.ensures.piece);
      covered = λ x inside.
          cover_step x c.in-Some.number c.loop-number.pieces.items c.take_last_or_begin.new.pieces.items c.push.new.self.items c.in_ok-piece.piece c.in_ok-replay_next.field-0
          c.loop-number.seat.drawn c.draw.new.seat.drawn (c.in_ok-piece.ensures.covered x) c.in_ok-piece.ensures.next next.0 next.1 c.in_ok-push.ensures.items
          drew.2 (c.loop-number.invariant.covered x inside);
    }

pub returns-clause-given : goal.returns-clause-given
returns-clause-given g c =
    let total : c.loop-number.seat.total ≡ length c.args.segments.now = c.loop-number.invariant.of_tickets.1 ∙ c.requires.total in
    let left = none_left c.loop-number.seat.total c.loop-number.seat.drawn c.draw.new.seat.drawn c.in_default.ensures.draw in
    record {
      each = c.loop-number.invariant.each;
      covered = λ x inside. c.loop-number.invariant.covered x inside ∙ sym (left.1 x (omega arith));
      ended = subst (λ (t : ℕ). HasEnded t c.draw.new.seat.drawn) total left.0;
    }
