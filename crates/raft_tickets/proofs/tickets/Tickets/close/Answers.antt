use Rattle.raft_tickets.proofs.Common.{◌≡◌, ◌+◌, [], ◌∷◌, length, ap, ◌∙◌, arith, length_push, slots_items, TicketSeat, Tickets, occurrences}
use Rattle.raft_tickets.proofs.DrawingLemmas.{closed_draws, one_fewer}
use Rattle.raft_tickets.proofs.tickets.Tickets.close.Goals as goal

pub returns : goal.returns
returns c x =
    let popped = c.in-Some.ensures.items in
    let fewer = one_fewer (λ (d : TicketSeat). occurrences x d.drawn) c.args.seats.items c.pop.new.self.items c.in-Some.last popped in
    let state = c.close_with-closed.ensures.values.2 in
    let all : length c.pop.new.self.items + 1 ≡ c.self.inside.table.shared.key.seats =
    let lengths = ap length popped ∙ length_push c.pop.new.self.items c.in-Some.last in
    let held = c.args.seats.ok.0 in let asked = c.requires.0 in let shown = ap (λ (t : Tickets). t.seats) c.self.view_is in omega arith in
    let one = c.last.invariant.0.one ∙ ap (λ (d : TicketSeat). d.drawn ∷ []) c.last.view_is in
    let draws =
    closed_draws c.self.inside.table.shared.key.total c.self.inside.table.shared.key.seats c.join_seats.new.seat.id c.word-word.result
    c.last.inside.seat.me.0 c.join_seats.new.seat.me.0 c.in-Some.last.drawn c.pop.new.self.items (slots_items c.close_with-closed.result.words)
    one c.join_seats.ensures.lists all state.0 state.1.0 state.1.1 state.2 c.word-word.ensures x in
    omega arith
