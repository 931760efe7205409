use Rattle.raft_tickets.proofs.Common.{◌≡◌, [], ◌∷◌, ◌∙◌, arith, TicketSeat}
use Rattle.raft_tickets.proofs.DrawingLemmas.{one_fewer, All-front}
use Rattle.raft_tickets.proofs.tickets.join_seats.Goals as goal

pub loop-other-preserved : goal.loop-other-preserved
loop-other-preserved c = let popped = c.in-Some.ensures.items in record {
  table = c.join_seat.ensures.same.0 ∙ c.loop-other.invariant.table;
  held = c.join_seat.ensures.same.1 ∙ c.loop-other.invariant.held;
  tables =
      All-front (λ (d : TicketSeat). d.table ≡ c.args.shared.now.table_id) c.pop.new.self.items (c.in-Some.other ∷ []) c.loop-other.seats.items popped
      c.loop-other.invariant.tables;
  lists = λ f.
      let fewer = one_fewer (λ (d : TicketSeat). f d.drawn) c.loop-other.seats.items c.pop.new.self.items c.in-Some.other popped in
      let joined = c.join_seat.ensures.lists f in
      let before = c.loop-other.invariant.lists f in omega arith;
}
