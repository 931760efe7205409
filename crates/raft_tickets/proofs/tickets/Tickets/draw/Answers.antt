use Rattle.raft_tickets.proofs.Common.{◌≡◌, sym, ap, ◌∙◌, subst, arith, only, Continues, AreBelow, TicketSeat, Tickets}
use Rattle.raft_tickets.proofs.DrawingLemmas.{draws, goes_on_drawing, ends_drawing, rises_still}
use Rattle.raft_tickets.proofs.tickets.Tickets.draw.Goals as goal

-- the seat's total is that of the tickets
totals : {d : TicketSeat} {t : Tickets} {e : TicketSeat} {u : Tickets} → d ≡ e → e.total ≡ u.total → t ≡ u → d.total ≡ t.total
totals seat same tickets = ap (λ (x : TicketSeat). x.total) seat ∙ same ∙ sym (ap (λ (x : Tickets). x.total) tickets)

pub fetch_add-number-requires : goal.fetch_add-number-requires
fetch_add-number-requires c =
    let goes_on : AreBelow c.seat.inside.total (only c.seat.inside.seat.me.0) =
    subst (λ b. Continues c.seat.inside.total b (only c.seat.inside.seat.me.0)) c.if-seat.false c.seat.invariant.0.continues in (
      ap (λ (d : TicketSeat). d.table) c.seat.view_is ∙ c.requires.0 ∙ sym (ap (λ (t : Tickets). t.table) c.self.view_is),
      (let one = c.self.invariant.0 in omega arith),
      draws c.self.inside.table.shared.key.total c.self.inside.table.shared.key.seats _ c.seat.inside.seat.id c.seat.inside.seat.me c.seat.invariant.0.one
          (subst (λ n. AreBelow n (only c.seat.inside.seat.me.0)) (totals c.seat.view_is c.requires.1 c.self.view_is ∙ sym c.self.invariant.2) goes_on),
    )

pub invariant_of-seat : goal.invariant_of-seat
invariant_of-seat c = (
  goes_on_drawing c.seat.inside.total c.fetch_add-number.result _ c.seat.inside.seat.me.0 _ c.if-seat.false c.seat.invariant.0 c.fetch_add-number.ensures.2.0 (let t = totals c.seat.view_is c.requires.1 c.self.view_is in omega arith),
  c.fetch_add-number.ensures.2.1 ∙ c.seat.invariant.1,
)

pub invariant_of-seat-else-number-self : goal.invariant_of-seat-else-number-self
invariant_of-seat-else-number-self c = (
  ends_drawing c.seat.inside.total c.fetch_add-number.result _ c.seat.inside.seat.me.0 _ c.if-seat.false c.seat.invariant.0 c.fetch_add-number.ensures.2.0 (let t = totals c.seat.view_is c.requires.1 c.self.view_is in omega arith),
  c.fetch_add-number.ensures.2.1 ∙ c.seat.invariant.1,
)

pub returns-then-number-self-clause-rises : goal.returns-then-number-self-clause-rises
returns-then-number-self-clause-rises c =
    rises_still c.seat.inside.total c.fetch_add-number.result _ c.seat.inside.seat.me.0 _ c.if-seat.false c.seat.invariant.0 c.fetch_add-number.ensures.2.0

pub returns-else-number-self-clause-rises : goal.returns-else-number-self-clause-rises
returns-else-number-self-clause-rises c =
    rises_still c.seat.inside.total c.fetch_add-number.result _ c.seat.inside.seat.me.0 _ c.if-seat.false c.seat.invariant.0 c.fetch_add-number.ensures.2.0
