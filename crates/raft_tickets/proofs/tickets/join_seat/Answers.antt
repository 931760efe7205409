use Rattle.raft_tickets.proofs.Common.{ℕ, List, [], ◌∷◌, ap, ◌∙◌, TicketSeat}
use Rattle.raft_tickets.proofs.DrawingLemmas.{joins, weigh_joined}
use Rattle.raft_tickets.proofs.tickets.join_seat.Goals as goal

pub join_seat-requires : goal.join_seat-requires
join_seat-requires c = (
  c.requires.seat,
  ap (λ (d : TicketSeat). d.table) c.other.view_is ∙ c.requires.other,
  c.other.invariant.1,
  c.requires.word,
  joins c.args.shared.now.key.total c.args.shared.now.key.seats _ _ _ _,
)

pub returns-clause-lists : goal.returns-clause-lists
returns-clause-lists c f =
    weigh_joined f _ c.other.inside.seat.me.0 _ c.args.other.drawn (ap (λ (m : List (List ℕ) × List (ℕ × Unit {0})). m.0) c.join_seat.ensures.2)
    (c.other.invariant.0.one ∙ ap (λ (d : TicketSeat). d.drawn ∷ []) c.other.view_is)
