-- A seat as its table, the total and the numbers that it drew.
use Rattle.std.specs.Prelude.{◌≡◌, []}
use Rattle.raft_tickets.specs.declared.ticket_seat.TicketSeat.TheInside.{Inside}
use Rattle.raft_tickets.specs.Drawing.{IsDrawer, only}
use Rattle.raft_tickets.specs.Draws.{TicketSeat}

-- the seat as its callers see it
abbrev pub ticket_seat_in : Inside → TicketSeat
ticket_seat_in s = record { table = s.seat.table_id; total = s.total; drawn = only s.seat.me.0 }

-- what the seat drew rises, up to its end, and it holds no slot
abbrev pub DrawsOnward : Inside → Type 0
DrawsOnward s = IsDrawer s.total s.ended s.seat.me.0 × (s.seat.me.1 ≡ [])
