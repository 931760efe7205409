-- Tickets as their table, the total and the number of seats.
use Rattle.std.specs.Prelude.{◌≡◌, ◌<◌}
use Rattle.raft_tickets.specs.declared.tickets.Tickets.TheInside.{Inside}
use Rattle.raft_tickets.specs.Draws.{Tickets}

-- the tickets as their callers see them
abbrev pub tickets_in : Inside → Tickets
tickets_in t = record { table = t.table.shared.table_id; total = t.total; seats = t.table.shared.key.seats }

-- one word and no slot, under the total that is kept, for some seats
abbrev pub IsOpen : Inside → Type 0
IsOpen t =
    (t.table.shared.table_id.words ≡ 1) × (t.table.shared.table_id.slots ≡ 0)
    × (t.table.shared.key.total ≡ t.total) × (0 < t.table.shared.key.seats)
