-- What the contracts and the proofs of this crate import of std, of the crates below and of the definitions, in one place.
pub use Rattle.std.specs.Slots.{slots_items}
pub use Rattle.atomic_table.specs.Table.{Allows, Joins, Me, Splits, State, keeps}
pub use Rattle.raft_tickets.specs.Drawing.{Continues, HasDrawn, IsDrawer, IsDrawn, lists_in, occurrences_in, only, times_passed, times_passed_in}
pub use Rattle.raft_tickets.specs.Draws.{AreAbove, AreBelow, Rises, TicketSeat, Tickets, once_below}
pub use Rattle.raft_tickets.specs.Weights.{occurrences, weigh}
