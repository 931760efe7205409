-- What proofs of this crate import of std, of the definitions and of the crates below, in one place.
pub use Rattle.std.proofs.Common.{All, List, [], ap, arith, drop, drop-drop, length, replicate, set, subst, suc, sym, take, vec_len, zero, ℕ, ◌++◌, ◌+◌, ◌∙◌, ◌∷◌, ◌≡◌, ◌≤◌}
pub use Rattle.std.proofs.lemmas.Bool.Decides.{nat_tests}
pub use Rattle.std.proofs.lemmas.List.{drop-replicate, get_or_append_left, length_push}
pub use Rattle.std.proofs.lemmas.List.Elements.{All-push}
pub use Rattle.raft_tickets.specs.Common.{Allows, AreAbove, AreBelow, Continues, HasDrawn, IsDrawer, IsDrawn, Joins, Me, Rises, Splits, State, TicketSeat, Tickets, keeps, lists_in, occurrences, occurrences_in, once_below, only, slots_items}
pub use Rattle.raft_tickets.specs.Common.{times_passed, times_passed_in, weigh}
