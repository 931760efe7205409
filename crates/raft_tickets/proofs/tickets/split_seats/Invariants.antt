use Rattle.std.proofs.Common.{◌≡◌, ◌+◌, [], All, replicate, drop, length}
use Rattle.raft_tickets.proofs.tickets.split_seats.Given as goal

abbrev pub invariant-loop : goal.invariant-loop
invariant-loop l = record {
  table : l.root.table_id ≡ l.fn.shared.table_id;
  lists : l.root.me ≡ (drop (length l.seats.items) (replicate l.count []), []);
  made : length l.seats.items + 1 ≡ l.counter;
  new : All (λ s. (s.table ≡ l.fn.shared.table_id) × (s.total ≡ l.fn.total) × (s.drawn ≡ [])) l.seats.items;
}
