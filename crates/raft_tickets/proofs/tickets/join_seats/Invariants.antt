use Rattle.raft_tickets.proofs.Common.{◌≡◌, ℕ, ◌+◌, List, All, vec_len, weigh}
use Rattle.raft_tickets.proofs.tickets.join_seats.Given as goal

abbrev pub invariant-loop-other : goal.invariant-loop-other
invariant-loop-other l = record {
  table : l.seat.table_id ≡ l.initial.seat.table_id;
  held : l.seat.me.1 ≡ l.initial.seat.me.1;
  tables : All (λ s. s.table ≡ l.fn.shared.table_id) l.seats.items;
  lists : (f : List ℕ → ℕ) →
      weigh f l.seat.me.0 + weigh (λ s. f s.drawn) l.seats.items ≡ weigh f l.initial.seat.me.0 + weigh (λ s. f s.drawn) l.initial.seats.items;
}

abbrev pub decreases-loop-other : goal.decreases-loop-other
decreases-loop-other l = vec_len l.seats
