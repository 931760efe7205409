use Rattle.raft_tickets.proofs.Common.{ℕ, ◌≡◌, ◌+◌, List, [], drop, drop-drop, take, length, replicate, sym, ap, ◌∙◌, arith, length_push, All-push, TicketSeat}
use Rattle.raft_tickets.proofs.DrawingLemmas.{nothing, splits, first_left, last_left}
use Rattle.raft_tickets.proofs.tickets.split_seats.Goals as goal

pub split_seat-seat-requires : goal.split_seat-seat-requires
split_seat-seat-requires c =
    (c.loop.invariant.table, c.requires.word, splits c.args.shared.now.key.total c.args.shared.now.key.seats c.loop.root.id c.loop.root.me.0)

pub new_seat-requires : goal.new_seat-requires
new_seat-requires c =
    let first = first_left c.args.count (length c.loop.seats.items) (omega arith) in
    let lists = ap (λ (m : List (List ℕ) × List (ℕ × Unit {0})). take 1 m.0) c.loop.invariant.lists in
    c.split_seat-seat.ensures.4 ∙ ap (λ (l : List (List ℕ)). (l, [])) (lists ∙ first)

pub loop-preserved : goal.loop-preserved
loop-preserved c =
    let items = c.in_ok-push.ensures.items in
    let more : length c.push.new.self.items ≡ length c.loop.seats.items + 1 = rw items (length_push c.loop.seats.items c.new_seat.result) in
    record {
      table = c.split_seat-seat.ensures.0 ∙ c.loop.invariant.table;
      lists =
          let lists = ap (λ (m : List (List ℕ) × List (ℕ × Unit {0})). (drop 1 m.0, m.1)) c.loop.invariant.lists in
          let fewer = drop-drop 1 (length c.loop.seats.items) (replicate c.args.count nothing) in
          let same = ap (λ (k : ℕ). drop k (replicate c.args.count nothing)) (sym more) in
          c.split_seat-seat.ensures.2 ∙ lists ∙ ap (λ (l : List (List ℕ)). (l, [])) (fewer ∙ same);
      made = let m = c.loop.invariant.made in omega arith;
      new = rw items (All-push (λ (d : TicketSeat). (d.table ≡ c.args.shared.now.table_id) × (d.total ≡ c.args.total) × (d.drawn ≡ []))
          c.loop.seats.items c.new_seat.result c.loop.invariant.new
          (c.new_seat.ensures.0 ∙ c.split_seat-seat.ensures.3 ∙ c.loop.invariant.table, c.new_seat.ensures.1, c.new_seat.ensures.2));
    }

pub new_seat-requires-2 : goal.new_seat-requires-2
new_seat-requires-2 c =
    let last = last_left c.args.count (length c.loop.seats.items) (omega arith) in
    c.loop.invariant.lists ∙ ap (λ (l : List (List ℕ)). (l, [])) last
