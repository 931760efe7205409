use Rattle.raft_table.proofs.Facts.{arith, ap, ◌∙◌, spliced, spliced_round}
use Rattle.raft_table.proofs.memtable.entries.block_deques.splice.Goals as goal

pub returns-then-has_room-clause-items : goal.returns-then-has_room-clause-items
returns-then-has_room-clause-items g d =
    spliced d.args.kept d.args.rest _ d.args.deque.now.items d.args.more.now.items d.rotate_left.new.self.items d.truncate.new.self.items d.append_within_capacity.new.deque.items d.rotate_left-then-has_room.new.self.items
    d.requires.order (omega arith) (omega arith) d.rotate_left.ensures.items d.truncate.ensures.items d.append_within_capacity.ensures.items d.rotate_left-then-has_room.ensures.items

pub returns-clause-items : goal.returns-clause-items
returns-clause-items g d =
    ap (λ q. q.items) d.swap.ensures.x_after
    ∙ spliced_round d.args.kept d.args.rest _ _ d.args.deque.now.items d.args.more.now.items d.rotate_left.new.self.items d.truncate.new.self.items d.append_within_capacity-2.new.deque.items d.rotate_right.new.self.items
    d.requires.order (omega arith) (omega arith) (omega arith) d.rotate_left.ensures.items d.truncate.ensures.items d.append_within_capacity-2.ensures.items d.rotate_right.ensures.items
