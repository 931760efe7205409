use Rattle.raft_table.proofs.Facts.{arith, shown_len, within_of, part_of, kept_facts}
use Rattle.raft_table.proofs.memtable.entries.Entries.push_range_into.Goals as goal

pub spot_at_position-spot-requires-clause-within : goal.spot_at_position-spot-requires-clause-within
spot_at_position-spot-requires-clause-within c = within_of c.self.invariant.0 c.args.start (let l = shown_len c.self.invariant.0 c.self.view_is in let h = c.requires.within in let o = c.requires.order in omega arith)

pub push_entries-requires-clause-part : goal.push_entries-requires-clause-part
push_entries-requires-clause-part c = part_of c.self.invariant.0 c.spot_at_position-spot.ensures c.requires.order (let l = shown_len c.self.invariant.0 c.self.view_is in let h = c.requires.within in omega arith)

pub push_entries-requires-clause-bounded : goal.push_entries-requires-clause-bounded
push_entries-requires-clause-bounded c = let l = shown_len c.self.invariant.0 c.self.view_is in let h = c.requires.within in let b = (kept_facts c.self.invariant.0).bounded (omega arith) in omega arith
