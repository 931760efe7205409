use Rattle.raft_table.proofs.Facts.{arith, shown_len, within_of, part_of}
use Rattle.raft_table.proofs.memtable.entries.Entries.count_within_limit.Goals as goal

pub spot_at_position-spot-requires-clause-within : goal.spot_at_position-spot-requires-clause-within
spot_at_position-spot-requires-clause-within c = within_of c.self.invariant.0 c.args.start (let l = shown_len c.self.invariant.0 c.self.view_is in let h = c.requires.within in let o = c.requires.order in omega arith)

pub count_within_limit_from-requires : goal.count_within_limit_from-requires
count_within_limit_from-requires c = part_of c.self.invariant.0 c.spot_at_position-spot.ensures c.requires.order (let l = shown_len c.self.invariant.0 c.self.view_is in let h = c.requires.within in omega arith)

pub returns : goal.returns
returns c = rw (← c.self.view_is, c.in-Some.is) (c.count_within_limit_from.ensures c.self.inside.first)
