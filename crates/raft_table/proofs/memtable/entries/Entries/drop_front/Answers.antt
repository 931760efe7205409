use Rattle.raft_table.proofs.Facts.{◌+◌, arith, refl, ap, ◌∙◌, drop_all, blocks_shown, entries_in_blocks, starts_of, kept_with, shown_len, within_of, starts_length, starts_dropped, kept_facts, kept_drop, spot_inside}
use Rattle.raft_table.proofs.memtable.entries.Entries.drop_front.Goals as goal

pub returns-then-count-self : goal.returns-then-count-self
returns-then-count-self c = let l = (kept_facts c.self.invariant.0).length in rw (← c.self.view_is, drop_all c.args.count (entries_in_blocks c.self.inside.first (blocks_shown c.self.inside.blocks.items)) (omega arith)) c.clear.ensures

pub overflow_add-index : goal.overflow_add-index
overflow_add-index c = let f = (kept_facts c.self.invariant.0) in let l = f.length in let h = rw (← c.self.view_is) at c.requires in let b = f.bounded (omega arith) in omega arith

pub spot_at_position-nth-requires-clause-within : goal.spot_at_position-nth-requires-clause-within
spot_at_position-nth-requires-clause-within c = within_of c.self.invariant.0 c.args.count (let l = shown_len c.self.invariant.0 c.self.view_is in let h = c.requires in omega arith)

pub drop_front_blocks-requires-clause-dropped : goal.drop_front_blocks-requires-clause-dropped
drop_front_blocks-requires-clause-dropped c d = let w = spot_inside c.self.inside.blocks.items c.spot_at_position-nth.ensures d in omega arith

pub drop_front_starts-requires : goal.drop_front_starts-requires
drop_front_starts-requires c d =
    let n = starts_length c.self.inside.first (blocks_shown c.self.inside.blocks.items) c.self.inside.starts.items c.self.invariant.1 d in
    omega arith

pub overflow_sub-self : goal.overflow_sub-self
overflow_sub-self c = let l = (kept_facts c.self.invariant.0).length in let h = rw (← c.self.view_is) at c.requires in omega arith

pub invariant_of-self : goal.invariant_of-self
invariant_of-self c =
    let a = c.spot_at_position-nth.ensures in
    let k = (kept_drop c.self.inside.first c.self.inside.len c.args.count c.spot_at_position-nth.result.0 c.spot_at_position-nth.result.1
    (blocks_shown c.self.inside.blocks.items) (starts_of c.self.inside.first (blocks_shown c.self.inside.blocks.items))
    c.self.inside.rewritten c.self.invariant.0 a).0 in
    rw (c.drop_front_blocks.ensures, c.min.ensures) (
      kept_with k refl,
      starts_dropped c.self.inside.first (c.self.inside.first + c.args.count) c.spot_at_position-nth.result.0 (blocks_shown c.self.inside.blocks.items) _
          c.self.inside.starts.items c.drop_front_starts.new.starts.items c.self.invariant.1 a.block c.drop_front_starts.ensures.none c.drop_front_starts.ensures.some k.starts,
    )

pub returns : goal.returns
returns c =
    rw (← c.self.view_is)
    (ap (entries_in_blocks (c.self.inside.first + c.args.count)) c.drop_front_blocks.ensures
    ∙ (kept_drop c.self.inside.first c.self.inside.len c.args.count c.spot_at_position-nth.result.0 c.spot_at_position-nth.result.1
    (blocks_shown c.self.inside.blocks.items) (starts_of c.self.inside.first (blocks_shown c.self.inside.blocks.items)) c.self.inside.rewritten
    c.self.invariant.0 c.spot_at_position-nth.ensures).1)
