use Rattle.raft_table.proofs.Facts.{◌+◌, ◌-◌, arith, refl, ap, ◌∙◌, blocks_shown, entries_in_blocks, kept_with, shown_len, within_of, starts_taken, kept_front}
use Rattle.raft_table.proofs.memtable.entries.Entries.keep_front.Goals as goal

pub spot_at_position-nth-requires-clause-within : goal.spot_at_position-nth-requires-clause-within
spot_at_position-nth-requires-clause-within c = within_of c.self.invariant.0 (c.args.count - 1) (let l = shown_len c.self.invariant.0 c.self.view_is in let h = c.requires in omega arith)

pub invariant_of-self : goal.invariant_of-self
invariant_of-self c =
    let a = c.spot_at_position-nth.ensures in
    let k = (kept_front c.self.inside.first c.args.count c.spot_at_position-nth.result.0 c.spot_at_position-nth.result.1 (blocks_shown c.self.inside.blocks.items) c.self.invariant.0 (omega arith) a).0 in
    rw (c.keep_front_blocks.ensures, c.min-self-inside.ensures) (
      kept_with k refl,
      starts_taken c.self.inside.first (c.spot_at_position-nth.result.0 + 1) (blocks_shown c.self.inside.blocks.items) _
          c.self.inside.starts.items c.truncate.new.self.items c.self.invariant.1 c.truncate.ensures.items k.starts,
    )

pub returns : goal.returns
returns c =
    rw (← c.self.view_is)
    (ap (entries_in_blocks c.self.inside.first) c.keep_front_blocks.ensures
    ∙ (kept_front c.self.inside.first c.args.count c.spot_at_position-nth.result.0 c.spot_at_position-nth.result.1 (blocks_shown c.self.inside.blocks.items)
    c.self.invariant.0 (omega arith) c.spot_at_position-nth.ensures).1)
