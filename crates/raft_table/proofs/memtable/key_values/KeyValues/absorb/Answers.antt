use Rattle.raft_table.proofs.Facts.{arith, sym, ap, ◌∙◌, pairs_over, with_pairs, whole_keys, pairs_over-empty, len-first, pair_count-first, one_more_put}
use Rattle.raft_table.proofs.memtable.key_values.KeyValues.absorb.Goals as goal

pub loop-key-smaller : goal.loop-key-smaller
loop-key-smaller c = len-first c.loop-key.rhs c.take_first.new.self _ c.in-Some.ensures.first

pub loop-key-preserved : goal.loop-key-preserved
loop-key-preserved c =
    let first = c.in-Some.ensures.first in (
      ap (pairs_over c.take_first.new.self) c.in_ok-insert.ensures.ok ∙ sym (ap (with_pairs c.loop-key.self) first) ∙ c.loop-key.invariant.0,
      λ q. omega (arith, c.loop-key.invariant.1 q, c.in_ok-insert.ensures.counts q, pair_count-first q c.loop-key.rhs c.take_first.new.self _ _ first),
      one_more_put _ _ c.loop-key.self c.loop-key.rhs c.insert.new.self c.take_first.new.self _ c.loop-key.invariant.2 first c.in_ok-insert.ensures.ok,
    )

pub returns-clause-ok : goal.returns-clause-ok
returns-clause-ok c = sym (pairs_over-empty c.loop-key.rhs c.loop-key.self c.in_default.ensures.none) ∙ c.loop-key.invariant.0

pub returns-then-is_empty-clause-ok : goal.returns-then-is_empty-clause-ok
returns-then-is_empty-clause-ok c = c.swap.ensures.x_after ∙ sym (ap (pairs_over c.args.rhs.now) (c.is_empty.ensures.0 c.if-is_empty.true) ∙ whole_keys c.args.rhs.now)
