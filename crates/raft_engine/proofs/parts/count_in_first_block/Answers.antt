use Rattle.raft_engine.proofs.Common.{rules, ◌<◌, length, refl, false≢true}
use Rattle.raft_engine.proofs.PartLengths.{block_ends, first_is, no_block, none_first, one_of_block, whole_block}
use Rattle.raft_engine.proofs.parts.count_in_first_block.Goals as goal

pub returns-in_default : goal.returns-in_default
returns-in_default c = no_block c.args.entries.now (none_first c.args.entries.now c.in_default.ensures.value)

pub returns-then-not-is_in_block : goal.returns-then-not-is_in_block
returns-then-not-is_in_block c =
    let less : c.loop-entry.entry-index < length c.args.entries.now = search rules in
    block_ends c.args.entries.now c.loop-entry.entry-index c.loop-entry.len c.in-Some.first.now.entries _ less c.loop-entry.invariant (λ e. false≢true (c.if-not-is_in_block.ensures.1 e))
    (first_is c.args.entries.now _ c.in-Some.first.now c.in-Some.ensures.value)

pub loop-entry-preserved : goal.loop-entry-preserved
loop-entry-preserved c =
    let less : c.loop-entry.entry-index < length c.args.entries.now = search rules in
    one_of_block c.args.entries.now c.loop-entry.entry-index c.loop-entry.len c.in-Some.first.now.entries _ less c.loop-entry.invariant (c.if-not-is_in_block.ensures.0 refl)

pub returns : goal.returns
returns c = whole_block c.args.entries.now c.loop-entry.entry-index c.loop-entry.len c.in-Some.first.now.entries (search rules) (search rules) c.loop-entry.invariant
