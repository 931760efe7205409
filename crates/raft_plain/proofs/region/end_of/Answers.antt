use Rattle.raft_plain.proofs.Common.{no_entry, slice_index_or, ◌<◌, ◌∙◌, sym, length, arith, drop_of_length-le, drop_more}
use Rattle.raft_plain.proofs.StepLemmas.{end_next, end_last}
use Rattle.raft_plain.proofs.region.end_of.Goals as goal

pub loop-entry-preserved : goal.loop-entry-preserved
loop-entry-preserved c =
    let inside : c.loop-entry.entry-index < length c.args.entries.now = let t = c.loop-entry-test.true in omega arith in
    end_next c.loop-entry.end _ c.max-end.result (slice_index_or c.args.entries.now c.loop-entry.entry-index no_entry) _ _ (let m = c.max-end.ensures in omega (arith, m))
    (drop_more c.args.entries.now c.loop-entry.entry-index no_entry inside) c.loop-entry.invariant

pub returns : goal.returns
returns c = sym (end_last c.loop-entry.end _ (drop_of_length-le c.args.entries.now c.loop-entry-test.false)) ∙ c.loop-entry.invariant
