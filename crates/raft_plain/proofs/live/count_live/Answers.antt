use Rattle.raft_plain.proofs.Common.{ap, ◌∙◌, length, arith, entry_count}
use Rattle.raft_plain.proofs.LiveLemmas.{live_regions, live-regions}
use Rattle.raft_plain.proofs.live.count_live.Goals as goal

pub returns : goal.returns
returns c =
    let q = c.args.queue in
    let all = c.into_iter-region-iterator.ensures.into_iter_gives ∙ c.values-region-items.ensures.rest in
    omega (arith, c.loop-region.invariant.counted, ap (live_regions q) c.in-None.ensures.steps.0, ap (live_regions q) all, live-regions q c.args.regions.now.entries c.values-region-items.ensures.ordered)

pub loop-region-preserved : goal.loop-region-preserved
loop-region-preserved c =
    let q = c.args.queue in
    let step = c.in-Some.ensures.steps in
    let entries = c.count_entries.ensures ∙ ap (entry_count q) c.as_slice.ensures.value in
    let keys = c.count_keys.ensures in
    let left = ap (live_regions q) step in
    record {
      counted = omega (arith, c.loop-region.invariant.counted, entries, keys, left);
      bounded = omega (arith, c.loop-region.invariant.bounded, ap length step, c.count_entries.type_inv, c.count_keys.type_inv);
    }
