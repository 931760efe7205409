use Rattle.raft_table.proofs.Facts.{◌≡◌, ◌+◌, ◌-◌, ◌++◌, length, map, take, drop, arith, ap, ◌∙◌, Some, length-drop, length-take-le, EntryIndex, entries_of_block, without_span, unset_more}
use Rattle.raft_table.proofs.memtable.entries.block_walks.push_block_without_spans.Goals as goal

pub loop-index-preserved : goal.loop-index-preserved
loop-index-preserved c =
    let spans = c.args.block.now.spans.items in
    let ss = take c.args.count (drop c.args.at spans) in
    let h = c.args.block.now.handle in
    let i = c.loop-index.index in
    let k = i - c.args.first in
    let n : length ss ≡ c.args.count = length-take-le c.args.count (drop c.args.at spans) (omega (arith, length-drop c.args.at spans)) in
    let v = c.loop-index.invariant.1 in (
      ap (λ es. es ++ map without_span (entries_of_block (i + 1) h (drop (i + 1 - c.args.first) ss))) c.push_reserved.ensures.items
          ∙ unset_more i (i + 1) k (i + 1 - c.args.first) h ss c.loop-index.vec.items _ (ap (λ (d : EntryIndex). record d { index = i; entries = Some h }) c.default.ensures) (omega arith) (omega arith) (omega arith)
          ∙ c.loop-index.invariant.0,
      (let l = c.push_reserved.ensures.len in omega arith),
      c.push_reserved.ensures.capacity ∙ c.loop-index.invariant.2,
    )
