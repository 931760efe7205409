use Rattle.raft_table.proofs.Facts.{suc, ◌≡◌, ◌+◌, ◌<◌, ltb, true, get_or, arith, sym, ap, ◌∙◌, get_or_default, nat_tests, at_start, index_some}
use Rattle.raft_table.proofs.memtable.entries.block_deques.find_spot.Goals.{then-guess-last, else-guess-last}
use Rattle.raft_table.proofs.memtable.entries.block_deques.find_spot.Goals as goal

pub overflow_sub-last : goal.overflow_sub-last
overflow_sub-last c = let s = index_some c.args.starts.now.items c.args.index c.requires in omega (arith, c.args.starts.now.ok)

pub index-low-requires : goal.index-low-requires
index-low-requires c = let s = index_some c.args.starts.now.items c.args.index c.requires in omega (arith, c.args.starts.now.ok)

pub returns-then-index : goal.returns-then-index
returns-then-index c i bs e lo hi =
    let ss = c.args.starts.now.items in
    let g = c.min-guess.result in
    let s = index_some ss c.args.index c.requires in
    at_start c.args.index i g c.index-low.result.now bs ss e lo hi (omega (arith, c.args.starts.now.ok)) c.index-low.ensures c.if-low-index.true
    (λ d l. elim c.if-guess-last.branch [
      | then-guess-last w ↦ let t = w.if-guess-last.true in absurd (omega (arith, c.args.starts.now.ok))
      | else-guess-last w ↦
          let high = w.index.result.now in
          let r : get_or ss (suc g) d ≡ high = get_or_default ss (suc g) d high l ∙ ap (λ k. get_or ss k high) (let z : suc g ≡ g + 1 = omega arith in z) ∙ sym w.index.ensures in
          let t : ltb c.args.index high ≡ true = sym w.value-is ∙ c.if-index.true in
          let u : c.args.index < high = grind (arith, nat_tests) in
          omega arith
    ])
