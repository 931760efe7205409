use Rattle.raft_tail.proofs.Common.{◌<◌, arith, no_count, no_first_index, no_run, no_tails}
use Rattle.raft_tail.proofs.PassingLemmas.{option_as, run_passes}
use Rattle.raft_tail.proofs.items.skip_entry_indexes.Goals as goal

pub returns-in_err-count : goal.returns-in_err-count
returns-in_err-count c = rw c.from_residual.ensures (no_count c.args.start c.args.bytes.now c.in_err-count.ensures)

pub returns-in_err-first : goal.returns-in_err-first
returns-in_err-first c =
    let some : 0 < c.in_ok-count.count = omega (arith, c.if-count-eq0.false) in
    rw c.from_residual-in_err-first.ensures (no_run c.args.start c.in_ok-count.count c.args.bytes.now c.in_ok-count.behind.now c.in_ok-count.ensures
    (no_first_index c.args.start c.in_ok-count.count c.in_ok-count.behind.now some c.in_err-first.ensures))

pub returns : goal.returns
returns c =
    let some : 0 < c.in_ok-count.count = omega (arith, c.if-count-eq0.false) in
    option_as c.skip_tail_offsets.result
    (λ none. no_run c.args.start c.in_ok-count.count c.args.bytes.now c.in_ok-count.behind.now c.in_ok-count.ensures
    (no_tails c.args.start c.in_ok-count.count c.in_ok-first.first c.in_ok-count.behind.now c.in_ok-first.tails.now some c.in_ok-first.ensures none))
    (λ x t. run_passes some c.in_ok-count.ensures c.in_ok-first.ensures t) c.skip_tail_offsets.ensures
