use Rattle.raft_replay.proofs.Common.{or_passed}
use Rattle.raft_replay.proofs.MergeLemmas.{front_refused, back_refused, merge_refused, both_merged}
use Rattle.raft_replay.proofs.pieces.merge_branch_results.Goals as goal

pub returns-in_err-older : goal.returns-in_err-older
returns-in_err-older g c xs ys zs is first second =
    let refused = rw c.in_err-older.was at first in
    or_passed _ _ _ c.from_residual.ensures.1
    (λ not_memory. front_refused g.M.ReplayMachine.stands_for g.M.ReplayMachine.stands_exactly xs ys zs is c.args.queue (refused not_memory))

pub returns-in_err-newer : goal.returns-in_err-newer
returns-in_err-newer g c xs ys zs is first second =
    let refused = rw c.in_err-newer.was at second in
    or_passed _ _ _ c.from_residual-in_err-newer.ensures.1
    (λ not_memory. back_refused g.M.ReplayMachine.stands_for g.M.ReplayMachine.stands_exactly xs ys zs is c.args.queue (refused not_memory))

pub returns-in_err-merge : goal.returns-in_err-merge
returns-in_err-merge g c xs ys zs is first second =
    let older = rw c.in_ok-older.was at first in
    let newer = rw c.in_ok-newer.was at second in
    or_passed _ _ _ c.from_residual-in_err-merge.ensures.1
    (λ not_memory. merge_refused g.M.ReplayMachine.stands_for g.M.ReplayMachine.stands_exactly xs ys zs is c.in_ok-older.older c.in_ok-newer.newer older newer
    c.args.queue (c.in_err-merge.ensures.refused not_memory))

pub returns : goal.returns
returns g c xs ys zs is first second =
    let older = rw c.in_ok-older.was at first in
    let newer = rw c.in_ok-newer.was at second in
    both_merged g.M.ReplayMachine.stands_for g.M.ReplayMachine.stands_exactly xs ys zs is c.in_ok-older.older c.in_ok-newer.newer older newer c.merge.new.self
    c.in_ok-merge.ensures.stands c.in_ok-merge.ensures.exact
