use Rattle.raft_engine.proofs.DamagedLemmas.{both_joined, ends_behind}
use Rattle.raft_engine.proofs.damaged.+fn-gather_at_once-back+fn-gather_at_once-front+gather_at_once.Goals as goal

pub overflow_sub-end : goal.overflow_sub-end
overflow_sub-end g t c = ends_behind c.args.file.now c.args.from c.args.end c.requires

pub returns-clause-ok : goal.returns-clause-ok
returns-clause-ok g t c =
    let r = c.in_ok-middle.ensures.ok in
    let first = rw c.in_ok-damaged.was at c.join-first.ensures.first in
    let second = rw c.in_ok-behind.was at c.join-first.ensures.second in
    both_joined c.args.file.now c.args.from c.in_ok-middle.middle c.args.end c.in_ok-damaged.damaged.items c.in_ok-behind.behind.items _ r.0 r.1 first.0 second.0 c.in_ok-append.ensures.items
