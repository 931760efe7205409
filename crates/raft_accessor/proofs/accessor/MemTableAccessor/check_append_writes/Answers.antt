use Rattle.raft_accessor.proofs.Common.{map, err_from_is_err_and, item_of, known_extents}
use Rattle.raft_accessor.proofs.AppendCheckLemmas.{check_begins, check_next, check_refused, check_done, fault_refused}
use Rattle.raft_accessor.proofs.accessor.MemTableAccessor.check_append_writes.Goals as goal

pub loop-item-init : goal.loop-item-init
loop-item-init c = check_begins (known_extents c.new-check.result.extents) c.args.self.now.tables (map item_of c.args.items.now) c.new-check.ensures

pub returns-in_err-check_next_item-clause-refused : goal.returns-in_err-check_next_item-clause-refused
returns-in_err-check_next_item-clause-refused c =
    let p = err_from_is_err_and c.from_residual.result c.from_residual.ensures.1 in
    rw (p.1, p.2) (fault_refused c.args.self.now.tables (map item_of c.args.items.now) _
    (check_refused (known_extents c.loop-item.check.extents) c.args.self.now.tables c.args.items.now c.loop-item.item-index c.loop-item.invariant c.item-item.result _
    c.loop-item-test.true c.item-item.is c.get.ensures.value _ c.in_err-check_next_item.ensures.fault))

pub returns-in_err-check_next_item-clause-fault : goal.returns-in_err-check_next_item-clause-fault
returns-in_err-check_next_item-clause-fault c =
    let p = err_from_is_err_and c.from_residual.result c.from_residual.ensures.1 in
    rw (p.1, p.2) (check_refused (known_extents c.loop-item.check.extents) c.args.self.now.tables c.args.items.now c.loop-item.item-index c.loop-item.invariant
    c.item-item.result _ c.loop-item-test.true c.item-item.is c.get.ensures.value _ c.in_err-check_next_item.ensures.fault)

pub loop-item-preserved : goal.loop-item-preserved
loop-item-preserved c = check_next (known_extents c.loop-item.check.extents) c.args.self.now.tables c.args.items.now c.loop-item.item-index c.loop-item.invariant
    c.item-item.result _ c.loop-item-test.true c.item-item.is c.get.ensures.value _ c.in_ok-check_next_item.ensures.ok

pub returns-clause-ok : goal.returns-clause-ok
returns-clause-ok c = check_done (known_extents c.loop-item.check.extents) c.args.self.now.tables c.args.items.now c.loop-item.item-index c.loop-item.invariant c.loop-item-test.false
