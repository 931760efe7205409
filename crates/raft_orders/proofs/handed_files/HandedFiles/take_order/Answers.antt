use Rattle.std.proofs.Common.{subst, IfSome, IfNone, None, ◌≡◌}
use Rattle.raft_orders.specs.Handed.{Handed}
use Rattle.raft_orders.specs.Orders.{IsOrder, next_to_do}
use Rattle.raft_orders.proofs.WaitingLemmas.{is_order, no_order, wait_still}
use Rattle.raft_orders.proofs.handed_files.HandedFiles.take_order.Goals as goal

pub invariant_of-self : goal.invariant_of-self
invariant_of-self c = wait_still c.self.inside.asked.asks c.self.inside.waiting c.take_oldest.new.self c.self.invariant c.take_oldest.ensures.count c.take_oldest.result c.take_oldest.ensures.order c.take_oldest.ensures.none c.take_oldest.ensures.same

pub returns-clause-some : goal.returns-clause-some
returns-clause-some c =
    subst (λ (f : Handed). IfSome c.take_oldest.result (IsOrder f.asks f.taken)) c.self.view_is
    (is_order c.self.inside.asked.asks c.self.inside.waiting c.take_oldest.new.self c.self.invariant c.take_oldest.ensures.count c.take_oldest.result c.take_oldest.ensures.number c.take_oldest.ensures.order)

pub returns-clause-none : goal.returns-clause-none
returns-clause-none c =
    subst (λ (f : Handed). IfNone c.take_oldest.result (next_to_do f.asks f.taken ≡ None)) c.self.view_is
    (no_order c.self.inside.asked.asks c.self.inside.waiting c.take_oldest.new.self c.self.invariant c.take_oldest.ensures.count c.take_oldest.result c.take_oldest.ensures.none)
