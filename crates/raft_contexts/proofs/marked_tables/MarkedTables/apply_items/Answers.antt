use Rattle.raft_contexts.proofs.Common.{refl, sym, subst, items_in_queue, steps_of_items, AreStepsOfQueue, AreStepsTaken}
use Rattle.raft_contexts.proofs.TakenLemmas.{other_in}
use Rattle.raft_contexts.proofs.marked_tables.MarkedTables.apply_items.Goals as goal

pub apply_each_item-requires : goal.apply_each_item-requires
apply_each_item-requires c = subst (λ l. AreStepsOfQueue c.args.file.queue (steps_of_items l)) (sym c.into_items.ensures) (items_in_queue c.args.file.queue c.args.file c.args.items refl c.requires)

taken : (c : goal.After-apply_each_item) → AreStepsTaken c.args.file.queue (steps_of_items c.args.items) c.apply_each_item.result c.args.self.now c.apply_each_item.new.self
taken c = subst (λ l. AreStepsTaken c.args.file.queue (steps_of_items l) c.apply_each_item.result c.args.self.now c.apply_each_item.new.self) c.into_items.ensures c.apply_each_item.ensures

pub returns-clause-fault : goal.returns-clause-fault
returns-clause-fault c = (taken c).fault

pub returns-clause-counts : goal.returns-clause-counts
returns-clause-counts c = (taken c).counts

pub returns-clause-other : goal.returns-clause-other
returns-clause-other c = other_in c.args.file.queue (steps_of_items c.args.items) c.args.self.now c.apply_each_item.new.self c.apply_each_item.result (items_in_queue c.args.file.queue c.args.file c.args.items refl c.requires) (taken c).ok
