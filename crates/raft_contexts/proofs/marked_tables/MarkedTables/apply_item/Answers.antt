use Rattle.raft_contexts.proofs.Common.{Ok, sym, ap, subst, ◌∙◌, option_map, region_step_shown, AreStepsOfQueue, AreStepsTaken}
use Rattle.raft_contexts.proofs.TakenLemmas.{taken_none}
use Rattle.raft_contexts.proofs.WaitingItemLemmas.{step_of, no_step_of}
use Rattle.raft_contexts.proofs.marked_tables.MarkedTables.apply_item.Goals as goal

pub apply_step-requires : goal.apply_step-requires
apply_step-requires c = (subst (AreStepsOfQueue c.args.queue) (step_of c.args.item _ (ap (option_map region_step_shown) (sym c.in-Some.is) ∙ c.of_item.ensures)) c.requires).0

pub returns-in-Some : goal.returns-in-Some
returns-in-Some c = subst (λ l. AreStepsTaken c.args.queue l c.apply_step.result c.args.self.now c.apply_step.new.self)
    (sym (step_of c.args.item _ (ap (option_map region_step_shown) (sym c.in-Some.is) ∙ c.of_item.ensures))) c.apply_step.ensures

pub returns-in-None : goal.returns-in-None
returns-in-None c = subst (λ l. AreStepsTaken c.args.queue l (Ok tt) c.args.self.now c.args.self.now)
    (sym (no_step_of c.args.item (ap (option_map region_step_shown) (sym c.in-None.is) ∙ c.of_item.ensures)))
    (taken_none c.args.queue c.args.self.now)
