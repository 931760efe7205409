use Rattle.raft_accessor.proofs.Common.{sym, ap, subst, ◌∙◌, option_map, err_from_is_err_and, item_of, content_of, live, step_shown, region_step_shown, IsStepTaken, Replaying}
use Rattle.std.specs.FinMap as finite
use Rattle.raft_accessor.proofs.UpdateLemmas.{by_step, without_step, step_is, no_step_is}
use Rattle.raft_accessor.proofs.WriteLemmas.{refused_by}
use Rattle.raft_accessor.proofs.region_tables.RegionTables.replay_item.Goals as goal

pub returns-in_err-check_replayed_item : goal.returns-in_err-check_replayed_item
returns-in_err-check_replayed_item c =
    let p = err_from_is_err_and c.from_residual.result c.from_residual.ensures.1 in
    rw (p.1, p.2) (refused_by (Replaying c.args.queue) (item_of c.args.item) c.args.self.now c.args.stats.now c.args.cleaned.now.items _
    (c.in_err-check_replayed_item.ensures.fault c.args.item.raft_group_id (finite.get c.args.self.now c.args.item.raft_group_id)
    (live c.args.queue c.args.stats.now)))

pub returns-in-Some : goal.returns-in-Some
returns-in-Some c =
    let k = step_is (item_of c.args.item) _ (ap (option_map region_step_shown) (sym c.in-Some.is) ∙ c.of_item.ensures) in
    by_step c.args.queue (item_of c.args.item) (step_shown c.in-Some.step.step) c.args.self.now c.args.stats.now c.args.cleaned.now.items
    c.take_step.result c.take_step.new.self c.take_step.new.stats c.take_step.new.cleaned.items c.in_ok-check_replayed_item.ensures.ok k.0
    (subst (λ id. IsStepTaken c.args.queue id (step_shown c.in-Some.step.step) c.args.self.now c.args.stats.now c.args.cleaned.now.items
    c.take_step.result c.take_step.new.self c.take_step.new.stats c.take_step.new.cleaned.items) k.1 c.take_step.ensures)

pub returns-in-None : goal.returns-in-None
returns-in-None c =
    without_step c.args.queue c.args.item.raft_group_id (content_of c.args.item.content) c.args.self.now c.args.stats.now c.args.cleaned.now.items
    c.in_ok-check_replayed_item.ensures.ok
    (no_step_is (item_of c.args.item) (ap (option_map region_step_shown) (sym c.in-None.is) ∙ c.of_item.ensures))
