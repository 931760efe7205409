use Rattle.raft_contexts.proofs.Common.{◌++◌, List, map, ap, ◌∙◌, map-append, region_step_shown, RegionStep}
use Rattle.raft_contexts.proofs.waiting_items.WaitingItems.append.Goals as goal

pub returns : goal.returns
returns c = ap (map region_step_shown) c.in_ok-append.ensures.items ∙ map-append region_step_shown c.self.inside.steps.items c.more.inside.steps.items
    ∙ ap (λ (l : List RegionStep). l ++ map region_step_shown c.more.inside.steps.items) c.self.view_is ∙ ap (λ (l : List RegionStep). c.args.self.now ++ l) c.more.view_is
