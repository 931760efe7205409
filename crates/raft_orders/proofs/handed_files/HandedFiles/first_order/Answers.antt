use Rattle.std.proofs.Common.{◌∙◌, sym, ap, option_map}
use Rattle.raft_orders.specs.Orders.{ask_of, next_to_do}
use Rattle.raft_orders.proofs.WaitingLemmas.{first_waits, option_map_twice}
use Rattle.raft_orders.proofs.handed_files.HandedFiles.first_order.Goals as goal

pub returns : goal.returns
returns c =
    sym (option_map_twice (λ o. o.now) ask_of c.first.result) ∙ ap (λ o. option_map ask_of o) c.first.ensures ∙ first_waits c.self.inside.asked.asks c.self.inside.waiting c.self.invariant
    ∙ ap (λ f. next_to_do f.asks f.taken) c.self.view_is
