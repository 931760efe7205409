use Rattle.std.proofs.Common.{refl}
use Rattle.raft_base.proofs.ConsecutiveLemmas.{no_entries, with_first}
use Rattle.raft_base.proofs.entry_index.is_consecutive.Goals as goal

pub returns-in-None : goal.returns-in-None
returns-in-None c =
    let none = no_entries c.args.entries.now c.in-None.ensures.value in
    (λ t. none, λ k. refl)

pub loop-entry-init : goal.loop-entry-init
loop-entry-init c = with_first c.args.entries.now c.in-Some.first.now c.in-Some.ensures.item.3.0 c.in-Some.ensures.item.1
