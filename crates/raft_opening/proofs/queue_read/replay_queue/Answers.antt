use Rattle.raft_opening.proofs.Common.{[], nil_from_length}
use Rattle.raft_opening.proofs.OnceLemmas.{first_read, torn_read, whole_read}
use Rattle.raft_opening.proofs.queue_read.replay_queue.Goals as goal

pub returns-in_default : goal.returns-in_default
returns-in_default g c =
    let laws = g.met.M.ReplayMachine g.world.𝓛 g.world.𝓜 g.world.𝓡 ((λ s x. x), (λ x. x), (λ x. x), λ x. x) in
    let machine = c.in_ok-machine.machine in
    let begun = c.requires.factory machine c.in_ok-machine.ensures.ok in
    let none = rw c.in_default.is at c.split_last.ensures.cases in
    first_read (g.S.ReadFiles.gives c.args.source.now) c.args.mode c.args.queue c.args.version g.M.ReplayMachine.stands_for g.M.ReplayMachine.stands_exactly c.args.sizes.now machine c.new-damaged.result (nil_from_length c.args.sizes.now none) c.new-damaged.ensures.items (laws.exact_stands machine [] begun) begun

pub returns-in-None : goal.returns-in-None
returns-in-None g c =
    let split = (rw c.in-Some.is at c.split_last.ensures.cases).0 in
    whole_read (g.S.ReadFiles.gives c.args.source.now) c.args.mode c.args.queue c.args.version g.M.ReplayMachine.stands_for g.M.ReplayMachine.stands_exactly c.args.sizes.now _ _ split c.in_ok-read.read c.in-None.is c.in_ok-read.ensures

pub returns-in-Some-tail : goal.returns-in-Some-tail
returns-in-Some-tail g c =
    let split = (rw c.in-Some.is at c.split_last.ensures.cases).0 in
    torn_read (g.S.ReadFiles.gives c.args.source.now) c.args.mode c.args.queue c.args.version g.M.ReplayMachine.stands_for g.M.ReplayMachine.stands_exactly c.args.sizes.now _ _ split c.in_ok-read.read c.in-Some-tail.tail c.in-Some-tail.is c.in_ok-read.ensures
