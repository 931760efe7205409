use Rattle.raft_opening.proofs.Common.{◌∙◌, [], ap, FileId}
use Rattle.raft_opening.proofs.OnceLemmas.{alone_read}
use Rattle.raft_opening.proofs.last_file.read_last.Goals as goal

pub returns : goal.returns
returns g c =
    let laws = g.met.M.ReplayMachine g.world.𝓛 g.world.𝓜 g.world.𝓡 ((λ s x. x), (λ x. x), (λ x. x), λ x. x) in
    let machine = c.in_ok-machine.machine in
    let begun = c.requires machine c.in_ok-machine.ensures.ok in
    let file = c.new-file.ensures ∙ ap (λ (id : FileId). record { id = id; version = c.args.version }) c.new.ensures in
    alone_read (g.S.ReadFiles.gives c.args.source.now) c.args.mode c.args.queue c.args.version g.M.ReplayMachine.stands_for g.M.ReplayMachine.stands_exactly c.args.last _ machine c.replay_last.new.machine c.in_ok-read.read file
    (laws.exact_stands machine [] begun) begun c.in_ok-read.ensures
