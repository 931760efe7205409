use Rattle.raft_records.proofs.Common.{refl, command_item}
use Rattle.raft_records.proofs.StageLemmas.{item_held, item_view}
use Rattle.raft_records.proofs.log_batch.LogBatch.add_command.Goals as goal

pub invariant_of-self : goal.invariant_of-self
invariant_of-self c =
    item_held c.add_command.result (command_item c.args.region c.args.command) (λ s. refl) c.self.view_is c.requires c.self.invariant c.add_command.ensures.ok c.add_command.ensures.err

pub returns-clause-ok : goal.returns-clause-ok
returns-clause-ok c =
    item_view c.add_command.new.self c.self.inside.buf.items c.add_command.result (command_item c.args.region c.args.command) (λ s. refl) c.self.view_is c.add_command.ensures.ok
