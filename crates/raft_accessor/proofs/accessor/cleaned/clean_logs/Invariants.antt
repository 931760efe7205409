use Rattle.raft_accessor.proofs.Common.{◌≡◌, ◌++◌, [], map, drop, command_item, is_open}
use Rattle.raft_records.specs.declared.command.Command.TheVariants.{Clean}
use Rattle.raft_accessor.proofs.accessor.cleaned.clean_logs.Given as goal

abbrev pub invariant-loop-id : goal.invariant-loop-id
invariant-loop-id l = (l.logs.items ++ map (λ id. command_item id Clean) (drop l.id-index l.ids) ≡ map (λ id. command_item id Clean) l.ids) × (l.logs.stage ≡ is_open) × (l.logs.entry_bytes ≡ [])
