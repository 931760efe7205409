use Rattle.raft_accessor.proofs.Common.{Rewrite, refl, inr, command, command_item, live, Rewriting}
use Rattle.std.specs.FinMap as finite
use Rattle.raft_records.specs.declared.command.Command.TheVariants as commands
use Rattle.raft_accessor.proofs.WriteLemmas.{refused_by, skipped_by, no_outcome}
use Rattle.raft_accessor.proofs.region_tables.RegionTables.rewrite_command.Goals as goal

pub returns-in-Clean : goal.returns-in-Clean
returns-in-Clean c = λ gate seq counts list. rw c.in-Clean.is (skipped_by (Rewriting gate seq) (command_item c.args.id commands.Clean) c.args.self.now counts list tt (λ m. m) refl refl refl)

pub returns-in-Compact : goal.returns-in-Compact
returns-in-Compact c = λ gate seq counts list. rw c.in-Compact.is
    (refused_by (Rewriting gate seq) (command_item c.args.id _) c.args.self.now counts list _
    (no_outcome (Rewriting gate seq) c.args.id (finite.get c.args.self.now c.args.id) (live Rewrite counts)
    (command (commands.Compact c.in-Compact.index)) _ _ c.corruption.ensures (inr refl)))

pub returns-in-Truncate : goal.returns-in-Truncate
returns-in-Truncate c = λ gate seq counts list. rw c.in-Truncate.is
    (refused_by (Rewriting gate seq) (command_item c.args.id _) c.args.self.now counts list _
    (no_outcome (Rewriting gate seq) c.args.id (finite.get c.args.self.now c.args.id) (live Rewrite counts)
    (command (commands.Truncate c.in-Truncate.index)) _ _ c.corruption-in-Truncate.ensures (inr refl)))
