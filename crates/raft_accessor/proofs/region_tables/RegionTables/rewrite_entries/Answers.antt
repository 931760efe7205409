use Rattle.raft_accessor.proofs.Common.{Rewrite, subst, inl, entries, entries_item, IsRunIn, Rewriting}
use Rattle.std.specs.FinMap as finite
use Rattle.raft_accessor.proofs.WriteLemmas.{refused_by, no_outcome}
use Rattle.raft_accessor.proofs.region_tables.RegionTables.rewrite_entries.Goals as goal

pub returns-then-not-is_run : goal.returns-then-not-is_run
returns-then-not-is_run c = λ list.
    refused_by (Rewriting c.args.gate c.args.seq) (entries_item c.args.id c.args.run.items) c.args.self.now c.args.stats.now list c.corruption.result
    (no_outcome (Rewriting c.args.gate c.args.seq) c.args.id (finite.get c.args.self.now c.args.id) _ (entries c.args.run.items) _
    c.corruption.result c.corruption.ensures (inl (subst (λ es. IsRunIn Rewrite es → ⊥) c.deref.ensures.value c.if-not-is_run.ensures)))
