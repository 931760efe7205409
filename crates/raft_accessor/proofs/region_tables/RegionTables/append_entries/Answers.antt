use Rattle.raft_accessor.proofs.Common.{OnOk, Ok, Err, Append, refl, subst, inl, entries, entries_item, IsRunIn, after_append, table_in, Appending}
use Rattle.std.specs.FinMap as finite
use Rattle.raft_accessor.proofs.WriteLemmas.{written_by, refused_by, no_outcome, append_fault, none_listed}
use Rattle.raft_accessor.proofs.region_tables.RegionTables.append_entries.Goals as goal

pub returns-then-not-is_run : goal.returns-then-not-is_run
returns-then-not-is_run c = λ list.
    refused_by Appending (entries_item c.args.id c.args.run.items) c.args.self.now c.args.stats.now list c.corruption.result
    (no_outcome Appending c.args.id (finite.get c.args.self.now c.args.id) _ (entries c.args.run.items) _ c.corruption.result c.corruption.ensures
    (inl (subst (λ es. IsRunIn Append es → ⊥) c.deref.ensures.value c.if-not-is_run.ensures)))

pub returns : goal.returns
returns c = λ list.
    written_by Appending (entries_item c.args.id c.args.run.items) (after_append (table_in c.args.self.now c.args.id) c.args.run.items) _
    c.args.self.now c.args.stats.now list c.append_run.result c.append_run.new.self c.append_run.new.stats c.append_run.ensures.outcome
    (subst (IsRunIn Append) c.deref.ensures.value c.if-not-is_run.ensures) (elim c.append_run.result as (λ r. OnOk r (⊥ → ⊥)) [ Ok x ↦ λ m. m | Err e ↦ tt ]) c.append_run.ensures.counts
    (none_listed Appending (entries_item c.args.id c.args.run.items) refl) refl (λ e f. append_fault c.args.id (finite.get c.args.self.now c.args.id) c.args.run.items c.args.stats.now e f)
