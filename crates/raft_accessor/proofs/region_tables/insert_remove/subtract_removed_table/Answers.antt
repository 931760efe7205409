use Rattle.raft_accessor.proofs.Common.{sym, ap, ◌∙◌, arith, table_of, with_table_deleted, live_of_empty}
use Rattle.raft_accessor.proofs.LiveLemmas.{none_deleted}
use Rattle.raft_accessor.proofs.region_tables.insert_remove.subtract_removed_table.Goals as goal

pub returns-in_default-clause-counts : goal.returns-in_default-clause-counts
returns-in_default-clause-counts c = sym (none_deleted c.args.id c.args.stats.now) ∙ ap (λ o. with_table_deleted (table_of c.args.id o) c.args.stats.now) (sym c.in_default.is)

pub returns-in_default-clause-live : goal.returns-in_default-clause-live
returns-in_default-clause-live c = λ q. rw c.in_default.is (omega (arith, live_of_empty q c.args.id))
