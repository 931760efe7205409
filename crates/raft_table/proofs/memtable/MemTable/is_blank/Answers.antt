use Rattle.raft_table.proofs.Facts.{◌≡◌, ◌∙◌, sym, subst, MatchBool, Table, empty_table, table_shown, blank}
use Rattle.raft_table.proofs.memtable.MemTable.is_blank.Goals as goal

pub returns-in-0-None : goal.returns-in-0-None
returns-in-0-None c = subst (λ (t : Table). MatchBool c.is_empty.result (t ≡ empty_table t.region_id) (Unit {0})) c.self.view_is
    (blank (table_shown c.self.inside) c.is_empty.result (sym c.end.ensures ∙ c.in-0-None.is-0) c.is_empty.ensures c.in-0-None.is-1)
