use Rattle.std.proofs.Common.{Bor, List, [], ◌∷◌, ◌++◌, map, take, ap, subst, sym, ◌∙◌}
use Rattle.std.proofs.lemmas.List.{map_more}
use Rattle.raft_table.specs.declared.memtable.MemTable.{MemTable}
use Rattle.raft_contexts.proofs.TakenAwayLemmas.{AreTablesTold, one_table_more}
use Rattle.raft_contexts.proofs.marked_tables.MarkedTables.taken_away.Goals as goal

pub loop-table-preserved : goal.loop-table-preserved
loop-table-preserved c =
    let before : List MemTable = map (λ (t : Bor MemTable). t.now) (take c.loop-table.table-index c.deref-table-items.result.now) in
    subst (λ (l : List MemTable). AreTablesTold c.args.self.now l c.add_taken_from_table.new.taken)
    (sym (map_more (λ (t : Bor MemTable). t.now) c.deref-table-items.result.now c.loop-table.table-index c.table-item.result c.loop-table-test.true
    ∙ ap (λ (t : Bor MemTable). before ++ t.now ∷ []) (sym c.table-item.is)))
    (one_table_more c.args.self.now before c.table-item.result.now c.loop-table.taken c.add_taken_from_table.new.taken c.loop-table.invariant c.in_ok-add_taken_from_table.ensures.ok)
