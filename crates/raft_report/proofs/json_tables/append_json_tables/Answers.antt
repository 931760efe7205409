use Rattle.raft_report.proofs.Common.{◌≡◌, ◌+◌, ◌∷◌, ◌++◌, ◌∙◌, ℕ, List, ap, append_assoc, drop, drop_more, flat_map, map, string_bytes, sym, table_json}
use Rattle.raft_report.proofs.json_tables.append_json_tables.Goals as goal

pub loop-table-preserved : goal.loop-table-preserved
loop-table-preserved c =
    let tables = c.args.tables.now in
    let next = drop (c.loop-table.table-index + 1) tables in
    let before = string_bytes c.loop-table.text in
    let rest = flat_map table_json (map (λ t. t.now) next) in
    let left : drop c.loop-table.table-index tables ≡ c.table-item.result ∷ next = drop_more tables c.loop-table.table-index c.table-item.result c.loop-table-test.true ∙ ap (λ s. s ∷ next) (sym c.table-item.is) in
    ap (λ (t : List ℕ). t ++ rest) c.in_ok-append_table_without_pairs.ensures
    ∙ append_assoc before (table_json c.table-item.result.now) rest
    ∙ ap (λ (l : List _). before ++ flat_map table_json (map (λ t. t.now) l)) (sym left)
    ∙ c.loop-table.invariant
