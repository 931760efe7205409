use Rattle.raft_report.proofs.Common.{◌≡◌, ◌++◌, map, string_bytes, drop, flat_map, table_json}
use Rattle.raft_report.proofs.json_tables.append_json_tables.Given as goal

-- the lines so far and those of the tables that are left make up the whole
abbrev pub invariant-loop-table : goal.invariant-loop-table
invariant-loop-table l =
    string_bytes l.text ++ flat_map table_json (map (λ t. t.now) (drop l.table-index l.tables)) ≡ string_bytes l.fn.text ++ flat_map table_json (map (λ t. t.now) l.tables)
