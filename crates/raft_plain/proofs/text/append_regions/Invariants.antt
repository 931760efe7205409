use Rattle.raft_plain.proofs.Common.{◌≡◌, ◌++◌, map, flat_map, string_bytes, table_line, all_tables, table_shown}
use Rattle.raft_plain.proofs.text.append_regions.Given as goal

abbrev pub invariant-loop-id : goal.invariant-loop-id
invariant-loop-id l = string_bytes l.text ++ flat_map table_line (map (λ e. table_shown e.0 e.1) l.id-iterator) ≡ string_bytes l.fn.text ++ flat_map table_line (all_tables l.regions)
