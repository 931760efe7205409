use Rattle.raft_records.proofs.Common.{◌≡◌, ◌++◌, map, string_bytes, drop, flat_map, item_of, line_of}
use Rattle.raft_records.proofs.print.append_lines.Given as goal

-- the lines so far and those of the items that are left make up the whole
abbrev pub invariant-loop-item : goal.invariant-loop-item
invariant-loop-item l =
    string_bytes l.text ++ flat_map line_of (map item_of (drop l.item-index l.items)) ≡ string_bytes l.fn.text ++ flat_map line_of (map item_of l.items)
