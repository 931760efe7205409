use Rattle.raft_report.proofs.Common.{◌≡◌, ◌++◌, drop, map, string_bytes, items_of, compact_text, items_text, list_of, damage_data}
use Rattle.raft_report.proofs.json_files.append_damage_list.Given as goal

-- the places so far and those that are left make up the list
abbrev pub invariant-loop-damage : goal.invariant-loop-damage
invariant-loop-damage l =
    string_bytes l.text ++ items_text l.later (items_of (map damage_data (drop l.damage-index l.damages))) ≡ string_bytes l.fn.text ++ compact_text (list_of (map damage_data l.damages))
