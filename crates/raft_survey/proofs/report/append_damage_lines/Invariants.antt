use Rattle.raft_survey.proofs.Common.{◌≡◌, ◌++◌, string_bytes, drop, flat_map, damage_line}
use Rattle.raft_survey.proofs.report.append_damage_lines.Given as goal

-- the lines so far and those of the places that are left make up the whole
abbrev pub invariant-loop-damage : goal.invariant-loop-damage
invariant-loop-damage l =
    string_bytes l.text ++ flat_map (damage_line l.queue l.seq l.len) (drop l.damage-index l.damages) ≡ string_bytes l.fn.text ++ flat_map (damage_line l.queue l.seq l.len) l.damages
