use Rattle.raft_report.proofs.Common.{◌≡◌, ◌++◌, string_bytes, drop, uses_json}
use Rattle.raft_report.proofs.json_tables.append_json_uses.Given as goal

-- the lines so far and those of the files that are left make up the whole
abbrev pub invariant-loop-size : goal.invariant-loop-size
invariant-loop-size l = string_bytes l.text ++ uses_json l.queue l.uses (drop l.size-index l.sizes) ≡ string_bytes l.fn.text ++ uses_json l.queue l.uses l.sizes
