use Rattle.raft_report.proofs.Common.{◌≡◌, ◌++◌, drop, map, string_bytes, items_of, compact_text, items_text, count, list_of}
use Rattle.raft_report.proofs.json.append_numbers.Given as goal

-- the numbers so far and those that are left make up the list
abbrev pub invariant-loop-number : goal.invariant-loop-number
invariant-loop-number l =
    string_bytes l.text ++ items_text l.later (items_of (map count (drop l.number-index l.numbers))) ≡ string_bytes l.fn.text ++ compact_text (list_of (map count l.numbers))
