use Rattle.raft_survey.proofs.Common.{◌≡◌, ◌++◌, None, map, string_bytes, drop, missing_text}
use Rattle.raft_survey.proofs.report.append_missing_files.Given as goal

-- the lines so far and those of the files that are left make up the whole
abbrev pub invariant-loop-size : goal.invariant-loop-size
invariant-loop-size l =
    string_bytes l.text ++ missing_text l.queue l.last (map (λ size. size.seq) (drop l.size-index l.sizes)) ≡ string_bytes l.fn.text ++ missing_text l.queue None (map (λ size. size.seq) l.sizes)
