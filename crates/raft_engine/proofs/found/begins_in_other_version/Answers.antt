use Rattle.raft_engine.proofs.Common.{ap, ◌∙◌, FileId, Version, other_version}
use Rattle.raft_engine.proofs.FoundLemmas.{other_none}
use Rattle.raft_engine.proofs.found.begins_in_other_version.Goals as goal

pub returns-in_ok-unless_memory-in-Err-clause-ok : goal.returns-in_ok-unless_memory-in-Err-clause-ok
returns-in_ok-unless_memory-in-Err-clause-ok c =
    let is = c.new-context.ensures ∙ ap (λ (id : FileId). record { id = id; version = c.version_other_than.result }) c.id.ensures
    ∙ ap (λ (v : Version). record { id = c.args.file.now.id; version = v }) (c.version_other_than.ensures ∙ ap other_version c.version.ensures) in
    (λ e. absurd cc, λ b. absurd (other_none c.args.file.now c.new-context.result c.bytes.result.now is c.bytes.ensures (c.in-Err.ensures.refused c.in_ok-unless_memory-in-Err.ensures.ok) b))
