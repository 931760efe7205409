use Rattle.raft_tail.proofs.Common.{ap, drop, ◌∙◌}
use Rattle.raft_tail.proofs.SearchLemmas.{headless_unsound, never, short_unsound}
use Rattle.raft_tail.proofs.sound.has_sound_batch_at.Goals as goal
use Rattle.raft_tail.proofs.sound.has_sound_batch_at.Goals.{in_default-via-in-Some+else-len-rest, in_default-via-in_default}

pub returns-in_default-clause-ok : goal.returns-in_default-clause-ok
returns-in_default-clause-ok c =
    let rest = c.split_at.ensures.back ∙ ap (drop c.args.at) c.bytes.ensures in
    elim c.in_default.branch [
      | in_default-via-in-Some+else-len-rest w ↦ never (short_unsound c.args.part.now c.args.at c.split_at.result.1.now w.in-Some.field-0-0 w.in-Some.len rest w.in-Some.ensures.some w.if-len-rest.false)
      | in_default-via-in_default w ↦ never (headless_unsound c.args.part.now c.args.at c.split_at.result.1.now rest (rw w.in_default.is at c.read_header.ensures.none))
    ]
