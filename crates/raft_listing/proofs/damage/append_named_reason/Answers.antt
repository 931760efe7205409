use Rattle.raft_listing.proofs.Common.{sym, ◌∙◌, append_assoc, append-nil, IsUtf8-past_char}
use Rattle.raft_listing.proofs.ShownLemmas.{none_in_line, one_in_line}
use Rattle.raft_listing.proofs.damage.append_named_reason.Goals as goal

pub loop-letter-preserved : goal.loop-letter-preserved
loop-letter-preserved c =
    let held = c.loop-letter.invariant in
    let parts = c.in-Some.ensures.steps.0 in
    let step = one_in_line _ _ c.in-Some.letter held.0 parts in
    (IsUtf8-past_char _ _ c.in-Some.letter held.0 parts, rw (c.in_ok-push.ensures.bytes, c.replace_line_break.ensures, append_assoc) (rw step at held.1))

pub returns : goal.returns
returns c = sym (append-nil _) ∙ rw (none_in_line _ c.in-None.ensures.steps.0.0) at c.loop-letter.invariant.1
