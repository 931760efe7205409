use Rattle.raft_engine.proofs.Common.{◌≡◌, ◌∙◌, length, List, subst, sym, nil_from_length, Part, AreWholeFiles}
use Rattle.raft_engine.proofs.FoundQueueLemmas.{last_whole, no_files, no_part}
use Rattle.raft_engine.proofs.found_queue.last_file_part.Goals as goal

pub returns-in_err-last : goal.returns-in_err-last
returns-in_err-last c = λ queue version files whole.
    rw c.from_residual.ensures (no_files queue version files c.args.segments.now (nil_from_length c.args.segments.now c.in_err-last.ensures.cases) whole)

pub returns-in_err-part : goal.returns-in_err-part
returns-in_err-part c = λ queue version files whole.
    absurd (no_part queue version c.in_ok-last.last.now (nil_from_length _ (subst (λ (l : List Part). length l ≡ 0) c.deref.ensures.value c.in_err-part.ensures.cases)) c.in_ok-last.field-0-1.now files
    (subst (AreWholeFiles queue version files) c.in_ok-last.ensures.cases.0 whole))

pub returns : goal.returns
returns c = λ queue version files whole.
    last_whole queue version c.in_ok-part.field-0-1.now c.in_ok-part.part.now c.in_ok-last.last.now (sym c.deref.ensures.value ∙ c.in_ok-part.ensures.cases.0) c.in_ok-last.field-0-1.now files
    (subst (AreWholeFiles queue version files) c.in_ok-last.ensures.cases.0 whole)
