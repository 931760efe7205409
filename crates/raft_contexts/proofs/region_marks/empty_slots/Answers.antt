use Rattle.raft_contexts.proofs.Common.{[], ◌∷◌, ◌++◌, replicate, ap, ◌∙◌, replicate_more}
use Rattle.std.specs.FinMap as finite
use Rattle.raft_contexts.proofs.region_marks.empty_slots.Goals as goal

pub loop-preserved : goal.loop-preserved
loop-preserved c =
    c.in_ok-push.ensures.items ∙ ap (λ l. l ++ c.new.result ∷ []) c.loop.invariant ∙ ap (λ m. replicate c.loop.counter finite.empty ++ m ∷ []) c.new.ensures
    ∙ replicate_more c.loop.counter finite.empty
