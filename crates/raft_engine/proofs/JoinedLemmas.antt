-- Of files of which no rewritten entries stay in front of those that are found nothing is told at once.
use Rattle.raft_engine.proofs.Common.{◌≡◌, List, [], Version, Batch, steps_of_items, steps_on, Accessor, NumberedBytes, nothing_told, BatchesJoin, AreRecovered}

pub joined_told : (version : Version) (append rewrite : List NumberedBytes) (accessor : Accessor) (told untold : Batch) (g : AreRecovered version append rewrite accessor told untold)
    → BatchesJoin g.appended g.rewritten → told.items ≡ []
joined_told version append rewrite accessor told untold g join =
    nothing_told g.appended g.rewritten accessor.tables accessor.cleaned g.append_sound g.rewrite_sound g.reading (join accessor.tables accessor.cleaned g.reading) told.items g.told_steps
    (λ r. steps_on r (steps_of_items untold.items)) g.tells
