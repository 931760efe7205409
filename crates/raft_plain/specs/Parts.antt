-- Parts of a queue's files.
use Rattle.std.specs.Prelude.{◌≡◌, List, All}
use Rattle.raft_base.specs.declared.pipe_log.LogQueue.{LogQueue}
use Rattle.raft_records.specs.FilePart.{Part}

-- all parts are of the queue
abbrev pub ArePartsOf : LogQueue → List Part → Type 0
ArePartsOf queue parts = All (λ part. part.id.queue ≡ queue) parts
