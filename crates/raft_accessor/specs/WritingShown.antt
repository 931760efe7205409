-- How items are written in the code, as what it is.
use Rattle.raft_accessor.specs.declared.item_writes.Writing as code
use Rattle.raft_accessor.specs.declared.item_writes.Writing.TheVariants as writings
use Rattle.raft_accessor.specs.Writes.{Writing, Appending, Replaying, Rewriting}

-- a way of writing by its cases
abbrev pub writing_shown : code.Writing → Writing
writing_shown writings.Appending = Appending
writing_shown (writings.Replaying queue) = Replaying queue
writing_shown (writings.Rewriting gate seq) = Rewriting gate seq
