-- What is replayed into a machine.
use Rattle.std.specs.Prelude.{List}
use Rattle.raft_base.specs.declared.pipe_log.FileId.{FileId}
use Rattle.raft_records.specs.Item.{Item}
use Rattle.raft_history.specs.Batches.{Event}

-- a batch of items, and the file that it was written to
abbrev pub event : List Item → FileId → Event
event items file = record { items = items; file = file }
