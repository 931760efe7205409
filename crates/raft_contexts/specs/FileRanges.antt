-- The files of batches that were read, as plain values.
use Rattle.std.specs.Prelude.{Option}
use Rattle.std.specs.Option.{option_map}
use Rattle.raft_history.specs.Contexts as contexts
use Rattle.raft_contexts.specs.declared.file_range.FileRange.{FileRange}

-- the queue, the first and the last file
abbrev pub range_shown : FileRange → contexts.FileRange
range_shown f = record { queue = f.queue; first_seq = f.first_seq; last_seq = f.last_seq }

-- the files that were read, if any, as a plain value
abbrev pub ranges_shown : Option FileRange → Option contexts.FileRange
ranges_shown f = option_map range_shown f
