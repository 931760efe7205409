-- As what a `QueueReader` is seen.
use Rattle.raft_ffi.specs.Readers.{ReaderSeen}
use Rattle.raft_ffi.specs.declared.queue_reader.QueueReader.TheInside.{Inside}

-- what was read, and what was found
abbrev pub reader_seen : Inside → ReaderSeen
reader_seen reader = record { read = reader.both; damaged = reader.damaged.items }
