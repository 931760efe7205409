-- A part of a file as its bytes and where they stand.
use Rattle.std.specs.Prelude.{◌+◌, ◌^◌, ◌<◌, length}
use Rattle.raft_records.specs.declared.file_part.FilePart.TheInside.{Inside}
use Rattle.raft_records.specs.FilePart.{Part}

-- the part: what is kept of it, and its bytes
abbrev pub part_in : Inside → Part
part_in p = record { id = p.id; version = p.version; offset = p.offset; bytes = p.bytes }

-- a part's bytes end at the last offset at most
abbrev pub EndsWithin : Inside → Type 0
EndsWithin p = p.offset + length p.bytes < 2 ^ 64
