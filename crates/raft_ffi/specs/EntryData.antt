-- Entries as plain data.
use Rattle.std.specs.Prelude.{Bool, true, false, Option, Some, None}
use Rattle.raft_base.specs.declared.compression_type.CompressionType.TheVariants as compressions
use Rattle.raft_base.specs.declared.entry_index.EntryIndex.{EntryIndex}
use Rattle.raft_base.specs.declared.pipe_log.FileBlockHandle.{FileBlockHandle}
use Rattle.raft_ffi.specs.Calls.{queue_of}
use Rattle.raft_ffi.specs.declared.entries.Entry.{Entry}

-- the place of an entry block, if the flag says that there is one
abbrev pub place_of : Bool → FileBlockHandle → Option FileBlockHandle
place_of false place = None
place_of true place = Some place

-- the entry that the numbers say
abbrev pub entry_of : Entry → EntryIndex
entry_of e = record {
  index = e.index;
  entries = place_of e.is_placed (record { id = record { queue = queue_of e.is_rewrite; seq = e.seq }; offset = e.offset; len = e.len });
  compression_type = compressions.None;
  entry_offset = e.entry_offset;
  entry_len = e.entry_len;
}

-- the entry that the numbers say, if the flag says that there is one
abbrev pub entry_found : Bool → Entry → Option EntryIndex
entry_found false e = None
entry_found true e = Some (entry_of e)
