-- An entry that stands nowhere.
use Rattle.std.specs.Prelude.{None}
use Rattle.raft_base.specs.declared.compression_type.CompressionType.TheVariants as compressions
use Rattle.raft_base.specs.declared.entry_index.EntryIndex.{EntryIndex}

-- index 0, without bytes and without a place
abbrev pub no_entry : EntryIndex
no_entry = record { index = 0; entries = None; compression_type = compressions.None; entry_offset = 0; entry_len = 0 }
