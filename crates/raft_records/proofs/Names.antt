-- Names for proofs of what definitions say in place.
use Rattle.std.specs.Prelude.{ℕ, ◌+◌, ◌-◌, Option}
use Rattle.raft_base.specs.Signature.{signature_in}
use Rattle.raft_base.specs.declared.pipe_log.FileBlockHandle.{FileBlockHandle}
use Rattle.raft_records.specs.FilePart.{Part}

-- the signature of the part's file
abbrev pub part_signature : Part → Option ℕ
part_signature part = signature_in part.version part.id.seq

-- where so many bytes after the header of a batch lie in the file
abbrev pub place_between : Part → ℕ → ℕ → FileBlockHandle
place_between part at len = record { id = part.id; offset = part.offset + at + 16; len = len }

-- where the bytes between the header and the item batch lie in the file
abbrev pub entries_place : Part → ℕ → ℕ → FileBlockHandle
entries_place part at offset = record { id = part.id; offset = part.offset + at + 16; len = offset - 16 }
