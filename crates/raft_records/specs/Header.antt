-- Headers of log batches, and entry blocks, as they are read.
use Rattle.std.specs.Prelude.{◌≡◌, ℕ, ◌/◌, ◌%◌, ◌^◌, ◌<◌, ◌≤◌, ◌⊎◌, List, [], ◌++◌, length, take, codes, None}
use Rattle.std.specs.Fmt.{decimal}
use Rattle.byteorder.specs.Endian.{big_bytes}
use Rattle.raft_base.specs.declared.errors.Error.{Error}
use Rattle.raft_base.specs.declared.compression_type.CompressionType.{CompressionType}
use Rattle.raft_base.specs.Corruption.{IsCorruption}
use Rattle.raft_base.specs.Compression.{IsCompressionFault}
use Rattle.raft_records.specs.Faults.{IsMemory, IsAnyCorruption}
use Rattle.raft_records.specs.ItemBatch.{HasSeal, IsSealFault}
use Rattle.raft_records.specs.LogBatch.{header_bytes}

-- a header's bytes: the offset of the item batch, the compression of the entries, and the length of the batch
pub record IsHeader (bytes : List ℕ) (header : ℕ × CompressionType × ℕ) : Type 0 where
  pub written : bytes ≡ header_bytes header.0 header.1 header.2
  pub length_fits : header.2 < 2 ^ 56
  pub behind_header : 16 ≤ header.0
  pub inside : header.0 ≤ header.2

-- an item batch that would begin past the end, or inside the header
abbrev pub IsOffsetFault : ℕ → ℕ → Error → Type 0
IsOffsetFault len offset e =
    ((len < offset) × IsCorruption (codes "Log item offset exceeds log batch length") e)
    ⊎ ((offset ≤ len) × (offset < 16) × IsCorruption (codes "Log item offset is smaller than log batch header length") e)

-- two numbers of eight bytes that make no header: first the compression type is looked at, then the offset
pub record IsHeaderNumbersFault (bytes : List ℕ) (e : Error) : Type 0 where
  pub first : ℕ
  pub second : ℕ
  pub rest : List ℕ
  pub first_fits : first < 2 ^ 64
  pub second_fits : second < 2 ^ 64
  pub split : bytes ≡ big_bytes 8 first ++ (big_bytes 8 second ++ rest)
  pub fault : IsCompressionFault (first % 256) e ⊎ ((first % 256 ≡ 0) × IsOffsetFault (first / 256) second e)

-- why no header stands in front
abbrev pub IsHeaderFault : List ℕ → Error → Type 0
IsHeaderFault bytes e =
    ((length bytes < 16) × IsCorruption (codes "Log batch header too short: " ++ decimal (length bytes)) e) ⊎ IsHeaderNumbersFault bytes e

-- the entry bytes that an entry block of this length, in front of the bytes, holds; one of length 0 holds none
abbrev pub IsEntryBlockOf : ℕ → List ℕ → List ℕ → Type 0
IsEntryBlockOf len bytes entry_bytes =
    ((len ≡ 0) × (entry_bytes ≡ [])) ⊎ ((0 < len) × (len ≤ length bytes) × HasSeal None (take len bytes) entry_bytes)

-- the bytes are shorter than the entry block, or it doesn't end in its checksum
abbrev pub IsLentBlockFault : ℕ → List ℕ → Error → Type 0
IsLentBlockFault len bytes e =
    ((length bytes < len) × IsAnyCorruption e) ⊎ ((0 < len) × (len ≤ length bytes) × IsSealFault None (take len bytes) e)

-- the same, or there is no memory for its entry bytes
abbrev pub IsEntryBlockFault : ℕ → List ℕ → Error → Type 0
IsEntryBlockFault len bytes e = IsMemory e ⊎ IsLentBlockFault len bytes e
