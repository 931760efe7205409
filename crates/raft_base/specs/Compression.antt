-- How the entry bytes of a batch are compressed.
use Rattle.std.specs.Prelude.{◌≢◌, ℕ, ◌++◌, codes}
use Rattle.std.specs.Fmt.{decimal}
use Rattle.raft_base.specs.declared.compression_type.CompressionType.{CompressionType}
use Rattle.raft_base.specs.declared.compression_type.CompressionType.TheVariants as compressions
use Rattle.raft_base.specs.declared.errors.Error.{Error}
use Rattle.raft_base.specs.Corruption.{IsCorruption}

-- the byte that stands for a compression type
abbrev pub compression_byte : CompressionType → ℕ
compression_byte compressions.None = 0

-- a byte that stands for no compression type
abbrev pub IsCompressionFault : ℕ → Error → Type 0
IsCompressionFault byte e = (byte ≢ 0) × IsCorruption (codes "Unrecognized compression type: " ++ decimal byte) e
