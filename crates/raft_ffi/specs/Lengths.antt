-- How long the batch is whose header stands in front.
use Rattle.std.specs.Prelude.{ℕ, List}
use Rattle.raft_base.specs.declared.compression_type.CompressionType.{CompressionType}
use Rattle.raft_codec.specs.Reading.{Reads}
use Rattle.raft_records.specs.Header.{IsHeader}

-- a header that stands in front says this length
pub record HasLength (bytes : List ℕ) (len : ℕ) : Type 0 where
  pub offset : ℕ
  pub compression : CompressionType
  pub rest : List ℕ
  pub header : Reads IsHeader bytes rest (offset, compression, len)
