use Rattle.std.proofs.Common.{refl}
use Rattle.std.specs.Int.{w32, w64}
use Rattle.raft_codec.proofs.FixedLemmas.{IsReadAgain-big_bytes, IsReadAgain-little_bytes, IsReadAgain-u64_desc_bytes, IsReadAgain-i64_bytes, IsReadAgain-i64_desc_bytes, IsReadAgain-signed_le_bytes}
use Rattle.raft_codec.proofs.codec.fixed.fixed_is_read_again.Goals as goal

pub returns : goal.returns
returns c = record {
  big = IsReadAgain-big_bytes;
  little = IsReadAgain-little_bytes;
  u64_desc = IsReadAgain-u64_desc_bytes;
  i64 = IsReadAgain-i64_bytes;
  i64_desc = IsReadAgain-i64_desc_bytes;
  i32_le = IsReadAgain-signed_le_bytes w32 4 refl refl;
  i64_le = IsReadAgain-signed_le_bytes w64 8 refl refl;
}
