-- Signed numbers in base 128, as protobuf's sint64 has them.
use Rattle.std.specs.Prelude.{ℕ, ◌+◌, ◌*◌, ℤ, pos, negsuc, List}
use Rattle.raft_codec.specs.Varint.{IsVarint}

-- the code of a number: twice it from 0 on, and below 0 the complement of that, as 1 for -1 and 3 for -2
abbrev pub zigzag : ℤ → ℕ
zigzag (pos n) = 2 * n
zigzag (negsuc n) = 2 * n + 1

-- a signed number is spelled as its code is
abbrev pub IsVarI64 : List ℕ → ℤ → Type 0
IsVarI64 bytes z = IsVarint bytes (zigzag z)
