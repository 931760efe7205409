-- Numbers in a fixed count of bytes.
use Rattle.std.specs.Prelude.{◌≡◌, ℕ, ◌-◌, ◌^◌, ◌<◌, ℤ, List, length, FitsSigned, bit_xor}
use Rattle.std.specs.Int.{Width, w64, cast_unsigned, to_le_bytes}
use Rattle.std.specs.Ordering.{nat_cmp}
use Rattle.std.specs.Cmp.Lexicographic.{slice_cmp}
use Rattle.std.specs.declared.cmp.Ordering.{Ordering}
use Rattle.byteorder.specs.Endian.{big_bytes, little_bytes}
use Rattle.raft_codec.specs.Reading.{HasOneFront}

-- a value in its range, and the bytes that stand for it
pub record IsSpelledBy {X : Type 0} (InRange : X → Type 0) (bytes_of : X → List ℕ) (bytes : List ℕ) (x : X) : Type 0 where
  pub in_range : InRange x
  pub written : bytes ≡ bytes_of x

-- an unsigned number in this many bytes, the highest first
abbrev pub IsBig : ℕ → List ℕ → ℕ → Type 0
IsBig width = IsSpelledBy (λ x. x < 256 ^ width) (big_bytes width)

-- an unsigned number in this many bytes, the lowest first
abbrev pub IsLittle : ℕ → List ℕ → ℕ → Type 0
IsLittle width = IsSpelledBy (λ x. x < 256 ^ width) (little_bytes width)

-- a u64 with every bit complemented
abbrev pub complement : ℕ → ℕ
complement x = 2 ^ 64 - 1 - x

-- an i64 in two's complement with its sign bit flipped, so that these numbers order as the values do
abbrev pub sign_flipped : ℤ → ℕ
sign_flipped z = bit_xor (cast_unsigned w64 z) (2 ^ 63)

-- the eight bytes of a u64 whose order is the reverse of the numbers'
abbrev pub u64_desc_bytes : ℕ → List ℕ
u64_desc_bytes x = big_bytes 8 (complement x)

-- the eight bytes of an i64 that order as the numbers do
abbrev pub i64_bytes : ℤ → List ℕ
i64_bytes z = big_bytes 8 (sign_flipped z)

-- the same with every bit complemented, whose order is the reverse
abbrev pub i64_desc_bytes : ℤ → List ℕ
i64_desc_bytes z = big_bytes 8 (complement (sign_flipped z))

-- a signed number of a type's width in two's complement, the lowest byte first
abbrev pub signed_le_bytes : Width → ℤ → List ℕ
signed_le_bytes w z = to_le_bytes w (cast_unsigned w z)

-- eight bytes that are read as a u64, in the reverse order
abbrev pub IsU64Desc : List ℕ → ℕ → Type 0
IsU64Desc = IsSpelledBy (λ x. x < 2 ^ 64) u64_desc_bytes

-- eight bytes that are read as an i64, in the order of the values
abbrev pub IsI64 : List ℕ → ℤ → Type 0
IsI64 = IsSpelledBy (FitsSigned w64) i64_bytes

-- eight bytes that are read as an i64, in the reverse order
abbrev pub IsI64Desc : List ℕ → ℤ → Type 0
IsI64Desc = IsSpelledBy (FitsSigned w64) i64_desc_bytes

-- a signed number of a type's width, the lowest byte first
abbrev pub IsSignedLittle : Width → List ℕ → ℤ → Type 0
IsSignedLittle w = IsSpelledBy (FitsSigned w) (signed_le_bytes w)

-- what is written takes this many bytes and is read again, whatever follows it: it stands for its value, and no
-- spelling begins another
pub record IsReadAgain {X : Type 0} (width : ℕ) (InRange : X → Type 0) (bytes_of : X → List ℕ) : Type 0 where
  pub counted : (x : X) → length (bytes_of x) ≡ width
  pub spelled : (x : X) → InRange x → IsSpelledBy InRange bytes_of (bytes_of x) x
  pub one_front : HasOneFront (IsSpelledBy InRange bytes_of)

-- the bytes, the first ones first, order as the values do
abbrev pub OrdersAs : {X : Type 0} → (X → X → Ordering) → (X → Type 0) → (X → List ℕ) → Type 0
OrdersAs {X} cmp InRange bytes_of =
    (x y : X) → InRange x → InRange y → slice_cmp nat_cmp (bytes_of x) (bytes_of y) ≡ cmp x y
