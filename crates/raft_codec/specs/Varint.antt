-- Numbers in base 128, as protobuf's wire form has them.
use Rattle.std.specs.Prelude.{◌≡◌, ℕ, zero, suc, ◌+◌, ◌*◌, ◌/◌, ◌%◌, ◌<◌, ◌≤◌, ◌⊎◌, List, [], ◌∷◌, ◌++◌, length, slice_index, nat_lt, if◌then◌else◌}
use Rattle.std.specs.declared.io.ErrorKind.TheVariants.{UnexpectedEof, InvalidData}
use Rattle.raft_codec.specs.declared.codec.Error.{Error}
use Rattle.raft_codec.specs.Errors.{IsIoOf}

-- all bytes but the last have their top bit set
abbrev pub IsContinued : List ℕ → Type 0
IsContinued [] = ⊥
IsContinued (b ∷ []) = b < 128
IsContinued (b ∷ c ∷ bs) = (128 ≤ b) × (b < 256) × IsContinued (c ∷ bs)

-- the low seven bits of each byte, the first ones lowest
abbrev pub base_128 : List ℕ → ℕ
base_128 [] = 0
base_128 (b ∷ bs) = b % 128 + 128 * base_128 bs

-- one to ten bytes, all but the last with the top bit; a tenth one is 0 or 1
pub record IsVarint (bytes : List ℕ) (n : ℕ) : Type 0 where
  pub continued : IsContinued bytes
  pub value : n ≡ base_128 bytes
  pub at_most_ten : length bytes ≤ 10
  pub tenth : slice_index bytes 9 ≤ 1

-- a number in at most four bytes
pub record IsShortVarint (bytes : List ℕ) (n : ℕ) : Type 0 where
  pub number : IsVarint bytes n
  pub at_most_four : length bytes ≤ 4

-- n in at most this many bytes more than one
unfoldable pub septets_of : ℕ → ℕ → List ℕ
septets_of zero n = n ∷ []
septets_of (suc more) n = if nat_lt n 128 then n ∷ [] else (n % 128 + 128) ∷ septets_of more (n / 128)

-- the spelling that encoders write: septets of seven bits, lowest first, as long as bits are left
unfoldable pub varint : ℕ → List ℕ
varint n = septets_of 9 n

-- every byte has its top bit set
abbrev pub AllContinue : List ℕ → Type 0
AllContinue [] = Unit {0}
AllContinue (b ∷ bs) = (128 ≤ b) × (b < 256) × AllContinue bs

-- the bytes end before their number does
pub record EndsEarly (bytes : List ℕ) : Type 0 where
  pub continued : AllContinue bytes
  pub short : length bytes < 10

-- nine bytes with the top bit set, and a tenth one above 1
pub record IsTooLong (bytes : List ℕ) : Type 0 where
  pub front : List ℕ
  pub rest : List ℕ
  pub tenth : ℕ
  pub continued : AllContinue front
  pub nine : length front ≡ 9
  pub above : 1 < tenth
  pub split : bytes ≡ front ++ tenth ∷ rest

-- why no number stands in front: the bytes end early, or their number passes 64 bits
abbrev pub IsVarintFault : List ℕ → Error → Type 0
IsVarintFault bytes e = (EndsEarly bytes × IsIoOf e UnexpectedEof) ⊎ (IsTooLong bytes × IsIoOf e InvalidData)
