-- What stands where the reading of a part of a file stops: batches behind it, batches of other files, or a batch that is broken off.
use Rattle.std.specs.Prelude.{◌≡◌, ◌⊎◌, ℕ, ◌^◌, ◌<◌, ◌≤◌, List, [], length, drop, Option, Some, None}
use Rattle.raft_codec.specs.Reading.{HasNoFront}
use Rattle.raft_base.specs.Signature.{signature_in}
use Rattle.raft_base.specs.declared.pipe_log.Version.TheVariants.{V2}
use Rattle.raft_records.specs.FilePart.{Part, IsBatchAt, HasHeader}
use Rattle.raft_records.specs.Item.{Item}
use Rattle.raft_records.specs.ItemBatch.{IsItemBatch}

-- ---- sound batches

-- at this byte of a part a batch stands that is readable in the part's file
abbrev pub IsSoundAt : Part → ℕ → Type 0
IsSoundAt part at = (items : List Item) × (next : ℕ) × IsBatchAt part at items next

-- of the bytes from this one on, the first of which this holds
abbrev pub IsFirst : (ℕ → Type 0) → ℕ → ℕ → Type 0
IsFirst Holds from at = (from ≤ at) × Holds at × ((n : ℕ) → from ≤ n → n < at → ¬ (Holds n))

-- it holds of none of the bytes from this one on
abbrev pub IsNowhere : (ℕ → Type 0) → ℕ → Type 0
IsNowhere Holds from = (n : ℕ) → from ≤ n → ¬ (Holds n)

-- the first byte from this one on at which a sound batch stands, if there is one
abbrev pub IsNextSound : Part → ℕ → Option ℕ → Type 0
IsNextSound part from None = IsNowhere (IsSoundAt part) from
IsNextSound part from (Some at) = IsFirst (IsSoundAt part) from at

-- ---- batches of other files

-- the same bytes in the file with this number
abbrev pub in_file : ℕ → Part → Part
in_file seq part = record part { id = record part.id { seq = seq } }

-- a number that is looked for: from 1 on and below 2^24, since bytes by chance may give any number of 32 bits
abbrev pub IsLookedFor : ℕ → Type 0
IsLookedFor seq = (1 ≤ seq) × (seq < 2 ^ 24)

-- at this byte of a part of a file of version 2 a batch stands that isn't readable in that file, but is in the one with this number
pub record IsSignedFor (part : Part) (at seq : ℕ) : Type 0 where
  pub signs : part.version ≡ V2
  pub looked_for : IsLookedFor seq
  pub unreadable : ¬ (IsSoundAt part at)
  pub readable : IsSoundAt (in_file seq part) at

-- at this byte of a part a batch stands that is signed for another file
abbrev pub IsElsewhere : Part → ℕ → Type 0
IsElsewhere part at = (seq : ℕ) × IsSignedFor part at seq

-- the first byte from this one on at which a batch stands that is signed for another file, if there is one, and that file's number
abbrev pub IsNextElsewhere : Part → ℕ → Option (ℕ × ℕ) → Type 0
IsNextElsewhere part from None = IsNowhere (IsElsewhere part) from
IsNextElsewhere part from (Some found) = IsFirst (IsElsewhere part) from found.0 × IsSignedFor part found.0 found.1

-- ---- batches that are broken off

-- Items as they are written: their count and they, with the signed checksum right behind them.
abbrev pub AreWhole : Option ℕ → List ℕ → List Item → Type 0
AreWhole signature bytes items = IsItemBatch bytes signature items []

-- A header, and bytes that end before its batch does: they are fewer than it says, and no items are whole where it says that they begin.
pub record IsCutBatch (signature : Option ℕ) (bytes : List ℕ) : Type 0 where
  pub offset : ℕ
  pub len : ℕ
  pub header : HasHeader bytes offset len
  pub shorter : length bytes < len
  pub unfinished : HasNoFront (AreWhole signature) (drop offset bytes)

-- bytes that can be all that is left of one batch: fewer than a header has, or a header and a batch that is cut
abbrev pub IsBroken : Option ℕ → List ℕ → Type 0
IsBroken signature bytes = (length bytes < 16) ⊎ IsCutBatch signature bytes

-- what stands from a byte to the end of a part can be all that is left of one batch
abbrev pub IsBrokenOff : Part → ℕ → Type 0
IsBrokenOff part at = IsBroken (signature_in part.version part.id.seq) (drop at part.bytes)
