-- What a scan says of what it meets.
use Rattle.std.specs.Prelude.{◌≡◌, ℕ, ◌+◌, ◌-◌, ◌^◌, min, List, [], ◌∷◌, ◌++◌, None, Some}
use Rattle.std.specs.List.{AllByRecursion}
use Rattle.raft_base.specs.declared.entry_index.EntryIndex.{EntryIndex}
use Rattle.raft_records.specs.FilePart.{Part}
use Rattle.raft_records.specs.Item.{Item, Content, entries, command, pair}
use Rattle.raft_listing.specs.Walks.{Met, batch, damage}
use Rattle.raft_listing.specs.SoundParts.{CanBeRead, IsLossOf}
use Rattle.raft_listing.specs.declared.damage.Damage.{Damage}
use Rattle.raft_listing.specs.declared.damage.DamageKind.{DamageKind}
use Rattle.raft_listing.specs.declared.damage.DamageKind.TheVariants.{Batch, Entries}
use Rattle.raft_listing.specs.declared.damage.Loss.{Loss}
use Rattle.raft_listing.specs.declared.scan.FileScan.{FileScan}

-- none of these entries can be read, each for this reason; the first and the last of them have these indexes
pub record AreLost (part : Part) (first last : ℕ) (loss : Loss) (es : List EntryIndex) : Type 0 where
  pub head : EntryIndex
  pub behind : List EntryIndex
  pub begins : es ≡ head ∷ behind
  pub first_is : head.index ≡ first
  pub before : List EntryIndex
  pub end : EntryIndex
  pub closes : es ≡ before ++ end ∷ []
  pub last_is : end.index ≡ last
  pub lost : AllByRecursion (λ (e : EntryIndex). IsLossOf part e loss) es

-- what can't be read are these entries of this region
abbrev pub IsLossOfEntries : Part → ℕ → List EntryIndex → DamageKind → Type 0
IsLossOfEntries part region es (Batch reason) = ⊥
IsLossOfEntries part region es (Entries of first last loss) = (of ≡ region) × AreLost part first last loss es

-- what is said of entries of a region, in order: of some neighbors that they can't be read; those between such neighbors can be
abbrev pub AreSaidOfEntries : Part → ℕ → ℕ → List EntryIndex → List Damage → Type 0
AreSaidOfEntries part offset region es [] = AllByRecursion (CanBeRead part) es
AreSaidOfEntries part offset region es (d ∷ said) =
    (sound lost rest : List EntryIndex) × (es ≡ sound ++ (lost ++ rest)) × AllByRecursion (CanBeRead part) sound
    × (d.offset ≡ offset) × IsLossOfEntries part region lost d.kind × AreSaidOfEntries part offset region rest said

-- what is said of what an item of a region says: of its entries, if it has some
abbrev pub IsSaidOfContent : Part → ℕ → ℕ → Content → List Damage → Type 0
IsSaidOfContent part offset region (entries es) said = AreSaidOfEntries part offset region es said
IsSaidOfContent part offset region (command c) said = said ≡ []
IsSaidOfContent part offset region (pair p) said = said ≡ []

-- what is said of items, in order
abbrev pub AreSaidOf : Part → ℕ → List Item → List Damage → Type 0
AreSaidOf part offset [] said = said ≡ []
AreSaidOf part offset (item ∷ items) said =
    (first rest : List Damage) × (said ≡ first ++ rest) × IsSaidOfContent part offset item.raft_group_id item.content first × AreSaidOf part offset items rest

-- what is said of what is met at a byte: of a batch its entries that can't be read, and of damage why no batch can be
abbrev pub IsSaidOf : Part → ℕ → Met → List Damage → Type 0
IsSaidOf part at (batch items next) said = AreSaidOf part (part.offset + at) items said
IsSaidOf part at (damage next e) said = said ≡ record { offset = part.offset + at; kind = Batch e } ∷ []

-- how many batches were read
abbrev pub batches_after : Met → ℕ → ℕ
batches_after (batch items next) so_far = min (so_far + 1) (2 ^ 64 - 1)
batches_after (damage next e) so_far = so_far

-- up to which byte of a file its batches can be read: the first one at which none can be, and the end without such a byte
abbrev pub read_after : ℕ → Met → ℕ → ℕ
read_after offset (batch items next) so_far = so_far
read_after offset (damage next e) so_far = min so_far offset

-- how many bytes at the end weren't searched: those from damage on past which no header leads
abbrev pub unseen_after : ℕ → ℕ → Met → ℕ → ℕ
unseen_after len offset (batch items next) unseen = unseen
unseen_after len offset (damage (Some next) e) unseen = unseen
unseen_after len offset (damage None e) unseen = len - offset

-- a scan has met this: what is said of it comes behind what was said
pub record IsScanned (old : FileScan) (part : Part) (at : ℕ) (met : Met) (new : FileScan) : Type 0 where
  pub said : List Damage
  pub is_said : IsSaidOf part at met said
  pub behind : new.damages.items ≡ old.damages.items ++ said
  pub batches : new.batches ≡ batches_after met old.batches
  pub read : new.read ≡ read_after (part.offset + at) met old.read
  pub unseen : new.unseen ≡ unseen_after old.len (part.offset + at) met old.unseen
  pub seq : new.seq ≡ old.seq
  pub len : new.len ≡ old.len
