-- Neighbors among the entries of an item, none of which can be read, as a scan goes on with them.
use Rattle.std.specs.Prelude.{◌≡◌, ◌⊎◌, ℕ, List, [], ◌∷◌, ◌++◌, Option, None, Some, MatchOption}
use Rattle.raft_base.specs.declared.entry_index.EntryIndex.{EntryIndex}
use Rattle.raft_records.specs.FilePart.{Part}
use Rattle.raft_records.specs.Item.{Item}
use Rattle.raft_listing.specs.Scanned.{IsSaidOfContent}
use Rattle.raft_listing.specs.SoundParts.{CanBeRead, IsLossOf}
use Rattle.raft_listing.specs.declared.damage.Damage.{Damage}
use Rattle.raft_listing.specs.declared.damage.DamageKind.TheVariants.{Entries}
use Rattle.raft_listing.specs.declared.damage.Loss.{Loss}
use Rattle.raft_listing.specs.declared.scan.Stretch.{Stretch}

-- an entry can be read, or can't be, for this reason
abbrev pub IsLossIn : Part → EntryIndex → Option Loss → Type 0
IsLossIn part entry loss = MatchOption loss (CanBeRead part entry) (IsLossOf part entry)

-- a stretch of which one entry alone is known, if that can't be read
abbrev pub stretch_of : ℕ → Option Loss → Option Stretch
stretch_of index None = None
stretch_of index (Some loss) = Some (record { first = index; last = index; loss = loss })

-- what is said of a stretch, if there is one
abbrev pub said_of_stretch : ℕ → ℕ → Option Stretch → List Damage
said_of_stretch offset region None = []
said_of_stretch offset region (Some s) = record { offset = offset; kind = Entries region s.first s.last s.loss } ∷ []

-- an entry of this index, which can't be read for the same reason, comes behind a stretch
abbrev pub IsLonger : Option Stretch → ℕ → Option Loss → Stretch → Type 0
IsLonger old index loss new = (s : Stretch) × (old ≡ Some s) × (loss ≡ Some s.loss) × (new ≡ record { first = s.first; last = index; loss = s.loss })

-- a stretch is left behind an entry: it is longer by it; or what was said of the one before comes behind what was said, and it begins with the entry
abbrev pub IsTakenIn : ℕ → ℕ → Option Stretch → ℕ → Option Loss → Option Stretch → List Damage → List Damage → Type 0
IsTakenIn offset region old index loss new said more =
    (MatchOption new ⊥ (IsLonger old index loss) × (more ≡ said))
    ⊎ ((new ≡ stretch_of index loss) × (more ≡ said ++ said_of_stretch offset region old))

-- to what was said it is added what is said of an item
abbrev pub IsItemSaid : Part → ℕ → Item → List Damage → List Damage → Type 0
IsItemSaid part offset item old new =
    (said : List Damage) × (new ≡ old ++ said) × IsSaidOfContent part offset item.raft_group_id item.content said
