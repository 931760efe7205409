-- Entry blocks that were read once, and the bytes of entries in them.
use Rattle.std.specs.Prelude.{◌≡◌, List, ℕ, MatchOption}
use Rattle.raft_base.specs.declared.entry_index.EntryIndex.{EntryIndex}
use Rattle.raft_records.specs.EntryBlock.{HasEntryBlock}
use Rattle.raft_records.specs.FilePart.{Part}
use Rattle.raft_listing.specs.Dumped.{HasBytes, IsShown, lost_text}
use Rattle.raft_listing.specs.SoundParts.{CanBeRead, IsLossOf}
use Rattle.raft_listing.specs.declared.blocks.BytesOfEntry.{BytesOfEntry}
use Rattle.raft_listing.specs.declared.blocks.BytesOfEntry.TheVariants.{Read, Lost}
use Rattle.raft_listing.specs.declared.blocks.ReadBlock.{ReadBlock}

-- the entry bytes of the block are those that stand at its place; there are none where no entry block stands there
abbrev pub IsReadBlock : Part → ReadBlock → Type 0
IsReadBlock part block = MatchOption block.entries ((bytes : List ℕ) → HasEntryBlock part block.place bytes → ⊥) (λ bytes. HasEntryBlock part block.place bytes.now)

-- the bytes of an entry as they stand in its block, or why they can't be read
abbrev pub IsReadOf : Part → EntryIndex → BytesOfEntry → Type 0
IsReadOf part entry (Read bytes) = HasBytes part entry bytes.now
IsReadOf part entry (Lost loss) = ¬ (CanBeRead part entry) × IsLossOf part entry loss

-- what is shown of the bytes of an entry; or that they can't be read, and why
abbrev pub AreBytesShown : BytesOfEntry → List ℕ → Type 0
AreBytesShown (Read bytes) text = IsShown bytes.now text
AreBytesShown (Lost loss) text = text ≡ lost_text loss
