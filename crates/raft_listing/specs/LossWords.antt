-- Why the bytes of an entry can't be read, in words.
use Rattle.std.specs.Prelude.{ℕ, List, codes}
use Rattle.raft_listing.specs.declared.damage.Loss.{Loss}
use Rattle.raft_listing.specs.declared.damage.Loss.TheVariants.{Block, Outside, Unplaced}

-- the words for it
abbrev pub loss_words : Loss → List ℕ
loss_words Block = codes "the entry block doesn't stand in the file, or its checksum doesn't hold"
loss_words Outside = codes "the entry block is too short"
loss_words Unplaced = codes "no entry block is named"
