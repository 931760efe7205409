-- What contracts say of a piece of a file, of private calls and of the readers of raft_ffi: whether more bytes can make a batch readable in front of it, and of the batches in it.
use Rattle.std.specs.Prelude.{◌≡◌, ◌≢◌, ◌⊎◌, ℕ, ◌+◌, ◌<◌, ◌≤◌, List, [], ◌∷◌, ◌++◌, length, drop}
use Rattle.raft_base.specs.declared.errors.Error.{Error}
use Rattle.raft_base.specs.declared.pipe_log.LogFileContext.{LogFileContext}
use Rattle.raft_base.specs.declared.pipe_log.LogQueue.{LogQueue}
use Rattle.raft_base.specs.declared.pipe_log.LogQueue.TheVariants.{Rewrite}
use Rattle.raft_records.specs.FilePart.{Part, AreBatchesUpTo, HasHeader, IsBatchAt, StandBetween, part_of}
use Rattle.raft_records.specs.Item.{Item}
use Rattle.raft_history.specs.Batches.{Event}
use Rattle.raft_replay.specs.Stops.{history_in}
use Rattle.raft_prefix.specs.Blocks.{AreUnsoundTo, HasSoundBlock, IsUnsoundAs}

-- no more bytes, at most so many, make a batch readable at the start of these, if none is: there are none; or there is room for a header, and the batch of one is whole, or longer than with them
abbrev pub IsDecided : List ℕ → ℕ → Type 0
IsDecided bytes left =
    (left ≡ 0) ⊎ ((16 ≤ length bytes) × ((offset len : ℕ) → HasHeader bytes offset len → (len ≤ length bytes) ⊎ (length bytes + left < len)))

-- there is room for a header, and the batch of one in front is whole
abbrev pub IsNoneMissing : List ℕ → Type 0
IsNoneMissing bytes = (16 ≤ length bytes) × ((offset len : ℕ) → HasHeader bytes offset len → len ≤ length bytes)

-- there is no room for a header; or there is, and the batch of one in front lacks so many bytes
abbrev pub IsMissing : List ℕ → ℕ → Type 0
IsMissing bytes missing =
    ((length bytes < 16) × (missing ≡ 0)) ⊎ ((16 ≤ length bytes) × ((offset len : ℕ) → HasHeader bytes offset len → len ≡ length bytes + missing))

-- a batch of a part from which on these are its bytes
pub record IsBatchFrom (bytes : List ℕ) (part : Part) (at next : ℕ) (items : List Item) : Type 0 where
  pub same : bytes ≡ drop at part.bytes
  pub batch : IsBatchAt part at items next

-- some batch stands at the start of these bytes
pub record IsBatchIn (bytes : List ℕ) : Type 0 where
  pub part : Part
  pub at : ℕ
  pub next : ℕ
  pub items : List Item
  pub stands : IsBatchFrom bytes part at next items

-- in whatever part these bytes stand, the batch in front of them has a sound block
abbrev pub IsSoundIn : List ℕ → Type 0
IsSoundIn bytes = (part : Part) (at next : ℕ) (items : List Item) → bytes ≡ drop at part.bytes → (b : IsBatchAt part at items next) → HasSoundBlock b

-- it has none
abbrev pub IsUnsoundIn : List ℕ → Type 0
IsUnsoundIn bytes = (part : Part) (at next : ℕ) (items : List Item) → bytes ≡ drop at part.bytes → (b : IsBatchAt part at items next) → ¬ (HasSoundBlock b)

-- the batch at the start of these bytes, which stand in a file of this queue from this offset on, is one more whose block is unsound, if it is; in a rewrite file it isn't
abbrev pub IsGathered : LogQueue → ℕ → List ℕ → List ℕ → List ℕ → Type 0
IsGathered queue offset bytes old new = (IsSoundIn bytes × (new ≡ old)) ⊎ ((queue ≢ Rewrite) × IsUnsoundIn bytes × (new ≡ old ++ offset ∷ []))

-- batches stand in a part from its first byte up to this one, and those that begin at these bytes have unsound blocks; in a part of a rewrite file none has
pub record IsPassedTo (part : Part) (at : ℕ) (damaged : List ℕ) : Type 0 where
  pub batches : AreBatchesUpTo part at
  pub unsound : AreUnsoundTo part at damaged
  pub none : part.id.queue ≡ Rewrite → damaged ≡ []

-- where all bytes of a file in front of these, which stand there from this offset on, are passed, so many of these are too; the damaged batches of these are found behind those in front
abbrev pub ArePassedWith : LogFileContext → ℕ → List ℕ → ℕ → List ℕ → Type 0
ArePassedWith file offset bytes count found =
    (gone before : List ℕ) → offset ≡ length gone → IsPassedTo (part_of file 0 (gone ++ bytes)) offset before → IsPassedTo (part_of file 0 (gone ++ bytes)) (offset + count) (before ++ found)

-- so it is with those that are new
abbrev pub ArePassed : LogFileContext → ℕ → List ℕ → List ℕ → List ℕ → ℕ → Type 0
ArePassed file offset bytes old new count = (found : List ℕ) × (new ≡ old ++ found) × ArePassedWith file offset bytes count found

-- where all bytes of a file in front of these are passed, a block in these is unsound, and the refusal says so
abbrev pub IsRefusedBehind : LogFileContext → ℕ → List ℕ → List ℕ → Error → Type 0
IsRefusedBehind file offset bytes damaged e =
    (gone : List ℕ) → offset ≡ length gone → IsPassedTo (part_of file 0 (gone ++ bytes)) offset damaged → IsUnsoundAs (part_of file 0 (gone ++ bytes)) e

-- the batches in front of a byte of a part
abbrev pub IsHistoryUpTo : Part → ℕ → List Event → Type 0
IsHistoryUpTo part at h = (batches : List (List Item)) × StandBetween part 0 at batches × (h ≡ history_in part batches)
