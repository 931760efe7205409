-- A walk through a part of a file, from batch to batch.
use Rattle.std.specs.Prelude.{◌≡◌, ◌≢◌, ℕ, ◌+◌, ◌<◌, ◌≤◌, List, [], ◌∷◌, length, drop, Option, Some, MatchOption}
use Rattle.raft_codec.specs.Reading.{HasNoFront}
use Rattle.raft_base.specs.Signature.{signature_in}
use Rattle.raft_base.specs.declared.errors.Error.{Error}
use Rattle.raft_base.specs.declared.errors.Error.TheVariants as errors
use Rattle.raft_records.specs.FilePart.{Part, IsBatchAt, HasHeader, IsNextFault}
use Rattle.raft_records.specs.Item.{Item}
use Rattle.raft_records.specs.LogBatch.{IsReadable}

-- what a walk meets: a batch of these items, which ends at this byte; or a byte at which no batch can be read, for this reason, and where it ends by its header, if one stands there and the batch is whole by it
pub data Met : Type 0 where
  batch : List Item → ℕ → Met
  damage : Option ℕ → Error → Met

-- where the batch at this byte ends by a header that stands there
abbrev pub EndsByHeader : Part → ℕ → ℕ → Type 0
EndsByHeader part at next = (offset len : ℕ) × HasHeader (drop at part.bytes) offset len × (next ≡ at + len) × (next ≤ length part.bytes)

-- no header stands there by which the batch is whole
abbrev pub EndsNowhere : Part → ℕ → Type 0
EndsNowhere part at = (offset len : ℕ) → HasHeader (drop at part.bytes) offset len → length (drop at part.bytes) < len

-- what is met at this byte of a part; want of memory is no damage
abbrev pub IsMet : Part → ℕ → Met → Type 0
IsMet part at (batch items next) = IsBatchAt part at items next
IsMet part at (damage next e) =
    (e ≢ errors.Memory)
    × HasNoFront (λ bytes. IsReadable bytes (signature_in part.version part.id.seq)) (drop at part.bytes)
    × IsNextFault (signature_in part.version part.id.seq) (drop at part.bytes) e
    × MatchOption next (EndsNowhere part at) (EndsByHeader part at)

-- where a walk goes on: behind a batch, and past damage only where a header leads
abbrev pub next_after : Met → Option ℕ
next_after (batch items next) = Some next
next_after (damage next e) = next

-- what a walk meets from a byte of a part on, in order: each with its byte, up to the end of the part, or to damage past which no header leads
abbrev pub IsWalkFrom : Part → ℕ → List (ℕ × Met) → Type 0
IsWalkFrom part at [] = at ≡ length part.bytes
IsWalkFrom part at (m ∷ ms) =
    (m.0 ≡ at) × (at < length part.bytes) × IsMet part at m.1 × MatchOption (next_after m.1) (ms ≡ []) (λ next. IsWalkFrom part next ms)

-- what stands at this byte was shown, and a walk goes on at the next one
pub record IsVisited {V : Type 0} (Visits : V → Part → ℕ → Met → V → Type 0) (part : Part) (at : ℕ) (next : Option ℕ) (old new : V) : Type 0 where
  pub met : Met
  pub is_met : IsMet part at met
  pub goes_on : next_after met ≡ next
  pub visited : Visits old part at met new

-- one visit after another, of all that is met
abbrev pub AreVisited : {V : Type 0} → (V → Part → ℕ → Met → V → Type 0) → Part → V → List (ℕ × Met) → V → Type 0
AreVisited {V} Visits part old [] new = old ≡ new
AreVisited {V} Visits part old (m ∷ ms) new = (between : V) × Visits old part m.0 m.1 between × AreVisited Visits part between ms new

-- a visitor was shown all that a walk through a part meets
pub record HasWalked {V : Type 0} (Visits : V → Part → ℕ → Met → V → Type 0) (part : Part) (old new : V) : Type 0 where
  pub met : List (ℕ × Met)
  pub is_walk : IsWalkFrom part 0 met
  pub visited : AreVisited Visits part old met new
