-- Where the replay of parts stopped, and how its refusal says so.
use Rattle.std.specs.Prelude.{◌≡◌, ◌≢◌, ◌⊎◌, ℕ, ◌+◌, ◌<◌, List, [], ◌∷◌, ◌++◌, length, map, drop, codes, string_bytes}
use Rattle.std.specs.Fmt.{decimal}
use Rattle.std.specs.IoError.{error_kind}
use Rattle.std.specs.declared.io.ErrorKind.{ErrorKind}
use Rattle.raft_codec.specs.Errors.{IsIoOf}
use Rattle.raft_codec.specs.Reading.{HasNoFront}
use Rattle.raft_codec.specs.declared.codec.Error.TheVariants as codec_errors
use Rattle.raft_base.specs.Corruption.{IsCorruption}
use Rattle.raft_base.specs.Signature.{signature_in}
use Rattle.raft_base.specs.declared.errors.Error.{Error}
use Rattle.raft_base.specs.declared.errors.Error.TheVariants as errors
use Rattle.raft_base.specs.declared.pipe_log.FileId.{FileId}
use Rattle.raft_base.specs.declared.pipe_log.LogQueue.{LogQueue}
use Rattle.raft_base.specs.declared.pipe_log.LogQueue.TheVariants.{Append, Rewrite}
use Rattle.raft_records.specs.Faults.{IsMemory}
use Rattle.raft_records.specs.FilePart.{Part, IsBatchAt, IsNextFault, StandBetween}
use Rattle.raft_records.specs.Item.{Item}
use Rattle.raft_records.specs.LogBatch.{IsReadable}
use Rattle.raft_history.specs.Batches.{Event}
use Rattle.raft_history.specs.Histories.{IsSmall, Sound}
use Rattle.raft_replay.specs.Segments.{HoldsFrom, EachHolds}

-- the name of a queue in texts
abbrev pub queue_text : LogQueue → List ℕ
queue_text Append = codes "append"
queue_text Rewrite = codes "rewrite"

-- a file and an offset in it, in front of a reason
abbrev pub place_text : FileId → ℕ → List ℕ
place_text id offset =
    queue_text id.queue ++ (codes " file " ++ (decimal id.seq ++ (codes ", offset " ++ (decimal offset ++ codes ": "))))

-- a refusal: one as corruption has the file and the offset in front of its reason
abbrev pub IsPlaced : FileId → ℕ → Error → Type 0
IsPlaced id offset (errors.Corruption text) = (reason : List ℕ) × (string_bytes text ≡ place_text id offset ++ reason)
IsPlaced id offset e = Unit {0}

-- batches of a part, as a history
abbrev pub history_in : Part → List (List Item) → List Event
history_in part batches = map (λ items. record { items = items; file = part.id }) batches

-- the histories that are one of these and then this one
abbrev pub GoneOn : (List Event → Type 0) → List Event → List Event → Type 0
GoneOn Stood more h = (old : List Event) × Stood old × (h ≡ old ++ more)

-- the history of no batch, which a machine stands for that has replayed none
abbrev pub IsNothing : List Event → Type 0
IsNothing h = h ≡ []

-- no batch can be read at this byte of a part
abbrev pub IsUnreadableAt : Part → ℕ → Type 0
IsUnreadableAt part at =
    HasNoFront (λ bytes. IsReadable bytes (signature_in part.version part.id.seq)) (drop at part.bytes)

-- the batch at this byte of a part can't follow what stands before it: after none of these histories it can be read
pub record CannotFollowAt (Before : List Event → Type 0) (part : Part) (at : ℕ) : Type 0 where
  pub items : List Item
  pub next : ℕ
  pub stands : IsBatchAt part at items next
  pub unsound : (h : List Event) → IsSmall (h ++ history_in part (items ∷ [])) → Before h → ¬ (Sound (h ++ history_in part (items ∷ [])))

-- some machine stands for this history
abbrev pub IsStoodFor : {M : Type 0} → (M → List Event → Type 0) → List Event → Type 0
IsStoodFor {M} stands_for h = (machine : M) × stands_for machine h

-- the reading of a part, after what a machine stood for, stopped at a byte before its end: the batches in front of it are readable, and were taken in; and, but for want of memory, none is readable there, or the one there can't follow; and the refusal has that place
pub record StopsIn (Stood IsTaken : List Event → Type 0) (part : Part) (e : Error) : Type 0 where
  pub at : ℕ
  pub front : List (List Item)
  pub readable : StandBetween part 0 at front
  pub taken : (h : List Event) → IsSmall (h ++ history_in part front) → Stood h → IsTaken (h ++ history_in part front)
  pub before_end : at < length part.bytes
  pub reason : e ≢ errors.Memory → IsUnreadableAt part at ⊎ CannotFollowAt (GoneOn Stood (history_in part front)) part at
  pub placed : IsPlaced part.id (part.offset + at) e

-- the reading of parts, one after another, stopped in one of them: those in front of it are sequences of readable batches
pub record StopsAmong (Stood IsTaken : List Event → Type 0) (parts : List Part) (e : Error) : Type 0 where
  pub before : List Part
  pub part : Part
  pub after : List Part
  pub split : parts ≡ before ++ part ∷ after
  pub history : List Event
  pub held : EachHolds (λ part. HoldsFrom part 0) before history
  pub stops : StopsIn (GoneOn Stood history) IsTaken part e

-- ---- the fault of a batch that can't be read

-- an io error of this kind, or want of memory for its text
abbrev pub IsIoOfKind : ErrorKind → Error → Type 0
IsIoOfKind kind (errors.Io e) = error_kind e ≡ kind
IsIoOfKind kind e = IsMemory e

-- the same of the io error of a number
abbrev pub IsCodecOfKind : ErrorKind → Error → Type 0
IsCodecOfKind kind (errors.Codec e) = IsIoOf e kind
IsCodecOfKind kind e = IsMemory e

-- what a refusal becomes with its place: a corruption has it in front of its reason, an io error stays of its kind, and any other stays as it is; or there is no memory for the text
abbrev pub IsWithPlace : FileId → ℕ → Error → Error → Type 0
IsWithPlace id offset (errors.Corruption reason) e = IsCorruption (place_text id offset ++ string_bytes reason) e
IsWithPlace id offset (errors.Io reason) e = IsIoOfKind (error_kind reason) e
IsWithPlace id offset (errors.Codec (codec_errors.Io reason)) e = IsCodecOfKind (error_kind reason) e
IsWithPlace id offset fault e = e ≡ fault

-- the refusal is the fault of what stands at this byte of a part, with its place
pub record HasFaultAt (part : Part) (at : ℕ) (e : Error) : Type 0 where
  pub fault : Error
  pub is_fault : IsNextFault (signature_in part.version part.id.seq) (drop at part.bytes) fault
  pub placed : IsWithPlace part.id (part.offset + at) fault e

-- the reading of a part stopped, and where no batch can be read the refusal is the fault of what stands there, with its place
pub record StopsByFault (Stood IsTaken : List Event → Type 0) (part : Part) (e : Error) : Type 0 where
  pub stops : StopsIn Stood IsTaken part e
  pub fault : IsUnreadableAt part stops.at → HasFaultAt part stops.at e
