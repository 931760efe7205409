-- What calls put into the room that their caller has for it.
use Rattle.std.specs.Prelude.{◌≡◌, ◌⊎◌, ℕ, Bool, Option, List, [], ◌++◌, length, take, drop, map, codes, string_bytes}
use Rattle.raft_base.specs.declared.errors.Error.{Error}
use Rattle.raft_base.specs.declared.errors.Error.TheVariants as errors
use Rattle.raft_base.specs.declared.entry_index.EntryIndex.{EntryIndex}
use Rattle.raft_ffi.specs.declared.entries.Entry.{Entry}
use Rattle.raft_ffi.specs.declared.status.Status.{Status}
use Rattle.raft_ffi.specs.Calls.{IsFound, code_of}
use Rattle.raft_ffi.specs.EntryData.{entry_of}

-- the first of what was found, as far as there is room, over what stood there
abbrev pub copied_over : {X : Type 0} → List X → List X → List X
copied_over found room = take (length room) found ++ drop (length found) room

-- how many were found, and the first of them, as far as there is room
pub record IsCopied {X : Type 0} (found old new : List X) (count : ℕ) : Type 0 where
  pub counted : count ≡ length found
  pub copied : new ≡ copied_over found old

-- what there is was found, if the flag says so, and copied as far as there is room
abbrev pub IsCopiedIfAny : {X : Type 0} → Option (List X) → List X → List X → ℕ → Bool → Type 0
IsCopiedIfAny found old new count flag = IsFound (λ xs. IsCopied xs old new count) found flag

-- how many entries were found, and the first of them, as far as there is room, over what stood there
pub record AreEntriesIn (found : List EntryIndex) (old new : List Entry) (count : ℕ) : Type 0 where
  pub counted : count ≡ length found
  pub copied : map entry_of (take (length found) new) ≡ take (length new) found
  pub kept : drop (length found) new ≡ drop (length found) old

-- so many bytes of a text were found, and the first of them, as far as there is room
pub record IsTextIn (old new : List ℕ) (len : ℕ) : Type 0 where
  pub text : List ℕ
  pub copied : IsCopied text old new len

-- some bytes as the text of an error, as many as `text_len` says, and the first of them, as far as there is room; none without an error
pub record HasText (status : Status) (old new : List ℕ) : Type 0 where
  pub found : IsTextIn old new status.text_len
  pub silent : status.code ≡ 0 → status.text_len ≡ 0

-- the text of a refusal as corruption has its reason; of other errors this says nothing
abbrev pub IsErrorText : Error → List ℕ → Type 0
IsErrorText (errors.Corruption reason) text = text ≡ codes "Corruption: " ++ string_bytes reason
IsErrorText e text = Unit {0}

-- so many bytes of this error's text, or none where there was no memory for it, and the first of them, as far as there is room
pub record IsTextOf (e : Error) (old new : List ℕ) (len : ℕ) : Type 0 where
  pub text : List ℕ
  pub of_error : IsErrorText e text ⊎ (text ≡ [])
  pub copied : IsCopied text old new len

-- the call was refused for a reason that this says, with the number and the text of that error
pub record IsRefusedFor (IsReason : Error → Type 0) (status : Status) (old new : List ℕ) : Type 0 where
  pub error : Error
  pub reason : IsReason error
  pub code : status.code ≡ code_of error
  pub text : IsTextOf error old new status.text_len
