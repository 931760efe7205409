-- What contracts of private functions say: how spellings at the start of bytes are passed over, and which signature a batch there has.
use Rattle.std.specs.Prelude.{◌≡◌, ◌≢◌, ℕ, ◌^◌, ◌<◌, List, length, Option, Some}
use Rattle.raft_codec.specs.Reading.{HasNoFront, IsFollowedBy, Reads}
use Rattle.raft_codec.specs.Varint.{IsVarint}
use Rattle.raft_base.specs.declared.entry_index.EntryIndex.{EntryIndex}
use Rattle.raft_records.specs.Grammar.{IsContent, IsEntries, IsItem, AreTails, end_behind, end_of_content}
use Rattle.raft_records.specs.Item.{Content, Item}
use Rattle.raft_records.specs.ItemBatch.{AreItems, IsItemBatch}
use Rattle.raft_records.specs.LogBatch.{IsReadable}
use Rattle.raft_tail.specs.Tails.{AreWhole}

-- a spelling stands in front of the old bytes, and the new ones follow it
abbrev pub Passes : {X : Type 0} → (List ℕ → X → Type 0) → List ℕ → List ℕ → Type 0
Passes {X} IsSpelling old new = (x : X) × Reads IsSpelling old new x

-- a count of items and the items
abbrev pub AreCounted : List ℕ → List Item → Type 0
AreCounted bytes items = IsFollowedBy IsVarint AreItems bytes (length items) items

-- whole items stand at the start of the bytes
abbrev pub BeginsWhole : Option ℕ → List ℕ → Type 0
BeginsWhole signature bytes = (rest : List ℕ) × Passes (AreWhole signature) bytes rest

-- these tail offsets stand in front of the old bytes, of which the last is this
pub record TailsPass (count : ℕ) (next : ℕ × ℕ) (old new : List ℕ) (end : ℕ) : Type 0 where
  pub read : List EntryIndex
  pub reads : Reads (AreTails count next) old new read
  pub ends : end ≡ end_behind next.1 read

-- entries stand in front of the old bytes, whose bytes end there
pub record EntriesPass (start : ℕ) (old new : List ℕ) (end : ℕ) : Type 0 where
  pub read : List EntryIndex
  pub reads : Reads (IsEntries start) old new read
  pub ends : end ≡ end_behind start read

-- a content stands in front of the old bytes, whose entries' bytes end there
pub record ContentPasses (start : ℕ) (old new : List ℕ) (end : ℕ) : Type 0 where
  pub read : Content
  pub reads : Reads (IsContent start) old new read
  pub ends : end ≡ end_of_content start read

-- an item stands in front of the old bytes, whose entries' bytes end there
pub record ItemPasses (start : ℕ) (old new : List ℕ) (end : ℕ) : Type 0 where
  pub read : Item
  pub reads : Reads (IsItem start) old new read
  pub ends : end ≡ end_of_content start read.content

-- a batch that stands at the start of these bytes with a signature has this one
abbrev pub IsSigner : List ℕ → Option ℕ → Type 0
IsSigner bytes signer = (signature : ℕ) → signature < 2 ^ 32 → signer ≢ Some signature → HasNoFront (λ front. IsReadable front (Some signature)) bytes

-- an item batch that these bytes are with a signature has this one
abbrev pub IsItemSigner : List ℕ → Option ℕ → Type 0
IsItemSigner bytes signer =
    (signature : ℕ) → signature < 2 ^ 32 → signer ≢ Some signature → (items : List Item) (rest : List ℕ) → IsItemBatch bytes (Some signature) items rest → ⊥
