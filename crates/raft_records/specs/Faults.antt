-- Why items are refused: which error comes for which bytes.
use Rattle.std.specs.Prelude.{◌≡◌, ◌≢◌, ℕ, ◌+◌, ◌-◌, ◌^◌, ◌<◌, ◌≤◌, ◌⊎◌, List, [], ◌∷◌, ◌++◌, length, Any, codes}
use Rattle.std.specs.IoError.{error_kind}
use Rattle.std.specs.declared.io.ErrorKind.TheVariants.{UnexpectedEof}
use Rattle.std.specs.Fmt.{decimal}
use Rattle.raft_base.specs.declared.errors.Error.{Error}
use Rattle.raft_base.specs.declared.errors.Error.TheVariants as errors
use Rattle.raft_base.specs.declared.message.MessageError.TheVariants as messages
use Rattle.raft_codec.specs.Errors.{IsIoOf}
use Rattle.raft_codec.specs.Reading.{IsFaultBehind, IsSequenceFault}
use Rattle.raft_codec.specs.Varint.{IsVarint, IsVarintFault}
use Rattle.raft_base.specs.declared.entry_index.EntryIndex.{EntryIndex}
use Rattle.raft_base.specs.Corruption.{IsCorruption}
use Rattle.raft_records.specs.Item.{Pair, Item}
use Rattle.raft_records.specs.Entries.{AreWritable}
use Rattle.raft_records.specs.Grammar.{IsByteString, IsTail, tail_of}
use Rattle.raft_records.specs.Spelling.{IsWritablePair, IsWritable}

-- want of memory
abbrev pub IsMemory : Error → Type 0
IsMemory errors.Memory = Unit {0}
IsMemory _ = ⊥

-- bytes end too early for a number or a type byte
abbrev pub IsEof : Error → Type 0
IsEof (errors.Codec e) = IsIoOf e UnexpectedEof
IsEof _ = ⊥

-- no number stands in front
abbrev pub IsNumberFault : List ℕ → Error → Type 0
IsNumberFault bytes (errors.Codec e) = IsVarintFault bytes e
IsNumberFault bytes _ = ⊥

-- no command: nothing, an unknown type byte, or no number after that of a Compact or a Truncate
abbrev pub IsCommandFault : List ℕ → Error → Type 0
IsCommandFault [] e = IsEof e
IsCommandFault (kind ∷ rest) e =
    ((kind ≢ 1) × (kind ≢ 2) × (kind ≢ 3) × IsCorruption (codes "Unrecognized command type: " ++ decimal kind) e) ⊎ (((kind ≡ 2) ⊎ (kind ≡ 3)) × IsNumberFault rest e)

-- an op type other than Put and Del
abbrev pub IsOpTypeFault : ℕ → Error → Type 0
IsOpTypeFault byte e = (byte ≢ 1) × (byte ≢ 2) × IsCorruption (codes "Unrecognized op type: " ++ decimal byte) e

-- a refusal by any text, or for want of memory for it
abbrev pub IsAnyCorruption : Error → Type 0
IsAnyCorruption (errors.Corruption t) = Unit {0}
IsAnyCorruption e = IsMemory e

-- no byte string: no length, or one that passes the end
abbrev pub IsByteStringFault : List ℕ → Error → Type 0
IsByteStringFault bytes e =
    IsNumberFault bytes e ⊎ IsFaultBehind IsVarint (λ n rest (f : Error). (length rest < n) × IsAnyCorruption f) bytes e

-- the key or the value of a Put is none, or there is no memory for them
abbrev pub IsPutFault : List ℕ → Error → Type 0
IsPutFault bytes e = IsMemory e ⊎ IsByteStringFault bytes e ⊎ IsFaultBehind IsByteString (λ _. IsByteStringFault) bytes e

-- the key of a Del is none, or there is no memory for it
abbrev pub IsDelFault : List ℕ → Error → Type 0
IsDelFault bytes e = IsMemory e ⊎ IsByteStringFault bytes e

-- no key value: nothing, an unknown op type, or a fault after it
abbrev pub IsKeyValueFault : List ℕ → Error → Type 0
IsKeyValueFault [] e = IsEof e
IsKeyValueFault (byte ∷ rest) e = IsOpTypeFault byte e ⊎ ((byte ≡ 1) × IsPutFault rest e) ⊎ ((byte ≡ 2) × IsDelFault rest e)

-- a Put without a value is not written
abbrev pub IsPairRefusal : Pair → Error → Type 0
IsPairRefusal p (errors.InvalidArgument text) = IsWritablePair p → ⊥
IsPairRefusal p e = IsMemory e

-- no tail offset: the index would be 2^64 - 1, no number stands there, or it falls or passes 2^32 - 1
abbrev pub IsTailFault : ℕ × ℕ → List ℕ → Error → Type 0
IsTailFault next bytes e =
    ((2 ^ 64 - 1 ≤ next.0) × IsAnyCorruption e) ⊎ IsNumberFault bytes e ⊎ IsFaultBehind IsVarint (λ tail rest (f : Error). ((tail < next.1) ⊎ (2 ^ 32 ≤ tail)) × IsAnyCorruption f) bytes e

-- a fault in one of so many tail offsets, or there is no memory for them
abbrev pub IsTailsFault : ℕ → ℕ × ℕ → List ℕ → Error → Type 0
IsTailsFault count next bytes e =
    IsMemory e ⊎ IsSequenceFault (λ (at : ℕ × ℕ) x. (at.0 + 1, tail_of x)) IsTail IsTailFault count next bytes e

-- after the count, which is not 0: no first index, or a fault in the tail offsets
abbrev pub AreIndexAndTailsFault : ℕ → ℕ → List ℕ → Error → Type 0
AreIndexAndTailsFault s n bytes e = (0 < n) × (IsNumberFault bytes e ⊎ IsFaultBehind IsVarint (λ first. IsTailsFault n (first, s)) bytes e)

-- no entries: no count, or a fault after it
abbrev pub IsEntriesFault : ℕ → List ℕ → Error → Type 0
IsEntriesFault s bytes e = IsNumberFault bytes e ⊎ IsFaultBehind IsVarint (AreIndexAndTailsFault s) bytes e

-- entries that are not consecutive, or whose bytes don't run on, are not written
abbrev pub IsEntriesRefusal : List EntryIndex → Error → Type 0
IsEntriesRefusal es (errors.InvalidArgument text) = AreWritable es → ⊥
IsEntriesRefusal es e = IsMemory e

-- the bytes end before the item's type
abbrev pub IsIoEof : Error → Type 0
IsIoEof (errors.Io e) = error_kind e ≡ UnexpectedEof
IsIoEof _ = ⊥

-- no content: nothing, an unknown type byte, or a fault of what it says
abbrev pub IsContentFault : ℕ → List ℕ → Error → Type 0
IsContentFault s [] e = IsIoEof e
IsContentFault s (kind ∷ rest) e =
    ((kind ≢ 1) × (kind ≢ 2) × (kind ≢ 3) × IsCorruption (codes "Unrecognized log item type: " ++ decimal kind) e)
    ⊎ ((kind ≡ 1) × IsEntriesFault s rest e)
    ⊎ ((kind ≡ 2) × IsCommandFault rest e)
    ⊎ ((kind ≡ 3) × IsKeyValueFault rest e)

-- no item: no region, or a fault of its content
abbrev pub IsItemFault : ℕ → List ℕ → Error → Type 0
IsItemFault s bytes e = IsNumberFault bytes e ⊎ IsFaultBehind IsVarint (λ _. IsContentFault s) bytes e

-- what can't be written is not written
abbrev pub IsItemRefusal : Item → Error → Type 0
IsItemRefusal item (errors.InvalidArgument text) = IsWritable item → ⊥
IsItemRefusal item e = IsMemory e

-- want of memory, or a message that refused to write itself with one of these codes
abbrev pub IsMemoryOrMessage : (ℕ → Type 0) → Error → Type 0
IsMemoryOrMessage refuses (errors.Message (messages.Refused code)) = refuses code
IsMemoryOrMessage refuses e = IsMemory e

-- one of these messages refuses to write itself with this code
abbrev pub OneRefuses : {X : Type 0} → (X → ℕ → Type 0) → List X → ℕ → Type 0
OneRefuses refuses xs code = Any (λ x. refuses x code) xs
