-- Entries that an engine reads.
use Rattle.std.specs.Prelude.{◌≡◌, ◌⊎◌, ℕ, List, [], ◌∷◌, ◌++◌, length, map, Option, Some, None}
use Rattle.std.specs.FinMap as finite
use Rattle.raft_base.specs.declared.entry_index.EntryIndex.{EntryIndex}
use Rattle.raft_base.specs.declared.errors.Error.{Error}
use Rattle.raft_table.specs.Fetches.{Empty, Fetches, IsFetchFault, RangeAnswer, range_answer}
use Rattle.raft_table.specs.Table.{Table}
use Rattle.raft_files.specs.Asks.{Ask}
use Rattle.raft_engine_prefixes.specs.Contents.{AreBothTold}
use Rattle.raft_engine.specs.KeptEngine.{KeptEngine, table_in}
use Rattle.raft_engine.specs.Reads.{AreReadByBlocks, AreUnread}
use Rattle.raft_engine.specs.FileFailures.{Failures}

-- ---- one entry

-- an entry, if there is one, is read, and has these bytes; if there is none, nothing is asked
abbrev pub IsEntryGot : Option EntryIndex → Option (List ℕ) → List Ask → List Ask → Type 0
IsEntryGot None None old new = new ≡ old
IsEntryGot None (Some bytes) old new = ⊥
IsEntryGot (Some e) None old new = ⊥
IsEntryGot (Some e) (Some bytes) old new = AreReadByBlocks (e ∷ []) (bytes ∷ []) old new

-- why an entry of a region isn't read
abbrev pub IsEntryUnread : Failures → ℕ → Option EntryIndex → List Ask → List Ask → Error → Type 0
IsEntryUnread MayFail region None old new error = ⊥
IsEntryUnread MayFail region (Some e) old new error = AreUnread MayFail region (e ∷ []) old new error

-- ---- many entries

-- what a fetch of a range answers: where the region has no table, the range counts as empty
abbrev pub answer_of : ℕ → ℕ → Option Table → RangeAnswer
answer_of begin end None = Empty
answer_of begin end (Some t) = range_answer begin end t.entries

-- these are a region's entries in a range, as many as a limit on their bytes lets through
abbrev pub AreOfRange : ℕ → ℕ → ℕ → Option ℕ → KeptEngine → List EntryIndex → Type 0
AreOfRange region begin end limit engine es =
    Fetches limit begin end (table_in engine region).entries [] es (answer_of begin end (finite.get engine.accessor.tables region))

-- so many entries of a range are read, and their bytes, which are their contents, pushed behind what there was
pub record AreFetched (region begin end : ℕ) (limit : Option ℕ) (count : ℕ) (before after : List (List ℕ)) (old new : KeptEngine) : Type 0 where
  pub es : List EntryIndex
  pub of_range : AreOfRange region begin end limit old es
  pub counted : count ≡ length es
  pub strings : List (List ℕ)
  pub read : AreReadByBlocks es strings old.asks new.asks
  pub pushed : after ≡ before ++ strings
  pub contents : (content : EntryIndex → List ℕ) → AreBothTold new.asks content → strings ≡ map content es

-- why those of a range aren't fetched: as the table refuses it, and nothing is asked; or they aren't read
abbrev pub AreUnfetched : Failures → ℕ → ℕ → ℕ → Option ℕ → KeptEngine → KeptEngine → Error → Type 0
AreUnfetched MayFail region begin end limit old new error =
    (IsFetchFault (answer_of begin end (finite.get old.accessor.tables region)) error × (new.asks ≡ old.asks))
    ⊎ ((es : List EntryIndex) × AreOfRange region begin end limit old es × AreUnread MayFail region es old.asks new.asks error)
