-- How the calls of a running engine change tables.
use Rattle.std.specs.Prelude.{◌≡◌, ◌≢◌, ◌⊎◌, Result, OnOk, OnErr, IfErr, ℕ, ◌+◌, List, ◌++◌, [], ◌∷◌, length, Bool, Option, Some, if◌then◌else◌}
use Rattle.std.specs.FinMap as finite
use Rattle.raft_base.specs.declared.entry_index.EntryIndex.{EntryIndex}
use Rattle.raft_base.specs.declared.errors.Error.{Error}
use Rattle.raft_base.specs.declared.errors.Error.TheVariants.{Memory}
use Rattle.raft_base.specs.declared.pipe_log.FileId.{FileId}
use Rattle.raft_base.specs.declared.pipe_log.LogQueue.TheVariants.{Append, Rewrite}
use Rattle.raft_records.specs.Item.{Item}
use Rattle.raft_accessor.specs.Accessor.{Accessor, table_in, AreCountsOf}
use Rattle.raft_accessor.specs.Merges.{AreOthersLeft, AreTablesLeft, AreTablesMerged, IsMergeRefusal}
use Rattle.raft_accessor.specs.Writes.{AreItemsRefused, AreWritten, Writing}
use Rattle.raft_table.specs.Change.{IsListFault}
use Rattle.raft_table.specs.Counts.{Counts}
use Rattle.raft_table.specs.KeyValues.{file_at}
use Rattle.raft_table.specs.Rewriting.{entries_after_rewrite, IsRewriteFault}
use Rattle.raft_table.specs.Start.{entries_after_append, IsTableRunFault}
use Rattle.raft_table.specs.Table.{Table, after_append, after_rewrite, after_rewrite_key, with_pair, IsTablePutFault, IsKeyRewriteFault}
use Rattle.raft_table.specs.TableEntries.{below, from}
use Rattle.raft_ffi.specs.Calls.{AllHold, BothHold, IsCodeOf}

-- a region's table becomes the outcome of a change, and all others stay; the live counts are those of the tables
pub record IsChangedTo (outcome : Option Table) (region : ℕ) (old new : Accessor) : Type 0 where
  pub table : outcome ≡ Some (table_in new.tables region)
  pub others : new.tables ≡ finite.insert old.tables region (table_in new.tables region)
  pub cleaned : new.cleaned ≡ old.cleaned
  pub counts : AreCountsOf new.tables new.counts

-- a region has no table, and stands in the list of cleaned regions if the flag says so
pub record IsRemoved (region : ℕ) (is_listed : Bool) (old new : Accessor) : Type 0 where
  pub tables : new.tables ≡ finite.remove old.tables region
  pub cleaned : new.cleaned ≡ (if is_listed then old.cleaned ++ region ∷ [] else old.cleaned)
  pub counts : AreCountsOf new.tables new.counts

-- want of memory, or a fault of the call
abbrev pub IsMemoryOr : (Error → Type 0) → Error → Type 0
IsMemoryOr IsFault e = (e ≡ Memory) ⊎ IsFault e

-- new entries stand behind those of a region below their start
abbrev pub AreAppended : List EntryIndex → ℕ → Accessor → Accessor → Type 0
AreAppended entries region old new = IsChangedTo (after_append (table_in old.tables region) entries) region old new

-- why entries aren't appended
abbrev pub AreUnappended : List EntryIndex → ℕ → Accessor → Error → Type 0
AreUnappended entries region old = IsMemoryOr (λ e. IsListFault Append entries e
    ⊎ IsTableRunFault Append old.counts (table_in old.tables region).entries (entries_after_append (table_in old.tables region).entries entries) e)

-- the entries of a region below an index go
abbrev pub IsCompacted : ℕ → ℕ → Accessor → Accessor → Type 0
IsCompacted index region old new = IsChangedTo (Some (record (table_in old.tables region) { entries = from index (table_in old.tables region).entries })) region old new

-- the entries of a region from an index on go
abbrev pub IsTruncated : ℕ → ℕ → Accessor → Accessor → Type 0
IsTruncated index region old new = IsChangedTo (Some (record (table_in old.tables region) { entries = below index (table_in old.tables region).entries })) region old new

-- so many entries of a region went
abbrev pub AreDropped : ℕ → ℕ → Accessor → Accessor → Type 0
AreDropped count region old new = count + length (table_in new.tables region).entries ≡ length (table_in old.tables region).entries

-- a key of a region has a value, which was written to a file
abbrev pub IsPut : List ℕ → List ℕ → FileId → ℕ → Accessor → Accessor → Type 0
IsPut key value file region old new = IsChangedTo (Some (with_pair (table_in old.tables region) key value file)) region old new

-- why a key gets no value
abbrev pub IsUnput : List ℕ → FileId → ℕ → Accessor → Error → Type 0
IsUnput key file region old = IsMemoryOr (IsTablePutFault file.queue old.counts (file_at (table_in old.tables region).keys key))

-- a key of a region goes
abbrev pub IsDeleted : List ℕ → ℕ → Accessor → Accessor → Type 0
IsDeleted key region old new = IsChangedTo (Some (record (table_in old.tables region) { keys = finite.remove (table_in old.tables region).keys key })) region old new

-- the entries of a region have the places of a run, as far as they may move
abbrev pub AreRewritten : Option ℕ → List EntryIndex → ℕ → Accessor → Accessor → Type 0
AreRewritten gate entries region old new = IsChangedTo (after_rewrite gate (table_in old.tables region) entries) region old new

-- why entries don't get their places
abbrev pub AreUnrewritten : Option ℕ → List EntryIndex → ℕ → Accessor → Error → Type 0
AreUnrewritten gate entries region old = IsMemoryOr (λ e. IsListFault Rewrite entries e
    ⊎ IsRewriteFault (length entries) old.counts (entries_after_rewrite gate entries (table_in old.tables region).entries) e)

-- the pair of a region's key is in a rewrite file, if it may move
abbrev pub IsKeyRewritten : Option ℕ → ℕ → List ℕ → ℕ → Accessor → Accessor → Type 0
IsKeyRewritten gate seq key region old new = IsChangedTo (after_rewrite_key gate seq (table_in old.tables region) key) region old new

-- why the pair of a key doesn't move
abbrev pub IsKeyUnrewritten : Option ℕ → ℕ → List ℕ → ℕ → Accessor → Error → Type 0
IsKeyUnrewritten gate seq key region old = IsMemoryOr (IsKeyRewriteFault old.counts (after_rewrite_key gate seq (table_in old.tables region) key))

-- a region's atomic group is in these files
abbrev pub IsGroupSet : ℕ → ℕ → ℕ → Accessor → Accessor → Type 0
IsGroupSet start end region old new = IsChangedTo (Some (record (table_in old.tables region) { atomic_group = Some (start, end) })) region old new

-- no tables
abbrev pub no_tables : Accessor
no_tables = record { tables = finite.empty; cleaned = []; counts = record { append = 0; written = 0; deleted = 0 } }

-- each region's table is merged with its newer one; the live counts are those of the tables
pub record AreMerged (merge : Table → Table → Option Table) (newer old new : Accessor) : Type 0 where
  pub tables : AreTablesMerged merge old.tables newer.tables new.tables
  pub counts : AreCountsOf new.tables new.counts

-- the first of the items are written up to one that is refused, for this reason, and no others
pub record IsStoppedAt (w : Writing) (items : List Item) (old new : Accessor) (e : Error) : Type 0 where
  pub taken : List Item
  pub left : List Item
  pub split : items ≡ taken ++ left
  pub refused : AreItemsRefused w taken old new e

-- the first of the items are written up to one that is refused, and no others; the code is that of its reason
abbrev pub AreSomeWritten : Writing → ℕ → List Item → Accessor → Accessor → Type 0
AreSomeWritten w code items old new = IsCodeOf (IsStoppedAt w items old new) code

-- all of it, but for the list of cleaned regions, which is empty
abbrev pub without_cleaned : Accessor → Accessor
without_cleaned a = record a { cleaned = [] }

-- the newer tables are merged into the others where the number is 0; else the number is that of an error of the merge, and regions are merged or left. The cleaned regions stay
pub record AreMergedOrLeft (merge : Table → Table → Option Table) (IsFault : Counts → Table → Table → Error → Type 0) (code : ℕ) (newer old new : Option Accessor) : Type 0 where
  pub ok : code ≡ 0 → AllHold (AreMerged merge) newer old new
  pub err : code ≢ 0 → code ≢ 11 → AllHold (λ n o a. AreTablesLeft merge o.tables n.tables a.tables) newer old new
  pub others : code ≢ 0 → AllHold (λ n o a. AreOthersLeft merge o.tables n.tables a.tables) newer old new
  pub cleaned : BothHold (λ o a. a.cleaned ≡ o.cleaned) old new
  pub fault : code ≢ 0 → AllHold (λ n o a. IsCodeOf (IsMergeRefusal (IsFault a.counts) o.tables n.tables) code) newer old new

-- all items are written where the number is 0; else the first ones up to one that is refused, and it is the number of that reason
pub record AreAllOrSomeWritten (w : Writing) (code : ℕ) (items : Option (List Item)) (old new : Option Accessor) : Type 0 where
  pub ok : code ≡ 0 → AllHold (AreWritten w) items old new
  pub refused : code ≢ 0 → AllHold (AreSomeWritten w code) items old new

-- tables changed so where the answer is `Ok`; else they are as they were, and it has this fault
pub record IsChangeOr {R : Type 0} (answer : Result R Error) (P : Accessor → Accessor → Type 0) (IsFault : Accessor → Error → Type 0) (old new : Accessor) : Type 0 where
  pub ok : OnOk answer (P old new)
  pub err : OnErr answer (new ≡ old)
  pub fault : IfErr answer (IsFault old)
