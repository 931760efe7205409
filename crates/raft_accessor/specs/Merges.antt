-- Tables merged into those of all regions.
use Rattle.std.specs.Prelude.{◌≡◌, ◌≢◌, ◌⊎◌, ℕ, Option, Some, None, IsTrue, Result, IfErr, is_some}
use Rattle.std.specs.Borrow.{MutBor}
use Rattle.std.specs.FinMap as finite
use Rattle.std.specs.Result.{OnOk, OnErr}
use Rattle.raft_base.specs.declared.errors.Error.{Error}
use Rattle.raft_base.specs.declared.errors.Error.TheVariants.{Memory}
use Rattle.raft_base.specs.declared.pipe_log.LogQueue.{LogQueue}
use Rattle.raft_history.specs.RegionSteps.{Tables, with_table}
use Rattle.raft_table.specs.Counts.{Counts}
use Rattle.raft_table.specs.Merge.{after_newer, joint_queue, after_appended, append_rule, IsTableMergeFault}
use Rattle.raft_table.specs.Steps.{table_of}
use Rattle.raft_table.specs.Table.{Table, IsRecounted}
use Rattle.raft_accessor.specs.Accessor.{Accessor, table_in}
use Rattle.raft_accessor.specs.Updates.{TableCall, TableCalls, IsChangedBy}
use Rattle.raft_accessor.specs.declared.neighbor.Neighbor.{Neighbor}
use Rattle.raft_accessor.specs.declared.neighbor.Neighbor.TheVariants.{Newer, Appended}

-- a table merged with its newer neighbor
abbrev pub with_newer : Table → Table → Option Table
with_newer older newer = after_newer older newer (joint_queue older newer)

-- a rewritten table merged with an appended one
abbrev pub with_appended : Table → Table → Option Table
with_appended older newer = after_appended older newer (append_rule older newer)

-- what a region's table, or its absence, becomes by a merge: without a newer table it stays, with one it is the outcome, which is not refused
abbrev pub IsMergedAt : (Table → Table → Option Table) → ℕ → Option Table → Option Table → Option Table → Type 0
IsMergedAt merge id older None after = after ≡ older
IsMergedAt merge id older (Some newer) after = (merge (table_of id older) newer ≡ after) × IsTrue (is_some after)

-- each region's table is merged with its newer one
abbrev pub AreTablesMerged : (Table → Table → Option Table) → Tables → Tables → Tables → Type 0
AreTablesMerged merge older newer after = (id : ℕ) → IsMergedAt merge id (finite.get older id) (finite.get newer id) (finite.get after id)

-- what a refused merge may leave of a region's table: without a newer table it stays, with one it is merged, or as it was, with an empty one in place of none
abbrev pub IsLeftAt : (Table → Table → Option Table) → ℕ → Option Table → Option Table → Option Table → Type 0
IsLeftAt merge id older None after = after ≡ older
IsLeftAt merge id older (Some newer) after = IsMergedAt merge id older (Some newer) after ⊎ (table_of id after ≡ table_of id older)

-- each region's table is merged with its newer one, or left
abbrev pub AreTablesLeft : (Table → Table → Option Table) → Tables → Tables → Tables → Type 0
AreTablesLeft merge older newer after = (id : ℕ) → IsLeftAt merge id (finite.get older id) (finite.get newer id) (finite.get after id)

-- one region has a newer table; each other region's table is merged with its newer one, or left
pub record AreOthersLeft (merge : Table → Table → Option Table) (older newer after : Tables) : Type 0 where
  pub at : ℕ
  pub there : finite.get newer at ≢ None
  pub others : (id : ℕ) → id ≢ at → IsLeftAt merge id (finite.get older id) (finite.get newer id) (finite.get after id)

-- why a table is refused beside its newer neighbor, at these counts
abbrev pub IsNewerFault : Counts → Table → Table → Error → Type 0
IsNewerFault counts older newer e = IsTableMergeFault counts older newer (joint_queue older newer) e

-- why a rewritten table is refused beside an appended one, at these counts
abbrev pub IsAppendedFault : Counts → Table → Table → Error → Type 0
IsAppendedFault counts older newer e = IsTableMergeFault counts older newer (append_rule older newer) e

-- a table merged with such a neighbor
abbrev pub with_neighbor : Neighbor → Table → Table → Option Table
with_neighbor Newer = with_newer
with_neighbor Appended = with_appended

-- by the rule of which queue it is merged with such a neighbor, if there is one
abbrev pub neighbor_rule : Neighbor → Table → Table → Option LogQueue
neighbor_rule Newer = joint_queue
neighbor_rule Appended = append_rule

-- why a table is refused beside such a neighbor, at these counts
abbrev pub IsFaultBeside : Neighbor → Counts → Table → Table → Error → Type 0
IsFaultBeside kind counts older newer e = IsTableMergeFault counts older newer (neighbor_rule kind older newer) e

-- some region's newer table is refused beside the older one, for this fault
pub record IsMergeRefusal (IsFault : Table → Table → Error → Type 0) (older newer : Tables) (e : Error) : Type 0 where
  pub id : ℕ
  pub table : Table
  pub there : finite.get newer id ≡ Some table
  pub fault : IsFault (table_in older id) table e

-- a table is merged into that of its region among those of an accessor, or refused; no other is changed
pub record IsMergedIn (kind : Neighbor) (id : ℕ) (newer : Table) (old : Accessor) (r : Result Unit Error) (new : Accessor) : Type 0 where
  pub ok : OnOk r (IsMergedAt (with_neighbor kind) id (finite.get old.tables id) (Some newer) (finite.get new.tables id))
  pub fault : IfErr r (IsFaultBeside kind new.counts (table_in old.tables id) newer)
  pub err : IfErr r (λ e. e ≢ Memory → table_in new.tables id ≡ table_in old.tables id)
  pub others : new.tables ≡ with_table old.tables id (finite.get new.tables id)
  pub cleaned : new.cleaned ≡ old.cleaned

-- tables are merged into those of an accessor, or one of them is refused
pub record AreMerged (kind : Neighbor) (old : Accessor) (newer : Tables) (r : Result Unit Error) (new : Accessor) : Type 0 where
  pub ok : OnOk r (AreTablesMerged (with_neighbor kind) old.tables newer new.tables)
  pub fault : IfErr r (IsMergeRefusal (IsFaultBeside kind new.counts) old.tables newer)
  pub err : IfErr r (λ e. e ≢ Memory → AreTablesLeft (with_neighbor kind) old.tables newer new.tables)
  pub others : OnErr r (AreOthersLeft (with_neighbor kind) old.tables newer new.tables)
  pub cleaned : new.cleaned ≡ old.cleaned

-- ---- one table

-- the call may be made at a table and counts; it keeps the table's region, and counts what it changes
pub record MayAlter {F R : Type 0} (g : TableCall F R) (f : F) (old : Table) (counts : Counts) : Type 0 where
  pub pre : (table : MutBor Table) (stats : MutBor Counts) → table.now ≡ old → stats.now ≡ counts → g.pre f (table, (stats, tt))
  pub region : (r : Result R Error) (new : Table) (after : Counts) → TableCalls g f old counts r new after → new.region_id ≡ old.region_id
  pub counted : (r : Result R Error) (new : Table) (after : Counts) → TableCalls g f old counts r new after → IsRecounted old new counts after

-- a region's table was changed by a call, or made and changed, and nothing else was, also where the call refused
pub record IsAltered {F R : Type 0} (g : TableCall F R) (f : F) (old : Tables) (id : ℕ) (counts : Counts) (r : Result R Error) (new : Tables) (after : Counts) : Type 0 where
  pub changed : IsChangedBy g f (table_in old id) counts r (table_in new id) after
  pub there : OnOk r (finite.get new id ≡ Some (table_in new id))
  pub one : new ≡ with_table old id (finite.get new id)
  pub recounted : IsRecounted (table_in old id) (table_in new id) counts after

-- a region's table becomes the outcome of a merge, and no other table is changed, also where the merge is refused, for this fault or for want of memory
pub record IsTableMerged {R : Type 0} (outcome : Option Table) (IsFault : Error → Type 0) (old : Tables) (id : ℕ) (counts : Counts) (r : Result R Error) (new : Tables) (after : Counts) : Type 0 where
  pub ok : OnOk r (outcome ≡ Some (table_in new id))
  pub there : OnOk r (finite.get new id ≡ Some (table_in new id))
  pub fault : IfErr r (λ e. (e ≡ Memory) ⊎ IsFault e)
  pub err : IfErr r (λ e. e ≢ Memory → table_in new id ≡ table_in old id)
  pub one : new ≡ with_table old id (finite.get new id)
  pub recounted : IsRecounted (table_in old id) (table_in new id) counts after
