-- Changes of one table by a call that is handed in.
use Rattle.std.specs.Prelude.{◌≡◌, ◌⊎◌, ◌≤◌, ◌+◌, ◌^◌, ℕ, Option, Some, Result, Err, IfOk, IfErr, IfSome}
use Rattle.std.specs.FinMap as finite
use Rattle.std.specs.Fn.{Once}
use Rattle.std.specs.Borrow.{MutBor}
use Rattle.std.specs.Result.{OnOk, OnErr}
use Rattle.raft_base.specs.declared.errors.Error.{Error}
use Rattle.raft_base.specs.declared.errors.Error.TheVariants.{Full, Memory}
use Rattle.raft_base.specs.declared.pipe_log.LogQueue.{LogQueue}
use Rattle.raft_table.specs.Counts.{Counts, live}
use Rattle.raft_table.specs.Table.{Table, empty_table, live_of, with_table_added, with_table_deleted, IsRecounted}
use Rattle.raft_history.specs.RegionSteps.{Tables, with_table}
use Rattle.raft_accessor.specs.Accessor.{table_in}

-- a call that changes a table and the counts, and answers
abbrev pub TableCall : Type 0 → Type 0 → Type 1
TableCall F R = Once F (MutBor Table × (MutBor Counts × Unit {0})) (Result R Error × (MutBor Table × (MutBor Counts × Unit {0})))

-- at a table and counts, the call may answer r and leave that table and those counts
pub record TableCalls {F R : Type 0} (g : TableCall F R) (f : F) (old : Table) (counts : Counts) (r : Result R Error) (new : Table) (after : Counts) : Type 0 where
  pub table : MutBor Table
  pub stats : MutBor Counts
  pub shows : (table.now ≡ old) × (stats.now ≡ counts)
  pub left : MutBor Table
  pub left_stats : MutBor Counts
  pub met : g.post f (table, (stats, tt)) (r, (left, (left_stats, tt)))
  pub leaves : (left.now ≡ new) × (left_stats.now ≡ after)

-- the call may be made at a table and counts; it keeps the table's region, counts what it changes, and leaves table and counts where it refuses
pub record MayChange {F R : Type 0} (g : TableCall F R) (f : F) (old : Table) (counts : Counts) : Type 0 where
  pub pre : (table : MutBor Table) (stats : MutBor Counts) → table.now ≡ old → stats.now ≡ counts → g.pre f (table, (stats, tt))
  pub region : (r : Result R Error) (new : Table) (after : Counts) → TableCalls g f old counts r new after → new.region_id ≡ old.region_id
  pub counted : (r : Result R Error) (new : Table) (after : Counts) → TableCalls g f old counts r new after → IsRecounted old new counts after
  pub kept : (r : Result R Error) (new : Table) (after : Counts) → TableCalls g f old counts r new after → OnErr r (new ≡ old)
  pub kept_counts : (r : Result R Error) (new : Table) (after : Counts) → TableCalls g f old counts r new after → OnErr r (after ≡ counts)

-- what a change leaves after a call: what it left, or, for want of memory for a new table, what was
abbrev pub IsChangedBy : {F R : Type 0} → TableCall F R → F → Table → Counts → Result R Error → Table → Counts → Type 0
IsChangedBy g f old counts r new after = TableCalls g f old counts r new after ⊎ ((r ≡ Err Memory) × (new ≡ old) × (after ≡ counts))

-- a region's table was changed by a call, or made and changed; nothing else was, and where the call refused nothing was
pub record IsUpdated {F R : Type 0} (g : TableCall F R) (f : F) (old : Tables) (id : ℕ) (counts : Counts) (r : Result R Error) (new : Tables) (after : Counts) : Type 0 where
  pub changed : IsChangedBy g f (table_in old id) counts r (table_in new id) after
  pub ok : OnOk r (new ≡ finite.insert old id (table_in new id))
  pub there : OnOk r (finite.get new id ≡ Some (table_in new id))
  pub err : OnErr r (new ≡ old)
  pub counts_err : OnErr r (after ≡ counts)
  pub one : new ≡ with_table old id (finite.get new id)
  pub recounted : IsRecounted (table_in old id) (table_in new id) counts after

-- a region's table becomes the outcome of a change, if there is one; where the change is refused nothing is changed, for this fault or for want of memory
pub record BecomesOutcome {R : Type 0} (outcome : Option Table) (IsFault : Error → Type 0) (old : Tables) (id : ℕ) (counts : Counts) (r : Result R Error) (new : Tables) (after : Counts) : Type 0 where
  pub ok : OnOk r (outcome ≡ Some (table_in new id))
  pub there : OnOk r (finite.get new id ≡ Some (table_in new id))
  pub err : OnErr r (new ≡ old)
  pub counts_err : OnErr r (after ≡ counts)
  pub fault : IfErr r (λ e. (e ≡ Memory) ⊎ IsFault e)
  pub one : new ≡ with_table old id (finite.get new id)
  pub recounted : IsRecounted (table_in old id) (table_in new id) counts after

-- a table is put under its region's id and counted, and the one that stood there is handed back and no longer counted; or nothing is changed, as there is no memory, or no room in the counts beside the one that stood there
pub record IsInserted (id : ℕ) (table : Table) (old : Tables) (before : Counts) (r : Result (Option Table) Error) (new : Tables) (after : Counts) : Type 0 where
  pub ok : OnOk r (new ≡ finite.insert old id table)
  pub replaced : IfOk r (λ t. t ≡ finite.get old id)
  pub own : IfOk r (λ t. IfSome t (λ (u : Table). u.region_id ≡ id))
  pub counts : OnOk r (after ≡ with_table_deleted (table_in old id) (with_table_added table before))
  pub err : OnErr r (new ≡ old)
  pub counts_err : OnErr r (after ≡ before)
  pub fault : IfErr r (λ e. (e ≡ Memory) ⊎ ((e ≡ Full) × ((q : LogQueue) × (2 ^ 64 ≤ live q before + live_of q table))))
  pub one : new ≡ with_table old id (finite.get new id)
  pub recounted : IsRecounted (table_in old id) (table_in new id) before after

-- a region's table, if there is one, is taken away, handed out, and no longer counted
pub record IsTakenOut (id : ℕ) (table : Option Table) (old : Tables) (before : Counts) (new : Tables) (left : Counts) : Type 0 where
  pub removed : table ≡ finite.get old id
  pub own : IfSome table (λ (t : Table). t.region_id ≡ id)
  pub after : new ≡ finite.remove old id
  pub counts : left ≡ with_table_deleted (table_in old id) before
  pub recounted : IsRecounted (table_in old id) (empty_table id) before left
