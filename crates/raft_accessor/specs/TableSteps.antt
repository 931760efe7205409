-- Steps on the table of one region, among the tables of all.
use Rattle.std.specs.Prelude.{◌≡◌, ◌⊎◌, ℕ, List, [], ◌∷◌, ◌++◌, Option, Some, Result, OnSome, IfSome, IfOk, IfErr, ok_or}
use Rattle.std.specs.FinMap as finite
use Rattle.std.specs.Result.{OnOk, OnErr}
use Rattle.raft_base.specs.declared.errors.Error.{Error}
use Rattle.raft_base.specs.declared.errors.Error.TheVariants.{Memory}
use Rattle.raft_base.specs.declared.entry_index.EntryIndex.{EntryIndex}
use Rattle.raft_base.specs.declared.pipe_log.LogQueue.{LogQueue}
use Rattle.raft_base.specs.Runs.{end_of}
use Rattle.raft_table.specs.Change.{AreCountsAfter, IsAllowed, IsAnswer, IsChangeFault, after_change}
use Rattle.raft_table.specs.Counts.{Counts}
use Rattle.raft_table.specs.Queues.{other}
use Rattle.raft_table.specs.Start.{counts_with_run}
use Rattle.raft_table.specs.Steps.{Step, after_step}
use Rattle.raft_table.specs.Table.{after_replay, live_of, IsRecounted}
use Rattle.raft_table.specs.TableEntries.{start_of}
use Rattle.raft_table.specs.declared.memtable.change.TableChange.{TableChange}
use Rattle.raft_table.specs.TakenSteps.{IsUnmixed, counts_after_step, IsStepFault}
use Rattle.raft_history.specs.RegionSteps.{Tables, with_table, cleaned_by_steps}
use Rattle.raft_accessor.specs.Accessor.{Accessor, table_in}
use Rattle.raft_accessor.specs.AccessorCalls.{IsTableChanged}
use Rattle.raft_accessor.specs.Updates.{BecomesOutcome}

-- a step changes its region's table and no other, is counted, and lists the region that it cleans; where it is refused, tables, counts and list stay
pub record IsStepTaken (queue : LogQueue) (id : ℕ) (s : Step) (old : Tables) (counts : Counts) (list : List ℕ) (r : Result Unit Error) (new : Tables) (after : Counts) (listed : List ℕ) : Type 0 where
  pub ok : OnOk r (after_step queue (table_in old id) s ≡ Some (finite.get new id))
  pub accepted : OnOk r (IsUnmixed queue (table_in old id) s)
  pub counts_ok : OnOk r (after ≡ counts_after_step queue (table_in old id) s counts)
  pub cleaned : OnOk r (listed ≡ list ++ cleaned_by_steps queue (record { region = id; step = s } ∷ []))
  pub err : OnErr r (new ≡ old)
  pub counts_err : OnErr r (after ≡ counts)
  pub cleaned_err : OnErr r (listed ≡ list)
  pub fault : IfErr r (λ e. (e ≡ Memory) ⊎ IsStepFault queue (table_in old id) counts s e)
  pub one : new ≡ with_table old id (finite.get new id)
  pub recounted : IsRecounted (table_in old id) (table_in new id) counts after

-- a run that is read again was put into its region's table, whose entries began and ended there before; or nothing was changed
pub record IsRunTried (queue : LogQueue) (id : ℕ) (run : List EntryIndex) (old : Tables) (counts : Counts) (r : Option (ℕ × ℕ)) (new : Tables) (after : Counts) : Type 0 where
  pub outcome : BecomesOutcome (after_replay queue (table_in old id) run) (λ e. ⊥) old id counts (ok_or r Memory) new after
  pub accepted : OnSome r (live_of (other queue) (table_in old id) ≡ 0)
  pub counts_ok : OnSome r (after ≡ counts_with_run queue (table_in old id).entries run counts)
  pub ends : IfSome r (λ ends. ends ≡ (start_of (table_in old id).entries, end_of (table_in old id).entries))

-- a run is put into an accessor's table of a region, with where its entries began and ended before, or nothing was changed
pub record IsRunPut (queue : LogQueue) (id : ℕ) (run : List EntryIndex) (r : Option (ℕ × ℕ)) (old new : Accessor) : Type 0 where
  pub changed : IsTableChanged (after_replay queue (table_in old.tables id) run) (λ e. ⊥) id (ok_or r Memory) old new
  pub accepted : OnSome r (live_of (other queue) (table_in old.tables id) ≡ 0)
  pub counts : OnSome r (new.counts ≡ counts_with_run queue (table_in old.tables id).entries run old.counts)
  pub ends : IfSome r (λ ends. ends ≡ (start_of (table_in old.tables id).entries, end_of (table_in old.tables id).entries))

-- a region's table was changed as an allowed change says, with this answer, and counted so; or nothing was changed
pub record IsChangeTried (change : TableChange) (id : ℕ) (old : Tables) (before : Counts) (r : Result ℕ Error) (new : Tables) (after : Counts) : Type 0 where
  pub outcome : BecomesOutcome (after_change (table_in old id) change) (IsChangeFault (table_in old id) before change) old id before r new after
  pub answer : IfOk r (IsAnswer change (table_in old id) (table_in new id))
  pub allowed : OnOk r (IsAllowed change)
  pub counts : OnOk r (AreCountsAfter change (table_in old id) before after)
