-- Regions joined with those of a newer neighbor, each under its region mark.
use Rattle.std.specs.Prelude.{◌≡◌, ℕ, ◌+◌, ◌≤◌, ◌^◌, Some, None, Result, IfErr}
use Rattle.std.specs.FinMap as finite
use Rattle.std.specs.Result.{OnOk}
use Rattle.raft_base.specs.declared.errors.Error.{Error}
use Rattle.raft_base.specs.declared.errors.Error.TheVariants as errors
use Rattle.raft_base.specs.declared.pipe_log.LogQueue.{LogQueue}
use Rattle.raft_history.specs.Joins.{AreJoined, IsJoinRefused}
use Rattle.raft_history.specs.MarkedRegions.{Marks, MarkedRegions}
use Rattle.raft_history.specs.Records.{all_records}
use Rattle.raft_history.specs.RegionSteps.{Tables}
use Rattle.raft_table.specs.MarkedJoins.{IsRunOver}
use Rattle.raft_table.specs.Marks.{Mark}
use Rattle.raft_accessor.specs.Accessor.{Accessor, table_in, live_in_all}
use Rattle.raft_contexts.specs.MarkedTables.{regions_in}
use Rattle.raft_contexts.specs.declared.marked_tables.MarkedTables.{MarkedTables}

-- what each of these region marks makes of its region's entries over the older ones is a run, as it is where the region marks and the tables stand for steps
abbrev pub AreRunsOver : LogQueue → Marks → Tables → Tables → Type 0
AreRunsOver queue marks newer older = (r : ℕ) (m : Mark) → finite.get marks r ≡ Some m → IsRunOver queue m (table_in newer r) (table_in older r)

-- the tables of regions without one of these region marks are as they were
abbrev pub AreOthersKept : Marks → Tables → Tables → Type 0
AreOthersKept marks old new = (r : ℕ) → finite.get marks r ≡ None → finite.get new r ≡ finite.get old r

-- the tables of regions with one of these region marks are gone, and the others are as they were
pub record AreTablesLeft (marks : Marks) (old new : Tables) : Type 0 where
  pub gone : (r : ℕ) (m : Mark) → finite.get marks r ≡ Some m → finite.get new r ≡ None
  pub others : AreOthersKept marks old new

-- why the regions of a slot are not joined: some region's join is refused, more would be live in a queue than can be counted, or want of memory
abbrev pub IsSlotFault : LogQueue → MarkedRegions → MarkedRegions → Error → Type 0
IsSlotFault queue older newer (errors.Corruption text) = IsJoinRefused queue older newer
IsSlotFault queue older newer errors.Full = (q : LogQueue) × (2 ^ 64 ≤ live_in_all q older.tables + live_in_all q newer.tables)
IsSlotFault queue older newer errors.Memory = Unit {0}
IsSlotFault queue older newer _ = ⊥

-- the regions of these region marks are joined, where what they make is a run, and their tables are taken out of the newer ones, or that is refused
pub record AreMarksJoined (queue : LogQueue) (marks : Marks) (r : Result Unit Error) (old new : MarkedTables) (newer after : Accessor) : Type 0 where
  pub ok : AreRunsOver queue marks newer.tables old.accessor.tables → OnOk r (AreJoined queue (regions_in old) (record { tables = newer.tables; marks = marks }) (regions_in new))
  pub fault : AreRunsOver queue marks newer.tables old.accessor.tables → IfErr r (IsSlotFault queue (regions_in old) (record { tables = newer.tables; marks = marks }))
  pub left : OnOk r (AreTablesLeft marks newer.tables after.tables)
  pub few : OnOk r ((q : LogQueue) → live_in_all q new.accessor.tables + live_in_all q after.tables ≤ live_in_all q old.accessor.tables + live_in_all q newer.tables)
  pub cleaned : (new.accessor.cleaned ≡ old.accessor.cleaned) × (after.cleaned ≡ newer.cleaned)

-- why the regions of two neighbors are not joined: some region's join is refused, the records would be 2^64 or more, or want of memory
abbrev pub IsJoinFault : LogQueue → MarkedRegions → MarkedRegions → Error → Type 0
IsJoinFault queue older newer (errors.Corruption text) = IsJoinRefused queue older newer
IsJoinFault queue older newer errors.Full = 2 ^ 64 ≤ all_records older.tables + all_records newer.tables
IsJoinFault queue older newer errors.Memory = Unit {0}
IsJoinFault queue older newer _ = ⊥
