-- Tables of the append queue put over rewritten ones, each under its region mark.
use Rattle.std.specs.Prelude.{◌≡◌, ℕ, ◌+◌, ◌≤◌, true, Option, Some, None, Result, IfErr}
use Rattle.std.specs.FinMap as finite
use Rattle.std.specs.Result.{OnOk}
use Rattle.raft_base.specs.declared.errors.Error.{Error}
use Rattle.raft_base.specs.declared.pipe_log.LogQueue.{LogQueue}
use Rattle.raft_base.specs.Runs.{IsRun}
use Rattle.raft_history.specs.Joins.{overlaid_region}
use Rattle.raft_history.specs.RegionSteps.{Tables, with_table}
use Rattle.raft_table.specs.Counts.{Counts}
use Rattle.raft_table.specs.Marks.{Mark}
use Rattle.raft_table.specs.Overlay.{overlay_under, IsOverlayFault}
use Rattle.raft_table.specs.Steps.{table_of}
use Rattle.raft_table.specs.Table.{Table, live_of, with_table_deleted, IsRecounted}
use Rattle.raft_accessor.specs.Accessor.{table_in, live_in}

-- the entries of an appended table over a rewritten one are a run, as they are where the region mark and the table stand for steps
abbrev pub IsRunOverlaid : Mark → Table → Table → Type 0
IsRunOverlaid m appended rewritten = IsRun (overlay_under m appended rewritten).entries

-- an appended table was put over a rewritten one of its region under its region mark
pub record IsPutOver (m : Mark) (appended : Table) (counts : Counts) (r : Result Unit Error) (old new : Table) : Type 0 where
  pub ok : IsRunOverlaid m appended old → OnOk r (new ≡ overlay_under m appended old)
  pub fault : IfErr r (IsOverlayFault counts appended)
  pub few : OnOk r ((q : LogQueue) → live_of q new ≤ live_of q old + live_of q appended)

-- an appended table of a region, or its absence, was put over the rewritten one under its region mark, and no other table was changed, also where that was refused. Where the region was cleaned and has no appended table, the rewritten one's records are deleted from the counts
pub record IsTableOverlaid (m : Mark) (appended : Option Table) (old : Tables) (id : ℕ) (counts : Counts) (r : Result Unit Error) (new : Tables) (after : Counts) : Type 0 where
  pub ok : IsRunOverlaid m (table_of id appended) (table_in old id) → OnOk r (finite.get new id ≡ overlaid_region id (Some m) appended (finite.get old id))
  pub fault : IfErr r (IsOverlayFault counts (table_of id appended))
  pub few : OnOk r ((q : LogQueue) → live_of q (table_in new id) ≤ live_of q (table_in old id) + live_in q appended)
  pub one : new ≡ with_table old id (finite.get new id)
  pub deleted : m.cleaned ≡ true → appended ≡ None → OnOk r (after ≡ with_table_deleted (table_in old id) counts)
  pub recounted : IsRecounted (table_in old id) (table_in new id) counts after
