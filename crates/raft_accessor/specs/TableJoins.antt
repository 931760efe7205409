-- Tables of all regions joined with those of a newer neighbor, each under its region mark.
use Rattle.std.specs.Prelude.{◌≡◌, ℕ, ◌+◌, ◌≤◌, true, Option, Some, None, Result, IfOk, IfErr}
use Rattle.std.specs.FinMap as finite
use Rattle.std.specs.Result.{OnOk}
use Rattle.raft_base.specs.declared.errors.Error.{Error}
use Rattle.raft_base.specs.declared.pipe_log.LogQueue.{LogQueue}
use Rattle.raft_base.specs.Runs.{IsRun}
use Rattle.raft_history.specs.RegionSteps.{Tables, with_table}
use Rattle.raft_table.specs.Counts.{Counts}
use Rattle.raft_table.specs.MarkJoins.{end_at_reach}
use Rattle.raft_table.specs.MarkedJoins.{IsFaultUnder, IsRunOver}
use Rattle.raft_table.specs.Marks.{Mark, table_over, table_over_older}
use Rattle.raft_table.specs.Steps.{table_of}
use Rattle.raft_table.specs.Table.{Table, live_of, with_table_deleted, IsRecounted}
use Rattle.raft_table.specs.TableEntries.{start_of}
use Rattle.raft_accessor.specs.Accessor.{table_in, live_in}

-- an older table's entries are a run, the answer is the first of their indexes, 0 without entries, and the end of those that the region mark's first run meets
pub record AreEndsMet (m : Mark) (old : Table) (answer : ℕ × ℕ) : Type 0 where
  pub ends : answer ≡ (start_of old.entries, end_at_reach m old)
  pub run : IsRun old.entries

-- a newer table was put over an older one of its region under the newer region mark; the answer is where the older entries begin, and where those end that the region mark's first run meets
pub record IsPut (queue : LogQueue) (m : Mark) (newer : Table) (counts : Counts) (r : Result (ℕ × ℕ) Error) (old new : Table) : Type 0 where
  pub ok : IsRunOver queue m newer old → OnOk r (table_over queue m newer old ≡ Some new)
  pub answer : IfOk r (AreEndsMet m old)
  pub fault : IsRunOver queue m newer old → IfErr r (IsFaultUnder queue counts m newer old)
  pub few : OnOk r ((q : LogQueue) → live_of q new ≤ live_of q old + live_of q newer)

-- a newer table of a region, or its absence, was put over the older one under the newer region mark, and no other table was changed, also where that was refused; the answer is where the older entries begin, and where those end that the region mark's first run meets. Where the region was cleaned and has no newer table, the older one's records are deleted from the counts
pub record IsTableJoined (queue : LogQueue) (m : Mark) (newer : Option Table) (old : Tables) (id : ℕ) (counts : Counts) (r : Result (ℕ × ℕ) Error) (new : Tables) (after : Counts) : Type 0 where
  pub ok : IsRunOver queue m (table_of id newer) (table_in old id) → OnOk r (table_over_older queue id m newer (finite.get old id) ≡ Some (finite.get new id))
  pub answer : IfOk r (AreEndsMet m (table_in old id))
  pub fault : IsRunOver queue m (table_of id newer) (table_in old id) → IfErr r (IsFaultUnder queue counts m (table_of id newer) (table_in old id))
  pub few : OnOk r ((q : LogQueue) → live_of q (table_in new id) ≤ live_of q (table_in old id) + live_in q newer)
  pub one : new ≡ with_table old id (finite.get new id)
  pub deleted : m.cleaned ≡ true → newer ≡ None → OnOk r (after ≡ with_table_deleted (table_in old id) counts)
  pub recounted : IsRecounted (table_in old id) (table_in new id) counts after
