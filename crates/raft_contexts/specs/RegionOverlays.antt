-- Regions of the append queue put over rewritten ones, each under its region mark.
use Rattle.std.specs.Prelude.{◌≡◌, ℕ, ◌+◌, ◌≤◌, ◌^◌, Some, Result, IfErr}
use Rattle.std.specs.FinMap as finite
use Rattle.std.specs.Result.{OnOk}
use Rattle.raft_base.specs.declared.errors.Error.{Error}
use Rattle.raft_base.specs.declared.errors.Error.TheVariants as errors
use Rattle.raft_base.specs.declared.pipe_log.LogQueue.{LogQueue}
use Rattle.raft_base.specs.declared.pipe_log.LogQueue.TheVariants.{Rewrite}
use Rattle.raft_history.specs.Joins.{AreOverlaid}
use Rattle.raft_history.specs.MarkedRegions.{Marks}
use Rattle.raft_history.specs.RegionSteps.{Tables}
use Rattle.raft_table.specs.Marks.{Mark}
use Rattle.raft_accessor.specs.Accessor.{Accessor, table_in, live_in_all}
use Rattle.raft_accessor.specs.TableOverlays.{IsRunOverlaid}
use Rattle.raft_contexts.specs.RegionJoins.{AreTablesLeft}

-- under each of these region marks the entries of its region's appended table over the rewritten one are a run, as they are where the region marks and the tables stand for steps
abbrev pub AreRunsOverlaid : Marks → Tables → Tables → Type 0
AreRunsOverlaid marks appended rewritten = (r : ℕ) (m : Mark) → finite.get marks r ≡ Some m → IsRunOverlaid m (table_in appended r) (table_in rewritten r)

-- why tables with so many records aren't put over each other: they are 2^64 or more, or want of memory
abbrev pub AreTooMany : ℕ → Error → Type 0
AreTooMany records errors.Full = 2 ^ 64 ≤ records
AreTooMany records errors.Memory = Unit {0}
AreTooMany records _ = ⊥

-- the regions of these region marks are overlaid, where what they make is a run, and their tables are taken out of the appended ones, or that is refused
pub record AreMarksOverlaid (marks : Marks) (r : Result Unit Error) (old new : Tables) (appended after : Accessor) : Type 0 where
  pub ok : AreRunsOverlaid marks appended.tables old → OnOk r (AreOverlaid (record { tables = appended.tables; marks = marks }) old new)
  pub own_left : OnOk r (live_in_all Rewrite after.tables ≡ 0)
  pub left : OnOk r (AreTablesLeft marks appended.tables after.tables)
  pub few : OnOk r ((q : LogQueue) → live_in_all q new + live_in_all q after.tables ≤ live_in_all q old + live_in_all q appended.tables)
  pub cleaned : after.cleaned ≡ appended.cleaned
  pub fault : IfErr r (λ e. (q : LogQueue) × AreTooMany (live_in_all q old + live_in_all q appended.tables) e)
