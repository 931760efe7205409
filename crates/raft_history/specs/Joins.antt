-- The regions of two neighbors joined one by one, in no order, and those of the append queue over rewritten ones.
use Rattle.std.specs.Prelude.{◌≡◌, ℕ, ◌||◌, List, Option, Some, None, is_some, if◌then◌else◌}
use Rattle.std.specs.FinMap as finite
use Rattle.raft_base.specs.declared.pipe_log.LogQueue.{LogQueue}
use Rattle.raft_table.specs.Marks.{Mark}
use Rattle.raft_table.specs.Overlay.{kept_if, overlay_under}
use Rattle.raft_table.specs.Steps.{Step, AreSteps, table_of}
use Rattle.raft_table.specs.Table.{Table}
use Rattle.raft_history.specs.Contexts.{RegionStandsFor}
use Rattle.raft_history.specs.MarkedRegions.{MarkedRegions, region_in, joined_marked}
use Rattle.raft_history.specs.RegionSteps.{Tables}

-- the region mark and the table of each region stand for some steps
abbrev pub StandForSteps : LogQueue → MarkedRegions → Type 0
StandForSteps queue rs = (r : ℕ) → (ss : List Step) × AreSteps ss × RegionStandsFor queue r (region_in rs r) ss

-- each region is the older neighbor's joined with the newer one's, and the regions of which one of the two has a region mark, and no others, have one
pub record AreJoined (queue : LogQueue) (older newer new : MarkedRegions) : Type 0 where
  pub regions : (r : ℕ) → joined_marked queue r (finite.get newer.marks r) (finite.get newer.tables r) (region_in older r) ≡ Some (region_in new r)
  pub marked : (r : ℕ) → is_some (finite.get new.marks r) ≡ (is_some (finite.get older.marks r) || is_some (finite.get newer.marks r))

-- some region's join is refused
abbrev pub IsJoinRefused : LogQueue → MarkedRegions → MarkedRegions → Type 0
IsJoinRefused queue older newer = (r : ℕ) × (joined_marked queue r (finite.get newer.marks r) (finite.get newer.tables r) (region_in older r) ≡ None)

-- what a rewritten table becomes under the append queue's region mark of its region and its table there: it stays where the append queue has no region mark; else it becomes the overlay, which is there where either table is, or, where the region was cleaned, where the appended one is
abbrev pub overlaid_region : ℕ → Option Mark → Option Table → Option Table → Option Table
overlaid_region r None appended rewritten = rewritten
overlaid_region r (Some m) appended rewritten =
    kept_if (if m.cleaned then is_some appended else is_some appended || is_some rewritten) (overlay_under m (table_of r appended) (table_of r rewritten))

-- each rewritten table becomes the overlaid one of its region
abbrev pub AreOverlaid : MarkedRegions → Tables → Tables → Type 0
AreOverlaid appended rewritten new = (r : ℕ) → finite.get new r ≡ overlaid_region r (finite.get appended.marks r) (finite.get appended.tables r) (finite.get rewritten r)
