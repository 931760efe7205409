-- The region marks and tables of all regions: steps taken in one after another, and two neighbors joined.
use Rattle.std.specs.Prelude.{ℕ, List, [], ◌∷◌, ◌++◌, map, flat_map, Option, Some, None, option_map, if◌then◌else◌}
use Rattle.std.specs.Option.{unwrap_or, option_and_then}
use Rattle.std.specs.Ordering.{nat_cmp}
use Rattle.std.specs.FinMap as finite
use Rattle.raft_base.specs.declared.pipe_log.LogQueue.{LogQueue}
use Rattle.raft_table.specs.Marks.{Mark, table_over_older}
use Rattle.raft_table.specs.MarkJoins.{joined_mark, fresh, mark_of}
use Rattle.raft_table.specs.Steps.{Step, AtomicGroup, table_of, after_step}
use Rattle.raft_table.specs.Table.{Table}
use Rattle.raft_history.specs.RegionSteps.{RegionStep, Tables, with_table, names}
use Rattle.raft_history.specs.WaitingGroup.{WholeGroup}

-- the region mark of each region, where a step names it
abbrev pub Marks : Type 0
Marks = finite.FinMap nat_cmp Mark

-- the region marks and the tables of all regions
pub record MarkedRegions : Type 0 where
  pub tables : Tables
  pub marks : Marks

-- the region mark of one region, and its table where it has one
pub record MarkedRegion : Type 0 where
  pub mark : Mark
  pub table : Option Table

-- no region is named
abbrev pub no_regions : MarkedRegions
no_regions = record { tables = finite.empty; marks = finite.empty }

-- the region mark and the table of a region; where it isn't named, the region mark of no step and no table
abbrev pub region_in : MarkedRegions → ℕ → MarkedRegion
region_in rs r = record { mark = unwrap_or (finite.get rs.marks r) fresh; table = finite.get rs.tables r }

-- the region mark and the table of one region put in the place of its old ones
abbrev pub with_region : MarkedRegions → ℕ → MarkedRegion → MarkedRegions
with_region rs r x = record { tables = with_table rs.tables r x.table; marks = finite.insert rs.marks r x.mark }

-- ---- steps taken in

-- one region after a step; none where it is refused
abbrev pub stepped_region : LogQueue → ℕ → MarkedRegion → Step → Option MarkedRegion
stepped_region queue r x s =
    option_map (λ t. record { mark = joined_mark queue r x.mark x.table (mark_of s); table = t }) (after_step queue (table_of r x.table) s)

-- all regions after steps in order; none where one is refused
abbrev pub regions_after : LogQueue → MarkedRegions → List RegionStep → Option MarkedRegions
regions_after queue rs [] = Some rs
regions_after queue rs (s ∷ steps) = option_and_then (λ x. regions_after queue (with_region rs s.region x) steps) (stepped_region queue s.region (region_in rs s.region) s.step)

-- the regions that steps name, each once
abbrev pub named_regions : List RegionStep → List ℕ
named_regions [] = []
named_regions (s ∷ steps) = if names s.region steps then named_regions steps else s.region ∷ named_regions steps

-- one step on each of these regions
abbrev pub on_each : List ℕ → Step → List RegionStep
on_each regions s = map (λ r. record { region = r; step = s }) regions

-- the steps of a group that is whole: its own, and the numbers of its files for each region that they name
abbrev pub region_steps_of_whole : WholeGroup → List RegionStep
region_steps_of_whole w = w.steps ++ on_each (named_regions w.steps) (AtomicGroup w.first_seq w.last_seq)

-- the steps of groups that are whole, one group after another
abbrev pub region_steps_of_wholes : List WholeGroup → List RegionStep
region_steps_of_wholes ws = flat_map region_steps_of_whole ws

-- ---- neighbors joined

-- one region of an older and a newer neighbor; none where the newer one's steps are refused
abbrev pub joined_region : LogQueue → ℕ → MarkedRegion → MarkedRegion → Option MarkedRegion
joined_region queue r older newer = option_map (λ t. record { mark = joined_mark queue r older.mark older.table newer.mark; table = t }) (table_over_older queue r newer.mark newer.table older.table)

-- one region, which is as it was where the newer neighbor has no region mark of it
abbrev pub joined_marked : LogQueue → ℕ → Option Mark → Option Table → MarkedRegion → Option MarkedRegion
joined_marked queue r None t older = Some older
joined_marked queue r (Some m) t older = joined_region queue r older (record { mark = m; table = t })

-- the regions of which the newer neighbor has a region mark, one after another, with its tables
abbrev pub joined_each : LogQueue → Tables → MarkedRegions → List (ℕ × Mark) → Option MarkedRegions
joined_each queue newer rs [] = Some rs
joined_each queue newer rs (e ∷ es) = option_and_then (λ x. joined_each queue newer (with_region rs e.0 x) es) (joined_region queue e.0 (region_in rs e.0) (record { mark = e.1; table = finite.get newer e.0 }))

-- all regions of an older and a newer neighbor; none where one is refused
abbrev pub joined_regions : LogQueue → MarkedRegions → MarkedRegions → Option MarkedRegions
joined_regions queue older newer = joined_each queue newer.tables older (finite.entries newer.marks)
