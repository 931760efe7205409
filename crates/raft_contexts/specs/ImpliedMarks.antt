-- The region marks that tables imply, beside those that are kept.
use Rattle.std.specs.Prelude.{ℕ, List, ◌++◌, filter, length, map, is_none, is_some, if◌then◌else◌}
use Rattle.std.specs.FinMap as finite
use Rattle.raft_history.specs.MarkedRegions.{Marks}
use Rattle.raft_history.specs.RegionSteps.{Tables}
use Rattle.raft_table.specs.MarkJoins.{mark_of}
use Rattle.raft_table.specs.Marks.{Mark}
use Rattle.raft_table.specs.Steps.{Run}
use Rattle.raft_table.specs.Table.{Table}

-- the region mark that a table implies where its region had runs and puts alone, and no run below the first index or behind a hole: that of one run of its entries
abbrev pub implied_mark : Table → Mark
implied_mark t = mark_of (Run t.entries)

-- the region marks that all these tables imply
unfoldable pub implied_marks : Tables → Marks
implied_marks tables = finite.from_entries (map (λ e. (e.0, implied_mark e.1)) (finite.entries tables))

-- the region marks that are kept, and those that the tables of the other regions imply
unfoldable pub all_marks : Tables → Marks → Marks
all_marks tables kept = finite.from_entries (finite.entries kept ++ finite.entries (implied_marks tables))

-- 1 for a region without a table, 0 for another
abbrev pub absent_in : Tables → ℕ → ℕ
absent_in tables id = if is_some (finite.get tables id) then 0 else 1

-- how many of these regions have no table
abbrev pub count_absent : Tables → List ℕ → ℕ
count_absent tables ids = length (filter (λ id. is_none (finite.get tables id)) ids)
