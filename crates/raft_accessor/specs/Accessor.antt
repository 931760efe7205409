-- The tables of all regions.
use Rattle.std.specs.Prelude.{◌≡◌, ℕ, ◌%◌, List, sum_by, Option, Some, None}
use Rattle.std.specs.FinMap as finite
use Rattle.raft_base.specs.NumberHash.{hash_of}
use Rattle.raft_base.specs.declared.pipe_log.LogQueue.{LogQueue}
use Rattle.raft_history.specs.RegionSteps.{Tables}
use Rattle.raft_table.specs.Counts.{Counts, live}
use Rattle.raft_table.specs.Steps.{table_of}
use Rattle.raft_table.specs.Table.{Table, live_of}

-- the tables of all regions, the regions that were cleaned in order, and the counts
pub record Accessor : Type 0 where
  pub tables : Tables
  pub cleaned : List ℕ
  pub counts : Counts

-- the slot of a region: the low seven bits of its hash
unfoldable pub slot_of : ℕ → ℕ
slot_of id = hash_of id % 128

-- a region's table, an empty one where it has none
abbrev pub table_in : Tables → ℕ → Table
table_in tables id = table_of id (finite.get tables id)

-- what a table that may be there has live in a queue
abbrev pub live_in : LogQueue → Option Table → ℕ
live_in queue None = 0
live_in queue (Some t) = live_of queue t

-- how many entries and key values of all tables have their place or file in a queue
unfoldable pub live_in_all : LogQueue → Tables → ℕ
live_in_all queue tables = sum_by (live_of queue) (finite.values tables)

-- the counts are those of the tables
abbrev pub AreCountsOf : Tables → Counts → Type 0
AreCountsOf tables counts = (q : LogQueue) → live q counts ≡ live_in_all q tables
