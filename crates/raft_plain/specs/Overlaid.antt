-- The tables of both queues, and what recovery gives.
use Rattle.std.specs.Prelude.{◌≡◌, ℕ, List, map}
use Rattle.std.specs.BTreeMap.{BTreeMap}
use Rattle.std.specs.FinMap as finite
use Rattle.raft_table.specs.Overlay.{overlaid_table}
use Rattle.raft_table.specs.Table.{Table}
use Rattle.raft_history.specs.RegionSteps.{RegionStep, Tables, steps_on}
use Rattle.raft_accessor.specs.Accessor.{Accessor}
use Rattle.raft_plain.specs.Plain.{table_shown, tables_shown}
use Rattle.raft_plain.specs.declared.recovery.Recovered.{Recovered}
use Rattle.raft_plain.specs.declared.region.Region.{Region}

-- each region has its appended table over its rewritten one, by the steps on it
abbrev pub AreOverlaid : List RegionStep → Tables → Tables → Tables → Type 0
AreOverlaid steps appended rewritten both = (r : ℕ) → finite.get both r ≡ overlaid_table r (steps_on r steps) (finite.get appended r) (finite.get rewritten r)

-- the tables of all regions, by rising region
abbrev pub all_tables : BTreeMap ℕ Region → List Table
all_tables m = map (λ e. table_shown e.0 e.1) m.entries

-- what was recovered, as tables, cleaned regions and live counts
abbrev pub recovered_shown : Recovered → Accessor
recovered_shown r = record { tables = tables_shown r.regions; cleaned = r.cleaned.items; counts = record { append = r.append; written = r.rewrite; deleted = 0 } }
