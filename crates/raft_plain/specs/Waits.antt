-- Waiting stretches as the map that they are.
use Rattle.std.specs.Prelude.{ℕ, map}
use Rattle.std.specs.BTreeMap.{BTreeMap}
use Rattle.std.specs.FinMap as finite
use Rattle.raft_history.specs.RegionStepShown.{region_step_shown}
use Rattle.raft_history.specs.WaitingGroup.{OpenStretch}
use Rattle.raft_plain.specs.declared.groups.Stretch.{Stretch}
use Rattle.raft_plain.specs.Groups.{Stretches}

-- a stretch by its first file and its steps
abbrev pub stretch_shown : Stretch → OpenStretch
stretch_shown s = record { first_seq = s.first_seq; steps = map region_step_shown s.steps.items }

-- each group's stretch
abbrev pub stretches_shown : BTreeMap ℕ Stretch → Stretches
stretches_shown m = finite.from_sorted (map (λ e. (e.0, stretch_shown e.1)) m.entries)
