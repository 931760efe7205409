-- A step of the code on a region, as the step that it is, and the step of an item.
use Rattle.std.specs.Prelude.{Option, option_map}
use Rattle.raft_records.specs.Item.{Item}
use Rattle.raft_table.specs.StepShown.{step_shown}
use Rattle.raft_history.specs.declared.region_step.RegionStep as code
use Rattle.raft_history.specs.RegionSteps.{RegionStep, content_step}

-- a step on a region, by its fields
abbrev pub region_step_shown : code.RegionStep → RegionStep
region_step_shown s = record { region = s.region; step = step_shown s.step }

-- the step of an item on its region, where it has one
abbrev pub item_step : Item → Option RegionStep
item_step item = option_map (λ s. record { region = item.raft_group_id; step = s }) (content_step item.content)
