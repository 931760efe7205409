-- Steps on the tables of all regions: what the items of batches do.
use Rattle.std.specs.Prelude.{ℕ, Bool, ◌==◌, List, [], ◌∷◌, map, filter, flat_map, filter_map, Option, Some, None, option_map, if◌then◌else◌}
use Rattle.std.specs.List.{list_any}
use Rattle.std.specs.Option.{option_and_then}
use Rattle.std.specs.Ordering.{nat_cmp}
use Rattle.std.specs.FinMap as finite
use Rattle.raft_base.specs.declared.pipe_log.FileId.{FileId}
use Rattle.raft_base.specs.declared.pipe_log.LogQueue.{LogQueue}
use Rattle.raft_base.specs.declared.pipe_log.LogQueue.TheVariants.{Append, Rewrite}
use Rattle.raft_records.specs.declared.command.Command.{Command}
use Rattle.raft_records.specs.declared.command.Command.TheVariants as commands
use Rattle.raft_records.specs.declared.key_value.OpType.{OpType}
use Rattle.raft_records.specs.declared.key_value.OpType.TheVariants as operations
pub use Rattle.raft_records.specs.Group.{is_reserved}
use Rattle.raft_records.specs.Item.{Item, Content, entries, command, pair}
use Rattle.raft_table.specs.Steps.{Step, Run, Compact, Truncate, Put, Del, Clean, table_of, after_step}
use Rattle.raft_table.specs.Table.{Table}

-- a step, and the region whose table it changes
pub record RegionStep : Type 0 where
  pub region : ℕ
  pub step : Step

-- ---- the steps of items

-- the step of a change of a key that is not reserved; none of a put without a value or a file
abbrev pub pair_step : OpType → List ℕ → Option (List ℕ) → Option FileId → Option Step
pair_step operations.Put key (Some value) (Some file) = Some (Put key value file)
pair_step operations.Put key _ _ = None
pair_step operations.Del key _ _ = Some (Del key)

-- the step of a command
abbrev pub command_step : Command → Step
command_step commands.Clean = Clean
command_step (commands.Compact index) = Compact index
command_step (commands.Truncate index) = Truncate index

-- the step of a content; none of a change of the reserved key, which is skipped
abbrev pub content_step : Content → Option Step
content_step (entries es) = Some (Run es)
content_step (command c) = Some (command_step c)
content_step (pair p) = if is_reserved p.key then None else pair_step p.op_type p.key p.value p.file_id

-- the steps of items on their regions, in order
abbrev pub steps_of_items : List Item → List RegionStep
steps_of_items items =
    filter_map (λ item. option_map (λ s. record { region = item.raft_group_id; step = s }) (content_step item.content)) items

-- ---- the steps on one region

-- whether some step is on the region
unfoldable pub names : ℕ → List RegionStep → Bool
names r steps = list_any (λ s. r == s.region) steps

-- the steps on the region, in order
unfoldable pub steps_on : ℕ → List RegionStep → List Step
steps_on r steps = map (λ s. s.step) (filter (λ s. r == s.region) steps)

-- ---- the tables of all regions

-- each region's table, where it has one
abbrev pub Tables : Type 0
Tables = finite.FinMap nat_cmp Table

-- one region's table put in the place of its old one, or taken away
abbrev pub with_table : Tables → ℕ → Option Table → Tables
with_table tables r None = finite.remove tables r
with_table tables r (Some t) = finite.insert tables r t

-- all tables after steps in order; none where one is refused
abbrev pub tables_after : LogQueue → Tables → List RegionStep → Option Tables
tables_after queue tables [] = Some tables
tables_after queue tables (s ∷ steps) =
    option_and_then (λ t. tables_after queue (with_table tables s.region t) steps) (after_step queue (table_of s.region (finite.get tables s.region)) s.step)

-- ---- the regions that are cleaned

-- the region of a Clean
abbrev pub cleaned_by : ℕ → Step → List ℕ
cleaned_by r Clean = r ∷ []
cleaned_by r _ = []

-- the regions that steps clean, in order; none in the rewrite queue
abbrev pub cleaned_by_steps : LogQueue → List RegionStep → List ℕ
cleaned_by_steps Append steps = flat_map (λ s. cleaned_by s.region s.step) steps
cleaned_by_steps Rewrite steps = []
