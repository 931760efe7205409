-- What a context holds, number by number, and what it may hold.
use Rattle.std.specs.Prelude.{ℕ, ◌+◌, ◌≤◌, List, map, flat_map, length}
use Rattle.std.specs.Ordering.{nat_cmp}
use Rattle.std.specs.FinMap as finite
use Rattle.std.specs.FinSet as finset
use Rattle.raft_base.specs.declared.pipe_log.LogQueue.{LogQueue}
use Rattle.raft_table.specs.KeySets.{KeySet}
use Rattle.raft_table.specs.Marks.{Mark}
use Rattle.raft_table.specs.Overlay.{deleted_of}
use Rattle.raft_table.specs.Table.{Table}
use Rattle.raft_history.specs.Batches.{Event, BatchSteps, batches}
use Rattle.raft_history.specs.Contexts.{Context}
use Rattle.raft_history.specs.Effects.{Effect, effects, region_steps_in, steps_of}
use Rattle.raft_history.specs.Histories.{cleaned_in}
use Rattle.raft_history.specs.Records.{total}
use Rattle.raft_history.specs.RegionSteps.{RegionStep, Tables}
use Rattle.raft_history.specs.WaitingGroups.{groups_in, waiting_steps}

-- six numbers: entries and key values in tables; marks, that is, regions with a region mark and groups with a group marker; deleted keys; cleaned regions; items that wait
pub record Kept : Type 0 where
  pub entries : ℕ
  pub keys : ℕ
  pub marks : ℕ
  pub deleted_keys : ℕ
  pub cleaned : ℕ
  pub waiting_items : ℕ

-- what a context holds
abbrev pub kept_of : Context → Kept
kept_of c = record {
  entries = total (λ (t : Table). length t.entries) c.regions.tables;
  keys = total (λ (t : Table). finite.len t.keys) c.regions.tables;
  marks = finite.len c.regions.marks + finite.len c.groups;
  deleted_keys = total (λ (m : Mark). finset.len m.deleted) c.regions.marks;
  cleaned = length c.cleaned;
  waiting_items = waiting_steps c.groups;
}

-- the regions that effects name, in order
abbrev pub named_by : List Effect → List ℕ
named_by es = flat_map (λ e. map (λ (s : RegionStep). s.region) (region_steps_in e)) es

-- each region that a history names, with the keys that are deleted there since its last Clean
unfoldable pub deleted_in : List BatchSteps → finite.FinMap nat_cmp KeySet
deleted_in bs = finite.from_entries (map (λ r. (r, deleted_of finset.empty (steps_of r bs))) (named_by (effects bs)))

-- what a context of a history may hold, by the tables of one reading: their entries and key values; the regions that the effects name and the groups that have a group marker; the keys deleted since each region's last Clean; the cleaned regions; the items of fronts and open stretches
abbrev pub kept_by : LogQueue → List Event → Tables → Kept
kept_by queue h tables = record {
  entries = total (λ (t : Table). length t.entries) tables;
  keys = total (λ (t : Table). finite.len t.keys) tables;
  marks = finite.len (deleted_in (batches h)) + finite.len (groups_in (batches h));
  deleted_keys = total finset.len (deleted_in (batches h));
  cleaned = length (cleaned_in queue h);
  waiting_items = waiting_steps (groups_in (batches h));
}

-- each of the six numbers is at most the other's
pub record IsAtMost (a b : Kept) : Type 0 where
  pub entries : a.entries ≤ b.entries
  pub keys : a.keys ≤ b.keys
  pub marks : a.marks ≤ b.marks
  pub deleted_keys : a.deleted_keys ≤ b.deleted_keys
  pub cleaned : a.cleaned ≤ b.cleaned
  pub waiting_items : a.waiting_items ≤ b.waiting_items
