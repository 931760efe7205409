-- Contexts: what is held of a history of batches, when it stands for that history, and how two neighbors are merged.
use Rattle.std.specs.Prelude.{◌≡◌, ◌⊎◌, ℕ, ◌+◌, ◌≤◌, Bool, true, ◌||◌, List, [], ◌∷◌, ◌++◌, flat_map, Option, Some, None, is_some, option_map, nat_le, if◌then◌else◌}
use Rattle.std.specs.Option.{option_and_then}
use Rattle.std.specs.FinMap as finite
use Rattle.raft_base.specs.declared.pipe_log.LogQueue.{LogQueue}
use Rattle.raft_base.specs.declared.pipe_log.LogQueue.TheVariants.{Append}
use Rattle.raft_table.specs.Stands.{Stands}
use Rattle.raft_table.specs.Overlay.{HoldsDeleted, IsExactMark}
use Rattle.raft_table.specs.Steps.{Step}
use Rattle.raft_history.specs.Batches.{Event, GroupMarker, BatchSteps, batch_of, batches}
use Rattle.raft_history.specs.Effects.{steps_of, is_named}
use Rattle.raft_history.specs.Histories.{IsSoundIn, records_in, last_from, cleaned_in}
use Rattle.raft_history.specs.MarkedRegions.{MarkedRegions, no_regions, MarkedRegion, region_in, regions_after, region_steps_of_whole, region_steps_of_wholes, joined_marked, joined_regions}
use Rattle.raft_history.specs.Records.{all_records, waiting_records}
use Rattle.raft_history.specs.RegionSteps.{RegionStep, steps_of_items, cleaned_by_steps}
use Rattle.raft_history.specs.WaitingGroup.{WholeGroup, whole_group, one_marker}
use Rattle.raft_history.specs.WaitingGroups.{WaitingGroups, groups_in, known_of, joined_groups, whole_groups, groups_after}

-- ---- the files of a history

-- the queue of a history's files, and the numbers of the first and the last of them
pub record FileRange : Type 0 where
  pub queue : LogQueue
  pub first_seq : ℕ
  pub last_seq : ℕ

-- the files of a history that has a batch
abbrev pub files_of : List Event → Option FileRange
files_of [] = None
files_of (e ∷ h) = Some (record { queue = e.file.queue; first_seq = e.file.seq; last_seq = last_from e.file.seq h })

-- files that are of this queue, if there are any
abbrev pub Suits : LogQueue → Option FileRange → Type 0
Suits queue None = Unit {0}
Suits queue (Some files) = files.queue ≡ queue

-- the files of two neighbors
abbrev pub joined_files : Option FileRange → Option FileRange → Option FileRange
joined_files None newer = newer
joined_files (Some older) None = Some older
joined_files (Some older) (Some newer) = Some (record { queue = older.queue; first_seq = older.first_seq; last_seq = newer.last_seq })

-- the newer neighbor's first file isn't below the older one's last
abbrev pub follows : Option FileRange → Option FileRange → Bool
follows None newer = true
follows (Some older) None = true
follows (Some older) (Some newer) = nat_le older.last_seq newer.first_seq

-- ---- a context

-- the region marks and tables of regions, the groups that wait, the regions that were cleaned, and the files
pub record Context : Type 0 where
  pub regions : MarkedRegions
  pub groups : WaitingGroups
  pub cleaned : List ℕ
  pub files : Option FileRange

-- a context without a batch
abbrev pub new_context : Context
new_context = record { regions = no_regions; groups = finite.empty; cleaned = []; files = None }

-- the region mark and the table of one region stand for its steps; the region mark has the keys that these delete, and in the append queue their greatest compaction, and the least of their run starts and truncations
pub record RegionStandsFor (queue : LogQueue) (r : ℕ) (x : MarkedRegion) (ss : List Step) : Type 0 where
  pub stands : Stands queue r x.mark x.table ss
  pub deleted : HoldsDeleted x.mark ss
  pub exact : queue ≡ Append → IsExactMark x.mark ss

-- the region mark and the table of every region stand for its steps in the effects, and the regions that the effects name, and no others, have a region mark
pub record AreExact (queue : LogQueue) (rs : MarkedRegions) (bs : List BatchSteps) : Type 0 where
  pub each : (r : ℕ) → RegionStandsFor queue r (region_in rs r) (steps_of r bs)
  pub marked : (r : ℕ) → is_some (finite.get rs.marks r) ≡ is_named r bs

-- the context stands for a history of this queue: the history is sound, its cleaned regions are the context's, and in the append queue the regions are exact
pub record StandsIn (queue : LogQueue) (c : Context) (h : List Event) : Type 0 where
  pub sound : IsSoundIn queue h
  pub cleaned : c.cleaned ≡ cleaned_in queue h
  pub append : queue ≡ Append → AreExact Append c.regions (batches h)

-- all tables and the groups that wait hold no more records than this
abbrev pub IsBounded : Context → ℕ → Type 0
IsBounded c count = all_records c.regions.tables + waiting_records c.groups ≤ count

-- the context stands for the history: its files and its waiting groups are the history's, and it holds no more records than the history names. (Without a batch both queues suit.)
pub record StandsFor (c : Context) (h : List Event) : Type 0 where
  pub files : c.files ≡ files_of h
  pub groups : c.groups ≡ groups_in (batches h)
  pub few : IsBounded c (records_in (flat_map (λ e. steps_of_items e.items) h))
  pub stands : (queue : LogQueue) → Suits queue c.files → StandsIn queue c h

-- the context stands for the history exactly: in the rewrite queue too, the region mark and the table of every region stand for its steps in the effects
pub record IsExactFor (c : Context) (h : List Event) : Type 0 where
  pub stands : StandsFor c h
  pub regions : (queue : LogQueue) → Suits queue c.files → AreExact queue c.regions (batches h)

-- ---- a merge

-- the regions of two neighbors: first the groups that become whole between them take effect, then the newer regions are joined; none where one is refused
abbrev pub merged_regions : LogQueue → Context → Context → Option MarkedRegions
merged_regions queue c d = option_and_then (λ middle. joined_regions queue middle d.regions) (regions_after queue c.regions (region_steps_of_wholes (whole_groups c.groups d.groups)))

-- two neighbors with these regions
abbrev pub merged_with : Context → Context → MarkedRegions → Context
merged_with c d rs = record { regions = rs; groups = joined_groups c.groups d.groups; cleaned = c.cleaned ++ d.cleaned; files = joined_files c.files d.files }

-- two neighbors of one queue, merged one region after another; none where the newer files don't follow the older ones, or a region is refused. A law says that the regions may as well be merged each by itself, in any order
abbrev pub merged_context : LogQueue → Context → Context → Option Context
merged_context queue c d = if follows c.files d.files then option_map (merged_with c d) (merged_regions queue c d) else None

-- the regions of two neighbors are merged, each by itself, in no order: what a context that merges keeps to
pub record AreMerged (queue : LogQueue) (c d : Context) (new : MarkedRegions) : Type 0 where
  pub middle : MarkedRegions
  pub wholes : regions_after queue c.regions (region_steps_of_wholes (whole_groups c.groups d.groups)) ≡ Some middle
  pub regions : (r : ℕ) → joined_marked queue r (finite.get d.regions.marks r) (finite.get d.regions.tables r) (region_in middle r) ≡ Some (region_in new r)
  pub marked : (r : ℕ) → is_some (finite.get new.marks r) ≡ (is_some (finite.get middle.marks r) || is_some (finite.get d.regions.marks r))

-- a step of a group that becomes whole is refused, or a region's join is
abbrev pub AreRegionsRefused : LogQueue → Context → Context → Type 0
AreRegionsRefused queue c d =
    (regions_after queue c.regions (region_steps_of_wholes (whole_groups c.groups d.groups)) ≡ None)
    ⊎ ((middle : MarkedRegions) × (regions_after queue c.regions (region_steps_of_wholes (whole_groups c.groups d.groups)) ≡ Some middle) × ((r : ℕ) × (joined_marked queue r (finite.get d.regions.marks r) (finite.get d.regions.tables r) (region_in middle r) ≡ None)))

-- ---- one more batch

-- the steps of a group that may be whole
abbrev pub region_steps_or : Option WholeGroup → List RegionStep
region_steps_or None = []
region_steps_or (Some w) = region_steps_of_whole w

-- the steps that take effect with a batch: its own where it has no group marker, else those of the group that it makes whole
abbrev pub completed_steps : WaitingGroups → BatchSteps → Option GroupMarker → List RegionStep
completed_steps groups b None = b.steps
completed_steps groups b (Some m) = region_steps_or (whole_group (known_of groups m.group) (one_marker m.status b.steps b.seq))

-- a context with one more batch and these regions
abbrev pub taken_with : Context → Event → MarkedRegions → Context
taken_with c e rs = record { regions = rs; groups = groups_after c.groups (batch_of e) (batch_of e).marker; cleaned = c.cleaned ++ cleaned_by_steps e.file.queue (batch_of e).steps; files = joined_files c.files (files_of (e ∷ [])) }

-- a context with one more batch; none where a step is refused
abbrev pub taken_in : Context → Event → Option Context
taken_in c e = option_map (taken_with c e) (regions_after e.file.queue c.regions (completed_steps c.groups (batch_of e) (batch_of e).marker))
