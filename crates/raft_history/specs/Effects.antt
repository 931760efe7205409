-- What takes effect in a history, the steps of that on a region, and when effects are apart.
use Rattle.std.specs.Prelude.{◌≡◌, ◌≢◌, ◌⊎◌, ℕ, suc, ◌≤◌, Bool, true, false, not, ◌&&◌, ◌==◌, if◌then◌else◌, List, [], ◌∷◌, ◌++◌, filter, flat_map, slice_index_or, Option, Some, None}
use Rattle.std.specs.List.{AllByRecursion, list_all, list_any}
use Rattle.raft_table.specs.Steps.{Step, AtomicGroup}
use Rattle.raft_records.specs.declared.atomic_group.AtomicGroupStatus.{AtomicGroupStatus}
use Rattle.raft_records.specs.declared.atomic_group.AtomicGroupStatus.TheVariants.{Begin, Middle, End}
use Rattle.raft_history.specs.Batches.{GroupMarker, BatchSteps}
use Rattle.raft_history.specs.RegionSteps.{RegionStep, names, steps_on}

-- ---- numbered batches, and the group markers of a group

-- a batch with its number in the history
pub record Numbered : Type 0 where
  pub number : ℕ
  pub batch : BatchSteps

-- the batches with their numbers, which begin with this one
abbrev pub numbered_from : ℕ → List BatchSteps → List Numbered
numbered_from n [] = []
numbered_from n (b ∷ bs) = record { number = n; batch = b } ∷ numbered_from (suc n) bs

-- whether a group marker is there and of the group
abbrev pub is_of : ℕ → Option GroupMarker → Bool
is_of g None = false
is_of g (Some m) = g == m.group

-- the batches with a group marker of the group, in order
unfoldable pub markers_of : ℕ → List Numbered → List Numbered
markers_of g ps = filter (λ p. is_of g p.batch.marker) ps

-- whether two statuses are the same
abbrev pub is_same_status : AtomicGroupStatus → AtomicGroupStatus → Bool
is_same_status Begin Begin = true
is_same_status Middle Middle = true
is_same_status End End = true
is_same_status _ _ = false

-- whether a group marker is there and has this status
abbrev pub has_status : AtomicGroupStatus → Option GroupMarker → Bool
has_status status None = false
has_status status (Some m) = is_same_status status m.status

-- of the batches of one group: the last Begin with the Middles after it, if nothing else follows it; else nothing
unfoldable pub open_stretch : List Numbered → List Numbered
open_stretch [] = []
open_stretch (p ∷ ps) =
    if has_status Begin p.batch.marker && list_all (λ q. has_status Middle q.batch.marker) ps
    then p ∷ ps else open_stretch ps

-- ---- what takes effect

-- The batches of one effect: the last, and those before it. A batch without a group marker has none before it, a group's End has its Begin and Middles.
pub record Effect : Type 0 where
  pub earlier : List Numbered
  pub last : Numbered

-- what a group marker of this status completes, given the open stretch of its group: an End completes it, if there is one
abbrev pub completed_as : AtomicGroupStatus → List Numbered → Numbered → List Effect
completed_as End (q ∷ qs) p = record { earlier = q ∷ qs; last = p } ∷ []
completed_as _ _ p = []

-- what a batch with this group marker completes, given the batches before it: without a group marker itself alone
abbrev pub completed_by : Option GroupMarker → List Numbered → Numbered → List Effect
completed_by None before p = record { earlier = []; last = p } ∷ []
completed_by (Some m) before p = completed_as m.status (open_stretch (markers_of m.group before)) p

-- what these batches complete, one after another, given the batches before them
unfoldable pub effects_behind : List Numbered → List Numbered → List Effect
effects_behind before [] = []
effects_behind before (p ∷ ps) =
    completed_by p.batch.marker before p ++ effects_behind (before ++ p ∷ []) ps

-- the effects of a history, in the order of their last batches
abbrev pub effects : List BatchSteps → List Effect
effects h = effects_behind [] (numbered_from 0 h)

-- ---- the steps on a region

-- the steps of all batches of an effect, in order
abbrev pub region_steps_in : Effect → List RegionStep
region_steps_in e = flat_map (λ p. p.batch.steps) e.earlier ++ e.last.batch.steps

-- the steps on a region of a whole group: of its steps those on the region, and, if there are any, the numbers of the files of its Begin and its End
unfoldable pub whole_steps : ℕ → List RegionStep → ℕ → ℕ → List Step
whole_steps r steps first_seq last_seq =
    steps_on r steps ++ (if names r steps then AtomicGroup first_seq last_seq ∷ [] else [])

-- the steps on a region of an effect with these batches before its last: of one batch its own, of a group those of the whole group
abbrev pub steps_by : ℕ → List Numbered → Numbered → List Step
steps_by r [] last = steps_on r last.batch.steps
steps_by r (q ∷ qs) last =
    whole_steps r (flat_map (λ p. p.batch.steps) (q ∷ qs) ++ last.batch.steps) q.batch.seq last.batch.seq

-- the steps on a region of a history: those in its effects, in order
abbrev pub steps_of : ℕ → List BatchSteps → List Step
steps_of r h = flat_map (λ e. steps_by r e.earlier e.last) (effects h)

-- whether an effect names the region
abbrev pub is_named : ℕ → List BatchSteps → Bool
is_named r h = list_any (λ e. names r (region_steps_in e)) (effects h)

-- ---- effects that are apart

-- the number of an effect's first batch, which is its last if there is none before that
abbrev pub first_in : Effect → ℕ
first_in e = (slice_index_or e.earlier 0 e.last).number

-- two effects overlap, each taken from its first batch to its last
abbrev pub Overlap : Effect → Effect → Type 0
Overlap e f = (first_in e ≤ f.last.number) × (first_in f ≤ e.last.number)

-- an effect of several batches
abbrev pub IsGroup : Effect → Type 0
IsGroup e = e.earlier ≢ []

-- no region is named by both effects
abbrev pub ShareNoRegion : Effect → Effect → Type 0
ShareNoRegion e f = (r : ℕ) → names r (region_steps_in e) ≡ true → names r (region_steps_in f) ≡ true → ⊥

-- two effects share no region where they overlap and one of them is a group
abbrev pub AreApart : Effect → Effect → Type 0
AreApart e f = Overlap e f → IsGroup e ⊎ IsGroup f → ShareNoRegion e f

-- any two of some effects are apart
abbrev pub EachApart : List Effect → Type 0
EachApart [] = Unit {0}
EachApart (e ∷ es) = AllByRecursion (AreApart e) es × EachApart es

-- ---- groups that are not whole

-- no effect of the history ends with a group marker of the group
abbrev pub EndsNoEffect : ℕ → List BatchSteps → Type 0
EndsNoEffect g h = AllByRecursion (λ (e : Effect). is_of g e.last.batch.marker ≡ false) (effects h)

-- the history without the batches of the group
unfoldable pub without_group : ℕ → List BatchSteps → List BatchSteps
without_group g h = filter (λ b. not (is_of g b.marker)) h
