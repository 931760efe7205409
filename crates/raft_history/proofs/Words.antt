-- Words of proofs for what definitions spell out.
use Rattle.raft_history.proofs.Common.{Middle, ◌==◌, flat_map, option_map, AllByRecursion, cons_option, list_all, FileId, EntryIndex, IsPlaceInFile, Event, Numbered, has_status, Effect, steps_by, records_in, AreInFile, HaveStatus}
use Rattle.raft_history.proofs.Common.{RegionStep, steps_of_items, Step}
use Rattle.std.specs.Prelude.{ℕ, Bool, List, Option}

-- whether a step is on the region
abbrev pub is_on : ℕ → RegionStep → Bool
is_on r s = r == s.region

-- a step, if there is one, on a region in front of others
abbrev pub with_step : ℕ → Option Step → List RegionStep → List RegionStep
with_step region o steps =
    cons_option (option_map (λ s. record { region = region; step = s }) o) steps

-- Middles alone
abbrev pub are_middles : List Numbered → Bool
are_middles ps = list_all (λ (p : Numbered). has_status Middle p.batch.marker) ps

-- the steps of batches, in order
abbrev pub region_steps_of : List Numbered → List RegionStep
region_steps_of ps = flat_map (λ p. p.batch.steps) ps

-- the steps on a region of an effect
abbrev pub steps_in : ℕ → Effect → List Step
steps_in r e = steps_by r e.earlier e.last

-- the entries and key values that a history names
abbrev pub records_in_history : List Event → ℕ
records_in_history h = records_in (flat_map (λ (e : Event). steps_of_items e.items) h)

-- the steps on a region in effects, in order
abbrev pub all_steps : ℕ → List Effect → List Step
all_steps r es = flat_map (steps_in r) es

-- every entry's place is in this file
abbrev pub ArePlacesInFile : FileId → List EntryIndex → Type 0
ArePlacesInFile file es = AllByRecursion (λ (e : EntryIndex). IsPlaceInFile file e.entries) es

-- each batch's items are as they may stand in a batch of its file
abbrev pub AreInFiles : List Event → Type 0
AreInFiles h = AllByRecursion (λ (e : Event). AreInFile e.file e.items) h

-- each batch's group markers have the byte of a status, where its queue looks at them
abbrev pub AllHaveStatus : List Event → Type 0
AllHaveStatus h = AllByRecursion (λ (e : Event). HaveStatus e.file.queue e.items) h
