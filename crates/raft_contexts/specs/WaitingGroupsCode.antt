-- The code of the map of waiting groups, by which its values are told apart.
use Rattle.std.specs.Prelude.{ℕ, List, Option, Some, None, Result, Ok, Err, refl, ◌≡◌}
use Rattle.std.specs.Coded.{Coded, code_by, coded×, coded_list, coded_option, coded_result, coded_ℕ}
use Rattle.std.specs.FinMap as finite
use Rattle.raft_base.specs.contracts.pipe_log.FileId as file
use Rattle.raft_base.specs.declared.pipe_log.FileId.{FileId}
use Rattle.raft_base.specs.contracts.entry_index.EntryIndex as entry
use Rattle.raft_base.specs.declared.entry_index.EntryIndex.{EntryIndex}
use Rattle.raft_table.specs.Steps.{Step, Run, Compact, Truncate, Put, Del, AtomicGroup, Clean}
use Rattle.raft_history.specs.RegionSteps.{RegionStep}
use Rattle.raft_history.specs.WaitingGroup.{GroupFront, Open, Ended, Begun, OpenStretch, WaitingGroup}
use Rattle.raft_history.specs.WaitingGroups.{WaitingGroups}

-- a step as one of a sum: what it holds, and which kind it is by where that stands
abbrev pub StepSum : Type 0
StepSum = Result (List EntryIndex) (Result (Result ℕ ℕ) (Result (List ℕ × (List ℕ × FileId)) (Result (List ℕ) (Option (ℕ × ℕ)))))

-- a step in that sum
abbrev pub step_sum : Step → StepSum
step_sum (Run run) = Ok run
step_sum (Compact i) = Err (Ok (Ok i))
step_sum (Truncate i) = Err (Ok (Err i))
step_sum (Put key value file) = Err (Err (Ok (key, (value, file))))
step_sum (Del key) = Err (Err (Err (Ok key)))
step_sum (AtomicGroup first_seq last_seq) = Err (Err (Err (Err (Some (first_seq, last_seq)))))
step_sum Clean = Err (Err (Err (Err None)))

-- the step that this stands for
abbrev pub step_from : StepSum → Step
step_from (Ok run) = Run run
step_from (Err (Ok (Ok i))) = Compact i
step_from (Err (Ok (Err i))) = Truncate i
step_from (Err (Err (Ok p))) = Put p.0 p.1.0 p.1.1
step_from (Err (Err (Err (Ok key)))) = Del key
step_from (Err (Err (Err (Err (Some p))))) = AtomicGroup p.0 p.1
step_from (Err (Err (Err (Err None)))) = Clean

-- which is the step again
pub step_again : (s : Step) → step_from (step_sum s) ≡ s
step_again (Run run) = refl
step_again (Compact i) = refl
step_again (Truncate i) = refl
step_again (Put key value file) = refl
step_again (Del key) = refl
step_again (AtomicGroup first_seq last_seq) = refl
step_again Clean = refl

-- the code of a step
abbrev pub step_code : Coded Step
step_code =
    code_by StepSum (coded_result (coded_list entry.the_row.coded) (coded_result (coded_result coded_ℕ coded_ℕ) (coded_result (coded× (coded_list coded_ℕ) (coded× (coded_list coded_ℕ) file.the_row.coded)) (coded_result (coded_list coded_ℕ) (coded_option (coded× coded_ℕ coded_ℕ))))))
    step_sum step_from step_again

-- the code of a step and its region
abbrev pub region_step_code : Coded RegionStep
region_step_code = code_by (ℕ × Step) (coded× coded_ℕ step_code) (λ s. (s.region, s.step)) (λ p. record { region = p.0; step = p.1 }) (λ _. refl)

-- a front as its steps, and the number of the file of its End
abbrev pub front_sum : GroupFront → Option (List RegionStep × Option ℕ)
front_sum (Open steps) = Some (steps, None)
front_sum (Ended steps seq) = Some (steps, Some seq)
front_sum Begun = None

-- a front of these steps, by whether it has an End
abbrev pub front_ending : List RegionStep → Option ℕ → GroupFront
front_ending steps None = Open steps
front_ending steps (Some seq) = Ended steps seq

-- the front that this stands for
abbrev pub front_from : Option (List RegionStep × Option ℕ) → GroupFront
front_from None = Begun
front_from (Some p) = front_ending p.0 p.1

-- which is the front again
pub front_again : (f : GroupFront) → front_from (front_sum f) ≡ f
front_again (Open steps) = refl
front_again (Ended steps seq) = refl
front_again Begun = refl

-- the code of a front
abbrev pub front_code : Coded GroupFront
front_code = code_by (Option (List RegionStep × Option ℕ)) (coded_option (coded× (coded_list region_step_code) (coded_option coded_ℕ))) front_sum front_from front_again

-- the code of an open stretch
abbrev pub stretch_code : Coded OpenStretch
stretch_code = code_by (ℕ × List RegionStep) (coded× coded_ℕ (coded_list region_step_code)) (λ s. (s.first_seq, s.steps)) (λ p. record { first_seq = p.0; steps = p.1 }) (λ _. refl)

-- the code of a group that waits
abbrev pub group_code : Coded WaitingGroup
group_code = code_by (GroupFront × Option OpenStretch) (coded× front_code (coded_option stretch_code)) (λ g. (g.front, g.stretch)) (λ p. record { front = p.0; stretch = p.1 }) (λ _. refl)

-- the code of all groups
abbrev pub groups_code : Coded WaitingGroups
groups_code = finite.code coded_ℕ group_code
