-- A step of the code, as the step that it is.
use Rattle.raft_table.specs.declared.step.Step as code
use Rattle.raft_table.specs.declared.step.Step.TheVariants as steps
use Rattle.raft_table.specs.Steps.{Step, Run, Compact, Truncate, Put, Del, AtomicGroup, Clean}

-- a step by its cases
abbrev pub step_shown : code.Step → Step
step_shown (steps.Run run) = Run run.items
step_shown (steps.Compact index) = Compact index
step_shown (steps.Truncate index) = Truncate index
step_shown (steps.Put key value file) = Put key.items value.items file
step_shown (steps.Del key) = Del key.items
step_shown (steps.AtomicGroup first_seq last_seq) = AtomicGroup first_seq last_seq
step_shown steps.Clean = Clean
