use Rattle.std.proofs.Common.{arith}
use Rattle.raft_recover_tests.proofs.FallingFiles.{last_behind}
use Rattle.raft_recover_tests.proofs.machines.brackets.BracketsReplayMachine.merge.Goals as goal

pub returns-clause-stands : goal.returns-clause-stands
returns-clause-stands c = λ h g _ _ l. omega (arith, l, last_behind 0 h g)

pub returns-clause-exact : goal.returns-clause-exact
returns-clause-exact c = λ h g _ _ _ l. omega (arith, l, last_behind 0 h g)
