use Rattle.std.proofs.Common.{[], ◌∷◌}
use Rattle.raft_memtable.specs.ReplayMachine.{event}
use Rattle.raft_recover_tests.proofs.FallingFiles.{last_behind, falls}
use Rattle.raft_recover_tests.proofs.machines.brackets.BracketsReplayMachine.replay.Goals as goal

pub returns-then-file_id-self-clause-refused : goal.returns-then-file_id-self-clause-refused
returns-then-file_id-self-clause-refused c = λ _ h _ l. falls c.args.self.now.last h (event c.args._batch c.args.file_id) l c.if-file_id-self.true

pub returns-clause-stands : goal.returns-clause-stands
returns-clause-stands c = λ h _ _. last_behind 0 h (event c.args._batch c.args.file_id ∷ [])

pub returns-clause-exact : goal.returns-clause-exact
returns-clause-exact c = λ h _ _. last_behind 0 h (event c.args._batch c.args.file_id ∷ [])
