use Rattle.raft_tail.proofs.BrokenLemmas.{part_broken, whole_unbroken, written_broken}
use Rattle.raft_tail.proofs.laws.parts_of_batches_are_broken_off.Goals as goal

pub returns-clause-written : goal.returns-clause-written
returns-clause-written c = written_broken

pub returns-clause-laid_out : goal.returns-clause-laid_out
returns-clause-laid_out c = part_broken

pub returns-clause-whole : goal.returns-clause-whole
returns-clause-whole c = whole_unbroken
