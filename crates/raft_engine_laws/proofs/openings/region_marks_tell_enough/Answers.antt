use Rattle.raft_engine_laws.proofs.ToldTables.{told_now, told_nothing, told_later, told_removals}
use Rattle.raft_engine_laws.proofs.openings.region_marks_tell_enough.Goals as goal

pub returns-clause-at_once : goal.returns-clause-at_once
returns-clause-at_once c = λ m kept rewritten found h. told_now m rewritten kept h found

pub returns-clause-nothing : goal.returns-clause-nothing
returns-clause-nothing c = λ m kept rewritten found h. told_nothing m rewritten kept h found

pub returns-clause-later : goal.returns-clause-later
returns-clause-later c = λ m kept rewritten found h. told_later m rewritten kept h found

pub returns-clause-removals : goal.returns-clause-removals
returns-clause-removals c = told_removals
