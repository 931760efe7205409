use Rattle.raft_engine_laws.proofs.Common.{refl, Append}
use Rattle.raft_engine_laws.proofs.openings.contexts_hold_exact_marks.Goals as goal

pub returns : goal.returns
returns c = λ context h read suits r. (((read.stands.stands Append suits).append refl).each r).exact refl
