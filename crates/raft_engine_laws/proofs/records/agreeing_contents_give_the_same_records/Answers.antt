use Rattle.raft_engine_laws.proofs.AlikeContents.{alike_have}
use Rattle.raft_engine_laws.proofs.records.agreeing_contents_give_the_same_records.Goals as goal

pub returns : goal.returns
returns c = alike_have
