use Rattle.raft_engine.proofs.GroupRowLemmas.{none_marked}
use Rattle.raft_engine.proofs.group_rows.has_surely_no_marker.Goals as goal

pub returns-in-Rewrite : goal.returns-in-Rewrite
returns-in-Rewrite c = λ lone. rw c.in-Rewrite.is (none_marked c.parts.result.1.now c.parts.result.0 c.parts.result.2.now c.args.batch.now (c.surely_none_is_marker.ensures lone) c.parts.ensures.shown)
