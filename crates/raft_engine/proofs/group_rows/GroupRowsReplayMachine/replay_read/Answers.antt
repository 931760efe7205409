use Rattle.raft_engine.proofs.Common.{refl, event}
use Rattle.raft_engine.proofs.GroupRowLemmas.{one_more}
use Rattle.raft_engine.proofs.group_rows.GroupRowsReplayMachine.replay_read.Goals as goal

pub returns-then-has_surely_no_marker-clause-stands : goal.returns-then-has_surely_no_marker-clause-stands
returns-then-has_surely_no_marker-clause-stands c = λ h small a.
    one_more c.args.self.now c.of_batch.result c.join_newer.new.self c.join_newer.ensures h (event c.args.batch.now c.args.file_id) a
    (c.of_batch.ensures (event c.args.batch.now c.args.file_id) (record { marker = c.has_surely_no_marker.ensures c.if-has_surely_no_marker.true; seq = refl }))

pub returns-then-has_surely_no_marker-clause-exact : goal.returns-then-has_surely_no_marker-clause-exact
returns-then-has_surely_no_marker-clause-exact c = λ h small a.
    one_more c.args.self.now c.of_batch.result c.join_newer.new.self c.join_newer.ensures h (event c.args.batch.now c.args.file_id) a
    (c.of_batch.ensures (event c.args.batch.now c.args.file_id) (record { marker = c.has_surely_no_marker.ensures c.if-has_surely_no_marker.true; seq = refl }))
