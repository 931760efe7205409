use Rattle.raft_engine.proofs.Common.{joined_summary, rows_shown}
use Rattle.raft_engine.proofs.group_rows.GroupRowsReplayMachine.merge.Goals as goal

pub returns-clause-stands : goal.returns-clause-stands
returns-clause-stands c = λ h g small a b. joined_summary (rows_shown c.args.self.now) (rows_shown c.args.rhs) (rows_shown c.join_newer.new.self) c.join_newer.ensures h g a b

pub returns-clause-exact : goal.returns-clause-exact
returns-clause-exact c = λ h g small apart a b. joined_summary (rows_shown c.args.self.now) (rows_shown c.args.rhs) (rows_shown c.join_newer.new.self) c.join_newer.ensures h g a b
