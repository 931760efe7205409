use Rattle.raft_engine.proofs.BlockLemmas.{append_sound, rewrite_sound, rewrite_unsound}
use Rattle.raft_engine.proofs.blocks.check_blocks.Goals as goal

pub returns-in-Append-clause-ok : goal.returns-in-Append-clause-ok
returns-in-Append-clause-ok c = append_sound c.args.file.now c.id.result c.id.ensures c.in-Append.is

pub returns-in-Rewrite-clause-ok : goal.returns-in-Rewrite-clause-ok
returns-in-Rewrite-clause-ok c = rewrite_sound c.args.file.now c.check_all_blocks.result c.check_all_blocks.ensures.ok

pub returns-in-Rewrite-clause-refused : goal.returns-in-Rewrite-clause-refused
returns-in-Rewrite-clause-refused c = rewrite_unsound c.args.file.now c.id.result c.id.ensures c.check_all_blocks.result c.in-Rewrite.is c.check_all_blocks.ensures.refused
