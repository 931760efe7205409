use Rattle.raft_contexts.proofs.Common.{err_from_is_err_and, event, context_in}
use Rattle.raft_contexts.proofs.ReadStateLemmas.{may_follow, refused}
use Rattle.raft_contexts.proofs.read_state.ReadState.replay.Goals as goal

pub returns-in_err-check_file : goal.returns-in_err-check_file
returns-in_err-check_file c =
    let p = err_from_is_err_and c.from_residual.result c.from_residual.ensures.1 in
    rw (p.1, p.2) (refused (event c.args.batch c.args.file) _ _ _ (c.in_err-check_file.ensures.fault c.args.batch))

pub apply_lone_batch-requires-clause-next : goal.apply_lone_batch-requires-clause-next
apply_lone_batch-requires-clause-next c = may_follow (context_in c.args.self.now) (event c.args.batch c.args.file)
    c.in_ok-check_file.ensures.queue (c.in_ok-check_file.ensures.files c.args.batch) c.in_ok-check_batch.ensures.items c.in_ok-check_batch.ensures.markers

pub add_group_batch-requires-clause-next : goal.add_group_batch-requires-clause-next
add_group_batch-requires-clause-next c = may_follow (context_in c.args.self.now) (event c.args.batch c.args.file)
    c.in_ok-check_file.ensures.queue (c.in_ok-check_file.ensures.files c.args.batch) c.in_ok-check_batch.ensures.items c.in_ok-check_batch.ensures.markers
