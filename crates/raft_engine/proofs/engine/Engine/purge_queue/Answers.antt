use Rattle.raft_engine.proofs.Common.{err_from_is_err_and, rules, ◌≡◌, ◌≢◌, inl, inr, refl, subst, AreExpired}
use Rattle.raft_engine.proofs.ExpiredRewrites.{told_expired}
use Rattle.raft_engine.proofs.KeptPurges.{told_half, told_purged, untold_unpurged}
use Rattle.raft_engine.proofs.RewrittenRegions.{told_ready}
use Rattle.raft_engine.proofs.engine.Engine.purge_queue.Goals as goal

pub returns-then-count-eq0-clause-ok : goal.returns-then-count-eq0-clause-ok
returns-then-count-eq0-clause-ok g c =
    let zero : c.in_ok-count.count ≡ 0 = search rules in
    (subst (AreExpired c.args.queue _) zero c.in_ok-count.ensures.ok, inl (refl, refl))

pub returns-in_err-tell_rewrite_queue-clause-err : goal.returns-in_err-tell_rewrite_queue-clause-err
returns-in_err-tell_rewrite_queue-clause-err g c =
    let some : c.in_ok-count.count ≢ 0 = search rules in
    let p = err_from_is_err_and c.from_residual-in_err-tell_rewrite_queue.result c.from_residual-in_err-tell_rewrite_queue.ensures.1 in
    rw (p.1, p.2) (untold_unpurged c.args.queue c.in_ok-count.count _ c.in_ok-count.ensures.ok some _ _ c.in_err-tell_rewrite_queue.ensures.err)

pub delete_expired_files-requires-clause-ready : goal.delete_expired_files-requires-clause-ready
delete_expired_files-requires-clause-ready g c = told_ready c.args.self.now c.tell_rewrite_queue.new.self c.in_ok-tell_rewrite_queue.ensures.accepted c.in_ok-tell_rewrite_queue.ensures.ok

pub delete_expired_files-requires-clause-expired : goal.delete_expired_files-requires-clause-expired
delete_expired_files-requires-clause-expired g c = told_expired c.args.queue c.args.self.now c.tell_rewrite_queue.new.self c.in_ok-count.count c.in_ok-tell_rewrite_queue.ensures.ok c.in_ok-count.ensures.ok

pub returns-in_err-delete_expired_files-clause-err : goal.returns-in_err-delete_expired_files-clause-err
returns-in_err-delete_expired_files-clause-err g c =
    let some : c.in_ok-count.count ≢ 0 = search rules in
    let p = err_from_is_err_and c.from_residual-in_err-delete_expired_files.result c.from_residual-in_err-delete_expired_files.ensures.1 in
    rw (p.1, p.2) (inr (inl (told_half c.args.queue c.in_ok-count.count _ c.in_ok-count.ensures.ok some c.tell_rewrite_queue.new.self c.in_ok-tell_rewrite_queue.ensures.ok _ _ c.in_err-delete_expired_files.ensures.err)))

pub returns-clause-ok : goal.returns-clause-ok
returns-clause-ok g c =
    let some : c.in_ok-count.count ≢ 0 = search rules in
    told_purged c.args.queue c.in_ok-count.count _ c.in_ok-count.ensures.ok some c.tell_rewrite_queue.new.self c.in_ok-tell_rewrite_queue.ensures.ok _ c.in_ok-delete_expired_files.ensures.ok
