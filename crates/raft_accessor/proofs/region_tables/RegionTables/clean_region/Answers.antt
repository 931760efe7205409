use Rattle.raft_accessor.proofs.Common.{Append, Rewrite, sym, append-nil, err_from_is_err_and, Clean}
use Rattle.raft_accessor.proofs.UpdateLemmas.{clean_taken, not_listed}
use Rattle.raft_accessor.proofs.region_tables.RegionTables.clean_region.Goals as goal

pub returns-in_err-push-in-Append : goal.returns-in_err-push-in-Append
returns-in_err-push-in-Append c =
    let p = err_from_is_err_and c.from_residual.result c.from_residual.ensures.1 in
    rw (p.1, p.2, c.in_err-push-in-Append.ensures.items) (not_listed c.args.queue c.args.id Clean c.args.self.now c.args.stats.now c.args.cleaned.now.items)

pub returns-in_ok-push-in-Append : goal.returns-in_ok-push-in-Append
returns-in_ok-push-in-Append c = rw c.in-Append.is
    (clean_taken Append c.args.id c.args.self.now c.args.stats.now c.args.cleaned.now.items c.remove.new.self c.remove.new.stats c.push.new.self.items
    c.remove.ensures.after c.remove.ensures.counts c.remove.ensures.recounted c.in_ok-push-in-Append.ensures.items)

pub returns-in-Rewrite : goal.returns-in-Rewrite
returns-in-Rewrite c = rw c.in-Rewrite.is
    (clean_taken Rewrite c.args.id c.args.self.now c.args.stats.now c.args.cleaned.now.items c.remove-in-Rewrite.new.self
    c.remove-in-Rewrite.new.stats c.args.cleaned.now.items c.remove-in-Rewrite.ensures.after c.remove-in-Rewrite.ensures.counts
    c.remove-in-Rewrite.ensures.recounted (sym (append-nil c.args.cleaned.now.items)))
