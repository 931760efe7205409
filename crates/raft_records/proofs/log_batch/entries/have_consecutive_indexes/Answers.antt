use Rattle.raft_records.proofs.Common.{◌↔◌, ℕ, map, sym, subst, IsConsecutive, IsConsecutiveFrom, entry_with_index}
use Rattle.raft_records.proofs.StringLemmas.{with_first_message}
use Rattle.raft_records.proofs.log_batch.entries.have_consecutive_indexes.Goals as goal

pub loop-entry-init : goal.loop-entry-init
loop-entry-init g c =
    let es = map (λ e. entry_with_index (g.M.MessageExt.index_of e)) c.args.entries.now in
    subst (λ (i : ℕ). IsConsecutive es ↔ IsConsecutiveFrom i es) (sym c.index-index.ensures) (with_first_message g.M.MessageExt.index_of c.args.entries.now c.in-Some.first.now c.in-Some.ensures.item.3.0 c.in-Some.ensures.item.1)
