use Rattle.raft_tail.proofs.Common.{◌↔◌, ℕ, List, IsTrue, refl, subst, BeginsWhole}
use Rattle.raft_tail.proofs.WholeLemmas.{begins_nothing, unfinished}
use Rattle.raft_tail.proofs.broken.lacks_items.Goals as goal

pub returns-then-offset-bytes-clause-ok : goal.returns-then-offset-bytes-clause-ok
returns-then-offset-bytes-clause-ok c = (λ e. begins_nothing c.args.signature c.args.offset c.args.bytes.now c.if-offset-bytes.true, λ none. refl)

pub returns-clause-ok : goal.returns-clause-ok
returns-clause-ok c =
    let whole = c.in_ok-begins_with_whole_items.field-0 in
    unfinished whole (subst (λ (t : List ℕ). IsTrue whole ↔ BeginsWhole c.args.signature t) c.split_at.ensures.back c.in_ok-begins_with_whole_items.ensures.ok)
