use Rattle.raft_listing.proofs.Common.{◌≡◌, ◌<◌, ◌∙◌, ℕ, List, length, drop, sym, ap, subst, HasHeader}
use Rattle.raft_listing.proofs.walk.batch_end_by_header.Goals as goal

pub returns-in-None-clause-none : goal.returns-in-None-clause-none
returns-in-None-clause-none c offset len h =
    let left : c.split_at.result.1.now ≡ drop c.args.at c.args.part.now.bytes = c.split_at.ensures.back ∙ ap (λ (xs : List ℕ). drop c.args.at xs) c.bytes.ensures in
    subst (λ (xs : List ℕ). length xs < len) left (c.in-None.ensures.none offset len (subst (λ (xs : List ℕ). HasHeader xs offset len) (sym left) h))
