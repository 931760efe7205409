use Rattle.raft_ffi.proofs.Common.{ℕ, List, filter, subst, ap, ◌∙◌, IsPermutation, option_copied, pairs_shown, is_between}
use Rattle.std.specs.Prelude.{Some}
use Rattle.raft_ffi.proofs.pair_calls.copy_pairs_between.Goals as goal

pub returns-clause-ok : goal.returns-clause-ok
returns-clause-ok c =
    let kept = filter (λ (p : List ℕ × List ℕ). is_between (Some c.args.start.now) (option_copied c.args.end) p.0) in
    record {
      all = subst (λ l. IsPermutation l (pairs_shown c.sort_by_key.new.pairs.items)) (c.keep_between.ensures ∙ ap kept c.in_ok-found.ensures.ok) c.sort_by_key.ensures.same;
      rising = c.sort_by_key.ensures.rising;
    }
