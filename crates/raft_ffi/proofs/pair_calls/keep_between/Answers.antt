use Rattle.raft_ffi.proofs.Common.{ℕ, List, rules, ap, ◌∙◌, filter_same, option_copied, pairs_shown, is_between}
use Rattle.std.specs.Prelude.{Some}
use Rattle.raft_ffi.proofs.PairLemmas.{kept_shown}
use Rattle.raft_ffi.proofs.pair_calls.keep_between.Goals as goal

pub returns : goal.returns
returns c =
    let end = option_copied c.args.end in
    ap pairs_shown (filter_same _ (λ p. is_between (Some c.args.start.now) end p.0.items) _ (λ p b f' k. search rules) _ _ c.retain.ensures.filtered)
    ∙ kept_shown (λ p. (p.0.items, p.1.items)) (λ (p : List ℕ × List ℕ). is_between (Some c.args.start.now) end p.0) c.args.pairs.now.items
