use Rattle.raft_ffi.proofs.Common.{rules, IsPermutation-map}
use Rattle.raft_ffi.proofs.PairLemmas.{ordered}
use Rattle.raft_ffi.proofs.pair_calls.sort_by_key.Goals as goal

pub returns-clause-same : goal.returns-clause-same
returns-clause-same c = IsPermutation-map (λ p. (p.0.items, p.1.items)) _ _ c.sort_unstable_by.ensures.permutation

pub returns-clause-rising : goal.returns-clause-rising
returns-clause-rising c = ordered (λ p. (p.0.items, p.1.items)) _ c.sort_unstable_by.ensures.sorted (λ a r f' k. search rules)
