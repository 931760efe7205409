use Rattle.raft_report.proofs.Common.{rules, IsNonDecreasingBy-from_sort_by_key}
use Rattle.raft_report.proofs.region_order.sort_by_region.Goals as goal

pub returns-clause-rises : goal.returns-clause-rises
returns-clause-rises c = IsNonDecreasingBy-from_sort_by_key (λ t. t.now.region_id) _ c.sort_unstable_by_key.ensures.sorted (λ a r q k. search rules)
