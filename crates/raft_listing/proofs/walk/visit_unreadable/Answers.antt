use Rattle.raft_listing.proofs.Common.{refl, damage}
use Rattle.raft_listing.proofs.WalkLemmas.{damage_met}
use Rattle.raft_listing.proofs.walk.visit_unreadable.Goals as goal

pub visit_damage-requires-clause-met : goal.visit_damage-requires-clause-met
visit_damage-requires-clause-met g c =
    damage_met c.args.part.now c.args.at c.batch_end_by_header-next.result c.args.reason c.requires.other c.requires.none c.requires.fault c.batch_end_by_header-next.ensures.some c.batch_end_by_header-next.ensures.none

pub returns-clause-ok : goal.returns-clause-ok
returns-clause-ok g c = record {
  met = damage c.batch_end_by_header-next.result c.args.reason;
  is_met =
      damage_met c.args.part.now c.args.at c.batch_end_by_header-next.result c.args.reason c.requires.other c.requires.none c.requires.fault c.batch_end_by_header-next.ensures.some c.batch_end_by_header-next.ensures.none;
  goes_on = refl;
  visited = c.in_ok-visit_damage.ensures.ok;
}
