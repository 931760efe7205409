use Rattle.raft_history.proofs.RegionLaws.{stand_none, stand_after, stand_items, stand_whole, stand_joined, stand_exact}
use Rattle.raft_history.proofs.regions.regions_stand_for_steps.Goals as goal

pub returns : goal.returns
returns c = record { none = stand_none; steps = stand_after; items = stand_items; whole = stand_whole; joined = stand_joined; exact = stand_exact }
