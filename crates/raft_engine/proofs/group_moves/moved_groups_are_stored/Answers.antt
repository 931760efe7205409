use Rattle.raft_engine.proofs.GroupMoves.{group_stored}
use Rattle.raft_engine.proofs.group_moves.moved_groups_are_stored.Goals as goal

pub returns : goal.returns
returns c =
    group_stored c.told_contents_last.ensures.both c.told_contents_are_those_that_were_added.ensures.added c.told_contents_are_those_that_were_added.ensures.read
    c.groups_are_stored.ensures.begun c.groups_are_stored.ensures.goes_on c.groups_are_stored.ensures.ended c.groups_are_stored.ensures.put
