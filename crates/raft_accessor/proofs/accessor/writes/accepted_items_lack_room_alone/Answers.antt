use Rattle.raft_accessor.proofs.AppendCheckLemmas.{refused_for_room}
use Rattle.raft_accessor.proofs.accessor.writes.accepted_items_lack_room_alone.Goals as goal

pub returns : goal.returns
returns c = refused_for_room
