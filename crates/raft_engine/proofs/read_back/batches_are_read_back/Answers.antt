use Rattle.raft_engine.proofs.GroupReadBack.{groups_read_back}
use Rattle.raft_engine.proofs.ReadBackLemmas.{moved_read_back, written_read_back}
use Rattle.raft_engine.proofs.read_back.batches_are_read_back.Goals as goal

pub returns-clause-written : goal.returns-clause-written
returns-clause-written c =
    written_read_back c.appended_items_are_read_as_steps.ensures.tables c.appended_items_are_read_as_steps.ensures.cleaned c.items_are_read_as_steps.ensures.tables
    c.rewriting_changes_places_alone.ensures.appended c.readings_go_on.ensures.sound c.readings_go_on.ensures.reading c.placed_items_are_in_their_file.ensures

pub returns-clause-moved : goal.returns-clause-moved
returns-clause-moved c = moved_read_back c.rewriting_changes_places_alone.ensures.rewritten c.rewriting_changes_places_alone.ensures.read

pub returns-clause-groups : goal.returns-clause-groups
returns-clause-groups c = groups_read_back c.rewriting_changes_places_alone.ensures.rewritten c.rewriting_changes_places_alone.ensures.read
