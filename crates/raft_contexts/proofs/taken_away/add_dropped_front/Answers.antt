use Rattle.std.proofs.lemmas.Result.{on_ok_weaker}
use Rattle.raft_contexts.proofs.TakenAwayLemmas.{tell_now}
use Rattle.raft_contexts.proofs.taken_away.add_dropped_front.Goals as goal

pub returns-clause-ok : goal.returns-clause-ok
returns-clause-ok c =
    on_ok_weaker c.add_command_if.result
    (tell_now c.args.mark.now c.args.index c.region_id.result c.args.table.now c.args.taken.now c.add_steps_of_mark.new.told c.add_command_if.new.told c.has_entry_below-compacts.result
    c.requires.dropped c.region_id.ensures c.has_entry_below-compacts.ensures c.in_ok-add_steps_of_mark.ensures.ok)
    c.add_command_if.ensures.ok
