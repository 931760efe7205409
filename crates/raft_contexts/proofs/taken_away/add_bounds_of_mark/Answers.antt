use Rattle.std.proofs.Common.{sym, ◌∙◌}
use Rattle.std.proofs.lemmas.Result.{on_ok_weaker}
use Rattle.raft_contexts.proofs.TakenAwayLemmas.{told_cut}
use Rattle.raft_contexts.proofs.taken_away.add_bounds_of_mark.Goals as goal

pub returns-in-Some-clause-ok : goal.returns-in-Some-clause-ok
returns-in-Some-clause-ok c =
    on_ok_weaker c.add_command_if-in-Some.result
    (told_cut c.args.told.now c.add_command_if-2.new.told c.add_command_if-in-Some.new.told c.args.mark.now c.args.table.now c.region_id-region.result c.floor-index.result c.in-Some.index
    c.has_entry_below-compacts.result c.has_entry_from-truncates.result c.region_id-region.ensures (sym c.is_cleaned.ensures ∙ c.if-is_cleaned.false) c.floor-index.ensures
    (sym c.cut.ensures ∙ c.in-Some.is) c.has_entry_below-compacts.ensures c.has_entry_from-truncates.ensures c.in_ok-add_command_if.ensures.ok)
    c.add_command_if-in-Some.ensures.ok
