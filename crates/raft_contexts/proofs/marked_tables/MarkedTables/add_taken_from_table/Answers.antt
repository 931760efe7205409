use Rattle.std.proofs.lemmas.Result.{on_ok_weaker}
use Rattle.raft_contexts.proofs.TakenAwayLemmas.{kept_mark, under_mark}
use Rattle.raft_contexts.proofs.marked_tables.MarkedTables.add_taken_from_table.Goals as goal

pub returns-in-Some-clause-ok : goal.returns-in-Some-clause-ok
returns-in-Some-clause-ok c =
    on_ok_weaker c.add_taken_away.result
    (under_mark c.args.self.now c.args.table.now c.region_id-region.result c.in-Some.mark.now c.first_appended_index.result c.args.taken.now c.add_taken_away.new.taken c.region_id-region.ensures
    (kept_mark c.args.self.now c.region_id-region.result c.in-Some.mark.now c.in-Some.ensures) c.first_appended_index.ensures)
    c.add_taken_away.ensures.ok
