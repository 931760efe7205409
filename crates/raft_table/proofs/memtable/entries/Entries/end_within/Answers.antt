use Rattle.raft_table.proofs.Facts.{subst, blocks_shown, RisesFrom, rises_expanded, end_met, end_unmet}
use Rattle.raft_table.proofs.memtable.entries.Entries.end_within.Goals as goal

pub returns-then-max-end : goal.returns-then-max-end
returns-then-max-end c =
    end_met c.self.inside.first c.args.self.now c.args.index c.args.cut c.end.result c.max.result c.cap_at_cut-end.result
    (subst (RisesFrom c.self.inside.first) c.self.view_is (rises_expanded c.self.inside.first (blocks_shown c.self.inside.blocks.items)))
    c.end.ensures c.cap_at_cut-end.ensures c.max.ensures c.if-max-end.true

pub returns : goal.returns
returns c =
    end_unmet c.self.inside.first c.args.self.now c.args.index c.args.cut c.end.result c.max.result c.cap_at_cut-end.result
    (subst (RisesFrom c.self.inside.first) c.self.view_is (rises_expanded c.self.inside.first (blocks_shown c.self.inside.blocks.items)))
    c.end.ensures c.cap_at_cut-end.ensures c.max.ensures c.if-max-end.false
