use Rattle.raft_accessor.proofs.Common.{◌∙◌, Makes}
use Rattle.raft_accessor.proofs.WalkLemmas.{folds-first, walked}
use Rattle.raft_accessor.proofs.region_tables.RegionTables.fold.Goals as goal

pub loop-table-preserved : goal.loop-table-preserved
loop-table-preserved g c = λ last h.
    c.loop-table.invariant last (folds-first (Makes g.F.FnMut) (c.loop-table.f, c.loop-table.answer) (c.f-answer.new.self, c.f-answer.result) last _ _ _ c.in-Some.ensures.steps (c.get.result, c.get.ensures, c.f-answer.ensures) h)

pub returns : goal.returns
returns g c = walked (Makes g.F.FnMut) (c.args.f.now, c.args.init) (c.loop-table.f, c.loop-table.answer) c.self.inside.tables.entries c.args.self.now _ _ c.values-table-items.ensures.unique c.self.view_is
    (c.into_iter-table-iterator.ensures.into_iter_gives ∙ c.values-table-items.ensures.rest) c.in-None.ensures.steps.0 c.loop-table.invariant
