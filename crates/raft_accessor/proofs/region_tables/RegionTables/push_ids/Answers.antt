use Rattle.raft_accessor.proofs.Common.{◌++◌, [], ◌∷◌, true, false, refl, ap, subst, ◌∙◌, called_at, KeepsId}
use Rattle.raft_accessor.proofs.WalkLemmas.{folds-first, walked}
use Rattle.raft_accessor.proofs.region_tables.RegionTables.push_ids.Goals as goal

pub loop-table-preserved-in-Continue-1 : goal.loop-table-preserved-in-Continue-1
loop-table-preserved-in-Continue-1 g c = λ last h.
    c.loop-table.invariant last (folds-first (KeepsId g.F.FnMut) (c.loop-table.wanted, c.loop-table.ids.items) (c.wanted.new.self, c.push.new.self.items) last _ _ _ c.in-Some.ensures.steps
    (subst (λ t. KeepsId g.F.FnMut (c.loop-table.wanted, c.loop-table.ids.items) t (c.wanted.new.self, c.push.new.self.items)) c.get-table.ensures
    (true, called_at g.F.FnMut c.wanted.ensures c.if-wanted.true, c.in_ok-push.ensures.items ∙ ap (λ i. c.loop-table.ids.items ++ i ∷ []) c.region_id.ensures)) h)

pub loop-table-preserved : goal.loop-table-preserved
loop-table-preserved g c = λ last h.
    c.loop-table.invariant last (folds-first (KeepsId g.F.FnMut) (c.loop-table.wanted, c.loop-table.ids.items) (c.wanted.new.self, c.loop-table.ids.items) last _ _ _ c.in-Some.ensures.steps
    (subst (λ t. KeepsId g.F.FnMut (c.loop-table.wanted, c.loop-table.ids.items) t (c.wanted.new.self, c.loop-table.ids.items)) c.get-table.ensures
    (false, called_at g.F.FnMut c.wanted.ensures c.if-wanted.false, refl)) h)

pub returns-clause-ok : goal.returns-clause-ok
returns-clause-ok g c =
    walked (KeepsId g.F.FnMut) (c.args.wanted.now, c.args.ids.now.items) (c.loop-table.wanted, c.loop-table.ids.items) c.self.inside.tables.entries c.args.self.now _ _ c.values-table-items.ensures.unique c.self.view_is
    (c.into_iter-table-iterator.ensures.into_iter_gives ∙ c.values-table-items.ensures.rest) c.in-None.ensures.steps.0 c.loop-table.invariant
