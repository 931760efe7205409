use Rattle.raft_accessor.proofs.Common.{[], ◌∷◌, map, true, false, refl, ap, subst, ◌∙◌, of_calls, called_at, map-append, Collects}
use Rattle.raft_accessor.proofs.WalkLemmas.{folds-first, walked}
use Rattle.raft_accessor.proofs.region_tables.RegionTables.push_matching.Goals as goal

pub loop-table-preserved-in-Continue-1 : goal.loop-table-preserved-in-Continue-1
loop-table-preserved-in-Continue-1 g c = (
  search of_calls,
  λ last h. c.loop-table.invariant.1 last (folds-first (Collects g.F.FnMut) (c.loop-table.f, map (λ t. t.now) c.loop-table.tables.items) (c.f.new.self, map (λ t. t.now) c.push.new.self.items) last _ _ _ c.in-Some.ensures.steps
      (subst (λ t. Collects g.F.FnMut (c.loop-table.f, map (λ t. t.now) c.loop-table.tables.items) t (c.f.new.self, map (λ t. t.now) c.push.new.self.items)) c.get-table.ensures
      (true, called_at g.F.FnMut c.f.ensures c.if-f.true, ap (map (λ t. t.now)) c.in_ok-push.ensures.items ∙ map-append (λ t. t.now) c.loop-table.tables.items (c.get-table.result ∷ []))) h),
)

pub loop-table-preserved : goal.loop-table-preserved
loop-table-preserved g c = (
  search of_calls,
  λ last h. c.loop-table.invariant.1 last (folds-first (Collects g.F.FnMut) (c.loop-table.f, map (λ t. t.now) c.loop-table.tables.items) (c.f.new.self, map (λ t. t.now) c.loop-table.tables.items) last _ _ _ c.in-Some.ensures.steps
      (subst (λ t. Collects g.F.FnMut (c.loop-table.f, map (λ t. t.now) c.loop-table.tables.items) t (c.f.new.self, map (λ t. t.now) c.loop-table.tables.items)) c.get-table.ensures
      (false, called_at g.F.FnMut c.f.ensures c.if-f.false, refl)) h),
)

pub returns-clause-ok : goal.returns-clause-ok
returns-clause-ok g c =
    walked (Collects g.F.FnMut) (c.args.f.now, map (λ t. t.now) c.args.tables.now.items) (c.loop-table.f, map (λ t. t.now) c.loop-table.tables.items)
    c.self.inside.tables.entries c.args.self.now _ _ c.values-table-items.ensures.unique c.self.view_is
    (c.into_iter-table-iterator.ensures.into_iter_gives ∙ c.values-table-items.ensures.rest) c.in-None.ensures.steps.0 c.loop-table.invariant.1
