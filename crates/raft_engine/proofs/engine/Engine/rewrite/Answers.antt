use Rattle.raft_engine.proofs.Common.{Some, inr, subst, sym, KeptEngine, AreRegions, AreRegionsRewritten, AreSomeRewritten, IsRewritten, IsUnrewritten}
use Rattle.raft_engine.proofs.RewrittenRegions.{if_err_so, ok_so}
use Rattle.raft_engine.proofs.engine.Engine.rewrite.Goals as goal

pub returns-clause-ok : goal.returns-clause-ok
returns-clause-ok g c =
    ok_so (AreRegionsRewritten (Some c.args.gate) c.as_slice.result.now c.tell_rewrite_queue.new.self c.rewrite_regions.new.self) (IsRewritten c.args.gate c.args.self.now c.rewrite_regions.new.self) c.rewrite_regions.result
    (λ moved. record {
      told = c.tell_rewrite_queue.new.self;
      is_told = c.in_ok-tell_rewrite_queue.ensures.ok;
      regions = c.as_slice.result.now;
      all = subst (λ (o : KeptEngine). AreRegions o.accessor.tables c.as_slice.result.now) c.self.view_is
          (subst (AreRegions c.self.inside.accessor.tables) (sym c.as_slice.ensures.value) c.in_ok-regions.ensures.ok);
      moved = moved;
    }) c.rewrite_regions.ensures.ok

pub returns-clause-err : goal.returns-clause-err
returns-clause-err g c =
    if_err_so (AreSomeRewritten (g.F.EngineFiles.may_fail) (Some c.args.gate) c.as_slice.result.now c.tell_rewrite_queue.new.self c.rewrite_regions.new.self) (IsUnrewritten (g.F.EngineFiles.may_fail) c.args.gate c.args.self.now c.rewrite_regions.new.self) c.rewrite_regions.result
    (λ e some. inr (record {
      was = c.in_ok-tell_rewrite_queue.ensures.accepted;
      told = c.tell_rewrite_queue.new.self;
      is_told = c.in_ok-tell_rewrite_queue.ensures.ok;
      regions = c.as_slice.result.now;
      all = subst (λ (o : KeptEngine). AreRegions o.accessor.tables c.as_slice.result.now) c.self.view_is
          (subst (AreRegions c.self.inside.accessor.tables) (sym c.as_slice.ensures.value) c.in_ok-regions.ensures.ok);
      some = some;
    })) c.rewrite_regions.ensures.err
