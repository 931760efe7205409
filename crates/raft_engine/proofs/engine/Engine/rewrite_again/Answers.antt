use Rattle.raft_engine.proofs.Common.{inl, inr, subst, sym, err_from_is_err_and, KeptEngine, AreRegions, AreMovedAgain, AreUnmovedAgain, AreRegionsMovedAgain, AreSomeRegionsMovedAgain}
use Rattle.raft_engine.proofs.RewrittenRegions.{if_err_so, ok_so}
use Rattle.raft_engine.proofs.engine.Engine.rewrite_again.Goals as goal

pub returns-in_err-rotate_rewrite-clause-err : goal.returns-in_err-rotate_rewrite-clause-err
returns-in_err-rotate_rewrite-clause-err g c =
    let p = err_from_is_err_and c.from_residual-in_err-rotate_rewrite.result c.from_residual-in_err-rotate_rewrite.ensures.1 in
    rw (p.1, p.2)
    (inr (inl (record { was = c.in_ok-tell_rewrite_queue.ensures.accepted; told = c.tell_rewrite_queue.new.self; is_told = c.in_ok-tell_rewrite_queue.ensures.ok; unbegun = c.in_err-rotate_rewrite.ensures.err })))

pub returns-clause-ok : goal.returns-clause-ok
returns-clause-ok g c =
    ok_so (AreRegionsMovedAgain c.as_slice.result.now c.rotate_rewrite.new.self c.move_regions_again.new.self) (AreMovedAgain c.args.self.now c.move_regions_again.new.self) c.move_regions_again.result
    (λ moved. record {
      told = c.tell_rewrite_queue.new.self;
      is_told = c.in_ok-tell_rewrite_queue.ensures.ok;
      begun = c.rotate_rewrite.new.self;
      is_begun = c.in_ok-rotate_rewrite.ensures.ok;
      regions = c.as_slice.result.now;
      all = subst (λ (o : KeptEngine). AreRegions o.accessor.tables c.as_slice.result.now) c.self.view_is
          (subst (AreRegions c.self.inside.accessor.tables) (sym c.as_slice.ensures.value) c.in_ok-regions.ensures.ok);
      moved = moved;
    }) c.move_regions_again.ensures.ok

pub returns-clause-err : goal.returns-clause-err
returns-clause-err g c =
    if_err_so (AreSomeRegionsMovedAgain (g.F.EngineFiles.may_fail) c.as_slice.result.now c.rotate_rewrite.new.self c.move_regions_again.new.self) (AreUnmovedAgain (g.F.EngineFiles.may_fail) c.args.self.now c.move_regions_again.new.self) c.move_regions_again.result
    (λ e some. inr (inr (record {
      was = c.in_ok-tell_rewrite_queue.ensures.accepted;
      told = c.tell_rewrite_queue.new.self;
      is_told = c.in_ok-tell_rewrite_queue.ensures.ok;
      begun = c.rotate_rewrite.new.self;
      is_begun = c.in_ok-rotate_rewrite.ensures.ok;
      regions = c.as_slice.result.now;
      all = subst (λ (o : KeptEngine). AreRegions o.accessor.tables c.as_slice.result.now) c.self.view_is
          (subst (AreRegions c.self.inside.accessor.tables) (sym c.as_slice.ensures.value) c.in_ok-regions.ensures.ok);
      some = some;
    }))) c.move_regions_again.ensures.err
