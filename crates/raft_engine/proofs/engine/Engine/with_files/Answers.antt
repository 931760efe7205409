use Rattle.raft_engine.proofs.Common.{refl, sym, ap, subst, ◌∙◌, List, FnOnceReturnsAtMut, Ask, KeptEngine, IsKeptBy}
use Rattle.raft_engine.proofs.engine.Engine.with_files.Goals as goal

pub invariant_of-self : goal.invariant_of-self
invariant_of-self g c =
    let e = c.self.inside in
    let gave : FnOnceReturnsAtMut g.C.FnOnce c.args.change e.files c.change.result c.change.new.arg2 = record { shown = _; shows = refl; left = _; met = c.change.ensures; leaves = refl } in
    subst (λ (l : List Ask). IsKeptBy e.version l e.append e.rewrite e.untold e.accessor e.intact) (sym (c.requires.silent e.files c.change.new.arg2 c.change.result gave)) c.self.invariant

pub returns-clause-same : goal.returns-clause-same
returns-clause-same g c =
    let e = c.self.inside in
    let gave : FnOnceReturnsAtMut g.C.FnOnce c.args.change e.files c.change.result c.change.new.arg2 = record { shown = _; shows = refl; left = _; met = c.change.ensures; leaves = refl } in
    let shown : List Ask → KeptEngine = λ l. record { version = e.version; asks = l; untold = e.untold; accessor = e.accessor; intact = e.intact } in
    ap shown (c.requires.silent e.files c.change.new.arg2 c.change.result gave) ∙ c.self.view_is

pub returns-clause-changed : goal.returns-clause-changed
returns-clause-changed g c =
    let e = c.self.inside in
    let gave : FnOnceReturnsAtMut g.C.FnOnce c.args.change e.files c.change.result c.change.new.arg2 = record { shown = _; shows = refl; left = _; met = c.change.ensures; leaves = refl } in
    (e.files, c.change.new.arg2, ap (λ (k : KeptEngine). k.asks) c.self.view_is, gave)
