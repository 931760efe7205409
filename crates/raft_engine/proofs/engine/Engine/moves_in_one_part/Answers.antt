use Rattle.raft_engine.proofs.Common.{◌≡◌, None, length, option_map, refl, sym, ap, ◌∙◌, subst, arith, eq-eqb, eqb-true, KeptEngine, IsOnePartOf}
use Rattle.std.specs.FinMap as finite
use Rattle.raft_engine.proofs.MovedRegions.{one_if, one_in_none, one_in_some, only_if, some_in_one}
use Rattle.raft_engine.proofs.engine.Engine.moves_in_one_part.Goals as goal

pub returns-in_default-clause-ok : goal.returns-in_default-clause-ok
returns-in_default-clause-ok g c =
    let none : finite.get c.self.inside.accessor.tables c.args.region ≡ None = sym c.get.ensures.value ∙ ap (option_map (λ t. t.now)) c.in_default.is in
    let one = subst (λ (o : KeptEngine). IsOnePartOf c.args.region o) c.self.view_is (one_in_none c.args.region (finite.get c.self.inside.accessor.tables c.args.region) none) in
    (λ h. one, λ h. refl)

pub returns-clause-ok : goal.returns-clause-ok
returns-clause-ok g c =
    let found = sym c.in-Some.ensures.value in
    let are = c.as_slice.ensures.value ∙ c.in_ok-entries.ensures.ok in
    let long = ap length c.as_slice.ensures.value in
    let len = c.len.ensures in
    let most = c.count_in_next_part.ensures.at_most in (
      λ h. subst (λ (o : KeptEngine). IsOnePartOf c.args.region o) c.self.view_is
          (one_in_some c.args.region (finite.get c.self.inside.accessor.tables c.args.region) c.in-Some.table.now c.as_slice.result.now found are
          (one_if c.as_slice.result.now c.count_in_next_part.result c.count_in_next_part.ensures (let e = eqb-true c.count_in_next_part.result c.len.result h in omega (arith, e, long, len)))),
      λ h.
          let all = only_if c.as_slice.result.now c.count_in_next_part.result c.count_in_next_part.ensures
          (some_in_one c.args.region (finite.get c.self.inside.accessor.tables c.args.region) c.in-Some.table.now c.as_slice.result.now found are
          (subst (λ (o : KeptEngine). IsOnePartOf c.args.region o) (sym c.self.view_is) h)) in
          eq-eqb c.count_in_next_part.result c.len.result (omega (arith, all, most, long, len)),
    )
