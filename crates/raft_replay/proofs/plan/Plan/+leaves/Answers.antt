use Rattle.raft_replay.proofs.Common.{◌≡◌, ◌+◌, ◌<◌, [], ◌∷◌, ◌++◌, Bor, ap, ◌∙◌, arith, not, cond-true, cond-false, Plan, leaves, weigh, one_fewer}
use Rattle.raft_replay.proofs.WalkLemmas.{nodes}
use Rattle.raft_replay.proofs.plan.Plan.+leaves.Goals as goal

pub loop-plan-smaller : goal.loop-plan-smaller
loop-plan-smaller t c =
    let one : nodes c.loop-plan.plan.now ≡ 1 = ap nodes c.in-One.is in
    let sum = one_fewer (λ (p : Bor Plan). nodes p.now) c.loop-plan.behind.items c.pop.new.self.items c.in-Some.next c.in-Some.ensures.items in
    let less : nodes c.in-Some.next.now + weigh (λ (p : Bor Plan). nodes p.now) c.pop.new.self.items
    < nodes c.loop-plan.plan.now + weigh (λ (p : Bor Plan). nodes p.now) c.loop-plan.behind.items = omega (arith, one, sum) in less

pub loop-plan-preserved : goal.loop-plan-preserved
loop-plan-preserved t c =
    let before = c.loop-plan.invariant in
    let one : leaves c.loop-plan.plan.now ≡ 1 = ap leaves c.in-One.is in
    let sum = one_fewer (λ (p : Bor Plan). leaves p.now) c.loop-plan.behind.items c.pop.new.self.items c.in-Some.next c.in-Some.ensures.items in
    (before.0 + 1, omega (arith, before.1), omega (arith, before.2, one, sum))

pub loop-plan-preserved-then-is_err : goal.loop-plan-preserved-then-is_err
loop-plan-preserved-then-is_err t c =
    let before = c.loop-plan.invariant in
    let whole : leaves c.loop-plan.plan.now ≡ leaves c.in-Join-plan.left.value + leaves c.in-Join-plan.right.value = ap leaves c.in-Join-plan.is in
    let first : leaves c.deref-plan.result.now ≡ leaves c.in-Join-plan.left.value = ap leaves c.deref-plan.ensures in
    let second : leaves c.deref-right.result.now ≡ leaves c.in-Join-plan.right.value = ap leaves c.deref-right.ensures in
    let kept : c.push.new.self.items ≡ c.loop-plan.behind.items = c.push.ensures.items ∙ cond-false _ _ _ (c.is_err.ensures.negation ∙ ap not c.if-is_err.true) in
    let same = ap (weigh (λ (p : Bor Plan). leaves p.now)) kept in (
      before.0 + leaves c.deref-right.result.now,
      omega (arith, before.1, c.leaves.ensures, c.saturating_add-count.ensures),
      omega (arith, before.2, whole, first, second, same),
    )

pub loop-plan-smaller-else-is_err : goal.loop-plan-smaller-else-is_err
loop-plan-smaller-else-is_err t c =
    let whole : nodes c.loop-plan.plan.now ≡ nodes c.in-Join-plan.left.value + nodes c.in-Join-plan.right.value + 1 = ap nodes c.in-Join-plan.is in
    let first : nodes c.deref-plan.result.now ≡ nodes c.in-Join-plan.left.value = ap nodes c.deref-plan.ensures in
    let second : nodes c.deref-right.result.now ≡ nodes c.in-Join-plan.right.value = ap nodes c.deref-right.ensures in
    let pushed : c.push.new.self.items ≡ c.loop-plan.behind.items ++ c.deref-right.result ∷ [] =
    c.push.ensures.items ∙ cond-true _ _ _ (c.is_err.ensures.negation ∙ ap not c.if-is_err.false) in
    let sum = one_fewer (λ (p : Bor Plan). nodes p.now) c.push.new.self.items c.loop-plan.behind.items c.deref-right.result pushed in
    let less : nodes c.deref-plan.result.now + weigh (λ (p : Bor Plan). nodes p.now) c.push.new.self.items
    < nodes c.loop-plan.plan.now + weigh (λ (p : Bor Plan). nodes p.now) c.loop-plan.behind.items = omega (arith, whole, first, second, sum) in less

pub loop-plan-preserved-else-is_err : goal.loop-plan-preserved-else-is_err
loop-plan-preserved-else-is_err t c =
    let before = c.loop-plan.invariant in
    let whole : leaves c.loop-plan.plan.now ≡ leaves c.in-Join-plan.left.value + leaves c.in-Join-plan.right.value = ap leaves c.in-Join-plan.is in
    let first : leaves c.deref-plan.result.now ≡ leaves c.in-Join-plan.left.value = ap leaves c.deref-plan.ensures in
    let second : leaves c.deref-right.result.now ≡ leaves c.in-Join-plan.right.value = ap leaves c.deref-right.ensures in
    let pushed : c.push.new.self.items ≡ c.loop-plan.behind.items ++ c.deref-right.result ∷ [] =
    c.push.ensures.items ∙ cond-true _ _ _ (c.is_err.ensures.negation ∙ ap not c.if-is_err.false) in
    let sum = one_fewer (λ (p : Bor Plan). leaves p.now) c.push.new.self.items c.loop-plan.behind.items c.deref-right.result pushed in
    (before.0, before.1, omega (arith, before.2, whole, first, second, sum))
