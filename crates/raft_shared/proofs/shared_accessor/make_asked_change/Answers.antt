use Rattle.raft_shared.proofs.Common.{IfErr-weaker, ◌≡◌, Some, Ok, Err, inl, inr, OnOk, IfOk, after_change, IsAllowed, IsAnswer, table_in, IsChangeAnswer}
use Rattle.raft_shared.proofs.shared_accessor.make_asked_change.Goals as goal

pub returns-clause-number : goal.returns-clause-number
returns-clause-number g c =
    let old = table_in c.args.slot.now.content.tables c.args.id in
    let new = table_in c.change.new.self.content.tables c.args.id in
    elim c.change.result as (λ r. OnOk r (after_change old c.ask_for_change-change.result ≡ Some new) →
    IfOk r (IsAnswer c.ask_for_change-change.result old new) → OnOk r (IsAllowed c.ask_for_change-change.result) →
    IfOk r (IsChangeAnswer g.F.FnOnce c.args.f c.args.id)) [
      | Ok n ↦ λ e a l. (old, new, c.ask_for_change-change.result, c.ask_for_change-change.ensures.allowed, c.ask_for_change-change.ensures.gave, e, a, l)
      | Err x ↦ λ e a l. tt
    ] c.change.ensures.changed.ok c.change.ensures.answer c.change.ensures.allowed

pub returns-clause-fault : goal.returns-clause-fault
returns-clause-fault g c =
    let old = table_in c.args.slot.now.content.tables c.args.id in
    IfErr-weaker c.change.result _ _ (λ e f. elim f [
      | inl m ↦ inl (inl m)
      | inr h ↦ inr (old, c.args.slot.now.content.counts, c.ask_for_change-change.result, c.ask_for_change-change.ensures.allowed, c.ask_for_change-change.ensures.gave, h)
    ]) c.change.ensures.changed.fault
