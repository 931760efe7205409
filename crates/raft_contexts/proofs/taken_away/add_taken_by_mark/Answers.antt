use Rattle.std.proofs.Common.{ap, sym, ◌∙◌}
use Rattle.std.proofs.lemmas.Result.{on_ok_weaker}
use Rattle.raft_contexts.specs.TakenBatches.{with_mark_told}
use Rattle.raft_contexts.proofs.TakenAwayLemmas.{tell_later}
use Rattle.raft_contexts.proofs.taken_away.add_taken_by_mark.Goals as goal

pub returns-in-None-clause-ok : goal.returns-in-None-clause-ok
returns-in-None-clause-ok c =
    on_ok_weaker c.add_steps_of_mark.result (tell_later c.args.mark.now c.args.first c.args.table.now c.args.taken.now c.add_steps_of_mark.new.told c.in-None.ensures) c.add_steps_of_mark.ensures.ok

pub returns-in-Some-clause-ok : goal.returns-in-Some-clause-ok
returns-in-Some-clause-ok c =
    on_ok_weaker c.add_dropped_front.result (λ e. e ∙ ap (λ f. with_mark_told c.args.mark.now f c.args.table.now c.args.taken.now) (sym c.in-Some.ensures.0)) c.add_dropped_front.ensures.ok
