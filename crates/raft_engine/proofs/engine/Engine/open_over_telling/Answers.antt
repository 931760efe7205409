use Rattle.raft_engine.proofs.Common.{inr, map, sym, subst, IfErr-weaker, IfOk-weaker, file_shown, AreDamagedTold}
use Rattle.raft_engine.proofs.engine.Engine.open_over_telling.Goals as goal

pub returns-in-Ok-clause-err : goal.returns-in-Ok-clause-err
returns-in-Ok-clause-err g c = IfErr-weaker c.of_reading.result _ _ (λ unopened half. inr (c.in-Ok.ensures.accepted, half)) (c.of_reading.ensures.err _ _ c.requires.asked c.in-Ok.ensures.ok)

pub returns-in-Ok-clause-damaged : goal.returns-in-Ok-clause-damaged
returns-in-Ok-clause-damaged g c =
    IfOk-weaker c.of_reading.result _ _ (λ opened same. subst (AreDamagedTold c.args.version (map file_shown c.args.append.items)) (sym same) c.in-Ok.ensures.damaged) c.of_reading.ensures.damaged
