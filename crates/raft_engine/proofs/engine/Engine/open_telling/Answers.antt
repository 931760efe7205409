use Rattle.raft_engine.proofs.Common.{inr, map, sym, subst, IfErr-weaker, IfOk-weaker, file_shown, AreDamagedTold}
use Rattle.raft_engine.proofs.ModeLemmas.{on_ok}
use Rattle.raft_engine.proofs.engine.Engine.open_telling.Goals as goal

pub returns-in-Ok-clause-ok : goal.returns-in-Ok-clause-ok
returns-in-Ok-clause-ok g c = c.of_reading.ensures.ok _ _ c.requires c.in-Ok.ensures.ok

pub returns-in-Ok-clause-recovered : goal.returns-in-Ok-clause-recovered
returns-in-Ok-clause-recovered g c = c.of_reading.ensures.recovered _ _ c.in-Ok.ensures.ok

pub returns-in-Ok-clause-accepted : goal.returns-in-Ok-clause-accepted
returns-in-Ok-clause-accepted g c = on_ok c.of_reading.result _ c.in-Ok.ensures.accepted

pub returns-in-Ok-clause-err : goal.returns-in-Ok-clause-err
returns-in-Ok-clause-err g c = IfErr-weaker c.of_reading.result _ _ (λ unopened half. inr (c.in-Ok.ensures.accepted, half)) (c.of_reading.ensures.err _ _ c.requires c.in-Ok.ensures.ok)

pub returns-in-Ok-clause-damaged : goal.returns-in-Ok-clause-damaged
returns-in-Ok-clause-damaged g c =
    IfOk-weaker c.of_reading.result _ _ (λ opened same. subst (AreDamagedTold c.args.version (map file_shown c.args.append.items)) (sym same) c.in-Ok.ensures.damaged) c.of_reading.ensures.damaged
