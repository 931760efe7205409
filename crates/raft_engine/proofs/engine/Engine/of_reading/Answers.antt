use Rattle.raft_engine.proofs.Common.{refl, subst, List, Ask, FailsAmong, reading_asks}
use Rattle.raft_engine.proofs.OpenedLemmas.{half_opened, kept_opened, opened_so}
use Rattle.raft_engine.proofs.engine.Engine.of_reading.Goals as goal

pub invariant_of-engine : goal.invariant_of-engine
invariant_of-engine g c =
    let found = c.requires.found in
    kept_opened c.args.version found.0 found.1 _ _ _ _ _
    (opened_so c.found_files_are_stored.ensures.ready c.found_files_are_stored.ensures.stored c.found_files_are_stored.ensures.records c.args.version found.0 found.1 c.args.reading found.3
    c.ask_for_missing.new.reading _ _ found.2 c.in-Ok.ensures.ok c.ask_for_missing.ensures.same)

pub returns-in-Ok-clause-ok : goal.returns-in-Ok-clause-ok
returns-in-Ok-clause-ok g c = λ append rewrite asked found. record {
  of_version = refl;
  intact = refl;
  read = (opened_so c.found_files_are_stored.ensures.ready c.found_files_are_stored.ensures.stored c.found_files_are_stored.ensures.records c.args.version append rewrite c.args.reading found
      c.ask_for_missing.new.reading _ _ asked c.in-Ok.ensures.ok c.ask_for_missing.ensures.same).read;
}

pub returns-in-Err-clause-err : goal.returns-in-Err-clause-err
returns-in-Err-clause-err g c = λ append rewrite asked found.
    let later : List Ask = g.F.EngineFiles.asked c.ask_for_missing.new.files in
    half_opened c.found_files_are_stored.ensures.ready c.found_files_are_stored.ensures.stored c.found_files_are_stored.ensures.records c.args.version append rewrite c.args.reading found
    (g.F.EngineFiles.may_fail) later c.in-Err.error
    (subst (λ (l : List Ask). FailsAmong (g.F.EngineFiles.may_fail) (reading_asks c.args.version c.args.reading) l later c.in-Err.error) asked c.in-Err.ensures.err)
