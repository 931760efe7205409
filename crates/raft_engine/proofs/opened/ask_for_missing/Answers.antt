use Rattle.raft_engine.proofs.Common.{err_from_is_err_and, ◌++◌, List, ap, ◌∙◌, sym, append_assoc, Append, Rewrite, Ask, asks_that_tell, missing_asks}
use Rattle.raft_engine.proofs.AskedLemmas.{more_failed, part_failed, some_failed}
use Rattle.raft_engine.proofs.opened.ask_for_missing.Goals as goal

pub returns-in_err-ask-clause-err : goal.returns-in_err-ask-clause-err
returns-in_err-ask-clause-err g c =
    let r = c.args.reading.now in
    let p = err_from_is_err_and c.from_residual.result c.from_residual.ensures.1 in
    let am : List Ask = missing_asks Append r.append_missing in
    let rm : List Ask = missing_asks Rewrite r.rewrite_missing in
    rw (p.1, p.2)
    (part_failed (g.F.EngineFiles.may_fail) (asks_that_tell c.args.version r.rewrite.seq r.told r.told.items) (rm ++ am) (g.F.EngineFiles.asked c.args.files.now) (g.F.EngineFiles.asked c.ask.new.files) _
    (part_failed (g.F.EngineFiles.may_fail) rm am (g.F.EngineFiles.asked c.args.files.now) (g.F.EngineFiles.asked c.ask.new.files) _ c.in_err-ask.ensures.err))

pub returns-in_err-ask-2-clause-err : goal.returns-in_err-ask-2-clause-err
returns-in_err-ask-2-clause-err g c =
    let r = c.args.reading.now in
    let p = err_from_is_err_and c.from_residual-in_err-ask-2.result c.from_residual-in_err-ask-2.ensures.1 in
    let am : List Ask = missing_asks Append r.append_missing in
    let rm : List Ask = missing_asks Rewrite r.rewrite_missing in
    rw (p.1, p.2)
    (part_failed (g.F.EngineFiles.may_fail) (asks_that_tell c.args.version r.rewrite.seq r.told r.told.items) (rm ++ am) (g.F.EngineFiles.asked c.args.files.now) (g.F.EngineFiles.asked c.ask-2.new.files) _
    (more_failed (g.F.EngineFiles.may_fail) rm am (g.F.EngineFiles.asked c.args.files.now) (g.F.EngineFiles.asked c.ask.new.files) (g.F.EngineFiles.asked c.ask-2.new.files) _ c.in_ok-ask.ensures.ok c.in_err-ask-2.ensures.err))

pub returns-clause-err : goal.returns-clause-err
returns-clause-err g c =
    let r = c.args.reading.now in
    let am : List Ask = missing_asks Append r.append_missing in
    let rm : List Ask = missing_asks Rewrite r.rewrite_missing in
    some_failed (g.F.EngineFiles.may_fail) c.put_told_batch.result (asks_that_tell c.args.version r.rewrite.seq r.told r.told.items) (rm ++ am)
    (g.F.EngineFiles.asked c.args.files.now) (g.F.EngineFiles.asked c.ask-2.new.files) (g.F.EngineFiles.asked c.put_told_batch.new.files)
    (c.in_ok-ask-2.ensures.ok ∙ ap (λ (l : List Ask). rm ++ l) c.in_ok-ask.ensures.ok ∙ sym (append_assoc rm am (g.F.EngineFiles.asked c.args.files.now))) c.put_told_batch.ensures.err
