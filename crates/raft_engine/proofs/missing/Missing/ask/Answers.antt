use Rattle.raft_engine.proofs.AskedLemmas.{first_failed, cut_failed}
use Rattle.raft_engine.proofs.missing.Missing.ask.Goals as goal

pub returns-in-FirstFile-clause-err : goal.returns-in-FirstFile-clause-err
returns-in-FirstFile-clause-err g c =
    first_failed (g.F.EngineFiles.may_fail) c.rotate.result c.args.queue c.args.self.now (g.F.EngineFiles.asked c.args.files.now) (g.F.EngineFiles.asked c.rotate.new.self) c.in-FirstFile.is c.rotate.ensures.err c.rotate.ensures.fault

pub returns-in-Cut-clause-err : goal.returns-in-Cut-clause-err
returns-in-Cut-clause-err g c =
    cut_failed (g.F.EngineFiles.may_fail) c.truncate.result c.args.queue c.args.self.now c.in-Cut.tail (g.F.EngineFiles.asked c.args.files.now)
    (g.F.EngineFiles.asked c.truncate.new.self) c.in-Cut.is c.truncate.ensures.err c.truncate.ensures.fault
