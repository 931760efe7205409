use Rattle.raft_inspect.proofs.Common.{Cut, ask}
use Rattle.raft_inspect.proofs.CutLemmas.{one_failed}
use Rattle.raft_inspect.proofs.cut.cut_tail.Goals as goal

pub returns-in-Some-clause-err : goal.returns-in-Some-clause-err
returns-in-Some-clause-err g c =
    let old = g.F.EngineFiles.asked c.args.files.now in
    let new = g.F.EngineFiles.asked c.truncate.new.self in
    rw c.in-Some.is (one_failed (g.F.EngineFiles.may_fail) c.truncate.result (ask c.args.queue (Cut c.in-Some.tail.offset)) old new c.truncate.ensures.err c.truncate.ensures.fault)
