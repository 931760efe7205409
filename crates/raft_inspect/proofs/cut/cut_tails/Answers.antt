use Rattle.raft_inspect.proofs.Common.{on_passed, Append, Rewrite, cut_asked}
use Rattle.raft_inspect.proofs.CutLemmas.{first_failed}
use Rattle.raft_inspect.proofs.cut.cut_tails.Goals as goal

pub returns-in_err-cut_tail-in-Opens-clause-err : goal.returns-in_err-cut_tail-in-Opens-clause-err
returns-in_err-cut_tail-in-Opens-clause-err g c =
    let first = cut_asked Append c.in-Opens.recovered.append in
    let second = cut_asked Rewrite c.in-Opens.recovered.rewrite in
    rw c.in-Opens.is (on_passed _ _ c.from_residual.ensures.1 (first_failed (g.F.EngineFiles.may_fail) second first (g.F.EngineFiles.asked c.args.files.now) (g.F.EngineFiles.asked c.cut_tail.new.files) c.in_err-cut_tail-in-Opens.field-0.0 c.in_err-cut_tail-in-Opens.ensures.err))
