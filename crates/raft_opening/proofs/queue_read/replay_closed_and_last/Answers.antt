use Rattle.raft_opening.proofs.Common.{◌≡◌, List, [], IfOk, arith, subst, sym, nil_from_length, FileSize, AreClosedAndLastRead}
use Rattle.raft_opening.proofs.OnceLemmas.{parts_read}
use Rattle.raft_opening.proofs.queue_read.replay_closed_and_last.Goals as goal

pub returns : goal.returns
returns g c =
    parts_read (g.S.ReadFiles.gives c.args.source.now) c.args.mode c.args.queue c.args.version g.M.ReplayMachine.stands_for g.M.ReplayMachine.stands_exactly c.args.closed.now c.args.last c.in_ok-both.both.0 c.merge.new.self c.in_ok-both.both.1
    c.in_ok-both.ensures.older c.in_ok-both.ensures.newer c.in_ok-merge.ensures.stands c.in_ok-merge.ensures.exact

pub returns-then-count-eq0 : goal.returns-then-count-eq0
returns-then-count-eq0 g c =
    let none : c.args.closed.now ≡ [] = nil_from_length c.args.closed.now (omega (arith, c.if-count-eq0.true)) in
    subst (λ (ss : List FileSize). IfOk c.read_last.result (AreClosedAndLastRead (g.S.ReadFiles.gives c.args.source.now) c.args.mode c.args.queue c.args.version ss c.args.last g.M.ReplayMachine.stands_for g.M.ReplayMachine.stands_exactly))
    (sym none) c.read_last.ensures
