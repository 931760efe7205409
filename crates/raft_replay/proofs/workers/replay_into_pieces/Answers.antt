use Rattle.raft_replay.proofs.Common.{on_passed, length, sym, ◌∙◌, arith}
use Rattle.raft_replay.proofs.WorkedLemmas.{are_back, worker_refused, all_drawn, open_refused}
use Rattle.raft_replay.proofs.workers.replay_into_pieces.Goals as goal

pub returns-then-count-eq0-clause-tile : goal.returns-then-count-eq0-clause-tile
returns-then-count-eq0-clause-tile g c x inside = let workers = c.requires.workers in absurd (omega arith)

pub returns-in_err-tickets-clause-refused : goal.returns-in_err-tickets-clause-refused
returns-in_err-tickets-clause-refused g c =
    let workers = c.requires.workers in
    on_passed _ _ c.from_residual.ensures.1
    (λ not_memory not_own. absurd (open_refused (length c.args.segments.now) c.min-count.result c.in_err-tickets.field-0.0 c.in_err-tickets.ensures.fault not_memory (omega arith) (omega arith) (omega arith)))

pub returns-in_err-seats-clause-refused : goal.returns-in_err-seats-clause-refused
returns-in_err-seats-clause-refused g c =
    on_passed _ _ c.from_residual-in_err-seats.ensures.1
    (λ not_memory not_own.
    worker_refused g.M.ReplayMachine.stands_exactly (g.F.Factory.may_refuse c.args.factory.now) c.args.segments.now c.in_ok-tickets.tickets c.in_ok-worked.worked.items
    c.in_err-seats.field-0.0 c.in_ok-worked.ensures.given (c.in_err-seats.ensures.refused not_memory) not_memory not_own)

pub close-requires : goal.close-requires
close-requires g c =
    let done = c.in_ok-seats.ensures.ok c.args.segments.now c.in_ok-tickets.tickets
    (are_back g.M.ReplayMachine.stands_exactly (g.F.Factory.may_refuse c.args.factory.now) c.args.segments.now c.in_ok-tickets.tickets
    c.in_ok-worked.worked.items c.in_ok-worked.ensures.given) in
    (c.in_ok-seats.ensures.count ∙ c.in_ok-worked.ensures.count ∙ c.in_ok-tickets.ensures.seats.0 ∙ sym c.in_ok-tickets.ensures.tickets.1, done.of_tickets)

pub returns-clause-pieces : goal.returns-clause-pieces
returns-clause-pieces g c =
    let done = c.in_ok-seats.ensures.ok c.args.segments.now c.in_ok-tickets.tickets
    (are_back g.M.ReplayMachine.stands_exactly (g.F.Factory.may_refuse c.args.factory.now) c.args.segments.now c.in_ok-tickets.tickets
    c.in_ok-worked.worked.items c.in_ok-worked.ensures.given) in done.each

pub returns-clause-tile : goal.returns-clause-tile
returns-clause-tile g c x inside =
    let done = c.in_ok-seats.ensures.ok c.args.segments.now c.in_ok-tickets.tickets
    (are_back g.M.ReplayMachine.stands_exactly (g.F.Factory.may_refuse c.args.factory.now) c.args.segments.now c.in_ok-tickets.tickets
    c.in_ok-worked.worked.items c.in_ok-worked.ensures.given) in
    let workers = c.requires.workers in
    let count = c.in_ok-seats.ensures.count ∙ c.in_ok-worked.ensures.count ∙ c.in_ok-tickets.ensures.seats.0 in
    let held = c.in_ok-seats.seats.ok.0 in
    done.covered x inside
    ∙ all_drawn (length c.args.segments.now) c.close.result c.in_ok-seats.seats.items (omega arith) done.ended c.close.ensures x inside
