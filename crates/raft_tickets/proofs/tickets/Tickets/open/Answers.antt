use Rattle.std.proofs.Common.{arith}
use Rattle.raft_tickets.proofs.DrawingLemmas.{opens}
use Rattle.raft_tickets.proofs.tickets.Tickets.open.Goals as goal

pub of_words-requires : goal.of_words-requires
of_words-requires c = opens c.args.total c.args.seats (omega arith) (omega arith)
