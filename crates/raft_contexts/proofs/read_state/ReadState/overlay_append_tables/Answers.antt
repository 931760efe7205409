use Rattle.raft_contexts.proofs.Common.{err_from_is_err_and, context_in, Append, Rewrite}
use Rattle.raft_contexts.proofs.ReadStateLemmas.{alone_of, steps_of_read}
use Rattle.raft_contexts.proofs.ReadOverlayLemmas.{too_many}
use Rattle.raft_contexts.proofs.read_state.ReadState.overlay_append_tables.Goals as goal

pub overlay-requires : goal.overlay-requires
overlay-requires c = record { own = alone_of Append (context_in c.args.append) c.requires.appended c.requires.queues.append_suits }

pub returns-in_err-overlay-clause-fault : goal.returns-in_err-overlay-clause-fault
returns-in_err-overlay-clause-fault c =
    let p = err_from_is_err_and c.from_residual.result c.from_residual.ensures.1 in
    rw (p.1, p.2) (too_many (context_in c.args.self.now) (context_in c.args.append) _ c.requires.queues c.in_err-overlay.ensures.fault)

pub returns-clause-tables : goal.returns-clause-tables
returns-clause-tables c =
    c.in_ok-overlay.ensures.ok (steps_of_read Rewrite (context_in c.args.self.now) c.requires.rewritten c.requires.queues.rewrite_suits) (steps_of_read Append (context_in c.args.append) c.requires.appended c.requires.queues.append_suits)
