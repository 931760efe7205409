use Rattle.raft_ffi.proofs.Common.{List, OnOk, subst, Item, AreAcceptedOncePlaced, AcceptsOncePlaced}
use Rattle.raft_ffi.proofs.write_calls.check_append.Goals as goal

pub returns-clause-ok : goal.returns-clause-ok
unfolding AcceptsOncePlaced
returns-clause-ok c =
    subst (λ (items : List Item). OnOk c.check_append_writes.result (AreAcceptedOncePlaced c.args.accessor.now.tables items)) c.items.ensures c.check_append_writes.ensures.ok
