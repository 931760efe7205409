use Rattle.raft_ffi.proofs.Common.{List, OnOk, ap, map, subst, ◌∙◌, AreAcceptedOncePlaced, Item, item_of, AcceptsShareOncePlaced, share_of}
use Rattle.raft_ffi.proofs.write_calls.check_share.Goals as goal

pub returns-clause-ok : goal.returns-clause-ok
unfolding AcceptsShareOncePlaced
returns-clause-ok c =
    subst (λ (items : List Item). OnOk c.check_append_writes.result (AreAcceptedOncePlaced c.args.tables.now.tables items))
    (ap (map item_of) c.as_slice.ensures.value ∙ c.in_ok-share.ensures.ok ∙ ap (share_of c.args.slot) c.items.ensures)
    c.check_append_writes.ensures.ok
