use Rattle.raft_ffi.proofs.Common.{◌≡◌, ◌++◌, drop, map, item_of, share_of}
use Rattle.raft_ffi.proofs.write_calls.share_of.Given as goal

-- the copies so far and those of the items that are left make up the share
abbrev pub invariant-loop-item : goal.invariant-loop-item
invariant-loop-item l =
    map item_of l.share.items ++ share_of l.number (map item_of (drop l.item-index l.items)) ≡ share_of l.number (map item_of l.items)
