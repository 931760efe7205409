use Rattle.raft_ffi.proofs.Common.{◌≡◌, ◌++◌, length, map, into_iter_items, into_iter_len, item_of}
use Rattle.raft_ffi.proofs.item_list.take_items.Given as goal

-- the items so far and those that are left make up the whole
abbrev pub invariant-loop-item : goal.invariant-loop-item
invariant-loop-item l =
    (map item_of l.items.items ++ map item_of (into_iter_items l.item-iterator) ≡ map item_of (into_iter_items l.initial.item-iterator))
    × (into_iter_len l.item-iterator ≡ length (into_iter_items l.item-iterator))
