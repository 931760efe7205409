-- Sets of keys as their contracts see them.
use Rattle.std.specs.Prelude.{map}
use Rattle.std.specs.Ordering.{nat_cmp}
use Rattle.std.specs.Cmp.Lexicographic.{slice_cmp}
use Rattle.std.specs.FinSet as finset
use Rattle.std.specs.BTreeMap.{IsOrdered}
use Rattle.raft_table.specs.declared.memtable.deleted_keys.DeletedKeys.TheInside.{Inside}
use Rattle.raft_table.specs.KeySets.{KeySet}

-- the keys by their bytes
abbrev pub key_set_shown : Inside → KeySet
key_set_shown a = finset.from_list (map (λ e. e.0.items) a.keys.entries)

-- the keys are in order
abbrev pub IsInOrder : Inside → Type 0
IsInOrder a = IsOrdered (λ x y. slice_cmp nat_cmp x.items y.items) a.keys
