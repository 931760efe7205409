-- Key values as their contracts see them.
use Rattle.std.specs.Prelude.{◌≡◌, map}
use Rattle.std.specs.Ordering.{nat_cmp}
use Rattle.std.specs.Cmp.Lexicographic.{slice_cmp}
use Rattle.std.specs.FinMap as finite
use Rattle.std.specs.BTreeMap.{IsOrdered}
use Rattle.raft_base.specs.declared.pipe_log.LogQueue.TheVariants.{Rewrite}
use Rattle.raft_table.specs.declared.memtable.key_values.KeyValues.TheInside.{Inside}
use Rattle.raft_table.specs.declared.memtable.key_values.StoredValue.{StoredValue}
use Rattle.raft_table.specs.KeyValues.{Keys, Stored, pair_count}

-- what is stored, by its bytes
abbrev pub stored_of : StoredValue → Stored
stored_of s = record { value = s.value.items; file = s.file }

-- the pairs in order, as the map from keys to what is stored
abbrev pub keys_shown : Inside → Keys
keys_shown a = finite.from_sorted (map (λ e. (e.0.items, stored_of e.1)) a.pairs.entries)

-- the keys are in order, and the rewritten pairs are counted
pub record IsOrderedAndCounted (a : Inside) : Type 0 where
  pub ordered : IsOrdered (λ x y. slice_cmp nat_cmp x.items y.items) a.pairs
  pub counted : a.rewritten ≡ pair_count Rewrite (keys_shown a)
