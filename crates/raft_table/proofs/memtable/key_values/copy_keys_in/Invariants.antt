use Rattle.raft_table.proofs.Facts.{◌≡◌, ◌++◌, filter, map}
use Rattle.std.specs.FinSet as finset
use Rattle.raft_table.proofs.memtable.key_values.copy_keys_in.Given as goal

abbrev pub invariant-loop-key : goal.invariant-loop-key
invariant-loop-key l = map (λ k. k.items) l.keys.items ++ filter (finset.contains l.set) (map (λ e. e.0.items) l.key-iterator) ≡ filter (finset.contains l.set) (map (λ e. e.0.items) l.pairs.entries)
