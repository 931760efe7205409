-- Sets of keys, and key values without them.
use Rattle.std.specs.Prelude.{not}
use Rattle.std.specs.Coded.{Coded, coded_list, coded_ℕ}
use Rattle.std.specs.Ordering.{nat_cmp}
use Rattle.std.specs.Cmp.Lexicographic.{slice_cmp}
use Rattle.std.specs.FinMap as finite
use Rattle.std.specs.FinSet as finset
use Rattle.raft_table.specs.KeyValues.{Keys}

-- keys without values
abbrev pub KeySet : Type 0
KeySet = finset.FinSet (slice_cmp nat_cmp)

-- sets of keys by the list of their keys
abbrev pub key_set_code : Coded KeySet
key_set_code = finset.code (coded_list coded_ℕ)

-- the pairs whose key isn't in a set
unfoldable pub without : KeySet → Keys → Keys
without deleted keys = finite.retain_keys keys (λ k. not (finset.contains deleted k))
