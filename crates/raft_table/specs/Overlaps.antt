-- Which indexes a run shares with a table's entries.
use Rattle.std.specs.Prelude.{◌≡◌, ℕ, ◌+◌, ◌<◌, ◌≤◌, max, min}
use Rattle.raft_table.specs.declared.memtable.entries.Overlap.{Overlap}

-- of n indexes from s on and k from r on, those in both: they begin after `at` of the first and `skipped` of the second, and are `count`, one at least
pub record IsOverlap (s n r k : ℕ) (m : Overlap) : Type 0 where
  pub in_entries : s + m.at ≡ max s r
  pub in_run : r + m.skipped ≡ max s r
  pub end : max s r + m.count ≡ min (s + n) (r + k)
  pub some : 0 < m.count

-- no index is among n from s on and among k from r on
abbrev pub AreDisjoint : ℕ → ℕ → ℕ → ℕ → Type 0
AreDisjoint s n r k = min (s + n) (r + k) ≤ max s r
