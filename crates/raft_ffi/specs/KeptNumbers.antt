-- What a context holds, in numbers of 64 bits.
use Rattle.std.specs.Prelude.{◌≡◌, ℕ, ◌-◌, ◌^◌, min}
use Rattle.raft_history.specs.Kept as numbers
use Rattle.raft_ffi.specs.declared.context_calls.KeptNumbers.{KeptNumbers}

-- a number, or 2^64 - 1 in place of a greater one
abbrev pub capped : ℕ → ℕ
capped n = min n (2 ^ 64 - 1)

-- the six numbers, each of 64 bits
pub record AreKept (kept : numbers.Kept) (shown : KeptNumbers) : Type 0 where
  pub entries : shown.entries ≡ capped kept.entries
  pub keys : shown.keys ≡ capped kept.keys
  pub marks : shown.marks ≡ capped kept.marks
  pub deleted_keys : shown.deleted_keys ≡ capped kept.deleted_keys
  pub cleaned : shown.cleaned ≡ capped kept.cleaned
  pub waiting_items : shown.waiting_items ≡ capped kept.waiting_items
