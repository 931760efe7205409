-- Numbers of files that are missing.
use Rattle.std.specs.Prelude.{ℕ, ◌+◌, ◌-◌, nat_lt, Option, Some, None, if◌then◌else◌}

-- the first and the last number between two, if the next one is more than one above the last
abbrev pub missing_behind : ℕ → ℕ → Option (ℕ × ℕ)
missing_behind last next = if nat_lt 1 (next - last) then Some (last + 1, next - 1) else None

-- so it is of two files, if there is one before
abbrev pub missing_between : Option ℕ → ℕ → Option (ℕ × ℕ)
missing_between None next = None
missing_between (Some last) next = missing_behind last next
