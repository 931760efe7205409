-- Why what is asked of files that others keep fails.
use Rattle.std.specs.Prelude.{◌≡◌, ◌⊎◌, List}
use Rattle.raft_base.specs.declared.errors.Error.{Error}
use Rattle.raft_base.specs.declared.errors.Error.TheVariants as errors
use Rattle.raft_files.specs.Asks.{Act, Ask, Read}

-- there is no memory, or there are too many orders
abbrev pub IsUnordered : Error → Type 0
IsUnordered e = (e ≡ errors.Memory) ⊎ (e ≡ errors.Full)

-- bytes are to be lent first
abbrev pub IsWanting : Error → Type 0
IsWanting (errors.TryAgain text) = Unit {0}
IsWanting _ = ⊥

-- there is no memory, or bytes are to be lent first
abbrev pub IsUnread : Error → Type 0
IsUnread e = (e ≡ errors.Memory) ⊎ IsWanting e

-- why an act fails: a read by bytes that aren't lent, any other where it can't be ordered
abbrev pub IsActRefused : Act → Error → Type 0
IsActRefused (Read place bytes) e = IsUnread e
IsActRefused _ e = IsUnordered e

-- with which errors what is asked fails, whatever was asked before
abbrev pub HandedFails : List Ask → Ask → Error → Type 0
HandedFails asked a e = IsActRefused a.act e
