-- Refusals by a text.
use Rattle.std.specs.Prelude.{◌≡◌, ℕ, List, string_bytes}
use Rattle.raft_base.specs.declared.errors.Error.{Error}
use Rattle.raft_base.specs.declared.errors.Error.TheVariants as errors

-- a refusal by this text, or for want of memory for it
abbrev pub IsCorruption : List ℕ → Error → Type 0
IsCorruption text (errors.Corruption t) = string_bytes t ≡ text
IsCorruption text errors.Memory = Unit {0}
IsCorruption text _ = ⊥

-- a refusal of an argument by this text, or for want of memory for it
abbrev pub IsArgumentRefusal : List ℕ → Error → Type 0
IsArgumentRefusal text (errors.InvalidArgument t) = string_bytes t ≡ text
IsArgumentRefusal text errors.Memory = Unit {0}
IsArgumentRefusal text _ = ⊥
