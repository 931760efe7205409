-- The code of slots, by which values of their type are told apart.
use Rattle.std.specs.Prelude.{ℕ, refl}
use Rattle.std.specs.Coded.{Coded, code_by, coded×, coded_ℕ}
use Rattle.raft_accessor.specs.Accessor.{Accessor}
use Rattle.raft_accessor.specs.AccessorCode.{accessor_code}
use Rattle.raft_shared.specs.Slot.{Slot}

-- a slot as its number and its content
abbrev pub slot_code : Coded Slot
slot_code = code_by (ℕ × Accessor) (coded× coded_ℕ accessor_code) (λ s. (s.number, s.content)) (λ p. record { number = p.0; content = p.1 }) (λ _. refl)
