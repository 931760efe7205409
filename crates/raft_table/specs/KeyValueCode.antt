-- The code of key values, by which values of their type are told apart.
use Rattle.std.specs.Prelude.{ℕ, List, refl}
use Rattle.std.specs.Coded.{Coded, code_by, coded×, coded_list, coded_ℕ}
use Rattle.std.specs.FinMap as finite
use Rattle.raft_base.specs.contracts.pipe_log.FileId as file
use Rattle.raft_base.specs.declared.pipe_log.FileId.{FileId}
use Rattle.raft_table.specs.KeyValues.{Keys, Stored}

-- a value and its file as a pair
abbrev pub stored_code : Coded Stored
stored_code =
    code_by (List ℕ × FileId) (coded× (coded_list coded_ℕ) file.the_row.coded) (λ s. (s.value, s.file)) (λ p. record { value = p.0; file = p.1 }) (λ _. refl)

-- key values as the list of their pairs
abbrev pub keys_code : Coded Keys
keys_code = finite.code (coded_list coded_ℕ) stored_code
