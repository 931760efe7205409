-- When two files whose orders are taken are equal.
use Rattle.std.specs.Prelude.{ℕ, List, refl}
use Rattle.std.specs.Coded.{Coded, code_by, coded×, coded_list, coded_ℕ}
use Rattle.raft_files.specs.Asks.{Ask}
use Rattle.raft_files.specs.AskCode.{ask_code}
use Rattle.raft_orders.specs.Handed.{Handed}

-- field by field
abbrev pub handed_code : Coded Handed
handed_code = code_by (List Ask × ℕ) (coded× (coded_list ask_code) coded_ℕ) (λ f. (f.asks, f.taken)) (λ p. record { asks = p.0; taken = p.1 }) (λ _. refl)
