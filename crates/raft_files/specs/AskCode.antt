-- When two asks are equal.
use Rattle.std.specs.Prelude.{◌≡◌, ℕ, Bool, true, false, List, Option, Some, None, Result, Ok, Err, refl}
use Rattle.std.specs.Coded.{Coded, code_by, coded×, coded_list, coded_option, coded_result, coded_bool, coded_ℕ}
use Rattle.raft_base.specs.contracts.pipe_log.FileBlockHandle as place
use Rattle.raft_base.specs.contracts.pipe_log.LogQueue as queue
use Rattle.raft_base.specs.declared.pipe_log.FileBlockHandle.{FileBlockHandle}
use Rattle.raft_base.specs.declared.pipe_log.LogQueue.{LogQueue}
use Rattle.raft_files.specs.Asks.{NumberedBytes, Act, Put, Begin, Sync, Unsynced, Delete, Cut, Found, Read, Ask}

-- an act as one of a sum: what it holds, and which kind it is by where that stands
abbrev pub ActSum : Type 0
ActSum = Result (Result (Result (List ℕ) (FileBlockHandle × List ℕ)) (List NumberedBytes)) (Result (Result ℕ ℕ) (Option Bool))

-- an act in that sum
abbrev pub act_sum : Act → ActSum
act_sum (Put bytes) = Ok (Ok (Ok bytes))
act_sum (Read at bytes) = Ok (Ok (Err (at, bytes)))
act_sum (Found files) = Ok (Err files)
act_sum (Begin seq) = Err (Ok (Ok seq))
act_sum (Cut len) = Err (Ok (Err len))
act_sum Sync = Err (Err (Some true))
act_sum Unsynced = Err (Err (Some false))
act_sum Delete = Err (Err None)

-- the act that this stands for
abbrev pub act_from : ActSum → Act
act_from (Ok (Ok (Ok bytes))) = Put bytes
act_from (Ok (Ok (Err p))) = Read p.0 p.1
act_from (Ok (Err files)) = Found files
act_from (Err (Ok (Ok seq))) = Begin seq
act_from (Err (Ok (Err len))) = Cut len
act_from (Err (Err (Some true))) = Sync
act_from (Err (Err (Some false))) = Unsynced
act_from (Err (Err None)) = Delete

-- which is the act again
pub act_again : (a : Act) → act_from (act_sum a) ≡ a
act_again (Put bytes) = refl
act_again (Read at bytes) = refl
act_again (Found files) = refl
act_again (Begin seq) = refl
act_again (Cut len) = refl
act_again Sync = refl
act_again Unsynced = refl
act_again Delete = refl

-- the code of an act
abbrev pub act_code : Coded Act
act_code = code_by ActSum (coded_result (coded_result (coded_result (coded_list coded_ℕ) (coded× place.the_row.coded (coded_list coded_ℕ))) (coded_list (coded× coded_ℕ (coded_list coded_ℕ)))) (coded_result (coded_result coded_ℕ coded_ℕ) (coded_option coded_bool))) act_sum act_from act_again

-- the code of an ask
abbrev pub ask_code : Coded Ask
ask_code = code_by (LogQueue × Act) (coded× queue.the_row.coded act_code) (λ a. (a.queue, a.act)) (λ p. record { queue = p.0; act = p.1 }) (λ _. refl)
