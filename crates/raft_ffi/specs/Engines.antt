-- What the calls of an engine make of it, and which orders they hand out.
use Rattle.std.specs.Prelude.{◌≡◌, ◌⊎◌, ℕ, zero, suc, Bool, false, true, List, [], ◌∷◌, Option, None, Some, take}
use Rattle.raft_base.specs.declared.entry_index.EntryIndex.{EntryIndex}
use Rattle.raft_base.specs.declared.pipe_log.LogQueue.TheVariants.{Append}
use Rattle.raft_files.specs.Asks.{Act, Ask, Begin, Cut, Delete, Put, Sync, ask}
use Rattle.raft_records.specs.LogBatch.{Batch}
use Rattle.raft_engine_prefixes.specs.Contents.{AreBothTold}
use Rattle.raft_engine.specs.KeptEngine.{KeptEngine}
use Rattle.raft_engine.specs.Lasting.{IsLasting}
use Rattle.raft_engine.specs.WrittenBatch.{IsOneMore, IsOnlySynced, IsUnwritten}
use Rattle.raft_engine.specs.declared.recovered.CutTail.{CutTail}
use Rattle.raft_engine.specs.declared.recovered.Recovered.{Recovered}
use Rattle.raft_engine.specs.declared.recovery_mode.RecoveryMode.{RecoveryMode}
use Rattle.raft_engine.specs.declared.recovery_mode.RecoveryMode.TheVariants.{AbsoluteConsistency, TolerateTailCorruption, TolerateTornTail}
use Rattle.raft_orders.specs.Refusals.{HandedFails}
use Rattle.raft_ffi.specs.Calls.{BothHold, IsCodeOf, code_of, queue_of}
use Rattle.raft_ffi.specs.Rooms.{IsTextOf}
use Rattle.raft_ffi.specs.declared.order_calls.OrderHead.{OrderHead}
use Rattle.raft_ffi.specs.declared.status.Tail.{Tail}

-- the act of a kind, with a number, of which these bytes are put
abbrev pub act_of_kind : ℕ → ℕ → List ℕ → Act
act_of_kind zero number bytes = Put bytes
act_of_kind (suc zero) number bytes = Begin number
act_of_kind (suc (suc zero)) number bytes = Sync
act_of_kind (suc (suc (suc zero))) number bytes = Delete
act_of_kind (suc (suc (suc (suc kind)))) number bytes = Cut number

-- what is to be done, as the numbers of an order say, with the first of these bytes
abbrev pub ask_in : OrderHead → List ℕ → Ask
ask_in order bytes = ask (queue_of order.is_rewrite) (act_of_kind order.kind order.number (take order.len bytes))

-- the recovery mode of a number: 0 cuts nothing off, 2 cuts off damage, and any other is the default one
abbrev pub mode_of : ℕ → RecoveryMode
mode_of zero = AbsoluteConsistency
mode_of (suc (suc zero)) = TolerateTailCorruption
mode_of _ = TolerateTornTail

-- a tail that was cut off, if one was, in numbers, with the code and the text of the reason why no batch can be read there
abbrev pub IsTailIn : Option CutTail → Tail → List ℕ → List ℕ → Type 0
IsTailIn None tail old new = tail.is_some ≡ false
IsTailIn (Some cut) tail old new =
    (tail.is_some ≡ true) × (tail.seq ≡ cut.file) × (tail.offset ≡ cut.offset) × (tail.len ≡ cut.len) × (tail.code ≡ code_of cut.error)
    × IsTextOf cut.error old new tail.text_len

-- what was cut off from both queues is told in numbers, with the texts of the reasons
pub record AreTailsIn (append rewrite : Tail) (append_old append_new rewrite_old rewrite_new : List ℕ) (recovered : Recovered) : Type 0 where
  pub append_in : IsTailIn recovered.append append append_old append_new
  pub rewrite_in : IsTailIn recovered.rewrite rewrite rewrite_old rewrite_new

-- an error with this number says why a batch isn't written
abbrev pub IsUnwrittenAs : Bool → ℕ → Option Batch → Option Batch → KeptEngine → KeptEngine → Type 0
IsUnwrittenAs sync code batch left old new = BothHold (λ b l. IsCodeOf (IsUnwritten HandedFails sync b l old new) code) batch left

-- a sync of the append queue more is asked
abbrev pub IsSynced : KeptEngine → KeptEngine → Type 0
IsSynced old new = new ≡ record old { asks = ask Append Sync ∷ old.asks }

-- a batch was empty, and at most a sync is ordered; or it is written
abbrev pub IsWrittenOrNone : Bool → Batch → KeptEngine → KeptEngine → Type 0
IsWrittenOrNone sync batch old new = ((batch.items ≡ []) × IsOnlySynced sync old new) ⊎ IsOneMore sync batch old new

-- whichever contents are told by what was asked of an engine, what was synced lasts, whenever the machine crashes or crashed
abbrev pub Lasts : KeptEngine → Type 0
Lasts engine = (content : EntryIndex → List ℕ) → AreBothTold engine.asks content → IsLasting content engine
