-- What workers gave back.
use Rattle.std.specs.Prelude.{◌≡◌, List, ◌∷◌, ◌++◌, Vec, IfOk, Err}
use Rattle.std.specs.Global.{Global}
use Rattle.raft_base.specs.declared.errors.Error.{Error}
use Rattle.raft_records.specs.FilePart.{Part}
use Rattle.raft_history.specs.Batches.{Event}
use Rattle.raft_replay.specs.declared.workers.Worked.{Worked}
use Rattle.raft_replay.specs.Covers.{Gives, IsDone}
use Rattle.raft_tickets.specs.Draws.{Tickets, IsSeatOf}

-- what a worker gives back: its seat, and pieces of what that has drawn or a refusal
abbrev pub IsWork : {M : Type 0} → (M → List Event → Type 0) → (Error → Type 0) → List (Vec Part Global) → Tickets → Worked M → Type 0
IsWork stands_exactly Own segments tickets worked =
    IsSeatOf tickets worked.seat × Gives stands_exactly Own segments worked.seat.drawn worked.pieces

-- a worker that gave back its seat, and pieces if it wasn't refused
abbrev pub IsBack : {M : Type 0} → (M → List Event → Type 0) → List (Vec Part Global) → Tickets → Worked M → Type 0
IsBack stands_exactly segments tickets worked =
    IsSeatOf tickets worked.seat × IfOk worked.pieces (λ v. IsDone stands_exactly segments worked.seat.drawn v.items)

-- one of the workers was refused so
pub record HasRefusal {M : Type 0} (worked : List (Worked M)) (e : Error) : Type 0 where
  pub front : List (Worked M)
  pub one : Worked M
  pub rest : List (Worked M)
  pub split : worked ≡ front ++ one ∷ rest
  pub refusal : one.pieces ≡ Err e
