-- Pieces that workers made, and which segments they cover.
use Rattle.std.specs.Prelude.{◌≡◌, ◌≢◌, ℕ, ◌+◌, ◌<◌, ◌≤◌, ◌&&◌, if◌then◌else◌, nat_le, nat_lt, List, length, take, drop, All, Vec, Result, MatchResult}
use Rattle.std.specs.Global.{Global}
use Rattle.raft_base.specs.declared.errors.Error.{Error}
use Rattle.raft_base.specs.declared.errors.Error.TheVariants.{Memory}
use Rattle.raft_records.specs.FilePart.{Part}
use Rattle.raft_history.specs.Batches.{Event}
use Rattle.raft_history.specs.Histories.{IsSmall}
use Rattle.raft_replay.specs.declared.piece.Piece.{Piece}
use Rattle.raft_tickets.specs.Draws.{Tickets, TicketSeat, IsSeatOf, HasEnded}
use Rattle.raft_replay.specs.Segments.{SegmentsHold, CannotBeRead}
use Rattle.raft_tickets.specs.Weights.{weigh, occurrences}

-- a machine that stands exactly for so many segments from this one on
pub record IsPiece {M : Type 0} (stands_exactly : M → List Event → Type 0) (segments : List (Vec Part Global)) (from count : ℕ) (machine : M) : Type 0 where
  pub inside : from + count ≤ length segments
  pub history : List Event
  pub held : SegmentsHold (take count (drop from segments)) history
  pub exact : IsSmall history → stands_exactly machine history

-- a piece whose machine stands exactly for its segments
abbrev pub IsPieceOf : {M : Type 0} → (M → List Event → Type 0) → List (Vec Part Global) → Piece M → Type 0
IsPieceOf stands_exactly segments piece = IsPiece stands_exactly segments piece.from piece.count piece.machine.value

-- 1 for a number of these, else 0
abbrev pub covers : ℕ → ℕ → ℕ → ℕ
covers from count x = if nat_le from x && nat_lt x (from + count) then 1 else 0

-- how many pieces have the segment
abbrev pub cover_count : {M : Type 0} → ℕ → List (Piece M) → ℕ
cover_count x pieces = weigh (λ piece. covers piece.from piece.count x) pieces

-- each segment is in one piece
abbrev pub CoverOnce : {M : Type 0} → List (Vec Part Global) → List (Piece M) → Type 0
CoverOnce segments pieces = (x : ℕ) → x < length segments → cover_count x pieces ≡ 1

-- pieces of what a seat has drawn, up to its end
pub record IsDone {M : Type 0} (stands_exactly : M → List Event → Type 0) (segments : List (Vec Part Global)) (drawn : List ℕ) (pieces : List (Piece M)) : Type 0 where
  pub each : All (IsPieceOf stands_exactly segments) pieces
  pub covered : (x : ℕ) → x < length segments → cover_count x pieces ≡ occurrences x drawn
  pub ended : HasEnded (length segments) drawn

-- what a worker gives back: pieces of what its seat has drawn, or a refusal, want of memory and the factory's own aside only where the segments can't be read
abbrev pub Gives : {M : Type 0} → (M → List Event → Type 0) → (Error → Type 0) → List (Vec Part Global) → List ℕ → Result (Vec (Piece M) Global) Error → Type 0
Gives stands_exactly Own segments drawn result =
    MatchResult result (λ v. IsDone stands_exactly segments drawn v.items) (λ e. e ≢ Memory → ¬ (Own e) → CannotBeRead segments)

-- what all seats and all pieces are once every worker is back
pub record AreDone {M : Type 0} (stands_exactly : M → List Event → Type 0) (segments : List (Vec Part Global)) (tickets : Tickets) (seats : List TicketSeat) (pieces : List (Piece M)) : Type 0 where
  pub of_tickets : All (IsSeatOf tickets) seats
  pub each : All (IsPieceOf stands_exactly segments) pieces
  pub covered : (x : ℕ) → x < length segments → cover_count x pieces ≡ weigh (λ seat. occurrences x seat.drawn) seats
  pub ended : All (λ seat. HasEnded (length segments) seat.drawn) seats
