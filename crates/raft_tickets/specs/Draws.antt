-- Numbers that seats draw from one word: tickets and seats as their callers see them, and what a draw does.
use Rattle.std.specs.Prelude.{◌≡◌, ℕ, ◌^◌, ◌<◌, ◌≤◌, ◌⊎◌, List, [], ◌∷◌, ◌++◌, Option, Some, None, if◌then◌else◌, nat_lt, refl}
use Rattle.std.specs.Coded.{Coded, code_by, coded×, coded_ℕ, coded_list}
use Rattle.atomic_table.specs.Seated.{TableId, table_id_coded}
use Rattle.raft_base.specs.declared.errors.Error.{Error}
use Rattle.raft_base.specs.declared.errors.Error.TheVariants as errors

-- a seat: where it draws, how many numbers are returned there, and the numbers that it drew, in order
pub record TicketSeat : Type 0 where
  pub table : TableId
  pub total : ℕ
  pub drawn : List ℕ

-- tickets: where they are drawn, how many numbers are returned, and how many seats draw
pub record Tickets : Type 0 where
  pub table : TableId
  pub total : ℕ
  pub seats : ℕ

-- a seat as where it draws, the total and its numbers
abbrev pub ticket_seat_code : Coded TicketSeat
ticket_seat_code =
    code_by (TableId × (ℕ × List ℕ)) (coded× table_id_coded (coded× coded_ℕ (coded_list coded_ℕ)))
    (λ d. (d.table, (d.total, d.drawn))) (λ p. record { table = p.0; total = p.1.0; drawn = p.1.1 }) (λ _. refl)

-- tickets as where they are drawn, the total and the count of seats
abbrev pub tickets_code : Coded Tickets
tickets_code =
    code_by (TableId × (ℕ × ℕ)) (coded× table_id_coded (coded× coded_ℕ coded_ℕ))
    (λ t. (t.table, (t.total, t.seats))) (λ p. record { table = p.0; total = p.1.0; seats = p.1.1 }) (λ _. refl)

-- a seat of these tickets
abbrev pub IsSeatOf : Tickets → TicketSeat → Type 0
IsSeatOf tickets seat = (seat.table ≡ tickets.table) × (seat.total ≡ tickets.total)

-- a seat of these tickets that has drawn nothing
abbrev pub IsNewSeatOf : Tickets → TicketSeat → Type 0
IsNewSeatOf tickets seat = IsSeatOf tickets seat × (seat.drawn ≡ [])

-- each of the numbers is below n
abbrev pub AreBelow : ℕ → List ℕ → Type 0
AreBelow n [] = Unit {0}
AreBelow n (x ∷ xs) = (x < n) × AreBelow n xs

-- each of the numbers is above n
abbrev pub AreAbove : ℕ → List ℕ → Type 0
AreAbove n [] = Unit {0}
AreAbove n (x ∷ xs) = (n < x) × AreAbove n xs

-- each number is below all that follow
abbrev pub Rises : List ℕ → Type 0
Rises [] = Unit {0}
Rises (x ∷ xs) = AreAbove x xs × Rises xs

-- a list has ended: its last number alone is not below the total
pub record HasEnded (total : ℕ) (drawn : List ℕ) : Type 0 where
  pub front : List ℕ
  pub last : ℕ
  pub split : drawn ≡ front ++ last ∷ []
  pub below : AreBelow total front
  pub past : total ≤ last

-- A draw: what is returned, and the seat's list afterwards. One more number, above all that the seat drew before, is
-- returned where it is below the total; otherwise the list ends with it. A seat whose list has ended draws no more.
abbrev pub Draw : ℕ → List ℕ → Option ℕ → List ℕ → Type 0
Draw total before (Some n) after = (n < total) × AreBelow n before × (after ≡ before ++ n ∷ [])
Draw total before None after =
    ((n : ℕ) × (total ≤ n) × AreBelow total before × (after ≡ before ++ n ∷ [])) ⊎ (HasEnded total before × (after ≡ before))

-- 1 for a number below n, else 0
abbrev pub once_below : ℕ → ℕ → ℕ
once_below x n = if nat_lt x n then 1 else 0

-- no seats, or too many of them or of numbers
abbrev pub IsOpenRefusal : ℕ → ℕ → Error → Type 0
IsOpenRefusal total seats (errors.InvalidArgument text) = (seats ≡ 0) ⊎ (2 ^ 62 ≤ seats) ⊎ (2 ^ 62 ≤ total)
IsOpenRefusal total seats errors.Memory = Unit {0}
IsOpenRefusal total seats e = ⊥
