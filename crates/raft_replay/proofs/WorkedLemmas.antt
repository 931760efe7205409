-- Workers that are back: one more of them, one that was refused, and all.
use Rattle.raft_replay.proofs.Common.{◌≡◌, ◌≢◌, ℕ, ◌^◌, ◌<◌, inl, inr, List, [], ◌∷◌, ◌++◌, All, Vec, Result, Ok, Err, IfOk, length, get_or, refl, ap, ◌∙◌, subst, arith, length-append, Global, nat_tests, get_or_at, All-push, All-append}
use Rattle.raft_replay.proofs.Common.{recursion_from_All, Error, Part, Event, Piece, Worked, IsPieceOf, covers, IsDone, AreDone, Gives, Tickets, TicketSeat, IsSeatOf, HasEnded, once_below, IsOpenRefusal, CannotBeRead, weigh, occurrences}
use Rattle.raft_replay.proofs.Common.{IsBack, IsWork, HasRefusal, weigh-append}
use Rattle.raft_tickets.proofs.DrawingLemmas.{below_once}
use Rattle.raft_base.specs.declared.errors.Error.TheVariants.{Memory}
use Rattle.raft_base.specs.declared.errors.Error.TheVariants as errors

-- what is true of all is true of one
pub all_at : {X : Type 0} (P : X → Type 0) (xs front : List X) (x : X) (rest : List X) → All P xs → xs ≡ front ++ x ∷ rest → P x
all_at P xs front x rest all is =
    subst P (ap (λ (l : List _). get_or l (length front) x) is ∙ get_or_at front x rest x (length front) refl)
    (all (length front) x (let lengths = ap length is in let long = length-append front (x ∷ rest) in omega arith))

module _ {M : Type 0} (stands_exactly : M → List Event → Type 0) where
  -- one more is back
  pub done_more : (segments : List (Vec Part Global)) (tickets : Tickets) (seats : List TicketSeat) (pieces made : List (Piece M)) (seat : TicketSeat)
      → AreDone stands_exactly segments tickets seats pieces → IsSeatOf tickets seat → IsDone stands_exactly segments seat.drawn made
      → AreDone stands_exactly segments tickets (seats ++ seat ∷ []) (pieces ++ made)
  done_more segments tickets seats pieces made seat done of more = record {
    of_tickets = All-push (IsSeatOf tickets) seats seat done.of_tickets of;
    each = All-append (IsPieceOf stands_exactly segments) pieces made done.each more.each;
    covered = λ x small.
        let a = weigh-append (λ (p : Piece M). covers p.from p.count x) pieces made in
        let b = weigh-append (λ (s : TicketSeat). occurrences x s.drawn) seats (seat ∷ []) in
        let c = done.covered x small in let d = more.covered x small in omega arith;
    ended = All-push (λ (s : TicketSeat). HasEnded (length segments) s.drawn) seats seat done.ended more.ended;
  }

  gives_back : (Own : Error → Type 0) (segments : List (Vec Part Global)) (drawn : List ℕ) (r : Result (Vec (Piece M) Global) Error)
      → Gives stands_exactly Own segments drawn r → IfOk r (λ v. IsDone stands_exactly segments drawn v.items)
  gives_back Own segments drawn (Ok v) done = done
  gives_back Own segments drawn (Err e) refused = tt

  -- what workers give back
  pub are_back : (Own : Error → Type 0) (segments : List (Vec Part Global)) (tickets : Tickets) (worked : List (Worked M))
      → All (IsWork stands_exactly Own segments tickets) worked → All (IsBack stands_exactly segments tickets) worked
  are_back Own segments tickets worked all k d small =
      let one = all k d small in (one.0, gives_back Own segments (get_or worked k d).seat.drawn (get_or worked k d).pieces one.1)

  pub worker_refused : (Own : Error → Type 0) (segments : List (Vec Part Global)) (tickets : Tickets) (worked : List (Worked M)) (e : Error)
      → All (IsWork stands_exactly Own segments tickets) worked → HasRefusal worked e
      → e ≢ Memory → ¬ (Own e) → CannotBeRead segments
  worker_refused Own segments tickets worked e all refused =
      let one = all_at (IsWork stands_exactly Own segments tickets) worked refused.front refused.one refused.rest all refused.split in
      let at : Gives stands_exactly Own segments refused.one.seat.drawn (Err e) =
      subst (λ (r : Result (Vec (Piece M) Global) Error). Gives stands_exactly Own segments refused.one.seat.drawn r) refused.refusal one.1 in at

-- a number is counted where it stands
times_last : (n : ℕ) (front : List ℕ) → 0 < occurrences n (front ++ n ∷ [])
times_last n [] = grind (arith, nat_tests)
times_last n (x ∷ front) = let r = times_last n front in omega arith

once_of_below : (x n : ℕ) → x < n → once_below x n ≡ 1
once_of_below x n h = grind (arith, nat_tests)

-- where every seat has ended, every number below the total was drawn, once
pub all_drawn : (total word : ℕ) (seats : List TicketSeat) → 0 < length seats → All (λ s. HasEnded total s.drawn) seats
    → ((x : ℕ) → weigh (λ (s : TicketSeat). occurrences x s.drawn) seats ≡ once_below x word) → (x : ℕ) → x < total → weigh (λ (s : TicketSeat). occurrences x s.drawn) seats ≡ 1
all_drawn total word [] none all drawn x small = absurd (omega arith)
all_drawn total word (s ∷ seats) some_seats all drawn x small =
    let ended = (recursion_from_All (λ (t : TicketSeat). HasEnded total t.drawn) (s ∷ seats) all).0 in
    let last = times_last ended.last ended.front in
    let counted : occurrences ended.last s.drawn ≡ occurrences ended.last (ended.front ++ ended.last ∷ []) = ap (occurrences ended.last) ended.split in
    let all_seats = drawn ended.last in
    let past = ended.past in
    let reached = below_once ended.last word (omega arith) in
    drawn x ∙ once_of_below x word (omega arith)

-- tickets for good arguments are refused for want of memory alone
pub open_refused : (total seats : ℕ) (e : Error) → IsOpenRefusal total seats e → e ≢ Memory → 0 < seats → seats < 2 ^ 62 → total < 2 ^ 62 → ⊥
open_refused total seats (errors.InvalidArgument text) (inl none_of) not_memory some_seats few_seats few = omega arith
open_refused total seats (errors.InvalidArgument text) (inr (inl many)) not_memory some_seats few_seats few = omega arith
open_refused total seats (errors.InvalidArgument text) (inr (inr many)) not_memory some_seats few_seats few = omega arith
open_refused total seats errors.Memory refused not_memory some_seats few_seats few = not_memory refl
open_refused total seats e refused not_memory some_seats few_seats few = refused
