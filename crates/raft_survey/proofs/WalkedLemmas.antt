-- A file that is walked through piece by piece, as far as it was read and shown.
use Rattle.raft_survey.proofs.Common.{◌≡◌, ◌⊎◌, inl, inr, ℕ, ◌+◌, ◌<◌, ◌≤◌, List, [], ◌∷◌, ◌++◌, length, take, drop, take-append-drop, length-take-le, ◌-◌, refl, sym, ap, ◌∙◌, subst, arith, append_assoc, append-nil, length-append, take-append-add, AllByRecursion, Error}
use Rattle.raft_survey.proofs.Common.{LogFileContext, HasHeader, Part, part_of, header_len, IsAppended, IsReadFault, IsUnread, joined, IoError, none_read, read_more, HasWalked, Met, IsDecided, AreBatchesByHeader, AreWalkedFrom, HasNoWhole, HasWalkedFile, IsBatchByHeader}
use Rattle.raft_survey.proofs.Common.{IsPrefixWalked, LeadsNowhere}
use Rattle.raft_reading.specs.FilesRead.{AreRead}

-- bytes are their first ones, and behind them the others
pub split_again : (whole : ℕ) (old mid rest front left : List ℕ) → mid ≡ take whole old → rest ≡ drop whole old → front ≡ mid → left ≡ rest → old ≡ front ++ left
split_again whole old mid rest front left first others same behind =
    sym (take-append-drop whole old) ∙ ap (λ (t : List ℕ). t ++ drop whole old) (sym first ∙ sym same) ∙ ap (λ (t : List ℕ). front ++ t) (sym others ∙ sym behind)

-- batches by their headers are such batches, however they are named
pub cut_again : (whole : ℕ) (old mid front : List ℕ) → mid ≡ take whole old → front ≡ mid → AreBatchesByHeader (take whole old) → AreBatchesByHeader front
cut_again whole old mid front first same are = subst AreBatchesByHeader (sym first ∙ sym same) are

-- so have those that are left
pub none_again : (whole : ℕ) (old rest left : List ℕ) → rest ≡ drop whole old → left ≡ rest → HasNoWhole (drop whole old) → HasNoWhole left
none_again whole old rest left others behind none = subst HasNoWhole (sym others ∙ sym behind) none

-- pieces behind pieces
joined_both : (ps qs : List (List ℕ)) → joined (ps ++ qs) ≡ joined ps ++ joined qs
joined_both [] qs = refl
joined_both (p ∷ ps) qs = ap (λ (t : List ℕ). p ++ t) (joined_both ps qs) ∙ sym (append_assoc p (joined ps) (joined qs))

-- what holds of each of some things, and of each of others, holds of all
all_both : {X : Type 0} (P : X → Type 0) (xs ys : List X) → AllByRecursion P xs → AllByRecursion P ys → AllByRecursion P (xs ++ ys)
all_both P [] ys first second = second
all_both P (x ∷ xs) ys first second = (first.0, all_both P xs ys first.1 second)

-- ---- where a file isn't read on

-- no more bytes are wanted behind a piece without a whole batch in front: there are none, or no header leads on
leads_nowhere : (piece : List ℕ) (left : ℕ) → HasNoWhole piece → IsDecided piece left → (left ≡ 0) ⊎ LeadsNowhere piece left
leads_nowhere piece left none (inl end) = inl end
leads_nowhere piece left none (inr decided) = inr (record { room = decided.0; nowhere = λ offset len h. longer (decided.1 offset len h) (none.none offset len h) })
  where
    longer : {len : ℕ} → (len ≤ length piece) ⊎ (length piece + left < len) → length piece < len → length piece + left < len
    longer (inl whole) short = absurd (omega (arith, whole, short))
    longer (inr long) short = long

file_ends : (piece : List ℕ) (read left len : ℕ) → read + left ≡ len → (left ≡ 0) ⊎ LeadsNowhere piece left → (read ≡ len) ⊎ LeadsNowhere piece (len - read)
file_ends piece read left len room (inl none) = inl (omega (arith, room, none))
file_ends piece read left len room (inr nowhere) = let behind : len - read ≡ left = omega (arith, room) in inr (subst (LeadsNowhere piece) (sym behind) nowhere)

-- ---- batches by their headers

-- no bytes are none
pub no_batches : AreBatchesByHeader []
no_batches = ([], tt, refl)

-- a header stands in front of the bytes of its batch
header_taken : (bytes : List ℕ) (offset len : ℕ) → HasHeader bytes offset len → len ≤ length bytes → IsBatchByHeader (take len bytes)
header_taken bytes offset len h inside =
    let front = h.header.front in
    let sixteen : length front ≡ 16 = ap length h.header.spells.written ∙ header_len offset h.compression len in
    let more : len ≡ length front + (len - 16) = let b = h.header.spells.behind_header in let i = h.header.spells.inside in omega (arith, sixteen, b, i) in
    let is : take len bytes ≡ front ++ take (len - 16) h.rest =
    ap (λ (t : List ℕ). take len t) h.header.split ∙ ap (λ (n : ℕ). take n (front ++ h.rest)) more ∙ take-append-add front h.rest (len - 16) in (
      offset,
      subst (λ (n : ℕ). HasHeader (take len bytes) offset n) (sym (length-take-le len bytes inside))
          (record { compression = h.compression; rest = take (len - 16) h.rest; header = record { front = front; spells = h.header.spells; split = is } }),
    )

-- one batch more
pub batch_more : (bytes : List ℕ) (at offset len : ℕ) → at ≤ length bytes → AreBatchesByHeader (take at bytes) → HasHeader (drop at bytes) offset len → len ≤ length (drop at bytes) → AreBatchesByHeader (take (at + len) bytes)
batch_more bytes at offset len inside are h whole =
    let prefix : take (at + len) bytes ≡ take at bytes ++ take len (drop at bytes) =
    ap (λ (t : List ℕ). take (at + len) t) (sym (take-append-drop at bytes)) ∙ ap (λ (n : ℕ). take (n + len) (take at bytes ++ drop at bytes)) (sym (length-take-le at bytes inside))
    ∙ take-append-add (take at bytes) (drop at bytes) len in
    let last = take len (drop at bytes) in (
      are.0 ++ last ∷ [],
      all_both IsBatchByHeader are.0 (last ∷ []) are.1 (header_taken (drop at bytes) offset len h whole, tt),
      joined_both are.0 (last ∷ []) ∙ ap (λ (t : List ℕ). t ++ (last ++ [])) are.2 ∙ ap (λ (t : List ℕ). take at bytes ++ t) (append-nil last) ∙ sym prefix,
    )

module _ {V : Type 0} (Visits : V → Part → ℕ → Met → V → Type 0) (file : LogFileContext) where
  -- parts behind parts
  walked_both : (offset : ℕ) (ps qs : List (List ℕ)) (old between new : V) → AreWalkedFrom Visits file offset ps old between
      → AreWalkedFrom Visits file (offset + length (joined ps)) qs between new → AreWalkedFrom Visits file offset (ps ++ qs) old new
  walked_both offset [] qs old between new first second =
      let n : offset + 0 ≡ offset = omega arith in
      subst (λ (v : V). AreWalkedFrom Visits file offset qs v new) (sym first) (subst (λ (k : ℕ). AreWalkedFrom Visits file k qs between new) n second)
  walked_both offset (p ∷ ps) qs old between new first second =
      let n : offset + length (p ++ joined ps) ≡ offset + length p + length (joined ps) = omega (arith, length-append p (joined ps)) in
      (first.0, first.1, walked_both (offset + length p) ps qs first.0 between new first.2 (subst (λ (k : ℕ). AreWalkedFrom Visits file k qs between new) n second))

  -- one part
  pub one_walked : (at : ℕ) (bytes : List ℕ) (old new : V) → HasWalked Visits (part_of file at bytes) old new → AreWalkedFrom Visits file at (bytes ∷ []) old new
  one_walked at bytes old new walked = (new, walked, refl)

  -- bytes in front of a piece were shown as one part
  pub front_is_walked : (at next : ℕ) (piece front left : List ℕ) (old new : V) → piece ≡ front ++ left → AreBatchesByHeader front → next ≡ at + length front → HasWalked Visits (part_of file at front) old new
      → IsPrefixWalked Visits file at piece left next old new
  front_is_walked at next piece front left old new split cut ends walked = record {
    parts = front ∷ [];
    cut = (cut, tt);
    split = split ∙ ap (λ (t : List ℕ). t ++ left) (sym (append-nil front));
    ends = ends ∙ ap (λ (t : List ℕ). at + length t) (sym (append-nil front));
    walked = one_walked at front old new walked;
  }

  -- nothing was shown
  pub none_walked : (at : ℕ) (piece : List ℕ) (v : V) → IsPrefixWalked Visits file at piece piece at v v
  none_walked at piece v = record { parts = []; cut = tt; split = refl; ends = omega arith; walked = refl }

  module _ (Gives : ℕ → List ℕ → Type 0) (len : ℕ) (first : V) where
    -- the bytes before an offset were read and shown, and the piece is what was read behind them
    pub record IsReading (at : ℕ) (piece : List ℕ) (now : V) : Type 0 where
      pub gone : List ℕ
      pub ends : at ≡ length gone
      pub inside : at + length piece ≤ len
      pub read : AreRead Gives (gone ++ piece)
      pub parts : List (List ℕ)
      pub cut : AllByRecursion AreBatchesByHeader parts
      pub all : joined parts ≡ gone
      pub walked : AreWalkedFrom Visits file 0 parts first now

    pub begun : IsReading 0 [] first
    begun = record { gone = []; ends = refl; inside = omega arith; read = none_read Gives; parts = []; cut = tt; all = refl; walked = refl }

    -- bytes in front of the piece are shown
    pub front_shown : (at next : ℕ) (piece left : List ℕ) (now later : V) → IsReading at piece now → IsPrefixWalked Visits file at piece left next now later → IsReading next left later
    front_shown at next piece left now later reading shown =
        let front = joined shown.parts in
        let start : at ≡ 0 + length (joined reading.parts) = let n = reading.ends in let m = ap length reading.all in omega (arith, n, m) in
        record {
          gone = reading.gone ++ front;
          ends = let e = shown.ends in let n = reading.ends in omega (arith, e, n, length-append reading.gone front);
          inside = let e = shown.ends in let i = reading.inside in let n = ap length shown.split in omega (arith, e, i, n, length-append front left);
          read = subst (AreRead Gives) (ap (λ (t : List ℕ). reading.gone ++ t) shown.split ∙ sym (append_assoc reading.gone front left)) reading.read;
          parts = reading.parts ++ shown.parts;
          cut = all_both AreBatchesByHeader reading.parts shown.parts reading.cut shown.cut;
          all = joined_both reading.parts shown.parts ∙ ap (λ (t : List ℕ). t ++ front) reading.all;
          walked = walked_both 0 reading.parts shown.parts first now later reading.walked (subst (λ (k : ℕ). AreWalkedFrom Visits file k shown.parts now later) start shown.walked);
        }

    -- bytes behind the piece are read
    pub more_read : (at asked : ℕ) (piece new : List ℕ) (now : V) → IsReading at piece now → at + length piece + asked ≤ len
        → IsAppended (λ bytes. (length bytes ≡ asked) × Gives (at + length piece) bytes) piece new → IsReading at new now
    more_read at asked piece new now reading inside added =
        let place : length (reading.gone ++ piece) ≡ at + length piece = let n = reading.ends in omega (arith, n, length-append reading.gone piece) in
        record {
          gone = reading.gone;
          ends = reading.ends;
          inside = let n = ap length added.behind in let m = added.given.0 in omega (arith, inside, n, m, length-append piece added.bytes);
          read =
              subst (AreRead Gives) (append_assoc reading.gone piece added.bytes ∙ ap (λ (t : List ℕ). reading.gone ++ t) (sym added.behind))
              (read_more Gives (reading.gone ++ piece) added.bytes reading.read (subst (λ (k : ℕ). Gives k added.bytes) (sym place) added.given.1));
          parts = reading.parts;
          cut = reading.cut;
          all = reading.all;
          walked = reading.walked;
        }

    -- the file can't be read on behind the piece
    pub cannot_read_on : (Fails : ℕ → IoError → Type 0) (at asked : ℕ) (piece : List ℕ) (now : V) (e : Error) → IsReading at piece now → at + length piece + asked ≤ len
        → IsReadFault (Gives (at + length piece)) (Fails (at + length piece)) asked e → IsUnread Gives Fails len e
    cannot_read_on Fails at asked piece now e reading room fault =
        let place : at + length piece ≡ length (reading.gone ++ piece) = let n = reading.ends in omega (arith, n, length-append reading.gone piece) in
        record {
          bytes = reading.gone ++ piece;
          read = reading.read;
          asked = asked;
          inside = omega (arith, room, place);
          fault = subst (λ (n : ℕ). IsReadFault (Gives n) (Fails n) asked e) place fault;
        }

    -- the piece is shown, and it is the rest of the file, or no header leads on in front of it
    pub finished : (at left : ℕ) (piece : List ℕ) (now last : V) → IsReading at piece now → at + length piece + left ≡ len → HasNoWhole piece → IsDecided piece left → HasWalked Visits (part_of file at piece) now last
        → HasWalkedFile Visits Gives file len first last
    finished at left piece now last reading room none decided shown =
        let start : at ≡ 0 + length (joined reading.parts) = let n = reading.ends in let m = ap length reading.all in omega (arith, n, m) in
        let long : length (reading.gone ++ piece) ≡ at + length piece = let n = reading.ends in omega (arith, n, length-append reading.gone piece) in
        record {
          bytes = reading.gone ++ piece;
          read = reading.read;
          inside = omega (arith, room, long);
          parts = reading.parts;
          last = piece;
          cut = reading.cut;
          all = joined_both reading.parts (piece ∷ []) ∙ ap (λ (t : List ℕ). t ++ (piece ++ [])) reading.all ∙ ap (λ (t : List ℕ). reading.gone ++ t) (append-nil piece);
          whole = file_ends piece (length (reading.gone ++ piece)) left len (omega (arith, room, long)) (leads_nowhere piece left none decided);
          walked = walked_both 0 reading.parts (piece ∷ []) first now last reading.walked (subst (λ (k : ℕ). AreWalkedFrom Visits file k (piece ∷ []) now last) start (one_walked at piece now last shown));
        }
