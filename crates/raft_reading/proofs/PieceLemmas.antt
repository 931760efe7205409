-- A file that is replayed piece by piece.
use Rattle.raft_reading.proofs.Common.{◌≡◌, inl, inr, ℕ, ◌+◌, ◌<◌, ◌≤◌, List, [], ◌∷◌, ◌++◌, length, drop, refl, sym, ap, ◌∙◌, subst, arith, append_assoc, append-nil, length-append, length-drop, drop-append-le}
use Rattle.raft_reading.proofs.Common.{Error, Event, LogFileContext, Part, part_of, HasHeader, StandBetween, Item, HoldsFrom, HasReplayed, StandHeaders, HeadersLead, NoneIsWhole, IsHopeless, AreGivenFrom, AreRead, joined, GoneOn, StopsByFault, IsBatchAt}
use Rattle.raft_reading.proofs.Common.{replayed_more, held_after, fault_after, one_header, header_ends, batch_header, batch_inside, IsReplayedFront, IsUnderway, IsAppended, StopsInRead, HasReplayedFile, IsSmall, IsReadFault, IsUnread, IoError, take-append-drop}
use Rattle.std.proofs.lemmas.List.{take_at, take_all, length-take-le}
use Rattle.std.specs.Prelude.{take}
use lib.Seq.{paste}
use Rattle.raft_reading.proofs.SettledLemmas.{IsSettled, header_more, header_less}
use Rattle.raft_reading.proofs.StopLemmas.{stops_more, stops_behind, held_behind}

-- ---- what was read

given_more : (Gives : ℕ → List ℕ → Type 0) (offset : ℕ) (pieces : List (List ℕ)) (piece : List ℕ) → AreGivenFrom Gives offset pieces → Gives (offset + length (joined pieces)) piece
    → AreGivenFrom Gives offset (pieces ++ piece ∷ [])
given_more Gives offset [] piece given one = (subst (λ (n : ℕ). Gives n piece) (omega arith) one, tt)
given_more Gives offset (first ∷ pieces) piece given one =
    let n : offset + length (first ++ joined pieces) ≡ offset + length first + length (joined pieces) = omega (arith, length-append first (joined pieces)) in
    (given.0, given_more Gives (offset + length first) pieces piece given.1 (subst (λ (n : ℕ). Gives n piece) n one))

joined_more : (pieces : List (List ℕ)) (piece : List ℕ) → joined (pieces ++ piece ∷ []) ≡ joined pieces ++ piece
joined_more [] piece = append-nil piece
joined_more (first ∷ pieces) piece = ap (λ (t : List ℕ). first ++ t) (joined_more pieces piece) ∙ sym (append_assoc first (joined pieces) piece)

-- one piece more was read
pub read_more : (Gives : ℕ → List ℕ → Type 0) (bytes piece : List ℕ) → AreRead Gives bytes → Gives (length bytes) piece → AreRead Gives (bytes ++ piece)
read_more Gives bytes piece read one =
    let at : 0 + length (joined read.pieces) ≡ length bytes = let n = ap length read.all in omega (arith, n) in
    record {
      pieces = read.pieces ++ piece ∷ [];
      given = given_more Gives 0 read.pieces piece read.given (subst (λ (n : ℕ). Gives n piece) (sym at) one);
      all = joined_more read.pieces piece ∙ ap (λ (t : List ℕ). t ++ piece) read.all;
    }

-- nothing was read yet
pub none_read : (Gives : ℕ → List ℕ → Type 0) → AreRead Gives []
none_read Gives = record { pieces = []; given = tt; all = refl }

-- ---- headers

pub headers_more : (bytes : List ℕ) (from mid len : ℕ) (lens : List ℕ) → StandHeaders bytes from lens mid → ((offset : ℕ) × HasHeader (drop mid bytes) offset len) → StandHeaders bytes from (lens ++ len ∷ []) (mid + len)
headers_more bytes from mid len [] stand one = (subst (λ (n : ℕ). (offset : ℕ) × HasHeader (drop n bytes) offset len) (sym stand) one, ap (λ (n : ℕ). n + len) stand)
headers_more bytes from mid len (first ∷ lens) stand one = (stand.0, headers_more bytes (from + first) mid len lens stand.1 one)

forwards : (bytes : List ℕ) (from end : ℕ) (lens : List ℕ) → StandHeaders bytes from lens end → from ≤ end
forwards bytes from end [] stand = omega (arith, stand)
forwards bytes from end (len ∷ lens) stand = let rest = forwards bytes (from + len) end lens stand.1 in omega (arith, rest)

between_forwards : (part : Part) (from end : ℕ) (batches : List (List Item)) → StandBetween part from end batches → from ≤ end
between_forwards part from end [] stand = omega (arith, stand)
between_forwards part from end (items ∷ batches) stand =
    let rest = between_forwards part stand.0 end batches stand.2 in
    let one = batch_inside part from items stand.0 stand.1 in
    omega (arith, rest, one.0)

-- a header whose batch ends in front of a byte
pub record IsHeaderBefore (bytes : List ℕ) (at end : ℕ) : Type 0 where
  pub offset : ℕ
  pub len : ℕ
  pub header : HasHeader (drop at bytes) offset len
  pub inside : at + len ≤ end

-- where readable batches lead to a byte in front of the end, a header stands there
pub met : (part : Part) (bytes : List ℕ) (more : List ℕ) → bytes ≡ part.bytes ++ more → (from at : ℕ) (batches : List (List Item)) (lens : List ℕ) → StandBetween part from at batches → StandHeaders bytes from lens (length part.bytes)
    → at < length part.bytes → IsHeaderBefore bytes at (length part.bytes)
met part bytes more is from at [] [] stand lead inside = absurd (omega (arith, stand, lead, inside))
met part bytes more is from at [] (len ∷ lens) stand lead inside = record {
  offset = lead.0.0;
  len = len;
  header = subst (λ (n : ℕ). HasHeader (drop n bytes) lead.0.0 len) stand lead.0.1;
  inside = let rest = forwards bytes (from + len) (length part.bytes) lens lead.1 in omega (arith, rest, stand);
}
met part bytes more is from at (items ∷ batches) [] stand lead inside =
    let rest = between_forwards part stand.0 at batches stand.2 in
    let one = batch_inside part from items stand.0 stand.1 in
    absurd (omega (arith, rest, one.0, lead, inside))
met part bytes more is from at (items ∷ batches) (len ∷ lens) stand lead inside =
    met part bytes more is (from + len) at batches lens (subst (λ (n : ℕ). StandBetween part n at batches) (ends _ _ (batch_header part from items stand.0 stand.1) (header_ends part from stand.0 _ _ items (batch_header part from items stand.0 stand.1) stand.1)) stand.2) lead.1 inside
  where
    here : drop from bytes ≡ drop from part.bytes ++ more
    here = let one = batch_inside part from items stand.0 stand.1 in ap (drop from) is ∙ drop-append-le from part.bytes more (omega (arith, one.0, one.1))

    ends : (offset own : ℕ) → HasHeader (drop from part.bytes) offset own → stand.0 ≡ from + own → stand.0 ≡ from + len
    ends offset own b next =
        next ∙ ap (λ (n : ℕ). from + n) (one_header (drop from bytes) offset own lead.0.0 len (subst (λ (t : List ℕ). HasHeader t offset own) (sym here) (header_more (drop from part.bytes) more offset own b)) lead.0.1)

-- ---- a piece whose first batches are whole

-- where a replay of the whole batches stops, a header stands whose batch is one of them
pub settled_front : (file : LogFileContext) (at : ℕ) (front left : List ℕ) (more : ℕ) → HeadersLead (front ++ left) (length front)
    → (stop : ℕ) (batches : List (List Item)) → StandBetween (part_of file at front) 0 stop batches → stop < length front → IsSettled (drop stop front) more
settled_front file at front left more lead stop batches stand inside =
    let here = met (part_of file at front) (front ++ left) left refl 0 stop batches lead.0 stand lead.1 inside in
    let behind : drop stop (front ++ left) ≡ drop stop front ++ left = drop-append-le stop front left (omega (arith, inside)) in
    let long = length-drop stop front in
    let header = subst (λ (t : List ℕ). HasHeader t here.offset here.len) behind here.header in
    let most : here.len ≤ length (drop stop front) = let i = here.inside in omega (arith, long, i, inside) in
    let spells = here.header.header.spells in
    let room : 16 ≤ length (drop stop front) = let a = spells.behind_header in let b = spells.inside in omega (arith, a, b, most) in
    let own = header_less (drop stop front) left here.offset here.len room header in
    record {
      room = room;
      decided = λ offset len h. inl (subst (λ (n : ℕ). n ≤ length (drop stop front)) (one_header (drop stop front) here.offset here.len offset len own h) most);
    }

-- so whatever comes behind, the reading stops there
pub stops_in_front : (file : LogFileContext) (at : ℕ) (front left rest : List ℕ) (Stood IsTaken : List Event → Type 0) (e : Error) → HeadersLead (front ++ left) (length front)
    → StopsByFault Stood IsTaken (part_of file at front) e → StopsByFault Stood IsTaken (part_of file at (front ++ left ++ rest)) e
stops_in_front file at front left rest Stood IsTaken e lead found =
    subst (λ (t : List ℕ). StopsByFault Stood IsTaken (part_of file at t) e) (sym (append_assoc front left rest))
    (stops_more Stood IsTaken (part_of file at front) (left ++ rest) e found
    (settled_front file at front left (length (left ++ rest)) lead found.stops.at found.stops.front found.stops.readable found.stops.before_end))

-- the same of the first bytes of a piece
pub stops_whole : (file : LogFileContext) (at : ℕ) (piece : List ℕ) (whole : ℕ) (rest : List ℕ) (Stood IsTaken : List Event → Type 0) (e : Error) → whole ≤ length piece → HeadersLead piece whole
    → StopsByFault Stood IsTaken (part_of file at (take whole piece)) e → StopsByFault Stood IsTaken (part_of file at (piece ++ rest)) e
stops_whole file at piece whole rest Stood IsTaken e inside lead found =
    let split = take-append-drop whole piece in
    let led = subst (λ (n : ℕ). HeadersLead (take whole piece ++ drop whole piece) n) (sym (length-take-le whole piece inside)) (subst (λ (t : List ℕ). HeadersLead t whole) (sym split) lead) in
    subst (λ (t : List ℕ). StopsByFault Stood IsTaken (part_of file at (t ++ rest)) e) split (stops_in_front file at (take whole piece) (drop whole piece) rest Stood IsTaken e led found)

-- ---- the last piece, in which no batch is whole

-- no batch stands in front of it
none_first : (part : Part) → NoneIsWhole part.bytes → (items : List Item) (next : ℕ) → IsBatchAt part 0 items next → ⊥
none_first part none items next b =
    let inside = batch_inside part 0 items next b in
    let header = batch_header part 0 items next b in
    let long = none _ _ header in
    let ends = header_ends part 0 next _ _ items header b in
    omega (arith, long, ends, inside.1)

-- where it is replayed, it is empty, and the file has no more
pub emptied : (part : Part) (left : ℕ) (h : List Event) → NoneIsWhole part.bytes → IsHopeless part.bytes left → HoldsFrom part 0 h → (length part.bytes ≡ 0) × (left ≡ 0)
emptied part left [] none hopeless ends = (sym ends, over hopeless)
  where
    over : IsHopeless part.bytes left → left ≡ 0
    over (inl none) = none
    over (inr long) = absurd (let room = long.0 in omega (arith, room, ends))
emptied part left (e ∷ h) none hopeless held = absurd (none_first part none e.items held.1.0 held.1.1)

-- where its replay stops, that is at its first byte
stops_first : (part : Part) → NoneIsWhole part.bytes → (stop : ℕ) (batches : List (List Item)) → StandBetween part 0 stop batches → 0 ≡ stop
stops_first part none stop [] stand = stand
stops_first part none stop (items ∷ batches) stand = absurd (none_first part none items stand.0 stand.1)

-- and whatever comes behind up to the end of the file, the reading stops there
pub stops_last : (file : LogFileContext) (at : ℕ) (piece rest : List ℕ) (left : ℕ) (Stood IsTaken : List Event → Type 0) (e : Error) → NoneIsWhole piece → IsHopeless piece left → length rest ≡ left
    → StopsByFault Stood IsTaken (part_of file at piece) e → StopsByFault Stood IsTaken (part_of file at (piece ++ rest)) e
stops_last file at piece [] left Stood IsTaken e none hopeless all found =
    subst (λ (t : List ℕ). StopsByFault Stood IsTaken (part_of file at t) e) (sym (append-nil piece)) found
stops_last file at piece (byte ∷ rest) left Stood IsTaken e none (inl over) all found = absurd (omega (arith, over, all))
stops_last file at piece (byte ∷ rest) left Stood IsTaken e none (inr long) all found =
    stops_more Stood IsTaken (part_of file at piece) (byte ∷ rest) e found
    (subst (λ (n : ℕ). IsSettled (drop n piece) (length (byte ∷ rest))) (stops_first (part_of file at piece) none found.stops.at found.stops.front found.stops.readable)
    (record {
      room = long.0;
      decided = λ offset len h. inr (let n = long.1 offset len h in omega (arith, n, all));
    }))

-- ---- the pieces so far

module _ {M : Type 0} (Gives : ℕ → List ℕ → Type 0) (file : LogFileContext) (len : ℕ) (stands_for stands_exactly : M → List Event → Type 0) (old : M) where
  -- the first bytes of the piece are replayed and let go
  pub underway_front : (mid new : M) (at next : ℕ) (piece left : List ℕ) → IsUnderway Gives file len stands_for stands_exactly old mid at piece
      → IsReplayedFront file at stands_for stands_exactly mid new piece left next → IsUnderway Gives file len stands_for stands_exactly old new next left
  underway_front mid new at next piece left u f =
      let whole : u.gone ++ piece ≡ u.gone ++ f.front ++ left = ap (λ (t : List ℕ). u.gone ++ t) f.split ∙ sym (append_assoc u.gone f.front left) in
      let one = subst (λ (n : ℕ). HasReplayed (HoldsFrom (part_of file n f.front) 0) stands_for stands_exactly mid new) u.ends f.replayed in
      let first : length u.gone + 0 ≡ length u.gone = omega arith in
      record {
        gone = u.gone ++ f.front;
        ends = let a = u.ends in let b = f.ends in omega (arith, a, b, length-append u.gone f.front);
        inside = let a = u.inside in let b = f.ends in omega (arith, a, b, ap length f.split, length-append f.front left);
        read = subst (AreRead Gives) whole u.read;
        replayed = replayed_more stands_for stands_exactly _ _ (HoldsFrom (part_of file 0 (u.gone ++ f.front)) 0) old mid new u.replayed one
            (held_after (part_of file 0 u.gone) f.front 0 u.replayed.history one.history u.replayed.held
            (subst (λ (n : ℕ). HoldsFrom (part_of file 0 (u.gone ++ f.front)) n one.history) first (held_behind file u.gone f.front 0 one.history one.held)));
      }

  -- more bytes are read behind the piece
  pub underway_more : (new : M) (at more : ℕ) (piece longer : List ℕ) → at + length piece + more ≤ len → IsUnderway Gives file len stands_for stands_exactly old new at piece
      → IsAppended (λ bytes. (length bytes ≡ more) × Gives (at + length piece) bytes) piece longer → IsUnderway Gives file len stands_for stands_exactly old new at longer
  underway_more new at more piece longer room u a =
      let whole : u.gone ++ piece ++ a.bytes ≡ u.gone ++ longer = append_assoc u.gone piece a.bytes ∙ ap (λ (t : List ℕ). u.gone ++ t) (sym a.behind) in
      let place : at + length piece ≡ length (u.gone ++ piece) = let n = u.ends in omega (arith, n, length-append u.gone piece) in
      record {
        gone = u.gone;
        ends = u.ends;
        inside = let n = a.given.0 in omega (arith, room, n, ap length a.behind, length-append piece a.bytes);
        read = subst (AreRead Gives) whole (read_more Gives (u.gone ++ piece) a.bytes u.read (subst (λ (n : ℕ). Gives n a.bytes) place a.given.1));
        replayed = u.replayed;
      }

  -- the replay of the piece stops, whatever comes behind it in the file
  pub stopped : (mid : M) (at : ℕ) (piece : List ℕ) (IsTaken : List Event → Type 0) (e : Error) → IsUnderway Gives file len stands_for stands_exactly old mid at piece
      → ((rest : List ℕ) → at + length piece + length rest ≡ len → StopsByFault (stands_for mid) IsTaken (part_of file at (piece ++ rest)) e)
      → StopsInRead Gives file len (stands_for old) IsTaken e
  stopped mid at piece IsTaken e u stops = record {
    bytes = u.gone ++ piece;
    read = u.read;
    inside = let a = u.inside in let b = u.ends in omega (arith, a, b, length-append u.gone piece);
    stops = λ rest all.
        let found = subst (λ (n : ℕ). StopsByFault (stands_for mid) IsTaken (part_of file n (piece ++ rest)) e) u.ends
        (stops rest (let b = u.ends in omega (arith, b, all, length-append u.gone piece))) in
        subst (λ (t : List ℕ). StopsByFault (stands_for old) IsTaken (part_of file 0 t) e) (sym (append_assoc u.gone piece rest))
        (stops_behind file u.gone (piece ++ rest) (stands_for old) IsTaken e u.replayed.history u.replayed.held
        (fault_after (stands_for mid) (GoneOn (stands_for old) u.replayed.history) IsTaken IsTaken (part_of file (length u.gone) (piece ++ rest)) e
        (λ h small gone. subst (stands_for mid) (sym gone.2) (u.replayed.stands gone.0 (subst IsSmall gone.2 small) gone.1)) (λ h taken. taken) found));
  }

  -- the file can't be read on behind the piece
  pub unread : (Fails : ℕ → IoError → Type 0) (mid : M) (at asked : ℕ) (piece : List ℕ) (e : Error) → IsUnderway Gives file len stands_for stands_exactly old mid at piece → at + length piece + asked ≤ len
      → IsReadFault (Gives (at + length piece)) (Fails (at + length piece)) asked e → IsUnread Gives Fails len e
  unread Fails mid at asked piece e u room fault =
      let place : at + length piece ≡ length (u.gone ++ piece) = let n = u.ends in omega (arith, n, length-append u.gone piece) in
      record {
        bytes = u.gone ++ piece;
        read = u.read;
        asked = asked;
        inside = omega (arith, room, place);
        fault = subst (λ (n : ℕ). IsReadFault (Gives n) (Fails n) asked e) place fault;
      }

  -- all bytes of the file are replayed
  pub finished : (mid new : M) (at left : ℕ) (piece : List ℕ) → at + length piece + left ≡ len → NoneIsWhole piece → IsHopeless piece left
      → IsUnderway Gives file len stands_for stands_exactly old mid at piece → HasReplayed (HoldsFrom (part_of file at piece) 0) stands_for stands_exactly mid new
      → HasReplayedFile Gives file len stands_for stands_exactly old new
  finished mid new at left piece all none hopeless u last =
      let done = emptied (part_of file at piece) left last.history none hopeless last.held in
      let next = underway_front mid new at (at + length piece) piece [] u (record { front = piece; split = sym (append-nil piece); ends = refl; replayed = last }) in
      record {
        bytes = next.gone;
        read = subst (AreRead Gives) (append-nil next.gone) next.read;
        whole = let n = next.ends in omega (arith, n, all, done.1);
        replayed = next.replayed;
      }

-- ---- bytes that are moved to the front

-- what is left once the first bytes are let go
pub moved : (xs : List ℕ) (count n : ℕ) → count + n ≡ length xs → take n (paste xs 0 (drop count xs) n) ≡ drop count xs
moved xs count n all =
    take_at (take n (drop count xs)) (drop (0 + n) xs) n (length-take-le n (drop count xs) (omega (arith, length-drop count xs, all)))
    ∙ take_all n (drop count xs) (omega (arith, length-drop count xs, all))
