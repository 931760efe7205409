-- Where the reading of a file stops, if that of a piece of it does.
use Rattle.raft_reading.proofs.Common.{◌≡◌, inl, inr, ℕ, ◌+◌, List, [], ◌∷◌, ◌++◌, length, map, drop, refl, sym, ap, ◌∙◌, subst, arith, append_assoc, length-append, map-append, drop-drop, drop_at, drop-append-le, Error, Event}
use Rattle.raft_reading.proofs.Common.{FileBlockHandle, LogFileContext, Part, part_of, with_bytes, IsBatchAt, StandBetween, Item, placed_item, place_between, part_signature, HoldsFrom, IsSmall, history_in, GoneOn, StopsByFault}
use Rattle.raft_reading.proofs.Common.{IsUnreadableAt, longer_stands, IsNextFault, IsReadable, HasNoFront}
use Rattle.raft_replay.specs.Stops.{IsPlaced, IsWithPlace}
use Rattle.raft_reading.proofs.SettledLemmas.{IsSettled, unread_more, unread_less, fault_more}

-- ---- more bytes behind

longer_between : (part : Part) (more : List ℕ) (from end : ℕ) (batches : List (List Item)) → StandBetween part from end batches → StandBetween (with_bytes part more) from end batches
longer_between part more from end [] stand = stand
longer_between part more from end (items ∷ batches) stand =
    (stand.0, longer_stands part more from stand.0 items stand.1, longer_between part more stand.0 end batches stand.2)

module _ (Stood IsTaken : List Event → Type 0) (part : Part) (more : List ℕ) (e : Error) (found : StopsByFault Stood IsTaken part e)
    (settled : IsSettled (drop found.stops.at part.bytes) (length more)) where
  behind : drop found.stops.at (part.bytes ++ more) ≡ drop found.stops.at part.bytes ++ more
  behind = drop-append-le found.stops.at part.bytes more (let inside = found.stops.before_end in omega (arith, inside))

  unread : IsUnreadableAt part found.stops.at → IsUnreadableAt (with_bytes part more) found.stops.at
  unread none =
      subst (HasNoFront (λ xs. IsReadable xs (part_signature part))) (sym behind) (unread_more (drop found.stops.at part.bytes) more (part_signature part) settled none)

  -- the reading of more bytes stops there too
  pub stops_more : StopsByFault Stood IsTaken (with_bytes part more) e
  stops_more = record {
    stops = record {
      at = found.stops.at;
      front = found.stops.front;
      readable = longer_between part more 0 found.stops.at found.stops.front found.stops.readable;
      taken = found.stops.taken;
      before_end = let inside = found.stops.before_end in omega (arith, inside, length-append part.bytes more);
      reason = λ not_memory. elim (found.stops.reason not_memory) [
        | inl none ↦ inl (unread none)
        | inr cannot ↦ inr (record {
          items = cannot.items;
          next = cannot.next;
          stands = longer_stands part more found.stops.at cannot.next cannot.items cannot.stands;
          unsound = cannot.unsound;
        })
      ];
      placed = found.stops.placed;
    };
    fault = λ none.
        let less = unread_less (drop found.stops.at part.bytes) more (part_signature part) (subst (HasNoFront (λ xs. IsReadable xs (part_signature part))) behind none) in
        let fault = found.fault less in
        record {
          fault = fault.fault;
          is_fault = subst (λ (t : List ℕ). IsNextFault (part_signature part) t fault.fault) (sym behind) (fault_more (drop found.stops.at part.bytes) more (part_signature part) fault.fault settled fault.is_fault);
          placed = fault.placed;
        };
  }

-- ---- bytes in front

-- the batches that are read of a part
batches_of : (part : Part) (from : ℕ) (h : List Event) → HoldsFrom part from h
    → (batches : List (List Item)) × StandBetween part from (length part.bytes) batches × (h ≡ history_in part batches)
batches_of part from [] ends = ([], ends, refl)
batches_of part from (e ∷ h) held =
    let rest = batches_of part held.1.0 h held.1.2 in
    let first : e ≡ record { items = e.items; file = part.id } = λ i. record { items = e.items; file = held.0 i } in
    (e.items ∷ rest.0, (held.1.0, held.1.1, rest.1), λ i. first i ∷ rest.2 i)

between_append : (part : Part) (from mid end : ℕ) (first second : List (List Item)) → StandBetween part from mid first → StandBetween part mid end second → StandBetween part from end (first ++ second)
between_append part from mid end [] second stand more = subst (λ (n : ℕ). StandBetween part n end second) (sym stand) more
between_append part from mid end (items ∷ first) second stand more = (stand.0, stand.1, between_append part stand.0 mid end first second stand.2 more)

module _ (file : LogFileContext) (gone piece : List ℕ) where
  abbrev whole : Part
  whole = part_of file 0 (gone ++ piece)

  abbrev tail : Part
  tail = part_of file (length gone) piece

  dropped : (j : ℕ) → drop (length gone + j) (gone ++ piece) ≡ drop j piece
  dropped j = sym (drop-drop j (length gone) (gone ++ piece)) ∙ ap (drop j) (drop_at gone piece (length gone) refl)

  -- a batch of the piece stands in the file
  pub stands_behind : (j k : ℕ) (items : List Item) → IsBatchAt (part_of file (length gone) piece) j items k → IsBatchAt (part_of file 0 (gone ++ piece)) (length gone + j) items (length gone + k)
  stands_behind j k items b =
      let n : 0 + (length gone + j) + 16 ≡ length gone + j + 16 = omega arith in
      let place : place_between tail j (length b.between) ≡ place_between whole (length gone + j) (length b.between) = ap (λ (o : ℕ). record { id = file.id; offset = o; len = length b.between }) (sym n) in
      record {
        bytes = b.bytes;
        read = b.read;
        between = b.between;
        laid_out = b.laid_out;
        stands = dropped j ∙ b.stands ∙ ap (λ (t : List ℕ). b.bytes ++ t) (sym (dropped k));
        ends = let ends = b.ends in omega (arith, ends);
        places = b.places ∙ ap (λ (p : FileBlockHandle). map (placed_item p b.laid_out.compression) b.read) place;
      }

  between_behind : (j k : ℕ) (batches : List (List Item)) → StandBetween (part_of file (length gone) piece) j k batches → StandBetween (part_of file 0 (gone ++ piece)) (length gone + j) (length gone + k) batches
  between_behind j k [] stand = ap (λ (n : ℕ). length gone + n) stand
  between_behind j k (items ∷ batches) stand = (length gone + stand.0, stands_behind j stand.0 items stand.1, between_behind stand.0 k batches stand.2)

  -- what is read of the piece is read behind what was read before
  pub held_behind : (j : ℕ) (h : List Event) → HoldsFrom (part_of file (length gone) piece) j h → HoldsFrom (part_of file 0 (gone ++ piece)) (length gone + j) h
  held_behind j [] ends = omega (arith, ends, length-append gone piece)
  held_behind j (e ∷ h) held = (held.0, (length gone + held.1.0, stands_behind j held.1.0 e.items held.1.1, held_behind held.1.0 h held.1.2))

  module _ (Stood IsTaken : List Event → Type 0) (e : Error) (history : List Event) (held : HoldsFrom (part_of file 0 gone) 0 history)
      (found : StopsByFault (GoneOn Stood history) IsTaken (part_of file (length gone) piece) e) where
    first : (batches : List (List Item)) × StandBetween (part_of file 0 gone) 0 (length gone) batches × (history ≡ history_in (part_of file 0 gone) batches)
    first = batches_of (part_of file 0 gone) 0 history held

    front : List (List Item)
    front = first.0 ++ found.stops.front

    all : history_in whole front ≡ history ++ history_in tail found.stops.front
    unfolding front
    all = map-append (λ (i : List Item). record { items = i; file = file.id }) first.0 found.stops.front ∙ ap (λ (t : List Event). t ++ history_in tail found.stops.front) (sym first.2)

    after : (h : List Event) → h ++ history_in whole front ≡ h ++ history ++ history_in tail found.stops.front
    after h = ap (λ (t : List Event). h ++ t) all ∙ sym (append_assoc h history (history_in tail found.stops.front))

    up_to : StandBetween whole 0 (length gone + found.stops.at) front
    unfolding front
    up_to =
        between_append whole 0 (length gone) (length gone + found.stops.at) first.0 found.stops.front
        (longer_between (part_of file 0 gone) piece 0 (length gone) first.0 first.1)
        (subst (λ (n : ℕ). StandBetween whole n (length gone + found.stops.at) found.stops.front) (omega arith) (between_behind 0 found.stops.at found.stops.front found.stops.readable))

    place : length gone + found.stops.at ≡ 0 + (length gone + found.stops.at)
    place = omega arith

    -- the reading of the file stops there
    pub stops_behind : StopsByFault Stood IsTaken (part_of file 0 (gone ++ piece)) e
    stops_behind = record {
      stops = record {
        at = length gone + found.stops.at;
        front = front;
        readable = up_to;
        taken = λ h small stood.
            subst IsTaken (sym (after h)) (found.stops.taken (h ++ history) (subst IsSmall (after h) small) (h, stood, refl));
        before_end = let inside = found.stops.before_end in omega (arith, inside, length-append gone piece);
        reason = λ not_memory. elim (found.stops.reason not_memory) [
          | inl none ↦ inl (subst (HasNoFront (λ xs. IsReadable xs (part_signature whole))) (sym (dropped found.stops.at)) none)
          | inr cannot ↦ inr (record {
            items = cannot.items;
            next = length gone + cannot.next;
            stands = stands_behind found.stops.at cannot.next cannot.items cannot.stands;
            unsound = λ h small before sound. cannot.unsound h small ((before.0 ++ history), (before.0, before.1, refl), before.2 ∙ after before.0) sound;
          })
        ];
        placed = subst (λ (n : ℕ). IsPlaced file.id n e) place found.stops.placed;
      };
      fault = λ none.
          let fault = found.fault (subst (HasNoFront (λ xs. IsReadable xs (part_signature whole))) (dropped found.stops.at) none) in
          record {
            fault = fault.fault;
            is_fault = subst (λ (t : List ℕ). IsNextFault (part_signature whole) t fault.fault) (sym (dropped found.stops.at)) fault.is_fault;
            placed = subst (λ (n : ℕ). IsWithPlace file.id n fault.fault e) place fault.placed;
          };
    }
