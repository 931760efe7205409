-- What is read of a part that is cut between two batches.
use Rattle.raft_replay.proofs.Common.{◌≡◌, ◌↔◌, ℕ, ◌+◌, ◌-◌, ◌<◌, ◌≤◌, List, [], ◌∷◌, ◌++◌, length, map, take, drop, refl, sym, ap, ◌∙◌, subst, arith, append_assoc, append-nil, drop-take, take-take, length-take-le}
use Rattle.raft_replay.proofs.Common.{take-append-add, FileBlockHandle, CompressionType, Part, IsBatchAt, HasHeader, IsFramedAt, framed_at, place_between, Item, placed_item, header_one, Event, bytes_before, rest_of, BatchesMeet}
use Rattle.raft_replay.proofs.Common.{AreHeldInTurn, HoldsFrom, AreCutFrom}
use Rattle.std.proofs.lemmas.List.{drop-drop, length-drop, take-append-drop}
use Rattle.raft_replay.proofs.Words.{PartHolds, PartsHold}
use Rattle.raft_replay.proofs.MachineOrderLemmas.{each_join, each_cut, each_single}
use Rattle.raft_replay.proofs.WrittenPartLemmas.{longer_stands}

-- ---- one batch

-- a batch that ends before a byte stands in the bytes before it
in_front : (part : Part) (at i next : ℕ) (items : List Item) → next ≤ at → IsBatchAt part i items next → IsBatchAt (bytes_before part at) i items next
in_front part at i next items before b =
    let xs = part.bytes in
    let more : ℕ = at - next in
    let all : i + (length b.bytes + more) ≡ at = let e = b.ends in omega (arith, before) in
    let rest : next + more ≡ at = omega (arith, before) in
    record {
      bytes = b.bytes;
      read = b.read;
      between = b.between;
      laid_out = b.laid_out;
      stands = ap (λ (n : ℕ). drop i (take n xs)) (sym all)
          ∙ drop-take i (length b.bytes + more) xs
          ∙ ap (take (length b.bytes + more)) b.stands
          ∙ take-append-add b.bytes (drop next xs) more
          ∙ ap (λ (t : List ℕ). b.bytes ++ t) (sym (drop-take next more xs) ∙ ap (λ (n : ℕ). drop next (take n xs)) rest);
      ends = b.ends;
      places = b.places;
    }

-- a batch in the bytes before one stands in the part
pub of_front : (part : Part) (at i next : ℕ) (items : List Item) → IsBatchAt (bytes_before part at) i items next → IsBatchAt part i items next
of_front part at i next items b =
    subst (λ (xs : List ℕ). IsBatchAt (record part { bytes = xs }) i items next) (take-append-drop at part.bytes)
    (longer_stands (bytes_before part at) (drop at part.bytes) i next items b)

-- where the entries of a batch lie does not hang on where the part begins
place_from : (part : Part) (at j len : ℕ) → place_between (rest_of part at) j len ≡ place_between part (at + j) len
place_from part at j len =
    let same : part.offset + at + j + 16 ≡ part.offset + (at + j) + 16 = omega arith in
    ap (λ (n : ℕ). record { id = part.id; offset = n; len = len }) same

-- a batch from a byte on stands in the bytes from there on
in_rest : (part : Part) (at j k : ℕ) (items : List Item) → IsBatchAt part (at + j) items (at + k) → IsBatchAt (rest_of part at) j items k
in_rest part at j k items b = record {
  bytes = b.bytes;
  read = b.read;
  between = b.between;
  laid_out = b.laid_out;
  stands = drop-drop j at part.bytes ∙ b.stands ∙ ap (λ (t : List ℕ). b.bytes ++ t) (sym (drop-drop k at part.bytes));
  ends = let e = b.ends in omega arith;
  places = b.places ∙ ap (λ (p : FileBlockHandle). map (placed_item p b.laid_out.compression) b.read) (sym (place_from part at j (length b.between)));
}

of_rest : (part : Part) (at j k : ℕ) (items : List Item) → IsBatchAt (rest_of part at) j items k → IsBatchAt part (at + j) items (at + k)
of_rest part at j k items b = record {
  bytes = b.bytes;
  read = b.read;
  between = b.between;
  laid_out = b.laid_out;
  stands = sym (drop-drop j at part.bytes) ∙ b.stands ∙ ap (λ (t : List ℕ). b.bytes ++ t) (drop-drop k at part.bytes);
  ends = let e = b.ends in omega arith;
  places = b.places ∙ ap (λ (p : FileBlockHandle). map (placed_item p b.laid_out.compression) b.read) (place_from part at j (length b.between));
}

-- one header stands in front
pub one_header : (bytes : List ℕ) (offset len offset' len' : ℕ) → HasHeader bytes offset len → HasHeader bytes offset' len' → len ≡ len'
one_header bytes offset len offset' len' h k =
    let same = (header_one h.header.front k.header.front h.rest k.rest (offset, h.compression, len) (offset', k.compression, len') h.header.spells k.header.spells (sym h.header.split ∙ k.header.split)).1 in
    ap (λ (t : ℕ × CompressionType × ℕ). t.2) same

-- the header of a batch that stands at a byte
pub batch_header : (part : Part) (at : ℕ) (items : List Item) (next : ℕ) (b : IsBatchAt part at items next) → HasHeader (drop at part.bytes) (framed_at b).offset (length (framed_at b).bytes)
batch_header part at items next b = let f : IsFramedAt part at items next = framed_at b in record {
  compression = f.frame.compression;
  rest = drop 16 f.bytes ++ drop next part.bytes;
  header = record {
    front = f.frame.header.front;
    spells = f.frame.header.spells;
    split = f.stands ∙ ap (λ (t : List ℕ). t ++ drop next part.bytes) f.frame.header.split ∙ append_assoc f.frame.header.front (drop 16 f.bytes) (drop next part.bytes);
  };
}

-- the batch that begins at a byte is as long as the header there says
pub header_ends : (part : Part) (i next offset len : ℕ) (items : List Item) → HasHeader (drop i part.bytes) offset len → IsBatchAt part i items next → next ≡ i + len
header_ends part i next offset len items h b =
    let long : len ≡ length (framed_at b).bytes = one_header (drop i part.bytes) offset len _ _ h (batch_header part i items next b) in
    let ends = (framed_at b).ends in
    omega (arith, long, ends)

-- ---- what is read before a byte and from there on

rest_read : (part : Part) (at j : ℕ) (h : List Event) → at ≤ length part.bytes → HoldsFrom part (at + j) h → HoldsFrom (rest_of part at) j h
rest_read part at j [] inside ends = let n = length-drop at part.bytes in omega (arith, n, inside)
rest_read part at j (e ∷ h) inside held =
    let b = held.1.1 in
    let k : ℕ = j + length b.bytes in
    let next : held.1.0 ≡ at + k = let ends = b.ends in omega arith in
    (held.0, (k, in_rest part at j k e.items (subst (λ (n : ℕ). IsBatchAt part (at + j) e.items n) next b), rest_read part at k h inside (subst (λ (n : ℕ). HoldsFrom part n h) next held.1.2)))

read_rest : (part : Part) (at j : ℕ) (h : List Event) → at ≤ length part.bytes → HoldsFrom (rest_of part at) j h → HoldsFrom part (at + j) h
read_rest part at j [] inside ends = let n = length-drop at part.bytes in omega (arith, n, inside)
read_rest part at j (e ∷ h) inside held =
    (held.0, (at + held.1.0, of_rest part at j held.1.0 e.items held.1.1, read_rest part at held.1.0 h inside held.1.2))

-- what is read before a byte, and then from there on
front_joined : (part : Part) (at i : ℕ) (h g : List Event) → at ≤ length part.bytes → HoldsFrom (bytes_before part at) i h → HoldsFrom part at g → HoldsFrom part i (h ++ g)
front_joined part at i [] g inside ends held = subst (λ (n : ℕ). HoldsFrom part n g) (sym (ends ∙ length-take-le at part.bytes inside)) held
front_joined part at i (e ∷ h) g inside first held =
    (first.0, (first.1.0, of_front part at i first.1.0 e.items first.1.1, front_joined part at first.1.0 h g inside first.1.2 held))

-- ---- where the headers lead

-- nothing is read in front of the first byte
pub meet_first : (part : Part) → BatchesMeet part 0
meet_first part h held = record { first = []; rest = h; first_held = sym (length-take-le 0 part.bytes (omega arith)); rest_held = held; split = refl }

-- one batch more is read before the byte that the next begins at
module _ (part : Part) (i len : ℕ) (inside : i + len ≤ length part.bytes) where
  grown : (first : List Event) (e : Event) → PartHolds (bytes_before part i) first → e.file ≡ part.id → IsBatchAt part i e.items (i + len)
      → PartHolds (bytes_before part (i + len)) (first ++ e ∷ [])
  grown first e held file b =
      let at = i + len in
      let few : i ≤ length (take at part.bytes) = let n = length-take-le at part.bytes inside in omega (arith, n) in
      let same = sym (take-take i at part.bytes (omega arith)) in
      let old = subst (λ (xs : List ℕ). HoldsFrom (record part { bytes = xs }) 0 first) same held in
      front_joined (bytes_before part at) i 0 first (e ∷ []) few old
      (file, (at, in_front part at i at e.items (omega arith) b, sym (length-take-le at part.bytes inside)))

  pub meet_next : (offset : ℕ) → 0 < len → HasHeader (drop i part.bytes) offset len → BatchesMeet part i → BatchesMeet part (i + len)
  meet_next offset some header meet h held = let r = meet h held in behind r r.rest refl
    where
      behind : (r : AreHeldInTurn (PartHolds (bytes_before part i)) (HoldsFrom part i) h) (left : List Event) → r.rest ≡ left
          → AreHeldInTurn (PartHolds (bytes_before part (i + len))) (HoldsFrom part (i + len)) h
      behind r [] none =
          let ends : i ≡ length part.bytes = subst (HoldsFrom part i) none r.rest_held in
          absurd (omega (arith, ends, inside, some))
      behind r (e ∷ g) is =
          let left = subst (HoldsFrom part i) is r.rest_held in
          let next = header_ends part i left.1.0 offset len e.items header left.1.1 in
          record {
            first = r.first ++ e ∷ [];
            rest = g;
            first_held = grown r.first e r.first_held left.0 (subst (λ (n : ℕ). IsBatchAt part i e.items n) next left.1.1);
            rest_held = subst (λ (n : ℕ). HoldsFrom part n g) next left.1.2;
            split = r.split ∙ ap (λ (t : List Event). r.first ++ t) is ∙ sym (append_assoc r.first (e ∷ []) g);
          }

-- ---- parts instead of one

-- one part alone
one_part : (p : Part) (h : List Event) → PartsHold (p ∷ []) h → PartHolds p h
one_part p h r = subst (PartHolds p) (sym (r.split ∙ ap (λ t. r.first ++ t) r.rest_held ∙ append-nil r.first)) r.first_held

pub uncut : (part : Part) → AreCutFrom part (part ∷ [])
uncut part h = (each_single PartHolds part h, one_part part h)

-- a part that is cut where batches meet
pub cut_in_two : (part : Part) (at : ℕ) → at ≤ length part.bytes → BatchesMeet part at → AreCutFrom part (bytes_before part at ∷ rest_of part at ∷ [])
cut_in_two part at inside meet h = (to, from)
  where
    to : PartHolds part h → PartsHold (bytes_before part at ∷ rest_of part at ∷ []) h
    to held =
        let r = meet h held in
        let first : at + 0 ≡ at = omega arith in
        record {
          first = r.first;
          rest = r.rest;
          first_held = r.first_held;
          rest_held = each_single PartHolds (rest_of part at) r.rest (rest_read part at 0 r.rest inside (subst (λ (n : ℕ). HoldsFrom part n r.rest) (sym first) r.rest_held));
          split = r.split;
        }

    from : PartsHold (bytes_before part at ∷ rest_of part at ∷ []) h → PartHolds part h
    from r =
        let first : at + 0 ≡ at = omega arith in
        let rest = subst (λ (n : ℕ). HoldsFrom part n r.rest) first (read_rest part at 0 r.rest inside (one_part (rest_of part at) r.rest r.rest_held)) in
        subst (PartHolds part) (sym r.split) (front_joined part at 0 r.first r.rest inside r.first_held rest)

-- the same is read where a part among others is cut
pub cut_among : (old new : List Part) (part : Part) (cut : List Part) → AreCutFrom part cut
    → (h : List Event) → PartsHold (old ++ part ∷ new) h ↔ PartsHold (old ++ cut ++ new) h
cut_among old new part cut same h = (to, from)
  where
    to : PartsHold (old ++ part ∷ new) h → PartsHold (old ++ cut ++ new) h
    to held =
        let r = each_cut PartHolds old (part ∷ new) h held in
        let s = r.rest_held in
        let behind = each_join PartHolds cut new s.first s.rest ((same s.first).0 s.first_held) s.rest_held in
        subst (PartsHold (old ++ cut ++ new)) (ap (λ (t : List Event). r.first ++ t) (sym s.split) ∙ sym r.split)
        (subst (λ (ps : List Part). PartsHold ps (r.first ++ (s.first ++ s.rest))) (sym (append_assoc old cut new)) (each_join PartHolds old (cut ++ new) r.first (s.first ++ s.rest) r.first_held behind))

    from : PartsHold (old ++ cut ++ new) h → PartsHold (old ++ part ∷ new) h
    from held =
        let r = each_cut PartHolds old (cut ++ new) h (subst (λ (ps : List Part). PartsHold ps h) (append_assoc old cut new) held) in
        let s = each_cut PartHolds cut new r.rest r.rest_held in
        let behind : PartsHold (part ∷ new) (s.first ++ s.rest) = record { first = s.first; rest = s.rest; first_held = (same s.first).1 s.first_held; rest_held = s.rest_held; split = refl } in
        subst (PartsHold (old ++ part ∷ new)) (ap (λ (t : List Event). r.first ++ t) (sym s.split) ∙ sym r.split)
        (each_join PartHolds old (part ∷ new) r.first (s.first ++ s.rest) r.first_held behind)

-- one part more is cut off the last
pub cut_again : (part left front rest : Part) (old new : List Part) (at : ℕ) → AreCutFrom part (old ++ left ∷ []) → at ≤ length left.bytes → BatchesMeet left at
    → front ≡ bytes_before left at → rest ≡ rest_of left at → new ≡ old ++ front ∷ [] → AreCutFrom part (new ++ rest ∷ [])
cut_again part left front rest old new at before inside meet front_is rest_is new_is h =
    let cut = bytes_before left at ∷ rest_of left at ∷ [] in
    let one = before h in
    let two = cut_among old [] left cut (cut_in_two left at inside meet) h in
    let same : old ++ cut ++ [] ≡ new ++ rest ∷ [] =
    append-nil (old ++ cut)
    ∙ sym (append_assoc old (bytes_before left at ∷ []) (rest_of left at ∷ []))
    ∙ ap (λ (p : Part). old ++ p ∷ [] ++ rest_of left at ∷ []) (sym front_is)
    ∙ ap (λ (l : List Part). l ++ rest_of left at ∷ []) (sym new_is)
    ∙ ap (λ (p : Part). new ++ p ∷ []) (sym rest_is) in (
      λ held. subst (λ (ps : List Part). PartsHold ps h) same (two.0 (one.0 held)),
      λ held. one.1 (two.1 (subst (λ (ps : List Part). PartsHold ps h) (sym same) held)),
    )
