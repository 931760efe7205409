-- On batches that are broken off.
use Rattle.raft_tail.proofs.Common.{◌≡◌, ◌≢◌, ℕ, ◌+◌, ◌^◌, ◌<◌, ◌≤◌, List, [], ◌∷◌, ◌++◌, Option, length, map, drop, take, inl, inr, refl, sym, ap, ◌∙◌, subst, arith, append_assoc, append-nil, length-append, cases_lt, length-drop, drop-append-le, drop_at, take-append-drop}
use Rattle.raft_tail.proofs.Common.{take-append-le, take_at, pair_one_front, sequence_one_front, varint_one_front, HasOneFront, IsVarint, varint, CompressionType, uncompressed, flat_map, HasHeader, IsItem, end_of_content, IsHeader, Item, bare, AreItems, IsItemBatch}
use Rattle.raft_tail.proofs.Common.{checksum_bytes, signed_crc, item_batch_bytes, item_bytes, crc32_of, IsBatchOf, IsLaidOut, encoded_length, entry_block, header_bytes, item_offset, log_batch_bytes, unsealed_bytes, AreInRange, header_len, item_one_front, count_le, header_one}
use Rattle.raft_tail.proofs.Common.{log_batch_length, four, batch_spelled, AreCounted, AreWhole, IsBroken}

-- ---- whole items

items_one_front : (n : ℕ) → HasOneFront (AreItems n)
items_one_front n a b more rest xs ys p q e =
    sequence_one_front (λ s (item : Item). end_of_content s item.content) IsItem item_one_front 0 xs ys a b more rest (p.count ∙ sym q.count) p.spelled q.spelled e

pub counted_one_front : HasOneFront AreCounted
counted_one_front a b more rest x y p q e =
    let same = pair_one_front IsVarint AreItems varint_one_front items_one_front a b more rest (length x) (length y) x y p q e in
    (same.0, same.2)

-- whole items are the counted ones and their checksum
pub whole_split : (bytes : List ℕ) (signature : Option ℕ) (items : List Item) → (w : AreWhole signature bytes items) → bytes ≡ w.front ++ checksum_bytes signature w.front
whole_split bytes signature items w = w.split ∙ ap (λ (t : List ℕ). t ++ checksum_bytes signature t) (append-nil w.front)

pub whole_length : (bytes : List ℕ) (signature : Option ℕ) (items : List Item) → (w : AreWhole signature bytes items) → length bytes ≡ length w.front + 4
whole_length bytes signature items w =
    omega (arith, ap length (whole_split bytes signature items w), length-append w.front (checksum_bytes signature w.front), four (signed_crc signature (crc32_of w.front)))

-- whole items in front of the same bytes are as long
pub whole_one : (a b more rest : List ℕ) (s t : Option ℕ) (xs ys : List Item) → AreWhole s a xs → AreWhole t b ys → a ++ more ≡ b ++ rest → length a ≡ length b
whole_one a b more rest s t xs ys v w e =
    let first = ap (λ (u : List ℕ). u ++ more) (whole_split a s xs v) ∙ append_assoc v.front (checksum_bytes s v.front) more in
    let second = ap (λ (u : List ℕ). u ++ rest) (whole_split b t ys w) ∙ append_assoc w.front (checksum_bytes t w.front) rest in
    let same = (counted_one_front v.front w.front (checksum_bytes s v.front ++ more) (checksum_bytes t w.front ++ rest) xs ys v.counted w.counted (sym first ∙ e ∙ second)).0 in
    omega (arith, whole_length a s xs v, whole_length b t ys w, ap length same)

-- ---- headers of parts

-- a header that stands in front of bytes stands in front of a part of them that is long enough
part_header : (bytes part rest : List ℕ) (offset len : ℕ) → HasHeader bytes offset len → bytes ≡ part ++ rest → 16 ≤ length part → HasHeader part offset len
part_header bytes part rest offset len h split long =
    let front = h.header.front in
    let sixteen : length front ≡ 16 = ap length h.header.spells.written ∙ header_len offset h.compression len in
    let same : take 16 part ≡ front = sym (take-append-le 16 part rest long) ∙ ap (take 16) (sym split ∙ h.header.split) ∙ take_at front h.rest 16 sixteen in
    record {
      compression = h.compression;
      rest = drop 16 part;
      header = record { front = front; spells = h.header.spells; split = sym (take-append-drop 16 part) ∙ ap (λ (t : List ℕ). t ++ drop 16 part) same };
    }

-- what stands in front of a part from a byte on stands in front of all bytes from there on
more_behind : (bytes part rest front more : List ℕ) (at : ℕ) → bytes ≡ part ++ rest → at ≤ length part → drop at part ≡ front ++ more → drop at bytes ≡ front ++ (more ++ rest)
more_behind bytes part rest front more at split inside e =
    ap (drop at) split ∙ drop-append-le at part rest inside ∙ ap (λ (t : List ℕ). t ++ rest) e ∙ append_assoc front more rest

-- whole items begin inside of the bytes
begins_inside : (part front more : List ℕ) (at : ℕ) (signature : Option ℕ) (items : List Item) → AreWhole signature front items → drop at part ≡ front ++ more → at ≤ length part
begins_inside part front more at signature items w e =
    omega (arith, whole_length front signature items w, ap length e, length-append front more, length-drop at part)

some_left : (rest : List ℕ) → rest ≢ [] → 0 < length rest
some_left [] some = absurd (some refl)
some_left (x ∷ rest) some = omega arith

-- ---- laws

-- where the items of a laid out batch begin
behind_at : (bytes between : List ℕ) (signature : Option ℕ) (items : List Item) → (laid : IsLaidOut bytes signature items between) →
    (drop (16 + length between) bytes ≡ laid.behind) × HasHeader bytes (16 + length between) (length bytes)
behind_at bytes between signature items laid =
    let at = 16 + length between in
    let head = header_bytes at laid.compression (length bytes) in
    let sixteen : length head ≡ 16 = header_len at laid.compression (length bytes) in
    let long : length (head ++ between) ≡ at = omega (arith, length-append head between, sixteen) in (
      ap (drop at) (laid.split ∙ sym (append_assoc head between laid.behind)) ∙ drop_at (head ++ between) laid.behind at long,
      record {
        compression = laid.compression;
        rest = between ++ laid.behind;
        header = record {
          front = head;
          spells = record {
            written = refl;
            length_fits = laid.fits;
            behind_header = omega arith;
            inside = omega (arith, ap length laid.split, length-append head (between ++ laid.behind), length-append between laid.behind, sixteen);
          };
          split = laid.split;
        };
      },
    )

pub part_broken : (bytes part rest between : List ℕ) (signature other : Option ℕ) (items : List Item) → (laid : IsLaidOut bytes signature items between) → laid.rest ≡ []
    → bytes ≡ part ++ rest → rest ≢ [] → IsBroken other part
part_broken bytes part rest between signature other items laid none split some =
    elim (cases_lt (length part) 16) [
      | inl short ↦ inl short
      | inr long ↦ inr (record {
        offset = at;
        len = length bytes;
        header = part_header bytes part rest at (length bytes) stands.1 split long;
        shorter = omega (arith, lengths, left);
        unfinished = λ front more xs w e.
            let inside = begins_inside part front more at other xs w e in
            let there = more_behind bytes part rest front more at split inside e in
            let same = whole_one front laid.behind (more ++ rest) [] other signature xs items w whole (sym there ∙ stands.0 ∙ sym (append-nil laid.behind)) in
            absurd (omega (arith, same, ap length (sym stands.0 ∙ there), length-append front (more ++ rest), length-append more rest, left));
      })
    ]
  where
    at : ℕ
    at = 16 + length between

    stands : (drop at bytes ≡ laid.behind) × HasHeader bytes at (length bytes)
    stands = behind_at bytes between signature items laid

    lengths : length bytes ≡ length part + length rest
    lengths = ap length split ∙ length-append part rest

    left : 0 < length rest
    left = some_left rest some

    whole : AreWhole signature laid.behind items
    whole = subst (λ (r : List ℕ). IsItemBatch laid.behind signature items r) none laid.item_batch

-- a written batch has nothing between its items and their checksum
written_laid : (signature : Option ℕ) (x : Item) (xs : List Item) (es : List ℕ) → IsBatchOf (x ∷ xs) es → AreInRange (x ∷ xs) → encoded_length (x ∷ xs) es < 2 ^ 56
    → (laid : IsLaidOut (log_batch_bytes signature (x ∷ xs) es) signature (map bare (x ∷ xs)) (entry_block es)) × (laid.rest ≡ [])
unfolding item_batch_bytes
written_laid signature x xs es b r fits =
    let items = x ∷ xs in
    let len = encoded_length items es in
    let head = header_bytes (item_offset es) uncompressed len in
    let block = entry_block es in
    let batch = item_batch_bytes items in
    let seal = checksum_bytes signature batch in
    let bytes = unsealed_bytes len items es ++ seal in
    let parted : bytes ≡ head ++ (block ++ (batch ++ seal)) = append_assoc head (block ++ batch) seal ∙ ap (λ (t : List ℕ). head ++ t) (append_assoc block batch seal) in
    let counted : length bytes ≡ len = log_batch_length signature items es in
    let count : length items < 2 ^ 64 = omega (arith, count_le items, length-append (varint (length items)) (flat_map item_bytes items), fits) in (
      record {
        behind = batch ++ seal;
        rest = [];
        compression = uncompressed;
        item_batch = batch_spelled signature items b.tiled r count;
        fits = omega (arith, counted, fits);
        split = parted ∙ ap (λ (n : ℕ). header_bytes (item_offset es) uncompressed n ++ (block ++ (batch ++ seal))) (sym counted);
      },
      refl,
    )

pub written_broken : (bytes part rest : List ℕ) (signature other : Option ℕ) (items : List Item) (es : List ℕ) → IsBatchOf items es → AreInRange items
    → encoded_length items es < 2 ^ 56 → bytes ≡ log_batch_bytes signature items es → bytes ≡ part ++ rest → rest ≢ [] → IsBroken other part
written_broken bytes part rest signature other [] es b r fits is split some = inl (omega (arith, ap length is, ap length split, length-append part rest))
written_broken bytes part rest signature other (x ∷ xs) es b r fits is split some =
    let laid = written_laid signature x xs es b r fits in
    part_broken (log_batch_bytes signature (x ∷ xs) es) part rest (entry_block es) signature other (map bare (x ∷ xs)) laid.0 laid.1 (sym is ∙ split) some

pub less_broken : (bytes part rest : List ℕ) (signature : Option ℕ) → IsBroken signature bytes → bytes ≡ part ++ rest → IsBroken signature part
less_broken bytes part rest signature (inl short) split = inl (omega (arith, short, ap length split, length-append part rest))
less_broken bytes part rest signature (inr c) split =
    elim (cases_lt (length part) 16) [
      | inl short ↦ inl short
      | inr long ↦ inr (record {
        offset = c.offset;
        len = c.len;
        header = part_header bytes part rest c.offset c.len c.header split long;
        shorter = omega (arith, c.shorter, ap length split, length-append part rest);
        unfinished = λ front more xs w e.
            c.unfinished front (more ++ rest) xs w (more_behind bytes part rest front more c.offset split (begins_inside part front more c.offset signature xs w e) e);
      })
    ]

pub whole_unbroken : (bytes header between behind rest : List ℕ) (signature : Option ℕ) (items : List Item) (compression : CompressionType) (len : ℕ)
    → IsHeader header (16 + length between, compression, len) → AreWhole signature behind items → bytes ≡ header ++ (between ++ (behind ++ rest)) → ¬ (IsBroken signature bytes)
whole_unbroken bytes header between behind rest signature items compression len is w split (inl short) =
    let sixteen : length header ≡ 16 = ap length is.written ∙ header_len (16 + length between) compression len in
    absurd (omega (arith, short, sixteen, ap length split, length-append header (between ++ (behind ++ rest))))
whole_unbroken bytes header between behind rest signature items compression len is w split (inr c) =
    let sixteen : length header ≡ 16 = ap length is.written ∙ header_len (16 + length between) compression len in
    let h = c.header.header in
    let same = (header_one h.front header c.header.rest (between ++ (behind ++ rest)) (c.offset, c.header.compression, c.len) (16 + length between, compression, len) h.spells is (sym h.split ∙ split)).1 in
    let at : c.offset ≡ length (header ++ between) = ap (λ (t : ℕ × CompressionType × ℕ). t.0) same ∙ omega (arith, sixteen, length-append header between) in
    let there : drop c.offset bytes ≡ behind ++ rest = ap (drop c.offset) (split ∙ sym (append_assoc header between (behind ++ rest))) ∙ drop_at (header ++ between) (behind ++ rest) c.offset (sym at) in
    c.unfinished behind rest items w there
