-- On log batches as they are read, part by part.
use Rattle.raft_records.proofs.Common.{◌≡◌, ◌≢◌, ℕ, ◌+◌, ◌-◌, ◌*◌, ◌^◌, ◌<◌, ◌≤◌, List, [], ◌∷◌, ◌++◌, map, length, take, drop, Option, None, ◌↔◌, Some, inl, inr, refl, sym, ap, ◌∙◌, subst, append_assoc, arith, flat_map, length-append}
use Rattle.raft_records.proofs.Common.{length-drop, length-take-le, append_cancel_left, take_at, drop_at, drop-drop, take-append-drop, big_bytes, HasOneFront, crc32_of, varint, IsReadAgain-big_bytes, CompressionType, compression_byte, Item}
use Rattle.raft_records.proofs.Common.{Content, entries, command, pair, bare, AreInRange, content_bytes, item_bytes, signed_crc, checksum_bytes, item_batch_bytes, IsItemBatch, IsBatchOf, header_bytes, entry_block, item_offset}
use Rattle.raft_records.proofs.Common.{unsealed_bytes, encoded_length, log_batch_bytes, IsLaidOut, IsLogBatch, IsReadable, IsHeader, IsEntryBlockOf, IsFramed, IsFramedWith, uncompressed}
use Rattle.raft_records.proofs.BufferLemmas.{header_len}
use Rattle.raft_records.proofs.HeaderLemmas.{byte_of_type}
use Rattle.raft_records.proofs.ItemLemmas.{same_length}
use Rattle.raft_records.proofs.SealLemmas.{four}
use Rattle.raft_records.proofs.BatchLemmas.{one_batch, one_file}
use Rattle.raft_records.proofs.WrittenLemmas.{batch_spelled}

-- ---- headers

-- there is one type of compression
pub same_compression : (c d : CompressionType) → c ≡ d
same_compression uncompressed uncompressed = refl

big_one : (x y : ℕ) (more rest : List ℕ) → x < 2 ^ 64 → y < 2 ^ 64 → big_bytes 8 x ++ more ≡ big_bytes 8 y ++ rest → (x ≡ y) × (more ≡ rest)
big_one x y more rest h k e =
    let one = (IsReadAgain-big_bytes 8).one_front (big_bytes 8 x) (big_bytes 8 y) more rest x y (record { in_range = h; written = refl }) (record { in_range = k; written = refl }) e in
    (one.1, append_cancel_left (big_bytes 8 x) more rest (e ∙ ap (λ (t : List ℕ). t ++ rest) (sym one.0)))

-- a header says one thing
pub header_one : HasOneFront IsHeader
unfolding header_bytes
header_one a b more rest x y h k e =
    let lens : length a ≡ length b = ap length h.written ∙ header_len x.0 x.1 x.2 ∙ sym (ap length k.written ∙ header_len y.0 y.1 y.2) in
    let same : a ≡ b = same_length a b more rest lens e in
    let x_fits : x.2 < 2 ^ 56 = h.length_fits in
    let y_fits : y.2 < 2 ^ 56 = k.length_fits in
    let x_inside : x.0 ≤ x.2 = h.inside in
    let y_inside : y.0 ≤ y.2 = k.inside in
    let x_byte : compression_byte x.1 ≡ 0 = byte_of_type x.1 in
    let y_byte : compression_byte y.1 ≡ 0 = byte_of_type y.1 in
    let words : big_bytes 8 (x.2 * 256 + compression_byte x.1) ++ big_bytes 8 x.0 ≡ big_bytes 8 (y.2 * 256 + compression_byte y.1) ++ big_bytes 8 y.0 = sym h.written ∙ same ∙ k.written in
    let first = big_one (x.2 * 256 + compression_byte x.1) (y.2 * 256 + compression_byte y.1) (big_bytes 8 x.0) (big_bytes 8 y.0) (omega arith) (omega arith) words in
    let second = big_one x.0 y.0 [] [] (omega arith) (omega arith) (ap (λ (t : List ℕ). t ++ []) first.1) in
    let offset : x.0 ≡ y.0 = second.0 in
    let type : x.1 ≡ y.1 = same_compression x.1 y.1 in
    let len : x.2 ≡ y.2 = omega (arith, first.0, x_byte, y_byte) in
    (same, λ i. (offset i, type i, len i))

-- ---- frames

-- where the parts of a batch stand
places : (bytes : List ℕ) (signature : Option ℕ) (items : List Item) (between : List ℕ) → (h : IsLaidOut bytes signature items between) →
    (drop 16 bytes ≡ between ++ h.behind) × (drop (16 + length between) bytes ≡ h.behind) × (16 + length between ≤ length bytes)
places bytes signature items between h =
    let head = header_bytes (16 + length between) h.compression (length bytes) in
    let sixteen : length head ≡ 16 = header_len (16 + length between) h.compression (length bytes) in
    let behind : drop 16 bytes ≡ between ++ h.behind = ap (drop 16) h.split ∙ drop_at head (between ++ h.behind) 16 sixteen in (
      behind,
      sym (drop-drop (length between) 16 bytes) ∙ ap (drop (length between)) behind ∙ drop_at between h.behind (length between) refl,
      omega (arith, ap length h.split, length-append head (between ++ h.behind), length-append between h.behind, sixteen),
    )

pub framed : (bytes : List ℕ) (signature : Option ℕ) (items : List Item) (between : List ℕ) → IsLaidOut bytes signature items between → IsFramed bytes signature items (16 + length between)
framed bytes signature items between h =
    let at = places bytes signature items between h in
    let head = header_bytes (16 + length between) h.compression (length bytes) in
    record {
      compression = h.compression;
      rest = h.rest;
      header = record {
        front = head;
        spells = record { written = refl; length_fits = h.fits; behind_header = omega arith; inside = at.2 };
        split = h.split ∙ ap (λ (t : List ℕ). head ++ t) (sym at.0);
      };
      item_batch = subst (λ (t : List ℕ). IsItemBatch t signature items h.rest) (sym at.1) h.item_batch;
    }

pub laid_out : (bytes : List ℕ) (signature : Option ℕ) (items : List Item) (offset : ℕ) → IsFramed bytes signature items offset →
    (16 + length (take (offset - 16) (drop 16 bytes)) ≡ offset) × IsLaidOut bytes signature items (take (offset - 16) (drop 16 bytes))
laid_out bytes signature items offset f =
    let least : 16 ≤ offset = f.header.spells.behind_header in
    let inside : offset ≤ length bytes = f.header.spells.inside in
    let counted : length (take (offset - 16) (drop 16 bytes)) ≡ offset - 16 = length-take-le (offset - 16) (drop 16 bytes) (omega (arith, length-drop 16 bytes)) in
    let at : 16 + length (take (offset - 16) (drop 16 bytes)) ≡ offset = omega arith in
    let behind : drop (offset - 16) (drop 16 bytes) ≡ drop offset bytes = drop-drop (offset - 16) 16 bytes ∙ ap (λ (n : ℕ). drop n bytes) (omega arith) in
    let between : drop 16 bytes ≡ take (offset - 16) (drop 16 bytes) ++ drop offset bytes = sym (take-append-drop (offset - 16) (drop 16 bytes)) ∙ ap (λ (t : List ℕ). take (offset - 16) (drop 16 bytes) ++ t) behind in
    let head : f.header.front ≡ header_bytes (16 + length (take (offset - 16) (drop 16 bytes))) f.compression (length bytes) = f.header.spells.written ∙ ap (λ (n : ℕ). header_bytes n f.compression (length bytes)) (sym at) in (
      at,
      record {
        behind = drop offset bytes;
        rest = f.rest;
        compression = f.compression;
        item_batch = f.item_batch;
        fits = f.header.spells.length_fits;
        split = f.header.split ∙ ap (λ (t : List ℕ). t ++ drop 16 bytes) head ∙ ap (λ (t : List ℕ). header_bytes (16 + length (take (offset - 16) (drop 16 bytes))) f.compression (length bytes) ++ t) between;
      },
    )

pub readable : (bytes : List ℕ) (signature : Option ℕ) (items : List Item) → IsReadable bytes signature items ↔ ((offset : ℕ) × IsFramed bytes signature items offset)
readable bytes signature items =
    (λ (between, h). (16 + length between, framed bytes signature items between h), λ (offset, f). (take (offset - 16) (drop 16 bytes), (laid_out bytes signature items offset f).1))

-- ---- entry blocks

-- an entry block is what stands in front, as long as it is
entry_block_is : (len : ℕ) (bytes es : List ℕ) → IsEntryBlockOf len bytes es → take len bytes ≡ entry_block es
entry_block_is len bytes es (inl h) = ap (λ (n : ℕ). take n bytes) h.0 ∙ ap entry_block (sym h.1)
entry_block_is len bytes [] (inr h) = absurd (omega (arith, h.2.some))
entry_block_is len bytes (e ∷ es) (inr h) = h.2.split

is_entry_block : (len : ℕ) (bytes es : List ℕ) → len ≤ length bytes → take len bytes ≡ entry_block es → IsEntryBlockOf len bytes es
is_entry_block len bytes [] le h = inl (omega (arith, ap length h, length-take-le len bytes le), refl)
is_entry_block len bytes (e ∷ es) le h =
    inr (omega (arith, ap length h, length-take-le len bytes le), le, record { some = omega arith; split = h })

block_one : (es es' : List ℕ) → entry_block es ≡ entry_block es' → es ≡ es'
block_one [] [] h = refl
block_one [] (y ∷ es') h = absurd (omega (arith, ap length h))
block_one (x ∷ es) [] h = absurd (omega (arith, ap length h))
block_one (x ∷ es) (y ∷ es') h =
    same_length (x ∷ es) (y ∷ es') (checksum_bytes None (x ∷ es)) (checksum_bytes None (y ∷ es'))
    (omega (
      arith,
      ap length h,
      length-append (x ∷ es) (checksum_bytes None (x ∷ es)),
      length-append (y ∷ es') (checksum_bytes None (y ∷ es')),
      four (crc32_of (x ∷ es)),
      four (crc32_of (y ∷ es')),
    )) h

pub one_entry_block : (len : ℕ) (bytes es es' : List ℕ) → IsEntryBlockOf len bytes es → IsEntryBlockOf len bytes es' → es ≡ es'
one_entry_block len bytes es es' h k = block_one es es' (sym (entry_block_is len bytes es h) ∙ entry_block_is len bytes es' k)

-- ---- log batches

pub parts : (bytes : List ℕ) (signature : Option ℕ) (items : List Item) (es : List ℕ) → IsLogBatch bytes signature items es ↔ IsFramedWith bytes signature items es
parts bytes signature items es = (
  λ h.
      let at = places bytes signature items (entry_block es) h in
      let n : 16 + length (entry_block es) - 16 ≡ length (entry_block es) = omega arith in
      record {
        offset = 16 + length (entry_block es);
        frame = framed bytes signature items (entry_block es) h;
        entry_block = is_entry_block (16 + length (entry_block es) - 16) (drop 16 bytes) es (omega (arith, at.2, length-drop 16 bytes))
            (ap (λ (k : ℕ). take k (drop 16 bytes)) n ∙ ap (take (length (entry_block es))) at.0
            ∙ take_at (entry_block es) h.behind (length (entry_block es)) refl);
      },
  λ p.
      subst (λ (t : List ℕ). IsLaidOut bytes signature items t) (entry_block_is (p.offset - 16) (drop 16 bytes) es p.entry_block) (laid_out bytes signature items p.offset p.frame).1,
)

-- what lies between a header and an item batch, and the item batch, are those of the bytes
laid_one : (bytes : List ℕ) (signature signature' : Option ℕ) (items items' : List Item) (between between' : List ℕ) →
    (h : IsLaidOut bytes signature items between) (k : IsLaidOut bytes signature' items' between') → (between ≡ between') × (h.behind ≡ k.behind)
laid_one bytes signature signature' items items' between between' h k =
    let f = framed bytes signature items between h in
    let g = framed bytes signature' items' between' k in
    let one = header_one f.header.front g.header.front (drop 16 bytes) (drop 16 bytes) (16 + length between, f.compression, length bytes)
    (16 + length between', g.compression, length bytes) f.header.spells g.header.spells (sym f.header.split ∙ g.header.split) in
    let offset : 16 + length between ≡ 16 + length between' = ap (λ (x : ℕ × CompressionType × ℕ). x.0) one.1 in
    let behind : between ++ h.behind ≡ between' ++ k.behind = sym (places bytes signature items between h).0 ∙ (places bytes signature' items' between' k).0 in
    let same : between ≡ between' = same_length between between' h.behind k.behind (omega arith) behind in
    (same, append_cancel_left between h.behind k.behind (behind ∙ ap (λ (t : List ℕ). t ++ k.behind) (sym same)))

pub one_log_batch : (bytes es es' : List ℕ) (signature : Option ℕ) (items items' : List Item) → IsLogBatch bytes signature items es → IsLogBatch bytes signature items' es' → (items ≡ items') × (es ≡ es')
one_log_batch bytes es es' signature items items' h k =
    let one = laid_one bytes signature signature items items' (entry_block es) (entry_block es') h k in
    let batch : IsItemBatch k.behind signature items h.rest = subst (λ (t : List ℕ). IsItemBatch t signature items h.rest) one.1 h.item_batch in
    ((one_batch k.behind h.rest k.rest signature items items' batch k.item_batch).0, block_one es es' one.0)

pub one_file_readable : (bytes : List ℕ) (s t : ℕ) (items items' : List Item) → s < 2 ^ 32 → t < 2 ^ 32 → IsReadable bytes (Some s) items → IsReadable bytes (Some t) items' → s ≡ t
one_file_readable bytes s t items items' s_fits t_fits (between, h) (between', k) =
    let one = laid_one bytes (Some s) (Some t) items items' between between' h k in
    let batch : IsItemBatch k.behind (Some s) items h.rest = subst (λ (b : List ℕ). IsItemBatch b (Some s) items h.rest) one.1 h.item_batch in
    one_file k.behind h.rest k.rest s t items items' s_fits t_fits batch k.item_batch

-- ---- what is written

item_some : (x : Item) → 0 < length (item_bytes x)
item_some x = omega (arith, length-append (varint x.raft_group_id) (content_bytes x.content), some x.content)
  where
    some : (c : Content) → 0 < length (content_bytes c)
    some (entries es) = omega arith
    some (command c) = omega arith
    some (pair p) = omega arith

pub count_le : (xs : List Item) → length xs ≤ length (flat_map item_bytes xs)
count_le [] = omega arith
count_le (x ∷ xs) = omega (arith, count_le xs, item_some x, length-append (item_bytes x) (flat_map item_bytes xs))

batch_count_le : (xs : List Item) → length xs ≤ length (item_batch_bytes xs)
unfolding item_batch_bytes
batch_count_le xs =
    omega (arith, count_le xs, length-append (varint (length xs)) (flat_map item_bytes xs))

-- as many bytes as the batch's length says
pub log_batch_length : (signature : Option ℕ) (items : List Item) (es : List ℕ) → length (log_batch_bytes signature items es) ≡ encoded_length items es
log_batch_length signature [] es = refl
log_batch_length signature (x ∷ xs) es =
    let items = x ∷ xs in
    let head = header_bytes (item_offset es) uncompressed (encoded_length items es) in
    let block = entry_block es in
    let batch = item_batch_bytes items in
    let seal = checksum_bytes signature batch in
    omega (
      arith,
      length-append (head ++ (block ++ batch)) seal,
      length-append head (block ++ batch),
      length-append block batch,
      header_len (item_offset es) uncompressed (encoded_length items es),
      four (signed_crc signature (crc32_of batch)),
    )

pub log_batch_spelled : (signature : Option ℕ) (items : List Item) (es : List ℕ) → IsBatchOf items es → AreInRange items → items ≢ [] →
    encoded_length items es < 2 ^ 56 → IsLogBatch (log_batch_bytes signature items es) signature (map bare items) es
log_batch_spelled signature [] es b r some fits = absurd (some refl)
log_batch_spelled signature (x ∷ xs) es b r some fits =
    let items = x ∷ xs in
    let len = encoded_length items es in
    let head = header_bytes (item_offset es) uncompressed len in
    let block = entry_block es in
    let batch = item_batch_bytes items in
    let seal = checksum_bytes signature batch in
    let bytes = unsealed_bytes len items es ++ seal in
    let parted : bytes ≡ head ++ (block ++ (batch ++ seal)) = append_assoc head (block ++ batch) seal ∙ ap (λ (t : List ℕ). head ++ t) (append_assoc block batch seal) in
    let counted : length bytes ≡ len = omega (
      arith,
      ap length parted,
      length-append head (block ++ (batch ++ seal)),
      length-append block (batch ++ seal),
      length-append batch seal,
      header_len (item_offset es) uncompressed len,
      four (signed_crc signature (crc32_of batch)),
    ) in
    let count : length items < 2 ^ 64 = omega (arith, batch_count_le items, fits) in
    record {
      behind = batch ++ seal;
      rest = [];
      compression = uncompressed;
      item_batch = batch_spelled signature items b.tiled r count;
      fits = omega (arith, counted, fits);
      split = parted ∙ ap (λ (n : ℕ). header_bytes (item_offset es) uncompressed n ++ (block ++ (batch ++ seal))) (sym counted);
    }
