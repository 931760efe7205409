-- On the batches that stand in a part of a file.
use Rattle.raft_records.proofs.Common.{◌≡◌, ◌≢◌, ℕ, ◌+◌, ◌-◌, ◌^◌, ◌<◌, ◌≤◌, List, [], ◌∷◌, ◌++◌, map, length, take, drop, Option, Some, None, refl, sym, ap, ◌∙◌, subst, append_assoc, arith, inr, FileBlockHandle, Error, IsMemory, Part}
use Rattle.raft_records.proofs.Common.{IsBatchAt, IsNext, IsNextFault, StandBetween, AreBatchesUpTo, AreInRange, length-append, length-drop, length-take-le, take-append-drop, take_at, drop_at, drop-take, drop-drop, take-add, Reads}
use Rattle.raft_records.proofs.Common.{HasNoFront, CompressionType, Item, bare, AreInBytes, IsItemBatch, IsItemBatchFault, placed_item, IsBatchOf, IsReadable, entry_block, entry_place, item_offset, encoded_length, log_batch_bytes, IsHeader}
use Rattle.raft_records.proofs.Common.{IsFramed, part_signature, entries_place, uncompressed}
use Rattle.raft_records.proofs.BatchLemmas.{no_room_for_items, one_batch}
use Rattle.raft_records.proofs.ItemLemmas.{same_length}
use Rattle.raft_records.proofs.RangeLemmas.{items_read}
use Rattle.raft_records.proofs.FramedAt.{IsFramedAt, framed_at, laid_at}
use Rattle.raft_records.proofs.BufferLemmas.{header_len}
use Rattle.raft_records.proofs.FrameLemmas.{header_one, readable, framed, same_compression, log_batch_spelled, log_batch_length}

-- where no header stands, no batch does
pub no_header : (xs : List ℕ) (signature : Option ℕ) → HasNoFront IsHeader xs → HasNoFront (λ bytes. IsReadable bytes signature) xs
no_header xs signature none front rest items r split =
    let framed = (readable front signature items).0 r in
    let f = framed.1 in
    none f.header.front (drop 16 front ++ rest) (framed.0, f.compression, length front) f.header.spells (split ∙ ap (λ (t : List ℕ). t ++ rest) f.header.split ∙ append_assoc f.header.front (drop 16 front) rest)

-- a batch that stands in front has the header that was read
same_header : (xs ys : List ℕ) (signature : Option ℕ) (header : ℕ × CompressionType × ℕ) (front rest : List ℕ) (items : List Item) →
    Reads IsHeader xs ys header → (r : IsReadable front signature items) → xs ≡ front ++ rest →
    header ≡ (((readable front signature items).0 r).0, ((readable front signature items).0 r).1.compression, length front)
same_header xs ys signature header front rest items h r split =
    let framed = (readable front signature items).0 r in
    let f = framed.1 in
    (header_one h.front f.header.front ys (drop 16 front ++ rest) header (framed.0, f.compression, length front) h.spells f.header.spells
    (sym h.split ∙ split ∙ ap (λ (t : List ℕ). t ++ rest) f.header.split ∙ append_assoc f.header.front (drop 16 front) rest)).1

-- what is shorter than its header says is no batch
pub cut_short : (xs ys : List ℕ) (signature : Option ℕ) (offset len : ℕ) (compression : CompressionType) → Reads IsHeader xs ys (offset, compression, len) → length xs < len → HasNoFront (λ bytes. IsReadable bytes signature) xs
cut_short xs ys signature offset len compression h short front rest items r split =
    let same : len ≡ length front = ap (λ (t : ℕ × CompressionType × ℕ). t.2) (same_header xs ys signature (offset, compression, len) front rest items h r split) in
    absurd (omega (arith, same, ap length split, length-append front rest))

-- where the item batch is none, no batch stands
pub no_item_batch : (xs ys : List ℕ) (signature : Option ℕ) (offset len : ℕ) (compression : CompressionType) →
    Reads IsHeader xs ys (offset, compression, len) →
    ((items : List Item) (rest : List ℕ) → IsItemBatch (drop offset (take len xs)) signature items rest → ⊥) →
    HasNoFront (λ bytes. IsReadable bytes signature) xs
no_item_batch xs ys signature offset len compression h none front rest items r split =
    let framed = (readable front signature items).0 r in
    let f = framed.1 in
    let same = same_header xs ys signature (offset, compression, len) front rest items h r split in
    let at : offset ≡ framed.0 = ap (λ (t : ℕ × CompressionType × ℕ). t.0) same in
    let long : len ≡ length front = ap (λ (t : ℕ × CompressionType × ℕ). t.2) same in
    let whole : take len xs ≡ front = ap (take len) split ∙ take_at front rest len (sym long) in
    let item_batch : drop framed.0 front ≡ drop offset (take len xs) = ap (λ (n : ℕ). drop n front) (sym at) ∙ ap (drop offset) (sym whole) in
    none items f.rest (subst (λ (t : List ℕ). IsItemBatch t signature items f.rest) item_batch f.item_batch)

-- a header and the item batch behind it are a batch
pub batch_stands : (xs ys : List ℕ) (signature : Option ℕ) (offset len : ℕ) (compression : CompressionType) (items : List Item) (rest : List ℕ) →
    Reads IsHeader xs ys (offset, compression, len) → len ≤ length xs → IsItemBatch (drop offset (take len xs)) signature items rest →
    (f : IsFramed (take len xs) signature items offset) × (f.compression ≡ compression)
batch_stands xs ys signature offset len compression items rest h whole b =
    let least : 16 ≤ offset = h.spells.behind_header in
    let inside : offset ≤ len = h.spells.inside in
    let long : length (take len xs) ≡ len = length-take-le len xs whole in
    let sixteen : length h.front ≡ 16 = ap length h.spells.written ∙ header_len offset compression len in
    let first : take 16 xs ≡ h.front = ap (take 16) h.split ∙ take_at h.front ys 16 sixteen in
    let more : 16 + (len - 16) ≡ len = omega arith in
    let behind : take (len - 16) (drop 16 xs) ≡ drop 16 (take len xs) = sym (drop-take 16 (len - 16) xs) ∙ ap (λ (n : ℕ). drop 16 (take n xs)) more in (
      record {
        compression = compression;
        rest = rest;
        header = record {
          front = h.front;
          spells = subst (λ (n : ℕ). IsHeader h.front (offset, compression, n)) (sym long) h.spells;
          split = sym (ap (λ (n : ℕ). take n xs) more) ∙ take-add 16 (len - 16) xs ∙ ap (λ (t : List ℕ). t ++ take (len - 16) (drop 16 xs)) first ∙ ap (λ (t : List ℕ). h.front ++ t) behind;
        };
        item_batch = b;
      },
      refl,
    )

-- behind a batch stands what is behind its bytes
pub batch_split : (bytes : List ℕ) (at len : ℕ) → drop at bytes ≡ take len (drop at bytes) ++ drop (at + len) bytes
batch_split bytes at len = sym (take-append-drop len (drop at bytes)) ∙ ap (λ (t : List ℕ). take len (drop at bytes) ++ t) (drop-drop len at bytes)

-- where a batch stands, there may be no memory for its items
pub no_room_for_batch : (part : Part) (at : ℕ) (items : List Item) (next : ℕ) (e : Error) → IsBatchAt part at items next → IsMemory e → IsNextFault (part_signature part) (drop at part.bytes) e
no_room_for_batch part at items next e b memory =
    let f : IsFramedAt part at items next = framed_at b in
    let more = drop next part.bytes in
    let header = f.frame.header in
    let front : take (length f.bytes) (drop at part.bytes) ≡ f.bytes = ap (take (length f.bytes)) f.stands ∙ take_at f.bytes more (length f.bytes) refl in
    inr (inr (record {
      offset = f.offset;
      len = length f.bytes;
      header = record {
        compression = f.frame.compression;
        rest = drop 16 f.bytes ++ more;
        header = record {
          front = header.front;
          spells = header.spells;
          split = f.stands ∙ ap (λ (t : List ℕ). t ++ more) header.split ∙ append_assoc header.front (drop 16 f.bytes) more;
        };
      };
      whole = omega (arith, ap length f.stands, length-append f.bytes more);
      fault = subst (λ (t : List ℕ). IsItemBatchFault (part_signature part) (drop f.offset t) e) (sym front) (no_room_for_items (part_signature part) (drop f.offset f.bytes) f.frame.rest f.read e f.frame.item_batch memory);
    }))

-- ---- a written batch that stands in a part

-- two batches in front of the same bytes are the same one
one_front : (xs more rest front other : List ℕ) (signature : Option ℕ) (items items' : List Item) (offset offset' : ℕ)
    (f : IsFramed front signature items offset) → (g : IsFramed other signature items' offset') → xs ≡ front ++ more → xs ≡ other ++ rest →
    (front ≡ other) × (offset ≡ offset') × (f.compression ≡ g.compression) × (items ≡ items')
one_front xs more rest front other signature items items' offset offset' f g e k =
    let header = (header_one f.header.front g.header.front (drop 16 front ++ more) (drop 16 other ++ rest) (offset, f.compression, length front)
    (offset', g.compression, length other) f.header.spells g.header.spells (sym (append_assoc f.header.front (drop 16 front) more)
    ∙ ap (λ (t : List ℕ). t ++ more) (sym f.header.split) ∙ sym e ∙ k ∙ ap (λ (t : List ℕ). t ++ rest) g.header.split
    ∙ append_assoc g.header.front (drop 16 other) rest)).1 in
    let at : offset ≡ offset' = ap (λ (t : ℕ × CompressionType × ℕ). t.0) header in
    let long : length front ≡ length other = ap (λ (t : ℕ × CompressionType × ℕ). t.2) header in
    let same : front ≡ other = same_length front other more rest long (sym e ∙ k) in
    let item_batch : drop offset front ≡ drop offset' other = ap (λ (n : ℕ). drop n front) at ∙ ap (drop offset') same in
    (same, at, ap (λ (t : ℕ × CompressionType × ℕ). t.1) header, (one_batch (drop offset' other) f.rest g.rest signature items items' (subst (λ (t : List ℕ). IsItemBatch t signature items f.rest) item_batch f.item_batch) g.item_batch).0)

-- a written batch, part by part
written_framed : (signature : Option ℕ) (items : List Item) (es : List ℕ) → IsBatchOf items es → AreInRange items → items ≢ [] →
    encoded_length items es < 2 ^ 56 → IsFramed (log_batch_bytes signature items es) signature (map bare items) (item_offset es)
written_framed signature items es b r some fits = framed (log_batch_bytes signature items es) signature (map bare items) (entry_block es) (log_batch_spelled signature items es b r some fits)

encoded_some : (items : List Item) (es : List ℕ) → items ≢ [] → 0 < encoded_length items es
encoded_some [] es some = absurd (some refl)
encoded_some (x ∷ xs) es some = omega arith

pub written_next : (part : Part) (at : ℕ) (handle : FileBlockHandle) (items : List Item) (es rest : List ℕ) (answer : Option (List Item × ℕ)) →
    IsBatchOf items es → AreInRange items → AreInBytes items → items ≢ [] → encoded_length items es < 2 ^ 56 → handle.id ≡ part.id →
    handle.offset ≡ part.offset + at → drop at part.bytes ≡ log_batch_bytes (part_signature part) items es ++ rest → IsNext part at answer →
    answer ≡ Some (map (placed_item (entry_place handle es) uncompressed) items, at + encoded_length items es)
written_next part at handle items es rest None b r held some fits id offset stands n =
    absurd (omega (arith, n, ap length stands, length-drop at part.bytes, length-append (log_batch_bytes (part_signature part) items es) rest, log_batch_length (part_signature part) items es, encoded_some items es some))
written_next part at handle items es rest (Some next) b r held some fits id offset stands there =
    let n : IsFramedAt part at next.0 next.1 = framed_at there in
    let one = one_front (drop at part.bytes) (drop next.1 part.bytes) rest n.bytes (log_batch_bytes (part_signature part) items es)
    (part_signature part) n.read (map bare items) n.offset (item_offset es) n.frame
    (written_framed (part_signature part) items es b r some fits) n.stands stands in
    let long : length n.bytes ≡ encoded_length items es = ap length one.0 ∙ log_batch_length (part_signature part) items es in
    let ends : next.1 ≡ at + encoded_length items es = n.ends ∙ ap (λ (k : ℕ). at + k) long in
    let len : n.offset - 16 ≡ length (entry_block es) = omega (arith, one.1) in
    let begin : part.offset + at + 16 ≡ handle.offset + 16 = omega (arith, offset) in
    let moved_to : entries_place part at n.offset ≡ entry_place handle es = λ i. record { id = sym id i; offset = begin i; len = len i } in
    let moved : map (placed_item (entries_place part at n.offset) n.frame.compression) n.read ≡ map (placed_item (entry_place handle es) uncompressed) (map bare items) =
    ap (λ p. map (placed_item p n.frame.compression) n.read) moved_to
    ∙ ap (λ c. map (placed_item (entry_place handle es) c) n.read) (same_compression n.frame.compression uncompressed) ∙ ap (map (placed_item (entry_place handle es) uncompressed)) one.3 in
    let items_are : next.0 ≡ map (placed_item (entry_place handle es) uncompressed) items = n.places ∙ moved ∙ items_read (entry_place handle es) uncompressed items held in
    λ i. Some (items_are i, ends i)

-- the batch stands there
pub written_stands : (part : Part) (at : ℕ) (handle : FileBlockHandle) (items : List Item) (es rest : List ℕ) → IsBatchOf items es →
    AreInRange items → AreInBytes items → items ≢ [] → encoded_length items es < 2 ^ 56 → handle.id ≡ part.id → handle.offset ≡ part.offset + at →
    drop at part.bytes ≡ log_batch_bytes (part_signature part) items es ++ rest →
    IsBatchAt part at (map (placed_item (entry_place handle es) uncompressed) items) (at + encoded_length items es)
written_stands part at handle items es rest b r held some fits id offset stands =
    let bytes = log_batch_bytes (part_signature part) items es in
    let long : length bytes ≡ encoded_length items es = log_batch_length (part_signature part) items es in
    let frame = written_framed (part_signature part) items es b r some fits in
    let begin : part.offset + at + 16 ≡ handle.offset + 16 = omega (arith, offset) in
    let len : item_offset es - 16 ≡ length (entry_block es) = omega arith in
    let place : entry_place handle es ≡ entries_place part at (item_offset es) = λ i. record { id = id i; offset = sym begin i; len = sym len i } in
    let behind : drop (at + encoded_length items es) part.bytes ≡ rest =
    sym (drop-drop (encoded_length items es) at part.bytes) ∙ ap (drop (encoded_length items es)) stands ∙ drop_at bytes rest (encoded_length items es) long in
    laid_at (record {
      bytes = bytes;
      read = map bare items;
      offset = item_offset es;
      frame = frame;
      stands = stands ∙ ap (λ (t : List ℕ). bytes ++ t) (sym behind);
      ends = ap (λ (k : ℕ). at + k) (sym long);
      places = sym (items_read (entry_place handle es) uncompressed items held)
          ∙ ap (λ p. map (placed_item p uncompressed) (map bare items)) place
          ∙ ap (λ c. map (placed_item (entries_place part at (item_offset es)) c) (map bare items)) (sym (same_compression frame.compression uncompressed));
    })

pub written_accepted : (part : Part) (at : ℕ) (items : List Item) (es rest : List ℕ) → IsBatchOf items es → AreInRange items → items ≢ [] →
    encoded_length items es < 2 ^ 56 → drop at part.bytes ≡ log_batch_bytes (part_signature part) items es ++ rest →
    HasNoFront (λ bytes. IsReadable bytes (part_signature part)) (drop at part.bytes) → ⊥
written_accepted part at items es rest b r some fits stands none =
    none (log_batch_bytes (part_signature part) items es) rest (map bare items) (entry_block es, log_batch_spelled (part_signature part) items es b r some fits) stands

-- ---- batches one behind the other

-- a batch is longer than nothing, and ends where the part does or before
pub batch_inside : (part : Part) (at : ℕ) (items : List Item) (next : ℕ) → IsBatchAt part at items next → (at < next) × (next ≤ length part.bytes)
batch_inside part at items next b =
    let f : IsFramedAt part at items next = framed_at b in
    let header = f.frame.header.spells in
    let least : 16 ≤ f.offset = header.behind_header in
    let long : f.offset ≤ length f.bytes = header.inside in
    let lengths = ap length f.stands in
    let ends = f.ends in (
      omega arith,
      omega (arith, length-drop at part.bytes, length-drop next part.bytes, length-append f.bytes (drop next part.bytes)),
    )

-- one batch more stands behind others
stand_longer : (part : Part) (from at next : ℕ) (batches : List (List Item)) (items : List Item) → StandBetween part from at batches → IsBatchAt part at items next → StandBetween part from next (batches ++ items ∷ [])
stand_longer part from at next [] items stand b = (next, subst (λ (n : ℕ). IsBatchAt part n items next) (sym stand) b, refl)
stand_longer part from at next (first ∷ batches) items stand b = (stand.0, stand.1, stand_longer part stand.0 at next batches items stand.2 b)

-- behind batches one more is readable
pub one_batch_more : (part : Part) (at : ℕ) (items : List Item) (next : ℕ) → AreBatchesUpTo part at → IsBatchAt part at items next → AreBatchesUpTo part next
one_batch_more part at items next up_to b = (up_to.0 ++ items ∷ [], stand_longer part 0 at next up_to.0 items up_to.1 b)

-- no batch stands in front of the first byte
pub no_batches : (part : Part) → AreBatchesUpTo part 0
no_batches part = ([], refl)
