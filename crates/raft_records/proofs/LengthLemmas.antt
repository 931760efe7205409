-- On approximate sizes: they cover the bytes.
use Rattle.raft_records.proofs.Common.{◌≡◌, ℕ, ◌+◌, ◌*◌, ◌^◌, ◌<◌, ◌≤◌, List, [], ◌∷◌, ◌++◌, length, Option, Some, None, arith, flat_map, length-append, varint, varint_spells, varint_some, varint_within, EntryIndex, OpType, Item, Content}
use Rattle.raft_records.proofs.Common.{entries, command, pair, Tile, tail_of, byte_string, value_bytes, tails_bytes, entries_bytes, content_bytes, item_bytes, entries_size, value_length, content_size, item_size, items_size, item_batch_size}
use Rattle.raft_records.proofs.Common.{at_most_usize, AreSmallIndexes, HasSmallIndexes, HaveSmallNumbers, FitsBehind, FitTogether, checksum_bytes, item_batch_bytes, item_offset, encoded_length, Clean, Compact, Truncate, Put, Del}
use Rattle.raft_records.proofs.Common.{behind_item}
use Rattle.raft_records.proofs.BufferLemmas.{checksum_len}

eight : (n : ℕ) → n < 2 ^ 56 → length (varint n) ≤ 8
eight n lt = varint_within 8 n lt (omega arith)

one : (n : ℕ) → n < 2 ^ 64 → 0 < length (varint n)
one n lt = varint_some (varint n) n (varint_spells n lt)

tails_len : (s : ℕ) (es : List EntryIndex) → Tile s es → (length es ≤ length (tails_bytes es)) × (length (tails_bytes es) ≤ 8 * length es)
tails_len s [] t = (omega arith, omega arith)
tails_len s (e ∷ es) t =
    let begins : e.entry_offset ≡ s = t.0 in
    let fits : s + e.entry_len < 2 ^ 32 = t.1 in
    let rest = tails_len (s + e.entry_len) es t.2 in
    let size = length-append (varint (tail_of e)) (tails_bytes es) in
    (omega (arith, rest.0, size, one (tail_of e) (omega arith)), omega (arith, rest.1, size, eight (tail_of e) (omega arith)))

entries_len : (s : ℕ) (es : List EntryIndex) → Tile s es → AreSmallIndexes es → length (entries_bytes es) < 2 ^ 56 → length (entries_bytes es) ≤ entries_size es
entries_len s [] t small lt = omega (arith, length-append (varint 0) [], eight 0 (omega arith))
entries_len s (e ∷ es) t small lt =
    let tails = tails_len s (e ∷ es) t in
    let run = length-append (varint e.index) (tails_bytes (e ∷ es)) in
    let whole = length-append (varint (length (e ∷ es))) (varint e.index ++ tails_bytes (e ∷ es)) in
    omega (arith, tails.1, run, whole, eight e.index small.0, eight (length (e ∷ es)) (omega (arith, tails.0, run, whole, lt)))

byte_string_len : (text : List ℕ) → length (byte_string text) < 2 ^ 56 → length (byte_string text) ≤ 8 + length text
byte_string_len text lt =
    let whole = length-append (varint (length text)) text in
    omega (arith, whole, eight (length text) (omega (arith, whole, lt)))

value_len : (o : OpType) (v : Option (List ℕ)) → length (value_bytes o v) < 2 ^ 56 → length (value_bytes o v) ≤ 8 + value_length v
value_len Put (Some value) lt = byte_string_len value lt
value_len Put None lt = omega arith
value_len Del (Some value) lt = omega arith
value_len Del None lt = omega arith

content_len : (s : ℕ) (c : Content) → FitsBehind s c → HasSmallIndexes c → length (content_bytes c) < 2 ^ 56 → length (content_bytes c) ≤ 1 + content_size c
content_len s (entries es) h small lt = omega (arith, entries_len s es h.1 small (omega (arith, lt)))
content_len s (command Clean) h small lt = omega arith
content_len s (command (Compact index)) h small lt = omega (arith, eight index small)
content_len s (command (Truncate index)) h small lt = omega (arith, eight index small)
content_len s (pair p) h small lt =
    let whole = length-append (byte_string p.key) (value_bytes p.op_type p.value) in
    omega (arith, whole, byte_string_len p.key (omega (arith, whole, lt)), value_len p.op_type p.value (omega (arith, whole, lt)))

item_len : (s : ℕ) (x : Item) → FitsBehind s x.content → x.raft_group_id < 2 ^ 56 → HasSmallIndexes x.content → length (item_bytes x) < 2 ^ 56 → length (item_bytes x) ≤ item_size x
item_len s x h id small lt =
    let whole = length-append (varint x.raft_group_id) (content_bytes x.content) in
    omega (arith, whole, eight x.raft_group_id id, content_len s x.content h small (omega (arith, whole, lt)))

-- an item takes a byte at least
items_len : (s : ℕ) (xs : List Item) → FitTogether s xs → HaveSmallNumbers xs → length (flat_map item_bytes xs) < 2 ^ 56 → (length xs ≤ length (flat_map item_bytes xs)) × (length (flat_map item_bytes xs) ≤ items_size xs)
items_len s [] h small lt = (omega arith, omega arith)
items_len s (x ∷ xs) h small lt =
    let whole = length-append (item_bytes x) (flat_map item_bytes xs) in
    let rest = items_len (behind_item s x) xs h.1 small.2 (omega (arith, whole, lt)) in
    let id = length-append (varint x.raft_group_id) (content_bytes x.content) in
    (omega (arith, whole, rest.0, id, one x.raft_group_id (omega (arith, small.0))), omega (arith, whole, rest.1, item_len s x h.0 small.0 small.1 (omega (arith, whole, lt))))

-- the approximate size of a batch that is no longer than log batches can be covers its bytes
pub size_covers : (xs : List Item) → FitTogether 0 xs → HaveSmallNumbers xs → length (item_batch_bytes xs) < 2 ^ 56 → length (item_batch_bytes xs) + 4 ≤ at_most_usize (item_batch_size xs)
unfolding item_batch_bytes
size_covers xs h small lt =
    let whole = length-append (varint (length xs)) (flat_map item_bytes xs) in
    let all = items_len 0 xs h small (omega (arith, whole, lt)) in
    omega (arith, whole, all.1, lt, eight (length xs) (omega (arith, whole, all.0, lt)))

block_covered : (es : List ℕ) → item_offset es ≤ 16 + length es + 4
block_covered [] = omega arith
block_covered (e ∷ es) = omega (arith, length-append (e ∷ es) (checksum_bytes None (e ∷ es)), checksum_len None (e ∷ es))

-- the formula of an open batch covers its bytes, where that of its items covers theirs
pub open_covers : (xs : List Item) (es : List ℕ) (size result : ℕ) →
    (length (item_batch_bytes xs) < 2 ^ 56 → length (item_batch_bytes xs) + 4 ≤ size) → result ≡ at_most_usize (size + (16 + length es + 4)) →
    encoded_length xs es < 2 ^ 56 → encoded_length xs es ≤ result
open_covers [] es size result covers e lt = omega arith
open_covers (x ∷ xs) es size result covers e lt =
    let items = covers (omega (arith, lt)) in
    omega (arith, items, e, lt, block_covered es)
