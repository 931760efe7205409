-- On lists of items that a batch holds.
use Rattle.raft_records.proofs.Common.{◌≡◌, ℕ, suc, ◌+◌, ◌-◌, ◌^◌, ◌<◌, List, [], ◌∷◌, ◌++◌, map, length, take, drop, set, get_or, Option, Some, None, refl, sym, ap, ◌∙◌, subst, append_assoc, arith, inl, inr, bit_xor, xor_assoc, xor_self}
use Rattle.raft_records.proofs.Common.{xor_zero_l, xor_of_32, little_bytes, flat_map, crc32_of, FileBlockHandle, FileId, append_cancel_left, length-append, length-map, map_over_more, Error, Reads, HasNoFront, HasOneFront, IsFollowedBy}
use Rattle.raft_records.proofs.Common.{IsSequence, state_after, IsVarint, varint, varint_one_front, varint_some, reads_pair, no_first, no_second, pair_one_front, IsReadAgain-little_bytes, reads_more, stuck, sequence_one_front, fault_after}
use Rattle.raft_records.proofs.Common.{CompressionType, EntryIndex, IsConsecutive, IsConsecutiveFrom, from_start, consecutive_from, started, OpType, Item, Content, entries, command, pair, IsInBytes, Tile, tail_of, IsTail, AreIndexAndTails}
use Rattle.raft_records.proofs.Common.{IsPairOf, IsContent, IsItem, end_behind, IsWritableWith, tails_bytes, entries_bytes, item_bytes, FitsBehind, FitTogether, end_of_items, placed_item, IsKeptBeside, AreItems, signed_crc, checksum_bytes}
use Rattle.raft_records.proofs.Common.{IsItemBatch, HasSeal, AreItemsFault, IsItemBatchFault, item_batch_bytes, IsInRange, IsMemory, IsItemFault, item_size, items_size, at_most_usize, get_or-map, map-set, Put, Del, behind_entry}
use Rattle.raft_records.proofs.Common.{behind_item, placed_entry}
use Rattle.raft_records.proofs.ContentLemmas.{item_one_front}
use Rattle.raft_records.proofs.RangeLemmas.{in_bytes_append, in_bytes_placed, range_append, range_placed}
use Rattle.raft_records.proofs.SealLemmas.{four, content_is}

-- ---- items behind others

pub fit_append : (s : ℕ) (xs ys : List Item) → FitTogether s xs → FitTogether (end_of_items s xs) ys → FitTogether s (xs ++ ys)
fit_append s [] ys h g = g
fit_append s (x ∷ xs) ys h g = (h.0, fit_append (behind_item s x) xs ys h.1 g)

pub end_append : (s : ℕ) (xs ys : List Item) → end_of_items s (xs ++ ys) ≡ end_of_items (end_of_items s xs) ys
end_append s [] ys = refl
end_append s (x ∷ xs) ys = end_append (behind_item s x) xs ys

pub end_push : (s : ℕ) (xs : List Item) (x : Item) → end_of_items s (xs ++ x ∷ []) ≡ behind_item (end_of_items s xs) x
end_push s xs x = end_append s xs (x ∷ [])

pub size_append : (xs ys : List Item) → items_size (xs ++ ys) ≡ items_size xs + items_size ys
size_append [] ys = omega arith
size_append (x ∷ xs) ys = omega (arith, size_append xs ys)

pub kept_push : (xs : List Item) (x : Item) (size entry_bytes size' : ℕ) (checksum : Option ℕ) → IsKeptBeside xs size entry_bytes checksum →
    FitsBehind (end_of_items 0 xs) x.content → IsInRange x → IsInBytes x.content → size' ≡ at_most_usize (size + at_most_usize (item_size x)) →
    IsKeptBeside (xs ++ x ∷ []) size' (behind_item (end_of_items 0 xs) x) None
kept_push xs x size entry_bytes size' checksum k f r b e =
    let before : size ≡ at_most_usize (items_size xs) = k.size in
    let pushed : items_size (xs ++ x ∷ []) ≡ items_size xs + item_size x = omega (arith, size_append xs (x ∷ [])) in
    record {
      fit = fit_append 0 xs (x ∷ []) k.fit (f, tt);
      in_range = range_append xs (x ∷ []) k.in_range (r, tt);
      in_bytes = in_bytes_append xs (x ∷ []) k.in_bytes (b, tt);
      entry_bytes = sym (end_push 0 xs x);
      size = omega arith;
      checksum = λ crc some. absurd cc;
    }

-- ---- places

-- entries that keep their indexes
pub consecutive_mapped : (f : EntryIndex → EntryIndex) → ((e : EntryIndex) → (f e).index ≡ e.index) → (es : List EntryIndex) → IsConsecutive es → IsConsecutive (map f es)
consecutive_mapped f same es h = consecutive_from (started es h.run).start (map f es) (indexes (started es h.run).start es (from_start es h))
  where
    indexes : (i : ℕ) (es : List EntryIndex) → IsConsecutiveFrom i es → IsConsecutiveFrom i (map f es)
    indexes i [] h = tt
    indexes i (e ∷ es) h = (same e ∙ h.0, h.1, indexes (i + 1) es h.2)

pub fits_placed : (handle : FileBlockHandle) (c : CompressionType) (s : ℕ) (content : Content) → FitsBehind s content → FitsBehind s (placed_item handle c (record { raft_group_id = 0; content = content })).content
fits_placed handle c s (entries es) h = (consecutive_mapped (placed_entry handle c) (λ e. refl) es h.0, tile_placed s es h.1)
  where
    tile_placed : (s : ℕ) (es : List EntryIndex) → Tile s es → Tile s (map (placed_entry handle c) es)
    tile_placed s [] h = tt
    tile_placed s (e ∷ es) h = (h.0, h.1, tile_placed (s + e.entry_len) es h.2)
fits_placed handle c s (command x) h = h
fits_placed handle c s (pair p) h = h

pub end_placed : (handle : FileBlockHandle) (c : CompressionType) (s : ℕ) (es : List EntryIndex) → end_behind s (map (placed_entry handle c) es) ≡ end_behind s es
end_placed handle c s [] = refl
end_placed handle c s (e ∷ es) = end_placed handle c (tail_of e) es

pub behind_placed : (handle : FileBlockHandle) (c : CompressionType) (s : ℕ) (x : Item) → behind_item s (placed_item handle c x) ≡ behind_item s x
behind_placed handle c s x = go x.content
  where
    go : (content : Content) → behind_item s (placed_item handle c (record { raft_group_id = x.raft_group_id; content = content })) ≡ behind_item s (record { raft_group_id = x.raft_group_id; content = content })
    go (entries es) = end_placed handle c s es
    go (command y) = refl
    go (pair p) = refl

-- ---- what is read fits together

tails_fit : (next : ℕ × ℕ) (bytes : List ℕ) (es : List EntryIndex) → IsSequence behind_entry IsTail next bytes es → IsConsecutiveFrom next.0 es × Tile next.1 es
tails_fit next bytes [] q = (tt, tt)
tails_fit next bytes (e ∷ es) q =
    let t = q.first_spells in
    let rest = tails_fit (behind_entry next e) q.second es q.second_spells in
    let begins : e.entry_offset ≡ next.1 = t.offset in
    let index : e.index ≡ next.0 = t.index in
    let index_fits : e.index < 2 ^ 64 - 1 = t.index_fits in
    let tail_fits : tail_of e < 2 ^ 32 = t.tail_fits in
    ((index, omega arith, rest.0), (begins, omega arith, subst (λ (o : ℕ). Tile (o + e.entry_len) es) begins rest.1))

run_fits : (s n : ℕ) (bytes : List ℕ) (es : List EntryIndex) → AreIndexAndTails s n bytes es → IsConsecutive es × Tile s es
run_fits s n bytes [] r = (consecutive_from 0 [] tt, tt)
run_fits s n bytes (e ∷ es) r =
    let fit = tails_fit (e.index, s) r.second (e ∷ es) r.second_spells.tails in
    (consecutive_from e.index (e ∷ es) fit.0, fit.1)

writable_of : (o : OpType) (v : Option (List ℕ)) (f : Option FileId) (key bytes : List ℕ) → IsPairOf o v f key bytes → IsWritableWith o v
writable_of Put (Some v) None key bytes p = tt
writable_of Del None None key bytes p = tt
writable_of Put None f key bytes p = p
writable_of Put (Some v) (Some f) key bytes p = absurd p
writable_of Del (Some v) f key bytes p = absurd p
writable_of Del None (Some f) key bytes p = absurd p

pub content_fits : (s : ℕ) (bytes : List ℕ) (content : Content) → IsContent s bytes content → FitsBehind s content
content_fits s bytes (entries es) t = run_fits s (length es) t.2.second es t.2.second_spells
content_fits s bytes (command c) t = tt
content_fits s bytes (pair p) t = writable_of p.op_type p.value p.file_id p.key t.0 t.2

-- ---- items read one behind the other

pub end_is_state : (s : ℕ) (xs : List Item) → end_of_items s xs ≡ state_after behind_item s xs
end_is_state s [] = refl
end_is_state s (x ∷ xs) = end_is_state (behind_item s x) xs

pub end_of_placed : (handle : FileBlockHandle) (c : CompressionType) (s : ℕ) (xs : List Item) → end_of_items s (map (placed_item handle c) xs) ≡ end_of_items s xs
end_of_placed handle c s [] = refl
end_of_placed handle c s (x ∷ xs) = ap (λ (t : ℕ). end_of_items t (map (placed_item handle c) xs)) (behind_placed handle c s x) ∙ end_of_placed handle c (behind_item s x) xs

-- one more item behind those that were read
pub one_more_item : (bytes mid rest : List ℕ) (xs : List Item) (x : Item) (s : ℕ) → Reads (IsSequence behind_item IsItem 0) bytes mid xs →
    s ≡ end_of_items 0 xs → Reads (IsItem s) mid rest x → Reads (IsSequence behind_item IsItem 0) bytes rest (xs ++ x ∷ [])
one_more_item bytes mid rest xs x s r e q =
    reads_more behind_item IsItem 0 xs x r (subst (λ (t : ℕ). Reads (IsItem t) mid rest x) (e ∙ end_is_state 0 xs) q)

pub no_more_items : (bytes mid : List ℕ) (xs : List Item) (s count : ℕ) → Reads (IsSequence behind_item IsItem 0) bytes mid xs → s ≡ end_of_items 0 xs → length xs < count → HasNoFront (IsItem s) mid → HasNoFront (AreItems count) bytes
no_more_items bytes mid xs s count r e lt none front rest ys a split =
    let here : HasNoFront (IsItem (state_after behind_item 0 xs)) mid = subst (λ (t : ℕ). HasNoFront (IsItem t) mid) (e ∙ end_is_state 0 xs) none in
    let len : length ys ≡ count = a.count in
    stuck behind_item IsItem item_one_front 0 xs ys r here front rest a.spelled split (omega arith)

pub item_fault : (bytes mid : List ℕ) (xs : List Item) (s count more : ℕ) (fault : Error) → Reads (IsSequence behind_item IsItem 0) bytes mid xs →
    s ≡ end_of_items 0 xs → count ≡ length xs + suc more → IsItemFault s mid fault → AreItemsFault count bytes fault
item_fault bytes mid xs s count more fault r e c f =
    inr (fault_after behind_item IsItem IsItemFault 0 xs count (suc more) fault c r (inl (subst (λ (t : ℕ). IsItemFault t mid fault) (e ∙ end_is_state 0 xs) f)))

items_one_front : (n : ℕ) → HasOneFront (AreItems n)
items_one_front n a b more rest xs ys p q e = sequence_one_front behind_item IsItem item_one_front 0 xs ys a b more rest (p.count ∙ sym q.count) p.spelled q.spelled e

-- ---- the whole batch

-- the count of items and the items
abbrev pub IsCountAndItems : List ℕ → List Item → Type 0
IsCountAndItems bytes items = IsFollowedBy IsVarint AreItems bytes (length items) items

pub counted_read : (n : ℕ) (content mid rest : List ℕ) (xs : List Item) → Reads IsVarint content mid n → Reads (AreItems n) mid rest xs → Reads IsCountAndItems content rest xs
counted_read n content mid rest xs r t =
    let both = reads_pair IsVarint AreItems n xs r t in
    record { front = both.front; spells = subst (λ (k : ℕ). IsFollowedBy IsVarint AreItems both.front k xs) (sym t.spells.count) both.spells; split = both.split }

pub batch_read : (signature : Option ℕ) (bytes content rest : List ℕ) (xs : List Item) → HasSeal signature bytes content → Reads IsCountAndItems content rest xs → IsItemBatch bytes signature xs rest
batch_read signature bytes content rest xs s r =
    record {
      front = r.front;
      counted = r.spells;
      split = s.split ∙ ap (λ (t : List ℕ). t ++ checksum_bytes signature t) r.split;
    }

-- the content of an item batch is its count, its items and its rest
pub batch_content : (signature : Option ℕ) (bytes content rest : List ℕ) (xs : List Item) → HasSeal signature bytes content → (b : IsItemBatch bytes signature xs rest) → content ≡ b.front ++ rest
batch_content signature bytes content rest xs s b =
    (content_is signature bytes (b.front ++ rest) content (checksum_bytes signature (b.front ++ rest)) b.split (four (signed_crc signature (crc32_of (b.front ++ rest)))) s).0

counted_some : (front : List ℕ) (xs : List Item) → IsCountAndItems front xs → 0 < length front
counted_some front xs p = omega (arith, ap length p.split, length-append p.first p.second, varint_some p.first (length xs) p.first_spells)

pub no_items_count : (signature : Option ℕ) (bytes content : List ℕ) → HasSeal signature bytes content → HasNoFront IsVarint content → (xs : List Item) (rest : List ℕ) → IsItemBatch bytes signature xs rest → ⊥
no_items_count signature bytes content s none xs rest b =
    no_first IsVarint AreItems none b.front rest (length xs) xs b.counted (batch_content signature bytes content rest xs s b)

pub no_items : (signature : Option ℕ) (n : ℕ) (bytes content mid : List ℕ) → HasSeal signature bytes content → Reads IsVarint content mid n →
    HasNoFront (AreItems n) mid → (xs : List Item) (rest : List ℕ) → IsItemBatch bytes signature xs rest → ⊥
no_items signature n bytes content mid s r none xs rest b =
    no_second IsVarint AreItems varint_one_front r none b.front rest (length xs) xs b.counted (batch_content signature bytes content rest xs s b)

-- the content of an item batch is what its checksum follows
batch_sealed : (signature : Option ℕ) (bytes rest : List ℕ) (xs : List Item) → (b : IsItemBatch bytes signature xs rest) → HasSeal signature bytes (b.front ++ rest)
batch_sealed signature bytes rest xs b =
    record { some = omega (arith, length-append b.front rest, counted_some b.front xs b.counted); split = b.split }

-- where an item batch stands, there may be no memory for its items
pub no_room_for_items : (signature : Option ℕ) (bytes rest : List ℕ) (xs : List Item) (e : Error) → IsItemBatch bytes signature xs rest → IsMemory e → IsItemBatchFault signature bytes e
no_room_for_items signature bytes rest xs e b memory =
    let counted = b.counted in
    inr (
      b.front ++ rest,
      batch_sealed signature bytes rest xs b,
      inr (record {
        first = counted.first;
        rest = counted.second ++ rest;
        value = length xs;
        first_spells = counted.first_spells;
        split = ap (λ (t : List ℕ). t ++ rest) counted.split ∙ append_assoc counted.first counted.second rest;
        fault = inl memory;
      }),
    )

-- ---- loops over items

-- an element seen
pub seen_at : {X Y : Type 0} (g : X → Y) (ys : List X) (i : ℕ) (x : X) → i < length ys → x ≡ get_or ys i x → g x ≡ get_or (map g ys) i (g x)
seen_at g ys i x lt at = ap g at ∙ sym (get_or-map g ys i x (g x) lt)

-- the step of a loop that changes each value, as a view of it says
pub map_view_more : {X Y : Type 0} (g : X → Y) (f : Y → Y) (xs : List Y) (ys : List X) (i : ℕ) (old new : X) → i < length ys → length xs ≡ length ys →
    map g ys ≡ map f (take i xs) ++ drop i xs → old ≡ get_or ys i old → g new ≡ f (g old) →
    map g (set ys i new) ≡ map f (take (i + 1) xs) ++ drop (i + 1) xs
map_view_more {X} {Y} g f xs ys i old new lt len e at step =
    let seen : g old ≡ get_or (map g ys) i (g old) = seen_at g ys i old lt at in
    map-set g ys i new ∙ ap (λ (v : Y). set (map g ys) i v) step ∙ map_over_more f xs (map g ys) i (g old) (omega arith) e seen

-- ---- what places leave as it is

tails_placed : (handle : FileBlockHandle) (c : CompressionType) (es : List EntryIndex) → tails_bytes (map (placed_entry handle c) es) ≡ tails_bytes es
tails_placed handle c [] = refl
tails_placed handle c (e ∷ es) = ap (λ (t : List ℕ). varint (tail_of e) ++ t) (tails_placed handle c es)

entries_placed : (handle : FileBlockHandle) (c : CompressionType) (es : List EntryIndex) → entries_bytes (map (placed_entry handle c) es) ≡ entries_bytes es
entries_placed handle c [] = refl
entries_placed handle c (e ∷ es) =
    ap (λ (n : ℕ). varint (suc n) ++ (varint e.index ++ tails_bytes (map (placed_entry handle c) (e ∷ es)))) (length-map es (placed_entry handle c))
    ∙ ap (λ (t : List ℕ). varint (suc (length es)) ++ (varint e.index ++ t)) (tails_placed handle c (e ∷ es))

bytes_placed : (handle : FileBlockHandle) (c : CompressionType) (x : Item) → item_bytes (placed_item handle c x) ≡ item_bytes x
bytes_placed handle c x = go x.content
  where
    go : (content : Content) → item_bytes (placed_item handle c (record { raft_group_id = x.raft_group_id; content = content })) ≡ item_bytes (record { raft_group_id = x.raft_group_id; content = content })
    go (entries es) = ap (λ (t : List ℕ). varint x.raft_group_id ++ 1 ∷ t) (entries_placed handle c es)
    go (command y) = refl
    go (pair p) = refl

all_placed : (handle : FileBlockHandle) (c : CompressionType) (xs : List Item) → flat_map item_bytes (map (placed_item handle c) xs) ≡ flat_map item_bytes xs
all_placed handle c [] = refl
all_placed handle c (x ∷ xs) = ap (λ (t : List ℕ). t ++ flat_map item_bytes (map (placed_item handle c) xs)) (bytes_placed handle c x) ∙ ap (λ (t : List ℕ). item_bytes x ++ t) (all_placed handle c xs)

pub batch_placed : (handle : FileBlockHandle) (c : CompressionType) (xs : List Item) → item_batch_bytes (map (placed_item handle c) xs) ≡ item_batch_bytes xs
unfolding item_batch_bytes
batch_placed handle c xs = ap (λ (n : ℕ). varint n ++ flat_map item_bytes (map (placed_item handle c) xs)) (length-map xs (placed_item handle c)) ∙ ap (λ (t : List ℕ). varint (length xs) ++ t) (all_placed handle c xs)

size_placed : (handle : FileBlockHandle) (c : CompressionType) (x : Item) → item_size (placed_item handle c x) ≡ item_size x
size_placed handle c x = go x.content
  where
    go : (content : Content) → item_size (placed_item handle c (record { raft_group_id = x.raft_group_id; content = content })) ≡ item_size (record { raft_group_id = x.raft_group_id; content = content })
    go (entries []) = refl
    go (entries (e ∷ es)) = omega (arith, length-map es (placed_entry handle c))
    go (command y) = refl
    go (pair p) = refl

sizes_placed : (handle : FileBlockHandle) (c : CompressionType) (xs : List Item) → items_size (map (placed_item handle c) xs) ≡ items_size xs
sizes_placed handle c [] = refl
sizes_placed handle c (x ∷ xs) = omega (arith, size_placed handle c x, sizes_placed handle c xs)

fit_placed : (handle : FileBlockHandle) (c : CompressionType) (s : ℕ) (xs : List Item) → FitTogether s xs → FitTogether s (map (placed_item handle c) xs)
fit_placed handle c s [] h = tt
fit_placed handle c s (x ∷ xs) h =
    (fits_placed handle c s x.content h.0, subst (λ (t : ℕ). FitTogether t (map (placed_item handle c) xs)) (sym (behind_placed handle c s x)) (fit_placed handle c (behind_item s x) xs h.1))

pub placed_kept : (handle : FileBlockHandle) (c : CompressionType) (xs : List Item) (size bytes : ℕ) (crc : Option ℕ) → IsKeptBeside xs size bytes crc → IsKeptBeside (map (placed_item handle c) xs) size bytes crc
placed_kept handle c xs size bytes crc k =
    record {
      fit = fit_placed handle c 0 xs k.fit;
      in_range = range_placed handle c xs k.in_range;
      in_bytes = in_bytes_placed handle c xs k.in_bytes;
      size = k.size ∙ ap at_most_usize (sym (sizes_placed handle c xs));
      entry_bytes = k.entry_bytes ∙ sym (end_of_placed handle c 0 xs);
      checksum = λ n some. k.checksum n some ∙ ap crc32_of (sym (batch_placed handle c xs));
    }

-- ---- one batch

pub one_batch : (bytes rest rest' : List ℕ) (signature : Option ℕ) (xs ys : List Item) → IsItemBatch bytes signature xs rest → IsItemBatch bytes signature ys rest' → (xs ≡ ys) × (rest ≡ rest')
one_batch bytes rest rest' signature xs ys b d =
    let same : d.front ++ rest' ≡ b.front ++ rest = batch_content signature bytes (d.front ++ rest') rest xs (batch_sealed signature bytes rest' ys d) b in
    let one = pair_one_front IsVarint AreItems varint_one_front items_one_front b.front d.front rest rest' (length xs) (length ys) xs ys b.counted d.counted (sym same) in
    (one.2, append_cancel_left d.front rest rest' (ap (λ (t : List ℕ). t ++ rest) (sym one.0) ∙ sym same))

crc_fits : (bytes : List ℕ) → crc32_of bytes < 2 ^ 32
unfolding crc32_of
crc_fits bytes = omega arith

signed_one : (crc s t : ℕ) → bit_xor crc s ≡ bit_xor crc t → s ≡ t
signed_one crc s t e =
    let back : (n : ℕ) → bit_xor crc (bit_xor crc n) ≡ n = λ n. sym (xor_assoc crc crc n) ∙ ap (λ (k : ℕ). bit_xor k n) (xor_self crc) ∙ xor_zero_l n in
    sym (back s) ∙ ap (bit_xor crc) e ∙ back t

pub one_file : (bytes rest rest' : List ℕ) (s t : ℕ) (xs ys : List Item) → s < 2 ^ 32 → t < 2 ^ 32 → IsItemBatch bytes (Some s) xs rest → IsItemBatch bytes (Some t) ys rest' → s ≡ t
one_file bytes rest rest' s t xs ys sf tf b d =
    let content = b.front ++ rest in
    let is = content_is (Some t) bytes content (d.front ++ rest') (checksum_bytes (Some s) content) b.split (four (signed_crc (Some s) (crc32_of content))) (batch_sealed (Some t) bytes rest' ys d) in
    let crcs : crc32_of (d.front ++ rest') ≡ crc32_of content = ap crc32_of is.0 in
    let seals : little_bytes 4 (bit_xor (crc32_of content) t) ≡ little_bytes 4 (bit_xor (crc32_of content) s) = ap (λ (n : ℕ). little_bytes 4 (bit_xor n t)) (sym crcs) ∙ is.1 in
    let numbers = (IsReadAgain-little_bytes 4).one_front (little_bytes 4 (bit_xor (crc32_of content) t))
    (little_bytes 4 (bit_xor (crc32_of content) s)) [] [] (bit_xor (crc32_of content) t) (bit_xor (crc32_of content) s)
    (record { in_range = xor_of_32 (crc32_of content) t (crc_fits content) tf; written = refl })
    (record { in_range = xor_of_32 (crc32_of content) s (crc_fits content) sf; written = refl }) (ap (λ (x : List ℕ). x ++ []) seals) in
    signed_one (crc32_of content) s t (sym numbers.1)
