-- On entries whose bytes are laid or raised.
use Rattle.raft_records.proofs.Common.{◌≡◌, ℕ, zero, suc, ◌+◌, ◌^◌, ◌<◌, ◌≤◌, List, [], ◌∷◌, ◌++◌, map, length, take, drop, set, get_or, Option, None, refl, sym, ap, ◌∙◌, subst, append_assoc, arith, length-map, length-take-le, take_more}
use Rattle.raft_records.proofs.Common.{drop_more, get_or_at, set_at, EntryIndex, IsConsecutive, IsConsecutiveFrom, from_start, consecutive_from, started, Item, Content, entries, command, pair, Tile, tail_of, end_behind, FitsBehind}
use Rattle.raft_records.proofs.Common.{FitTogether, end_of_items, entry_bytes_of, with_offsets_from, entry_lengths, raised_entry, raised_content, raised_item, CanRaise, CanRaiseContent, IsKeptBeside, item_size, items_size, at_most_usize}
use Rattle.raft_records.proofs.Common.{behind_item}
use Rattle.raft_records.proofs.BatchLemmas.{consecutive_mapped, end_append, fit_append, size_append}
use Rattle.raft_records.proofs.RangeLemmas.{in_bytes_append, in_bytes_raised, range_append, range_raised}

-- ---- laid

abbrev pub laid_entry : ℕ → EntryIndex → EntryIndex
laid_entry s e = record { index = e.index; entries = e.entries; compression_type = e.compression_type; entry_offset = s; entry_len = e.entry_len }

pub length-with_offsets_from : (s : ℕ) (es : List EntryIndex) → length (with_offsets_from s es) ≡ length es
length-with_offsets_from s [] = refl
length-with_offsets_from s (e ∷ es) = ap suc (length-with_offsets_from (s + e.entry_len) es)

pub with_offsets_from-push : (s : ℕ) (es : List EntryIndex) (e : EntryIndex) → with_offsets_from s (es ++ e ∷ []) ≡ with_offsets_from s es ++ laid_entry (s + entry_lengths es) e ∷ []
with_offsets_from-push s [] e = ap (λ (o : ℕ). laid_entry o e ∷ []) (omega arith)
with_offsets_from-push s (x ∷ xs) e =
    let sum : s + x.entry_len + entry_lengths xs ≡ s + (x.entry_len + entry_lengths xs) = omega arith in
    ap (λ (t : List EntryIndex). laid_entry s x ∷ t) (with_offsets_from-push (s + x.entry_len) xs e ∙ ap (λ (o : ℕ). with_offsets_from (s + x.entry_len) xs ++ laid_entry o e ∷ []) sum)

pub entry_lengths-push : (es : List EntryIndex) (e : EntryIndex) → entry_lengths (es ++ e ∷ []) ≡ entry_lengths es + e.entry_len
entry_lengths-push [] e = omega arith
entry_lengths-push (x ∷ xs) e = omega (arith, entry_lengths-push xs e)

pub entry_lengths-split : (es : List EntryIndex) (i : ℕ) (e : EntryIndex) → i < length es → e ≡ get_or es i e → entry_lengths (take i es) + e.entry_len ≤ entry_lengths es
entry_lengths-split [] i e lt at = absurd (omega arith)
entry_lengths-split (x ∷ xs) zero e lt at = let len : e.entry_len ≡ x.entry_len = ap (λ (y : EntryIndex). y.entry_len) at in omega arith
entry_lengths-split (x ∷ xs) (suc i) e lt at = omega (arith, entry_lengths-split xs i e (omega arith) at)

-- a list whose front is changed is the same behind it
pub rest_at : {X : Type 0} (front xs ys : List X) (i : ℕ) (d : X) → ys ≡ front ++ drop i xs → length front ≡ i → i < length xs → get_or ys i d ≡ get_or xs i d
rest_at {X} front xs ys i d e len lt = ap (λ (t : List X). get_or t i d) (e ∙ ap (λ (t : List X). front ++ t) (drop_more xs i d lt)) ∙ get_or_at front (get_or xs i d) (drop (i + 1) xs) d i len

-- the step of a loop that lays entries
pub lay_more : (s i offset : ℕ) (xs ys : List EntryIndex) (x : EntryIndex) → i < length xs → ys ≡ with_offsets_from s (take i xs) ++ drop i xs →
    x ≡ get_or ys i x → offset ≡ s + entry_lengths (take i xs) →
    (set ys i (laid_entry offset x) ≡ with_offsets_from s (take (i + 1) xs) ++ drop (i + 1) xs) ×
    (offset + x.entry_len ≡ s + entry_lengths (take (i + 1) xs)) × (offset + x.entry_len ≤ s + entry_lengths xs)
lay_more s i offset xs ys x lt e at ends =
    let len : length (with_offsets_from s (take i xs)) ≡ i = length-with_offsets_from s (take i xs) ∙ length-take-le i xs (omega arith) in
    let seen : x ≡ get_or xs i x = at ∙ rest_at (with_offsets_from s (take i xs)) xs ys i x e len lt in
    let split : ys ≡ with_offsets_from s (take i xs) ++ x ∷ drop (i + 1) xs = e ∙ ap (λ (t : List EntryIndex). with_offsets_from s (take i xs) ++ t) (drop_more xs i x lt ∙ ap (λ (v : EntryIndex). v ∷ drop (i + 1) xs) (sym seen)) in
    let more : take (i + 1) xs ≡ take i xs ++ x ∷ [] = take_more xs i x lt ∙ ap (λ (v : EntryIndex). take i xs ++ v ∷ []) (sym seen) in
    let whole : with_offsets_from s (take (i + 1) xs) ≡ with_offsets_from s (take i xs) ++ laid_entry offset x ∷ [] = ap (with_offsets_from s) more
    ∙ with_offsets_from-push s (take i xs) x ∙ ap (λ (o : ℕ). with_offsets_from s (take i xs) ++ laid_entry o x ∷ []) (sym ends) in (
      ap (λ (t : List EntryIndex). set t i (laid_entry offset x)) split ∙ set_at (with_offsets_from s (take i xs)) x (drop (i + 1) xs)
          (laid_entry offset x) i len ∙ sym (ap (λ (t : List EntryIndex). t ++ drop (i + 1) xs) whole
          ∙ append_assoc (with_offsets_from s (take i xs)) (laid_entry offset x ∷ []) (drop (i + 1) xs)),
      omega (arith, ap entry_lengths more, entry_lengths-push (take i xs) x),
      omega (arith, entry_lengths-split xs i x lt seen),
    )

laid_from : (i s : ℕ) (es : List EntryIndex) → IsConsecutiveFrom i es → IsConsecutiveFrom i (with_offsets_from s es)
laid_from i s [] h = tt
laid_from i s (e ∷ es) h = (h.0, h.1, laid_from (i + 1) (s + e.entry_len) es h.2)

laid_tile : (s : ℕ) (es : List EntryIndex) → s + entry_lengths es < 2 ^ 32 → Tile s (with_offsets_from s es)
laid_tile s [] lt = tt
laid_tile s (e ∷ es) lt = (refl, omega arith, laid_tile (s + e.entry_len) es (omega arith))

pub laid_fits : (s : ℕ) (es : List EntryIndex) → IsConsecutive es → s + entry_lengths es < 2 ^ 32 → FitsBehind s (entries (with_offsets_from s es))
laid_fits s es h lt = (consecutive_from (started es h.run).start (with_offsets_from s es) (laid_from (started es h.run).start s es (from_start es h)), laid_tile s es lt)

pub end_of_laid : (s : ℕ) (es : List EntryIndex) → end_behind s (with_offsets_from s es) ≡ s + entry_lengths es
end_of_laid s [] = omega arith
end_of_laid s (e ∷ es) = omega (arith, end_of_laid (s + e.entry_len) es)

-- ---- raised

pub can_raise_at : (s : ℕ) (es : List EntryIndex) (i : ℕ) (d : EntryIndex) → CanRaise s es → i < length es → (get_or es i d).entry_offset + s < 2 ^ 32
can_raise_at s [] i d h lt = absurd (omega arith)
can_raise_at s (e ∷ es) zero d h lt = h.0
can_raise_at s (e ∷ es) (suc i) d h lt = can_raise_at s es i d h.1 (omega arith)

tile_end : (s : ℕ) (es : List EntryIndex) → Tile s es → s ≤ end_behind s es
tile_end s [] h = omega arith
tile_end s (e ∷ es) h =
    let at : e.entry_offset ≡ s = h.0 in
    omega (arith, tile_end (tail_of e) es (subst (λ (o : ℕ). Tile (o + e.entry_len) es) (sym at) h.2))

tile_raises : (s by end : ℕ) (es : List EntryIndex) → Tile s es → end_behind s es ≤ end → end + by < 2 ^ 32 → CanRaise by es
tile_raises s by end [] h le lt = tt
tile_raises s by end (e ∷ es) h le lt =
    let at : e.entry_offset ≡ s = h.0 in
    let rest : Tile (tail_of e) es = subst (λ (o : ℕ). Tile (o + e.entry_len) es) (sym at) h.2 in
    (omega (arith, tile_end (tail_of e) es rest), tile_raises (tail_of e) by end es rest le lt)

content_end : (s : ℕ) (c : Content) → FitsBehind s c → s ≤ behind_item s (record { raft_group_id = 0; content = c })
content_end s (entries es) h = tile_end s es h.1
content_end s (command c) h = omega arith
content_end s (pair p) h = omega arith

items_end : (s : ℕ) (xs : List Item) → FitTogether s xs → s ≤ end_of_items s xs
items_end s [] h = omega arith
items_end s (x ∷ xs) h = omega (arith, content_end s x.content h.0, items_end (behind_item s x) xs h.1)

content_raises : (s by end : ℕ) (c : Content) → FitsBehind s c → behind_item s (record { raft_group_id = 0; content = c }) ≤ end → end + by < 2 ^ 32 → CanRaiseContent by c
content_raises s by end (entries es) h le lt = tile_raises s by end es h.1 le lt
content_raises s by end (command c) h le lt = tt
content_raises s by end (pair p) h le lt = tt

pub items_raise_at : (s by end : ℕ) (xs : List Item) (i : ℕ) (d : Item) → FitTogether s xs → end_of_items s xs ≤ end → end + by < 2 ^ 32 → i < length xs → CanRaiseContent by (get_or xs i d).content
items_raise_at s by end [] i d h le lt in_range = absurd (omega arith)
items_raise_at s by end (x ∷ xs) zero d h le lt in_range = content_raises s by end x.content h.0 (omega (arith, items_end (behind_item s x) xs h.1)) lt
items_raise_at s by end (x ∷ xs) (suc i) d h le lt in_range = items_raise_at (behind_item s x) by end xs i d h.1 le lt (omega arith)

raised_tile : (s by : ℕ) (es : List EntryIndex) → Tile s es → end_behind s es + by < 2 ^ 32 → Tile (s + by) (map (raised_entry by) es)
raised_tile s by [] h lt = tt
raised_tile s by (e ∷ es) h lt =
    let at : e.entry_offset ≡ s = h.0 in
    let rest : Tile (tail_of e) es = subst (λ (o : ℕ). Tile (o + e.entry_len) es) (sym at) h.2 in
    let same : tail_of e + by ≡ s + by + e.entry_len = omega arith in
    (omega arith, omega (arith, tile_end (tail_of e) es rest), subst (λ (o : ℕ). Tile o (map (raised_entry by) es)) same (raised_tile (tail_of e) by es rest lt))

raised_end : (s by : ℕ) (es : List EntryIndex) → end_behind (s + by) (map (raised_entry by) es) ≡ end_behind s es + by
raised_end s by [] = refl
raised_end s by (e ∷ es) =
    let same : e.entry_offset + by + e.entry_len ≡ tail_of e + by = omega arith in
    ap (λ (o : ℕ). end_behind o (map (raised_entry by) es)) same ∙ raised_end (tail_of e) by es

raised_content_fits : (s by : ℕ) (c : Content) → FitsBehind s c → behind_item s (record { raft_group_id = 0; content = c }) + by < 2 ^ 32 → FitsBehind (s + by) (raised_content by c)
raised_content_fits s by (entries es) h lt = (consecutive_mapped (raised_entry by) (λ e. refl) es h.0, raised_tile s by es h.1 lt)
raised_content_fits s by (command c) h lt = h
raised_content_fits s by (pair p) h lt = h

raised_content_end : (s by : ℕ) (c : Content) → behind_item (s + by) (raised_item by (record { raft_group_id = 0; content = c })) ≡ behind_item s (record { raft_group_id = 0; content = c }) + by
raised_content_end s by (entries es) = raised_end s by es
raised_content_end s by (command c) = refl
raised_content_end s by (pair p) = refl

pub raised_fit : (s by : ℕ) (xs : List Item) → FitTogether s xs → end_of_items s xs + by < 2 ^ 32 → FitTogether (s + by) (map (raised_item by) xs)
raised_fit s by [] h lt = tt
raised_fit s by (x ∷ xs) h lt = (
  raised_content_fits s by x.content h.0 (omega (arith, items_end (behind_item s x) xs h.1)),
  subst (λ (o : ℕ). FitTogether o (map (raised_item by) xs)) (sym (raised_content_end s by x.content)) (raised_fit (behind_item s x) by xs h.1 lt),
)

pub raised_items_end : (s by : ℕ) (xs : List Item) → end_of_items (s + by) (map (raised_item by) xs) ≡ end_of_items s xs + by
raised_items_end s by [] = refl
raised_items_end s by (x ∷ xs) = ap (λ (o : ℕ). end_of_items o (map (raised_item by) xs)) (raised_content_end s by x.content) ∙ raised_items_end (behind_item s x) by xs

raised_size : (by : ℕ) (x : Item) → item_size (raised_item by x) ≡ item_size x
raised_size by x = go x.content
  where
    go : (c : Content) → item_size (raised_item by (record { raft_group_id = x.raft_group_id; content = c })) ≡ item_size (record { raft_group_id = x.raft_group_id; content = c })
    go (entries []) = refl
    go (entries (e ∷ es)) = omega (arith, length-map es (raised_entry by))
    go (command c) = refl
    go (pair p) = refl

pub raised_items_size : (by : ℕ) (xs : List Item) → items_size (map (raised_item by) xs) ≡ items_size xs
raised_items_size by [] = refl
raised_items_size by (x ∷ xs) = omega (arith, raised_size by x, raised_items_size by xs)

-- ---- two lists of items

pub merged_end : (xs ys : List Item) → entry_bytes_of (xs ++ map (raised_item (entry_bytes_of xs)) ys) ≡ entry_bytes_of xs + entry_bytes_of ys
merged_end xs ys =
    let start : entry_bytes_of xs ≡ 0 + entry_bytes_of xs = omega arith in
    omega (arith, end_append 0 xs (map (raised_item (entry_bytes_of xs)) ys), ap (λ (o : ℕ). end_of_items o (map (raised_item (entry_bytes_of xs)) ys)) start, raised_items_end 0 (entry_bytes_of xs) ys)

pub merged_kept : (xs ys : List Item) (size size' bytes bytes' total : ℕ) (crc crc' : Option ℕ) → IsKeptBeside xs size bytes crc →
    IsKeptBeside ys size' bytes' crc' → bytes + bytes' < 2 ^ 32 → total ≡ at_most_usize (size + size') →
    IsKeptBeside (xs ++ map (raised_item bytes) ys) total (bytes + bytes') None
merged_kept xs ys size size' bytes bytes' total crc crc' k l lt sum =
    let here : bytes ≡ end_of_items 0 xs = k.entry_bytes in
    let there : bytes' ≡ end_of_items 0 ys = l.entry_bytes in
    let fit : FitTogether (0 + bytes) (map (raised_item bytes) ys) = raised_fit 0 bytes ys l.fit (omega arith) in
    let start : 0 + bytes ≡ end_of_items 0 xs = omega arith in
    let first : size ≡ at_most_usize (items_size xs) = k.size in
    let second : size' ≡ at_most_usize (items_size ys) = l.size in
    let sizes : items_size (xs ++ map (raised_item bytes) ys) ≡ items_size xs + items_size ys = omega (arith, size_append xs (map (raised_item bytes) ys), raised_items_size bytes ys) in
    record {
      fit = fit_append 0 xs (map (raised_item bytes) ys) k.fit (subst (λ (o : ℕ). FitTogether o (map (raised_item bytes) ys)) start fit);
      in_range = range_append xs (map (raised_item bytes) ys) k.in_range (range_raised bytes ys l.in_range);
      in_bytes = in_bytes_append xs (map (raised_item bytes) ys) k.in_bytes (in_bytes_raised bytes ys l.in_bytes);
      size = omega arith;
      entry_bytes = sym (end_append 0 xs (map (raised_item bytes) ys) ∙ ap (λ (o : ℕ). end_of_items o (map (raised_item bytes) ys)) (sym start) ∙ raised_items_end 0 bytes ys ∙ omega arith);
      checksum = λ c some. absurd cc;
    }

-- ---- loops

pub raise_fits : (by i : ℕ) (xs ys : List EntryIndex) (d : EntryIndex) → i < length xs → ys ≡ map (raised_entry by) (take i xs) ++ drop i xs → CanRaise by xs → (get_or ys i d).entry_offset + by < 2 ^ 32
raise_fits by i xs ys d lt e h =
    let len : length (map (raised_entry by) (take i xs)) ≡ i = length-map (take i xs) (raised_entry by) ∙ length-take-le i xs (omega arith) in
    rw (rest_at (map (raised_entry by) (take i xs)) xs ys i d e len lt) (can_raise_at by xs i d h lt)

-- the item that a loop raises next can be raised
pub raise_next : (by end i : ℕ) (xs ys : List Item) (x : Item) → i < length xs → ys ≡ map (raised_item by) (take i xs) ++ drop i xs →
    x ≡ get_or ys i x → FitTogether 0 xs → end ≡ entry_bytes_of xs → by + end < 2 ^ 32 → CanRaiseContent by x.content
raise_next by end i xs ys x lt e at fit ends room =
    let len : length (map (raised_item by) (take i xs)) ≡ i = length-map (take i xs) (raised_item by) ∙ length-take-le i xs (omega arith) in
    let seen : x ≡ get_or xs i x = at ∙ rest_at (map (raised_item by) (take i xs)) xs ys i x e len lt in
    let last : end_of_items 0 xs ≤ end = omega (arith, ends) in
    let sum : end + by < 2 ^ 32 = omega arith in
    subst (λ (v : Item). CanRaiseContent by v.content) (sym seen) (items_raise_at 0 by end xs i x fit last sum lt)
