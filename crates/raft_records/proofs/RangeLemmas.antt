-- On items whose numbers are in range, that bytes hold but for their places and files, and that get their places.
use Rattle.raft_records.proofs.Common.{ℕ, ◌^◌, ◌<◌, List, [], ◌∷◌, ◌++◌, map, sym, subst, length-map, FileBlockHandle, CompressionType, Item, Content, entries, command, pair, IsContentInRange, AreInRange, placed_item, raised_entry}
use Rattle.raft_records.proofs.Common.{raised_item, placed_entry, IsInBytes, AreInBytes, placed_content, raised_content, ◌≡◌, Some, refl, ap, EntryIndex, bare_entry, bare_content, bare}

pub range_append : (xs ys : List Item) → AreInRange xs → AreInRange ys → AreInRange (xs ++ ys)
range_append [] ys h k = k
range_append (x ∷ xs) ys h k = (h.0, range_append xs ys h.1 k)

content_placed : (handle : FileBlockHandle) (c : CompressionType) (content : Content) → IsContentInRange content → IsContentInRange (placed_item handle c (record { raft_group_id = 0; content = content })).content
content_placed handle c (entries es) h = subst (λ (n : ℕ). n < 2 ^ 64) (sym (length-map es (placed_entry handle c))) h
content_placed handle c (command k) h = h
content_placed handle c (pair p) h = h

pub range_placed : (handle : FileBlockHandle) (c : CompressionType) (xs : List Item) → AreInRange xs → AreInRange (map (placed_item handle c) xs)
range_placed handle c [] h = tt
range_placed handle c (x ∷ xs) h = ((h.0.0, content_placed handle c x.content h.0.1), range_placed handle c xs h.1)

content_raised : (s : ℕ) (content : Content) → IsContentInRange content → IsContentInRange (raised_item s (record { raft_group_id = 0; content = content })).content
content_raised s (entries es) h = subst (λ (n : ℕ). n < 2 ^ 64) (sym (length-map es (raised_entry s))) h
content_raised s (command k) h = h
content_raised s (pair p) h = h

pub range_raised : (s : ℕ) (xs : List Item) → AreInRange xs → AreInRange (map (raised_item s) xs)
range_raised s [] h = tt
range_raised s (x ∷ xs) h = ((h.0.0, content_raised s x.content h.0.1), range_raised s xs h.1)

pub in_bytes_append : (xs ys : List Item) → AreInBytes xs → AreInBytes ys → AreInBytes (xs ++ ys)
in_bytes_append [] ys h k = k
in_bytes_append (x ∷ xs) ys h k = (h.0, in_bytes_append xs ys h.1 k)

content_in_bytes_placed : (handle : FileBlockHandle) (c : CompressionType) (content : Content) → IsInBytes content → IsInBytes (placed_content handle c content)
content_in_bytes_placed handle c (entries es) h = tt
content_in_bytes_placed handle c (command k) h = tt
content_in_bytes_placed handle c (pair p) h = h

pub in_bytes_placed : (handle : FileBlockHandle) (c : CompressionType) (xs : List Item) → AreInBytes xs → AreInBytes (map (placed_item handle c) xs)
in_bytes_placed handle c [] h = tt
in_bytes_placed handle c (x ∷ xs) h = (content_in_bytes_placed handle c x.content h.0, in_bytes_placed handle c xs h.1)

content_in_bytes_raised : (s : ℕ) (content : Content) → IsInBytes content → IsInBytes (raised_content s content)
content_in_bytes_raised s (entries es) h = tt
content_in_bytes_raised s (command k) h = tt
content_in_bytes_raised s (pair p) h = h

pub in_bytes_raised : (s : ℕ) (xs : List Item) → AreInBytes xs → AreInBytes (map (raised_item s) xs)
in_bytes_raised s [] h = tt
in_bytes_raised s (x ∷ xs) h = (content_in_bytes_raised s x.content h.0, in_bytes_raised s xs h.1)

entries_read : (handle : FileBlockHandle) (c : CompressionType) (es : List EntryIndex) → map (placed_entry handle c) (map bare_entry es) ≡ map (placed_entry handle c) es
entries_read handle c [] = refl
entries_read handle c (e ∷ es) = ap (λ (fs : List EntryIndex). placed_entry handle c e ∷ fs) (entries_read handle c es)

content_read : (handle : FileBlockHandle) (c : CompressionType) (content : Content) → IsInBytes content → placed_content handle c (bare_content content) ≡ placed_content handle c content
content_read handle c (entries es) h = ap entries (entries_read handle c es)
content_read handle c (command k) h = refl
content_read handle c (pair p) h = λ i. pair (record { op_type = p.op_type; key = p.key; value = h i; file_id = Some handle.id })

pub items_read : (handle : FileBlockHandle) (c : CompressionType) (items : List Item) → AreInBytes items → map (placed_item handle c) (map bare items) ≡ map (placed_item handle c) items
items_read handle c [] h = refl
items_read handle c (x ∷ xs) h =
    let first = content_read handle c x.content h.0 in
    let rest = items_read handle c xs h.1 in
    λ i. record { raft_group_id = x.raft_group_id; content = first i } ∷ rest i
