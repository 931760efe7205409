-- Where the bytes of entries end, and that their places stand.
use Rattle.raft_engine_prefixes.proofs.Common.{◌≡◌, ℕ, suc, ◌+◌, ◌<◌, ◌≤◌, Bool, true, false, cond, List, [], ◌∷◌, ◌++◌, length, map, take, drop, Some, None, refl, sym, ap, ◌∙◌, subst, arith, append_assoc, length-append, ◌==◌, nat_le, AllByRecursion, nat_tests, take_at}
use Rattle.raft_engine_prefixes.proofs.Common.{drop-drop, drop_at, length-drop, CompressionType, EntryIndex, FileBlockHandle, LogQueue, Version, Tile, Part, IsBatchAt, end_behind, end_of_content, tail_of, Content, Item, command, entries, pair, FitTogether, FitsBehind}
use Rattle.raft_engine_prefixes.proofs.Common.{checksum_bytes, end_of_items, placed_content, placed_item, IsBatchOf, entry_block, entry_place, header_bytes, header_len, batch_inside, Event, NumberedBytes, bytes_at, stretch_of, HoldsFrom, written_event, FilesHold, whole_file}
use Rattle.raft_engine_prefixes.proofs.Common.{AreRisingFrom, numbers, EachEntryAmong, EachEntryIn, EachEntryOf, EndsWithin, EntriesEndWithin, PlacesStand, StandsAt}
use Rattle.raft_base.specs.declared.compression_type.CompressionType.TheVariants as compressions

-- ---- the ends

abbrev placed : FileBlockHandle → CompressionType → EntryIndex → EntryIndex
placed place compression e = record e { entries = Some place; compression_type = compression }

tile_end : (s : ℕ) (es : List EntryIndex) → Tile s es → s ≤ end_behind s es
tile_end s [] h = omega arith
tile_end s (e ∷ es) h =
    let at : e.entry_offset ≡ s = h.0 in
    let r = tile_end (tail_of e) es (subst (λ (o : ℕ). Tile (o + e.entry_len) es) (sym at) h.2) in
    omega (arith, r, at)

tile_within : (place : FileBlockHandle) (compression : CompressionType) (s : ℕ) (es : List EntryIndex) → Tile s es → end_behind s es ≤ place.len → AllByRecursion EndsWithin (map (placed place compression) es)
tile_within place compression s [] h le = tt
tile_within place compression s (e ∷ es) h le =
    let at : e.entry_offset ≡ s = h.0 in
    let rest = subst (λ (o : ℕ). Tile (o + e.entry_len) es) (sym at) h.2 in
    let r = tile_end (tail_of e) es rest in
    (omega (arith, r, le), tile_within place compression (tail_of e) es rest le)

content_end : (s : ℕ) (c : Content) → FitsBehind s c → s ≤ end_of_content s c
content_end s (entries es) h = tile_end s es h.1
content_end s (command c) h = omega arith
content_end s (pair p) h = omega arith

items_end : (s : ℕ) (xs : List Item) → FitTogether s xs → s ≤ end_of_items s xs
items_end s [] h = omega arith
items_end s (x ∷ xs) h = let a = content_end s x.content h.0 in let b = items_end (end_of_content s x.content) xs h.1 in omega (arith, a, b)

content_within : (place : FileBlockHandle) (compression : CompressionType) (s : ℕ) (c : Content) → FitsBehind s c → end_of_content s c ≤ place.len → EachEntryOf EndsWithin (placed_content place compression c)
content_within place compression s (entries es) h le = tile_within place compression s es h.1 le
content_within place compression s (command c) h le = tt
content_within place compression s (pair p) h le = tt

items_within : (place : FileBlockHandle) (compression : CompressionType) (s : ℕ) (xs : List Item) → FitTogether s xs → end_of_items s xs ≤ place.len → EachEntryIn EndsWithin (map (placed_item place compression) xs)
items_within place compression s [] h le = tt
items_within place compression s (x ∷ xs) h le =
    let b = items_end (end_of_content s x.content) xs h.1 in
    (content_within place compression s x.content h.0 (omega (arith, b, le)), items_within place compression (end_of_content s x.content) xs h.1 le)

block_long : (bytes : List ℕ) → length bytes ≤ length (entry_block bytes)
block_long [] = omega arith
block_long (b ∷ bytes) = let n = length-append (b ∷ bytes) (checksum_bytes None (b ∷ bytes)) in omega (arith, n)

pub written_within : (part : Part) (handle : FileBlockHandle) (items : List Item) (entry_bytes : List ℕ) → IsBatchOf items entry_bytes → EntriesEndWithin (written_event part handle items entry_bytes ∷ [])
written_within part handle items entry_bytes b =
    let whole = b.whole in
    let long = block_long entry_bytes in
    (items_within (entry_place handle entry_bytes) compressions.None 0 items b.tiled (omega (arith, whole, long)), tt)

-- ---- the places

is_at_most : (n m : ℕ) → n ≤ m → nat_le n m ≡ true
is_at_most n m l = grind (arith, nat_tests)

same_number : (n : ℕ) → (n == n) ≡ true
same_number n = grind (arith, nat_tests)

lower_number : (n m : ℕ) → n < m → (n == m) ≡ false
lower_number n m l = grind (arith, nat_tests)

stretch_found : (bytes block more : List ℕ) (offset : ℕ) → offset ≤ length bytes → drop offset bytes ≡ block ++ more → stretch_of bytes offset (length block) ≡ Some block
stretch_found bytes block more offset le e =
    let d : length (block ++ more) + offset ≡ length bytes = let a = length-drop offset bytes in let b = ap length e in omega (arith, a, b, le) in
    let n = length-append block more in
    ap (λ (b : Bool). cond b (Some (take (length block) (drop offset bytes))) None) (is_at_most (offset + length block) (length bytes) (omega (arith, d, n)))
    ∙ ap (λ (l : List ℕ). Some l) (ap (take (length block)) e ∙ take_at block more (length block) refl)

-- an entry of placed items has the place
entries_at : (IsSo : EntryIndex → Type 0) (place : FileBlockHandle) (compression : CompressionType) (es : List EntryIndex) → ((e : EntryIndex) → IsSo (placed place compression e)) → AllByRecursion IsSo (map (placed place compression) es)
entries_at IsSo place compression [] so = tt
entries_at IsSo place compression (e ∷ es) so = (so e, entries_at IsSo place compression es so)

content_at : (IsSo : EntryIndex → Type 0) (place : FileBlockHandle) (compression : CompressionType) (c : Content) → ((e : EntryIndex) → IsSo (placed place compression e)) → EachEntryOf IsSo (placed_content place compression c)
content_at IsSo place compression (entries es) so = entries_at IsSo place compression es so
content_at IsSo place compression (command c) so = tt
content_at IsSo place compression (pair p) so = tt

items_at : (IsSo : EntryIndex → Type 0) (place : FileBlockHandle) (compression : CompressionType) (xs : List Item) → ((e : EntryIndex) → IsSo (placed place compression e)) → EachEntryIn IsSo (map (placed_item place compression) xs)
items_at IsSo place compression [] so = tt
items_at IsSo place compression (x ∷ xs) so = (content_at IsSo place compression x.content so, items_at IsSo place compression xs so)

-- the block of a batch that stands in a part
batch_block : (part : Part) (at next : ℕ) (items : List Item) → (b : IsBatchAt part at items next) → drop (at + 16) part.bytes ≡ b.between ++ (b.laid_out.behind ++ drop next part.bytes)
batch_block part at next items b =
    let l = b.laid_out in
    let header = header_bytes (16 + length b.between) l.compression (length b.bytes) in
    let whole : drop at part.bytes ≡ header ++ (b.between ++ (l.behind ++ drop next part.bytes)) =
    b.stands ∙ ap (λ (t : List ℕ). t ++ drop next part.bytes) l.split ∙ append_assoc header (b.between ++ l.behind) (drop next part.bytes)
    ∙ ap (λ (t : List ℕ). header ++ t) (append_assoc b.between l.behind (drop next part.bytes)) in
    sym (drop-drop 16 at part.bytes) ∙ ap (drop 16) whole ∙ drop_at header (b.between ++ (l.behind ++ drop next part.bytes)) 16 (header_len (16 + length b.between) l.compression (length b.bytes))

module _ (queue : LogQueue) (version : Version) where
  -- what is so of files where the places of this file stand is so of its batches
  file_places : (file : NumberedBytes) (at : ℕ) (h : List Event) (IsSo : EntryIndex → Type 0)
      → ((offset : ℕ) (block : List ℕ) (compression : CompressionType) → stretch_of file.1 offset (length block) ≡ Some block
      → (e : EntryIndex) → IsSo (placed (record { id = record { queue = queue; seq = file.0 }; offset = offset; len = length block }) compression e))
      → HoldsFrom (whole_file queue version file) at h → EachEntryAmong IsSo h
  file_places file at [] IsSo so held = tt
  file_places file at (e ∷ h) IsSo so held =
      let b = held.1.1 in
      let part = whole_file queue version file in
      let place : FileBlockHandle = record { id = part.id; offset = part.offset + at + 16; len = length b.between } in
      let block = batch_block part at held.1.0 e.items b in
      let m = batch_inside part at e.items held.1.0 b in
      let ends = b.ends in
      let long = ap length b.laid_out.split ∙ length-append (header_bytes (16 + length b.between) b.laid_out.compression (length b.bytes)) (b.between ++ b.laid_out.behind) in
      let sixteen = header_len (16 + length b.between) b.laid_out.compression (length b.bytes) in
      let inside : at + 16 ≤ length file.1 = omega (arith, m.1, ends, long, sixteen) in
      let there : stretch_of file.1 (at + 16) (length b.between) ≡ Some b.between = stretch_found file.1 b.between (b.laid_out.behind ++ drop held.1.0 file.1) (at + 16) inside block in (
        subst (EachEntryIn IsSo) (sym b.places) (items_at IsSo place b.laid_out.compression b.read (so (0 + at + 16) b.between b.laid_out.compression (subst (λ (o : ℕ). stretch_of file.1 o (length b.between) ≡ Some b.between) (omega arith) there))),
        file_places file held.1.0 h IsSo so held.1.2,
      )

  among_append : (IsSo : EntryIndex → Type 0) (g h : List Event) → EachEntryAmong IsSo g → EachEntryAmong IsSo h → EachEntryAmong IsSo (g ++ h)
  among_append IsSo [] h p q = q
  among_append IsSo (e ∷ g) h p q = (p.0, among_append IsSo g h p.1 q)

  files_places : (all files : List NumberedBytes) (n : ℕ) (h : List Event)
      → ((seq offset len : ℕ) (block : List ℕ) → n ≤ seq → bytes_at files seq offset len ≡ Some block → bytes_at all seq offset len ≡ Some block)
      → AreRisingFrom n (numbers files) → FilesHold queue version files h → PlacesStand queue all h
  files_places all [] n h found rising held = subst (PlacesStand queue all) (sym held) tt
  files_places all (file ∷ files) n h found rising held =
      let up : n ≤ file.0 = rising.0 in
      let first = file_places file 0 held.first (StandsAt queue all)
      (λ offset block compression there e. record {
        of_queue = refl;
        block = block;
        stands = found file.0 offset (length block) block up
            (ap (λ (b : Bool). cond b (stretch_of file.1 offset (length block)) (bytes_at files file.0 offset (length block))) (same_number file.0) ∙ there);
        whole = refl;
      }) held.first_held in
      let rest = files_places all files (suc file.0) held.rest
      (λ seq offset len block le e. found seq offset len block (omega (arith, le, up))
      (ap (λ (b : Bool). cond b (stretch_of file.1 offset len) (bytes_at files seq offset len)) (lower_number file.0 seq (omega (arith, le))) ∙ e)) rising.1 held.rest_held in
      subst (PlacesStand queue all) (sym held.split) (among_append (StandsAt queue all) held.first held.rest first rest)

pub places : (queue : LogQueue) (version : Version) (n : ℕ) (files : List NumberedBytes) (h : List Event) → AreRisingFrom n (numbers files) → FilesHold queue version files h → PlacesStand queue files h
places queue version n files h rising held = files_places queue version files files n h (λ seq offset len block le e. e) rising held
