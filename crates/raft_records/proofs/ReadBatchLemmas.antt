-- On batches as they are read.
use Rattle.raft_records.proofs.Common.{◌≡◌, ℕ, suc, ◌+◌, ◌≤◌, ◌<◌, List, [], ◌∷◌, ◌++◌, map, length, take, drop, get_or, Some, refl, sym, ap, ◌∙◌, subst, arith, add-one, take-length, append-nil, length-append, length-map, length_push}
use Rattle.raft_records.proofs.Common.{map-append, take-append-le, drop-append-le, length-drop, AllByRecursion, entries_of_block, EntryIndex, FileBlockHandle, Reads, IsSequence, IsVarint, ReadContent, Command, ReadItem, AreDecodedIn}
use Rattle.raft_records.proofs.Common.{IsDecodedIn, IsPlaceInFile, IsCommand, IsItem, IsKeyValue, IsTail, Item, Pair, command, entries, pair, FitTogether, FitsBehind, end_of_items, placed_item, entry_between, content_shown, item_shown}
use Rattle.raft_records.proofs.Common.{items_shown, spans_of, spans_taken, AreEntriesRead, AreHeldAs, AreTailsRead, IsChange, IsContentFault, IsContentRead, IsHeldAs, IsItemRead, IsMemory, IsTagged, IsContent, Reached, change_of}
use Rattle.raft_records.proofs.Common.{content_made, reached, span_of, Content, Error, None, Option, inr, append_assoc, behind_entry, behind_item, placed_entry, uncompressed, map-id}
use Rattle.raft_records.proofs.ItemLemmas.{no_room_for_pair}
use Rattle.raft_records.specs.declared.read_batch.ReadContent.TheVariants.{Run}
use Rattle.raft_records.specs.declared.read_batch.ReadContent.TheVariants as contents
use Rattle.raft_records.proofs.BatchLemmas.{behind_placed, end_push, fits_placed, content_fits, one_more_item}
use Rattle.raft_records.proofs.ContentLemmas.{command_content, entries_content, item_read, pair_content}
use Rattle.raft_records.proofs.EntryLemmas.{AreReadSoFar, end_is, entries_read, one_more_tail, run_read}

-- ---- spans

abbrev entry_at : FileBlockHandle → ℕ → EntryIndex → EntryIndex
entry_at place i e = record { index = i; entries = Some place; compression_type = uncompressed; entry_offset = e.entry_offset; entry_len = e.entry_len }

spans_shown : (place : FileBlockHandle) (next : ℕ × ℕ) (bytes : List ℕ) (es : List EntryIndex) → IsSequence behind_entry IsTail next bytes es → entries_of_block next.0 place (map span_of es) ≡ map (placed_entry place uncompressed) es
spans_shown place next bytes [] q = refl
spans_shown place next bytes (e ∷ es) q =
    let first : entry_at place next.0 e ≡ placed_entry place uncompressed e = ap (λ (i : ℕ). entry_at place i e) (sym q.first_spells.index) in
    let rest : entries_of_block (suc next.0) place (map span_of es) ≡ map (placed_entry place uncompressed)
    es = subst (λ (i : ℕ). entries_of_block i place (map span_of es) ≡ map (placed_entry place uncompressed) es) (add-one next.0)
    (spans_shown place (behind_entry next e) q.second es q.second_spells) in
    λ i. first i ∷ rest i

-- entries were read behind their count and the first index
pub run_read_of : {X : Type 0} {kept_of : EntryIndex → X} {s count first : ℕ} {bytes mid tails rest : List ℕ} {end : ℕ} {old new : List X} → 0 < count →
    Reads IsVarint bytes mid count → Reads IsVarint mid tails first → AreTailsRead kept_of count first (reached tails s old) (reached rest end new) →
    AreEntriesRead kept_of first count (reached bytes s old) (reached rest end new)
run_read_of {s = s} {count = count} {first = first} {bytes = bytes} {mid = mid} {tails = tails} {rest = rest} some counted begins r =
    record {
      read = r.read;
      reads = entries_read s count bytes mid rest r.read counted (run_read s count first mid tails rest r.read some begins r.reads);
      ends = r.ends;
      added = r.added;
      held = record { taken = sym r.reads.spells.count; made = refl; shown = λ place. ap entries (spans_shown place (first, s) r.reads.front r.read r.reads.spells.tails) };
    }

-- one byte below 128 is a number
pub byte_read : (n : ℕ) (rest : List ℕ) → n < 128 → Reads IsVarint (n ∷ rest) rest n
byte_read n rest small =
    record { front = n ∷ []; spells = record { continued = small; value = omega arith; at_most_ten = omega arith; tenth = omega arith }; split = refl }

pub no_entries_read : {X : Type 0} {kept_of : EntryIndex → X} {s count : ℕ} {bytes rest : List ℕ} {kept : List X} → count ≡ 0 → Reads IsVarint bytes rest count → AreEntriesRead kept_of 0 0 (reached bytes s kept) (reached rest s kept)
no_entries_read {s = s} {count = count} {bytes = bytes} {rest = rest} {kept = kept} none r =
    record {
      read = [];
      reads = entries_read s count bytes rest rest [] r (record { front = []; spells = (refl, none); split = refl });
      ends = refl;
      added = sym (append-nil kept);
      held = record { taken = refl; made = refl; shown = λ place. refl };
    }

-- ---- contents

pub entries_are_content : {X : Type 0} {kept_of : EntryIndex → X} {s first count : ℕ} {bytes behind rest : List ℕ} {end : ℕ} {old new : List X} →
    bytes ≡ 1 ∷ behind → AreEntriesRead kept_of first count (reached behind s old) (reached rest end new) →
    IsContentRead kept_of (Run first count) (reached bytes s old) (reached rest end new)
entries_are_content {s = s} {bytes = bytes} {behind = behind} {rest = rest} split r =
    record { read = entries r.read; own = r.read; reads = entries_content s bytes behind rest r.read split r.reads; ends = r.ends; added = r.added; held = r.held }

pub command_read : {X : Type 0} {kept_of : EntryIndex → X} {s : ℕ} {bytes behind rest : List ℕ} {c : Command} {kept : List X} → bytes ≡ 2 ∷ behind →
    Reads IsCommand behind rest c → IsContentRead kept_of (contents.Command c) (reached bytes s kept) (reached rest s kept)
command_read {s = s} {bytes = bytes} {behind = behind} {rest = rest} {c = c} {kept = kept} split r =
    record { read = command c; own = []; reads = command_content s bytes behind rest c split r; ends = refl; added = sym (append-nil kept); held = record { taken = refl; made = refl; shown = λ place. refl } }

pub pair_read : {X : Type 0} {kept_of : EntryIndex → X} {s : ℕ} {bytes behind rest : List ℕ} {content : ReadContent} {p : Pair} {kept : List X} → bytes ≡ 3 ∷ behind →
    Reads IsKeyValue behind rest p → IsHeldAs content [] (pair p) → IsContentRead kept_of content (reached bytes s kept) (reached rest s kept)
pair_read {s = s} {bytes = bytes} {behind = behind} {rest = rest} {p = p} {kept = kept} split r held =
    record { read = pair p; own = []; reads = pair_content s bytes behind rest p split r; ends = refl; added = sym (append-nil kept); held = held }

-- all entries that were kept are those that were read
pub entries_kept : {first count : ℕ} {old new : Reached EntryIndex} → (r : AreEntriesRead (λ e. e) first count old new) → old.kept ≡ [] → new.kept ≡ r.read
entries_kept r none = r.added ∙ ap (λ (es : List EntryIndex). es ++ map (λ e. e) r.read) none ∙ map-id r.read

pub content_is_made : {content : ReadContent} {old new : Reached EntryIndex} → (r : IsContentRead (λ e. e) content old new) → old.kept ≡ [] → content_made content new.kept ≡ r.read
content_is_made {content} r none = ap (content_made content) (r.added ∙ ap (λ (es : List EntryIndex). es ++ map (λ e. e) r.own) none ∙ map-id r.own) ∙ r.held.made

-- where a change of a key was read, there may be no memory for it
no_room : {X : Type 0} (old new : Reached X) (e : Error) (key : List ℕ) (value : Option (List ℕ)) (read : Content) → Reads (IsContent old.end) old.bytes new.bytes read →
    pair (change_of key value None) ≡ read → IsMemory e → IsContentFault old.end old.bytes e
no_room old new e key value read r made memory =
    let here : Reads (IsContent old.end) old.bytes new.bytes (pair (change_of key value None)) = subst (λ (c : Content). Reads (IsContent old.end) old.bytes new.bytes c) (sym made) r in
    let tagged : IsTagged 3 IsKeyValue here.front (change_of key value None) = here.spells in
    let behind = tagged.0 ++ new.bytes in
    let fault = no_room_for_pair behind new.bytes key value e (record { front = tagged.0; spells = tagged.2; split = refl }) memory in
    subst (λ (b : List ℕ). IsContentFault old.end b e) (sym (here.split ∙ ap (λ (t : List ℕ). t ++ new.bytes) tagged.1)) (inr (inr (inr (refl, fault))))

pub no_room_for_change : {X : Type 0} {kept_of : EntryIndex → X} {content : ReadContent} {old new : Reached X} (e : Error) → IsChange content →
    IsContentRead kept_of content old new → IsMemory e → IsContentFault old.end old.bytes e
no_room_for_change {content = contents.Put key value} {old = old} {new = new} e change r memory = no_room old new e key.now (Some value.now) r.read r.reads r.held.made memory
no_room_for_change {content = contents.Delete key} {old = old} {new = new} e change r memory = no_room old new e key.now None r.read r.reads r.held.made memory
no_room_for_change {content = Run first count} e change r memory = absurd change
no_room_for_change {content = contents.Command c} e change r memory = absurd change

-- a region and a content that was read, as an item that is added
pub held_item : {s region : ℕ} {bytes mid rest : List ℕ} {content : ReadContent} {end : ℕ} {items new_items : List ReadItem}
    {spans new_spans : List (ℕ × ℕ)} → Reads IsVarint bytes mid region → IsContentRead span_of content (reached mid s spans) (reached rest end new_spans) →
    new_items ≡ items ++ record { region = region; content = content } ∷ [] →
    IsItemRead items new_items (reached bytes s spans) (reached rest end new_spans)
held_item {s = s} {region = region} {bytes = bytes} {mid = mid} {rest = rest} {content = content} r c added =
    record {
      read = record { raft_group_id = region; content = c.read };
      item = record { region = region; content = content };
      own = c.own;
      reads = item_read s region bytes mid rest c.read r c.reads;
      ends = c.ends;
      added = added;
      spans_added = c.added;
      region = refl;
      held = c.held;
    }

-- two bytes and what is behind them
pub two_in_front : (bytes : List ℕ) (a b : ℕ) → 2 ≤ length bytes → get_or bytes 0 0 ≡ a → get_or bytes 1 0 ≡ b → bytes ≡ a ∷ b ∷ drop 2 bytes
two_in_front [] a b some first second = absurd (omega arith)
two_in_front (x ∷ []) a b some first second = absurd (omega arith)
two_in_front (x ∷ y ∷ rest) a b some first second = λ i. first i ∷ second i ∷ rest

-- ---- spans so far

-- what is kept of the entries that were read so far, and behind them come this index and this offset
pub record AreKeptSoFar {X : Type 0} (kept_of : EntryIndex → X) (first s : ℕ) (bytes rest : List ℕ) (old new : List X) (index offset count : ℕ) : Type 0 where
  pub read : List EntryIndex
  pub so_far : AreReadSoFar first s bytes rest read index offset
  pub added : new ≡ old ++ map kept_of read
  pub counted : length read ≡ count

pub one_more_kept : {X : Type 0} {kept_of : EntryIndex → X} {first s : ℕ} {bytes mid rest : List ℕ} {old new : List X} {index offset tail count : ℕ} {value : X} →
    AreKeptSoFar kept_of first s bytes mid old new index offset count → offset ≤ tail →
    Reads (IsTail (index, offset)) mid rest (entry_between index offset tail) → value ≡ kept_of (entry_between index offset tail) →
    AreKeptSoFar kept_of first s bytes rest old (new ++ value ∷ []) (index + 1) tail (count + 1)
one_more_kept {X} {kept_of} {first} {s} {bytes} {mid} {rest} {old} {new} {index} {offset} {tail} {count} {value} so le r is =
    let e = entry_between index offset tail in
    let es = so.read in
    record {
      read = es ++ e ∷ [];
      so_far = one_more_tail first s bytes mid rest es index offset tail so.so_far le r;
      added = ap (λ (v : X). new ++ v ∷ []) is ∙ ap (λ (xs : List X). xs ++ kept_of e ∷ []) so.added
          ∙ append_assoc old (map kept_of es) (kept_of e ∷ []) ∙ ap (λ (xs : List X). old ++ xs) (sym (map-append kept_of es (e ∷ [])));
      counted = omega (arith, length_push es e, so.counted);
    }

pub tails_read : {X : Type 0} {kept_of : EntryIndex → X} {first s n count : ℕ} {bytes rest : List ℕ} {old new : List X} {index offset : ℕ} → count ≡ n →
    AreKeptSoFar kept_of first s bytes rest old new index offset count → AreTailsRead kept_of n first (reached bytes s old) (reached rest offset new)
tails_read {first = first} {s = s} {bytes = bytes} {rest = rest} {index = index} {offset = offset} all so =
    let reads = so.so_far.reads in
    record {
      read = so.read;
      reads = record { front = reads.front; spells = record { tails = reads.spells; count = so.counted ∙ all }; split = reads.split };
      ends = sym (end_is (first, s) so.read ∙ ap (λ (p : ℕ × ℕ). p.1) so.so_far.state);
      added = so.added;
    }

-- ---- items

pub item_held : (place : FileBlockHandle) (item : ReadItem) (own : List EntryIndex) (x : Item) → item.region ≡ x.raft_group_id →
    IsHeldAs item.content own x.content → item_shown place item (map span_of own) ≡ placed_item place uncompressed x
item_held place item own x region h = λ i. record { raft_group_id = region i; content = h.shown place i }

spans_push : (items : List ReadItem) (item : ReadItem) → spans_of (items ++ item ∷ []) ≡ spans_of items + spans_taken item.content
spans_push [] item = omega arith
spans_push (y ∷ ys) item = omega (arith, spans_push ys item)

shown_push : (place : FileBlockHandle) (items : List ReadItem) (item : ReadItem) (spans own : List (ℕ × ℕ)) → spans_of items ≡ length spans →
    spans_taken item.content ≡ length own → items_shown place (items ++ item ∷ []) (spans ++ own) ≡ items_shown place items spans ++ item_shown place
    item own ∷ []
shown_push place [] item [] own e t = ap (λ (xs : List (ℕ × ℕ)). item_shown place item xs ∷ []) (ap (λ (n : ℕ). take n own) t ∙ take-length own)
shown_push place [] item (x ∷ spans) own e t = absurd (omega (arith, e))
shown_push place (y ∷ ys) item spans own e t =
    let n = spans_taken y.content in
    let le : n ≤ length spans = omega (arith, e) in
    let left : spans_of ys ≡ length (drop n spans) = omega (arith, e, length-drop n spans) in
    let first : take n (spans ++ own) ≡ take n spans = take-append-le n spans own le in
    let rest : drop n (spans ++ own) ≡ drop n spans ++ own = drop-append-le n spans own le in
    ap (λ (xs : List (ℕ × ℕ)). item_shown place y xs ∷ items_shown place (ys ++ item ∷ []) (drop n (spans ++ own))) first
    ∙ ap (λ (xs : List (ℕ × ℕ)). item_shown place y (take n spans) ∷ items_shown place (ys ++ item ∷ []) xs) rest
    ∙ ap (λ (xs : List Item). item_shown place y (take n spans) ∷ xs) (shown_push place ys item (drop n spans) own left t)

pub items_held_push : (items : List ReadItem) (item : ReadItem) (spans : List (ℕ × ℕ)) (own : List EntryIndex) (xs : List Item) (x : Item) → AreHeldAs items spans xs →
    item.region ≡ x.raft_group_id → IsHeldAs item.content own x.content → AreHeldAs (items ++ item ∷ []) (spans ++ map span_of own) (xs ++ x ∷ [])
items_held_push items item spans own xs x h region k =
    record {
      taken = omega (arith, h.taken, k.taken, spans_push items item, length-append spans (map span_of own), length-map own span_of);
      shown = λ place. shown_push place items item spans (map span_of own) h.taken (k.taken ∙ sym (length-map own span_of)) ∙ ap (λ (ys : List Item). ys ++ item_shown place item (map span_of own) ∷ [])
          (h.shown place) ∙ ap (λ (y : Item). map (placed_item place uncompressed) xs ++ y ∷ []) (item_held place item own x region k)
          ∙ sym (map-append (placed_item place uncompressed) xs (x ∷ []));
    }

-- the items that were read so far, and behind their entries comes this offset
pub record AreItemsSoFar (bytes rest : List ℕ) (items : List ReadItem) (spans : List (ℕ × ℕ)) (offset count : ℕ) : Type 0 where
  pub read : List Item
  pub reads : Reads (IsSequence behind_item IsItem 0) bytes rest read
  pub held : AreHeldAs items spans read
  pub ends : offset ≡ end_of_items 0 read
  pub counted : length read ≡ count

pub one_more_held : (bytes mid rest : List ℕ) (items new_items : List ReadItem) (spans new_spans : List (ℕ × ℕ)) (offset end count : ℕ) →
    AreItemsSoFar bytes mid items spans offset count → IsItemRead items new_items (reached mid offset spans) (reached rest end new_spans) →
    AreItemsSoFar bytes rest new_items new_spans end (count + 1)
one_more_held bytes mid rest items new_items spans new_spans offset end count so r =
    let xs = so.read in
    let held = items_held_push items r.item spans r.own xs r.read so.held r.region r.held in
    let here : AreHeldAs new_items (spans ++ map span_of r.own) (xs ++ r.read ∷ []) = subst (λ (ys : List ReadItem). AreHeldAs ys (spans ++ map span_of r.own) (xs ++ r.read ∷ [])) (sym r.added) held in
    record {
      read = xs ++ r.read ∷ [];
      reads = one_more_item bytes mid rest xs r.read offset so.reads so.ends r.reads;
      held = subst (λ (ys : List (ℕ × ℕ)). AreHeldAs new_items ys (xs ++ r.read ∷ [])) (sym r.spans_added) here;
      ends = r.ends ∙ ap (λ (s : ℕ). behind_item s r.read) so.ends ∙ sym (end_push 0 xs r.read);
      counted = omega (arith, length_push xs r.read, so.counted);
    }

pub items_fit : (place : FileBlockHandle) (s : ℕ) (bytes : List ℕ) (xs : List Item) → IsSequence behind_item IsItem s bytes xs → FitTogether s (map (placed_item place uncompressed) xs)
items_fit place s bytes [] q = tt
items_fit place s bytes (x ∷ xs) q =
    let put = placed_item place uncompressed in (
      fits_placed place uncompressed s x.content (content_fits s q.first_spells.second x.content q.first_spells.second_spells),
      subst (λ (t : ℕ). FitTogether t (map put xs))
          (sym (behind_placed place uncompressed s x)) (items_fit place (behind_item s x) q.second xs q.second_spells),
    )

-- ---- what the parts show

block_in_file : (place : FileBlockHandle) (i : ℕ) (spans : List (ℕ × ℕ)) → AllByRecursion (λ (e : EntryIndex). IsPlaceInFile place.id e.entries) (entries_of_block i place spans)
block_in_file place i [] = tt
block_in_file place i (s ∷ ss) = (refl, block_in_file place (suc i) ss)

content_in_file : (place : FileBlockHandle) (s : ℕ) (content : ReadContent) (own : List (ℕ × ℕ)) → FitsBehind s (content_shown place content own) → IsDecodedIn place.id (content_shown place content own)
content_in_file place s (Run first count) own f = (f.0, block_in_file place first own)
content_in_file place s (contents.Command c) own f = tt
content_in_file place s (contents.Put key value) own f = (f, refl)
content_in_file place s (contents.Delete key) own f = (f, refl)

pub shown_in_file : (place : FileBlockHandle) (s : ℕ) (items : List ReadItem) (spans : List (ℕ × ℕ)) → FitTogether s (items_shown place items spans) → AreDecodedIn place.id (items_shown place items spans)
shown_in_file place s [] spans f = tt
shown_in_file place s (y ∷ ys) spans f =
    let n = spans_taken y.content in
    (content_in_file place s y.content (take n spans) f.0, shown_in_file place (behind_item s (item_shown place y (take n spans))) ys (drop n spans) f.1)
