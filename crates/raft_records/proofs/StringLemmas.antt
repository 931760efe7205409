-- On entries with their bytes.
use Rattle.raft_records.proofs.Common.{◌≡◌, ◌≢◌, ℕ, zero, suc, ◌+◌, ◌-◌, ◌^◌, ◌<◌, ◌≤◌, List, [], ◌∷◌, ◌++◌, map, length, take, drop, get_or, set, ◌↔◌, refl, sym, ap, ◌∙◌, subst, append_assoc, arith, concat, length-append, length-drop}
use Rattle.raft_records.proofs.Common.{length-map, length-set, drop_more, drop-append-le, EntryIndex, IsConsecutive, IsConsecutiveFrom, from_first, from_start, consecutive_from, started, end_behind, Item, entries, entries_item, FitsBehind}
use Rattle.raft_records.proofs.Common.{entry_bytes_of, entry_lengths, with_offsets_from, Stage, Batch, is_open, with_entries_added, entry_bytes_in, IsHeld, entry_with_index, strings_in, with_lengths, Keeps, add-one, length-take-le, nil_from_length, take-append-drop}
use Rattle.raft_records.proofs.BatchLemmas.{end_push}
use Rattle.raft_records.proofs.LayLemmas.{end_of_laid, laid_fits}
use Rattle.raft_records.proofs.BufferLemmas.{open_entries, held_open}
use Rattle.raft_records.proofs.StageLemmas.{batch_with, open_held, entries_are}

pub keeps_more : (start buf more new : List ℕ) → Keeps start buf → new ≡ buf ++ more → Keeps start new
keeps_more start buf more new k e =
    record { behind = k.behind ++ more; split = e ∙ ap (λ (t : List ℕ). t ++ more) k.split ∙ append_assoc start k.behind more }

next_is : {X : Type 0} (xs : List X) (i : ℕ) (x : X) → i < length xs → x ≡ get_or xs i x → drop i xs ≡ x ∷ drop (i + 1) xs
next_is xs i x lt at = drop_more xs i x lt ∙ ap (λ y. y ∷ drop (i + 1) xs) (sym at)

-- ---- lengths

-- entries with the lengths of their strings have as many bytes as the strings
pub lengths_total : (es : List EntryIndex) (strings : List (List ℕ)) → length es ≡ length strings → entry_lengths (with_lengths es strings) ≡ length (concat strings)
lengths_total [] [] e = refl
lengths_total [] (s ∷ ss) e = absurd (omega (arith, e))
lengths_total (x ∷ xs) [] e = absurd (omega (arith, e))
lengths_total (x ∷ xs) (s ∷ ss) e = omega (arith, lengths_total xs ss (omega (arith, e)), length-append s (concat ss))

lengths_from : (index : ℕ) (es : List EntryIndex) (strings : List (List ℕ)) → IsConsecutiveFrom index es → IsConsecutiveFrom index (with_lengths es strings)
lengths_from index [] strings h = tt
lengths_from index (x ∷ xs) [] h = tt
lengths_from index (x ∷ xs) (s ∷ ss) h = (h.0, h.1, lengths_from (index + 1) xs ss h.2)

pub lengths_consecutive : (es : List EntryIndex) (strings : List (List ℕ)) → IsConsecutive es → IsConsecutive (with_lengths es strings)
lengths_consecutive es strings h = consecutive_from (started es h.run).start (with_lengths es strings) (lengths_from (started es h.run).start es strings (from_start es h))

-- ---- bytes one behind another

-- each entry has as many as its length says
pub cut_lengths : (es : List EntryIndex) (bytes : List ℕ) → entry_lengths es ≡ length bytes → with_lengths es (strings_in es bytes) ≡ es
cut_lengths [] bytes e = refl
cut_lengths (x ∷ xs) bytes e =
    let own : length (take x.entry_len bytes) ≡ x.entry_len = length-take-le x.entry_len bytes (omega (arith, e)) in
    let rest = cut_lengths xs (drop x.entry_len bytes) (omega (arith, e, length-drop x.entry_len bytes)) in
    ap (λ (n : ℕ). record x { entry_len = n } ∷ with_lengths xs (strings_in xs (drop x.entry_len bytes))) own ∙ ap (λ (t : List EntryIndex). x ∷ t) rest

-- together they are all
pub cut_joined : (es : List EntryIndex) (bytes : List ℕ) → entry_lengths es ≡ length bytes → concat (strings_in es bytes) ≡ bytes
cut_joined [] bytes e = sym (nil_from_length bytes (sym e))
cut_joined (x ∷ xs) bytes e =
    ap (λ (t : List ℕ). take x.entry_len bytes ++ t) (cut_joined xs (drop x.entry_len bytes) (omega (arith, e, length-drop x.entry_len bytes)))
    ∙ take-append-drop x.entry_len bytes

pub cut_counts : (es : List EntryIndex) (bytes : List ℕ) → length es ≡ length (strings_in es bytes)
cut_counts [] bytes = refl
cut_counts (x ∷ xs) bytes = ap suc (cut_counts xs (drop x.entry_len bytes))

-- ---- the batch with these entries

-- where the bytes of entries stand behind those of a batch
pub added_end : (items : List Item) (region : ℕ) (es : List EntryIndex) (strings : List (List ℕ)) → length es ≡ length strings →
    entry_bytes_of (items ++ entries_item region (with_offsets_from (entry_bytes_of items) (with_lengths es strings)) ∷ []) ≡ entry_bytes_of
    items + length (concat strings)
added_end items region es strings e =
    end_push 0 items (entries_item region (with_offsets_from (entry_bytes_of items) (with_lengths es strings)))
    ∙ end_of_laid (entry_bytes_of items) (with_lengths es strings)
    ∙ ap (λ (n : ℕ). entry_bytes_of items + n) (lengths_total es strings e)

pub added_held : {stage : Stage} {items new : List Item} {buf bytes : List ℕ} (region : ℕ) (mid : List ℕ) (es : List EntryIndex) (strings : List (List ℕ)) →
    stage ≡ is_open → IsHeld stage items (entry_bytes_in items buf) buf → 16 ≤ length mid → drop 16 mid ≡ drop 16 buf → length es ≡ length strings →
    new ≡ items ++ entries_item region (with_offsets_from (entry_bytes_of items) (with_lengths es strings)) ∷ [] → bytes ≡ mid ++ concat strings →
    length bytes < 16 + 2 ^ 31 → IsHeld stage new (entry_bytes_in new bytes) bytes ×
    (entry_bytes_in new bytes ≡ entry_bytes_in items buf ++ concat strings)
added_held {stage} {items} {new} {buf} {bytes} region mid es strings e h room same counts added written fits =
    let behind : drop 16 bytes ≡ drop 16 buf ++ concat strings = ap (drop 16) written ∙ drop-append-le 16 mid (concat strings) room ∙ ap (λ (t : List ℕ). t ++ concat strings) same in
    let total : entry_bytes_of new ≡ entry_bytes_of items + length (concat strings) = ap entry_bytes_of added ∙ added_end items region es strings counts in
    let len : length bytes - 16 ≡ entry_bytes_of new = omega (arith, total, open_held e h, ap length behind, length-append (drop 16 buf) (concat strings), length-drop 16 buf, length-drop 16 bytes) in (
      subst (λ (s : Stage). IsHeld s new (entry_bytes_in new bytes) bytes) (sym e) (held_open new bytes len (omega (arith, len, fits))),
      open_entries (entry_bytes_of new) bytes len ∙ behind ∙ ap (λ (t : List ℕ). t ++ concat strings) (sym (entries_are e h)),
    )

pub added_view : {now : Batch} {stage : Stage} {items new : List Item} {old bytes : List ℕ} (region : ℕ) (es : List EntryIndex)
    (strings : List (List ℕ)) → batch_with items old stage ≡ now → length old ≡ entry_bytes_of items → es ≢ [] →
    new ≡ items ++ entries_item region (with_offsets_from (entry_bytes_of items) (with_lengths es strings)) ∷ [] → bytes ≡ old ++ concat strings →
    batch_with new bytes stage ≡ with_entries_added now region es strings
added_view region [] strings view whole some added written = absurd (some refl)
added_view {now} {stage} {items} {new} {old} {bytes} region (e ∷ es) strings view whole some added written =
    ap (λ (xs : List Item). batch_with xs bytes stage) added
    ∙ ap (λ (t : List ℕ). batch_with (items ++ entries_item region (with_offsets_from (entry_bytes_of items) (with_lengths (e ∷ es) strings)) ∷ []) t stage) written
    ∙ ap (λ (n : ℕ). batch_with (items ++ entries_item region (with_offsets_from n (with_lengths (e ∷ es) strings)) ∷ []) (old ++ concat strings) stage) (sym whole)
    ∙ ap (λ (b : Batch). with_entries_added b region (e ∷ es) strings) view

-- room for the header was made
pub reserved_len : {stage : Stage} {items : List Item} {old : List ℕ} (new : List ℕ) → stage ≡ is_open →
    IsHeld stage items (entry_bytes_in items old) old → 16 ≤ length new → drop 16 new ≡ drop 16 old → length new ≡ 16 + entry_bytes_of items
reserved_len {stage} {items} {old} new e h room same = omega (arith, room, open_held e h, ap length same, length-drop 16 old, length-drop 16 new)

-- messages with as many indexes
pub same_counts : {X : Type 0} (bytes_of : X → List ℕ) (index_of : X → ℕ) (xs : List X) → length (map (λ x. entry_with_index (index_of x)) xs) ≡ length (map bytes_of xs)
same_counts bytes_of index_of xs = length-map xs (λ x. entry_with_index (index_of x)) ∙ sym (length-map xs bytes_of)

pub map_some : {X : Type 0} {Y : Type 0} (f : X → Y) (xs : List X) → xs ≢ [] → map f xs ≢ []
map_some f [] some e = some refl
map_some f (x ∷ xs) some e = absurd cc

-- ---- byte strings

-- the first i of these strings are written behind the bytes that were there, and have set the lengths of their entries
pub record IsStringing {X : Type 0} (bytes_of : X → List ℕ) (es : List EntryIndex) (xs : List X) (i : ℕ) (start buf : List ℕ) (now : List EntryIndex) : Type 0 where
  pub keeps : Keeps start buf
  pub bytes : buf ++ concat (map bytes_of (drop i xs)) ≡ start ++ concat (map bytes_of xs)
  pub lengths : now ≡ with_lengths (take i es) (map bytes_of xs) ++ drop i es
  pub count : length now ≡ length xs
  pub small : 0 < i → length buf < 16 + 2 ^ 31

set_length : {X : Type 0} (bytes_of : X → List ℕ) (es : List EntryIndex) (xs : List X) (i : ℕ) (e : EntryIndex) (x : X) → i < length es →
    length es ≡ length xs → e ≡ get_or (with_lengths (take i es) (map bytes_of xs) ++ drop i es) i e → x ≡ get_or xs i x →
    set (with_lengths (take i es) (map bytes_of xs) ++ drop i es) i (record e { entry_len = length (bytes_of x) }) ≡ with_lengths (take (suc i) es)
    (map bytes_of xs) ++ drop (suc i) es
set_length bytes_of [] xs i e x lt count at there = absurd (omega (arith, lt))
set_length bytes_of (y ∷ ys) [] i e x lt count at there = absurd (omega (arith, count))
set_length bytes_of (y ∷ ys) (z ∷ zs) zero e x lt count at there =
    ap (λ (v : EntryIndex). record v { entry_len = length (bytes_of x) } ∷ ys) at ∙ ap (λ v. record y { entry_len = length (bytes_of v) } ∷ ys) there
set_length bytes_of (y ∷ ys) (z ∷ zs) (suc i) e x lt count at there =
    ap (λ (t : List EntryIndex). record y { entry_len = length (bytes_of z) } ∷ t) (set_length bytes_of ys zs i e x (omega (arith, lt)) (omega (arith, count)) at there)

pub strung_next : {X : Type 0} (bytes_of : X → List ℕ) (es : List EntryIndex) (xs : List X) (i : ℕ) (start buf new : List ℕ) (now : List EntryIndex)
    (e : EntryIndex) (x : X) (len : ℕ) → IsStringing bytes_of es xs i start buf now → i < length xs → length es ≡ length xs → e ≡ get_or now i e →
    x ≡ get_or xs i x → new ≡ buf ++ bytes_of x → length new < 16 + 2 ^ 31 → len ≡ length (bytes_of x) →
    IsStringing bytes_of es xs (i + 1) start new (set now i (record e { entry_len = len }))
strung_next {X} bytes_of es xs i start buf new now e x len w lt count at there appended fits same =
    let next = next_is xs i x lt there in
    let rest = concat (map bytes_of (drop (i + 1) xs)) in
    let here : e ≡ get_or (with_lengths (take i es) (map bytes_of xs) ++ drop i es) i e = at ∙ ap (λ (t : List EntryIndex). get_or t i e) w.lengths in
    record {
      keeps = keeps_more start buf (bytes_of x) new w.keeps appended;
      bytes = ap (λ (t : List ℕ). t ++ rest) appended ∙ append_assoc buf (bytes_of x) rest ∙ ap (λ (ys : List X). buf ++ concat (map bytes_of ys)) (sym next) ∙ w.bytes;
      lengths = ap (λ (n : ℕ). set now i (record e { entry_len = n })) same
          ∙ ap (λ (t : List EntryIndex). set t i (record e { entry_len = length (bytes_of x) })) w.lengths
          ∙ set_length bytes_of es xs i e x (omega (arith, lt, count)) count here there
          ∙ ap (λ (n : ℕ). with_lengths (take n es) (map bytes_of xs) ++ drop n es) (sym (add-one i));
      count = length-set now i (record e { entry_len = len }) ∙ w.count;
      small = λ some. fits;
    }

-- bytes that pass the limit
pub past_limit : {X : Type 0} (bytes_of : X → List ℕ) (xs : List X) (i : ℕ) (start buf : List ℕ) (x : X) →
    buf ++ concat (map bytes_of (drop i xs)) ≡ start ++ concat (map bytes_of xs) → i < length xs → x ≡ get_or xs i x → 16 ≤ length start →
    16 + 2 ^ 31 ≤ length buf + length (bytes_of x) → 2 ^ 31 ≤ length start - 16 + length (concat (map bytes_of xs))
past_limit bytes_of xs i start buf x bytes lt there room past =
    let rest = concat (map bytes_of (drop (i + 1) xs)) in
    let whole = ap (λ ys. length (buf ++ concat (map bytes_of ys))) (sym (next_is xs i x lt there)) ∙ ap length bytes in
    omega (arith, room, past, whole, length-append buf (bytes_of x ++ rest), length-append (bytes_of x) rest, length-append start (concat (map bytes_of xs)))

pub some_counted : {X Y : Type 0} (xs : List X) (ys : List Y) → length xs ≡ length ys → xs ≢ [] → ys ≢ []
some_counted [] ys e some none = some refl
some_counted (x ∷ xs) [] e some none = absurd (omega (arith, e))
some_counted (x ∷ xs) (y ∷ ys) e some none = absurd cc

-- what was found is the entries with their lengths
pub found_room : (es found : List EntryIndex) (strings : List (List ℕ)) (old new : List ℕ) (before : ℕ) → length es ≡ length strings →
    found ≡ with_lengths es strings → new ≡ old ++ concat strings → length new < 16 + 2 ^ 31 → length old ≡ 16 + before →
    before + entry_lengths found < 2 ^ 32
found_room es found strings old new before counts is written fits whole =
    omega (arith, fits, whole, ap entry_lengths is, lengths_total es strings counts, ap length written, length-append old (concat strings))

pub found_consecutive : (es found seen : List EntryIndex) (strings : List (List ℕ)) → seen ≡ found → found ≡ with_lengths es strings → IsConsecutive es → IsConsecutive seen
found_consecutive es found seen strings same is h = subst IsConsecutive (sym (same ∙ is)) (lengths_consecutive es strings h)

-- ---- messages

-- the entries of messages, whose bytes stand from s on
abbrev pub laid_messages : {X : Type 0} → (X → ℕ) → (X → List ℕ) → ℕ → List X → List EntryIndex
laid_messages index_of bytes_of s xs =
    with_offsets_from s (with_lengths (map (λ x. entry_with_index (index_of x)) xs) (map bytes_of xs))

-- the first i messages are written behind the bytes that were there, and what is left of them completes their entries
pub record AreLaid {X : Type 0} (index_of : X → ℕ) (bytes_of : X → List ℕ) (xs : List X) (i : ℕ) (start buf : List ℕ) (now : List EntryIndex) : Type 0 where
  pub keeps : Keeps start buf
  pub room : 16 ≤ length buf
  pub bytes : buf ++ concat (map bytes_of (drop i xs)) ≡ start ++ concat (map bytes_of xs)
  pub laid : now ++ laid_messages index_of bytes_of (length buf - 16) (drop i xs) ≡ laid_messages index_of bytes_of (length start - 16) xs
  pub small : 0 < i → length buf < 16 + 2 ^ 31

-- entries that were laid behind those of a batch
pub laid_is : {X : Type 0} (index_of : X → ℕ) (bytes_of : X → List ℕ) (xs : List X) (old : List ℕ) (found : List EntryIndex) (before : ℕ) →
    found ≡ laid_messages index_of bytes_of (length old - 16) xs → length old ≡ 16 + before → found ≡ laid_messages index_of bytes_of before xs
laid_is index_of bytes_of xs old found before laid whole =
    let start : length old - 16 ≡ before = omega (arith, whole) in
    laid ∙ ap (λ (s : ℕ). laid_messages index_of bytes_of s xs) start

-- they fit behind it, and end where the bytes end
pub laid_messages_fit : {X : Type 0} (index_of : X → ℕ) (bytes_of : X → List ℕ) (xs : List X) (old new : List ℕ) (found : List EntryIndex)
    (before : ℕ) → IsConsecutive (map (λ x. entry_with_index (index_of x)) xs) → found ≡ laid_messages index_of bytes_of (length old - 16) xs →
    new ≡ old ++ concat (map bytes_of xs) → length new < 16 + 2 ^ 31 → length old ≡ 16 + before →
    FitsBehind before (entries found) × (end_behind before found ≡ length new - 16)
laid_messages_fit index_of bytes_of xs old new found before h laid written fits whole =
    let es = map (λ x. entry_with_index (index_of x)) xs in
    let strings = map bytes_of xs in
    let is = laid_is index_of bytes_of xs old found before laid whole in
    let total = lengths_total es strings (same_counts bytes_of index_of xs) in
    let len : length new ≡ length old + length (concat strings) = ap length written ∙ length-append old (concat strings) in (
      subst (λ (f : List EntryIndex). FitsBehind before (entries f)) (sym is) (laid_fits before (with_lengths es strings) (lengths_consecutive es strings h) (omega (arith, total, len, fits, whole))),
      ap (end_behind before) is ∙ end_of_laid before (with_lengths es strings) ∙ omega (arith, total, len, whole),
    )

pub with_first_message : {X : Type 0} (index_of : X → ℕ) (xs : List X) (x : X) → 0 < length xs → x ≡ get_or xs 0 x →
    IsConsecutive (map (λ x. entry_with_index (index_of x)) xs) ↔ IsConsecutiveFrom (index_of x) (map (λ x. entry_with_index (index_of x)) xs)
with_first_message index_of [] x l h = absurd (omega arith)
with_first_message {X} index_of (y ∷ ys) x l h =
    let es = map (λ x. entry_with_index (index_of x)) (y ∷ ys) in
    subst (λ (z : X). IsConsecutive es ↔ IsConsecutiveFrom (index_of z) es) (sym h) (from_first (entry_with_index (index_of y)) (map (λ x. entry_with_index (index_of x)) ys), consecutive_from (index_of y) es)
