-- The text of a batch that was decoded (no line shows a place), and what a writer holds that takes it part by part.
use Rattle.raft_records.proofs.Common.{◌≡◌, ℕ, List, [], ◌∷◌, ◌++◌, length, map, Option, None, Some, IfSome, Result, Ok, Err, IfErr, OnErr, refl, ap, sym, subst, ◌∙◌, length-map, flat_map, FileBlockHandle, CompressionType, LogItem}
use Rattle.raft_records.proofs.Common.{Item, Content, entries, command, pair, item_of, IsDecoded, placed_item, placed_content, IsTextOf, line_of, last_line, content_text, placed_entry, zero, suc, ◌-◌, codes, arith, append_assoc, slice_get}
use Rattle.raft_records.proofs.Common.{decimal, EntryIndex, end_behind, tail_of, entries_text, take, drop, Appends, Appends-trans, take_rest, take-append-drop}
use Rattle.raft_records.proofs.BatchLemmas.{end_placed}

content_placed : (handle : FileBlockHandle) (compression : CompressionType) (content : Content) → content_text (placed_content handle compression content) ≡ content_text content
content_placed handle compression (entries []) = refl
content_placed handle compression (entries (e ∷ es)) = rw (end_placed handle compression 0 (e ∷ es), length-map (e ∷ es) (placed_entry handle compression)) refl
content_placed handle compression (command c) = refl
content_placed handle compression (pair p) = refl

lines_placed : (handle : FileBlockHandle) (compression : CompressionType) (items : List Item) → flat_map line_of (map (placed_item handle compression) items) ≡ flat_map line_of items
lines_placed handle compression [] = refl
lines_placed handle compression (item ∷ items) = rw (content_placed handle compression item.content, lines_placed handle compression items) refl

-- lines of the decoded items and a line of counts are the batch's text
pub decoded_text : (bytes rest lines text : List ℕ) (signature : Option ℕ) (handle : FileBlockHandle) (compression : CompressionType)
    (decoded : List LogItem) (items : List Item) (count : ℕ) → IsDecoded bytes signature handle compression items rest → map item_of decoded ≡ items →
    count ≡ length decoded → lines ≡ flat_map line_of (map item_of decoded) → text ≡ lines ++ last_line count (length rest) →
    IsTextOf bytes signature text
decoded_text bytes rest lines text signature handle compression decoded items count d same n l t =
    let places : map item_of decoded ≡ map (placed_item handle compression) d.read = same ∙ d.places in
    let read_lines : lines ≡ flat_map line_of d.read = l ∙ (ap (flat_map line_of) places ∙ lines_placed handle compression d.read) in
    let read_count : count ≡ length d.read = n ∙ (sym (length-map decoded item_of) ∙ (ap length places ∙ length-map d.read (placed_item handle compression))) in
    record { items = d.read; rest = rest; item_batch = d.item_batch; lines = rw (← read_lines, ← read_count) t }

-- what holds of all that was read into an empty vector holds of the input
pub of_input : (P : List ℕ → Type 0) (input : Option (List ℕ)) (empty read bytes : List ℕ) → IfSome input (λ xs. read ≡ empty ++ xs) → empty ≡ [] → bytes ≡ read → P bytes → IfSome input P
of_input P None empty read bytes known none same h = tt
of_input P (Some xs) empty read bytes known none same h =
    let whole : bytes ≡ xs = same ∙ rw none at known in
    subst P whole h

-- what is so of an error, and what is so where there is one, give together what follows from both
pub on_both : {T E : Type 0} {P S : E → Type 0} {Q : Type 0} (r : Result T E) → IfErr r P → OnErr r Q → ((e : E) → P e → Q → S e) → IfErr r S
on_both (Ok t) p q follows = tt
on_both (Err e) p q follows = follows e p q

-- entries end where the last one does
last_end : (s k : ℕ) (es : List EntryIndex) (last : EntryIndex) → suc k ≡ length es → Some last ≡ slice_get es k → end_behind s es ≡ tail_of last
last_end s k [] last n h = cc
last_end s zero (e ∷ []) last n h = let same : e ≡ last = cc in ap tail_of same
last_end s zero (e ∷ f ∷ es) last n h = absurd (omega arith)
last_end s (suc k) (e ∷ es) last n h = last_end (tail_of e) k es last (omega arith) h

-- the text of entries that have a first and a last one
pub text_by_ends : (es : List EntryIndex) (first last : EntryIndex) → Some first ≡ slice_get es 0 → Some last ≡ slice_get es (length es - 1) →
    entries_text es ≡ codes "entries " ++ (decimal
    (length es) ++ (codes " first " ++ (decimal first.index ++ (codes " tail " ++ decimal (tail_of last)))))
text_by_ends [] first last f l = cc
text_by_ends (e ∷ es) first last f l =
    let same : e ≡ first = cc in
    let before : length (e ∷ es) - 1 ≡ length es = omega arith in
    let end = last_end 0 (length es) (e ∷ es) last refl (rw before at l) in
    rw (← same, ← end) (simp append_assoc)

-- bytes in two parts, of which the first was written
pub record IsHalfWritten (old new : Option (List ℕ)) (all rest : List ℕ) : Type 0 where
  pub done : List ℕ
  pub split : all ≡ done ++ rest
  pub written : Appends old new done

-- one part more was written
pub written_on : (old middle new : Option (List ℕ)) (all rest : List ℕ) (n : ℕ) → IsHalfWritten old middle all rest → Appends middle new (take n rest) → IsHalfWritten old new all (take (length rest - n) (drop n rest))
written_on old middle new all rest n h more = subst (IsHalfWritten old new all) (sym (take_rest rest n)) (record {
  done = h.done ++ take n rest;
  split = h.split ∙ ap (λ xs. h.done ++ xs) (sym (take-append-drop n rest)) ∙ sym (append_assoc h.done (take n rest) (drop n rest));
  written = Appends-trans old middle new h.done (take n rest) h.written more;
})
