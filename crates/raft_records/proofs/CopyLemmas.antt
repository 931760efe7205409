-- On items and entries that are copied one after another.
use Rattle.raft_records.proofs.Common.{◌≡◌, ℕ, zero, suc, ◌+◌, ◌≤◌, ◌<◌, ◌^◌, List, [], ◌∷◌, ◌++◌, length, take, drop, get_or, refl, sym, ap, ◌∙◌, subst, arith, drop-cons, drop_of_length-le, add-one, append-nil, length-drop, length-take-le}
use Rattle.raft_records.proofs.Common.{entries_of_block, FileBlockHandle, ReadContent, ReadItem, IsDecodedIn, Tile, end_behind, end_of_content, Content, Item, FitTogether, FitsBehind, entry_bytes_of, content_shown, item_shown, items_shown}
use Rattle.raft_records.proofs.Common.{spans_of, spans_taken, append_assoc, ◌-◌, slice_index_or, Some, AllByRecursion, at_drop_more, EntryIndex, uncompressed}
use Rattle.raft_records.proofs.BatchLemmas.{end_push}
use Rattle.raft_records.proofs.ReadBatchLemmas.{shown_in_file}
use Rattle.raft_records.specs.declared.read_batch.ReadContent.TheVariants as contents

-- the entry of one span
abbrev pub spanned : ℕ → FileBlockHandle → ℕ × ℕ → EntryIndex
spanned i place s = record { index = i; entries = Some place; compression_type = uncompressed; entry_offset = s.0; entry_len = s.1 }

-- no index of the entries is 2^64 - 1
abbrev pub AreBounded : List EntryIndex → Type 0
AreBounded es = AllByRecursion (λ (e : EntryIndex). e.index < 2 ^ 64 - 1) es

next_entry : (i n : ℕ) (place : FileBlockHandle) (spans : List (ℕ × ℕ)) → n < length spans → entries_of_block i place (drop n spans) ≡ spanned i place (slice_index_or spans n (0, 0)) ∷ entries_of_block (i + 1) place (drop (n + 1) spans)
next_entry i n place spans low =
    let more : suc i ≡ i + 1 = omega arith in
    at_drop_more (entries_of_block i place) spans n (0, 0) low ∙ ap (λ j. spanned i place (slice_index_or spans n (0, 0)) ∷ entries_of_block j place (drop (n + 1) spans)) more

-- the run so far, and what the spans that are left give, are the whole
abbrev pub IsSoFar : ℕ → ℕ → ℕ → FileBlockHandle → List (ℕ × ℕ) → List EntryIndex → Type 0
IsSoFar first i n place spans run =
    (run ++ entries_of_block i place (drop n spans) ≡ entries_of_block first place spans)
    × AreBounded (entries_of_block i place (drop n spans))

pub one_more : (first i n : ℕ) (place : FileBlockHandle) (spans : List (ℕ × ℕ)) (run new : List EntryIndex) → n < length spans →
    IsSoFar first i n place spans run → new ≡ run ++ spanned i place (slice_index_or spans n (0, 0)) ∷ [] →
    IsSoFar first (i + 1) (n + 1) place spans new
one_more first i n place spans run new low h is = (
  ap (λ l. l ++ entries_of_block (i + 1) place (drop (n + 1) spans)) is ∙ append_assoc run (spanned i place (slice_index_or spans n (0, 0)) ∷ [])
      (entries_of_block (i + 1) place (drop (n + 1) spans)) ∙ ap (λ l. run ++ l) (sym (next_entry i n place spans low)) ∙ h.0,
  (subst AreBounded (next_entry i n place spans low) h.1).1,
)

pub next_bounded : (first i n : ℕ) (place : FileBlockHandle) (spans : List (ℕ × ℕ)) (run : List EntryIndex) → n < length spans → IsSoFar first i n place spans run → i < 2 ^ 64 - 1
next_bounded first i n place spans run low h = (subst AreBounded (next_entry i n place spans low) h.1).0

-- ---- ends

pub end_of_block : (s first : ℕ) (place : FileBlockHandle) (spans : List (ℕ × ℕ)) (n : ℕ) (d : ℕ × ℕ) → length spans ≡ suc n → end_behind s (entries_of_block first place spans) ≡ (get_or spans n d).0 + (get_or spans n d).1
end_of_block s first place [] n d e = absurd (omega (arith, e))
end_of_block s first place (x ∷ []) zero d e = refl
end_of_block s first place (x ∷ []) (suc n) d e = absurd (omega (arith, e))
end_of_block s first place (x ∷ y ∷ ys) zero d e = absurd (omega (arith, e))
end_of_block s first place (x ∷ y ∷ ys) (suc n) d e = end_of_block (x.0 + x.1) (suc first) place (y ∷ ys) n d (omega (arith, e))

pub tail_of_block : (s first : ℕ) (place : FileBlockHandle) (spans : List (ℕ × ℕ)) (n : ℕ) (d : ℕ × ℕ) → length spans ≡ suc n → Tile s (entries_of_block first place spans) → (get_or spans n d).0 + (get_or spans n d).1 < 2 ^ 32
tail_of_block s first place [] n d e t = absurd (omega (arith, e))
tail_of_block s first place (x ∷ []) zero d e t = omega (arith, t.0, t.1)
tail_of_block s first place (x ∷ []) (suc n) d e t = absurd (omega (arith, e))
tail_of_block s first place (x ∷ y ∷ ys) zero d e t = absurd (omega (arith, e))
tail_of_block s first place (x ∷ y ∷ ys) (suc n) d e t = tail_of_block (s + x.1) (suc first) place (y ∷ ys) n d (omega (arith, e)) t.2

-- the entry bytes of a content end where its spans end
end_of_shown : (s : ℕ) (place : FileBlockHandle) (content : ReadContent) (own : List (ℕ × ℕ)) (end : ℕ) → spans_taken content ≡ length own →
    ((first : ℕ) (at : FileBlockHandle) → end ≡ end_behind s (entries_of_block first at own)) →
    end ≡ end_of_content s (content_shown place content own)
end_of_shown s place (contents.Run first count) own end taken is = is first place
end_of_shown s place (contents.Command c) [] end taken is = is 0 place
end_of_shown s place (contents.Put key value) [] end taken is = is 0 place
end_of_shown s place (contents.Delete key) [] end taken is = is 0 place
end_of_shown s place (contents.Command c) (x ∷ xs) end taken is = absurd (omega (arith, taken))
end_of_shown s place (contents.Put key value) (x ∷ xs) end taken is = absurd (omega (arith, taken))
end_of_shown s place (contents.Delete key) (x ∷ xs) end taken is = absurd (omega (arith, taken))

-- the spans of a content tile its entry bytes
pub spans_tile : (s : ℕ) (place : FileBlockHandle) (content : ReadContent) (own : List (ℕ × ℕ)) → spans_taken content ≡ length own →
    FitsBehind s (content_shown place content own) → (first : ℕ) × (at : FileBlockHandle) × Tile s (entries_of_block first at own)
spans_tile s place (contents.Run first count) own taken fits = (first, place, fits.1)
spans_tile s place (contents.Command c) [] taken fits = (0, place, tt)
spans_tile s place (contents.Put key value) [] taken fits = (0, place, tt)
spans_tile s place (contents.Delete key) [] taken fits = (0, place, tt)
spans_tile s place (contents.Command c) (x ∷ xs) taken fits = absurd (omega (arith, taken))
spans_tile s place (contents.Put key value) (x ∷ xs) taken fits = absurd (omega (arith, taken))
spans_tile s place (contents.Delete key) (x ∷ xs) taken fits = absurd (omega (arith, taken))

-- ---- items one after another

-- the items so far, and what the items that are left show with the spans that are left, are the whole
pub record AreCopied (place : FileBlockHandle) (items : List ReadItem) (n : ℕ) (spans : List (ℕ × ℕ)) (batch whole : List Item) : Type 0 where
  pub all : batch ++ items_shown place (drop n items) spans ≡ whole
  pub taken : spans_of (drop n items) ≡ length spans
  pub fit : FitTogether (entry_bytes_of batch) (items_shown place (drop n items) spans)

-- what is known of the next item, which stands after s entry bytes
pub record IsNextItem (place : FileBlockHandle) (item : ReadItem) (own : List (ℕ × ℕ)) (s : ℕ) : Type 0 where
  pub taken : spans_taken item.content ≡ length own
  pub fits : FitsBehind s (content_shown place item.content own)
  pub in_file : IsDecodedIn place.id (content_shown place item.content own)

-- the item that stands for none
abbrev pub no_item : ReadItem
no_item = record { region = 0; content = contents.Run 0 0 }

pub next_item : {place : FileBlockHandle} {items : List ReadItem} {n : ℕ} {spans own : List (ℕ × ℕ)} {batch whole : List Item} {s k : ℕ} →
    AreCopied place items n spans batch whole → n < length items → own ≡ take k spans → k ≡ spans_taken (get_or items n no_item).content →
    s ≡ entry_bytes_of batch → IsNextItem place (get_or items n no_item) own s
next_item {place} {items} {n} {spans} {own} {batch} {whole} {s} {k} so low is k_is s_is =
    let item = get_or items n no_item in
    let split = drop-cons items n no_item low in
    let left = item ∷ drop (suc n) items in
    let taken : spans_of left ≡ length spans = ap spans_of (sym split) ∙ so.taken in
    let fit : FitTogether (entry_bytes_of batch) (items_shown place left spans) = subst (λ (l : List ReadItem). FitTogether (entry_bytes_of batch) (items_shown place l spans)) split so.fit in
    let front : take (spans_taken item.content) spans ≡ own = sym (is ∙ ap (λ (m : ℕ). take m spans) k_is) in
    let le : spans_taken item.content ≤ length spans = omega (arith, taken) in
    record {
      taken = sym (length-take-le (spans_taken item.content) spans le) ∙ ap length front;
      fits = subst (λ (xs : List (ℕ × ℕ)). FitsBehind s (content_shown place item.content xs)) front (subst (λ (t : ℕ). FitsBehind t (content_shown place item.content (take (spans_taken item.content) spans))) (sym s_is) fit.0);
      in_file = subst (λ (xs : List (ℕ × ℕ)). IsDecodedIn place.id (content_shown place item.content xs)) front (shown_in_file place (entry_bytes_of batch) left spans fit).0;
    }

pub copied_end : {place : FileBlockHandle} {item : ReadItem} {own : List (ℕ × ℕ)} {s t end : ℕ} {copy : Content} → IsNextItem place item own s →
    ((first : ℕ) (at : FileBlockHandle) → end ≡ end_behind s (entries_of_block first at own)) → s ≡ t → copy ≡ content_shown place item.content own →
    end ≡ end_of_content t copy
copied_end {place} {item} {own} {s} {t} {end} {copy} next ends s_is copy_is =
    end_of_shown s place item.content own end next.taken ends ∙ ap (λ (k : ℕ). end_of_content k (content_shown place item.content own)) s_is ∙ ap (end_of_content t) (sym copy_is)

pub one_more_copied : {place : FileBlockHandle} {items : List ReadItem} {n : ℕ} {spans own rest : List (ℕ × ℕ)} {batch new whole : List Item} {k : ℕ} →
    AreCopied place items n spans batch whole → n < length items → own ≡ take k spans → rest ≡ drop k spans →
    k ≡ spans_taken (get_or items n no_item).content → new ≡ batch ++ item_shown place (get_or items n no_item) own ∷ [] →
    AreCopied place items (n + 1) rest new whole
one_more_copied {place} {items} {n} {spans} {own} {rest} {batch} {new} {whole} {k = m} so low own_is rest_is m_is new_is =
    let item = get_or items n no_item in
    let k = spans_taken item.content in
    let split : drop n items ≡ item ∷ drop (n + 1) items = drop-cons items n no_item low ∙ ap (λ (i : ℕ). item ∷ drop i items) (sym (add-one n)) in
    let shown = item_shown place item (take k spans) in
    let taken : spans_of (item ∷ drop (n + 1) items) ≡ length spans = ap spans_of (sym split) ∙ so.taken in
    let fit : FitTogether (entry_bytes_of batch) (items_shown place (item ∷ drop (n + 1) items) spans) = subst (λ (l : List ReadItem). FitTogether (entry_bytes_of batch) (items_shown place l spans)) split so.fit in
    let next : AreCopied place items (n + 1) (drop k spans) (batch ++ shown ∷ []) whole = record {
      all = append_assoc batch (shown ∷ []) (items_shown place (drop (n + 1) items) (drop k spans)) ∙ ap (λ (l : List ReadItem). batch ++ items_shown place l spans) (sym split) ∙ so.all;
      taken = omega (arith, taken, length-drop k spans);
      fit = subst (λ (s : ℕ). FitTogether s (items_shown place (drop (n + 1) items) (drop k spans))) (sym (end_push 0 batch shown)) fit.1;
    } in
    let new_here : batch ++ shown ∷ [] ≡ new = sym (new_is ∙ ap (λ (xs : List (ℕ × ℕ)). batch ++ item_shown place item xs ∷ []) (own_is ∙ ap (λ (i : ℕ). take i spans) m_is)) in
    let rest_here : drop k spans ≡ rest = sym (rest_is ∙ ap (λ (i : ℕ). drop i spans) m_is) in
    subst (λ (xs : List (ℕ × ℕ)). AreCopied place items (n + 1) xs new whole) rest_here (subst (λ (ys : List Item). AreCopied place items (n + 1) (drop k spans) ys whole) new_here next)

pub all_copied : {place : FileBlockHandle} {items : List ReadItem} {n : ℕ} {spans : List (ℕ × ℕ)} {batch whole : List Item} → AreCopied place items n spans batch whole → length items ≤ n → batch ≡ whole
all_copied {place} {items} {n} {spans} {batch} so past =
    sym (append-nil batch) ∙ ap (λ (l : List ReadItem). batch ++ items_shown place l spans) (sym (drop_of_length-le items past)) ∙ so.all
