-- Entries of consecutive indexes, and strings cut from bytes.
use Rattle.raft_ffi.proofs.Common.{◌≡◌, ◌≢◌, ℕ, ◌+◌, ◌-◌, ◌^◌, ◌<◌, suc, List, [], ◌∷◌, ◌++◌, length, take, drop, Result, Ok, Err, OnOk, refl, sym, ap, ◌∙◌, subst, arith, AllByRecursion, append_assoc, at_drop_more, take_at}
use Rattle.raft_ffi.proofs.Common.{EntryIndex, HasStrings, IsConsecutive, IsRun, RisesFrom, entries_from, entry_with_index, sized_entries, strings_of}
use Rattle.std.proofs.Common.{append-nil, get_or}
use Rattle.std.proofs.lemmas.List.{drop_at, length-append, length-take-le, take-append-drop}
use Rattle.std.specs.List.{concat}
use Rattle.raft_records.specs.Entries.{strings_in, with_lengths}
use Rattle.raft_records.specs.Item.{entries_item}
use Rattle.raft_records.specs.ItemBatch.{entry_lengths, with_offsets_from}
use Rattle.raft_records.specs.LogBatch.{Batch, with_entries_added}

rises : (first : ℕ) (lens : List ℕ) → RisesFrom first (sized_entries first lens)
rises first [] = tt
rises first (len ∷ lens) = let e : first + 1 ≡ suc first = omega arith in rw e (refl, rises (suc first) lens)

run : (first : ℕ) (lens : List ℕ) → IsRun (sized_entries first lens)
run first [] = tt
run first (len ∷ lens) = let e : first + 1 ≡ suc first = omega arith in rw e (rises (suc first) lens)

bounded : (first : ℕ) (lens : List ℕ) → first + length lens < 2 ^ 64 → AllByRecursion (λ (e : EntryIndex). e.index < 2 ^ 64 - 1) (sized_entries first lens)
bounded first [] fits = tt
bounded first (len ∷ lens) fits = (omega (arith, fits), bounded (first + 1) lens (omega (arith, fits)))

-- the indexes have no gaps, and 2^64 - 1 isn't among them
pub consecutive : (first : ℕ) (lens : List ℕ) → first + length lens < 2 ^ 64 → IsConsecutive (sized_entries first lens)
consecutive first lens fits = record { run = run first lens; bounded = bounded first lens fits }

-- ---- lengths

-- none of them is greater than all together
pub small : (lens bytes : List ℕ) → HasStrings lens bytes → length (concat (strings_of lens bytes)) < 2 ^ 31 → AllByRecursion (λ (len : ℕ). len < 2 ^ 32) lens
small [] bytes h few = tt
small (len ∷ lens) bytes h few =
    let all = length-append (take len bytes) (concat (strings_of lens (drop len bytes))) in
    let own = length-take-le len bytes h.0 in
    (omega (arith, few, all, own), small lens (drop len bytes) h.1 (omega (arith, few, all)))

pub sum_is : (first : ℕ) (lens bytes : List ℕ) → HasStrings lens bytes → entry_lengths (sized_entries first lens) ≡ length (concat (strings_of lens bytes))
sum_is first [] bytes h = refl
sum_is first (len ∷ lens) bytes h =
    let all = length-append (take len bytes) (concat (strings_of lens (drop len bytes))) in
    let own = length-take-le len bytes h.0 in
    let rest = sum_is (first + 1) lens (drop len bytes) h.1 in
    omega (arith, all, own, rest)

-- ---- a batch with these entries

-- what is joined is cut into the same strings again
cut_again : (first : ℕ) (lens bytes : List ℕ) → HasStrings lens bytes → strings_in (sized_entries first lens) (concat (strings_of lens bytes)) ≡ strings_of lens bytes
cut_again first [] bytes h = refl
cut_again first (len ∷ lens) bytes h =
    let own = length-take-le len bytes h.0 in
    let more : List ℕ = concat (strings_of lens (drop len bytes)) in
    ap (λ (s : List ℕ). s ∷ strings_in (sized_entries (first + 1) lens) (drop len (take len bytes ++ more))) (take_at (take len bytes) more len own)
    ∙ ap (λ (ss : List (List ℕ)). take len bytes ∷ ss)
    (ap (strings_in (sized_entries (first + 1) lens)) (drop_at (take len bytes) more len own) ∙ cut_again (first + 1) lens (drop len bytes) h.1)

-- a batch sets the lengths by the strings
same_lengths : (first : ℕ) (lens : List ℕ) (strings : List (List ℕ)) → with_lengths (sized_entries first lens) strings ≡ with_lengths (entries_from first lens) strings
same_lengths first [] strings = refl
same_lengths first (len ∷ lens) [] = refl
same_lengths first (len ∷ lens) (s ∷ strings) = ap (λ (es : List EntryIndex). record (entry_with_index first) { entry_len = length s } ∷ es) (same_lengths (first + 1) lens strings)

added_same : (b : Batch) (region first : ℕ) (lens : List ℕ) (strings : List (List ℕ)) → with_entries_added b region (sized_entries first lens) strings ≡ with_entries_added b region (entries_from first lens) strings
added_same b region first [] strings = refl
added_same b region first (len ∷ lens) strings =
    ap (λ (es : List EntryIndex). record b { items = b.items ++ entries_item region (with_offsets_from (length b.entry_bytes) es) ∷ []; entry_bytes = b.entry_bytes ++ concat strings })
    (same_lengths first (len ∷ lens) strings)

pub added : (old new : Batch) (region first : ℕ) (lens bytes : List ℕ) (es : List EntryIndex) (joined : List ℕ) → HasStrings lens bytes → es ≡ sized_entries first lens → joined ≡ concat (strings_of lens bytes)
    → new ≡ with_entries_added old region es (strings_in es joined) → new ≡ with_entries_added old region (entries_from first lens) (strings_of lens bytes)
added old new region first lens bytes es joined h are all is =
    is ∙ ap (λ (es : List EntryIndex). with_entries_added old region es (strings_in es joined)) are
    ∙ ap (λ (joined : List ℕ). with_entries_added old region (sized_entries first lens) (strings_in (sized_entries first lens) joined)) all
    ∙ ap (with_entries_added old region (sized_entries first lens)) (cut_again first lens bytes h) ∙ added_same old region first lens (strings_of lens bytes)

-- ---- loops

-- these bytes are those of the first strings and behind them those of the strings that are left
pub record IsCut (lens left bytes rest : List ℕ) : Type 0 where
  pub front : List ℕ
  pub split : bytes ≡ front ++ rest
  pub whole : concat (strings_of lens bytes) ≡ front ++ concat (strings_of left rest)
  pub has : HasStrings left rest

pub none_cut : (lens bytes : List ℕ) → HasStrings lens bytes → IsCut lens lens bytes bytes
none_cut lens bytes h = record { front = []; split = refl; whole = refl; has = h }

one_cut : (lens : List ℕ) (len : ℕ) (left bytes rest : List ℕ) → IsCut lens (len ∷ left) bytes rest → IsCut lens left bytes (drop len rest)
one_cut lens len left bytes rest c = record {
  front = c.front ++ take len rest;
  split = c.split ∙ ap (λ (t : List ℕ). c.front ++ t) (sym (take-append-drop len rest)) ∙ sym (append_assoc c.front (take len rest) (drop len rest));
  whole = c.whole ∙ sym (append_assoc c.front (take len rest) (concat (strings_of left (drop len rest))));
  has = c.has.1;
}

pub next_cut : (i : ℕ) (lens bytes rest : List ℕ) (len : ℕ) (left after : List ℕ) → drop i lens ≡ len ∷ left → after ≡ drop len rest → IsCut lens (drop i lens) bytes rest → IsCut lens left bytes after
next_cut i lens bytes rest len left after more is c =
    subst (IsCut lens left bytes) (sym is) (one_cut lens len left bytes rest (subst (λ (l : List ℕ). IsCut lens l bytes rest) more c))

pub all_cut : (lens left bytes rest : List ℕ) → left ≡ [] → IsCut lens left bytes rest → take (length bytes - length rest) bytes ≡ concat (strings_of lens bytes)
all_cut lens [] bytes rest e c =
    let all = ap length c.split ∙ length-append c.front rest in
    let count : length c.front ≡ length bytes - length rest = omega (arith, all) in
    ap (take (length bytes - length rest)) c.split ∙ take_at c.front rest (length bytes - length rest) count ∙ sym (append-nil c.front) ∙ sym c.whole
all_cut lens (len ∷ left) bytes rest e c = absurd cc

next_entry : (first k : ℕ) (lens : List ℕ) → k < length lens → sized_entries (first + k) (drop k lens) ≡ record (entry_with_index (first + k)) { entry_len = get_or lens k 0 } ∷ sized_entries (first + (k + 1)) (drop (k + 1) lens)
next_entry first k lens low =
    let more : first + k + 1 ≡ first + (k + 1) = omega arith in
    at_drop_more (sized_entries (first + k)) lens k 0 low ∙ ap (λ j. record (entry_with_index (first + k)) { entry_len = get_or lens k 0 } ∷ sized_entries j (drop (k + 1) lens)) more

pub one_entry_more : (first k len : ℕ) (lens : List ℕ) (found new : List EntryIndex) → k < length lens → len ≡ get_or lens k 0 → found ++ sized_entries (first + k) (drop k lens) ≡ sized_entries first lens
    → new ≡ found ++ record (entry_with_index (first + k)) { entry_len = len } ∷ [] → new ++ sized_entries (first + (k + 1)) (drop (k + 1) lens) ≡ sized_entries first lens
one_entry_more first k len lens found new low own h is =
    let one : EntryIndex = record (entry_with_index (first + k)) { entry_len = get_or lens k 0 } in
    ap (λ l. l ++ sized_entries (first + (k + 1)) (drop (k + 1) lens)) (is ∙ ap (λ n. found ++ record (entry_with_index (first + k)) { entry_len = n } ∷ []) own)
    ∙ append_assoc found (one ∷ []) (sized_entries (first + (k + 1)) (drop (k + 1) lens))
    ∙ ap (λ l. found ++ l) (sym (next_entry first k lens low)) ∙ h

some_entries : (first : ℕ) (lens : List ℕ) → lens ≢ [] → sized_entries first lens ≢ []
some_entries first [] some e = some refl
some_entries first (len ∷ lens) some e = let h : suc (length (sized_entries (first + 1) lens)) ≡ 0 = ap length e in omega (arith, h)

pub on_some : {R E : Type 0} (r : Result R E) (first : ℕ) (lens : List ℕ) (P : Type 0) → OnOk r (sized_entries first lens ≢ [] → P) → OnOk r (lens ≢ [] → P)
on_some (Ok x) first lens P h = λ some. h (some_entries first lens some)
on_some (Err e) first lens P h = tt
