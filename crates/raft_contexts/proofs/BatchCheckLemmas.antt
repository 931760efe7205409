-- Batches that are tested before they are taken in.
use Rattle.raft_contexts.proofs.Common.{◌≡◌, true, false, ◌<◌, ◌≤◌, ◌+◌, ℕ, List, [], ◌∷◌, drop, length, map, get_or, Option, Some, None, refl, sym, ap, ◌∙◌, arith, IsTrue, AllByRecursion, AllWithin, HoldsAt, All-from_recursion}
use Rattle.raft_contexts.proofs.Common.{recursion_from_All, option_and_then, option_map, option_or, FileBlockHandle, FileId, EntryIndex, no_entry, IsConsecutive, AtomicGroupStatus, status_byte, status_of, first_marker, marker_byte}
use Rattle.raft_contexts.proofs.Common.{IsGroupMarkerRead, Item, item_of, content_of, LogItem, IsPlaceInFile, content_shown, items_shown, ReadItem, one_byte, marker_is, IsInFile, AreInFile, HaveStatus, ArePlacesInFile, HaveNoMarker, Bool}
use Rattle.raft_contexts.proofs.Common.{MatchBool, add-one, drop-cons, Rewrite, Begin, Middle, End}

or_or : (m n o : Option (ℕ × AtomicGroupStatus)) → option_or (option_or m n) o ≡ option_or m (option_or n o)
or_or None n o = refl
or_or (Some m) n o = refl

pub or_none : (m : Option (ℕ × AtomicGroupStatus)) → option_or m (first_marker []) ≡ m
unfolding first_marker
or_none None = refl
or_none (Some m) = refl

-- a group marker that was read has the byte of a status
read_status : (item : Item) (read : Option (ℕ × AtomicGroupStatus)) → IsGroupMarkerRead item read → (byte : ℕ) → marker_byte item.content ≡ Some byte → byte ≤ 2
read_status item None h = λ byte m. let e : Some byte ≡ None = sym m ∙ h in absurd cc
read_status item (Some read) h = λ byte m. let same : status_byte read.1 ≡ byte = one_byte (sym h.1 ∙ m) in omega (arith, same, few read.1)
  where
    few : (s : AtomicGroupStatus) → status_byte s ≤ 2
    few Begin = omega arith
    few Middle = omega arith
    few End = omega arith

-- the elements from an index on begin with the one there
pub next_item : {X : Type 0} (xs : List X) (i : ℕ) (x : X) → i < length xs → x ≡ get_or xs i x → drop i xs ≡ x ∷ drop (i + 1) xs
next_item xs i x low is = rw add-one (drop-cons xs i x low) ∙ ap (λ z. z ∷ drop (i + 1) xs) (sym is)

-- what is known of items whose first are tested, beside the marker so far
abbrev pub IsTested : List Item → List Item → Option (ℕ × AtomicGroupStatus) → Type 0
IsTested all rest marker =
    (HaveStatus Rewrite rest → HaveStatus Rewrite all) × (HaveStatus Rewrite all → HaveStatus Rewrite rest)
    × (option_or marker (first_marker rest) ≡ first_marker all)

-- what is known behind one more item
pub one_more : (all rest : List Item) (item : Item) (marker found : Option (ℕ × AtomicGroupStatus))
    → IsTested all (item ∷ rest) marker → IsGroupMarkerRead item found → IsTested all rest (option_or marker found)
unfolding first_marker
one_more all rest item marker found h read = (
  λ r. h.0 (read_status item found read, r),
  λ r. (h.1 r).1,
  or_or marker found (first_marker rest) ∙ ap (λ f. option_or marker (option_or f (first_marker rest))) (sym (marker_is item found read)) ∙ h.2,
)

-- what holds of each element holds of each of their images, and the other way round
each_image : {X Y : Type 0} (P : Y → Type 0) (f : X → Y) (xs : List X) → (AllByRecursion (λ x. P (f x)) xs → AllByRecursion P (map f xs)) × (AllByRecursion P (map f xs) → AllByRecursion (λ x. P (f x)) xs)
each_image P f [] = (λ h. tt, λ h. tt)
each_image P f (x ∷ xs) = let rest = each_image P f xs in (λ h. (h.0, rest.0 h.1), λ h. (h.0, rest.1 h.1))

-- what the test of each item says of all
pub all_in_file : (file : FileId) (items : List LogItem) (all : Bool)
    → MatchBool all (AllWithin (λ (i : LogItem). IsInFile file (content_of i.content)) items 0 (length items)) ((k : ℕ) × (k < length items) × HoldsAt (λ (i : LogItem). IsInFile file (content_of i.content) → ⊥) items k)
    → MatchBool all (AreInFile file (map item_of items)) (AreInFile file (map item_of items) → ⊥)
all_in_file file items true h = (each_image (λ (i : Item). IsInFile file i.content) item_of items).0 (recursion_from_All (λ (i : LogItem). IsInFile file (content_of i.content)) items (λ k d low. h k d (omega arith) low))
all_in_file file [] false h = absurd (omega (arith, h.1))
all_in_file file (x ∷ xs) false h =
    λ each. h.2 x (All-from_recursion (λ (i : LogItem). IsInFile file (content_of i.content)) (x ∷ xs) ((each_image (λ (i : Item). IsInFile file i.content) item_of (x ∷ xs)).1 each) h.0 x h.1)

-- what the test of each place says of consecutive entries
pub in_file_if_placed : (file : FileId) (es : List EntryIndex) (placed : Bool)
    → MatchBool placed (AllWithin (λ (e : EntryIndex). IsPlaceInFile file e.entries) es 0 (length es)) ((k : ℕ) × (k < length es) × HoldsAt (λ (e : EntryIndex). IsPlaceInFile file e.entries → ⊥) es k)
    → IsConsecutive es → MatchBool placed (IsConsecutive es × ArePlacesInFile file es) (IsConsecutive es × ArePlacesInFile file es → ⊥)
in_file_if_placed file es true h consecutive =
    (consecutive, recursion_from_All (λ (e : EntryIndex). IsPlaceInFile file e.entries) es (λ k d low. h k d (omega arith) low))
in_file_if_placed file es false h consecutive =
    λ both. h.2 no_entry (All-from_recursion (λ (e : EntryIndex). IsPlaceInFile file e.entries) es both.1 h.0 no_entry h.1)

-- items without a group marker have none with a wrong status
pub status_of_none : (items : List Item) → HaveNoMarker items → HaveStatus Rewrite items
status_of_none [] h = tt
status_of_none (item ∷ items) h = (λ byte m. let e : Some byte ≡ None = sym m ∙ h.0 in absurd cc, status_of_none items h.1)

-- and no first one
pub first_of_none : (items : List Item) → HaveNoMarker items → first_marker items ≡ None
unfolding first_marker
first_of_none [] h = refl
first_of_none (item ∷ items) h = ap (λ (byte : Option ℕ). option_or (option_map (λ status. (item.raft_group_id, status)) (option_and_then status_of byte)) (first_marker items)) h.0 ∙ first_of_none items h.1

-- what is shown of an item as it was read is no group marker
abbrev pub IsNoMarker : ReadItem → Type 0
IsNoMarker item = (place : FileBlockHandle) (spans : List (ℕ × ℕ)) → marker_byte (content_shown place item.content spans) ≡ None

-- so for all items
none_shown : (items : List ReadItem) → AllByRecursion IsNoMarker items → (place : FileBlockHandle) (spans : List (ℕ × ℕ)) → HaveNoMarker (items_shown place items spans)
none_shown [] h place spans = tt
none_shown (item ∷ items) h place spans = (h.0 place _, none_shown items h.1 place _)

-- what the test of each item says of all
pub none_marks : (items : List ReadItem) (all : Bool)
    → MatchBool all (AllWithin IsNoMarker items 0 (length items)) ((k : ℕ) × (k < length items) × HoldsAt (λ (i : ReadItem). Unit {0}) items k)
    → IsTrue all → (place : FileBlockHandle) (spans : List (ℕ × ℕ)) → HaveNoMarker (items_shown place items spans)
none_marks items true h is = none_shown items (recursion_from_All IsNoMarker items (λ k d low. h k d (omega arith) low))
none_marks items false h is = let no : false ≡ true = is in absurd cc
