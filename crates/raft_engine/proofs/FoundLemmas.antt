-- Files that are found: where a reader stops, and what stands behind.
use Rattle.raft_engine.proofs.Common.{◌≡◌, ◌≢◌, ◌⊎◌, Vec, map, take, ℕ, zero, suc, ◌-◌, ◌<◌, Some, None, List, [], ◌∷◌, ◌++◌, length, drop, inl, inr, refl, sym, ap, ◌∙◌, subst, arith, length-append, length-drop, map-append, slice_get_within, get_or_from_slice_get, slice_get}
use Rattle.raft_engine.proofs.Common.{Global, Error, file_shown, at_last, HasNoFront, AreBatchesUpTo, IsBatchAt, Part, StandBetween, signature_of, LogFileContext, Item, IsReadable, part_signature, IsUnreadableAt, batch_none, IsDamagedAt, StopsAt, IsBrokenOff, IsNextElsewhere}
use Rattle.raft_engine.proofs.Common.{IsNextSound, batch_long, end_unreadable, one_stop, BeginsInOther, IsOfEngine, IsOfOther, IsOtherText, IsRefusedAt, IsTailRefused, engine_header, in_other, other_version, RecoveryMode}

-- what stands somewhere stands before the end
pub stands_inside : (part : Part) (i next : ℕ) (items : List Item) → IsBatchAt part i items next → i < length part.bytes
stands_inside part i next items b =
    let some = batch_long b.bytes (part_signature part) b.read (b.between, b.laid_out) in
    let n = sym (length-drop i part.bytes) ∙ ap length b.stands ∙ length-append b.bytes (drop next part.bytes) in
    omega (arith, some, n)

stop_unreadable : (part : Part) (at : ℕ) → (at ≡ length part.bytes) ⊎ IsUnreadableAt part at → IsUnreadableAt part at
stop_unreadable part at s = elim s [ inl e ↦ end_unreadable part at e | inr none ↦ none ]

-- where a reader stops is one byte
pub one_stopped : (part : Part) (at other : ℕ) → StopsAt part at → StopsAt part other → at ≡ other
one_stopped part at other s o = one_stop part 0 at other s.batches.0 o.batches.0 s.batches.1 o.batches.1 (stop_unreadable part at s.stops) (stop_unreadable part other o.stops)

-- where a reader stops a mode refuses nothing, or it is the end
pub tolerated : (mode : RecoveryMode) (part : Part) (at : ℕ) → StopsAt part at → ((at ≡ length part.bytes) ⊎ (¬ (IsRefusedAt mode part at))) → ¬ (IsTailRefused mode part)
tolerated mode part at stops none d = go none
  where
    same : d.at ≡ at
    same = one_stopped part d.at at d.stops stops

    go : (at ≡ length part.bytes) ⊎ (¬ (IsRefusedAt mode part at)) → ⊥
    go (inl ends) = let less = d.before_end in omega (arith, same, ends, less)
    go (inr not) = not (subst (IsRefusedAt mode part) same d.refused)

-- ---- damage

-- from where reading stops on nothing stands that can be read
pub nothing_stands : (part : Part) (at : ℕ) → IsNextSound part at None → IsNextElsewhere part at None → ¬ (IsDamagedAt part at)
nothing_stands part at none_sound none_elsewhere d =
    elim d.batches.2 [
      | inl sound ↦ none_sound d.batches.0 d.batches.1 sound
      | inr elsewhere ↦ none_elsewhere d.batches.0 d.batches.1 elsewhere
    ]

pub sound_stands : (part : Part) (at i : ℕ) → ¬ (IsBrokenOff part at) → IsNextSound part at (Some i) → IsDamagedAt part at
sound_stands part at i whole first = record { whole = whole; batches = (i, first.0, inl first.1) }

pub elsewhere_stands : (part : Part) (at : ℕ) (found : ℕ × ℕ) → ¬ (IsBrokenOff part at) → IsNextElsewhere part at (Some found) → IsDamagedAt part at
elsewhere_stands part at found whole first = record { whole = whole; batches = (found.0, first.0.0, inr first.0.1) }

-- ---- the last file

pub one_last : {A : Type 0} (xs ys : List A) (x y : A) → xs ++ x ∷ [] ≡ ys ++ y ∷ [] → x ≡ y
one_last [] [] x y e = cc
one_last [] (b ∷ ys) x y e = absurd (omega (arith, ap length e, length-append (b ∷ ys) (y ∷ [])))
one_last (a ∷ xs) [] x y e = absurd (omega (arith, ap length e, length-append (a ∷ xs) (x ∷ [])))
one_last (a ∷ xs) (b ∷ ys) x y e = one_last xs ys x y cc

-- shown files by the last of them
pub last_shown : (items xs : List (ℕ × Vec ℕ Global)) (last : ℕ × Vec ℕ Global) → xs ≡ items → Some last ≡ slice_get xs (length xs - 1)
    → map file_shown items ≡ map file_shown (take (length items - 1) items) ++ file_shown last ∷ []
last_shown items xs last same e =
    let there : slice_get items (length items - 1) ≡ Some last = subst (λ (l : List (ℕ × Vec ℕ Global)). slice_get l (length l - 1) ≡ Some last) same (sym e) in
    let lt : length items - 1 < length items = slice_get_within items (length items - 1) last there in
    let split : items ≡ take (length items - 1) items ++ last ∷ [] = at_last items (length items - 1) last (omega (arith, lt))
    ∙ ap (λ x. take (length items - 1) items ++ x ∷ []) (get_or_from_slice_get items (length items - 1) last last there) in
    ap (map file_shown) split ∙ map-append file_shown (take (length items - 1) items) (last ∷ [])

-- ---- files that begin in the other version

-- where a reader stops behind the first byte, a batch can be read at that one
pub not_at_first : (part : Part) (at : ℕ) → AreBatchesUpTo part at → at ≢ 0 → ¬ (IsOfOther part)
not_at_first part at batches far o = go batches.0 batches.1
  where
    go : (bs : List (List Item)) → StandBetween part 0 at bs → ⊥
    go [] e = far (sym e)
    go (b ∷ bs) s = batch_none part 0 b s.0 o.unreadable s.1

-- where a reader stops, at the first byte of no other beginning
pub not_other : (part : Part) (at : ℕ) → AreBatchesUpTo part at → (at ≡ 0 → ¬ (BeginsInOther part ⊎ IsOfEngine part)) → ¬ (IsOfOther part)
not_other part zero batches none o = none refl o.begins
not_other part (suc at) batches none o = not_at_first part (suc at) batches (λ e. absurd (omega (arith, e))) o

-- what a refusal says stands there
pub begins_as : (part : Part) (e : Error) → IsOtherText part e → BeginsInOther part ⊎ IsOfEngine part
begins_as part e (inl other) = inl other.0
begins_as part e (inr engine) = inr engine.0

-- a part that begins otherwise has bytes
pub begins_some : (part : Part) → BeginsInOther part ⊎ IsOfEngine part → 0 < length part.bytes
begins_some part (inl b) = stands_inside (in_other part) 0 b.1 b.0 b.2
begins_some part (inr e) = let n = ap length e.1 ∙ length-append engine_header e.0 in omega (arith, n)

-- a file that ends with its batches is not of the other version: it is empty, or begins with a batch
pub whole_not_other : (part : Part) (at : ℕ) → AreBatchesUpTo part at → at ≡ length part.bytes → ¬ (IsOfOther part)
whole_not_other part at batches ends o = go batches.0 batches.1
  where
    go : (bs : List (List Item)) → StandBetween part 0 at bs → ⊥
    go [] e = let inside = begins_some part o.begins in absurd (omega (arith, e, ends, inside))
    go (b ∷ bs) s = batch_none part 0 b s.0 o.unreadable s.1

-- where no batch of the other version can be read, the part doesn't begin with one
pub other_none : (part : Part) (context : LogFileContext) (bytes : List ℕ) → context ≡ record { id = part.id; version = other_version part.version } → bytes ≡ part.bytes
    → HasNoFront (λ xs. IsReadable xs (signature_of context)) (drop 0 bytes) → ¬ (BeginsInOther part)
other_none part context bytes is same none b =
    batch_none (in_other part) 0 b.0 b.1
    (subst (λ (f : LogFileContext). HasNoFront (λ xs. IsReadable xs (signature_of f)) (drop 0 part.bytes)) is
    (subst (λ (l : List ℕ). HasNoFront (λ xs. IsReadable xs (signature_of context)) (drop 0 l)) same none)) b.2
