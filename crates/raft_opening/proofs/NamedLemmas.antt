-- Damaged batches by where they begin, and by name.
use Rattle.raft_opening.proofs.Common.{◌≡◌, inl, inr, ℕ, zero, suc, ◌+◌, ◌<◌, ◌≤◌, List, [], ◌∷◌, ◌++◌, Contains, refl, sym, ◌∙◌, subst, arith, slice_index, AllByRecursion, AllZip, IsStrictlyIncreasing, IsCorruption, FileId, LogQueue, Version, Part, NumberedBytes, whole_file, batch_inside}
use Rattle.raft_opening.proofs.Common.{AreRisingFrom, AreUnsoundIn, IsUnsoundAt, AreDamagedBatches, IsDamagedBatch, DamagedBatch, offsets, damaged_entries_text, one_last, AreNamed, AreDamagedLast}

-- their offsets
named_offsets : (id : FileId) (begins : List ℕ) (batches : List DamagedBatch) → AreNamed id begins batches → offsets batches ≡ begins
named_offsets id [] [] n = refl
named_offsets id [] (b ∷ batches) n = absurd n
named_offsets id (x ∷ begins) [] n = absurd n
named_offsets id (x ∷ begins) (b ∷ batches) n =
    let first = n.0.offset in
    let rest = named_offsets id begins batches n.1 in
    λ i. first i ∷ rest i

-- numbers each of which is below the next rise
rising : (n x : ℕ) (xs : List ℕ) → n ≤ x → IsStrictlyIncreasing (x ∷ xs) → AreRisingFrom n (x ∷ xs)
rising n x [] le h = (le, tt)
rising n x (y ∷ xs) le h = (
  le,
  rising (suc x) y xs (h 0 (omega arith))
      (λ k less. let next : suc k + 1 ≡ suc (k + 1) = omega arith in subst (λ (m : ℕ). slice_index (x ∷ y ∷ xs) (suc k) < slice_index (x ∷ y ∷ xs) m) next (h (suc k) (omega (arith, less)))),
)

all_rising : (xs : List ℕ) → IsStrictlyIncreasing xs → AreRisingFrom 0 xs
all_rising [] h = tt
all_rising (x ∷ xs) h = rising 0 x xs (omega arith) h

module _ (part : Part) (first : part.offset ≡ 0) where
  each_named : (begins : List ℕ) (batches : List DamagedBatch) → AllByRecursion (IsUnsoundAt part) begins → AreNamed part.id begins batches → AllByRecursion (IsDamagedBatch part) batches
  each_named [] [] u n = tt
  each_named [] (b ∷ batches) u n = absurd n
  each_named (x ∷ begins) [] u n = absurd n
  each_named (x ∷ begins) (b ∷ batches) u n =
      let offset = n.0.offset in (
        record {
          at = x;
          unsound = u.0;
          file = n.0.file;
          offset = omega (arith, offset, first);
          why = subst (λ (k : ℕ). IsCorruption (damaged_entries_text part.id k) b.error) (sym offset) n.0.why;
          not_memory = n.0.not_memory;
        },
        each_named begins batches u.1 n.1,
      )

  -- so they are the damaged batches of a part that begins its file
  pub damaged_named : (begins : List ℕ) (batches : List DamagedBatch) → AreUnsoundIn part begins → AreNamed part.id begins batches → AreDamagedBatches part batches
  damaged_named begins batches u n =
      let same = sym (named_offsets part.id begins batches n) in
      record {
        are = each_named begins batches u.are n;
        others = λ at next items up b. elim (u.others at next items up b (batch_inside part at items next b).1) [
          | inl sound ↦ inl sound
          | inr among ↦ inr (let place : at ≡ part.offset + at = omega (arith, first) in subst (Contains (offsets batches)) place (subst (λ (xs : List ℕ). Contains xs at) same among))
        ];
        in_order = subst (λ (k : ℕ). AreRisingFrom k (offsets batches)) (sym first) (subst (AreRisingFrom 0) same (all_rising begins u.in_order));
      }

-- ---- of a queue

no_last : (closed : List NumberedBytes) (last : NumberedBytes) → [] ≡ closed ++ last ∷ [] → ⊥
no_last [] last e = absurd cc
no_last (c ∷ closed) last e = absurd cc

module _ (queue : LogQueue) (version : Version) where
  pub damaged_last : (files closed : List NumberedBytes) (last : NumberedBytes) (batches : List DamagedBatch) → files ≡ closed ++ last ∷ [] → AreDamagedBatches (whole_file queue version last) batches → AreDamagedLast queue version files batches
  damaged_last files closed last batches split d = (
    λ none. absurd (no_last closed last (sym none ∙ split)),
    λ others other e. subst (λ (f : NumberedBytes). AreDamagedBatches (whole_file queue version f) batches) (one_last closed others last other (sym split ∙ e)) d,
  )

  pub none_damaged : (batches : List DamagedBatch) → batches ≡ [] → AreDamagedLast queue version [] batches
  none_damaged batches none = (λ _. none, λ closed last e. absurd (no_last closed last e))

-- ---- one more

pub named_more : {X Y : Type 0} (R : X → Y → Type 0) (xs : List X) (ys : List Y) (x : X) (y : Y) → AllZip R xs ys → R x y → AllZip R (xs ++ x ∷ []) (ys ++ y ∷ [])
named_more R [] [] x y h r = (r, tt)
named_more R [] (b ∷ ys) x y h r = absurd h
named_more R (a ∷ xs) [] x y h r = absurd h
named_more R (a ∷ xs) (b ∷ ys) x y h r = (h.0, named_more R xs ys x y h.1 r)
