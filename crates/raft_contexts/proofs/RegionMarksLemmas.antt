-- The slots of `RegionMarks` against the one map of them.
use Rattle.raft_contexts.proofs.Common.{◌≡◌, ◌≢◌, ◌<◌, ◌≤◌, ◌+◌, ◌⊎◌, ℕ, List, [], ◌∷◌, length, map, drop, replicate, slice_index_or, slice_set, Option, Result, Ok, Err, refl, sym, ap, subst, ◌∙◌, arith, inl, inr, nat_cmp, eq_by_cmp}
use Rattle.raft_contexts.proofs.Common.{unwrap_or, OnOk, OnErr, AllocError, false≢true, set-get_or, Marks, fresh, Mark, slot_of, total, slot_entries, together, AreSlots, eq_self, get_own, get_other, IsChangedAt, get-together, together-at}
use Rattle.raft_contexts.proofs.Common.{slots-at, length-set, together-none, together-empty, slots-none, drop-none, together-permuted, drop-step, added, added-append, added-permuted, total-values, mark_in, with_slots, marks_shown}
use Rattle.raft_contexts.proofs.Common.{AreMarksKept, ◌==◌, true, false, None, eqb-true}
use Rattle.std.specs.FinMap as finite
use Rattle.raft_contexts.specs.declared.region_marks.RegionMarks.TheInside.{Inside}

-- ---- slots are made where there are none

same_marks : (ms : List Marks) → together (with_slots ms) ≡ together ms
same_marks [] = together-none (replicate 128 finite.empty) 128 refl ∙ sym (together-empty [] refl)
same_marks (m ∷ ms) = refl

are_slots : (ms : List Marks) → AreSlots 0 ms → AreSlots 0 (with_slots ms)
are_slots [] s = slots-none (replicate 128 finite.empty) 128 refl
are_slots (m ∷ ms) s = s

pub all_slots : (ms : List Marks) → (length ms ≡ 0) ⊎ (length ms ≡ 128) → length (with_slots ms) ≡ 128
all_slots [] h = refl
all_slots (m ∷ ms) (inl e) = absurd (omega (arith, e))
all_slots (m ∷ ms) (inr e) = e

pub kept-same : (a b : Inside) → AreMarksKept a → b.slots.items ≡ a.slots.items → AreMarksKept b
kept-same a b k e = record { slots = subst (AreSlots 0) (sym e) k.slots; all = subst (λ ms. (length ms ≡ 0) ⊎ (length ms ≡ 128)) (sym e) k.all }

-- without slots there is no region mark
pub none_without : (a : Inside) (m : Marks) (id n : ℕ) → marks_shown a ≡ m → (n ≡ 0 → length a.slots.items ≡ 0) → true ≡ (n == 0) → finite.get m id ≡ None
none_without a m id n is none e = ap (λ x. finite.get x id) (sym is ∙ go a.slots.items (none (eqb-true n 0 (sym e)))) ∙ finite.get-empty nat_cmp id
  where
    go : (ms : List Marks) → length ms ≡ 0 → together ms ≡ finite.empty
    go [] h = together-empty [] refl
    go (x ∷ ms) h = absurd (omega (arith, h))

pub full : (ms : List Marks) (n : ℕ) → (length ms ≡ 0) ⊎ (length ms ≡ 128) → (length ms ≡ 0 → n ≡ 0) → false ≡ (n == 0) → length ms ≡ 128
full ms n (inr h) none e = h
full ms n (inl h) none e = absurd (false≢true (e ∙ ap (λ k. k == 0) (none h)))

-- ---- a call of one slot

-- a slot is called behind that
pub record InSlot (a b : Inside) (mid : List Marks) (i : ℕ) (d n : Marks) : Type 0 where
  pub made : mid ≡ with_slots a.slots.items
  pub bound : i < 128
  pub lent : d ≡ slice_index_or mid i d
  pub set : b.slots.items ≡ slice_set mid i n

module _ (a b : Inside) (mid : List Marks) (i : ℕ) (d n : Marks) (kept : AreMarksKept a) (h : InSlot a b mid i d n) where
  slots : AreSlots 0 mid
  slots = subst (AreSlots 0) (sym h.made) (are_slots a.slots.items kept.slots)

  count : length mid ≡ 128
  count = ap length h.made ∙ all_slots a.slots.items kept.all

  -- the slot stays
  stays : n ≡ d → b.slots.items ≡ mid
  stays e = h.set ∙ ap (slice_set mid i) (e ∙ h.lent) ∙ set-get_or mid i d

  pub kept-room : n ≡ d → AreMarksKept b
  kept-room e = record { slots = subst (AreSlots 0) (sym (stays e)) slots; all = inr (ap length (stays e) ∙ count) }

  module _ (m : Marks) (is : marks_shown a ≡ m) where
    mid-is : together mid ≡ m
    mid-is = ap together h.made ∙ same_marks a.slots.items ∙ is

    pub same-in : n ≡ d → marks_shown b ≡ m
    same-in e = ap together (stays e) ∙ mid-is

    pub err-in : (r : Result (Unit {0}) AllocError) → OnErr r (n ≡ d) → OnErr r (marks_shown b ≡ m)
    err-in (Ok x) e = tt
    err-in (Err x) e = same-in e

  module _ (id : ℕ) (at : i ≡ slot_of id) where
    lent-at : d ≡ slice_index_or mid (slot_of id) d
    lent-at = h.lent ∙ ap (λ j. slice_index_or mid j d) at

    set-at : b.slots.items ≡ slice_set mid (slot_of id) n
    set-at = h.set ∙ ap (λ j. slice_set mid j n) at

    fits : slot_of id < length mid
    fits = omega (arith, count, h.bound, at)

    pub kept-in : IsChangedAt id d n → AreMarksKept b
    kept-in one = record {
      slots = subst (AreSlots 0) (sym set-at) (slots-at mid id d n slots fits (subst (λ x. IsChangedAt id x n) lent-at one));
      all = inr (ap length set-at ∙ length-set mid (slot_of id) n ∙ count);
    }

    module _ (m : Marks) (is : marks_shown a ≡ m) where
      was : mark_in m id ≡ mark_in d id
      was = ap (λ (o : Option Mark). unwrap_or o fresh) (ap (λ x. finite.get x id) (sym (mid-is m is)) ∙ get-together mid id d slots fits ∙ ap (λ x. finite.get x id) (sym lent-at))

      inserted : (x : Mark) → n ≡ finite.insert d id x → marks_shown b ≡ finite.insert m id x
      inserted x e =
          ap together set-at
          ∙ together-at mid id d n (finite.insert (together mid) id x) slots fits
          (subst (λ y. IsChangedAt id y n) lent-at (λ q f. ap (λ y. finite.get y q) e ∙ get_other d id q x f))
          (λ q f. get_other (together mid) id q x f) (ap (λ y. finite.get y id) e ∙ get_own d id x ∙ sym (get_own (together mid) id x))
          ∙ ap (λ y. finite.insert y id x) (mid-is m is)

      pub ok-in : (r : Result (Unit {0}) AllocError) (f : Mark → Mark) → OnOk r (n ≡ finite.insert d id (f (mark_in d id))) → OnOk r (marks_shown b ≡ finite.insert m id (f (mark_in m id)))
      ok-in (Ok x) f e = inserted _ e ∙ ap (λ y. finite.insert m id (f y)) (sym was)
      ok-in (Err x) f e = tt

-- a mark is put in, or nothing is
pub one_put : (r : Result (Unit {0}) AllocError) (d n : Marks) (id : ℕ) (x : Mark) → OnOk r (n ≡ finite.insert d id x) → OnErr r (n ≡ d) → IsChangedAt id d n
one_put (Ok y) d n id x e k = λ q f. ap (λ m. finite.get m q) e ∙ get_other d id q x f
one_put (Err y) d n id x e k = λ q f. ap (λ m. finite.get m q) k

pub one_joined : (d n : Marks) (id : ℕ) → ((q : ℕ) → q ≢ id → finite.get n q ≡ finite.get d q) → IsChangedAt id d n
one_joined d n id h = λ q f. h q (λ p. false≢true (sym f ∙ ap (λ x. eq_by_cmp nat_cmp x id) p ∙ eq_self id))

-- ---- a number of each region mark, added up slot by slot

pub few_slots : (a : Inside) (ms : List Marks) → AreMarksKept a → ms ≡ a.slots.items → length ms ≤ 128
few_slots a ms kept e = elim kept.all [ inl n ↦ omega (arith, ap length e, n) | inr n ↦ omega (arith, ap length e, n) ]

module _ (f : Mark → ℕ) where
  -- one slot more
  pub counted_more : (ms : List Marks) (i k : ℕ) (slot : Marks) (count here all : ℕ) → k ≡ i + 1 → i < length ms → slot ≡ slice_index_or ms i slot →
      here ≡ total f slot → count + added f (map (λ e. e.1) (slot_entries (drop i ms))) ≡ all →
      count + here + added f (map (λ e. e.1) (slot_entries (drop k ms))) ≡ all
  counted_more ms i k slot count here all next lt is h e =
      let rest = map (λ e. e.1) (slot_entries (drop k ms)) in
      omega (arith, e, h, total-values f slot, ap (added f) (drop-step ms i k slot next lt is), added-append f (finite.values slot) rest)

  -- all slots
  pub counted_all : (a : Inside) (m : Marks) (ms : List Marks) (i count : ℕ) → AreMarksKept a → marks_shown a ≡ m → ms ≡ a.slots.items →
      length ms ≤ i → count + added f (map (λ e. e.1) (slot_entries (drop i ms))) ≡ added f (map (λ e. e.1) (slot_entries ms)) → count ≡ total f m
  counted_all a m ms i count kept is same le e =
      omega (arith, e, ap (λ es. added f (map (λ e. e.1) es)) (drop-none ms i le), added-permuted f _ _ (together-permuted ms (subst (AreSlots 0) (sym same) kept.slots)), total-values f (together ms), ap (total f) (ap together same ∙ is))
