-- Tables in slots against the one map of them.
use Rattle.raft_accessor.proofs.Common.{drop_of_length-le, Append, Rewrite, ◌≡◌, ◌≢◌, ◌<◌, ◌≤◌, ◌+◌, ◌⊎◌, ℕ, suc, zero, true, false, cond, List, [], ◌∷◌, ◌++◌, length, drop, replicate, slice_index_or, slice_set, Option, Some, None, refl}
use Rattle.raft_accessor.proofs.Common.{sym, ap, subst, ◌∙◌, arith, inl, inr, nat_cmp, is_eq, eq_by_cmp, option_or, nat_cmp_total, find, cases_lt, table_of, Table, IsRecounted, Tables, with_table, Accessor, slot_of, table_in, AreCountsOf}
use Rattle.raft_accessor.proofs.Common.{live_in_all, slot_entries, together, IsSlot, AreSlots, accessor_shown, IsAccessorKept, live}
pub use Rattle.std.proofs.lemmas.List.{length-set}
use Rattle.std.proofs.lemmas.List.{at_drop_more, get_or-set_same}
use Rattle.raft_table.proofs.MarkExact.{none_behind}
use Rattle.std.specs.FinMap as finite
use Rattle.raft_accessor.specs.declared.accessor.MemTableAccessor.TheInside.{Inside}
use Rattle.raft_accessor.proofs.LiveLemmas.{counted-with, live-none}
use Rattle.raft_accessor.proofs.MapLemmas.{same, by_id, with_own, with_other, entries-empty}

abbrev pub Map : Type 0 → Type 0
Map V = finite.FinMap nat_cmp V

pub same_slot : (i j : ℕ) → (i ≡ j) ⊎ (i ≢ j)
same_slot i j = elim (cases_lt i j) [ inl p ↦ inr (λ e. omega (arith, p, e)) | inr p ↦ elim (cases_lt j i) [ inl r ↦ inr (λ e. omega (arith, r, e)) | inr r ↦ inl (omega (arith, p, r)) ] ]

empty_slots : (V : Type 0) (k n : ℕ) → AreSlots {V = V} k (replicate n finite.empty)
empty_slots V k zero = tt
empty_slots V k (suc n) = ((λ id h. finite.get-empty nat_cmp id), empty_slots V (suc k) n)

module _ {V : Type 0} where
  pub find-both : (q : ℕ) (xs ys : List (ℕ × V)) → find nat_cmp q (xs ++ ys) ≡ option_or (find nat_cmp q xs) (find nat_cmp q ys)
  find-both q [] ys = refl
  find-both q (x ∷ xs) ys =
      elim (is_eq (nat_cmp q x.0)) as (λ b. cond b (Some x.1) (find nat_cmp q (xs ++ ys)) ≡ option_or (cond b (Some x.1) (find nat_cmp q xs)) (find nat_cmp q ys)) [
        | true ↦ refl
        | false ↦ find-both q xs ys
      ]

  -- in slots from k on no region of a lower slot is found
  pub find-later : (k : ℕ) (ms : List (Map V)) (q : ℕ) → AreSlots k ms → slot_of q < k → find nat_cmp q (slot_entries ms) ≡ None
  find-later k [] q s lt = refl
  find-later k (m ∷ ms) q s lt =
      find-both q (finite.entries m) (slot_entries ms) ∙ ap (λ o. option_or o (find nat_cmp q (slot_entries ms))) (sym (finite.get-entries m q) ∙ s.0 q (λ e. omega (arith, e, lt))) ∙ find-later (suc k) ms q s.1 (omega (arith, lt))

  -- a region is found in its own slot
  find-slots : (k : ℕ) (ms : List (Map V)) (q i : ℕ) (d : Map V) → AreSlots k ms → i < length ms → slot_of q ≡ k + i → find nat_cmp q (slot_entries ms) ≡ finite.get (slice_index_or ms i d) q
  find-slots k [] q i d s lt e = absurd (omega (arith, lt))
  find-slots k (m ∷ ms) q zero d s lt e =
      find-both q (finite.entries m) (slot_entries ms) ∙ ap (option_or (find nat_cmp q (finite.entries m))) (find-later (suc k) ms q s.1 (omega (arith, e))) ∙ none_behind _ ∙ sym (finite.get-entries m q)
  find-slots k (m ∷ ms) q (suc i) d s lt e =
      find-both q (finite.entries m) (slot_entries ms) ∙ ap (λ o. option_or o (find nat_cmp q (slot_entries ms)))
      (sym (finite.get-entries m q) ∙ s.0 q (λ p. omega (arith, e, p))) ∙ find-slots (suc k) ms q i d s.1 (omega (arith, lt)) (omega (arith, e))

  -- another slot's tables are not found where one slot is written
  find-set : (k : ℕ) (ms : List (Map V)) (q i : ℕ) (m : Map V) → AreSlots k ms → IsSlot (k + i) m → slot_of q ≢ k + i → find nat_cmp q (slot_entries (slice_set ms i m)) ≡ find nat_cmp q (slot_entries ms)
  find-set k [] q zero m s own ne = refl
  find-set k [] q (suc i) m s own ne = refl
  find-set k (n ∷ ms) q zero m s own ne =
      find-both q (finite.entries m) (slot_entries ms) ∙ ap (λ o. option_or o (find nat_cmp q (slot_entries ms))) (sym (finite.get-entries m q) ∙ own q ne ∙ sym (s.0 q (λ e. ne (omega (arith, e)))) ∙ finite.get-entries n q)
      ∙ sym (find-both q (finite.entries n) (slot_entries ms))
  find-set k (n ∷ ms) q (suc i) m s own ne =
      find-both q (finite.entries n) (slot_entries (slice_set ms i m))
      ∙ ap (option_or (find nat_cmp q (finite.entries n))) (find-set (suc k) ms q i m s.1 (λ id h. own id (λ e. h (omega (arith, e)))) (λ e. ne (omega (arith, e))))
      ∙ sym (find-both q (finite.entries n) (slot_entries ms))

  slots-set : (k : ℕ) (ms : List (Map V)) (i : ℕ) (m : Map V) → AreSlots k ms → IsSlot (k + i) m → AreSlots k (slice_set ms i m)
  slots-set k [] zero m s own = tt
  slots-set k [] (suc i) m s own = tt
  slots-set k (n ∷ ms) zero m s own = ((λ id h. own id (λ e. h (omega (arith, e)))), s.1)
  slots-set k (n ∷ ms) (suc i) m s own = (s.0, slots-set (suc k) ms i m s.1 (λ id h. own id (λ e. h (omega (arith, e)))))

  slot-at : (k : ℕ) (ms : List (Map V)) (i : ℕ) (d : Map V) → AreSlots k ms → i < length ms → IsSlot (k + i) (slice_index_or ms i d)
  slot-at k [] i d s lt = absurd (omega (arith, lt))
  slot-at k (n ∷ ms) zero d s lt = λ id h. s.0 id (λ e. h (omega (arith, e)))
  slot-at k (n ∷ ms) (suc i) d s lt = λ id h. slot-at (suc k) ms i d s.1 (omega (arith, lt)) id (λ e. h (omega (arith, e)))

  -- the values of the other regions stay
  abbrev pub IsChangedAt : ℕ → Map V → Map V → Type 0
  IsChangedAt id m n = (q : ℕ) → eq_by_cmp nat_cmp q id ≡ false → finite.get n q ≡ finite.get m q

  own-at-change : (k id : ℕ) (m n : Map V) → IsSlot k m → slot_of id ≡ k → IsChangedAt id m n → IsSlot k n
  own-at-change k id m n s e at = λ q h. elim (by_id q id) [ inl p ↦ absurd (h (ap slot_of p ∙ e)) | inr f ↦ at q f ∙ s q h ]

  pub own-at : (ms : List (Map V)) (i : ℕ) (d : Map V) → AreSlots 0 ms → i < length ms → IsSlot i (slice_index_or ms i d)
  own-at ms i d s lt = λ id h. slot-at 0 ms i d s lt id (λ e. h (omega (arith, e)))

  pub set-at : (ms : List (Map V)) (i : ℕ) (m : Map V) → AreSlots 0 ms → IsSlot i m → AreSlots 0 (slice_set ms i m)
  set-at ms i m s own = slots-set 0 ms i m s (λ id h. own id (λ e. h (omega (arith, e))))

  -- a look-up goes to one slot
  pub get-together : (ms : List (Map V)) (q : ℕ) (d : Map V) → AreSlots 0 ms → slot_of q < length ms → finite.get (together ms) q ≡ finite.get (slice_index_or ms (slot_of q) d) q
  unfolding together
  get-together ms q d s lt = finite.get-from_entries nat_cmp_total (slot_entries ms) q ∙ find-slots 0 ms q (slot_of q) d s lt (omega arith)

  pub other-slot : (ms : List (Map V)) (q i : ℕ) (m : Map V) → AreSlots 0 ms → IsSlot i m → slot_of q ≢ i → finite.get (together (slice_set ms i m)) q ≡ finite.get (together ms) q
  unfolding together
  other-slot ms q i m s own ne = finite.get-from_entries nat_cmp_total (slot_entries (slice_set ms i m)) q
      ∙ find-set 0 ms q i m s (λ id h. own id (λ e. h (omega (arith, e)))) (λ e. ne (omega (arith, e)))
      ∙ sym (finite.get-from_entries nat_cmp_total (slot_entries ms) q)

  -- one slot is changed at one region, and so is the map
  pub together-at : (ms : List (Map V)) (id : ℕ) (d n w : Map V) → AreSlots 0 ms → slot_of id < length ms →
      IsChangedAt id (slice_index_or ms (slot_of id) d) n → IsChangedAt id (together ms) w → finite.get n id ≡ finite.get w id →
      together (slice_set ms (slot_of id) n) ≡ w
  together-at ms id d n w s lt slot map at =
      let own : IsSlot (slot_of id) n = own-at-change (slot_of id) id _ n (own-at ms (slot_of id) d s lt) refl slot in
      let after : AreSlots 0 (slice_set ms (slot_of id) n) = set-at ms (slot_of id) n s own in
      let fits : length (slice_set ms (slot_of id) n) ≡ length ms = length-set ms (slot_of id) n in
      same _ _ (λ q. elim (by_id q id) [
        | inl p ↦ subst (λ q. finite.get (together (slice_set ms (slot_of id) n)) q ≡ finite.get w q) (sym p)
            (get-together (slice_set ms (slot_of id) n) id d after (omega (arith, lt, fits))
            ∙ ap (λ r. finite.get r id) (get_or-set_same ms (slot_of id) n d lt) ∙ at)
        | inr f ↦ elim (same_slot (slot_of q) (slot_of id)) [
          | inl e ↦ get-together (slice_set ms (slot_of id) n) q d after (omega (arith, lt, fits, e)) ∙ ap (λ i. finite.get (slice_index_or (slice_set ms (slot_of id) n) i d) q) e
              ∙ ap (λ r. finite.get r q) (get_or-set_same ms (slot_of id) n d lt)
              ∙ slot q f ∙ ap (λ i. finite.get (slice_index_or ms i d) q) (sym e) ∙ sym (get-together ms q d s (omega (arith, lt, e))) ∙ sym (map q f)
          | inr ne ↦ other-slot ms q (slot_of id) n s own ne ∙ sym (map q f)
        ]
      ])

  pub slots-at : (ms : List (Map V)) (id : ℕ) (d n : Map V) → AreSlots 0 ms → slot_of id < length ms → IsChangedAt id (slice_index_or ms (slot_of id) d) n → AreSlots 0 (slice_set ms (slot_of id) n)
  slots-at ms id d n s lt slot = set-at ms (slot_of id) n s (own-at-change (slot_of id) id _ n (own-at ms (slot_of id) d s lt) refl slot)

  -- ---- one slot in front of others

  get-front : (m : Map V) (ms : List (Map V)) (q : ℕ) → finite.get (together (m ∷ ms)) q ≡ option_or (finite.get m q) (finite.get (together ms) q)
  unfolding together
  get-front m ms q =
      finite.get-from_entries nat_cmp_total (slot_entries (m ∷ ms)) q ∙ find-both q (finite.entries m) (slot_entries ms)
      ∙ ap (λ o. option_or o (find nat_cmp q (slot_entries ms))) (sym (finite.get-entries m q)) ∙ ap (option_or (finite.get m q)) (sym (finite.get-from_entries nat_cmp_total (slot_entries ms) q))

  -- a region is in the first slot, or in the others
  pub front-or : (k : ℕ) (m : Map V) (ms : List (Map V)) → AreSlots k (m ∷ ms) → (q : ℕ)
      → ((finite.get m q ≡ None) × (finite.get (together (m ∷ ms)) q ≡ finite.get (together ms) q)) ⊎ ((finite.get (together ms) q ≡ None) × (finite.get (together (m ∷ ms)) q ≡ finite.get m q))
  unfolding together
  front-or k m ms s q = elim (same_slot (slot_of q) k) [
    | inl e ↦ let none = finite.get-from_entries nat_cmp_total (slot_entries ms) q ∙ find-later (suc k) ms q s.1 (omega (arith, e)) in inr (none, get-front m ms q ∙ ap (option_or (finite.get m q)) none ∙ none_behind _)
    | inr ne ↦ inl (s.0 q ne, get-front m ms q ∙ ap (λ o. option_or o (finite.get (together ms) q)) (s.0 q ne))
  ]

  -- ---- no values

  get-empty_slots : (n : ℕ) (ms : List (Map V)) (q : ℕ) → (ms ≡ replicate n finite.empty) → find nat_cmp q (slot_entries ms) ≡ None
  get-empty_slots zero ms q e = ap (λ l. find nat_cmp q (slot_entries l)) e
  get-empty_slots (suc n) ms q e =
      ap (λ l. find nat_cmp q (slot_entries l)) e ∙ find-both q (finite.entries finite.empty) (slot_entries (replicate n finite.empty))
      ∙ ap (λ o. option_or o (find nat_cmp q (slot_entries (replicate n finite.empty)))) (sym (finite.get-entries finite.empty q) ∙ finite.get-empty nat_cmp q) ∙ get-empty_slots n (replicate n finite.empty) q refl

  pub together-none : (ms : List (Map V)) (n : ℕ) → ms ≡ replicate n finite.empty → together ms ≡ finite.empty
  unfolding together
  together-none ms n e = same _ _ (λ q. finite.get-from_entries nat_cmp_total (slot_entries ms) q ∙ get-empty_slots n ms q e ∙ sym (finite.get-empty nat_cmp q))

  pub slots-none : (ms : List (Map V)) (n : ℕ) → ms ≡ replicate n finite.empty → AreSlots 0 ms
  slots-none ms n e = subst (AreSlots 0) (sym e) (empty_slots V 0 n)

  -- ---- the entries of all slots

  -- an empty slot more
  pub drop-entries : (ms : List (Map V)) (i : ℕ) (d : Map V) → i < length ms → slice_index_or ms i d ≡ finite.empty → slot_entries (drop i ms) ≡ slot_entries (drop (i + 1) ms)
  drop-entries ms i d lt e = at_drop_more slot_entries ms i d lt ∙ ap (λ es. es ++ slot_entries (drop (i + 1) ms)) (entries-empty _ e)

  pub drop-none : (ms : List (Map V)) (i : ℕ) → length ms ≤ i → slot_entries (drop i ms) ≡ []
  drop-none ms i le = ap slot_entries (drop_of_length-le ms {i = i} le)

  -- without entries there are no tables
  pub together-empty : (ms : List (Map V)) → slot_entries ms ≡ [] → together ms ≡ finite.empty
  unfolding together
  together-empty ms e = same _ _ (λ q. finite.get-from_entries nat_cmp_total (slot_entries ms) q ∙ ap (find nat_cmp q) e ∙ sym (finite.get-empty nat_cmp q))

  -- without tables each slot is empty
  pub slot-empty : (ms : List (Map V)) (i : ℕ) (d : Map V) → AreSlots 0 ms → together ms ≡ finite.empty → i < length ms → slice_index_or ms i d ≡ finite.empty
  slot-empty ms i d s e lt =
      same _ _ (λ q. elim (same_slot (slot_of q) i) [
        | inl p ↦ ap (λ j. finite.get (slice_index_or ms j d) q) (sym p) ∙ sym (get-together ms q d s (omega (arith, lt, p))) ∙ ap (λ m. finite.get m q) e
        | inr ne ↦ own-at ms i d s lt q ne ∙ sym (finite.get-empty nat_cmp q)
      ])

-- ---- one region's table

-- a change of one region in its slot is that change of the map
together-with : (ms : List Tables) (id : ℕ) (t : Option Table) (d : Tables) → AreSlots 0 ms → slot_of id < length ms → together (slice_set ms (slot_of id) (with_table (slice_index_or ms (slot_of id) d) id t)) ≡ with_table (together ms) id t
together-with ms id t d s lt = together-at ms id d _ _ s lt (λ q f. with_other _ id q t f) (λ q f. with_other _ id q t f) (with_own _ id t ∙ sym (with_own _ id t))

-- ---- the accessor

-- the table of a region stands in its slot, which was lent
pub get-shown : (a : Inside) (r : Accessor) (id i : ℕ) (d : Tables) → IsAccessorKept a → accessor_shown a ≡ r → i ≡ slot_of id → i < 128 → d ≡ slice_index_or a.slots.items i d → finite.get r.tables id ≡ finite.get d id
get-shown a r id i d kept is e lt lent =
    ap (λ (x : Accessor). finite.get x.tables id) (sym is) ∙ get-together a.slots.items id d kept.slots (omega (arith, kept.all, e, lt))
    ∙ ap (λ j. finite.get (slice_index_or a.slots.items j d) id) (sym e) ∙ ap (λ m. finite.get m id) (sym lent)

-- one region's table in its slot changed, and the counts with it
pub record IsChanged (a b : Inside) (id i : ℕ) (d : Tables) (t : Option Table) : Type 0 where
  pub at : i ≡ slot_of id
  pub bound : i < 128
  pub lent : d ≡ slice_index_or a.slots.items i d
  pub slots : b.slots.items ≡ slice_set a.slots.items i (with_table d id t)
  pub counts : IsRecounted (table_in d id) (table_of id t) a.stats b.stats

is-set : (a b : Inside) (id i : ℕ) (d : Tables) (t : Option Table) → IsChanged a b id i d t → b.slots.items ≡ slice_set a.slots.items (slot_of id) (with_table (slice_index_or a.slots.items (slot_of id) d) id t)
is-set a b id i d t ch = ch.slots ∙ ap (λ m. slice_set a.slots.items i (with_table m id t)) ch.lent ∙ ap (λ j. slice_set a.slots.items j (with_table (slice_index_or a.slots.items j d) id t)) ch.at

pub shown-changed : (a b : Inside) (r : Accessor) (id i : ℕ) (d : Tables) (t : Option Table) → IsAccessorKept a → accessor_shown a ≡ r → IsChanged a b id i d t → together b.slots.items ≡ with_table r.tables id t
shown-changed a b r id i d t kept is ch =
    ap together (is-set a b id i d t ch) ∙ together-with a.slots.items id t d kept.slots (omega (arith, kept.all, ch.at, ch.bound)) ∙ ap (λ (x : Accessor). with_table x.tables id t) is

pub kept-changed : (a b : Inside) (id i : ℕ) (d : Tables) (t : Option Table) → IsAccessorKept a → IsChanged a b id i d t → IsAccessorKept b
kept-changed a b id i d t kept ch =
    let lt : slot_of id < length a.slots.items = omega (arith, kept.all, ch.at, ch.bound) in
    let is = is-set a b id i d t ch in
    let same_table : table_in d id ≡ table_in (together a.slots.items) id = ap (table_of id) (sym (get-shown a (accessor_shown a) id i d kept refl ch.at ch.bound ch.lent)) in
    record {
      slots = subst (AreSlots 0) (sym is) (slots-at a.slots.items id d _ kept.slots lt (λ q f. with_other _ id q t f));
      all = ap length is ∙ length-set a.slots.items (slot_of id) _ ∙ kept.all;
      counted = subst (λ m. AreCountsOf m b.stats) (sym (shown-changed a b (accessor_shown a) id i d t kept refl ch))
          (counted-with (together a.slots.items) a.stats b.stats id t kept.counted
          (subst (λ x. IsRecounted x (table_of id t) a.stats b.stats) same_table ch.counts));
    }

pub kept-none : (a : Inside) → a.slots.items ≡ replicate 128 finite.empty → a.stats ≡ record { append = 0; written = 0; deleted = 0 } → IsAccessorKept a
kept-none a e z = record {
  slots = slots-none a.slots.items 128 e;
  all = ap length e;
  counted = λ q. elim q as (λ q. live q a.stats ≡ live_in_all q (together a.slots.items)) [
    | Append ↦ rw (z, together-none a.slots.items 128 e) (sym (live-none Append))
    | Rewrite ↦ rw (z, together-none a.slots.items 128 e)
        (sym (live-none Rewrite))
  ];
}
