-- Rewritten entries that an overlay drops in front of appended ones, without a step that speaks of them.
use Rattle.raft_engine_laws.proofs.Common.{◌≡◌, ℕ, ◌+◌, ◌<◌, true, cond, not, ◌||◌, [], ◌∷◌, ◌++◌, Some, refl, ap, ◌∙◌, append-nil, arith, min, nat_lt, nat_le, ◌&&◌, ◌==◌, nat_tests, EntryIndex, end_of, entries_within, overlay, rewritten_within, lesser, Run, Truncate, Table}

end_is : (e : EntryIndex) → end_of (e ∷ []) ≡ e.index + 1
unfolding end_of
end_is e = omega arith

unjoined : (i n end : ℕ) → end ≡ i + 1 → i + 1 < n → (not (n == n) || nat_lt end n) ≡ true
unjoined i n end is lt = grind (arith, nat_tests)

in_front : (i n : ℕ) → i + 1 < n → (nat_le 0 i && nat_lt i n) ≡ true
in_front i n lt = grind (arith, nat_tests)

min_self : (n : ℕ) → min n n ≡ n
min_self n = omega arith

within_is : (old : EntryIndex) (n : ℕ) → (nat_le 0 old.index && nat_lt old.index n) ≡ true → entries_within 0 (Some n) (old ∷ []) ≡ old ∷ []
unfolding entries_within
within_is old n h = rw h refl

pub comes_back : (old new : EntryIndex) (t : Table) → t.entries ≡ old ∷ [] → old.index + 1 < new.index
    → (own none : Table) → own.entries ≡ new ∷ [] → none.entries ≡ []
    → ((overlay (Run (new ∷ []) ∷ []) own t).entries ≡ new ∷ [])
    × ((overlay (Run (new ∷ []) ∷ Truncate new.index ∷ []) none t).entries ≡ old ∷ [])
comes_back old new t is lt own none has empty = (
  ap (λ l. rewritten_within 0 (Some new.index) own.entries l ++ own.entries) is ∙ ap (λ l. rewritten_within 0 (Some new.index) l (old ∷ []) ++ l) has ∙ dropped,
  ap (λ l. rewritten_within 0 (lesser (Some new.index) (Some new.index)) none.entries l ++ none.entries) is
      ∙ ap (λ l. rewritten_within 0 (lesser (Some new.index) (Some new.index)) l (old ∷ []) ++ l) empty ∙ back,
)
  where
    dropped : rewritten_within 0 (Some new.index) (new ∷ []) (old ∷ []) ++ new ∷ [] ≡ new ∷ []
    dropped = ap (λ b. cond b [] (entries_within 0 (Some new.index) (old ∷ [])) ++ new ∷ []) (unjoined old.index new.index (end_of (old ∷ [])) (end_is old) lt)

    back : entries_within 0 (Some (min new.index new.index)) (old ∷ []) ++ [] ≡ old ∷ []
    back = append-nil _ ∙ ap (λ n. entries_within 0 (Some n) (old ∷ [])) (min_self new.index) ∙ within_is old new.index (in_front old.index new.index lt)
