-- Region marks and tables in two parts, of which the first is joined or overlaid before the second.
use Rattle.raft_contexts.proofs.Common.{map_none, ◌≡◌, ◌+◌, ◌⊎◌, ℕ, false, nat_eq, List, [], ◌∷◌, length, arith, find, together, together-empty, AreSlots, front-or, live-front, LogQueue, live_in_all, Option, Some, None, refl, sym, ap}
use Rattle.raft_contexts.proofs.Common.{subst, ◌∙◌, inl, inr, nat_cmp, eq_by_cmp, nat_cmp_total, IsDistinct, keys_of, option_map, Mark, Marks, Table, Tables, AreTablesLeft, implied_mark, implied_marks, Map, once-distinct, same, by_id}
use Rattle.raft_contexts.proofs.Common.{get_own, get_other, get_left, get_gone, none_some}
use Rattle.std.specs.FinMap as finite
use Rattle.raft_contexts.proofs.ImpliedMarkLemmas.{get_implied}

-- each key is one of the first part, or of the second
abbrev pub AreParts : {V : Type 0} → Map V → Map V → Map V → Type 0
AreParts a b all = (r : ℕ) → ((finite.get a r ≡ None) × (finite.get all r ≡ finite.get b r)) ⊎ ((finite.get b r ≡ None) × (finite.get all r ≡ finite.get a r))

-- what some region marks have, all have
abbrev pub AreAmong : Marks → Marks → Type 0
AreAmong a all = (r : ℕ) (m : Mark) → finite.get a r ≡ Some m → finite.get all r ≡ Some m

pub in_first : {V : Type 0} (a b all : Map V) → AreParts a b all → (r : ℕ) (x : V) → finite.get a r ≡ Some x → (finite.get b r ≡ None) × (finite.get all r ≡ finite.get a r)
in_first a b all parts r x e = elim (parts r) [ inl p ↦ absurd (none_some (sym p.0 ∙ e)) | inr p ↦ p ]

pub parts_among : (a b all : Marks) → AreParts a b all → AreAmong a all
parts_among a b all parts r m e = (in_first a b all parts r m e).1 ∙ e

-- ---- one entry in front of others

abbrev pub one : {V : Type 0} → ℕ → V → Map V
one id x = finite.insert finite.empty id x

module _ {V : Type 0} (id : ℕ) (x : V) where
  pub one_own : finite.get (one id x) id ≡ Some x
  one_own = get_own finite.empty id x

  pub one_other : (r : ℕ) → eq_by_cmp nat_cmp r id ≡ false → finite.get (one id x) r ≡ None
  one_other r f = get_other finite.empty id r x f ∙ finite.get-empty nat_cmp r

  one_parts : (m : Map V) → finite.get m id ≡ None → AreParts (one id x) m (finite.insert m id x)
  one_parts m none r = elim (by_id r id) [ inl p ↦ rw p (inr (none, get_own m id x ∙ sym one_own)) | inr f ↦ inl (one_other r f, get_other m id r x f) ]

  pub entry_parts : (rest es : List (ℕ × V)) → rest ≡ (id, x) ∷ es → IsDistinct nat_eq (keys_of rest) → AreParts (one id x) (finite.from_entries es) (finite.from_entries rest)
  entry_parts rest es is once = subst (λ (l : List (ℕ × V)). AreParts (one id x) (finite.from_entries es) (finite.from_entries l)) (sym is)
      (one_parts (finite.from_entries es) (finite.get-from_entries nat_cmp_total es id ∙ (once-distinct ((id, x) ∷ es) (subst (λ l. IsDistinct nat_eq (keys_of l)) is once)).0))

  pub once_behind : (rest es : List (ℕ × V)) → rest ≡ (id, x) ∷ es → IsDistinct nat_eq (keys_of rest) → IsDistinct nat_eq (keys_of es)
  unfolding IsDistinct
  once_behind rest es is once = (subst (λ l. IsDistinct nat_eq (keys_of l)) is once).1

  -- the others are what is left where it is taken away
  pub parts_left : (m all : Map V) → AreParts (one id x) m all → m ≡ finite.remove all id
  parts_left m all parts = same _ _ (λ r. elim (by_id r id) [
    | inl p ↦ rw p ((in_first (one id x) m all parts id x one_own).0 ∙ sym (get_gone all id))
    | inr f ↦ elim (parts r) [ inl q ↦ sym (get_left all id r f ∙ q.1) | inr q ↦ q.0 ∙ sym (get_left all id r f ∙ q.1 ∙ one_other r f) ]
  ])

pub one_left : (left : Tables) (id : ℕ) (m : Mark) → AreTablesLeft (one id m) left (finite.remove left id)
one_left left id m = record {
  gone = λ r x e. elim (by_id r id) [ inl p ↦ rw p (get_gone left id) | inr f ↦ absurd (none_some (sym (one_other id m r f) ∙ e)) ];
  others = λ r e. elim (by_id r id) [ inl p ↦ absurd (none_some (sym e ∙ ap (finite.get (one id m)) p ∙ one_own id m)) | inr f ↦ get_left left id r f ];
}

-- ---- tables in two parts, under the region marks that they imply

pub implied_one : (id : ℕ) (t : Table) → implied_marks (one id t) ≡ one id (implied_mark t)
implied_one id t = same _ _ (λ r. get_implied (one id t) r ∙ elim (by_id r id) [
  | inl p ↦ rw p (ap (option_map implied_mark) (one_own id t) ∙ sym (one_own id (implied_mark t)))
  | inr f ↦ ap (option_map implied_mark) (one_other id t r f) ∙ sym (one_other id (implied_mark t) r f)
])

module _ (a b all : Tables) (parts : AreParts a b all) where
  implied_none : (t : Tables) (r : ℕ) → finite.get t r ≡ None → finite.get (implied_marks t) r ≡ None
  implied_none t r e = get_implied t r ∙ ap (option_map implied_mark) e

  not_implied : (r : ℕ) → finite.get (implied_marks a) r ≡ None → finite.get a r ≡ None
  not_implied r e = map_none implied_mark (finite.get a r) (sym (get_implied a r) ∙ e)

  pub implied_parts : AreParts (implied_marks a) (implied_marks b) (implied_marks all)
  implied_parts r = elim (parts r) [
    | inl p ↦ inl (implied_none a r p.0, get_implied all r ∙ ap (option_map implied_mark) p.1 ∙ sym (get_implied b r))
    | inr p ↦ inr (implied_none b r p.0, get_implied all r ∙ ap (option_map implied_mark) p.1 ∙ sym (get_implied a r))
  ]

  -- the tables of the first part are there
  pub own_there : (r : ℕ) (m : Mark) → finite.get (implied_marks a) r ≡ Some m → finite.get all r ≡ finite.get a r
  own_there r m e = elim (parts r) [ inl p ↦ absurd (none_some (sym (implied_none a r p.0) ∙ e)) | inr p ↦ p.1 ]

  pub implied_left : AreTablesLeft (implied_marks a) all b
  implied_left = record {
    gone = λ r m e. elim (parts r) [ inl p ↦ absurd (none_some (sym (implied_none a r p.0) ∙ e)) | inr p ↦ p.0 ];
    others = λ r e. elim (parts r) [ inl p ↦ sym p.1 | inr p ↦ p.0 ∙ sym (p.1 ∙ not_implied r e) ];
  }

-- ---- tables that are taken out part by part

-- those of some region marks, all but the rest, are gone, and the others are as they were
pub record AreTaken (newer left : Tables) (marks rest : Marks) : Type 0 where
  pub gone : (r : ℕ) (m : Mark) → finite.get marks r ≡ Some m → finite.get rest r ≡ None → finite.get left r ≡ None
  pub others : (r : ℕ) → finite.get marks r ≡ None → (finite.get rest r ≡ None) × (finite.get left r ≡ finite.get newer r)
  pub held : (r : ℕ) (m : Mark) → finite.get rest r ≡ Some m → finite.get left r ≡ finite.get newer r

pub taken_none : (newer : Tables) (marks : Marks) → AreTaken newer newer marks marks
taken_none newer marks = record { gone = λ r m e f. absurd (none_some (sym f ∙ e)); others = λ r e. (e, refl); held = λ r m e. refl }

pub taken_step : (newer left after : Tables) (marks a b all : Marks) → AreParts a b all → AreTaken newer left marks all → AreTablesLeft a left after → AreTaken newer after marks b
taken_step newer left after marks a b all parts at l = record {
  gone = λ r m e f. gone r m e f (finite.get a r) refl;
  others = λ r e. let h = at.others r e in elim (parts r) [ inl p ↦ (sym p.1 ∙ h.0, l.others r p.0 ∙ h.1) | inr p ↦ (p.0, l.others r (sym p.1 ∙ h.0) ∙ h.1) ];
  held = λ r m e. elim (parts r) [ inl p ↦ l.others r p.0 ∙ at.held r m (p.1 ∙ e) | inr p ↦ absurd (none_some (sym p.0 ∙ e)) ];
}
  where
    gone : (r : ℕ) (m : Mark) → finite.get marks r ≡ Some m → finite.get b r ≡ None → (o : Option Mark) → finite.get a r ≡ o → finite.get after r ≡ None
    gone r m e f (Some y) is = l.gone r y is
    gone r m e f None is = l.others r is ∙ at.gone r m e (elim (parts r) [ inl p ↦ p.1 ∙ f | inr p ↦ p.1 ∙ is ])

pub all_taken : (newer left : Tables) (marks rest : Marks) → AreTaken newer left marks rest → ((r : ℕ) → finite.get rest r ≡ None) → AreTablesLeft marks newer left
all_taken newer left marks rest at none = record { gone = λ r m e. at.gone r m e (none r); others = λ r e. (at.others r e).1 }

pub none_of : {V : Type 0} (es : List (ℕ × V)) → es ≡ [] → (r : ℕ) → finite.get (finite.from_entries {R = nat_cmp} es) r ≡ None
none_of es e r = finite.get-from_entries nat_cmp_total es r ∙ ap (find nat_cmp r) e

pub none_together : {V : Type 0} (ms : List (Map V)) → length ms ≡ 0 → (r : ℕ) → finite.get (together ms) r ≡ None
none_together [] e r = ap (λ x. finite.get x r) (together-empty [] refl) ∙ finite.get-empty nat_cmp r
none_together (m ∷ ms) e r = absurd (omega (arith, e))

pub no_slots_implied : (ts : List Tables) → length ts ≡ 0 → (r : ℕ) → finite.get (implied_marks (together ts)) r ≡ None
no_slots_implied ts e r = get_implied (together ts) r ∙ ap (option_map implied_mark) (none_together ts e r)

-- ---- one slot in front of others

pub slot_parts : {V : Type 0} (rest ms : List (Map V)) (m : Map V) (k : ℕ) → rest ≡ m ∷ ms → AreSlots k rest → AreParts m (together ms) (together rest)
slot_parts {V} rest ms m k is s = subst (λ (l : List (Map V)). AreParts m (together ms) (together l)) (sym is) (front-or k m ms (subst (AreSlots k) is s))

pub slot_live : (rest ts : List Tables) (t : Tables) (k : ℕ) → rest ≡ t ∷ ts → AreSlots k rest → (q : LogQueue) → live_in_all q (together rest) ≡ live_in_all q t + live_in_all q (together ts)
slot_live rest ts t k is s q = ap (λ l. live_in_all q (together l)) is ∙ live-front q k t ts (subst (AreSlots k) is s)

-- ---- the tables of a slot, one after another

abbrev pub tables_of : List (ℕ × Table) → Tables
tables_of es = finite.from_entries es

-- each table stands under its own region
abbrev pub AreOwn : Tables → Type 0
AreOwn tables = (id : ℕ) (t : Table) → finite.get tables id ≡ Some t → t.region_id ≡ id

module _ (rest es : List (ℕ × Table)) (id : ℕ) (t : Table) (is : rest ≡ (id, t) ∷ es) (once : IsDistinct nat_eq (keys_of rest)) where
  parts : AreParts (one id t) (tables_of es) (tables_of rest)
  parts = entry_parts id t rest es is once

  pub table_parts : AreParts (one id (implied_mark t)) (implied_marks (tables_of es)) (implied_marks (tables_of rest))
  table_parts = subst (λ (m : Marks). AreParts m (implied_marks (tables_of es)) (implied_marks (tables_of rest))) (implied_one id t) (implied_parts (one id t) (tables_of es) (tables_of rest) parts)

  pub table_first : Some t ≡ finite.get (tables_of rest) id
  table_first = sym ((in_first (one id t) (tables_of es) (tables_of rest) parts id t (one_own id t)).1 ∙ one_own id t)

  pub tables_behind : tables_of es ≡ finite.remove (tables_of rest) id
  tables_behind = parts_left id t (tables_of es) (tables_of rest) parts

  pub table_own : (newer : Tables) (marks : Marks) → AreTaken newer (tables_of rest) marks (implied_marks (tables_of rest)) → AreOwn newer → t.region_id ≡ id
  table_own newer marks at own = own id t (sym (at.held id (implied_mark t) (get_implied (tables_of rest) id ∙ ap (option_map implied_mark) (sym table_first))) ∙ sym table_first)

pub none_implied : (es : List (ℕ × Table)) → es ≡ [] → (r : ℕ) → finite.get (implied_marks (tables_of es)) r ≡ None
none_implied es e r = get_implied (tables_of es) r ∙ ap (option_map implied_mark) (none_of es e r)
