-- The fields of `RegionTables` against what contracts see of them.
use Rattle.raft_accessor.proofs.Common.{unsigned_tied, ◌≡◌, ℕ, true, false, cond, nat_eq, List, [], ◌∷◌, length, Option, Some, None, refl, sym, ap, subst, ◌∙◌, inl, inr, MutBor, nat_cmp, is_eq, nat_cmp_total, lookup, option_copied_mut}
use Rattle.raft_accessor.proofs.Common.{table_of, find, eqb-true, Table, tables_shown, AreTablesKept, Tables, with_table, table_in, nil_from_length, IfSome}
use Rattle.std.specs.FinMap as finite
use Rattle.raft_accessor.specs.declared.region_tables.RegionTables.TheInside.{Inside}
use Rattle.raft_accessor.proofs.MapLemmas.{none_some, same, by_id, not_same, self_same, with_own, with_other}

abbrev Es : Type 0
Es = List (ℕ × Table)

-- the two tests of numbers are one
pub same_test : (q k : ℕ) → is_eq (nat_cmp q k) ≡ nat_eq q k
same_test q k = unsigned_tied q k

pub found : (q : ℕ) (es : Es) → find nat_cmp q es ≡ lookup (nat_eq q) es
found q [] = refl
found q (e ∷ es) = ap (λ b. cond b (Some e.1) (find nat_cmp q es)) (same_test q e.0) ∙ ap (λ o. cond (nat_eq q e.0) (Some e.1) o) (found q es)

pub get-of : (es : Es) (q : ℕ) → finite.get (finite.from_entries {R = nat_cmp} es) q ≡ lookup (nat_eq q) es
get-of es q = finite.get-from_entries nat_cmp_total es q ∙ found q es

pub get-shown : (a : Inside) (m : Tables) (q : ℕ) → tables_shown a ≡ m → finite.get m q ≡ lookup (nat_eq q) a.tables.entries
get-shown a m q is = ap (λ m. finite.get m q) (sym is) ∙ get-of a.tables.entries q

-- one key has another value, or none, and the others have theirs
pub shown-with : (a b : Inside) (m : Tables) (k : ℕ) (t : Option Table) → tables_shown a ≡ m → ((q : ℕ) → lookup (nat_eq q) b.tables.entries ≡ cond (nat_eq k q) t (lookup (nat_eq q) a.tables.entries)) → tables_shown b ≡ with_table m k t
shown-with a b m k t is h =
    same _ _ (λ q. get-of b.tables.entries q ∙ h q ∙ elim (by_id q k) [
      | inl p ↦ subst (λ q. cond (nat_eq k q) t (lookup (nat_eq q) a.tables.entries) ≡ finite.get (with_table m k t) q) (sym p) (ap (λ b. cond b t (lookup (nat_eq k) a.tables.entries)) (self_same k) ∙ sym (with_own m k t))
      | inr f ↦ ap (λ b. cond b t (lookup (nat_eq q) a.tables.entries)) (not_same k q f) ∙ sym (get-shown a m q is) ∙ sym (with_other m k q t f)
    ])

pub kept-with : (a b : Inside) (k : ℕ) (t : Option Table) → AreTablesKept a → ((u : Table) → t ≡ Some u → u.region_id ≡ k) →
    ((q : ℕ) → lookup (nat_eq q) b.tables.entries ≡ cond (nat_eq k q) t (lookup (nat_eq q) a.tables.entries)) → AreTablesKept b
kept-with a b k t kept own h = λ q u e. elim (nat_eq k q) as (λ c. nat_eq k q ≡ c → cond c t (lookup (nat_eq q) a.tables.entries) ≡ Some u → u.region_id ≡ q) [
  | true ↦ λ c e. own u e ∙ eqb-true k q c
  | false ↦ λ c e. kept q u e
] refl (sym (h q) ∙ e)

-- the same look-ups show the same tables
pub shown-same : (a b : Inside) (m : Tables) → tables_shown a ≡ m → ((q : ℕ) → lookup (nat_eq q) b.tables.entries ≡ lookup (nat_eq q) a.tables.entries) → tables_shown b ≡ m
shown-same a b m is h = same _ _ (λ q. get-of b.tables.entries q ∙ h q ∙ sym (get-shown a m q is))

pub kept-same : (a b : Inside) → AreTablesKept a → ((q : ℕ) → lookup (nat_eq q) b.tables.entries ≡ lookup (nat_eq q) a.tables.entries) → AreTablesKept b
kept-same a b kept h = λ q t e. kept q t (sym (h q) ∙ e)

-- what stands behind what a look-up for writing found
pub lent : (a : Inside) (m : Tables) (k : ℕ) (o : Option (MutBor Table)) (t : MutBor Table) (d : Table) → tables_shown a ≡ m → option_copied_mut o ≡ lookup (nat_eq k) a.tables.entries → o ≡ Some t → d ≡ t.now → finite.get m k ≡ Some d
lent a m k o t d is v e d_is = get-shown a m k is ∙ sym v ∙ ap option_copied_mut e ∙ ap Some (sym d_is)

pub absent : (a : Inside) (m : Tables) (k : ℕ) (o : Option (MutBor Table)) → tables_shown a ≡ m → option_copied_mut o ≡ lookup (nat_eq k) a.tables.entries → o ≡ None → finite.get m k ≡ None
absent a m k o is v e = get-shown a m k is ∙ sym v ∙ ap option_copied_mut e

-- the table of a region, or an empty one in its place, has the region's id
pub region-in : (a : Inside) (m : Tables) (k : ℕ) → AreTablesKept a → tables_shown a ≡ m → (table_in m k).region_id ≡ k
region-in a m k kept is = elim (finite.get m k) as (λ o. finite.get m k ≡ o → (table_of k o).region_id ≡ k) [ None ↦ λ e. refl | Some t ↦ λ e. kept k t (sym (get-shown a m k is) ∙ e) ] refl

-- what a look-up found has that region
pub own-of : (a : Inside) (k : ℕ) → AreTablesKept a → (o : Option Table) → o ≡ lookup (nat_eq k) a.tables.entries → IfSome o (λ t. t.region_id ≡ k)
own-of a k kept None e = tt
own-of a k kept (Some t) e = kept k t (sym e)

nothing : (es : Es) → ((q : ℕ) → lookup (nat_eq q) es ≡ None) → es ≡ []
nothing [] h = refl
nothing (e ∷ es) h = absurd (none_some (sym (h e.0) ∙ ap (λ b. cond b (Some e.1) (lookup (nat_eq e.0) es)) (self_same e.0)))

-- no tables are shown exactly where there are none
pub empty-if : (a : Inside) (m : Tables) → tables_shown a ≡ m → length a.tables.entries ≡ 0 → m ≡ finite.empty
empty-if a m is l = same _ _ (λ q. get-shown a m q is ∙ ap (lookup (nat_eq q)) (nil_from_length _ l) ∙ sym (finite.get-empty nat_cmp q))

pub if-empty : (a : Inside) (m : Tables) → tables_shown a ≡ m → m ≡ finite.empty → length a.tables.entries ≡ 0
if-empty a m is e = ap length (nothing a.tables.entries (λ q. sym (get-shown a m q is) ∙ ap (λ n. finite.get n q) e ∙ finite.get-empty nat_cmp q))
