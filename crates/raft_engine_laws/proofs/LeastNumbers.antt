-- The least file of a table is at or below those of its first entry and of its pairs.
use Rattle.raft_engine_laws.proofs.Common.{◌≡◌, ℕ, ◌≤◌, Bool, true, false, cond, List, [], ◌∷◌, Option, Some, None, refl, sym, ap, subst, ◌∙◌, arith, filter, map, min, nat_le, nat_cmp, eq_by_cmp, slice_cmp, find, LogQueue, Append, Rewrite, first_entry_seq, is_same, placed_in}
use Rattle.raft_engine_laws.proofs.Common.{Stored, lesser, least, seqs_in, least_seq, least_of, at_most_group_seq, Table, some_is, AreFrom, NeedsNoneBelow}
use Rattle.std.specs.FinMap as finite

-- a least number, if there is one, is at or below this one
IsLeastAt : Option ℕ → ℕ → Type 0
IsLeastAt o n = (m : ℕ) × (o ≡ Some m) × (m ≤ n)

first_least : (n : ℕ) (k : Option ℕ) → IsLeastAt (lesser (Some n) k) n
unfolding IsLeastAt
first_least n None = (n, refl, omega arith)
first_least n (Some m) = (min n m, refl, omega arith)

later_least : (o k : Option ℕ) (n : ℕ) → IsLeastAt k n → IsLeastAt (lesser o k) n
unfolding IsLeastAt
later_least None k n h = h
later_least (Some a) None n h = absurd (let e = h.1 in cc)
later_least (Some a) (Some b) n h = (min a b, refl, (let e : b ≡ h.0 = some_is h.1 in let l = h.2 in omega (arith, e, l)))

lowered_least : (group : Option (ℕ × ℕ)) (k : Option ℕ) (n : ℕ) → IsLeastAt k n → IsLeastAt (at_most_group_seq group k) n
unfolding IsLeastAt
lowered_least None k n h = h
lowered_least (Some group) None n h = absurd (let e = h.1 in cc)
lowered_least (Some group) (Some a) n h = go (nat_le a group.1)
  where
    low : a ≤ n
    low = let e : a ≡ h.0 = some_is h.1 in let l = h.2 in omega (arith, e, l)

    go : (b : Bool) → (m : ℕ) × (Some (cond b (min group.0 a) a) ≡ Some m) × (m ≤ n)
    go true = (min group.0 a, refl, (let l = low in omega (arith, l)))
    go false = (a, refl, low)

-- the numbers of the files of pairs in a queue
abbrev seqs_of : LogQueue → List (List ℕ × Stored) → List ℕ
seqs_of q l = map (λ (e : List ℕ × Stored). e.1.file.seq) (filter (λ (e : List ℕ × Stored). is_same q e.1.file.queue) l)

-- the least file of a table's pairs is at or below that of each
pair_least : (q : LogQueue) (key : List ℕ) (s : Stored) (es : List (List ℕ × Stored)) → find (slice_cmp nat_cmp) key es ≡ Some s → s.file.queue ≡ q
    → IsLeastAt (least (seqs_of q es)) s.file.seq
pair_least q key s [] h is = absurd cc
pair_least q key s (e ∷ es) h is = go (eq_by_cmp (slice_cmp nat_cmp) key e.0) h (pair_least q key s es)
  where
    same_queue : (p : LogQueue) → p ≡ q → is_same q p ≡ true
    same_queue Append e = subst (λ (l : LogQueue). is_same l Append ≡ true) e refl
    same_queue Rewrite e = subst (λ (l : LogQueue). is_same l Rewrite ≡ true) e refl

    here : e.1 ≡ s → IsLeastAt (least (seqs_of q (e ∷ es))) s.file.seq
    here same =
        subst (λ b. IsLeastAt (least (map (λ (e : List ℕ × Stored). e.1.file.seq) (cond b (e ∷ filter (λ (e : List ℕ × Stored). is_same q e.1.file.queue) es) (filter (λ (e : List ℕ × Stored). is_same q e.1.file.queue) es)))) s.file.seq)
        (sym (same_queue e.1.file.queue (ap (λ (x : Stored). x.file.queue) same ∙ is)))
        (subst (λ (x : Stored). IsLeastAt (lesser (Some e.1.file.seq) (least (seqs_of q es))) x.file.seq) same (first_least e.1.file.seq (least (seqs_of q es))))

    there : (b : Bool) → IsLeastAt (least (seqs_of q es)) s.file.seq →
        IsLeastAt (least (map (λ (e : List ℕ × Stored). e.1.file.seq)
        (cond b (e ∷ filter (λ (e : List ℕ × Stored). is_same q e.1.file.queue) es) (filter (λ (e : List ℕ × Stored). is_same q e.1.file.queue) es))))
        s.file.seq
    there true h = later_least (Some e.1.file.seq) (least (seqs_of q es)) s.file.seq h
    there false h = h

    go : (b : Bool) → cond b (Some e.1) (find (slice_cmp nat_cmp) key es) ≡ Some s →
        (find (slice_cmp nat_cmp) key es ≡ Some s → s.file.queue ≡ q → IsLeastAt (least (seqs_of q es)) s.file.seq) →
        IsLeastAt (least (seqs_of q (e ∷ es))) s.file.seq
    go true h rest = here (some_is h)
    go false h rest = there (is_same q e.1.file.queue) (rest h is)

first_of : (o k : Option ℕ) (m : ℕ) → o ≡ Some m → IsLeastAt (lesser o k) m
first_of o k m e = subst (λ o. IsLeastAt (lesser o k) m) (sym e) (first_least m k)

-- a number at or below a table's least file is at or below that of its first entry, and of each of its pairs
of_queue : (q : LogQueue) (t : Table) (n : ℕ) → IsLeastAt (least_seq q t) n → IsLeastAt (least_of q t) n
of_queue Append t n h = h
of_queue Rewrite t n h = lowered_least t.atomic_group (least_seq Rewrite t) n h

at_least : (n m : ℕ) (o : Option ℕ) → ((seq : ℕ) → o ≡ Some seq → n ≤ seq) → IsLeastAt o m → n ≤ m
unfolding IsLeastAt
at_least n m o least h = let k : n ≤ h.0 = least h.0 h.1 in let l = h.2 in omega (arith, k, l)

pub needs_none : (q : LogQueue) (t : Table) (n : ℕ) → ((seq : ℕ) → least_of q t ≡ Some seq → n ≤ seq) → (((m : ℕ) → first_entry_seq q t.entries ≡ Some m → n ≤ m) → AreFrom n (placed_in q t.entries)) → NeedsNoneBelow q n t
needs_none q t n low entries = record {
  entries = entries (λ m e. at_least n m (least_of q t) low (of_queue q t m (first_of (first_entry_seq q t.entries) (least (seqs_in q t.keys)) m e)));
  pairs = λ key s e is. at_least n s.file.seq (least_of q t) low
      (of_queue q t s.file.seq (later_least (first_entry_seq q t.entries) (least (seqs_in q t.keys)) s.file.seq
      (pair_least q key s (finite.entries t.keys) (sym (finite.get-entries t.keys key) ∙ e) is)));
}
