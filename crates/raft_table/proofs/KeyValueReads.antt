-- What walks over the stored pairs find, as contracts see it.
use Rattle.raft_table.proofs.Common.{◌≡◌, ℕ, Bool, ◌+◌, ◌<◌, true, false, cond, List, reverse, [], ◌∷◌, ◌++◌, length, filter, map, Option, refl, sym, ap, ◌∙◌, arith, inl, inr, Global, Vec, nat_cmp, nil_from_length, slice_cmp, IsOrdered}
use Rattle.raft_table.proofs.Common.{values, false≢true, cases_lt, values_of, LogQueue, StoredValue, is_same, count_in, Keys, Stored, pair_count, seqs_in, is_up_to, pairs_up_to, key_value, pairs_over, with_pairs, keys_shown, stored_of}
use Rattle.raft_table.proofs.Common.{IsOrderedAndCounted, is_between, is_forward, IsDivided, pairs_between, not, ◌&&◌, Some, None, reverse-append, map-append, filter-append, and-true, Ordering, is_le, is_lt, ordering_reverse}
use Rattle.raft_table.proofs.Common.{nat_list_cmp_total, le_lt_trans, is_from, is_below, VisitsUntilFalse}
use Rattle.std.proofs.Common.{append_assoc}
use Rattle.raft_table.specs.declared.memtable.key_values.KeyValues.TheInside.{Inside}
use Rattle.raft_table.proofs.KeyValueCounts.{length-cond, key_cmp, entries-map_of}
use Rattle.std.specs.declared.cmp.Ordering.TheVariants.{Less, Equal, Greater}
use Rattle.raft_table.proofs.MarkWords.{filter-none}
use Rattle.raft_table.proofs.RunLemmas.{filter-filter}
use Rattle.std.specs.FinMap as finite

module _ {F : Type 0} (calls : F → List ℕ → List ℕ → Bool → F → Type 0) where
  pub visit-stops : (f next : F) (key value : List ℕ) (rest : List (List ℕ × List ℕ)) (answer : Bool) → calls f key value answer next → answer ≡ false → VisitsUntilFalse calls f ((key, value) ∷ rest) next
  visit-stops f next key value rest answer called e = (answer, next, called, rw e refl)

  -- after one that answers true the others are visited
  pub visit-goes : (f next last : F) (key value : List ℕ) (rest : List (List ℕ × List ℕ)) (answer : Bool) → calls f key value answer next →
      answer ≡ true → VisitsUntilFalse calls next rest last → VisitsUntilFalse calls f ((key, value) ∷ rest) last
  visit-goes f next last key value rest answer called e visits = (answer, next, called, rw e visits)

module _ {E P : Type 0} (show : E → P) (t : E → Bool) where
  abbrev chosen : List E → List P
  chosen es = map show (filter t es)

  pub chosen-yes : (e : E) (es : List E) → t e ≡ true → map show (filter t (e ∷ es)) ≡ show e ∷ map show (filter t es)
  chosen-yes e es p = rw p refl

  pub chosen-push : (e : E) (es : List E) → chosen (es ++ e ∷ []) ≡ chosen es ++ chosen (e ∷ [])
  chosen-push e es = ap (map show) (filter-append t es (e ∷ [])) ∙ map-append show (filter t es) (filter t (e ∷ []))

  -- the last first, if it is chosen
  pub reverse-chosen-yes : (e : E) (es : List E) → t e ≡ true → reverse (map show (filter t (es ++ e ∷ []))) ≡ show e ∷ reverse (map show (filter t es))
  reverse-chosen-yes e es p = ap reverse (chosen-push e es ∙ ap (λ r. chosen es ++ r) (chosen-yes e [] p)) ∙ reverse-append (chosen es) (show e ∷ [])

  pub reverse-chosen-no : (e : E) (es : List E) → t e ≡ false → reverse (map show (filter t (es ++ e ∷ []))) ≡ reverse (map show (filter t es))
  reverse-chosen-no e es p = ap reverse (chosen-push e es) ∙ reverse-append (chosen es) (chosen (e ∷ [])) ∙ rw p refl

pub filter-same : {X : Type 0} (p q : X → Bool) (xs : List X) → ((x : X) → p x ≡ q x) → filter p xs ≡ filter q xs
filter-same p q xs same = λ i. filter (λ x. same x i) xs

-- below a bound, as a range tests it
not_past : (r s : Ordering) → s ≡ ordering_reverse r → not (is_le r) ≡ is_lt s
not_past Less s e = rw e refl
not_past Equal s e = rw e refl
not_past Greater s e = rw e refl

pub below-range : (end key : List ℕ) → not (is_le (slice_cmp nat_cmp end key)) ≡ is_below (Some end) key
below-range end key = not_past _ _ (nat_list_cmp_total.antisymm key end)

-- where the bounds are not in order no key is between them
pub between-backwards : (start end : Option (List ℕ)) (key : List ℕ) → is_forward start end ≡ false → is_between start end key ≡ false
between-backwards None end key e = absurd (false≢true (sym e))
between-backwards (Some s) None key e = absurd (false≢true (sym e))
between-backwards (Some s) (Some t) key e = go (is_le (slice_cmp nat_cmp s key)) (slice_cmp nat_cmp key t) refl refl
  where
    go : (b : Bool) (r : Ordering) → is_le (slice_cmp nat_cmp s key) ≡ b → slice_cmp nat_cmp key t ≡ r → (b && is_lt r) ≡ false
    go false r p q = refl
    go true Equal p q = refl
    go true Greater p q = refl
    go true Less p q = absurd (false≢true (sym e ∙ ap is_le (le_lt_trans nat_list_cmp_total s key t p q)))

-- a bound that is sought need not be tested
from-divided : (bound sought tested : Option (List ℕ)) (key : List ℕ) → IsDivided bound sought tested → (is_from sought key && is_from tested key) ≡ is_from bound key
from-divided bound sought tested key (inl h) = rw (h.0, h.1) (and-true (is_from bound key))
from-divided bound sought tested key (inr h) = rw (h.0, h.1) refl

below-divided : (bound sought tested : Option (List ℕ)) (key : List ℕ) → IsDivided bound sought tested → (is_below sought key && is_below tested key) ≡ is_below bound key
below-divided bound sought tested key (inl h) = rw (h.0, h.1) (and-true (is_below bound key))
below-divided bound sought tested key (inr h) = rw (h.0, h.1) refl

swapped_and : (a b c d x y : Bool) → (a && b) ≡ x → (c && d) ≡ y → ((a && c) && (b && d)) ≡ (x && y)
swapped_and true b true d x y p q = λ i. p i && q i
swapped_and true true false d x y p q = λ i. p i && q i
swapped_and true false false d x y p q = λ i. p i && q i
swapped_and false b c d x y p q = λ i. p i && y

-- what is sought and then tested is what lies between the bounds
pub sought-tested : {X : Type 0} (key : X → List ℕ) (s s' s'' e e' e'' : Option (List ℕ)) (es : List X) → IsDivided s s' s'' → IsDivided e e' e'' →
    filter (λ x. is_between s'' e'' (key x)) (filter (λ x. is_between s' e' (key x)) es) ≡ filter (λ x. is_between s e (key x)) es
sought-tested key s s' s'' e e' e'' es p q =
    filter-filter _ _ _ (λ x. swapped_and (is_from s' (key x)) (is_from s'' (key x)) (is_below e' (key x)) (is_below e'' (key x)) _ _ (from-divided s s' s'' (key x) p) (below-divided e e' e'' (key x) q)) es

pub none-between : {X : Type 0} (key : X → List ℕ) (s e : Option (List ℕ)) (es : List X) → is_forward s e ≡ false → filter (λ x. is_between s e (key x)) es ≡ []
none-between key s e es backwards = filter-none _ (λ x. between-backwards s e (key x) backwards) es

abbrev pub Entry : Type 0
Entry = Vec ℕ Global × StoredValue

abbrev pub pair_of : Entry → List ℕ × Stored
pair_of e = (e.0.items, stored_of e.1)

abbrev pub bytes_of : Entry → List ℕ × List ℕ
bytes_of e = (e.0.items, e.1.value.items)

pub entries-shown : (a : Inside) → IsOrdered key_cmp a.pairs → finite.entries (keys_shown a) ≡ map pair_of a.pairs.entries
entries-shown a ordered = entries-map_of (λ (k : Vec ℕ Global). k.items) stored_of a.pairs.entries ordered

files-list : (q : LogQueue) (es : List Entry) → map (λ e. e.1.file.seq) (filter (λ e. is_same q e.1.file.queue) (map pair_of es)) ≡ map (λ s. s.file.seq) (filter (λ s. is_same q s.file.queue) (values_of es))
files-list q [] = refl
files-list q (e ∷ es) =
    elim (is_same q e.1.file.queue) as (λ b. map (λ e. e.1.file.seq) (cond b (pair_of e ∷ filter (λ e. is_same q e.1.file.queue) (map pair_of es)) (filter (λ e. is_same q e.1.file.queue) (map pair_of es)))
    ≡ map (λ s. s.file.seq) (cond b (e.1 ∷ filter (λ s. is_same q s.file.queue) (values_of es)) (filter (λ s. is_same q s.file.queue) (values_of es)))) [
      | true ↦ ap (λ r. e.1.file.seq ∷ r) (files-list q es)
      | false ↦ files-list q es
    ]

pub files-shown : (a : Inside) (keys : Keys) (q : LogQueue) → IsOrderedAndCounted a → keys_shown a ≡ keys → seqs_in q keys ≡ map (λ s. s.file.seq) (filter (λ s. is_same q s.file.queue) (values a.pairs))
files-shown a keys q sound is =
    ap (λ es. map (λ e. e.1.file.seq) (filter (λ e. is_same q e.1.file.queue) es)) (sym (ap finite.entries is) ∙ entries-shown a sound.ordered) ∙ files-list q a.pairs.entries

-- the chosen keys and values, over the stored pairs
chosen-list : (t : List ℕ × Stored → Bool) (es : List Entry) → map key_value (filter t (map pair_of es)) ≡ map bytes_of (filter (λ e. t (pair_of e)) es)
chosen-list t [] = refl
chosen-list t (e ∷ es) =
    elim (t (pair_of e)) as (λ b. map key_value (cond b (pair_of e ∷ filter t (map pair_of es)) (filter t (map pair_of es))) ≡ map bytes_of (cond b (e ∷ filter (λ e. t (pair_of e)) es) (filter (λ e. t (pair_of e)) es))) [
      | true ↦ ap (λ r. bytes_of e ∷ r) (chosen-list t es)
      | false ↦ chosen-list t es
    ]

chosen-shown : (a : Inside) (keys : Keys) (t : List ℕ × Stored → Bool) → IsOrderedAndCounted a → keys_shown a ≡ keys → map key_value (filter t (finite.entries keys)) ≡ map bytes_of (filter (λ e. t (pair_of e)) a.pairs.entries)
chosen-shown a keys t sound is =
    ap (λ es. map key_value (filter t es)) (sym (ap finite.entries is) ∙ entries-shown a sound.ordered) ∙ chosen-list t a.pairs.entries

-- the keys and values up to a gate, over the stored pairs
pub fetched-shown : (a : Inside) (keys : Keys) (q : LogQueue) (gate : Option ℕ) → IsOrderedAndCounted a → keys_shown a ≡ keys → pairs_up_to q gate keys ≡ map bytes_of (filter (λ e. is_up_to q gate e.1.file) a.pairs.entries)
fetched-shown a keys q gate sound is = chosen-shown a keys (λ e. is_up_to q gate e.1.file) sound is

pub scanned-backwards : (keys : Keys) (s e : Option (List ℕ)) (reversed : Bool) → is_forward s e ≡ false → pairs_between s e reversed keys ≡ []
scanned-backwards keys s e reversed backwards =
    let none : map key_value (filter (λ p. is_between s e p.0) (finite.entries keys)) ≡ [] = ap (map key_value) (none-between (λ (p : List ℕ × Stored). p.0) s e (finite.entries keys) backwards) in
    elim reversed as (λ r. (cond r (reverse (map key_value (filter (λ p. is_between s e p.0) (finite.entries keys)))) (map key_value (filter (λ p. is_between s e p.0) (finite.entries keys)))) ≡ []) [ true ↦ ap reverse none | false ↦ none ]

-- what is scanned, over the stored pairs that are sought and then tested
pub scanned-shown : (a : Inside) (keys : Keys) (s s' s'' e e' e'' : Option (List ℕ)) → IsOrderedAndCounted a → keys_shown a ≡ keys → IsDivided s s' s'' → IsDivided e e' e'' →
    map bytes_of (filter (λ p. is_between s'' e'' p.0.items) (filter (λ p. is_between s' e' p.0.items) a.pairs.entries)) ≡ pairs_between s e false keys
scanned-shown a keys s s' s'' e e' e'' sound is p q =
    ap (map bytes_of) (sought-tested (λ (p : Entry). p.0.items) s s' s'' e e' e'' a.pairs.entries p q) ∙ sym (chosen-shown a keys (λ p. is_between s e p.0) sound is)

pub first-shown : (a b : Inside) (keys : Keys) (k : Vec ℕ Global) (s : StoredValue) → IsOrderedAndCounted a → keys_shown a ≡ keys →
    IsOrdered key_cmp b.pairs → a.pairs.entries ≡ (k, s) ∷ b.pairs.entries → finite.entries keys ≡ (k.items, stored_of s) ∷ finite.entries
    (keys_shown b)
first-shown a b keys k s sound is ordered first =
    sym (ap finite.entries is) ∙ entries-shown a sound.ordered ∙ ap (map pair_of) first ∙ ap (λ es. (k.items, stored_of s) ∷ es) (sym (entries-shown b ordered))

-- the first pair counts where its file is
pub pair_count-first : (q : LogQueue) (keys rest : Keys) (key : List ℕ) (s : Stored) → finite.entries keys ≡ (key, s) ∷ finite.entries rest → pair_count q rest + count_in q s.file.queue 1 ≡ pair_count q keys
pair_count-first q keys rest key s first =
    rw first (omega (arith, length-cond (is_same q s.file.queue) (key, s) (filter (λ e. is_same q e.1.file.queue) (finite.entries rest))))

pub entries-empty : finite.entries (finite.empty {K = List ℕ} {X = Stored} {R = slice_cmp nat_cmp}) ≡ []
entries-empty = nil_from_length _ (sym (finite.len-entries _) ∙ finite.len-empty (slice_cmp nat_cmp) Stored)

-- no pairs put over some leave these
pub pairs_over-empty : (newer older : Keys) → newer ≡ finite.empty → pairs_over newer older ≡ older
pairs_over-empty newer older e = ap (with_pairs older) (ap finite.entries e ∙ entries-empty)

-- the first of the newer pairs are put over the older ones, and the rest is left
pub record IsFrontPut (newer older keys left : Keys) : Type 0 where
  pub front : List (List ℕ × Stored)
  pub split : finite.entries newer ≡ front ++ finite.entries left
  pub put : keys ≡ with_pairs older front

with_one_more : (keys : Keys) (es : List (List ℕ × Stored)) (e : List ℕ × Stored) → with_pairs keys (es ++ e ∷ []) ≡ finite.insert (with_pairs keys es) e.0 e.1
with_one_more keys [] e = refl
with_one_more keys (x ∷ es) e = with_one_more (finite.insert keys x.0 x.1) es e

pub one_more_put : (newer older keys left new rest : Keys) (e : List ℕ × Stored) → IsFrontPut newer older keys left → finite.entries left ≡ e ∷ finite.entries rest → new ≡ finite.insert keys e.0 e.1 → IsFrontPut newer older new rest
one_more_put newer older keys left new rest e p first put = record {
  front = p.front ++ e ∷ [];
  split = p.split ∙ ap (λ l. p.front ++ l) first ∙ sym (append_assoc p.front (e ∷ []) (finite.entries rest));
  put = put ∙ ap (λ k. finite.insert k e.0 e.1) p.put ∙ sym (with_one_more older p.front e);
}

pub len-first : (keys rest : Keys) (e : List ℕ × Stored) → finite.entries keys ≡ e ∷ finite.entries rest → finite.len rest < finite.len keys
len-first keys rest e first = omega (arith, finite.len-entries keys, finite.len-entries rest, ap length first)

-- where no first pair is, there is none
pub none_left : (n : ℕ) → (false ≡ true → 0 < n) × (0 < n → false ≡ true) → n ≡ 0
none_left n h = elim (cases_lt 0 n) [ inl p ↦ absurd (false≢true (h.1 p)) | inr e ↦ omega arith ]
