-- How many pairs have their file in a queue, after a pair is put or taken away.
use Rattle.raft_table.proofs.Common.{◌≡◌, ℕ, ◌+◌, ◌≤◌, Bool, true, false, cond, not, List, [], ◌∷◌, length, filter, Option, Some, None, refl, sym, ap, ◌∙◌, arith, Ordering, eq_by_cmp, is_eq, option_map, IsTotalOrder, alike_right}
use Rattle.raft_table.proofs.Common.{eq_by_cmp_equiv, nat_list_cmp_total, FinMap, IsAntisymmetric, find, put, is_sorted, same_map, nat_cmp-IsAntisymmetric, slice_cmp-IsAntisymmetric, where_key, by_order, is_sorted-where_key, find-where_key}
use Rattle.raft_table.proofs.Common.{FileId, LogQueue, is_same, Stored, Keys, file_at, with_moved, moved_to, pair_count, file_weight, Append, Rewrite, length-map, nat_cmp, slice_cmp, IsStrictlySortedBy, insert_entry, is_at, keys_of, lookup}
use Rattle.raft_table.proofs.Common.{map, remove_entry, set_value, subst, IsTrue, ◌↔◌, Global, Vec, IsOrdered, StoredValue, keys_shown, stored_of, IsOrderedAndCounted}
use lib.Dec.{T}
use Rattle.std.specs.declared.cmp.Ordering.TheVariants.{Less, Equal, Greater}
use Rattle.raft_table.proofs.Shown.{find-below, where_key-below, below_all-less, below_all-equal, first_of_both, second_of_both, equal, shown, by_key, is_sorted-shown, find-shown, shown-insert_entry, shown-remove_entry, shown-set_value}
use Rattle.raft_table.specs.declared.memtable.key_values.KeyValues.TheInside.{Inside}
use Rattle.std.specs.FinMap as finite

-- what the value found counts by the test
abbrev weight : {V : Type 0} → (V → Bool) → Option V → ℕ
weight p None = 0
weight p (Some v) = cond (p v) 1 0

pub length-cond : {X : Type 0} (b : Bool) (x : X) (xs : List X) → length (cond b (x ∷ xs) xs) ≡ cond b 1 0 + length xs
length-cond true x xs = omega arith
length-cond false x xs = omega arith

module _ {A V : Type 0} {R : A → A → Ordering} (o : IsTotalOrder R) (p : V → Bool) where
  abbrev count : List (A × V) → ℕ
  count es = length (filter (λ e. p e.1) es)

  count-cons : (e : A × V) (es : List (A × V)) → count (e ∷ es) ≡ cond (p e.1) 1 0 + count es
  count-cons e es = length-cond (p e.1) e (filter (λ e. p e.1) es)

  count-put : (k : A) (v : V) (es : List (A × V)) → T (is_sorted R es) → count (put R k v es) + weight p (find R k es) ≡ count es + cond (p v) 1 0
  count-put k v [] h = omega (arith, count-cons (k, v) [])
  count-put k v (e ∷ es) h =
      elim (R k e.0) as (λ r. R k e.0 ≡ r → count (by_order r ((k, v) ∷ e ∷ es) ((e.0, v) ∷ es) (e ∷ put R k v es)) + weight p (cond (is_eq r) (Some e.1) (find R k es)) ≡ count (e ∷ es) + cond (p v) 1 0) [
        | Less ↦ λ t. rw (find-below o k es (below_all-less o k e.0 es t (first_of_both _ _ h))) (omega (arith, count-cons (k, v) (e ∷ es)))
        | Equal ↦ λ t. omega (arith, count-cons (e.0, v) es, count-cons e es)
        | Greater ↦ λ t. omega (arith, count-cons e (put R k v es), count-cons e es, count-put k v es (second_of_both _ _ h))
      ] refl

  count-without : (k : A) (es : List (A × V)) → T (is_sorted R es) → count (where_key R (λ x. not (eq_by_cmp R k x)) es) + weight p (find R k es) ≡ count es
  count-without k [] h = refl
  count-without k (e ∷ es) h =
      let rest = where_key R (λ x. not (eq_by_cmp R k x)) es in
      elim (is_eq (R k e.0)) as (λ b. is_eq (R k e.0) ≡ b → count (cond (not b) (e ∷ rest) rest) + weight p (cond b (Some e.1) (find R k es)) ≡ count (e ∷ es)) [
        | true ↦ λ t. rw (where_key-below o k es (below_all-equal o k e.0 es (equal _ t) (first_of_both _ _ h))) (omega (arith, count-cons e es))
        | false ↦ λ t. omega (arith, count-cons e rest, count-cons e es, count-without k es (second_of_both _ _ h))
      ] refl

swapped : {X : Type 0} (b : Bool) (x y : X) → cond (not b) x y ≡ cond b y x
swapped true x y = refl
swapped false x y = refl

-- the entries that stay when a key is taken away
pub entries-remove : {A V : Type 0} {R : A → A → Ordering} (o : IsTotalOrder R) → IsAntisymmetric R → (m : FinMap R V) (k : A) → finite.entries (finite.remove m k) ≡ where_key R (λ x. not (eq_by_cmp R k x)) (finite.entries m)
entries-remove {A} {V} {R} o same m k =
    ap finite.entries (same_map o same (finite.remove m k) (finite.from_sorted left) is) ∙ finite.entries-from_sorted R left in_order
  where
    left : List (A × V)
    left = where_key R (λ x. not (eq_by_cmp R k x)) (finite.entries m)

    in_order : T (is_sorted R left)
    in_order = is_sorted-where_key R _ (finite.entries m) (finite.entries_sorted m)

    is : (q : A) → finite.get (finite.remove m k) q ≡ finite.get (finite.from_sorted {R = R} left) q
    is q = finite.get-remove o m k q ∙ ap (λ b. cond b None (finite.get m q)) ((eq_by_cmp_equiv o).symm q k) ∙ sym (swapped (eq_by_cmp R k q) (finite.get m q) None)
        ∙ ap (λ v. cond (not (eq_by_cmp R k q)) v None) (finite.get-entries m q)
        ∙ sym (find-where_key R _ q (λ x t. ap (λ r. not (is_eq r)) (sym (alike_right o q x k t))) (finite.entries m))
        ∙ sym (finite.get-from_sorted R left q in_order)

pub length-filter-le : {X : Type 0} (p : X → Bool) (xs : List X) → length (filter p xs) ≤ length xs
length-filter-le p [] = omega arith
length-filter-le p (x ∷ xs) = omega (arith, length-filter-le p xs, length-cond (p x) x (filter p xs), (elim (p x) as (λ b. cond b 1 0 ≤ 1) [ true ↦ omega arith | false ↦ omega arith ]))

weight-file : (q : LogQueue) (found : Option Stored) → weight (λ s. is_same q s.file.queue) found ≡ file_weight q (option_map (λ s. s.file) found)
weight-file q None = refl
weight-file q (Some s) = refl

-- a pair that is put counts, and the one that it replaces no longer does
pub pair_count-insert : (q : LogQueue) (keys : Keys) (key value : List ℕ) (file : FileId) →
    pair_count q (finite.insert keys key (record { value = value; file = file })) + file_weight q (file_at keys key) ≡ pair_count q keys + file_weight
    q (Some file)
pair_count-insert q keys key value file =
    rw (finite.entries-insert nat_list_cmp_total, ← weight-file q (finite.get keys key), finite.get-entries)
    (count-put nat_list_cmp_total (λ s. is_same q s.file.queue) key (record { value = value; file = file }) (finite.entries keys) (finite.entries_sorted keys))

pub pair_count-remove : (q : LogQueue) (keys : Keys) (key : List ℕ) → pair_count q (finite.remove keys key) + file_weight q (file_at keys key) ≡ pair_count q keys
pair_count-remove q keys key =
    rw (entries-remove nat_list_cmp_total (slice_cmp-IsAntisymmetric nat_cmp-IsAntisymmetric), ← weight-file q (finite.get keys key), finite.get-entries)
    (count-without nat_list_cmp_total (λ s. is_same q s.file.queue) key (finite.entries keys) (finite.entries_sorted keys))

-- a pair that is moved counts where it is then
pub pair_count-with_moved : (q : LogQueue) (keys : Keys) (key : List ℕ) (file : FileId) →
    pair_count q (with_moved keys key file) + file_weight q (file_at keys key) ≡ pair_count q keys + file_weight q
    (option_map (λ _. file) (file_at keys key))
pair_count-with_moved q keys key file = go (finite.get keys key) refl
  where
    go : (found : Option Stored) → finite.get keys key ≡ found → pair_count q (moved_to file keys key found) + file_weight q
        (option_map (λ s. s.file) found) ≡ pair_count q keys + file_weight q (option_map (λ _. file) (option_map (λ s. s.file) found))
    go None e = refl
    go (Some s) e = rw (ap (λ o. option_map (λ s. s.file) o) e) at (pair_count-insert q keys key s.value file)

pub pair_count-le-len : (q : LogQueue) (keys : Keys) → pair_count q keys ≤ finite.len keys
pair_count-le-len q keys = rw finite.len-entries (length-filter-le _ (finite.entries keys))

pub pair_count-both : (keys : Keys) → pair_count Append keys + pair_count Rewrite keys ≡ finite.len keys
pair_count-both keys = rw finite.len-entries (go (finite.entries keys))
  where
    one : (q : LogQueue) → cond (is_same Append q) 1 0 + cond (is_same Rewrite q) 1 0 ≡ 1
    one Append = refl
    one Rewrite = refl

    go : (es : List (List ℕ × Stored)) → length (filter (λ e. is_same Append e.1.file.queue) es) + length (filter (λ e. is_same Rewrite e.1.file.queue) es) ≡ length es
    go [] = refl
    go (e ∷ es) = omega (
      arith,
      go es,
      one e.1.file.queue,
      length-cond (is_same Append e.1.file.queue) e
          (filter (λ e. is_same Append e.1.file.queue) es),
      length-cond (is_same Rewrite e.1.file.queue) e
          (filter (λ e. is_same Rewrite e.1.file.queue) es),
    )

module _ {K X : Type 0} (key : K → List ℕ) (stored : X → Stored) where
  abbrev pub map_of : List (K × X) → Keys
  map_of es = finite.from_sorted (shown (slice_cmp nat_cmp) key stored es)

  abbrev pub Ordered : List (K × X) → Type 0
  Ordered es = IsStrictlySortedBy (by_key (slice_cmp nat_cmp) key stored) (keys_of es)

  -- whether a key of the map is the given one
  abbrev pub at : List ℕ → K → Bool
  at q = is_at (λ y. slice_cmp nat_cmp q (key y))

  in_order : (es : List (K × X)) → Ordered es → T (finite.is_sorted (slice_cmp nat_cmp) (shown (slice_cmp nat_cmp) key stored es))
  in_order es h = is_sorted-shown (slice_cmp nat_cmp) key stored es h

  pub entries-map_of : (es : List (K × X)) → Ordered es → finite.entries (map_of es) ≡ shown (slice_cmp nat_cmp) key stored es
  entries-map_of es h = finite.entries-from_sorted (slice_cmp nat_cmp) _ (in_order es h)

  pub get-map_of : (es : List (K × X)) (q : List ℕ) → Ordered es → finite.get (map_of es) q ≡ option_map stored (lookup (at q) es)
  get-map_of es q h = finite.get-from_sorted (slice_cmp nat_cmp) _ q (in_order es h) ∙ find-shown (slice_cmp nat_cmp) key stored q es

  pub len-map_of : (es : List (K × X)) → Ordered es → finite.len (map_of es) ≡ length es
  len-map_of es h = finite.len-entries (map_of es) ∙ ap length (entries-map_of es h) ∙ length-map _ _

  pub map_of-insert_entry : (k : K) (x : X) (es : List (K × X)) → Ordered es → Ordered (insert_entry (by_key (slice_cmp nat_cmp) key stored) es k x) →
      map_of (insert_entry (by_key (slice_cmp nat_cmp) key stored) es k x) ≡ finite.insert (map_of es) (key k) (stored x)
  map_of-insert_entry k x es h g =
      finite.same_entries_map _ _ (entries-map_of _ g ∙ shown-insert_entry (slice_cmp nat_cmp) key stored k x es
      ∙ ap (finite.put (slice_cmp nat_cmp) (key k) (stored x)) (sym (entries-map_of es h))
      ∙ sym (finite.entries-insert nat_list_cmp_total (map_of es) (key k) (stored x)))

  pub map_of-remove_entry : (q : List ℕ) (es : List (K × X)) → Ordered es → Ordered (remove_entry (at q) es) → map_of (remove_entry (at q) es) ≡ finite.remove (map_of es) q
  map_of-remove_entry q es h g =
      finite.same_entries_map _ _ (entries-map_of _ g ∙ shown-remove_entry (slice_cmp nat_cmp) key stored nat_list_cmp_total q es (in_order es h)
      ∙ sym (rw (entries-map_of es h) at (entries-remove nat_list_cmp_total (slice_cmp-IsAntisymmetric nat_cmp-IsAntisymmetric) (map_of es) q)))

  -- a write of the same value with another file
  pub map_of-set_value : (q : List ℕ) (x y : X) (es : List (K × X)) → Ordered es → Ordered (set_value (at q) es x) → lookup (at q) es ≡ Some y →
      (stored x).value ≡ (stored y).value → map_of (set_value (at q) es x) ≡ with_moved (map_of es) q (stored x).file
  map_of-set_value q x y es h g found same =
      finite.same_entries_map _ _ (entries-map_of _ g ∙ shown-set_value (slice_cmp nat_cmp) key stored nat_list_cmp_total q x es (in_order es h) (rw found refl)
      ∙ ap (finite.put (slice_cmp nat_cmp) q (stored x)) (sym (entries-map_of es h))
      ∙ sym (finite.entries-insert nat_list_cmp_total (map_of es) q (stored x)))
      ∙ ap (λ v. finite.insert (map_of es) q (record { value = v; file = (stored x).file })) same
      ∙ sym (ap (moved_to (stored x).file (map_of es) q) (get-map_of es q h ∙ ap (option_map stored) found))

-- the pair of a key counts among those of its queue
pub file_weight-le : (q : LogQueue) (keys : Keys) (key : List ℕ) → file_weight q (file_at keys key) ≤ pair_count q keys
file_weight-le q keys key = omega (arith, pair_count-remove q keys key)

abbrev bytes_of : Vec ℕ Global → List ℕ
bytes_of k = k.items

abbrev pub key_cmp : Vec ℕ Global → Vec ℕ Global → Ordering
key_cmp x y = slice_cmp nat_cmp x.items y.items

-- whether a stored key has these bytes
abbrev pub has : List ℕ → Vec ℕ Global → Bool
has q = is_at (λ y. slice_cmp nat_cmp q y.items)

pub get-shown : (a : Inside) (keys : Keys) (q : List ℕ) → IsOrderedAndCounted a → keys_shown a ≡ keys → finite.get keys q ≡ option_map stored_of (lookup (has q) a.pairs.entries)
get-shown a keys q sound is = rw (← is) (get-map_of bytes_of stored_of a.pairs.entries q sound.ordered)

keys-of : (es : List (Vec ℕ Global × StoredValue)) → map (λ (e : List ℕ × Stored). e.0) (map (λ (e : Vec ℕ Global × StoredValue). (e.0.items, stored_of e.1)) es) ≡ map (λ (e : Vec ℕ Global × StoredValue). e.0.items) es
keys-of [] = refl
keys-of (e ∷ es) = ap (λ l. e.0.items ∷ l) (keys-of es)

pub keys-shown : (a : Inside) (keys : Keys) → IsOrderedAndCounted a → keys_shown a ≡ keys → map (λ e. e.0.items) a.pairs.entries ≡ finite.keys keys
keys-shown a keys sound is = rw (← is) (sym (ap (map (λ (e : List ℕ × Stored). e.0)) (entries-map_of bytes_of stored_of a.pairs.entries sound.ordered) ∙ keys-of a.pairs.entries))

pub len-shown : (a : Inside) (keys : Keys) → IsOrderedAndCounted a → keys_shown a ≡ keys → finite.len keys ≡ length a.pairs.entries
len-shown a keys sound is = rw (← is) (len-map_of bytes_of stored_of a.pairs.entries sound.ordered)

pub rewritten-le-len : (a : Inside) → IsOrderedAndCounted a → a.rewritten ≤ length a.pairs.entries
rewritten-le-len a sound = omega (arith, sound.counted, pair_count-le-len Rewrite (keys_shown a), len-shown a (keys_shown a) sound refl)

pub appended-shown : (a : Inside) (keys : Keys) → IsOrderedAndCounted a → keys_shown a ≡ keys → pair_count Append keys + a.rewritten ≡ length a.pairs.entries
appended-shown a keys sound is = rw (← is) (omega (arith, sound.counted, pair_count-both (keys_shown a), len-shown a (keys_shown a) sound refl))

pub shown-insert : (a b : Inside) (keys : Keys) (k : Vec ℕ Global) (s : StoredValue) → IsOrderedAndCounted a → keys_shown a ≡ keys →
    IsOrdered key_cmp b.pairs → b.pairs.entries ≡ insert_entry key_cmp a.pairs.entries k s →
    keys_shown b ≡ finite.insert keys k.items (record { value = s.value.items; file = s.file })
shown-insert a b keys k s sound is ordered put =
    ap (map_of bytes_of stored_of) put
    ∙ map_of-insert_entry bytes_of stored_of k s a.pairs.entries sound.ordered (subst (Ordered bytes_of stored_of) put ordered)
    ∙ ap (λ (m : Keys). finite.insert m k.items (record { value = s.value.items; file = s.file })) is

pub shown-remove : (a b : Inside) (keys : Keys) (q : List ℕ) → IsOrderedAndCounted a → keys_shown a ≡ keys → IsOrdered key_cmp b.pairs → b.pairs.entries ≡ remove_entry (has q) a.pairs.entries → keys_shown b ≡ finite.remove keys q
shown-remove a b keys q sound is ordered gone =
    ap (map_of bytes_of stored_of) gone
    ∙ map_of-remove_entry bytes_of stored_of q a.pairs.entries sound.ordered (subst (Ordered bytes_of stored_of) gone ordered)
    ∙ ap (λ (m : Keys). finite.remove m q) is

pub shown-set_file : (a b : Inside) (keys : Keys) (q : List ℕ) (s t : StoredValue) → IsOrderedAndCounted a → keys_shown a ≡ keys →
    IsOrdered key_cmp b.pairs → lookup (has q) a.pairs.entries ≡ Some s → b.pairs.entries ≡ set_value (has q) a.pairs.entries t → t.value ≡ s.value →
    keys_shown b ≡ with_moved keys q t.file
shown-set_file a b keys q s t sound is ordered found set same =
    ap (map_of bytes_of stored_of) set
    ∙ map_of-set_value bytes_of stored_of q t s a.pairs.entries sound.ordered (subst (Ordered bytes_of stored_of) set ordered) found (ap (λ v. v.items) same)
    ∙ ap (λ m. with_moved m q t.file) is

-- the count of rewritten pairs is kept where it changes as the pairs do
pub sound-changed : (a b : Inside) (old new : Keys) (gone came : ℕ) → IsOrderedAndCounted a → keys_shown a ≡ old → IsOrdered key_cmp b.pairs →
    keys_shown b ≡ new → b.rewritten + gone ≡ a.rewritten + came → pair_count Rewrite new + gone ≡ pair_count Rewrite old + came →
    IsOrderedAndCounted b
sound-changed a b old new gone came sound was ordered is number pairs =
    let before : a.rewritten ≡ pair_count Rewrite old = subst (λ (k : Keys). a.rewritten ≡ pair_count Rewrite k) was sound.counted in
    let after : b.rewritten ≡ pair_count Rewrite new = omega arith in
    record { ordered = ordered; counted = subst (λ (k : Keys). b.rewritten ≡ pair_count Rewrite k) (sym is) after }

pub shown-none : (a : Inside) → a.pairs.entries ≡ [] → IsOrdered key_cmp a.pairs → keys_shown a ≡ finite.empty
shown-none a none ordered = finite.empty_of_len (keys_shown a) (len-map_of bytes_of stored_of a.pairs.entries ordered ∙ ap length none)

pub sound-none : (a : Inside) → a.pairs.entries ≡ [] → IsOrdered key_cmp a.pairs → a.rewritten ≡ 0 → IsOrderedAndCounted a
sound-none a none ordered number =
    record { ordered = ordered; counted = omega (arith, pair_count-le-len Rewrite (keys_shown a), ap finite.len (shown-none a none ordered), finite.len-empty (slice_cmp nat_cmp) Stored) }

pub none-shown : (a : Inside) (keys : Keys) (b : Bool) → IsOrderedAndCounted a → keys_shown a ≡ keys → (IsTrue b ↔ (length a.pairs.entries ≡ 0)) → (IsTrue b ↔ (keys ≡ finite.empty))
none-shown a keys b sound is h =
    let len = len-shown a keys sound is in
    (λ t. finite.empty_of_len keys (len ∙ h.0 t), λ e. h.1 (sym len ∙ ap finite.len e ∙ finite.len-empty (slice_cmp nat_cmp) Stored))

-- the file of a key's pair, as a look-up finds it
pub file-shown : (a : Inside) (keys : Keys) (q : List ℕ) (found : Option StoredValue) → IsOrderedAndCounted a → keys_shown a ≡ keys → found ≡ lookup (has q) a.pairs.entries → file_at keys q ≡ option_map (λ s. s.file) found
file-shown a keys q found sound is e = ap (option_map (λ s. s.file)) (get-shown a keys q sound is ∙ ap (option_map stored_of) (sym e)) ∙ elim found as
    (λ found. option_map (λ s. s.file) (option_map stored_of found) ≡ option_map (λ s. s.file) found) [ None ↦ refl | Some s ↦ refl ]

-- a pair that a look-up finds is counted
pub counted-shown : (a : Inside) (keys : Keys) (q : List ℕ) (found : Option FileId) → IsOrderedAndCounted a → keys_shown a ≡ keys → found ≡ file_at keys q → file_weight Rewrite found ≤ a.rewritten
counted-shown a keys q found sound is e =
    let before : a.rewritten ≡ pair_count Rewrite keys = subst (λ (k : Keys). a.rewritten ≡ pair_count Rewrite k) is sound.counted in
    rw e (omega (arith, file_weight-le Rewrite keys q))

-- a key that no look-up finds has nothing to move
pub shown-unmoved : (a b : Inside) (keys : Keys) (q : List ℕ) (file : FileId) → IsOrderedAndCounted a → keys_shown a ≡ keys → lookup (has q) a.pairs.entries ≡ None → b.pairs.entries ≡ a.pairs.entries → keys_shown b ≡ with_moved keys q file
shown-unmoved a b keys q file sound is none same =
    ap (map_of bytes_of stored_of) same ∙ is ∙ sym (ap (moved_to file keys q) (get-shown a keys q sound is ∙ ap (option_map stored_of) none))
