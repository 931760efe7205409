-- The key values of a region, shown by their bytes.
use Rattle.raft_plain.proofs.Common.{◌≡◌, Bool, true, false, cond, not, List, [], ◌∷◌, ℕ, None, refl, sym, ap, subst, ◌∙◌, map, filter, insert_entry, eq_by_cmp_equiv, nat_list_cmp_total, slice_cmp, nat_cmp-IsAntisymmetric, slice_cmp-IsAntisymmetric, where_key, IsStrictlySortedBy}
use Rattle.raft_plain.proofs.Common.{keys_of, eq_by_cmp, is_eq, is_ne, nat_cmp, Ordering, Less, Equal, Greater, entries-remove, entries-map_of, map_of-insert_entry, entries-empty, Keys, empty_table, Region, Stored, stored_shown, table_shown}
use Rattle.std.specs.FinMap as finite
use Rattle.std.specs.declared.alloc.Global.{Global}
use Rattle.std.specs.declared.vec.Vec.{Vec}

abbrev pub bytes_of : Vec ℕ Global → List ℕ
bytes_of k = k.items

-- the order of keys
abbrev pub key_cmp : Vec ℕ Global → Vec ℕ Global → Ordering
key_cmp x y = slice_cmp nat_cmp x.items y.items

abbrev pub Pairs : Type 0
Pairs = List (Vec ℕ Global × Stored)

abbrev pub keys_in : Pairs → Keys
keys_in es = finite.from_sorted (map (λ e. (e.0.items, stored_shown e.1)) es)

abbrev pub Rises : Pairs → Type 0
Rises es = IsStrictlySortedBy key_cmp (keys_of es)

pub key_put : (old new : Pairs) (k : Vec ℕ Global) (s : Stored) → Rises old → Rises new → new ≡ insert_entry key_cmp old k s → keys_in new ≡ finite.insert (keys_in old) k.items (stored_shown s)
key_put old new k s h g is = ap keys_in is ∙ map_of-insert_entry bytes_of stored_shown k s old h (subst Rises is g)

-- whether a key is another one
abbrev pub is_other : List ℕ → Vec ℕ Global × Stored → Bool
is_other key e = is_ne (slice_cmp nat_cmp e.0.items key)

others : (key : List ℕ) (es : Pairs) → map (λ e. (e.0.items, stored_shown e.1)) (filter (is_other key) es) ≡ where_key (slice_cmp nat_cmp) (λ x. not (eq_by_cmp (slice_cmp nat_cmp) key x)) (map (λ e. (e.0.items, stored_shown e.1)) es)
others key [] = refl
others key (e ∷ es) =
    ap (λ (b : Bool). map (λ (e : Vec ℕ Global × Stored). (e.0.items, stored_shown e.1)) (cond b (e ∷ filter (is_other key) es) (filter (is_other key) es))) (turned (slice_cmp nat_cmp e.0.items key) ∙ ap not ((eq_by_cmp_equiv nat_list_cmp_total).symm e.0.items key))
    ∙ go (not (eq_by_cmp (slice_cmp nat_cmp) key e.0.items)) (others key es)
  where
    turned : (r : Ordering) → is_ne r ≡ not (is_eq r)
    turned Less = refl
    turned Equal = refl
    turned Greater = refl

    go : (b : Bool) → map (λ e. (e.0.items, stored_shown e.1)) (filter (is_other key) es) ≡ where_key (slice_cmp nat_cmp) (λ x. not (eq_by_cmp (slice_cmp nat_cmp) key x)) (map (λ e. (e.0.items, stored_shown e.1)) es)
        → map (λ (e : Vec ℕ Global × Stored). (e.0.items, stored_shown e.1)) (cond b (e ∷ filter (is_other key) es) (filter (is_other key) es))
        ≡ cond b ((e.0.items, stored_shown e.1) ∷ where_key (slice_cmp nat_cmp) (λ x. not (eq_by_cmp (slice_cmp nat_cmp) key x)) (map (λ e. (e.0.items, stored_shown e.1)) es)) (where_key (slice_cmp nat_cmp) (λ x. not (eq_by_cmp (slice_cmp nat_cmp) key x)) (map (λ e. (e.0.items, stored_shown e.1)) es))
    go true rest = ap (λ l. (e.0.items, stored_shown e.1) ∷ l) rest
    go false rest = rest

pub key_gone : (old new : Pairs) (key : List ℕ) → Rises old → Rises new → new ≡ filter (is_other key) old → keys_in new ≡ finite.remove (keys_in old) key
key_gone old new key h g is =
    finite.same_entries_map _ _ (entries-map_of bytes_of stored_shown new g ∙ ap (map (λ e. (e.0.items, stored_shown e.1))) is ∙ others key old
    ∙ sym (rw (entries-map_of bytes_of stored_shown old h) at (entries-remove nat_list_cmp_total (slice_cmp-IsAntisymmetric nat_cmp-IsAntisymmetric) (keys_in old) key)))

pub keys_none : (es : Pairs) → es ≡ [] → keys_in es ≡ finite.empty
keys_none es is = ap keys_in is ∙ finite.same_entries_map _ _ (finite.entries-from_sorted (slice_cmp nat_cmp) [] tt ∙ sym entries-empty)

pub empty_region : (id : ℕ) (r : Region) → r.entries.items ≡ [] → r.keys.entries ≡ [] → r.group ≡ None → table_shown id r ≡ empty_table id
empty_region id r entries keys group = λ i. record { region_id = id; entries = entries i; keys = keys_none r.keys.entries keys i; atomic_group = group i }
