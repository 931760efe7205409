-- Tables merged into those of all regions, one after another.
use Rattle.raft_accessor.proofs.Common.{AreMerged, Memory, ◌≡◌, ◌≢◌, ◌⊎◌, ℕ, nat_eq, IsTrue, List, [], ◌∷◌, ◌++◌, cond, Option, Some, None, Result, Ok, Err, refl, sym, ap, subst, ◌∙◌, inl, inr, nat_cmp, nat_cmp_total, is_some, option_or}
use Rattle.raft_accessor.proofs.Common.{find, OnOk, IfErr, Error, LogQueue, Tables, with_table, Counts, IsTableMergeFault, table_of, Table, IsRecounted, table_in, slot_entries, together, AreSlots, IsMergedAt, AreTablesMerged, IsLeftAt}
use Rattle.raft_accessor.proofs.Common.{AreTablesLeft, AreOthersLeft, IsMergeRefusal, MayAlter, IsAltered, TableCall, TableCalls, lookup, keys_of, IsDistinct, append-nil, append_assoc, Accessor, with_neighbor, IsFaultBeside}
use Rattle.std.specs.FinMap as finite
use Rattle.raft_accessor.specs.declared.neighbor.Neighbor.{Neighbor}
use Rattle.raft_accessor.proofs.MapLemmas.{none_some, by_id, eq_self, get_own, one_written, one_same, with_other}
use Rattle.raft_accessor.proofs.OrderLemmas.{Once, once-distinct, once-slots}
use Rattle.raft_accessor.proofs.RegionTablesLemmas.{found}
use Rattle.raft_accessor.proofs.SlotLemmas.{find-both}

-- ---- one table

module _ {F R : Type 0} (g : TableCall F R) (f : F) (m : Tables) (id : ℕ) (counts : Counts) where
  -- the table was there, or was made
  pub altered : (r : Result R Error) (new : Table) (after : Counts) (n : Tables) → MayAlter g f (table_in m id) counts → TableCalls g f (table_in m id) counts r new after → n ≡ finite.insert m id new → IsAltered g f m id counts r n after
  altered r new after n may ch e =
      let now : table_in n id ≡ new = ap (λ x. table_in x id) e ∙ ap (table_of id) (get_own m id new) in
      let here : TableCalls g f (table_in m id) counts r (table_in n id) after = subst (λ x. TableCalls g f (table_in m id) counts r x after) (sym now) ch in
      record {
        changed = inl here;
        there = elim r as (λ r. OnOk r (finite.get n id ≡ Some (table_in n id))) [ Ok a ↦ ap (λ x. finite.get x id) e ∙ get_own m id new ∙ ap Some (sym now) | Err x ↦ tt ];
        one = one_written m n id new e;
        recounted = may.counted r (table_in n id) after here;
      }

  -- there was no memory for a table
  pub not_altered : (n : Tables) → n ≡ m → IsAltered g f m id counts (Err Memory) n counts
  not_altered n e =
      let now : table_in n id ≡ table_in m id = ap (λ y. table_in y id) e in
      record {
        changed = inr (refl, now, refl);
        there = tt;
        one = one_same m n id e;
        recounted = λ q. subst (λ t. IsRecounted (table_in m id) t counts counts) (sym now) (λ q. refl) q;
      }

-- ---- tables in order

-- no region has an entry of both
abbrev pub AreApart : List (ℕ × Table) → List (ℕ × Table) → Type 0
AreApart xs ys = (q : ℕ) → find nat_cmp q xs ≢ None → find nat_cmp q ys ≡ None

first-none : (o p : Option Table) → option_or o p ≡ None → o ≡ None
first-none None p e = refl
first-none (Some t) p e = e

second-none : (o p : Option Table) → option_or o p ≡ None → p ≡ None
second-none None p e = e
second-none (Some t) p e = absurd (none_some (sym e))

once-apart : (xs ys : List (ℕ × Table)) → Once (xs ++ ys) → AreApart xs ys
once-apart [] ys once q f = absurd (f refl)
once-apart (x ∷ xs) ys once q f = elim (by_id q x.0) [
  | inl p ↦ ap (λ q. find nat_cmp q ys) p ∙ second-none (find nat_cmp x.0 xs) (find nat_cmp x.0 ys) (sym (find-both x.0 xs ys) ∙ once.0)
  | inr n ↦ once-apart xs ys once.1 q (λ none. f (ap (λ b. cond b (Some x.1) (find nat_cmp q xs)) n ∙ none))
]

-- what is found behind others is not found in them
not-before : (xs ys : List (ℕ × Table)) (q : ℕ) (t : Table) → AreApart xs ys → find nat_cmp q ys ≡ Some t → find nat_cmp q xs ≡ None
not-before xs ys q t apart there = elim (find nat_cmp q xs) as (λ o. find nat_cmp q xs ≡ o → o ≡ None) [
  | None ↦ λ e. refl
  | Some u ↦ λ e. absurd (none_some (sym (apart q (λ none. none_some (sym none ∙ e))) ∙ there))
] refl

found-behind : (xs ys : List (ℕ × Table)) (q : ℕ) (t : Table) → AreApart xs ys → find nat_cmp q ys ≡ Some t → find nat_cmp q (xs ++ ys) ≡ Some t
found-behind xs ys q t apart there = find-both q xs ys ∙ ap (λ o. option_or o (find nat_cmp q ys)) (not-before xs ys q t apart there) ∙ there

slots-append : (xs ys : List Tables) → slot_entries (xs ++ ys) ≡ slot_entries xs ++ slot_entries ys
slots-append [] ys = refl
slots-append (x ∷ xs) ys = ap (λ l. finite.entries x ++ l) (slots-append xs ys) ∙ sym (append_assoc (finite.entries x) (slot_entries xs) (slot_entries ys))

-- some entry's table is refused beside the older one of its region
abbrev pub Refuses : (Table → Table → Error → Type 0) → Tables → List (ℕ × Table) → Error → Type 0
Refuses IsFault m es e = (id : ℕ) × (t : Table) × (find nat_cmp id es ≡ Some t) × IsFault (table_in m id) t e

-- another region than the one that is gone, if one is
abbrev pub IsOther : Option ℕ → ℕ → Type 0
IsOther None id = Unit {0}
IsOther (Some at) id = id ≢ at

-- the one that is gone has an entry
abbrev pub HasEntry : Option ℕ → List (ℕ × Table) → Type 0
HasEntry None es = Unit {0}
HasEntry (Some at) es = find nat_cmp at es ≢ None

entry-behind : (gone : Option ℕ) (xs ys : List (ℕ × Table)) → HasEntry gone ys → HasEntry gone (xs ++ ys)
entry-behind None xs ys h = tt
entry-behind (Some at) xs ys h = λ none. h (second-none (find nat_cmp at xs) (find nat_cmp at ys) (sym (find-both at xs ys) ∙ none))

entry-in-front : (gone : Option ℕ) (xs ys : List (ℕ × Table)) → HasEntry gone xs → HasEntry gone (xs ++ ys)
entry-in-front None xs ys h = tt
entry-in-front (Some at) xs ys h = λ none. h (first-none (find nat_cmp at xs) (find nat_cmp at ys) (sym (find-both at xs ys) ∙ none))

first-found : (rest es : List (ℕ × Table)) (id : ℕ) (t : Table) → rest ≡ (id, t) ∷ es → find nat_cmp id rest ≡ Some t
first-found rest es id t is = ap (λ l. find nat_cmp id l) is ∙ ap (λ b. cond b (Some t) (find nat_cmp id es)) (eq_self id)

module _ (merge : Table → Table → Option Table) where
  -- each region's table is merged with that of an entry
  abbrev pub Joins : Tables → List (ℕ × Table) → Tables → Type 0
  Joins m es n = (id : ℕ) → IsMergedAt merge id (finite.get m id) (find nat_cmp id es) (finite.get n id)

  both : (id : ℕ) (x y z o p : Option Table) → (o ≢ None → p ≡ None) → IsMergedAt merge id x o y → IsMergedAt merge id y p z → IsMergedAt merge id x (option_or o p) z
  both id x y z None p apart g h = subst (λ y. IsMergedAt merge id y p z) g h
  both id x y z (Some t) p apart g h =
      let e : z ≡ y = subst (λ p. IsMergedAt merge id y p z) (apart (λ e. none_some (sym e))) h in
      (g.0 ∙ sym e, subst (λ y. IsTrue (is_some y)) (sym e) g.1)

  joins-append : (m n z : Tables) (xs ys rest : List (ℕ × Table)) → AreApart xs (ys ++ rest) → Joins m xs n → Joins n ys z → Joins m (xs ++ ys) z
  joins-append m n z xs ys rest apart g h = λ q.
      subst (λ o. IsMergedAt merge q (finite.get m q) o (finite.get z q)) (sym (find-both q xs ys)) (both q (finite.get m q) (finite.get n q) (finite.get z q) (find nat_cmp q xs) (find nat_cmp q ys)
      (λ f. first-none (find nat_cmp q ys) (find nat_cmp q rest) (sym (find-both q ys rest) ∙ apart q f)) (g q) (h q))

  -- one entry
  joins-one : (m n : Tables) (id : ℕ) (t : Table) → IsMergedAt merge id (finite.get m id) (Some t) (finite.get n id) → n ≡ with_table m id (finite.get n id) → Joins m ((id, t) ∷ []) n
  joins-one m n id t here e = λ q. elim (by_id q id) [
    | inl p ↦ subst (λ q. IsMergedAt merge q (finite.get m q) (find nat_cmp q ((id, t) ∷ [])) (finite.get n q)) (sym p) (subst (λ b. IsMergedAt merge id (finite.get m id) (cond b (Some t) None) (finite.get n id)) (sym (eq_self id)) here)
    | inr f ↦ subst (λ b. IsMergedAt merge q (finite.get m q) (cond b (Some t) None) (finite.get n q)) (sym f) (ap (λ r. finite.get r q) e ∙ with_other m id q (finite.get n id) f)
  ]

  -- one entry more is merged
  pub more-merged : (m n z : Tables) (all done rest es : List (ℕ × Table)) (id : ℕ) (t : Table) → rest ≡ (id, t) ∷ es → done ++ rest ≡ all → AreApart done rest → Joins m done n →
      IsMergedAt merge id (finite.get n id) (Some t) (finite.get z id) → z ≡ with_table n id (finite.get z id) → (more : List (ℕ × Table)) × (more ++ es ≡ all) × Joins m more z
  more-merged m n z all done rest es id t is split apart g here one = (
    done ++ (id, t) ∷ [],
    append_assoc done ((id, t) ∷ []) es ∙ ap (λ l. done ++ l) (sym is) ∙ split,
    joins-append m n z done ((id, t) ∷ []) es (subst (AreApart done) is apart) g (joins-one n z id t here one),
  )

  -- one slot more
  pub more-slots : (m n z : Tables) (all done rest ms : List Tables) (s : Tables) → rest ≡ s ∷ ms → done ++ rest ≡ all → AreApart (slot_entries done) (slot_entries rest) →
      Joins m (slot_entries done) n → AreTablesMerged merge n s z → (more : List Tables) × (more ++ ms ≡ all) × Joins m (slot_entries more) z
  more-slots m n z all done rest ms s is split apart g here = (
    done ++ s ∷ [],
    append_assoc done (s ∷ []) ms ∙ ap (λ l. done ++ l) (sym is) ∙ split,
    subst (λ es. Joins m es z) (sym (slots-append done (s ∷ []) ∙ ap (λ l. slot_entries done ++ l) (append-nil (finite.entries s))))
        (joins-append m n z (slot_entries done) (finite.entries s) (slot_entries ms) (subst (λ l. AreApart (slot_entries done) (slot_entries l)) is apart) g
        (λ q. subst (λ o. IsMergedAt merge q (finite.get n q) o (finite.get z q)) (finite.get-entries s q) (here q))),
  )

  -- ---- what a refusal leaves

  -- each region's table is merged with that of an entry, or left; if one is gone, that one aside, which has an entry
  abbrev pub Leaves : Option ℕ → Tables → List (ℕ × Table) → Tables → Type 0
  Leaves gone m es n = HasEntry gone es × ((id : ℕ) → IsOther gone id → IsLeftAt merge id (finite.get m id) (find nat_cmp id es) (finite.get n id))

  left_alone : (id : ℕ) (x o y : Option Table) → y ≡ x → IsLeftAt merge id x o y
  left_alone id x None y e = e
  left_alone id x (Some t) y e = inr (ap (table_of id) e)

  left_more : (id : ℕ) (x o p y : Option Table) → IsLeftAt merge id x o y → IsLeftAt merge id x (option_or o p) y
  left_more id x None p y h = left_alone id x p y h
  left_more id x (Some t) p y h = h

  both_left : (id : ℕ) (x y z o p : Option Table) → (o ≢ None → p ≡ None) → IsMergedAt merge id x o y → IsLeftAt merge id y p z → IsLeftAt merge id x (option_or o p) z
  both_left id x y z None p apart g h = subst (λ y. IsLeftAt merge id y p z) g h
  both_left id x y z (Some t) p apart g h =
      let e : z ≡ y = subst (λ p. IsLeftAt merge id y p z) (apart (λ e. none_some (sym e))) h in
      inl (g.0 ∙ sym e, subst (λ y. IsTrue (is_some y)) (sym e) g.1)

  pub leaves-append : (gone : Option ℕ) (m n z : Tables) (xs ys : List (ℕ × Table)) → AreApart xs ys → Joins m xs n → Leaves gone n ys z → Leaves gone m (xs ++ ys) z
  leaves-append gone m n z xs ys apart g h = (
    entry-behind gone xs ys h.0,
    λ q other.
        subst (λ o. IsLeftAt merge q (finite.get m q) o (finite.get z q)) (sym (find-both q xs ys)) (both_left q (finite.get m q) (finite.get n q) (finite.get z q) (find nat_cmp q xs) (find nat_cmp q ys) (apart q) (g q) (h.1 q other)),
  )

  -- the first entry is refused, and its table left
  pub leaves-first : (m n : Tables) (rest es : List (ℕ × Table)) (id : ℕ) (t : Table) → rest ≡ (id, t) ∷ es → table_in n id ≡ table_in m id → n ≡ with_table m id (finite.get n id) → Leaves None m rest n
  leaves-first m n rest es id t is here one = (
    tt,
    λ q other. elim (by_id q id) [
      | inl p ↦ subst (λ q. IsLeftAt merge q (finite.get m q) (find nat_cmp q rest) (finite.get n q)) (sym p)
          (subst (λ o. IsLeftAt merge id (finite.get m id) o (finite.get n id)) (sym (first-found rest es id t is)) (inr here))
      | inr f ↦ left_alone q (finite.get m q) (find nat_cmp q rest) (finite.get n q) (ap (λ r. finite.get r q) one ∙ with_other m id q (finite.get n id) f)
    ],
  )

  -- or whatever becomes of it
  pub leaves-others : (m n : Tables) (rest es : List (ℕ × Table)) (id : ℕ) (t : Table) → rest ≡ (id, t) ∷ es → n ≡ with_table m id (finite.get n id) → Leaves (Some id) m rest n
  leaves-others m n rest es id t is one = (
    λ none. none_some (sym none ∙ first-found rest es id t is),
    λ q other. elim (by_id q id) [
      | inl p ↦ absurd (other p)
      | inr f ↦ left_alone q (finite.get m q) (find nat_cmp q rest) (finite.get n q) (ap (λ r. finite.get r q) one ∙ with_other m id q (finite.get n id) f)
    ],
  )

  -- the same of the slots of a map: one in front
  leaves-slot : (gone : Option ℕ) (m n : Tables) (rest ms : List Tables) (s : Tables) → rest ≡ s ∷ ms → HasEntry gone (finite.entries s) →
      ((q : ℕ) → IsOther gone q → IsLeftAt merge q (finite.get m q) (finite.get s q) (finite.get n q)) → Leaves gone m (slot_entries rest) n
  leaves-slot gone m n rest ms s is has h = subst (λ l. Leaves gone m (slot_entries l) n) (sym is) (
    entry-in-front gone (finite.entries s) (slot_entries ms) has,
    λ q other.
        subst (λ o. IsLeftAt merge q (finite.get m q) o (finite.get n q)) (sym (find-both q (finite.entries s) (slot_entries ms)))
        (left_more q (finite.get m q) (find nat_cmp q (finite.entries s)) (find nat_cmp q (slot_entries ms)) (finite.get n q) (subst (λ o. IsLeftAt merge q (finite.get m q) o (finite.get n q)) (finite.get-entries s q) (h q other))),
  )

  pub left-slot : (m n : Tables) (rest ms : List Tables) (s : Tables) → rest ≡ s ∷ ms → AreTablesLeft merge m s n → Leaves None m (slot_entries rest) n
  left-slot m n rest ms s is h = leaves-slot None m n rest ms s is tt (λ q other. h q)

  pub others-slot : (m n : Tables) (rest ms : List Tables) (s : Tables) → rest ≡ s ∷ ms → (h : AreOthersLeft merge m s n) → Leaves (Some h.at) m (slot_entries rest) n
  others-slot m n rest ms s is h = leaves-slot (Some h.at) m n rest ms s is (λ none. h.there (finite.get-entries s h.at ∙ none)) h.others

-- ---- refusals

-- want of memory is a fault of every merge
pub refused-with : {R : Type 0} (rule : Option LogQueue) (counts : Counts) (older newer : Table) (r : Result R Error) →
    IfErr r (λ e. (e ≡ Memory) ⊎ IsTableMergeFault counts older newer rule e) → IfErr r (IsTableMergeFault counts older newer rule)
refused-with rule counts older newer (Ok x) f = tt
refused-with rule counts older newer (Err e) (inr f) = f
refused-with rule counts older newer (Err e) (inl is) = subst (IsTableMergeFault counts older newer rule) (sym is) (elim rule as (λ rule. IsTableMergeFault counts older newer rule Memory) [ None ↦ tt | Some q ↦ tt ])

module _ (IsFault : Table → Table → Error → Type 0) (m : Tables) where
  -- the first of some entries is refused
  pub refuses-first : (rest es : List (ℕ × Table)) (id : ℕ) (t : Table) (e : Error) → rest ≡ (id, t) ∷ es → IsFault (table_in m id) t e → Refuses IsFault m rest e
  refuses-first rest es id t e is f = (id, t, first-found rest es id t is, f)

  -- one of the first slot
  pub refuses-slot : (rest ms : List Tables) (s : Tables) (e : Error) → rest ≡ s ∷ ms → IsMergeRefusal IsFault m s e → Refuses IsFault m (slot_entries rest) e
  refuses-slot rest ms s e is f = subst (λ l. Refuses IsFault m (slot_entries l) e) (sym is) (
    f.id,
    f.table,
    find-both f.id (finite.entries s) (slot_entries ms) ∙ ap (λ o. option_or o (find nat_cmp f.id (slot_entries ms))) (sym (finite.get-entries s f.id) ∙ f.there),
    f.fault,
  )

-- ---- some entries are merged, and the next one is refused, or there is none

module _ (kind : Neighbor) (old new : Accessor) (m newer : Tables) (done rest : List (ℕ × Table)) (apart : AreApart done rest) (joined : Joins (with_neighbor kind) old.tables done m)
    (all : finite.from_entries {R = nat_cmp} (done ++ rest) ≡ newer) where
  there : (q : ℕ) → find nat_cmp q (done ++ rest) ≡ finite.get newer q
  there q = sym (finite.get-from_entries nat_cmp_total (done ++ rest) q) ∙ ap (λ r. finite.get r q) all

  left : (gone : Option ℕ) → Leaves (with_neighbor kind) gone m rest new.tables → (q : ℕ) → IsOther gone q → IsLeftAt (with_neighbor kind) q (finite.get old.tables q) (finite.get newer q) (finite.get new.tables q)
  left gone h q other = subst (λ o. IsLeftAt (with_neighbor kind) q (finite.get old.tables q) o (finite.get new.tables q)) (there q) ((leaves-append (with_neighbor kind) gone old.tables m new.tables done rest apart joined h).1 q other)

  pub merge-refused : (e : Error) (at : ℕ) → Refuses (IsFaultBeside kind new.counts) m rest e → (e ≢ Memory → Leaves (with_neighbor kind) None m rest new.tables) →
      Leaves (with_neighbor kind) (Some at) m rest new.tables → new.cleaned ≡ old.cleaned → AreMerged kind old newer (Err e) new
  merge-refused e at refused stays others cleaned =
      let gone = not-before done rest refused.0 refused.1 apart refused.2 in
      record {
        ok = tt;
        fault = record {
          id = refused.0;
          table = refused.1;
          there = sym (there refused.0) ∙ found-behind done rest refused.0 refused.1 apart refused.2;
          fault = subst (λ o. IsFaultBeside kind new.counts (table_of refused.0 o) refused.1 e)
              (subst (λ o. IsMergedAt (with_neighbor kind) refused.0 (finite.get old.tables refused.0) o (finite.get m refused.0)) gone (joined refused.0)) refused.3;
        };
        err = λ k q. left None (stays k) q tt;
        others = record {
          at = at;
          there = λ none. (leaves-append (with_neighbor kind) (Some at) old.tables m new.tables done rest apart joined others).0 (there at ∙ none);
          others = left (Some at) others;
        };
        cleaned = cleaned;
      }

pub all-merged : (kind : Neighbor) (old new : Accessor) (newer : Tables) (done : List (ℕ × Table)) → Joins (with_neighbor kind) old.tables done new.tables → finite.from_entries {R = nat_cmp} done ≡ newer →
    new.cleaned ≡ old.cleaned → AreMerged kind old newer (Ok tt) new
all-merged kind old new newer done joined all cleaned = record {
  ok = λ q. subst (λ o. IsMergedAt (with_neighbor kind) q (finite.get old.tables q) o (finite.get new.tables q)) (sym (finite.get-from_entries nat_cmp_total done q) ∙ ap (λ r. finite.get r q) all) (joined q);
  fault = tt;
  err = tt;
  others = tt;
  cleaned = cleaned;
}

-- ---- the entries of a hash map, and of all slots

pub items-apart : (done rest items : List (ℕ × Table)) → done ++ rest ≡ items → IsDistinct nat_eq (keys_of items) → AreApart done rest
items-apart done rest items split once = once-apart done rest (subst Once (sym split) (once-distinct items once))

-- the next table is its region's own
pub own-next : (done rest es items : List (ℕ × Table)) (id : ℕ) (t : Table) → done ++ rest ≡ items → rest ≡ (id, t) ∷ es → IsDistinct nat_eq (keys_of items) →
    ((q : ℕ) (t : Table) → lookup (nat_eq q) items ≡ Some t → t.region_id ≡ q) → t.region_id ≡ id
own-next done rest es items id t split is once own =
    own id t (sym (found id items) ∙ ap (find nat_cmp id) (sym split) ∙ found-behind done rest id t (items-apart done rest items split once) (first-found rest es id t is))

pub slots-apart : (done rest all : List Tables) → done ++ rest ≡ all → AreSlots 0 all → AreApart (slot_entries done) (slot_entries rest)
slots-apart done rest all split are = once-apart (slot_entries done) (slot_entries rest) (subst Once (ap slot_entries (sym split) ∙ slots-append done rest) (once-slots 0 all are))

-- the entries of all slots are those of the one map
pub slots-are : (done rest all : List Tables) (m : Tables) → done ++ rest ≡ all → together all ≡ m → finite.from_entries {R = nat_cmp} (slot_entries done ++ slot_entries rest) ≡ m
unfolding together
slots-are done rest all m split e = ap (λ es. finite.from_entries es) (sym (slots-append done rest) ∙ ap slot_entries split) ∙ e
