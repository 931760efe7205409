-- Slots of tables that threads share: what they keep, their calls, and how an accessor is shared out and put together.
use Rattle.raft_shared.proofs.Common.{raised_item, empty_batch, with_batch, ◌≢◌, Inside, on_ok_weaker, ◌≡◌, ◌<◌, ℕ, true, false, List, [], ◌∷◌, ◌++◌, Option, Some, None, Result, Ok, Err, refl, sym, ap, subst, ◌∙◌, inl, inr, append-nil}
use Rattle.raft_shared.proofs.Common.{AllByRecursion, option_and_then, if◌then◌else◌, OnOk, OnErr, IfErr, Error, Item, Content, entries, command, Tables, with_table, live, Table, empty_table, IsRecounted, slot_of, table_in, live_in_all}
use Rattle.raft_shared.proofs.Common.{AreCountsOf, IsTableChanged, IsWritten, IsItemWritten, slot_shown, AreOf, IsSlotKept, BecomesOutcome, Writing, queue_of, lists, cleaned_by_content, listed_by, IsWriteFault, AreWritten, nat_cmp}
use Rattle.raft_shared.proofs.Common.{table_of, counted-with, live-none, by_id, get_gone, with_other, Slot, Counts, none_some, map, Bor, Once, map-append, command_item, Batch, TableChange, after_change, IsAllowed, IsAnswer, IsChangeFault}
use Rattle.raft_shared.proofs.Common.{Accessor, IsChangeAnswer, IsChangeRefusal, IsNumberOf, IsRefusalOf, HasCleans, MayBeWritten, IsSharedItemFault, IsFor, after_content, ◌≤◌, ◌+◌, ◌==◌, suc, zero, cond, length, slice_index_or, slice_set}
use Rattle.raft_shared.proofs.Common.{arith, filter, each-append, each_weaker, ne_eqb, filter-append, self_same, HasShare, HaveShares, AreTablesTaken, ◌⊎◌, Bool, IsPermutation, append_assoc, is_eq, eq_by_cmp, find, FoldsTo, option_or, Mut}
use Rattle.raft_shared.proofs.Common.{CalledAt, All-from_recursion, recursion_from_All, All-permutation, KeepsId, get_own, get_other, get_left, some_is, HoldsOwnTables, AreSlotTablesAdded}
use Rattle.raft_base.specs.declared.pipe_log.LogQueue.TheVariants.{Append, Rewrite}
use Rattle.std.proofs.Common.{IfOk}
use Rattle.raft_records.specs.declared.command.Command.TheVariants.{Clean}
use Rattle.raft_base.specs.declared.errors.Error.TheVariants as errors
use Rattle.std.specs.FinMap as finite
use Rattle.raft_records.specs.declared.command.Command.TheVariants as commands

of-with : (number : ℕ) (m : Tables) (id : ℕ) (t : Option Table) → AreOf number m → slot_of id ≡ number → AreOf number (with_table m id t)
of-with number m id t own e = λ q u g. elim (by_id q id) [
  | inl p ↦ ap slot_of p ∙ e
  | inr f ↦ own q u (sym (with_other m id q t f) ∙ g)
]

-- one region of the slot was changed, and the counts with it
pub kept-with : (a b : Inside) (id : ℕ) → IsSlotKept a → slot_of id ≡ a.number → b.number ≡ a.number → b.tables ≡ with_table a.tables id (finite.get b.tables id)
    → IsRecounted (table_in a.tables id) (table_in b.tables id) a.stats b.stats → AllByRecursion (λ id. slot_of id ≡ a.number) b.cleaned.items → IsSlotKept b
kept-with a b id kept e n one recounted l = record {
  bound = subst (λ k. k < 128) (sym n) kept.bound;
  regions = subst (λ m. AreOf b.number m) (sym one) (subst (λ k. AreOf k (with_table a.tables id (finite.get b.tables id))) (sym n) (of-with a.number a.tables id (finite.get b.tables id) kept.regions e));
  counted = subst (λ m. AreCountsOf m b.stats) (sym one) (counted-with a.tables a.stats b.stats id (finite.get b.tables id) kept.counted recounted);
  cleaned = subst (λ k. AllByRecursion (λ id. slot_of id ≡ k) b.cleaned.items) (sym n) l;
}

-- .. and the list stays
pub kept-by : {a : Inside} {s : Slot} {m : Tables} (k : Counts) (id : ℕ) → IsSlotKept a → slot_shown a ≡ s → slot_of id ≡ s.number → m ≡ with_table a.tables id (finite.get m id)
    → IsRecounted (table_in a.tables id) (table_in m id) a.stats k → IsSlotKept (record a { tables = m; stats = k })
kept-by {a} {s} {m} k id kept is e one recounted = kept-with a (record a { tables = m; stats = k }) id kept (e ∙ sym (ap (λ (s : Slot). s.number) is)) refl one recounted kept.cleaned

-- ---- lists of cleaned regions

all-cleaned : (P : ℕ → Type 0) (id : ℕ) (c : Content) → P id → AllByRecursion P (cleaned_by_content id c)
all-cleaned P id (command commands.Clean) p = (p, tt)
all-cleaned P id _ p = tt

all-listed : (P : ℕ → Type 0) (w : Writing) (item : Item) → P item.raft_group_id → AllByRecursion P (listed_by w item)
all-listed P w item p = elim (lists w) as (λ b. AllByRecursion P (if b then cleaned_by_content item.raft_group_id item.content else [])) [
  | true ↦ all-cleaned P item.raft_group_id item.content p
  | false ↦ tt
]

pub all-after : (P : ℕ → Type 0) (w : Writing) (item : Item) (r : Result Unit Error) (old new : List ℕ) → P item.raft_group_id → AllByRecursion P old → OnOk r (new ≡ old ++ listed_by w item) → OnErr r (new ≡ old) → AllByRecursion P new
all-after P w item r old new p h = elim r as (λ r. OnOk r (new ≡ old ++ listed_by w item) → OnErr r (new ≡ old) → AllByRecursion P new) [
  | Ok x ↦ λ e f. subst (AllByRecursion P) (sym e) (each-append P old (listed_by w item) h (all-listed P w item p))
  | Err x ↦ λ e f. subst (AllByRecursion P) (sym f) h
]

-- ---- calls

-- a change of a table
pub slot-changed : {R : Type 0} {outcome : Option Table} {IsFault : Error → Type 0} {m : Tables} {k : Counts} {id : ℕ} {r : Result R Error} (a : Inside) → BecomesOutcome outcome IsFault a.tables id a.stats r m k
    → IsTableChanged outcome IsFault id r (slot_shown a).content (record (slot_shown a).content { tables = m; counts = k })
slot-changed {id = id} {r = r} a t = record {
  ok = t.ok;
  others = on_ok_weaker r (λ e. t.one ∙ ap (with_table a.tables id) e) t.there;
  err = t.err;
  counts_err = t.counts_err;
  fault = t.fault;
  cleaned = refl;
}

-- an item written to its region's table
pub slot-written : (w : Writing) (a b : Inside) (item : Item) (r : Result Unit Error) → IsSlotKept a →
    IsItemWritten w item a.tables a.stats a.cleaned.items r b.tables b.stats b.cleaned.items →
    IsWritten w item r (slot_shown a).content (slot_shown b).content
slot-written w a b item r kept t = record {
  ok = elim r as (λ r. IsItemWritten w item a.tables a.stats a.cleaned.items r b.tables b.stats b.cleaned.items → OnOk r (AreWritten w (item ∷ []) (slot_shown a).content (slot_shown b).content)) [
    | Ok x ↦ λ t. record {
      asked = (t.asked, tt);
      accepted = (t.accepted, λ u e. tt);
      tables = ap (option_and_then (λ o. Some (with_table a.tables item.raft_group_id o))) t.ok ∙ ap Some (sym t.one);
      cleaned = t.cleaned ∙ ap (λ l. a.cleaned.items ++ l) (sym (append-nil (listed_by w item)));
      counts = λ u e. t.counts_ok;
    }
    | Err x ↦ λ t. tt
  ] t;
  err = t.err;
  counts_err = t.counts_err;
  cleaned = t.cleaned_err;
  fault = subst (λ n. IfErr r (IsWriteFault w item.raft_group_id (finite.get a.tables item.raft_group_id) n item.content)) (kept.counted (queue_of w)) t.fault;
}

-- ---- a slot without tables, with one less, and with one more cleaned region

pub kept-none : (a : Inside) → a.number < 128 → a.tables ≡ finite.empty → a.stats ≡ record { append = 0; written = 0; deleted = 0 } → a.cleaned.items ≡ [] → IsSlotKept a
kept-none a lt e z l = record {
  bound = lt;
  regions = λ id t g. absurd (none_some (sym (finite.get-empty nat_cmp id) ∙ ap (λ m. finite.get m id) (sym e) ∙ g));
  counted = λ q. elim q as (λ q. live q a.stats ≡ live_in_all q a.tables) [ Append ↦ rw (z, e) (sym (live-none Append)) | Rewrite ↦ rw (z, e) (sym (live-none Rewrite)) ];
  cleaned = subst (AllByRecursion (λ id. slot_of id ≡ a.number)) (sym l) tt;
}

pub kept-taken : (a b : Inside) (id : ℕ) → IsSlotKept a → slot_of id ≡ a.number → b.number ≡ a.number → b.tables ≡ finite.remove a.tables id →
    IsRecounted (table_in a.tables id) (empty_table id) a.stats b.stats → b.cleaned.items ≡ a.cleaned.items → IsSlotKept b
kept-taken a b id kept e n gone recounted l =
    let none : finite.get b.tables id ≡ None = ap (λ m. finite.get m id) gone ∙ get_gone a.tables id in
    kept-with a b id kept e n (gone ∙ ap (with_table a.tables id) (sym none))
    (subst (λ t. IsRecounted (table_in a.tables id) t a.stats b.stats) (sym (ap (table_of id) none)) recounted)
    (subst (AllByRecursion (λ id. slot_of id ≡ a.number)) (sym l) kept.cleaned)

pub kept-listed : (a b : Inside) (xs : List ℕ) → IsSlotKept a → b.number ≡ a.number → b.tables ≡ a.tables → b.stats ≡ a.stats → b.cleaned.items ≡ xs → AllByRecursion (λ id. slot_of id ≡ a.number) xs → IsSlotKept b
kept-listed a b xs kept n t s l h = record {
  bound = subst (λ k. k < 128) (sym n) kept.bound;
  regions = subst (AreOf b.number) (sym t) (subst (λ k. AreOf k a.tables) (sym n) kept.regions);
  counted = subst (λ m. AreCountsOf m b.stats) (sym t) (subst (AreCountsOf a.tables) (sym s) kept.counted);
  cleaned = subst (AllByRecursion (λ id. slot_of id ≡ b.number)) (sym l) (subst (λ k. AllByRecursion (λ id. slot_of id ≡ k) xs) (sym n) h);
}

-- ---- calls of tables that threads share

abbrev cleans : List ℕ → List Item
cleans ids = map (λ id. command_item id Clean) ids

raised-cleans : (s : ℕ) (ids : List ℕ) → map (raised_item s) (cleans ids) ≡ cleans ids
raised-cleans s [] = refl
raised-cleans s (id ∷ ids) = ap (λ l. command_item id Clean ∷ l) (raised-cleans s ids)

pub joined-cleans : (b c : Batch) (ids : List ℕ) → c ≡ record empty_batch { items = cleans ids } → with_batch b c ≡ record b { items = b.items ++ cleans ids }
joined-cleans b c ids e =
    ap (with_batch b) e ∙ ap (λ l. record b { items = b.items ++ l; entry_bytes = b.entry_bytes ++ [] }) (raised-cleans (length b.entry_bytes) ids)
    ∙ ap (λ l. record b { items = b.items ++ cleans ids; entry_bytes = l }) (append-nil b.entry_bytes)

-- an error that can be no other
pub only-memory : (e : Error) → (e ≢ errors.Memory → ⊥) → e ≡ errors.Memory
only-memory errors.Memory h = refl
only-memory e h = absurd (h (λ p. cc))

pub no_cleans : (a : Batch) → HasCleans a a
no_cleans a = record { regions = []; moved = ap (λ l. record a { items = l }) (sym (append-nil a.items)) }

pub more_cleans : (a b c : Batch) (ids : List ℕ) → HasCleans a b → c ≡ record b { items = b.items ++ cleans ids } → HasCleans a c
more_cleans a b c ids h e = record {
  regions = h.regions ++ ids;
  moved = e ∙ ap (λ (x : Batch). record x { items = x.items ++ cleans ids }) h.moved
      ∙ ap (λ l. record a { items = l }) (append_assoc a.items (cleans h.regions) (cleans ids) ∙ ap (λ l. a.items ++ l) (sym (map-append (λ id. command_item id Clean) h.regions ids)));
}

-- a call that answers one change, whatever the table
pub number_of : {F : Type 0} (g : Once F (Bor Table × Unit {0}) TableChange) (f : F) (change : TableChange) (id : ℕ) (r : Result ℕ Error) →
    ((a : Bor Table × Unit {0}) (b : TableChange) → g.post f a b → b ≡ change) → IfOk r (IsChangeAnswer g f id) → IfOk r (IsNumberOf change id)
number_of g f change id (Ok n) gives h =
    let is = gives (h.4.0, tt) h.2 h.4.1 in
    (h.0, h.1, h.3, subst (λ b. after_change h.0 b ≡ Some h.1) is h.5, subst (λ b. IsAnswer b h.0 h.1 n) is h.6, subst IsAllowed is h.7)
number_of g f change id (Err e) gives h = tt

pub refusal_of : {F : Type 0} (g : Once F (Bor Table × Unit {0}) TableChange) (f : F) (change : TableChange) (id : ℕ) (r : Result ℕ Error) →
    ((a : Bor Table × Unit {0}) (b : TableChange) → g.post f a b → b ≡ change) → IfErr r (IsChangeRefusal g f id) → IfErr r (IsRefusalOf change id)
refusal_of g f change id (Ok n) gives h = tt
refusal_of g f change id (Err e) gives (inl h) = inl h
refusal_of g f change id (Err e) gives (inr h) = inr (h.0, h.1, h.3, subst (λ b. IsChangeFault h.0 h.1 b e) (gives (h.4.0, tt) h.2 h.4.1) h.5)

-- an item that was written has an outcome
with_outcome : {X : Type 0} (w : Writing) (item : Item) (before : Option Table) (o : Option (Option Table)) (f : Option Table → Option X) (x : X) →
    IsFor w item.content → after_content w item.raft_group_id before item.content ≡ o → option_and_then f o ≡ Some x → MayBeWritten w item
with_outcome w item before None f x asked is e = absurd (none_some e)
with_outcome w item before (Some after) f x asked is e = record { asked = asked; before = before; after = after; outcome = is }

pub one_written_so : {R E : Type 0} (w : Writing) (item : Item) (r : Result R E) (a b : Accessor) → OnOk r (AreWritten w (item ∷ []) a b) → OnOk r (MayBeWritten w item)
one_written_so w item (Ok x) a b h = with_outcome w item (finite.get a.tables item.raft_group_id) _ _ b.tables h.asked.0 refl h.tables
one_written_so w item (Err e) a b h = tt

pub one_refused_so : (w : Writing) (item : Item) (r : Result Unit Error) (a b : Accessor) → IsWritten w item r a b → IfErr r (IsSharedItemFault w item)
one_refused_so w item (Ok x) a b h = tt
one_refused_so w item (Err e) a b h = inr (finite.get a.tables item.raft_group_id, live_in_all (queue_of w) a.tables, h.fault)

-- ---- an accessor's tables and cleaned regions shared out to slots

-- the slot that an index finds has its share
pub share-at : (m : Tables) (ids : List ℕ) (k : ℕ) (ss : List Slot) (i : ℕ) (d : Slot) → HaveShares m ids k ss → i < length ss → HasShare m ids (k + i) (slice_index_or ss i d)
share-at m ids k [] i d h lt = absurd (omega (arith, lt))
share-at m ids k (s ∷ ss) zero d h lt = subst (λ n. HasShare m ids n s) (omega arith) h.0
share-at m ids k (s ∷ ss) (suc i) d h lt = subst (λ n. HasShare m ids n (slice_index_or ss i d)) (omega arith) (share-at m ids (suc k) ss i d h.1 (omega (arith, lt)))

-- one slot more
pub shares-more : (m : Tables) (ids : List ℕ) (k : ℕ) (ss : List Slot) (s : Slot) → HaveShares m ids k ss → HasShare m ids (k + length ss) s → HaveShares m ids k (ss ++ s ∷ [])
shares-more m ids k [] s h one = (subst (λ n. HasShare m ids n s) (omega arith) one, tt)
shares-more m ids k (x ∷ ss) s h one = (h.0, shares-more m ids (suc k) ss s h.1 (subst (λ n. HasShare m ids n s) (omega arith) one))

-- tables of regions of slots from this number on are as they were
abbrev pub AreLeft : ℕ → Tables → Tables → Type 0
AreLeft i before now = (id : ℕ) → i ≤ slot_of id → finite.get now id ≡ finite.get before id

pub share-taken : (m : Tables) (i : ℕ) (empty s : Slot) (a b : Accessor) → empty.number ≡ i → empty.content.cleaned ≡ [] → AreTablesTaken empty s a b → AreLeft i m a.tables → HasShare m [] i s
share-taken m i empty s a b number none taken left = record {
  number = taken.number ∙ number;
  tables = λ id e. taken.tables.taken id (e ∙ sym number) ∙ left id (omega (arith, e));
  cleaned = taken.cleaned ∙ none;
}

pub left-taken : (m : Tables) (i : ℕ) (empty s : Slot) (a b : Accessor) → empty.number ≡ i → AreTablesTaken empty s a b → AreLeft i m a.tables → AreLeft (i + 1) m b.tables
left-taken m i empty s a b number taken left = λ id le. taken.tables.others id (λ e. omega (arith, le, e, number)) ∙ left id (omega (arith, le))

-- ---- cleaned regions

one-kept : (id n : ℕ) → slot_of id ≡ n → filter (λ id. slot_of id == n) (id ∷ []) ≡ id ∷ []
one-kept id n e = ap (λ b. cond b (id ∷ []) []) (subst (λ k. (slot_of id == k) ≡ true) e (self_same (slot_of id)))

none-kept : (id n : ℕ) → slot_of id ≢ n → filter (λ id. slot_of id == n) (id ∷ []) ≡ []
none-kept id n ne = ap (λ b. cond b (id ∷ []) []) (ne_eqb (slot_of id) n ne)

-- a region of the slot is listed
share-listed : (m : Tables) (ids : List ℕ) (id n : ℕ) (d s : Slot) → HasShare m ids n d → slot_of id ≡ n → s ≡ record d { content = record d.content { cleaned = d.content.cleaned ++ id ∷ [] } } → HasShare m (ids ++ id ∷ []) n s
share-listed m ids id n d s h e is = subst (HasShare m (ids ++ id ∷ []) n) (sym is) (record {
  number = h.number;
  tables = h.tables;
  cleaned = ap (λ l. l ++ id ∷ []) h.cleaned ∙ ap (λ l. filter (λ id. slot_of id == n) ids ++ l) (sym (one-kept id n e)) ∙ sym (filter-append (λ id. slot_of id == n) ids (id ∷ []));
})

-- a region of another slot is listed
share-kept : (m : Tables) (ids : List ℕ) (id n : ℕ) (s : Slot) → HasShare m ids n s → slot_of id ≢ n → HasShare m (ids ++ id ∷ []) n s
share-kept m ids id n s h ne = record {
  number = h.number;
  tables = h.tables;
  cleaned = h.cleaned ∙ sym (append-nil _) ∙ ap (λ l. filter (λ id. slot_of id == n) ids ++ l) (sym (none-kept id n ne)) ∙ sym (filter-append (λ id. slot_of id == n) ids (id ∷ []));
}

shares-kept : (m : Tables) (ids : List ℕ) (id k : ℕ) (ss : List Slot) → HaveShares m ids k ss → slot_of id < k → HaveShares m (ids ++ id ∷ []) k ss
shares-kept m ids id k [] h lt = tt
shares-kept m ids id k (s ∷ ss) h lt = (share-kept m ids id k s h.0 (λ e. omega (arith, lt, e)), shares-kept m ids id (suc k) ss h.1 (omega (arith, lt)))

pub shares-listed : (m : Tables) (ids : List ℕ) (id k : ℕ) (ss : List Slot) (i : ℕ) (d s : Slot) → HaveShares m ids k ss → i < length ss → slot_of id ≡ k + i → d ≡ slice_index_or ss i d
    → s ≡ record d { content = record d.content { cleaned = d.content.cleaned ++ id ∷ [] } } → HaveShares m (ids ++ id ∷ []) k (slice_set ss i s)
shares-listed m ids id k [] i d s h lt e lent is = absurd (omega (arith, lt))
shares-listed m ids id k (x ∷ ss) zero d s h lt e lent is =
    (share-listed m ids id k d s (subst (HasShare m ids k) (sym lent) h.0) (omega (arith, e)) is, shares-kept m ids id (suc k) ss h.1 (omega (arith, e)))
shares-listed m ids id k (x ∷ ss) (suc i) d s h lt e lent is =
    (share-kept m ids id k x h.0 (λ f. omega (arith, e, f)), shares-listed m ids id (suc k) ss i d s h.1 (omega (arith, lt)) (omega (arith, e)) lent is)

-- ---- a slot's tables moved to an accessor, one after the other

-- a number is one of these
abbrev pub IsAmong : ℕ → List ℕ → Type 0
IsAmong q [] = ⊥
IsAmong q (x ∷ xs) = (q ≡ x) ⊎ IsAmong q xs

-- only regions with these ids have tables
abbrev pub HasOnly : List ℕ → Tables → Type 0
HasOnly ids m = (q : ℕ) (t : Table) → finite.get m q ≡ Some t → IsAmong q ids

-- ---- the ids of all tables

all-ids : (ts : List Table) → AllByRecursion (λ (t : Table). IsAmong t.region_id (map (λ (t : Table). t.region_id) ts)) ts
all-ids [] = tt
all-ids (t ∷ ts) = let ids = map (λ (u : Table). u.region_id) ts in (inl refl, each_weaker (λ (u : Table). IsAmong u.region_id ids) (λ (u : Table). IsAmong u.region_id (t.region_id ∷ ids)) (λ u i. inr i) ts (all-ids ts))

-- a closure that keeps all ids
pub kept-all : {F : Type 0} (g : Mut F (Bor Table × Unit {0}) Bool) (p q : F × List ℕ) (ts : List Table) →
    ((f f' : F) (t : Table) (b : Bool) → CalledAt g f t b f' → b ≡ true) → FoldsTo (KeepsId g) p ts q →
    q.1 ≡ p.1 ++ map (λ (t : Table). t.region_id) ts
kept-all g p q [] all h = sym (ap (λ (x : _ × List ℕ). x.1) h) ∙ sym (append-nil p.1)
kept-all g p q (t ∷ ts) all h =
    kept-all g h.0 q ts all h.2 ∙ ap (λ l. l ++ map (λ (t : Table). t.region_id) ts) (h.1.2 ∙ ap (λ b. if b then p.1 ++ t.region_id ∷ [] else p.1) (all p.0 h.0.0 t h.1.0 h.1.1))
    ∙ append_assoc p.1 (t.region_id ∷ []) (map (λ (t : Table). t.region_id) ts)

found-in : (P : Table → Type 0) (es : List (ℕ × Table)) (q : ℕ) (t : Table) → AllByRecursion P (map (λ e. e.1) es) → find nat_cmp q es ≡ Some t → P t
found-in P [] q t h e = absurd (none_some e)
found-in P (x ∷ es) q t h e =
    elim (is_eq (nat_cmp q x.0)) as (λ b. cond b (Some x.1) (find nat_cmp q es) ≡ Some t → P t) [
      | true ↦ λ e. subst P (some_is e) h.0
      | false ↦ λ e. found-in P es q t h.1 e
    ] e

pub only-ids : (m : Tables) (ts : List Table) → ((id : ℕ) (t : Table) → finite.get m id ≡ Some t → t.region_id ≡ id) → IsPermutation ts (finite.values m) → HasOnly (map (λ (t : Table). t.region_id) ts) m
only-ids m ts own moved q t e =
    let ids = map (λ (t : Table). t.region_id) ts in
    let P : Table → Type 0 = λ t. IsAmong t.region_id ids in
    let values = recursion_from_All P (finite.values m) (All-permutation P ts (finite.values m) moved (All-from_recursion P ts (all-ids ts))) in
    subst (λ k. IsAmong k ids) (own q t e) (found-in P (finite.entries m) q t values (sym (finite.get-entries m q) ∙ e))

-- ---- one table taken away

pub none-removed : (m n : Tables) (id q : ℕ) → n ≡ finite.remove m id → finite.get m q ≡ None → finite.get n q ≡ None
none-removed m n id q gone e = ap (λ m. finite.get m q) gone ∙ elim (by_id q id) [ inl p ↦ ap (finite.get (finite.remove m id)) p ∙ get_gone m id | inr f ↦ get_left m id q f ∙ e ]

pub other-removed : (m n : Tables) (id q : ℕ) → n ≡ finite.remove m id → q ≢ id → finite.get n q ≡ finite.get m q
other-removed m n id q gone ne = ap (λ m. finite.get m q) gone ∙ elim (by_id q id) [ inl p ↦ absurd (ne p) | inr f ↦ get_left m id q f ]

-- ---- one table moved

-- what a slot has of a region or, where it has nothing, an accessor
abbrev pub either : Tables → Tables → ℕ → Option Table
either slot core q = option_or (finite.get slot q) (finite.get core q)

pub either-moved : (slot core slot' core' : Tables) (x : ℕ) → slot' ≡ finite.remove slot x →
    ((t : Table) → finite.get slot x ≡ Some t → core' ≡ finite.insert core x t) → (finite.get slot x ≡ None → core' ≡ core) → (q : ℕ) →
    either slot' core' q ≡ either slot core q
either-moved slot core slot' core' x gone some none q =
    elim (by_id q x) [
      | inl p ↦ subst (λ q. either slot' core' q ≡ either slot core q) (sym p) (here (finite.get slot x) refl)
      | inr f ↦ ap (λ o. option_or o (finite.get core' q)) (ap (λ m. finite.get m q) gone ∙ get_left slot x q f) ∙ ap (option_or (finite.get slot q)) (there (finite.get slot x) refl f)
    ]
  where
    here : (o : Option Table) → finite.get slot x ≡ o → either slot' core' x ≡ either slot core x
    here None e = ap (λ o. option_or o (finite.get core' x)) (ap (λ m. finite.get m x) gone ∙ get_gone slot x) ∙ ap (λ m. finite.get m x) (none e) ∙ sym (ap (λ o. option_or o (finite.get core x)) e)
    here (Some t) e = ap (λ o. option_or o (finite.get core' x)) (ap (λ m. finite.get m x) gone ∙ get_gone slot x) ∙ ap (λ m. finite.get m x) (some t e) ∙ get_own core x t ∙ sym (ap (λ o. option_or o (finite.get core x)) e)

    there : (o : Option Table) → finite.get slot x ≡ o → eq_by_cmp nat_cmp q x ≡ false → finite.get core' q ≡ finite.get core q
    there None e f = ap (λ m. finite.get m q) (none e)
    there (Some t) e f = ap (λ m. finite.get m q) (some t e) ∙ get_other core x q t f

pub only-moved : (slot slot' : Tables) (x : ℕ) (xs : List ℕ) → slot' ≡ finite.remove slot x → HasOnly (x ∷ xs) slot → HasOnly xs slot'
only-moved slot slot' x xs gone only q t e =
    elim (by_id q x) [
      | inl p ↦ absurd (none_some (sym (ap (λ m. finite.get m q) gone ∙ ap (finite.get (finite.remove slot x)) p ∙ get_gone slot x) ∙ e))
      | inr f ↦ elim (only q t (sym (get_left slot x q f) ∙ sym (ap (λ m. finite.get m q) gone) ∙ e)) [
        | inl p ↦ absurd (none_some (sym (ap (λ m. finite.get m q) gone ∙ ap (finite.get (finite.remove slot x)) p ∙ get_gone slot x) ∙ e))
        | inr h ↦ h
      ]
    ]

nothing-left : (m : Tables) (q : ℕ) → HasOnly [] m → finite.get m q ≡ None
nothing-left m q h = elim (finite.get m q) as (λ o. finite.get m q ≡ o → o ≡ None) [ None ↦ λ e. refl | Some t ↦ λ e. absurd (h q t e) ] refl

-- all tables were moved
pub added-all : (s : Slot) (left old listed new : Tables) → HoldsOwnTables s → ((id : ℕ) → finite.get old id ≡ None → finite.get listed id ≡ None) → ((id : ℕ) → slot_of id ≢ s.number → finite.get listed id ≡ finite.get old id)
    → HasOnly [] left → ((q : ℕ) → either left new q ≡ either s.content.tables listed q) → AreSlotTablesAdded s old new
added-all s left old listed new own none others gone same =
    let is : (q : ℕ) → finite.get new q ≡ either s.content.tables listed q = λ q. ap (λ o. option_or o (finite.get new q)) (sym (nothing-left left q gone)) ∙ same q in
    record {
      added = λ id t e. is id ∙ ap (λ o. option_or o (finite.get listed id)) e;
      none = λ id e f. is id ∙ ap (λ o. option_or o (finite.get listed id)) e ∙ none id f;
      others = λ id ne. is id ∙ ap (λ o. option_or o (finite.get listed id)) (not-there id ne (finite.get s.content.tables id) refl) ∙ others id ne;
    }
  where
    not-there : (id : ℕ) → slot_of id ≢ s.number → (o : Option Table) → finite.get s.content.tables id ≡ o → o ≡ None
    not-there id ne None e = refl
    not-there id ne (Some t) e = absurd (ne (own.tables id t e).slot)
