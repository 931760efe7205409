-- What an overlay reads of a mark, of one step and of two neighbors.
use Rattle.std.proofs.Math.Bool.{or_assoc, or_comm, or-false}
use Rattle.raft_table.proofs.Common.{◌≡◌, ℕ, ◌≤◌, max, Bool, true, false, cond, ◌||◌, List, [], ◌∷◌, ◌++◌, Option, Some, None, refl, sym, ap, ◌∙◌, arith, nat_cmp, eq_by_cmp, slice_cmp, nat_list_cmp_total, option_or, false≢true, LogQueue}
use Rattle.raft_table.proofs.Common.{EntryIndex, KeySet, Step, Run, Compact, Truncate, Put, Del, AtomicGroup, Clean, Mark, FitsCut, Fits, joined_deleted, joined_uncleaned, joined_at, fresh, mark_of, lesser, has_clean, greatest_compaction}
use Rattle.raft_table.proofs.Common.{least_cut, deleted_of, HoldsDeleted, IsExactMark, not, length, map, Global, Vec, Ordering, list_any, AllByRecursion, IsStrictlySortedBy, match_ordering, insert_entry, keys_of, slice_cmp-IsAntisymmetric}
use Rattle.raft_table.proofs.Common.{is_some, lookup, nat_cmp-IsAntisymmetric, sorted_head, sorted_tail, without, Keys}
use Rattle.raft_base.specs.declared.pipe_log.LogQueue.TheVariants.{Append, Rewrite}
use Rattle.std.specs.declared.cmp.Ordering.TheVariants.{Less, Equal, Greater}
use Rattle.raft_table.proofs.KeyValueCounts.{has, key_cmp}
use Rattle.raft_table.proofs.MarkTables.{get-without, same_keys}
use Rattle.std.specs.FinSet as finset
use Rattle.std.specs.FinMap as finite

pub same_set : (a b : KeySet) → ((q : List ℕ) → finset.contains a q ≡ finset.contains b q) → a ≡ b
same_set a b h = finset.same_set nat_list_cmp_total (slice_cmp-IsAntisymmetric nat_cmp-IsAntisymmetric) a b h

pub union_assoc : (a b c : KeySet) → finset.union (finset.union a b) c ≡ finset.union a (finset.union b c)
union_assoc a b c = same_set _ _ (λ q. simp (finset.contains-union nat_list_cmp_total) (or_assoc (finset.contains a q) (finset.contains b q) (finset.contains c q)))

pub union_empty : (a : KeySet) → finset.union a finset.empty ≡ a
union_empty a = same_set _ _ (λ q. simp (finset.contains-union nat_list_cmp_total, finset.contains-empty (slice_cmp nat_cmp)) (or-false _))

pub empty_union : (a : KeySet) → finset.union finset.empty a ≡ a
empty_union a = same_set _ _ (λ q. simp (finset.contains-union nat_list_cmp_total, finset.contains-empty (slice_cmp nat_cmp)))

pub union_one : (a : KeySet) (key : List ℕ) → finset.insert a key ≡ finset.union a (finset.insert finset.empty key)
union_one a key = same_set _ _ (λ q. simp (finset.contains-union nat_list_cmp_total, finset.contains-insert nat_list_cmp_total, finset.contains-empty (slice_cmp nat_cmp), or-false)
    (or_comm (eq_by_cmp (slice_cmp nat_cmp) q key) (finset.contains a q)))

pub lesser_assoc : (a b c : Option ℕ) → lesser (lesser a b) c ≡ lesser a (lesser b c)
lesser_assoc None b c = refl
lesser_assoc (Some a) None c = refl
lesser_assoc (Some a) (Some b) None = refl
lesser_assoc (Some a) (Some b) (Some c) = ap (λ x. Some x) (omega arith)

-- what an overlay reads of steps, with more behind them
abbrev IsReadOn : List Step → List Step → Type 0
IsReadOn ss rs =
    (has_clean (ss ++ rs) ≡ (has_clean ss || has_clean rs)) × (greatest_compaction (ss ++ rs) ≡ max (greatest_compaction ss) (greatest_compaction rs))
    × (least_cut (ss ++ rs) ≡ lesser (least_cut ss) (least_cut rs)) × ((d : KeySet) → deleted_of d (ss ++ rs) ≡ deleted_of (deleted_of d ss) rs)

read_on : (ss rs : List Step) → IsReadOn ss rs
read_on [] rs = (refl, omega arith, refl, λ d. refl)
read_on (Run [] ∷ ss) rs = read_on ss rs
read_on (Run (e ∷ run) ∷ ss) rs = let h = read_on ss rs in (h.0, h.1, ap (lesser (Some e.index)) h.2 ∙ sym (lesser_assoc (Some e.index) (least_cut ss) (least_cut rs)), h.3)
read_on (Compact i ∷ ss) rs = let h = read_on ss rs in (h.0, omega (arith, h.1), h.2, h.3)
read_on (Truncate i ∷ ss) rs = let h = read_on ss rs in (h.0, h.1, ap (lesser (Some i)) h.2 ∙ sym (lesser_assoc (Some i) (least_cut ss) (least_cut rs)), h.3)
read_on (Put k v f ∷ ss) rs = read_on ss rs
read_on (Del k ∷ ss) rs = let h = read_on ss rs in (h.0, h.1, h.2, λ d. h.3 (finset.insert d k))
read_on (AtomicGroup first_seq last_seq ∷ ss) rs = read_on ss rs
read_on (Clean ∷ ss) rs = let h = read_on ss rs in (refl, h.1, h.2, λ d. h.3 finset.empty)

same_deleted : (m : Mark) (ss : List Step) → m.cleaned ≡ has_clean ss → m.deleted ≡ finset.empty → ((d : KeySet) → deleted_of d ss ≡ d) → HoldsDeleted m ss
same_deleted m ss c e h = record { cleaned = c; deleted = λ _ d. h d ∙ sym (ap (finset.union d) e ∙ union_empty d); none_deleted = λ _. e }

pub holds_one : (s : Step) → HoldsDeleted (mark_of s) (s ∷ [])
holds_one (Run []) = same_deleted _ _ refl refl (λ d. refl)
holds_one (Run (x ∷ run)) = same_deleted _ _ refl refl (λ d. refl)
holds_one (Compact i) = same_deleted _ _ refl refl (λ d. refl)
holds_one (Truncate i) = same_deleted _ _ refl refl (λ d. refl)
holds_one (Put k v f) = same_deleted _ _ refl refl (λ d. refl)
holds_one (Del k) = record { cleaned = refl; deleted = λ e d. union_one d k; none_deleted = λ e. absurd (false≢true e) }
holds_one (AtomicGroup first_seq last_seq) = same_deleted _ _ refl refl (λ d. refl)
holds_one Clean = record { cleaned = refl; deleted = λ e d. absurd (false≢true (sym e)); none_deleted = λ e. refl }

pub exact_one : (s : Step) → IsExactMark (mark_of s) (s ∷ [])
exact_one (Run []) = record { holds = holds_one (Run []); greatest = λ e. refl; least = λ e. refl }
exact_one (Run (x ∷ run)) = record { holds = holds_one (Run (x ∷ run)); greatest = λ e. refl; least = λ e. refl }
exact_one (Compact i) = record { holds = holds_one (Compact i); greatest = λ e. omega arith; least = λ e. refl }
exact_one (Truncate i) = record { holds = holds_one (Truncate i); greatest = λ e. refl; least = λ e. refl }
exact_one (Put k v f) = record { holds = holds_one (Put k v f); greatest = λ e. refl; least = λ e. refl }
exact_one (Del k) = record { holds = holds_one (Del k); greatest = λ e. refl; least = λ e. refl }
exact_one (AtomicGroup first_seq last_seq) = record { holds = holds_one (AtomicGroup first_seq last_seq); greatest = λ e. refl; least = λ e. refl }
exact_one Clean = record { holds = holds_one Clean; greatest = λ e. absurd (false≢true (sym e)); least = λ e. absurd (false≢true (sym e)) }

pub clash : {X : Type 0} {b : Bool} → b ≡ true → b ≡ false → X
clash e f = absurd (false≢true (sym f ∙ e))

-- in both queues, told by what the joined mark has of the two
pub holds_join : (m n j : Mark) (ss rs : List Step) → HoldsDeleted m ss → HoldsDeleted n rs → j.cleaned ≡ cond m.cleaned true n.cleaned → j.deleted ≡ cond m.cleaned m.deleted (joined_deleted m n) → HoldsDeleted j (ss ++ rs)
holds_join m n j ss rs h k c d = go m.cleaned n.cleaned refl refl c d
  where
    clean : (b : Bool) → m.cleaned ≡ b → (b || has_clean rs) ≡ has_clean (ss ++ rs)
    clean b e = ap (λ x. x || has_clean rs) (sym e ∙ h.cleaned) ∙ sym ((read_on ss rs).0)

    go : (a b : Bool) → m.cleaned ≡ a → n.cleaned ≡ b → j.cleaned ≡ cond a true b → j.deleted ≡ cond a m.deleted (cond b n.deleted (finset.union m.deleted n.deleted)) → HoldsDeleted j (ss ++ rs)
    go true b e f c d = record { cleaned = c ∙ clean true e; deleted = λ z _. clash c z; none_deleted = λ _. d ∙ h.none_deleted e }
    go false true e f c d = record { cleaned = c ∙ sym f ∙ k.cleaned ∙ clean false e; deleted = λ z _. clash c z; none_deleted = λ _. d ∙ k.none_deleted f }
    go false false e f c d = record {
      cleaned = c ∙ sym f ∙ k.cleaned ∙ clean false e;
      deleted = λ _ x. (read_on ss rs).3 x ∙ k.deleted f (deleted_of x ss) ∙ ap (λ y. finset.union y n.deleted) (h.deleted e x) ∙ union_assoc x m.deleted n.deleted ∙ ap (finset.union x) (sym d);
      none_deleted = λ z. clash z c;
    }

-- a mark holds at most the keys deleted since the last clean
pub deleted_count : (m : Mark) (ss : List Step) → HoldsDeleted m ss → finset.len m.deleted ≤ finset.len (deleted_of finset.empty ss)
deleted_count m ss h = (elim m.cleaned as (λ b. m.cleaned ≡ b → finset.len m.deleted ≤ finset.len (deleted_of finset.empty ss))
    [ true ↦ λ e. omega (arith, ap finset.len (h.none_deleted e), finset.len-empty (slice_cmp nat_cmp)) | false ↦ λ e. omega (arith, ap finset.len (h.deleted e finset.empty ∙ empty_union m.deleted)) ]) refl

pub exact_join : (x : ℕ) (m n : Mark) (t : List EntryIndex) (ss rs : List Step) → {q : LogQueue} → Fits q m t → IsExactMark m ss → IsExactMark n rs → IsExactMark (joined_at Append x m n) (ss ++ rs)
exact_join x m n t ss rs {q} fits h k = by_cleaned m.cleaned refl
  where
    live_parts : (j : Mark) → m.cleaned ≡ false → j.cleaned ≡ n.cleaned → j.floor ≡ max m.floor n.floor → j.cut ≡ lesser m.cut n.cut → j.deleted ≡ joined_deleted m n → IsExactMark j (ss ++ rs)
    live_parts j e c l u d = record {
      holds = holds_join m n j ss rs h.holds k.holds (rw e c) (rw e d);
      greatest = λ z. l ∙ ap (max m.floor) (k.greatest (sym c ∙ z)) ∙ ap (λ y. max y (greatest_compaction rs)) (h.greatest e) ∙ sym ((read_on ss rs).1);
      least = λ z. u ∙ ap (lesser m.cut) (k.least (sym c ∙ z)) ∙ ap (λ y. lesser y (least_cut rs)) (h.least e) ∙ sym ((read_on ss rs).2);
    }

    by_run : (y z : Option ℕ) → m.cleaned ≡ false → m.cut ≡ z → FitsCut y z m t → IsExactMark (joined_uncleaned y z Append x m n) (ss ++ rs)
    by_run None z e u f = live_parts _ e refl refl refl refl
    by_run (Some r) None e u f = absurd f
    by_run (Some r) (Some c) e u f = live_parts _ e refl refl (ap (λ d. lesser d n.cut) (sym u)) refl

    by_cleaned : (b : Bool) → m.cleaned ≡ b → IsExactMark (cond b m (joined_uncleaned m.reach m.cut Append x m n)) (ss ++ rs)
    by_cleaned true e = record {
      holds = holds_join m n m ss rs h.holds k.holds (rw e refl) (rw e refl);
      greatest = λ z. clash e z;
      least = λ z. clash e z;
    }
    by_cleaned false e = by_run m.reach m.cut e refl (fits.uncleaned e)

omega_max : (i : ℕ) → max i 0 ≡ i
omega_max i = omega arith

pub none_behind : {X : Type 0} (b : Option X) → option_or b None ≡ b
none_behind None = refl
none_behind (Some p) = refl

same_cut : (c : Option ℕ) → lesser c None ≡ c
same_cut None = refl
same_cut (Some c) = refl

-- a step without a run, a compaction, a deleted key or a clean changes no mark
pub joined_fresh : (q : LogQueue) (x : ℕ) (m : Mark) → joined_at q x m fresh ≡ m
joined_fresh q x m = go q m.cleaned m.reach m.cut refl refl refl
  where
    same : (b : Bool) (y : Option ℕ) (barred : Option (ℕ × ℕ)) (floor : ℕ) (cut : Option ℕ) (d : KeySet) → b ≡ m.cleaned → y ≡ m.reach → barred ≡ m.barred → floor ≡ m.floor → cut ≡ m.cut → d ≡ m.deleted
        → ◌≡◌ {A = Mark} (record { cleaned = b; reach = y; reach_floor = m.reach_floor; reach_cut = m.reach_cut; barred = barred; floor = floor; cut = cut; deleted = d }) m
    same b y barred floor cut d e f g h k l = rw (e, f, g, h, k, l) refl

    go : (q : LogQueue) (b : Bool) (y z : Option ℕ) → m.cleaned ≡ b → m.reach ≡ y → m.cut ≡ z → ◌≡◌ {A = Mark} (cond b m (joined_uncleaned y z q x m fresh)) m
    go q true y z e f g = refl
    go q false None z e f g = same _ _ _ _ _ _ (sym e) (sym f) (none_behind m.barred) (omega_max m.floor) (same_cut m.cut) (union_empty m.deleted)
    go q false (Some r) None e f g = refl
    go Append false (Some r) (Some c) e f g = same _ _ _ _ _ _ (sym e) refl (none_behind m.barred) (omega_max m.floor) (sym g) (union_empty m.deleted)
    go Rewrite false (Some r) (Some c) e f g = same _ _ _ _ _ _ (sym e) refl refl (omega_max m.floor) (sym g) (union_empty m.deleted)

abbrev pub bytes_of : List (Vec ℕ Global × Unit {0}) → List (List ℕ)
bytes_of es = map (λ e. e.0.items) es

abbrev pub set_of : List (Vec ℕ Global × Unit {0}) → KeySet
set_of es = finset.from_list (bytes_of es)

-- a look-up finds a key that is among them
pub found-among : (q : List ℕ) (es : List (Vec ℕ Global × Unit {0})) → is_some (lookup (has q) es) ≡ list_any (eq_by_cmp (slice_cmp nat_cmp) q) (bytes_of es)
found-among q [] = refl
found-among q (e ∷ es) = go (has q e.0) (found-among q es)
  where
    go : (b : Bool) → is_some (lookup (has q) es) ≡ list_any (eq_by_cmp (slice_cmp nat_cmp) q) (bytes_of es) → is_some (cond b (Some e.1) (lookup (has q) es)) ≡ (b || list_any (eq_by_cmp (slice_cmp nat_cmp) q) (bytes_of es))
    go true rest = refl
    go false rest = rest

or_twice : (b x : Bool) → (b || (b || x)) ≡ (b || x)
or_twice true x = refl
or_twice false x = refl

or_swap : (a b x : Bool) → (a || (b || x)) ≡ (b || (a || x))
or_swap true true x = refl
or_swap true false x = refl
or_swap false b x = refl

insert-twice : (s : KeySet) (k : List ℕ) → finset.insert s k ≡ finset.insert (finset.insert s k) k
insert-twice s k = same_set _ _ (λ q. simp (finset.contains-insert nat_list_cmp_total) (sym (or_twice (eq_by_cmp (slice_cmp nat_cmp) q k) (finset.contains s q))))

insert-swap : (s : KeySet) (k j : List ℕ) → finset.insert (finset.insert s k) j ≡ finset.insert (finset.insert s j) k
insert-swap s k j = same_set _ _ (λ q. simp (finset.contains-insert nat_list_cmp_total) (or_swap (eq_by_cmp (slice_cmp nat_cmp) q j) (eq_by_cmp (slice_cmp nat_cmp) q k) (finset.contains s q)))

pub union-swap : (s t : KeySet) → finset.union s t ≡ finset.union t s
union-swap s t = same_set _ _ (λ q. simp (finset.contains-union nat_list_cmp_total) (or_comm (finset.contains s q) (finset.contains t q)))

pub set_of-insert_entry : (k : Vec ℕ Global) (es : List (Vec ℕ Global × Unit {0})) → set_of (insert_entry key_cmp es k tt) ≡ finset.insert (set_of es) k.items
set_of-insert_entry k [] = refl
set_of-insert_entry k (e ∷ es) = go (key_cmp k e.0) refl (set_of-insert_entry k es)
  where
    go : (r : Ordering) → key_cmp k e.0 ≡ r → set_of (insert_entry key_cmp es k tt) ≡ finset.insert (set_of es) k.items
        → set_of (match_ordering r ((k, tt) ∷ e ∷ es) ((e.0, tt) ∷ es) (e ∷ insert_entry key_cmp es k tt)) ≡ finset.insert (finset.insert (set_of es) e.0.items) k.items
    go Less t ih = refl
    go Equal t ih = let same : k.items ≡ e.0.items = slice_cmp-IsAntisymmetric nat_cmp-IsAntisymmetric k.items e.0.items t in rw same (insert-twice (set_of es) e.0.items)
    go Greater t ih = ap (λ s. finset.insert s e.0.items) ih ∙ insert-swap (set_of es) k.items e.0.items

not_among : (k : Vec ℕ Global) (es : List (Vec ℕ Global × Unit {0})) → AllByRecursion (λ y. key_cmp k y ≡ Less) (keys_of es) → list_any (eq_by_cmp (slice_cmp nat_cmp) k.items) (bytes_of es) ≡ false
not_among k [] h = refl
not_among k (e ∷ es) h = rw (h.0) (not_among k es h.1)

pub len-set_of : (es : List (Vec ℕ Global × Unit {0})) → IsStrictlySortedBy key_cmp (keys_of es) → finset.len (set_of es) ≡ length es
len-set_of [] h = finset.len-empty (slice_cmp nat_cmp)
len-set_of (e ∷ es) h =
    let new : finset.contains (set_of es) e.0.items ≡ false = finset.contains-from_list nat_list_cmp_total (bytes_of es) e.0.items ∙ not_among e.0 es (sorted_head key_cmp e.0 (keys_of es) h) in
    finset.len-insert nat_list_cmp_total (set_of es) e.0.items ∙ (rw new (omega (arith, len-set_of es (sorted_tail key_cmp e.0 (keys_of es) h))))

-- the keys of the one set put to the other one by one
pub union-insert : (s r : KeySet) (k : List ℕ) → finset.union (finset.insert s k) r ≡ finset.union s (finset.insert r k)
union-insert s r k = same_set _ _ (λ q. simp (finset.contains-union nat_list_cmp_total, finset.contains-insert nat_list_cmp_total)
    (or_assoc (eq_by_cmp (slice_cmp nat_cmp) q k) (finset.contains s q) (finset.contains r q) ∙ or_swap (eq_by_cmp (slice_cmp nat_cmp) q k) (finset.contains s q) (finset.contains r q)))

abbrev pub removed : List (List ℕ) → Keys → Keys
removed [] keys = keys
removed (k ∷ ks) keys = removed ks (finite.remove keys k)

get-removed : (ks : List (List ℕ)) (keys : Keys) (q : List ℕ) → finite.get (removed ks keys) q ≡ cond (not (list_any (eq_by_cmp (slice_cmp nat_cmp) q) ks)) (finite.get keys q) None
get-removed [] keys q = refl
get-removed (k ∷ ks) keys q = get-removed ks (finite.remove keys k) q ∙ (rw (finite.get-remove nat_list_cmp_total keys k q) (go (eq_by_cmp (slice_cmp nat_cmp) q k) (list_any (eq_by_cmp (slice_cmp nat_cmp) q) ks)))
  where
    go : (a b : Bool) → cond (not b) (cond a None (finite.get keys q)) None ≡ cond (not (a || b)) (finite.get keys q) None
    go true true = refl
    go true false = refl
    go false b = refl

pub removed-without : (ks : List (List ℕ)) (keys : Keys) → removed ks keys ≡ without (finset.from_list ks) keys
removed-without ks keys = same_keys _ _ (λ q. get-removed ks keys q ∙ sym (get-without (finset.from_list ks) keys q ∙ ap (λ b. cond (not b) (finite.get keys q) None) (finset.contains-from_list nat_list_cmp_total ks q)))
