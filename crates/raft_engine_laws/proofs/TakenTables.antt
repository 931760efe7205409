-- Steps that take something away of a table, and those that don't.
use Rattle.raft_engine_laws.proofs.Common.{◌≡◌, ℕ, Bool, true, false, cond, not, ◌||◌, List, [], ◌∷◌, Option, Some, None, refl, sym, ap, ◌∙◌, map, filter, is_some, ◌&&◌, AllByRecursion, list_any, nat_cmp, is_eq, slice_cmp, nat_list_cmp_total, find, is_some-find, eq_by_cmp_equiv}
use Rattle.raft_engine_laws.proofs.Common.{false≢true, any-filter_same, EntryIndex, Stored, speaks_of_index, is_same_key, Step, Run, Compact, Truncate, Put, Del, AtomicGroup, Clean, Table, takes_pair, takes_of, is_index_spoken, unspoken, is_key_dropped, drops_key, pair_left}
use Rattle.raft_engine_laws.proofs.Common.{AreRemovals}
use Rattle.std.proofs.Common.{Ordering, Less, Equal, Greater}
use Rattle.std.specs.FinMap as finite
use Rattle.raft_engine_laws.proofs.TestLemmas.{or_first, or_later, any_weaker}

-- ---- entries

-- a step that speaks of one of them speaks of some
abbrev IsAmong : List EntryIndex → EntryIndex → Type 0
IsAmong es e = (s : Step) → speaks_of_index e.index s ≡ true → list_any (λ (x : EntryIndex). speaks_of_index x.index s) es ≡ true

each_among : (es : List EntryIndex) → AllByRecursion (IsAmong es) es
each_among [] = tt
each_among (e ∷ es) = (λ s h. or_first _ _ h, weaker es (each_among es))
  where
    weaker : (l : List EntryIndex) → AllByRecursion (IsAmong es) l → AllByRecursion (IsAmong (e ∷ es)) l
    weaker [] h = tt
    weaker (x ∷ l) h = (λ s k. or_later _ _ (h.0 s k), weaker l h.1)

fewer_spoken : (p : Step → Bool) (ss : List Step) (es : List EntryIndex) → AllByRecursion (λ (e : EntryIndex). (s : Step) → speaks_of_index e.index s ≡ true → p s ≡ true) es → unspoken (filter p ss) es ≡ unspoken ss es
unfolding unspoken
fewer_spoken p ss [] h = refl
fewer_spoken p ss (e ∷ es) h =
    ap (λ b. cond (not b) (e ∷ unspoken (filter p ss) es) (unspoken (filter p ss) es)) (any-filter_same (speaks_of_index e.index) p true h.0 ss)
    ∙ ap (λ l. cond (not (is_index_spoken ss e.index)) (e ∷ l) l) (fewer_spoken p ss es h.1)

pub taken_entries : (old : Table) (ss : List Step) → unspoken (filter (takes_of old) ss) old.entries ≡ unspoken ss old.entries
taken_entries old ss = fewer_spoken (takes_of old) ss old.entries (weaker old.entries (each_among old.entries))
  where
    weaker : (l : List EntryIndex) → AllByRecursion (IsAmong old.entries) l → AllByRecursion (λ (e : EntryIndex). (s : Step) → speaks_of_index e.index s ≡ true → takes_of old s ≡ true) l
    weaker [] h = tt
    weaker (x ∷ l) h = (λ s k. or_first _ _ (h.0 s k), weaker l h.1)

-- ---- pairs

pub same_key : (q key : List ℕ) → is_same_key q key ≡ true → q ≡ key
same_key q key h = finite.slice_cmp-IsAntisymmetric finite.nat_cmp-IsAntisymmetric q key (equal (slice_cmp nat_cmp q key) h)
  where
    equal : (o : Ordering) → is_eq o ≡ true → o ≡ Equal
    equal Less e = absurd cc
    equal Equal e = refl
    equal Greater e = absurd cc

pub taken_pairs : (old : Table) (ss : List Step) (key : List ℕ) → pair_left (filter (takes_of old) ss) key (finite.get old.keys key) ≡ pair_left ss key (finite.get old.keys key)
taken_pairs old ss key = go (finite.get old.keys key) refl
  where
    none_any : (b : Bool) → cond b None None ≡ pair_left [] key None
    none_any true = refl
    none_any false = refl

    go : (o : Option Stored) → finite.get old.keys key ≡ o → pair_left (filter (takes_of old) ss) key o ≡ pair_left ss key o
    go None e = none_any (is_key_dropped (filter (takes_of old) ss) key) ∙ sym (none_any (is_key_dropped ss key))
    go (Some x) e = ap (λ b. cond b None (Some x)) (any-filter_same (drops_key key) (takes_of old) true (λ s h. or_later (list_any (λ (e : EntryIndex). speaks_of_index e.index s) old.entries) (takes_pair old s) (has s h)) ss)
      where
        has : (s : Step) → drops_key key s ≡ true → takes_pair old s ≡ true
        has (Del k) h = ap (λ q. is_some (finite.get old.keys q)) (sym (same_key key k h)) ∙ ap is_some e
        has Clean h = any_weaker (is_same_key key) (λ k. true) (λ k t. refl) (map (λ x. x.0) (finite.entries old.keys)) (sym (is_some-find (slice_cmp nat_cmp) key (finite.entries old.keys)) ∙ ap is_some (sym (finite.get-entries old.keys key) ∙ e))
        has (Run run) h = absurd (false≢true h)
        has (Compact i) h = absurd (false≢true h)
        has (Truncate i) h = absurd (false≢true h)
        has (Put k v f) h = absurd (false≢true h)
        has (AtomicGroup a b) h = absurd (false≢true h)

-- ---- steps that take something away, and no others

pub fewer_any : (q p : Step → Bool) (ss : List Step) → list_any q (filter p ss) ≡ true → list_any q ss ≡ true
fewer_any q p [] h = h
fewer_any q p (s ∷ ss) h = go (λ k. fewer_any q p ss k) (p s) h
  where
    or_both : (list_any q (filter p ss) ≡ true → list_any q ss ≡ true) → (b : Bool) → (b || list_any q (filter p ss)) ≡ true → (b || list_any q ss) ≡ true
    or_both rest true h = refl
    or_both rest false h = rest h

    go : (list_any q (filter p ss) ≡ true → list_any q ss ≡ true) → (b : Bool) → list_any q (cond b (s ∷ filter p ss) (filter p ss)) ≡ true → (q s || list_any q ss) ≡ true
    go rest true h = or_both rest (q s) h
    go rest false h = or_later (q s) (list_any q ss) (rest h)

pub fewer_removals : (p : Step → Bool) (ss : List Step) → AreRemovals ss → AreRemovals (filter p ss)
fewer_removals p [] h = tt
fewer_removals p (s ∷ ss) h = go (p s) (fewer_removals p ss h.1)
  where
    go : (b : Bool) → AreRemovals (filter p ss) → AreRemovals (cond b (s ∷ filter p ss) (filter p ss))
    go true k = (h.0, k)
    go false k = k

-- steps that take something away are those that a filter for it leaves
pub taken_take : (old : Table) (ss : List Step) → AllByRecursion (λ (s : Step). takes_of old s ≡ true) (filter (takes_of old) ss)
taken_take old [] = tt
taken_take old (s ∷ ss) = go (takes_of old s) refl (taken_take old ss)
  where
    go : (b : Bool) → takes_of old s ≡ b → AllByRecursion (λ (s : Step). takes_of old s ≡ true) (filter (takes_of old) ss) → AllByRecursion (λ (s : Step). takes_of old s ≡ true) (cond b (s ∷ filter (takes_of old) ss) (filter (takes_of old) ss))
    go true e rest = (e, rest)
    go false e rest = rest

-- ---- deletions

pub dels_drop : (ks : List (List ℕ)) (key : List ℕ) → is_key_dropped (map Del ks) key ≡ list_any (is_same_key key) ks
dels_drop [] key = refl
dels_drop (k ∷ ks) key = ap (λ b. is_same_key key k || b) (dels_drop ks key)

pub dels_speak : (ks : List (List ℕ)) (i : ℕ) → is_index_spoken (map Del ks) i ≡ false
dels_speak [] i = refl
dels_speak (k ∷ ks) i = dels_speak ks i

pub dels_removals : (ks : List (List ℕ)) → AreRemovals (map Del ks)
dels_removals [] = tt
dels_removals (k ∷ ks) = (tt, dels_removals ks)

pub any_kept : (c : List ℕ → Bool) (key : List ℕ) (ks : List (List ℕ)) → list_any (is_same_key key) (filter c ks) ≡ (c key && list_any (is_same_key key) ks)
any_kept c key [] = sym (none (c key))
  where
    none : (b : Bool) → (b && false) ≡ false
    none true = refl
    none false = refl
any_kept c key (k ∷ ks) = go (c k) (is_same_key key k) refl refl (any_kept c key ks)
  where
    same : (b : Bool) → c k ≡ b → is_same_key key k ≡ true → c key ≡ b
    same b e f = ap c (same_key key k f) ∙ e

    go : (b s : Bool) → c k ≡ b → is_same_key key k ≡ s → list_any (is_same_key key) (filter c ks) ≡ (c key && list_any (is_same_key key) ks)
        → list_any (is_same_key key) (cond b (k ∷ filter c ks) (filter c ks)) ≡ (c key && (is_same_key key k || list_any (is_same_key key) ks))
    go true true e f ih =
        ap (λ x. x || list_any (is_same_key key) (filter c ks)) f
        ∙ sym (ap (λ x. c key && (x || list_any (is_same_key key) ks)) f ∙ ap (λ x. x && true) (same true e f))
    go true false e f ih = ap (λ x. x || list_any (is_same_key key) (filter c ks)) f ∙ ih ∙ sym (ap (λ x. c key && (x || list_any (is_same_key key) ks)) f)
    go false true e f ih = ih ∙ ap (λ x. x && list_any (is_same_key key) ks) (same false e f) ∙ sym (ap (λ x. x && (is_same_key key k || list_any (is_same_key key) ks)) (same false e f))
    go false false e f ih = ih ∙ sym (ap (λ x. c key && (x || list_any (is_same_key key) ks)) f)

-- ---- steps that take nothing away

neither : (a b : Bool) → (a || b) ≡ false → (a ≡ false) × (b ≡ false)
neither true b e = absurd (false≢true (sym e))
neither false b e = (refl, e)

off : (b : Bool) → (b ≡ true → ⊥) → b ≡ false
off true h = absurd (h refl)
off false h = refl

fewer_none : (p : Step → Bool) (ss : List Step) → AllByRecursion (λ s. p s ≡ false) ss → filter p ss ≡ []
fewer_none p [] h = refl
fewer_none p (s ∷ ss) h = ap (λ b. cond b (s ∷ filter p ss) (filter p ss)) h.0 ∙ fewer_none p ss h.1

-- steps that speak of none of some entries, one by one
pub each_quiet : (es : List EntryIndex) (ss : List Step) → AllByRecursion (λ (e : EntryIndex). is_index_spoken ss e.index ≡ false) es
    → AllByRecursion (λ (s : Step). list_any (λ (e : EntryIndex). speaks_of_index e.index s) es ≡ false) ss
each_quiet es [] h = tt
each_quiet es (s ∷ ss) h = (first es h, each_quiet es ss (rest es h))
  where
    first : (l : List EntryIndex) → AllByRecursion (λ (e : EntryIndex). is_index_spoken (s ∷ ss) e.index ≡ false) l → list_any (λ (e : EntryIndex). speaks_of_index e.index s) l ≡ false
    first [] h = refl
    first (e ∷ l) h = rw ((neither (speaks_of_index e.index s) (is_index_spoken ss e.index) h.0).0) (first l h.1)

    rest : (l : List EntryIndex) → AllByRecursion (λ (e : EntryIndex). is_index_spoken (s ∷ ss) e.index ≡ false) l → AllByRecursion (λ (e : EntryIndex). is_index_spoken ss e.index ≡ false) l
    rest [] h = tt
    rest (e ∷ l) h = ((neither (speaks_of_index e.index s) (is_index_spoken ss e.index) h.0).1, rest l h.1)

-- steps that take none of some pairs, one by one
abbrev pub IsQuiet : Table → List Step → Type 0
IsQuiet old ss = (key : List ℕ) → pair_left ss key (finite.get old.keys key) ≡ finite.get old.keys key

not_left : (b : Bool) (x : Stored) → cond b None (Some x) ≡ Some x → b ≡ false
not_left true x e = absurd cc
not_left false x e = refl

pub self_same : (key : List ℕ) → is_same_key key key ≡ true
self_same key = (eq_by_cmp_equiv nat_list_cmp_total).refl key

-- a pair that steps leave, none of them drops
not_dropped_there : (old : Table) (ss : List Step) (key : List ℕ) (x : Stored) → IsQuiet old ss → finite.get old.keys key ≡ Some x → is_key_dropped ss key ≡ false
not_dropped_there old ss key x quiet e = not_left (is_key_dropped ss key) x (ap (pair_left ss key) (sym e) ∙ quiet key ∙ e)

one_quiet : (old : Table) (s : Step) (ss : List Step) → IsQuiet old (s ∷ ss) → takes_pair old s ≡ false
one_quiet old (Del k) ss quiet = go (finite.get old.keys k) refl
  where
    go : (o : Option Stored) → finite.get old.keys k ≡ o → is_some (finite.get old.keys k) ≡ false
    go None e = ap is_some e
    go (Some x) e = absurd (false≢true (sym (neither (is_same_key k k) (is_key_dropped ss k) (not_dropped_there old (Del k ∷ ss) k x quiet e)).0 ∙ self_same k))
one_quiet old Clean ss quiet = go (finite.entries old.keys) refl
  where
    go : (es : List (List ℕ × Stored)) → finite.entries old.keys ≡ es → list_any (λ (key : List ℕ). true) (map (λ x. x.0) (finite.entries old.keys)) ≡ false
    go [] e = ap (λ l. list_any (λ (key : List ℕ). true) (map (λ (x : List ℕ × Stored). x.0) l)) e
    go (x ∷ es) e = absurd (false≢true (sym (not_dropped_there old (Clean ∷ ss) x.0 x.1 quiet
        (finite.get-entries old.keys x.0 ∙ ap (find (slice_cmp nat_cmp) x.0) e ∙ ap (λ b. cond b (Some x.1) (find (slice_cmp nat_cmp) x.0 es)) (self_same x.0)))))
one_quiet old (Run run) ss quiet = refl
one_quiet old (Compact i) ss quiet = refl
one_quiet old (Truncate i) ss quiet = refl
one_quiet old (Put k v f) ss quiet = refl
one_quiet old (AtomicGroup a b) ss quiet = refl

later_quiet : (old : Table) (s : Step) (ss : List Step) → IsQuiet old (s ∷ ss) → IsQuiet old ss
later_quiet old s ss quiet key = go (finite.get old.keys key) refl
  where
    none : (b : Bool) (o : Option Stored) → o ≡ None → cond b None o ≡ o
    none true o e = sym e
    none false o e = refl

    go : (o : Option Stored) → finite.get old.keys key ≡ o → pair_left ss key (finite.get old.keys key) ≡ finite.get old.keys key
    go None e = none (is_key_dropped ss key) (finite.get old.keys key) e
    go (Some x) e = ap (λ b. cond b None (finite.get old.keys key)) (neither (drops_key key s) (is_key_dropped ss key) (not_dropped_there old (s ∷ ss) key x quiet e)).1

both_off : (a b : Bool) → a ≡ false → b ≡ false → (a || b) ≡ false
both_off a b e f = ap (λ x. x || b) e ∙ f

pub none_take : (old : Table) (ss : List Step) → AllByRecursion (λ (s : Step). list_any (λ (e : EntryIndex). speaks_of_index e.index s) old.entries ≡ false) ss → IsQuiet old ss
    → AllByRecursion (λ (s : Step). takes_of old s ≡ false) ss
none_take old [] h quiet = tt
none_take old (s ∷ ss) h quiet = (both_off _ _ h.0 (one_quiet old s ss quiet), none_take old ss h.1 (later_quiet old s ss quiet))
