-- What a region mark tells of a rewritten table is what its steps take away of it.
use Rattle.raft_engine_laws.proofs.Common.{◌≡◌, ℕ, Bool, true, false, cond, ◌||◌, List, [], ◌∷◌, ◌++◌, Option, Some, None, refl, sym, ap, subst, ◌∙◌, map, filter, is_some, ◌&&◌, AllByRecursion, list_any, nat_cmp, slice_cmp, is_some-find, false≢true, EntryIndex, Stored}
use Rattle.raft_engine_laws.proofs.Common.{speaks_of_index, is_same_key, Mark, IsExactMark, Step, Compact, Del, Clean, Table, start_of, bounds_told, cut_told, keys_deleted, takes_of, takes_pair, told_by_mark, Joins, MayBeToldLater, told_at_once, is_index_spoken, unspoken}
use Rattle.raft_engine_laws.proofs.Common.{is_key_dropped, drops_key, pair_left, AreRemovals, SayEnoughAtOpening}
use Rattle.std.specs.FinMap as finite
use Rattle.std.specs.FinSet as finset
use Rattle.raft_engine_laws.proofs.EachLemmas.{each_left}
use Rattle.raft_engine_laws.proofs.MarksTold.{bounds_say, clean_drops, deleted_drop, keeps_keys}
use Rattle.raft_engine_laws.proofs.TakenTables.{any_kept, dels_drop, dels_removals, dels_speak, each_quiet, fewer_any, fewer_removals, none_take, self_same, taken_entries, taken_take}
use Rattle.raft_engine_laws.proofs.TestLemmas.{any-append, any_weaker, or_first, or_later, or_none}
use Rattle.raft_engine_laws.proofs.UnspokenLemmas.{unspoken_same, unspoken-none, unspoken-steps, unspoken-swap}

-- ---- what a mark tells of a table

module _ (m : Mark) (old : Table) where
  pub told_removals : AreRemovals (told_by_mark m old)
  told_removals = more (filter (takes_of old) (bounds_told m)) (map Del (keys_deleted m old)) (fewer_removals (takes_of old) (bounds_told m) (go m.cleaned m.cut)) (dels_removals (keys_deleted m old))
    where
      more : (a b : List Step) → AreRemovals a → AreRemovals b → AreRemovals (a ++ b)
      more [] b h k = k
      more (s ∷ a) b h k = (h.0, more a b h.1 k)

      go : (b : Bool) (c : Option ℕ) → AreRemovals (cond b (Clean ∷ []) (Compact m.floor ∷ cut_told c))
      go true c = (tt, tt)
      go false None = (tt, tt)
      go false (Some c) = (tt, (tt, tt))

  told_speaks : (i : ℕ) → is_index_spoken (told_by_mark m old) i ≡ is_index_spoken (filter (takes_of old) (bounds_told m)) i
  told_speaks i = any-append (speaks_of_index i) (filter (takes_of old) (bounds_told m)) (map Del (keys_deleted m old))
      ∙ ap (λ b. is_index_spoken (filter (takes_of old) (bounds_told m)) i || b) (dels_speak (keys_deleted m old) i)
      ∙ or_none (is_index_spoken (filter (takes_of old) (bounds_told m)) i)

  told_drops : (key : List ℕ) → is_key_dropped (told_by_mark m old) key
      ≡ (is_key_dropped (filter (takes_of old) (bounds_told m)) key || (finset.contains m.deleted key && list_any (is_same_key key) (finite.keys old.keys)))
  told_drops key = any-append (drops_key key) (filter (takes_of old) (bounds_told m)) (map Del (keys_deleted m old))
      ∙ ap (λ b. is_key_dropped (filter (takes_of old) (bounds_told m)) key || b)
      (dels_drop (keys_deleted m old) key ∙ any_kept (finset.contains m.deleted) key (finite.keys old.keys))

  all_more : (a b : List Step) → AllByRecursion (λ (s : Step). takes_of old s ≡ true) a → AllByRecursion (λ (s : Step). takes_of old s ≡ true) b → AllByRecursion (λ (s : Step). takes_of old s ≡ true) (a ++ b)
  all_more [] b h k = k
  all_more (s ∷ a) b h k = (h.0, all_more a b h.1 k)

  neither_way : (ss : List Step) → AllByRecursion (λ (s : Step). takes_of old s ≡ true) ss → AllByRecursion (λ (s : Step). takes_of old s ≡ false) ss → ss ≡ []
  neither_way [] h k = refl
  neither_way (s ∷ ss) h k = absurd (false≢true (sym k.0 ∙ h.0))

  all_take : AllByRecursion (λ (s : Step). takes_of old s ≡ true) (told_by_mark m old)
  all_take = all_more (filter (takes_of old) (bounds_told m)) (map Del (keys_deleted m old)) (taken_take old (bounds_told m)) (dels (finite.keys old.keys) (λ key h. h))
    where
      dels : (ks : List (List ℕ)) → ((key : List ℕ) → list_any (is_same_key key) ks ≡ true → list_any (is_same_key key) (finite.keys old.keys) ≡ true)
          → AllByRecursion (λ (s : Step). takes_of old s ≡ true) (map Del (filter (finset.contains m.deleted) ks))
      dels [] in_all = tt
      dels (k ∷ ks) in_all = go (finset.contains m.deleted k) (dels ks (λ key h. in_all key (or_later (is_same_key key k) (list_any (is_same_key key) ks) h)))
        where
          one : takes_of old (Del k) ≡ true
          one = or_later (list_any (λ (e : EntryIndex). speaks_of_index e.index (Del k)) old.entries) (is_some (finite.get old.keys k)) (
              ap is_some (finite.get-entries old.keys k) ∙ is_some-find (slice_cmp nat_cmp) k (finite.entries old.keys)
              ∙ in_all k (or_first (is_same_key k k) (list_any (is_same_key k) ks) (self_same k)))

          go : (b : Bool) → AllByRecursion (λ (s : Step). takes_of old s ≡ true) (map Del (filter (finset.contains m.deleted) ks))
              → AllByRecursion (λ (s : Step). takes_of old s ≡ true) (map Del (cond b (k ∷ filter (finset.contains m.deleted) ks) (filter (finset.contains m.deleted) ks)))
          go true rest = (one, rest)
          go false rest = rest

  -- what it tells of the steps that it stands for
  module _ (kept : List Step) (h : IsExactMark m kept) where
    told_entries : unspoken (told_by_mark m old) old.entries ≡ unspoken kept old.entries
    told_entries =
        unspoken_same (told_by_mark m old) (filter (takes_of old) (bounds_told m)) old.entries told_speaks
        ∙ taken_entries old (bounds_told m)
        ∙ unspoken_same (bounds_told m) kept old.entries (bounds_say m kept h)

    told_covers : (i : ℕ) → is_index_spoken (told_by_mark m old) i ≡ true → is_index_spoken kept i ≡ true
    told_covers i e = sym (bounds_say m kept h i) ∙ fewer_any (speaks_of_index i) (takes_of old) (bounds_told m) (sym (told_speaks i) ∙ e)

    drops_less : (key : List ℕ) → is_key_dropped (told_by_mark m old) key ≡ true → is_key_dropped kept key ≡ true
    drops_less key e = go m.cleaned refl
      where
        both : (a b : Bool) → (a && b) ≡ true → a ≡ true
        both true b e = refl
        both false b e = absurd (false≢true e)

        go : (b : Bool) → m.cleaned ≡ b → is_key_dropped kept key ≡ true
        go true c = clean_drops m kept h key c
        go false c = sym (deleted_drop m kept h key c) ∙ both (finset.contains m.deleted key) (list_any (is_same_key key) (finite.keys old.keys))
            (sym (ap (λ (b : Bool). is_key_dropped (filter (takes_of old) (cond b (Clean ∷ []) (Compact m.floor ∷ cut_told m.cut))) key || (finset.contains m.deleted key && list_any (is_same_key key) (finite.keys old.keys))) c
            ∙ ap (λ b. b || (finset.contains m.deleted key && list_any (is_same_key key) (finite.keys old.keys))) (keeps_keys (takes_of old) m.floor m.cut key))
            ∙ sym (told_drops key) ∙ e)

    drops_same : (key : List ℕ) (x : Stored) → finite.get old.keys key ≡ Some x → is_key_dropped (told_by_mark m old) key ≡ is_key_dropped kept key
    drops_same key x e = told_drops key ∙ go m.cleaned refl
      where
        there : list_any (is_same_key key) (finite.keys old.keys) ≡ true
        there = sym (is_some-find (slice_cmp nat_cmp) key (finite.entries old.keys)) ∙ ap is_some (sym (finite.get-entries old.keys key) ∙ e)

        and_there : (b : Bool) → (b && list_any (is_same_key key) (finite.keys old.keys)) ≡ b
        and_there true = there
        and_there false = refl

        has_pair : takes_of old Clean ≡ true
        has_pair = or_later (list_any (λ (e : EntryIndex). speaks_of_index e.index Clean) old.entries) (takes_pair old Clean)
            (any_weaker (is_same_key key) (λ k. true) (λ k t. refl) (finite.keys old.keys) there)

        rest : Bool
        rest = finset.contains m.deleted key && list_any (is_same_key key) (finite.keys old.keys)

        go : (b : Bool) → m.cleaned ≡ b → (is_key_dropped (filter (takes_of old) (cond b (Clean ∷ []) (Compact m.floor ∷ cut_told m.cut))) key || rest) ≡ is_key_dropped kept key
        go true c = ap (λ b. is_key_dropped (cond b (Clean ∷ []) []) key || rest) has_pair ∙ sym (clean_drops m kept h key c)
        go false c = ap (λ b. b || rest) (keeps_keys (takes_of old) m.floor m.cut key) ∙ and_there (finset.contains m.deleted key) ∙ deleted_drop m kept h key c

    told_pairs : (key : List ℕ) → pair_left (told_by_mark m old) key (finite.get old.keys key) ≡ pair_left kept key (finite.get old.keys key)
    told_pairs key = go (finite.get old.keys key) refl
      where
        none_left : (a b : Bool) (o : Option Stored) → o ≡ None → cond a None o ≡ cond b None o
        none_left true true o e = refl
        none_left true false o e = sym e
        none_left false true o e = e
        none_left false false o e = refl

        go : (o : Option Stored) → finite.get old.keys key ≡ o → pair_left (told_by_mark m old) key o ≡ pair_left kept key o
        go None e = none_left (is_key_dropped (told_by_mark m old) key) (is_key_dropped kept key) None refl
        go (Some x) e = ap (λ b. cond b None (Some x)) (drops_same key x e)

    pub told_later : (found : Table) → Joins kept old found → MayBeToldLater kept (told_by_mark m old) old found
    told_later found joins = record { joins = joins; entries = told_entries; covers = told_covers; pairs = told_pairs; pair_covers = drops_less }

    module _ (found : Table) where
      abbrev front : List Step
      front = Compact (start_of found.entries) ∷ []

      prefix_drops : (key : List ℕ) → is_key_dropped (filter (takes_of old) front) key ≡ false
      prefix_drops key = go (takes_of old (Compact (start_of found.entries)))
        where
          go : (b : Bool) → is_key_dropped (cond b front []) key ≡ false
          go true = refl
          go false = refl

      pub told_now : SayEnoughAtOpening kept (told_at_once m old found) old found
      told_now = record {
        entries =
            sym (unspoken-steps (told_by_mark m old) (filter (takes_of old) front) old.entries)
            ∙ ap (unspoken (filter (takes_of old) front)) told_entries
            ∙ unspoken-swap kept (filter (takes_of old) front) old.entries
            ∙ ap (unspoken kept) (taken_entries old front)
            ∙ sym (unspoken-swap kept front old.entries)
            ∙ unspoken-steps kept front old.entries;
        pairs = λ key.
            ap (λ b. cond b None (finite.get old.keys key))
            (any-append (drops_key key) (told_by_mark m old) (filter (takes_of old) front)
            ∙ ap (λ b. is_key_dropped (told_by_mark m old) key || b) (prefix_drops key) ∙ or_none (is_key_dropped (told_by_mark m old) key))
            ∙ told_pairs key;
      }

      -- where an opening needs tell nothing, it tells nothing
      pub told_nothing : SayEnoughAtOpening kept [] old found → told_at_once m old found ≡ []
      told_nothing enough = neither_way (told_at_once m old found) (all_more (told_by_mark m old) (filter (takes_of old) front) all_take (taken_take old front))
          (none_take old (told_at_once m old found)
          (each_quiet old.entries (told_at_once m old found)
          (subst (AllByRecursion (λ (e : EntryIndex). is_index_spoken (told_at_once m old found) e.index ≡ false))
          (told_now.entries ∙ sym enough.entries ∙ unspoken-none old.entries)
          (each_left (told_at_once m old found) old.entries)))
          (λ key. told_now.pairs key ∙ sym (enough.pairs key)))
