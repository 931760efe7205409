-- The records of the append queue over those of the rewrite queue, region by region.
use Rattle.raft_plain.proofs.Common.{◌≡◌, ◌⊎◌, inl, inr, Bool, true, false, cond, not, ◌||◌, List, [], ◌∷◌, ◌++◌, ℕ, Option, Some, None, refl, sym, ap, subst, ◌∙◌, append-nil, nat_list_cmp_total, slice_cmp, option_map, eq_by_cmp, nat_cmp, is_some, EntryIndex, pairs_over-empty}
use Rattle.raft_plain.proofs.Common.{union_assoc, union_empty, union_one, get-without, same_keys, within-whole, entries_within, KeySet, without, Keys, pairs_over, deleted_of, greatest_compaction, has_clean, kept_if, least_cut, overlaid_table, overlay, rewritten_within, Step, Run}
use Rattle.raft_plain.proofs.Common.{Compact, Truncate, Put, Del, AtomicGroup, Clean, table_of, Table, empty_table, IsOther, by_region, get_gone, get_left, with_own, with_other, no_both, RegionStep, Tables, with_table, steps_on, Region, table_shown, tables_in}
use Rattle.std.specs.FinMap as finite
use Rattle.std.specs.FinSet as finset
use Rattle.raft_table.specs.KeyValues as table
use Rattle.raft_plain.proofs.KeyedLemmas.{Rises, head_gone, head_is, head_other, none-of}

-- ---- one region

pub none_overlaid : (id : ℕ) (ss : List Step) → None ≡ overlaid_table id ss None None
none_overlaid id ss = go (has_clean ss)
  where
    go : (b : Bool) → None ≡ kept_if (cond b false false) (overlay ss (empty_table id) (empty_table id))
    go true = refl
    go false = refl

-- where the region was cleaned, its appended table alone is left
pub cleaned_alone : (id : ℕ) (ss : List Step) (newer older : Option Region) → has_clean ss ≡ true
    → option_map (table_shown id) newer ≡ overlaid_table id ss (option_map (table_shown id) newer) (option_map (table_shown id) older)
cleaned_alone id ss newer older clean = go newer older ∙ sym (ap (by (option_map (table_shown id) newer) (option_map (table_shown id) older)) clean)
  where
    by : Option Table → Option Table → Bool → Option Table
    by a r b = kept_if (cond b (is_some a) (is_some a || is_some r)) (record (table_of id r) {
      entries = cond b (table_of id a).entries (rewritten_within (greatest_compaction ss) (least_cut ss) (table_of id a).entries (table_of id r).entries ++ (table_of id a).entries);
      keys = cond b (table_of id a).keys (pairs_over (table_of id a).keys (without (deleted_of finset.empty ss) (table_of id r).keys));
      atomic_group = cond b (table_of id a).atomic_group (table_of id r).atomic_group;
    })

    go : (n o : Option Region) → option_map (table_shown id) n ≡ by (option_map (table_shown id) n) (option_map (table_shown id) o) true
    go None o = refl
    go (Some n) None = refl
    go (Some n) (Some o) = refl

-- else the overlay, where one of both is there
pub both_overlaid : (id : ℕ) (ss : List Step) (a r : Option Table) (t : Table) → has_clean ss ≡ false → (is_some a || is_some r) ≡ true → t ≡ overlay ss (table_of id a) (table_of id r) → Some t ≡ overlaid_table id ss a r
both_overlaid id ss a r t uncleaned there is = ap Some is ∙ sym (ap (λ b. kept_if (cond b (is_some a) (is_some a || is_some r)) (overlay ss (table_of id a) (table_of id r))) uncleaned ∙ ap (λ b. kept_if b (overlay ss (table_of id a) (table_of id r))) there)

pub overlay_is : (ss : List Step) (a r : Table) (es : List EntryIndex) (keys : Keys) → has_clean ss ≡ false → es ≡ rewritten_within (greatest_compaction ss) (least_cut ss) a.entries r.entries ++ a.entries
    → keys ≡ pairs_over a.keys (without (deleted_of finset.empty ss) r.keys) → record r { entries = es; keys = keys } ≡ overlay ss a r
overlay_is ss a r es keys uncleaned entries pairs =
    ap (λ (l : List EntryIndex). record r { entries = l; keys = keys }) entries ∙ ap (λ (m : Keys). record r { entries = rewritten_within (greatest_compaction ss) (least_cut ss) a.entries r.entries ++ a.entries; keys = m }) pairs
    ∙ sym (ap (λ b. record r {
      entries = cond b a.entries (rewritten_within (greatest_compaction ss) (least_cut ss) a.entries r.entries ++ a.entries);
      keys = cond b a.keys (pairs_over a.keys (without (deleted_of finset.empty ss) r.keys));
      atomic_group = cond b a.atomic_group r.atomic_group;
    }) uncleaned)

-- ---- deleted keys

pub without_none : (keys : Keys) → without finset.empty keys ≡ keys
without_none keys = same_keys _ _ (λ q. get-without finset.empty keys q ∙ ap (λ b. cond (not b) (finite.get keys q) None) (finset.contains-empty (slice_cmp nat_cmp) q))

deleted_from : (d : KeySet) (ss : List Step) → has_clean ss ≡ false → deleted_of d ss ≡ finset.union d (deleted_of finset.empty ss)
deleted_from d [] h = sym (union_empty d)
deleted_from d (Del k ∷ ss) h =
    deleted_from (finset.insert d k) ss h ∙ ap (λ x. finset.union x (deleted_of finset.empty ss)) (union_one d k)
    ∙ union_assoc d (finset.insert finset.empty k) (deleted_of finset.empty ss) ∙ ap (finset.union d) (sym (deleted_from (finset.insert finset.empty k) ss h))
deleted_from d (Clean ∷ ss) h = absurd cc
deleted_from d (Run run ∷ ss) h = deleted_from d ss h
deleted_from d (Compact i ∷ ss) h = deleted_from d ss h
deleted_from d (Truncate i ∷ ss) h = deleted_from d ss h
deleted_from d (Put key value file ∷ ss) h = deleted_from d ss h
deleted_from d (AtomicGroup first last ∷ ss) h = deleted_from d ss h

pub without_key_first : (key : List ℕ) (ss : List Step) (keys : Keys) → has_clean ss ≡ false → without (deleted_of finset.empty ss) (finite.remove keys key) ≡ without (deleted_of finset.empty (Del key ∷ ss)) keys
without_key_first key ss keys h = same_keys _ _ (λ q.
    get-without (deleted_of finset.empty ss) (finite.remove keys key) q ∙ ap (λ (x : Option table.Stored). cond (not (finset.contains (deleted_of finset.empty ss) q)) x None) (finite.get-remove nat_list_cmp_total keys key q)
    ∙ go (eq_by_cmp (slice_cmp nat_cmp) q key) (finset.contains (deleted_of finset.empty ss) q) (finite.get keys q)
    ∙ sym (get-without (deleted_of finset.empty (Del key ∷ ss)) keys q ∙ ap (λ d. cond (not (finset.contains d q)) (finite.get keys q) None) (deleted_from (finset.insert finset.empty key) ss h)
    ∙ ap (λ b. cond (not b) (finite.get keys q) None) (finset.contains-union nat_list_cmp_total (finset.insert finset.empty key) (deleted_of finset.empty ss) q
    ∙ ap (λ b. b || finset.contains (deleted_of finset.empty ss) q) (finset.contains-insert nat_list_cmp_total finset.empty key q ∙ ap (λ b. eq_by_cmp (slice_cmp nat_cmp) q key || b) (finset.contains-empty (slice_cmp nat_cmp) q)))))
  where
    go : (e c : Bool) (x : Option table.Stored) → cond (not c) (cond e None x) None ≡ cond (not ((e || false) || c)) x None
    go true true x = refl
    go true false x = refl
    go false true x = refl
    go false false x = refl

-- ---- a region that the append queue doesn't name

pub unnamed_stays : (id : ℕ) (a r : Option Table) → a ≡ None → ((t : Table) → r ≡ Some t → t.region_id ≡ id) → overlaid_table id [] a r ≡ r
unnamed_stays id a None is own = ap (λ (x : Option Table). overlaid_table id [] x None) is ∙ sym (none_overlaid id [])
unnamed_stays id a (Some t) is own = ap (λ (x : Option Table). overlaid_table id [] x (Some t)) is
    ∙ ap (λ (l : List EntryIndex). Some (record t { entries = l; keys = pairs_over finite.empty (without finset.empty t.keys) })) (append-nil (entries_within 0 None t.entries) ∙ within-whole t.entries)
    ∙ ap (λ (m : Keys). Some (record t { keys = m })) (pairs_over-empty finite.empty _ refl ∙ without_none t.keys)

-- ---- all regions

none_there : (r : ℕ) → finite.get (tables_in []) r ≡ None
none_there r = ap (λ (m : Tables). finite.get m r) (none-of table_shown [] refl) ∙ finite.get-empty nat_cmp r

module _ (ss : List RegionStep) (target : ℕ → Option Table) where
  -- nothing was done yet to a region, and what is left of it gives what is wanted
  abbrev IsUndone : Tables → Tables → Tables → ℕ → Type 0
  IsUndone app left both r = (finite.get both r ≡ None) × (overlaid_table r (steps_on r ss) (finite.get app r) (finite.get left r) ≡ target r)

  -- a region is there as it is wanted
  abbrev IsDone : Tables → Tables → Tables → ℕ → Type 0
  IsDone app left both r = (finite.get app r ≡ None) × (finite.get left r ≡ None) × (finite.get both r ≡ target r)

  -- each region is either
  abbrev pub AreOverlaidSoFar : Tables → Tables → Tables → Type 0
  AreOverlaidSoFar app left both = (r : ℕ) → IsUndone app left both r ⊎ IsDone app left both r

  -- one region more
  pub one_overlaid : (id : ℕ) (app left both app' left' both' : Tables) → (finite.get app id ≡ None → finite.get left id ≡ None → ⊥)
      → finite.get app' id ≡ None → finite.get left' id ≡ None
      → ((r : ℕ) → eq_by_cmp nat_cmp r id ≡ false → finite.get app' r ≡ finite.get app r) → ((r : ℕ) → eq_by_cmp nat_cmp r id ≡ false → finite.get left' r ≡ finite.get left r)
      → both' ≡ with_table both id (overlaid_table id (steps_on id ss) (finite.get app id) (finite.get left id))
      → AreOverlaidSoFar app left both → AreOverlaidSoFar app' left' both'
  one_overlaid id app left both app' left' both' there app_gone left_gone app_other left_other put far r = at (by_region r id)
    where
      own : IsUndone app left both id ⊎ IsDone app left both id → IsDone app' left' both' id
      own (inl undone) = (app_gone, left_gone, ap (λ (m : Tables). finite.get m id) put ∙ with_own both id _ ∙ undone.1)
      own (inr done) = absurd (there done.0 done.1)

      at : (r ≡ id) ⊎ IsOther r id → IsUndone app' left' both' r ⊎ IsDone app' left' both' r
      at (inl same) = inr (subst (IsDone app' left' both') (sym same) (own (far id)))
      at (inr other) = kept (far r)
        where
          a : finite.get app' r ≡ finite.get app r
          a = app_other r other.1

          l : finite.get left' r ≡ finite.get left r
          l = left_other r other.1

          b : finite.get both' r ≡ finite.get both r
          b = ap (λ (m : Tables). finite.get m r) put ∙ with_other both id r _ other.1

          kept : IsUndone app left both r ⊎ IsDone app left both r → IsUndone app' left' both' r ⊎ IsDone app' left' both' r
          kept (inl undone) = inl (b ∙ undone.0, (λ i. overlaid_table r (steps_on r ss) (a i) (l i)) ∙ undone.1)
          kept (inr done) = inr (a ∙ done.0, l ∙ done.1, b ∙ done.2)

  -- where nothing is left all are done
  pub all_overlaid : (app left both : Tables) → ((r : ℕ) → finite.get app r ≡ None) → ((r : ℕ) → finite.get left r ≡ None) → AreOverlaidSoFar app left both → (r : ℕ) → finite.get both r ≡ target r
  all_overlaid app left both no_app no_left far r = go (far r)
    where
      go : IsUndone app left both r ⊎ IsDone app left both r → finite.get both r ≡ target r
      go (inl undone) = undone.0 ∙ none_overlaid r (steps_on r ss) ∙ sym (λ i. overlaid_table r (steps_on r ss) (no_app r i) (no_left r i)) ∙ undone.1
      go (inr done) = done.2

  pub overlay_begins : (app left both : Tables) → both ≡ finite.empty → ((r : ℕ) → overlaid_table r (steps_on r ss) (finite.get app r) (finite.get left r) ≡ target r) → AreOverlaidSoFar app left both
  overlay_begins app left both none is r = inl (ap (λ (m : Tables). finite.get m r) none ∙ finite.get-empty nat_cmp r, is r)

  -- the first of the rewritten regions that are left
  pub rewritten_next : (e : ℕ × Region) (old rest : List (ℕ × Region)) (app app' both both' : Tables) (new : Option Table) → Rises table_shown old → old ≡ e ∷ rest → app' ≡ finite.remove app e.0
      → new ≡ overlaid_table e.0 (steps_on e.0 ss) (finite.get app e.0) (Some (table_shown e.0 e.1)) → both' ≡ with_table both e.0 new
      → AreOverlaidSoFar app (tables_in old) both → AreOverlaidSoFar app' (tables_in rest) both'
  rewritten_next e old rest app app' both both' new h is gone overlaid put far =
      let k = subst (Rises table_shown) is h in
      let head : finite.get (tables_in old) e.0 ≡ Some (table_shown e.0 e.1) = ap (λ l. finite.get (tables_in l) e.0) is ∙ head_is table_shown e rest k in
      one_overlaid e.0 app (tables_in old) both app' (tables_in rest) both' (λ _ none. no_both none head)
      (ap (λ (m : Tables). finite.get m e.0) gone ∙ get_gone app e.0) (head_gone table_shown e rest k)
      (λ r f. ap (λ (m : Tables). finite.get m r) gone ∙ get_left app e.0 r f) (λ r f. head_other table_shown e rest r k f ∙ sym (ap (λ l. finite.get (tables_in l) r) is))
      (put ∙ ap (with_table both e.0) (overlaid ∙ ap (λ (o : Option Table). overlaid_table e.0 (steps_on e.0 ss) (finite.get app e.0) o) (sym head))) far

  -- the first of the appended regions that are left, where no rewritten one is
  pub appended_next : (e : ℕ × Region) (old rest : List (ℕ × Region)) (both both' : Tables) (new : Option Table) → Rises table_shown old → old ≡ e ∷ rest
      → new ≡ overlaid_table e.0 (steps_on e.0 ss) (Some (table_shown e.0 e.1)) None → both' ≡ with_table both e.0 new
      → AreOverlaidSoFar (tables_in old) (tables_in []) both → AreOverlaidSoFar (tables_in rest) (tables_in []) both'
  appended_next e old rest both both' new h is overlaid put far =
      let k = subst (Rises table_shown) is h in
      let head : finite.get (tables_in old) e.0 ≡ Some (table_shown e.0 e.1) = ap (λ l. finite.get (tables_in l) e.0) is ∙ head_is table_shown e rest k in
      one_overlaid e.0 (tables_in old) (tables_in []) both (tables_in rest) (tables_in []) both' (λ none _. no_both none head)
      (head_gone table_shown e rest k) (none_there e.0)
      (λ r f. head_other table_shown e rest r k f ∙ sym (ap (λ l. finite.get (tables_in l) r) is)) (λ r f. refl)
      (put ∙ ap (with_table both e.0) (overlaid ∙ (λ i. overlaid_table e.0 (steps_on e.0 ss) (sym head i) (sym (none_there e.0) i)))) far

  pub appended_ends : (old : List (ℕ × Region)) (both : Tables) → old ≡ [] → AreOverlaidSoFar (tables_in old) (tables_in []) both → (r : ℕ) → finite.get both r ≡ target r
  appended_ends old both is far = all_overlaid (tables_in old) (tables_in []) both (λ r. ap (λ l. finite.get (tables_in l) r) is ∙ none_there r) none_there far
