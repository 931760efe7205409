-- What a table's fetches give of records in append files up to a gate.
use Rattle.raft_engine.proofs.Common.{◌≡◌, ℕ, suc, ◌+◌, Bool, true, false, cond, ◌&&◌, List, [], ◌∷◌, ◌++◌, filter, map, take, drop, length, Option, Some, None, refl, sym, ap, subst, ◌∙◌, arith, Ordering, nat_cmp, eq_by_cmp, is_eq, IsTotalOrder, eq_by_cmp_equiv, slice_cmp}
use Rattle.raft_engine.proofs.Common.{nat_list_cmp_total, AllByRecursion, prefix_len, find, is_sorted, below_all, EntryIndex, LogQueue, Append, Rewrite, IsConsecutive, appended_before, Keys, Stored, is_up_to, key_value, pairs_up_to, is_same, is_placed_before, may_move}
use Rattle.raft_engine.proofs.Common.{passes_gate, AreTableEntries, entry_count, placed_in, appended_before_is, first_of_both, second_of_both, less, AreTableEntries-take, AreTableEntries-drop, IsFetched, moving_entries}
use lib.Dec.{T}
use Rattle.std.specs.FinMap as finite

-- ---- entries

pub appended_consecutive : (gate : ℕ) (es : List EntryIndex) → AreTableEntries es → IsConsecutive (appended_before gate es)
appended_consecutive gate es h =
    let r : ℕ = entry_count Rewrite es in
    let n : ℕ = prefix_len (is_placed_before gate) (drop r es) in
    subst IsConsecutive (sym (appended_before_is gate n r es h refl refl)) (AreTableEntries-drop r (take (r + n) es) (AreTableEntries-take (r + n) es h)).consecutive

rewritten_consecutive : (es : List EntryIndex) → AreTableEntries es → IsConsecutive (placed_in Rewrite es)
rewritten_consecutive es h =
    subst IsConsecutive (ap (take (entry_count Rewrite es)) h.in_front ∙ take_front (placed_in Rewrite es) (placed_in Append es)) (AreTableEntries-take (entry_count Rewrite es) es h).consecutive
  where
    take_front : (a b : List EntryIndex) → take (length a) (a ++ b) ≡ a
    take_front [] b = refl
    take_front (e ∷ a) b = ap (λ l. e ∷ l) (take_front a b)

moving_consecutive : (gate : Option ℕ) (es : List EntryIndex) → AreTableEntries es → IsConsecutive (moving_entries gate es)
moving_consecutive None es h = rewritten_consecutive es h
moving_consecutive (Some gate) es h = appended_consecutive gate es h

pub fetched_consecutive : (gate : Option ℕ) (es old new : List EntryIndex) → AreTableEntries es → old ≡ [] → new ≡ old ++ moving_entries gate es → IsConsecutive new
fetched_consecutive gate es old new h none e = subst IsConsecutive (sym (e ∙ ap (λ l. l ++ moving_entries gate es) none)) (moving_consecutive gate es h)

-- what is behind the longest front that passes a test
pub prefix_passes : {X : Type 0} (p : X → Bool) (xs : List X) → AllByRecursion (λ (x : X). p x ≡ true) (take (prefix_len p xs) xs)
prefix_passes p [] = tt
prefix_passes {X} p (x ∷ xs) = at (p x) refl (prefix_passes p xs)
  where
    at : (b : Bool) → p x ≡ b → AllByRecursion (λ (y : X). p y ≡ true) (take (prefix_len p xs) xs) → AllByRecursion (λ (y : X). p y ≡ true) (take (prefix_len p (x ∷ xs)) (x ∷ xs))
    at true e h = let k : 1 + prefix_len p xs ≡ suc (prefix_len p xs) = omega arith in rw (e, k) (e, h)
    at false e h = rw e tt

pub all_may_move : (gate : ℕ) (es : List EntryIndex) → AllByRecursion (λ (x : EntryIndex). may_move (Some gate) x ≡ true) (appended_before gate es)
all_may_move gate es = prefix_passes (is_placed_before gate) (placed_in Append es)

-- ---- pairs

module _ {A V : Type 0} {R : A → A → Ordering} (o : IsTotalOrder R) where
  -- keys above one that stands in front are found behind it
  found_behind : (x : A × V) (es some : List (A × V)) → T (below_all R x.0 some) → AllByRecursion (λ (e : A × V). find R e.0 es ≡ Some e.1) some → AllByRecursion (λ (e : A × V). find R e.0 (x ∷ es) ≡ Some e.1) some
  found_behind x es [] h all = tt
  found_behind x es (e ∷ some) h all =
      let apart : eq_by_cmp R e.0 x.0 ≡ false = (eq_by_cmp_equiv o).symm e.0 x.0 ∙ ap is_eq (less (R x.0 e.0) (first_of_both _ _ h)) in
      (ap (λ b. cond b (Some x.1) (find R e.0 es)) apart ∙ all.0, found_behind x es some (second_of_both _ _ h) all.1)

  -- each key finds its own
  pub all_found : (es : List (A × V)) → T (is_sorted R es) → AllByRecursion (λ (e : A × V). find R e.0 es ≡ Some e.1) es
  all_found [] h = tt
  all_found (x ∷ es) h = (
    ap (λ b. cond b (Some x.1) (find R x.0 es)) ((eq_by_cmp_equiv o).refl x.0),
    found_behind x es es (first_of_both _ _ h) (all_found es (second_of_both _ _ h)),
  )

pub all_there : (keys : Keys) → AllByRecursion (λ (e : List ℕ × Stored). finite.get keys e.0 ≡ Some e.1) (finite.entries keys)
all_there keys = go (finite.entries keys) (all_found nat_list_cmp_total (finite.entries keys) (finite.entries_sorted keys))
  where
    go : (es : List (List ℕ × Stored)) → AllByRecursion (λ (e : List ℕ × Stored). find (slice_cmp nat_cmp) e.0 (finite.entries keys) ≡ Some e.1) es → AllByRecursion (λ (e : List ℕ × Stored). finite.get keys e.0 ≡ Some e.1) es
    go [] h = tt
    go (e ∷ es) h = (finite.get-entries keys e.0 ∙ h.0, go es h.1)

both_true : (a b : Bool) → a && b ≡ true → (a ≡ true) × (b ≡ true)
both_true true b e = (refl, e)
both_true false b e = absurd cc

is_append : (queue : LogQueue) → is_same Append queue ≡ true → queue ≡ Append
is_append Append e = refl
is_append Rewrite e = absurd cc

-- what each pair in a queue has whose file is at or below the gate
module _ (queue : LogQueue) (gate : Option ℕ) (keys : Keys) (P : List ℕ × List ℕ → Type 0)
    (fits : (key : List ℕ) (s : Stored) → finite.get keys key ≡ Some s → is_up_to queue gate s.file ≡ true → P (key, s.value)) where
  all_up_to : AllByRecursion P (pairs_up_to queue gate keys)
  all_up_to = go (finite.entries keys) (all_there keys)
    where
      go : (es : List (List ℕ × Stored)) → AllByRecursion (λ (e : List ℕ × Stored). finite.get keys e.0 ≡ Some e.1) es → AllByRecursion P (map key_value (filter (λ e. is_up_to queue gate e.1.file) es))
      go [] h = tt
      go (e ∷ es) h = at (is_up_to queue gate e.1.file) refl (go es h.1)
        where
          at : (b : Bool) → is_up_to queue gate e.1.file ≡ b → AllByRecursion P (map key_value (filter (λ x. is_up_to queue gate x.1.file) es))
              → AllByRecursion P (map key_value (cond b (e ∷ filter (λ x. is_up_to queue gate x.1.file) es) (filter (λ x. is_up_to queue gate x.1.file) es)))
          at true t rest = (fits e.0 e.1 h.0 t, rest)
          at false t rest = rest

pub all_fetched : (gate : ℕ) (keys : Keys) → AllByRecursion (IsFetched (Some gate) keys) (pairs_up_to Append (Some gate) keys)
all_fetched gate keys = all_up_to Append (Some gate) keys (IsFetched (Some gate) keys) fits
  where
    fits : (key : List ℕ) (s : Stored) → finite.get keys key ≡ Some s → is_up_to Append (Some gate) s.file ≡ true → IsFetched (Some gate) keys (key, s.value)
    fits key s there up =
        let both : (is_same Append s.file.queue ≡ true) × (passes_gate (Some gate) s.file.seq ≡ true) = both_true (is_same Append s.file.queue) (passes_gate (Some gate) s.file.seq) up in
        record { stored = s; there = there; value = refl; queue = is_append s.file.queue both.0; gated = both.1 }

is_rewrite : (queue : LogQueue) → is_same Rewrite queue ≡ true → queue ≡ Rewrite
is_rewrite Append e = absurd cc
is_rewrite Rewrite e = refl

-- a key with a value, as it was fetched: it has that value, in a rewrite file
pub record IsRewrittenPair (keys : Keys) (p : List ℕ × List ℕ) : Type 0 where
  pub stored : Stored
  pub there : finite.get keys p.0 ≡ Some stored
  pub value : stored.value ≡ p.1
  pub queue : stored.file.queue ≡ Rewrite

pub all_rewritten : (keys : Keys) → AllByRecursion (IsRewrittenPair keys) (pairs_up_to Rewrite None keys)
all_rewritten keys = all_up_to Rewrite None keys (IsRewrittenPair keys) (λ key s there up. record { stored = s; there = there; value = refl; queue = is_rewrite s.file.queue up })
