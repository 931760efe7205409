-- Records that were there before some steps: the steps leave those that they don't speak of, and put their own behind them.
use Rattle.raft_engine_laws.proofs.Common.{◌≡◌, ℕ, Bool, true, false, cond, ◌||◌, List, [], ◌∷◌, ◌++◌, map, Option, Some, None, option_map, refl, sym, ap, ◌∙◌, append-nil, append_assoc, filter, nat_lt, nat_le, option_and_then, nat_cmp, eq_by_cmp, slice_cmp, nat_list_cmp_total}
use Rattle.raft_engine_laws.proofs.Common.{EntryIndex, Append, IsRun, Stored, Keys, value_at, speaks_of_key, said_of_key, last_pair, overlay, Step, Run, Compact, Truncate, Put, Del, AtomicGroup, Clean, AreSteps, table_of, after_step, after, Table, start_of, last_pair_stands}
use Rattle.raft_engine_laws.proofs.Common.{Records, entries_told, after_change, after_changes, HasRecords, unspoken, is_key_spoken}
use Rattle.std.specs.FinMap as finite
use Rattle.raft_engine_laws.proofs.KeyLemmas.{pair_later, pair_prefix}
use Rattle.raft_engine_laws.proofs.OpenedEntries.{LeavesOf, leaves}
use Rattle.raft_engine_laws.proofs.OverLemmas.{entries_after, unspoken-other}
use Rattle.raft_engine_laws.proofs.OverlaidPairs.{overlaid_pair_is}
use Rattle.raft_engine_laws.proofs.RecordLemmas.{told-append, told_below, told_from}
use Rattle.raft_engine_laws.proofs.UnspokenLemmas.{unspoken-append, unspoken-steps, unspoken-swap, unspoken-twice, unspoken-run, unspoken-compact, unspoken-truncate, unspoken-clean}
use Rattle.raft_engine_laws.proofs.WriteWords.{put_by}

-- ---- what steps leave as it is, some of them leave so

left_by_prefix : (a b : List Step) (es : List EntryIndex) → unspoken (a ++ b) es ≡ es → unspoken a es ≡ es
left_by_prefix a b es h =
    ap (unspoken a) (sym h ∙ sym (unspoken-steps a b es)) ∙ unspoken-swap b a (unspoken a es) ∙ ap (unspoken b) (unspoken-twice a es) ∙ unspoken-steps a b es ∙ h

left_by_rest : (a b : List Step) (es : List EntryIndex) → unspoken (a ++ b) es ≡ es → unspoken b es ≡ es
left_by_rest a b es h = ap (unspoken b) (sym h ∙ sym (unspoken-steps a b es)) ∙ unspoken-twice b (unspoken a es) ∙ unspoken-steps a b es ∙ h

-- ---- the values of key values

abbrev value_of : Stored → List ℕ
value_of s = s.value

-- the value under each key
pub values_of : Keys → finite.FinMap (slice_cmp nat_cmp) (List ℕ)
values_of keys = finite.from_entries (map (λ p. (p.0, p.1.value)) (finite.entries keys))

find_value : (key : List ℕ) (ps : List (List ℕ × Stored)) → finite.find (slice_cmp nat_cmp) key (map (λ p. (p.0, p.1.value)) ps) ≡ option_map value_of (finite.find (slice_cmp nat_cmp) key ps)
find_value key [] = refl
find_value key (p ∷ ps) = go (eq_by_cmp (slice_cmp nat_cmp) key p.0) (find_value key ps)
  where
    go : (b : Bool) → finite.find (slice_cmp nat_cmp) key (map (λ p. (p.0, p.1.value)) ps) ≡ option_map value_of (finite.find (slice_cmp nat_cmp) key ps)
        → cond b (Some p.1.value) (finite.find (slice_cmp nat_cmp) key (map (λ p. (p.0, p.1.value)) ps)) ≡ option_map value_of (cond b (Some p.1) (finite.find (slice_cmp nat_cmp) key ps))
    go true h = refl
    go false h = h

get_values : (keys : Keys) (key : List ℕ) → finite.get (values_of keys) key ≡ value_at keys key
unfolding values_of
get_values keys key = finite.get-from_entries nat_list_cmp_total (map (λ p. (p.0, p.1.value)) (finite.entries keys)) key ∙ find_value key (finite.entries keys) ∙ ap (option_map value_of) (sym (finite.get-entries keys key))

if_value : (b : Bool) (x y : Option Stored) → option_map value_of (cond b x y) ≡ cond b (option_map value_of x) (option_map value_of y)
if_value true x y = refl
if_value false x y = refl

module _ (content : EntryIndex → List ℕ) where
  -- ---- entries

  step_entries : (s : Step) (rs : Records) (es : List EntryIndex) → rs.entries ≡ entries_told content es → (after_change content rs s).entries ≡ entries_told content (unspoken (s ∷ []) es ++ put_by s)
  step_entries (Run []) rs es h = h ∙ ap (entries_told content) (sym (append-nil _ ∙ unspoken-other (Run []) es (λ i. refl)))
  step_entries (Run (e ∷ run)) rs es h =
      ap (λ l. filter (λ x. nat_lt x.0 e.index) l ++ entries_told content (e ∷ run)) h ∙ ap (λ l. l ++ entries_told content (e ∷ run)) (sym (told_below content e.index es) ∙ ap (entries_told content) (sym (unspoken-run e run es)))
      ∙ sym (told-append content (unspoken (Run (e ∷ run) ∷ []) es) (e ∷ run))
  step_entries (Compact i) rs es h = ap (filter (λ x. nat_le i x.0)) h ∙ sym (told_from content i es) ∙ ap (entries_told content) (sym (append-nil _ ∙ unspoken-compact i es))
  step_entries (Truncate i) rs es h = ap (filter (λ x. nat_lt x.0 i)) h ∙ sym (told_below content i es) ∙ ap (entries_told content) (sym (append-nil _ ∙ unspoken-truncate i es))
  step_entries (Put key value file) rs es h = h ∙ ap (entries_told content) (sym (append-nil _ ∙ unspoken-other (Put key value file) es (λ i. refl)))
  step_entries (Del key) rs es h = h ∙ ap (entries_told content) (sym (append-nil _ ∙ unspoken-other (Del key) es (λ i. refl)))
  step_entries (AtomicGroup a b) rs es h = h ∙ ap (entries_told content) (sym (append-nil _ ∙ unspoken-other (AtomicGroup a b) es (λ i. refl)))
  step_entries Clean rs es h = ap (entries_told content) (sym (append-nil _ ∙ unspoken-clean es))

  -- entries that no step speaks of stay in front of those that the steps make
  steps_entries : (id : ℕ) (ss : List Step) (o v : Option Table) (left : List EntryIndex) (rs : Records) → unspoken ss left ≡ left → after Append id o ss ≡ Some v → rs.entries ≡ entries_told content (left ++ (table_of id o).entries)
      → (after_changes content rs ss).entries ≡ entries_told content (left ++ (table_of id v).entries)
  steps_entries id [] o v left rs still is h = h ∙ ap (λ (u : Option Table). entries_told content (left ++ (table_of id u).entries)) (some_is is)
    where
      some_is : {X : Type 0} {x y : X} → Some x ≡ Some y → x ≡ y
      some_is e = cc
  steps_entries id (s ∷ ss) o v left rs still is h = go (λ u e k. steps_entries id ss u v left (after_change content rs s) (left_by_rest (s ∷ []) ss left still) k (one u e)) (after_step Append (table_of id o) s) refl is
    where
      one : (u : Option Table) → after_step Append (table_of id o) s ≡ Some u → (after_change content rs s).entries ≡ entries_told content (left ++ (table_of id u).entries)
      one u e =
          step_entries s rs (left ++ (table_of id o).entries) h
          ∙ ap (λ l. entries_told content (l ++ put_by s)) (unspoken-append (s ∷ []) left (table_of id o).entries ∙ ap (λ l. l ++ unspoken (s ∷ []) (table_of id o).entries) (left_by_prefix (s ∷ []) ss left still))
          ∙ ap (entries_told content) (append_assoc left (unspoken (s ∷ []) (table_of id o).entries) (put_by s) ∙ ap (λ l. left ++ l) (sym (entries_after id (table_of id o) u s e)))

      go : ((u : Option Table) → after_step Append (table_of id o) s ≡ Some u → after Append id u ss ≡ Some v → (after_changes content (after_change content rs s) ss).entries ≡ entries_told content (left ++ (table_of id v).entries))
          → (x : Option (Option Table)) → after_step Append (table_of id o) s ≡ x → option_and_then (λ u. after Append id u ss) x ≡ Some v →
          (after_changes content (after_change content rs s) ss).entries ≡ entries_told content (left ++ (table_of id v).entries)
      go rest None e k = absurd cc
      go rest (Some u) e k = rest u e k

  -- ---- values

  step_value : (key : List ℕ) (s : Step) (rs : Records) → finite.get (after_change content rs s).values key ≡ cond (speaks_of_key key s) (option_map value_of (said_of_key s)) (finite.get rs.values key)
  step_value key (Run []) rs = refl
  step_value key (Run (e ∷ run)) rs = refl
  step_value key (Compact i) rs = refl
  step_value key (Truncate i) rs = refl
  step_value key (Put k value file) rs = finite.get-insert nat_list_cmp_total rs.values k value key
  step_value key (Del k) rs = finite.get-remove nat_list_cmp_total rs.values k key
  step_value key (AtomicGroup a b) rs = refl
  step_value key Clean rs = finite.get-empty (slice_cmp nat_cmp) key

  -- under a key stands the last word of the steps, or else what stood there before
  steps_value : (key : List ℕ) (ss : List Step) (rs : Records) → finite.get (after_changes content rs ss).values key ≡ cond (is_key_spoken ss key) (option_map value_of (last_pair key ss)) (finite.get rs.values key)
  steps_value key [] rs = refl
  steps_value key (s ∷ ss) rs =
      steps_value key ss (after_change content rs s)
      ∙ ap (cond (is_key_spoken ss key) (option_map value_of (last_pair key ss))) (step_value key s rs)
      ∙ go (is_key_spoken ss key) refl (speaks_of_key key s) refl
    where
      either : (b : Bool) → (b || true) ≡ true
      either true = refl
      either false = refl

      go : (a : Bool) → is_key_spoken ss key ≡ a → (b : Bool) → speaks_of_key key s ≡ b
          → cond a (option_map value_of (last_pair key ss)) (cond b (option_map value_of (said_of_key s)) (finite.get rs.values key)) ≡ cond (b || a) (option_map value_of (last_pair key (s ∷ ss))) (finite.get rs.values key)
      go true k b l = ap (option_map value_of) (sym (pair_later key (s ∷ []) ss k)) ∙ ap (λ c. cond c (option_map value_of (last_pair key (s ∷ ss))) (finite.get rs.values key)) (sym (either b))
      go false k true l = ap (option_map value_of) (sym (pair_prefix key (s ∷ []) ss k ∙ ap (λ c. option_and_then said_of_key (cond c (Some s) None)) l))
      go false k false l = refl

  -- ---- a region that a recovery found

  module _ (id : ℕ) (kept : List Step) (own rewritten : Option Table) (good : AreSteps kept) (is : after Append id None kept ≡ Some own) (run : IsRun (table_of id rewritten).entries) where
    abbrev old : Table
    old = table_of id rewritten

    abbrev l : LeavesOf kept (table_of id own).entries old.entries (overlay kept (table_of id own) old).entries
    l = leaves id kept own old.entries good is run

    -- the rewritten entries that stay, and the rewritten values
    pub base : Records
    base = record { entries = entries_told content l.left; values = values_of old.keys }

    left_unspoken : unspoken kept l.left ≡ l.left
    left_unspoken = left_by_prefix kept (Compact (start_of (overlay kept (table_of id own) old).entries) ∷ []) l.left
        (ap (unspoken (kept ++ Compact (start_of (overlay kept (table_of id own) old).entries) ∷ [])) (sym l.told) ∙ unspoken-twice (kept ++ Compact (start_of (overlay kept (table_of id own) old).entries) ∷ []) old.entries ∙ l.told)

    -- what was found has the records that the kept steps make of them
    pub overlay_has : HasRecords content (overlay kept (table_of id own) old) (after_changes content base kept)
    unfolding base
    overlay_has = record {
      entries = ap (entries_told content) l.split ∙ sym (steps_entries id kept None own l.left base left_unspoken is (ap (entries_told content) (sym (append-nil l.left))));
      values = λ key.
          ap (option_map value_of) (overlaid_pair_is kept (table_of id own).keys old.keys (λ k. last_pair_stands Append k id own kept is) key)
          ∙ if_value (is_key_spoken kept key) (last_pair key kept) (finite.get old.keys key)
          ∙ ap (cond (is_key_spoken kept key) (option_map value_of (last_pair key kept))) (sym (get_values old.keys key))
          ∙ sym (steps_value key kept base);
    }
