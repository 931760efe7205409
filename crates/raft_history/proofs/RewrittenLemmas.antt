-- Rewritten records that the append queue had, under the append queue's own tables.
use Rattle.raft_history.proofs.Common.{Append, Rewrite, or_parts, or_cases, leb-true, cond_both, and_right, list_any-append, option_and_then_some, or_left, or_right, ◌≡◌, ◌⊎◌, ℕ, ◌≤◌, Bool, true, false, cond, not, ◌||◌, List, [], ◌∷◌, ◌++◌}
use Rattle.raft_history.proofs.Common.{Option, Some, None, refl, sym, ap, subst, ◌∙◌, inl, inr, arith, nat_lt, nat_le, AllByRecursion, list_any, option_or, option_and_then, nat_cmp, eq_by_cmp, slice_cmp, nat_list_cmp_total}
use Rattle.raft_history.proofs.Common.{slice_cmp-IsAntisymmetric, nat_cmp-IsAntisymmetric, false≢true, nat_tests, EntryIndex, end_of, KeySet, without, Keys, Stored, pairs_over, lesser, last_that, speaks_of_index, said_of_index, last_entry}
use Rattle.raft_history.proofs.Common.{is_same_key, speaks_of_key, said_of_key, last_pair, entries_within, has_clean, greatest_compaction, least_cut, deleted_of, is_unjoined, rewritten_within, overlay, overlaid_table, kept_if}
use Rattle.raft_history.proofs.Common.{entries_after_replay, leaves_hole, Step, Run, Compact, Truncate, Put, Del, Clean, table_of, after_step, after, Table, below, from, get-pairs_over, same_some, get-without, same_keys, equal}
use Rattle.std.specs.Prelude.{◌&&◌}
use Rattle.std.specs.Option.{option_map, is_some}
use Rattle.std.specs.FinMap as finite
use Rattle.std.specs.FinSet as finset
use Rattle.raft_history.proofs.EffectLemmas.{each-append, each_filter, each_weaker}

-- ---- steps that speak of an index or of a key

-- whether a run of entries starts at or below an index
abbrev pub starts_by : ℕ → Step → Bool
starts_by i (Run (e ∷ run)) = nat_le e.index i
starts_by i _ = false

-- some run starts at or below the index
abbrev pub IsReached : List Step → ℕ → Type 0
IsReached ss i = list_any (starts_by i) ss ≡ true

-- some step puts or deletes the key, or cleans the region
abbrev pub IsSpoken : List Step → List ℕ → Type 0
IsSpoken ss key = list_any (speaks_of_key key) ss ≡ true

pub any_front : (p : Step → Bool) (xs ys : List Step) → list_any p xs ≡ true → list_any p (xs ++ ys) ≡ true
any_front p xs ys h = list_any-append p xs ys ∙ or_left (list_any p xs) (list_any p ys) h

-- the step that speaks last, where it says an entry, is a run that starts at or below the index
said_starts : (i : ℕ) (s : Step) (x : EntryIndex) → speaks_of_index i s ≡ true → said_of_index i s ≡ Some x → starts_by i s ≡ true
said_starts i (Run []) x h e = absurd (false≢true h)
said_starts i (Run (a ∷ run)) x h e = h
said_starts i _ x h e = absurd cc

-- the last step that passes a test, and says something that makes another test pass, is there
last_any : {X : Type 0} (p t : Step → Bool) (said : Step → Option X) → ((s : Step) (x : X) → p s ≡ true → said s ≡ Some x → t s ≡ true) → (ss : List Step) (x : X) → option_and_then said (last_that p ss) ≡ Some x → list_any t ss ≡ true
last_any p t said law [] x e = absurd cc
last_any p t said law (s ∷ ss) x e = go (last_any p t said law ss x) (last_that p ss) refl (p s) refl e
  where
    go : (option_and_then said (last_that p ss) ≡ Some x → list_any t ss ≡ true) → (o : Option Step) → last_that p ss ≡ o → (b : Bool) → p s ≡ b →
        option_and_then said (option_or o (cond b (Some s) None)) ≡ Some x → (t s || list_any t ss) ≡ true
    go rest (Some u) k b g e = or_right (t s) (list_any t ss) (rest (ap (option_and_then said) k ∙ e))
    go rest None k true g e = ap (λ b. b || list_any t ss) (law s x g e)
    go rest None k false g e = absurd cc

pub entry_reached : (i : ℕ) (ss : List Step) (x : EntryIndex) → last_entry i ss ≡ Some x → IsReached ss i
entry_reached i ss x e = last_any (speaks_of_index i) (starts_by i) (said_of_index i) (said_starts i) ss x e

pub pair_spoken : (key : List ℕ) (ss : List Step) (x : Stored) → last_pair key ss ≡ Some x → IsSpoken ss key
pair_spoken key ss x e = last_any (speaks_of_key key) (speaks_of_key key) said_of_key (λ s x h e. h) ss x e

-- ---- the cut

-- the bound is there, and at or below the index
abbrev pub IsAtOrAbove : Option ℕ → ℕ → Type 0
IsAtOrAbove None i = ⊥
IsAtOrAbove (Some cut) i = cut ≤ i

lower_first : (n i : ℕ) (m : Option ℕ) → n ≤ i → IsAtOrAbove (lesser (Some n) m) i
lower_first n i None h = h
lower_first n i (Some c) h = omega (arith, h)

lower_rest : (n i : ℕ) (m : Option ℕ) → IsAtOrAbove m i → IsAtOrAbove (lesser (Some n) m) i
lower_rest n i None h = absurd h
lower_rest n i (Some c) h = omega (arith, h)

pub cut_reached : (ss : List Step) (i : ℕ) → IsReached ss i → IsAtOrAbove (least_cut ss) i
cut_reached [] i h = absurd (false≢true h)
cut_reached (Run [] ∷ ss) i h = cut_reached ss i h
cut_reached (Run (e ∷ run) ∷ ss) i h = elim (or_cases (nat_le e.index i) (list_any (starts_by i) ss) h) [
  | inl t ↦ lower_first e.index i (least_cut ss) (leb-true e.index i t)
  | inr later ↦ lower_rest e.index i (least_cut ss) (cut_reached ss i later)
]
cut_reached (Truncate j ∷ ss) i h = lower_rest j i (least_cut ss) (cut_reached ss i h)
cut_reached (_ ∷ ss) i h = cut_reached ss i h

-- ---- entries

-- every entry's index is such a one
abbrev pub Indexes : (ℕ → Type 0) → List EntryIndex → Type 0
Indexes X es = AllByRecursion (λ (e : EntryIndex). X e.index) es

none_within : (floor : ℕ) (cut : Option ℕ) (es : List EntryIndex) → Indexes (IsAtOrAbove cut) es → entries_within floor cut es ≡ []
unfolding entries_within
none_within floor cut [] h = refl
none_within floor None (e ∷ es) h = absurd h.0
none_within floor (Some c) (e ∷ es) h =
    let t : (nat_le floor e.index && nat_lt e.index c) ≡ false = and_right (nat_le floor e.index) (nat_lt e.index c) (let k : c ≤ e.index = h.0 in grind (arith, nat_tests)) in
    rw t (none_within floor (Some c) es h.1)

indexes-weaker : (X Y : ℕ → Type 0) → ((i : ℕ) → X i → Y i) → (es : List EntryIndex) → Indexes X es → Indexes Y es
indexes-weaker X Y law es h = each_weaker (λ e. X e.index) (λ e. Y e.index) (λ e k. law e.index k) es h

-- nothing of the rewritten entries stays
pub none_stay : (floor : ℕ) (ss : List Step) (appended es : List EntryIndex) → Indexes (IsReached ss) es → rewritten_within floor (least_cut ss) appended es ≡ []
none_stay floor ss appended es h = cond_both (is_unjoined (least_cut ss) (end_of es) appended) [] (entries_within floor (least_cut ss) es) (λ l. l ≡ []) (λ t. refl)
    (λ t. none_within floor (least_cut ss) es (indexes-weaker (IsReached ss) (IsAtOrAbove (least_cut ss)) (cut_reached ss) es h))

-- ---- keys

kept_deleted : (ss : List Step) (d : KeySet) (key : List ℕ) → has_clean ss ≡ false → finset.contains d key ≡ true → finset.contains (deleted_of d ss) key ≡ true
kept_deleted [] d key c h = h
kept_deleted (Del k ∷ ss) d key c h = kept_deleted ss (finset.insert d k) key c (finset.contains-insert nat_list_cmp_total d k key ∙ or_right (eq_by_cmp (slice_cmp nat_cmp) key k) (finset.contains d key) h)
kept_deleted (Clean ∷ ss) d key c h = absurd (false≢true (sym c))
kept_deleted (_ ∷ ss) d key c h = kept_deleted ss d key c h

-- a key that is spoken of has a value, or is deleted
abbrev pub IsSettled : KeySet → List ℕ → List Step → Type 0
IsSettled d key ss = (finset.contains (deleted_of d ss) key ≡ true) ⊎ ((x : Stored) × (last_pair key ss ≡ Some x))

last_more : (key : List ℕ) (s : Step) (ss : List Step) (x : Stored) → last_pair key ss ≡ Some x → last_pair key (s ∷ ss) ≡ Some x
last_more key s ss x e = go (last_that (speaks_of_key key) ss) e
  where
    go : (o : Option Step) → option_and_then said_of_key o ≡ Some x → option_and_then said_of_key (option_or o (cond (speaks_of_key key s) (Some s) None)) ≡ Some x
    go None e = absurd cc
    go (Some u) e = e

none_last : (p : Step → Bool) (ss : List Step) → list_any p ss ≡ false → last_that p ss ≡ None
none_last p [] h = refl
none_last p (s ∷ ss) h = let n = or_parts (p s) (list_any p ss) h in rw (none_last p ss n.1, n.0) refl

weaken : (key : List ℕ) (s : Step) (ss : List Step) (D : KeySet) → (finset.contains D key ≡ true) ⊎ ((x : Stored) × (last_pair key ss ≡ Some x)) → (finset.contains D key ≡ true) ⊎ ((x : Stored) × (last_pair key (s ∷ ss) ≡ Some x))
weaken key s ss D (inl e) = inl e
weaken key s ss D (inr x) = inr (x.0, last_more key s ss x.0 x.1)

either : (a b : Bool) → (a || b) ≡ true → (b ≡ true) ⊎ ((a ≡ true) × (b ≡ false))
either a true h = inl refl
either true false h = inr (refl, refl)
either false false h = absurd (false≢true h)

pub settled : (key : List ℕ) (ss : List Step) (d : KeySet) → IsSpoken ss key → has_clean ss ≡ false → IsSettled d key ss
settled key [] d h c = absurd (false≢true h)
settled key (Put k value file ∷ ss) d h c = elim (either (is_same_key key k) (list_any (speaks_of_key key) ss) h) [
  | inl later ↦ weaken key (Put k value file) ss (deleted_of d ss) (settled key ss d later c)
  | inr now ↦ inr (
    record { value = value; file = file },
    ap (λ o. option_and_then said_of_key (option_or o (cond (is_same_key key k) (Some (Put k value file)) None)))
        (none_last (speaks_of_key key) ss now.1) ∙ ap (λ b. option_and_then said_of_key (cond b (Some (Put k value file)) None)) now.0,
  )
]
settled key (Del k ∷ ss) d h c = elim (either (is_same_key key k) (list_any (speaks_of_key key) ss) h) [
  | inl later ↦ weaken key (Del k) ss (deleted_of (finset.insert d k) ss) (settled key ss (finset.insert d k) later c)
  | inr now ↦ inl (kept_deleted ss (finset.insert d k) key c (finset.contains-insert nat_list_cmp_total d k key ∙ ap (λ b. b || finset.contains d key) now.0))
]
settled key (Clean ∷ ss) d h c = absurd (false≢true (sym c))
settled key (s ∷ ss) d h c = weaken key s ss (deleted_of d ss) (settled key ss d h c)

-- the appended pairs over such rewritten ones are the appended pairs
pub none_over : (ss : List Step) (appended rewritten : Keys) → has_clean ss ≡ false → ((key : List ℕ) → finite.get appended key ≡ last_pair key ss) → ((key : List ℕ) (x : Stored) → finite.get rewritten key ≡ Some x → IsSpoken ss key)
    → pairs_over appended (without (deleted_of finset.empty ss) rewritten) ≡ appended
none_over ss appended rewritten c last spoken = same_keys _ _ (λ key. rw (get-pairs_over, get-without) (at key (finite.get rewritten key) refl))
  where
    own : (a b : Option Stored) (x : Stored) → a ≡ Some x → option_or a b ≡ a
    own None b x e = absurd cc
    own (Some y) b x e = refl

    at : (key : List ℕ) (o : Option Stored) → finite.get rewritten key ≡ o → option_or (finite.get appended key) (cond (not (finset.contains (deleted_of finset.empty ss) key)) o None) ≡ finite.get appended key
    at key None e = go (finite.get appended key) (not (finset.contains (deleted_of finset.empty ss) key))
      where
        go : (a : Option Stored) (b : Bool) → option_or a (cond b None None) ≡ a
        go None true = refl
        go None false = refl
        go (Some x) b = refl
    at key (Some x) e = elim (settled key ss finset.empty (spoken key x e) c) [
      | inl gone ↦ ap (λ b. option_or (finite.get appended key) (cond (not b) (Some x) None)) gone ∙ or_none (finite.get appended key)
      | inr y ↦ own (finite.get appended key) _ y.0 (last key ∙ y.1)
    ]
      where
        or_none : (a : Option Stored) → option_or a None ≡ a
        or_none None = refl
        or_none (Some x) = refl

-- ---- the rewritten table

-- a step's records are such ones
abbrev pub IsStepWithin : (ℕ → Type 0) → (List ℕ → Type 0) → Step → Type 0
IsStepWithin X Y (Run run) = Indexes X run
IsStepWithin X Y (Put key value file) = Y key
IsStepWithin X Y _ = Unit {0}

below_within : (X : ℕ → Type 0) (i : ℕ) (es : List EntryIndex) → Indexes X es → Indexes X (below i es)
unfolding below
below_within X i es h = each_filter (λ e. X e.index) _ es h

from_within : (X : ℕ → Type 0) (i : ℕ) (es : List EntryIndex) → Indexes X es → Indexes X (from i es)
unfolding from
from_within X i es h = each_filter (λ e. X e.index) _ es h

run_within : (X : ℕ → Type 0) (es run after : List EntryIndex) → Indexes X es → Indexes X run → entries_after_replay Rewrite es run ≡ Some after → Indexes X after
run_within X es [] after h k e = subst (Indexes X) (same_some es after e) h
run_within X es (a ∷ run) after h k e = subst (Indexes X) (same_some _ after e) (cond_both (leaves_hole es a.index) (a ∷ run) (below a.index es ++ a ∷ run) (Indexes X) (λ t. k)
    (λ t. each-append (λ e. X e.index) (below a.index es) (a ∷ run) (below_within X a.index es h) k))

module _ (X : ℕ → Type 0) (Y : List ℕ → Type 0) (id : ℕ) where
  step_within : (o v : Option Table) (s : Step) → Indexes X (table_of id o).entries → IsStepWithin X Y s → after_step Rewrite (table_of id o) s ≡ Some v → Indexes X (table_of id v).entries
  step_within o v (Run run) h k e = go (entries_after_replay Rewrite (table_of id o).entries run) refl e
    where
      go : (x : Option (List EntryIndex)) → entries_after_replay Rewrite (table_of id o).entries run ≡ x →
          option_map Some (option_map {U = Table} (λ es. record (table_of id o) { entries = es }) x) ≡ Some v → Indexes X (table_of id v).entries
      go None f e = absurd cc
      go (Some es) f e = subst (λ (u : Option Table). Indexes X (table_of id u).entries) (same_some _ v e) (run_within X (table_of id o).entries run es h k f)
  step_within o v (Compact j) h k e = subst (λ (u : Option Table). Indexes X (table_of id u).entries) (same_some _ v e) (from_within X j (table_of id o).entries h)
  step_within o v (Truncate j) h k e = subst (λ (u : Option Table). Indexes X (table_of id u).entries) (same_some _ v e) (below_within X j (table_of id o).entries h)
  step_within o v Clean h k e = subst (λ (u : Option Table). Indexes X (table_of id u).entries) (same_some _ v e) tt
  step_within o v _ h k e = subst (λ (u : Option Table). Indexes X (table_of id u).entries) (same_some _ v e) h

  pub entries_stay_within : (o t : Option Table) (ss : List Step) → Indexes X (table_of id o).entries → AllByRecursion (IsStepWithin X Y) ss → after Rewrite id o ss ≡ Some t → Indexes X (table_of id t).entries
  entries_stay_within o t [] h k e = subst (λ (u : Option Table). Indexes X (table_of id u).entries) (same_some o t e) h
  entries_stay_within o t (s ∷ ss) h k e =
      option_and_then_some (λ (v : Option Table). after Rewrite id v ss) (after_step Rewrite (table_of id o) s) t e (λ v is e. entries_stay_within v t ss (step_within o v s h k.0 is) k.1 e)

  said_within : (key : List ℕ) (s : Step) (x : Stored) → IsStepWithin X Y s → speaks_of_key key s ≡ true → said_of_key s ≡ Some x → Y key
  said_within key (Put k value file) x h t e = subst Y (sym (slice_cmp-IsAntisymmetric nat_cmp-IsAntisymmetric key k (equal _ t))) h
  said_within key _ x h t e = absurd cc

  pub pairs_stay_within : (key : List ℕ) (ss : List Step) (x : Stored) → AllByRecursion (IsStepWithin X Y) ss → last_pair key ss ≡ Some x → Y key
  pairs_stay_within key [] x h e = absurd cc
  pairs_stay_within key (s ∷ ss) x h e = go (pairs_stay_within key ss x h.1) (last_that (speaks_of_key key) ss) refl (speaks_of_key key s) refl e
    where
      go : (last_pair key ss ≡ Some x → Y key) → (o : Option Step) → last_that (speaks_of_key key) ss ≡ o → (b : Bool) → speaks_of_key key s ≡ b → option_and_then said_of_key (option_or o (cond b (Some s) None)) ≡ Some x → Y key
      go rest (Some u) k b g e = rest (ap (option_and_then said_of_key) k ∙ e)
      go rest None k true g e = said_within key s x h.0 g e
      go rest None k false g e = absurd cc

-- ---- the overlay

-- the records of a rewritten table are such as the steps of the append queue speak of
pub record IsSpokenTable (ss : List Step) (t : Table) : Type 0 where
  pub entries : Indexes (IsReached ss) t.entries
  pub keys : (key : List ℕ) (x : Stored) → finite.get t.keys key ≡ Some x → IsSpoken ss key

over_entries : (ss : List Step) (a r : Table) → IsSpokenTable ss r → (overlay ss a r).entries ≡ a.entries
over_entries ss a r h =
    cond_both (has_clean ss) a.entries (rewritten_within (greatest_compaction ss) (least_cut ss) a.entries r.entries ++ a.entries) (λ es. es ≡ a.entries) (λ t. refl)
    (λ t. ap (λ es. es ++ a.entries) (none_stay (greatest_compaction ss) ss a.entries r.entries h.entries))

over_keys : (ss : List Step) (a r : Table) → IsSpokenTable ss r → ((key : List ℕ) → finite.get a.keys key ≡ last_pair key ss) → (overlay ss a r).keys ≡ a.keys
over_keys ss a r h last = cond_both (has_clean ss) a.keys (pairs_over a.keys (without (deleted_of finset.empty ss) r.keys)) (λ keys. keys ≡ a.keys) (λ t. refl) (λ t. none_over ss a.keys r.keys t last h.keys)

-- the same records, an absent table having none
pub record HasSameRecords (id : ℕ) (t a : Option Table) : Type 0 where
  pub entries : (table_of id t).entries ≡ (table_of id a).entries
  pub keys : (table_of id t).keys ≡ (table_of id a).keys

pub overlay_same : (id : ℕ) (ss : List Step) (a r : Option Table) → IsSpokenTable ss (table_of id r) → ((key : List ℕ) → finite.get (table_of id a).keys key ≡ last_pair key ss) → HasSameRecords id (overlaid_table id ss a r) a
overlay_same id ss a r h last = go a r (has_clean ss) (over_entries ss (table_of id a) (table_of id r) h) (over_keys ss (table_of id a) (table_of id r) h last)
  where
    go : (a r : Option Table) (b : Bool) → (overlay ss (table_of id a) (table_of id r)).entries ≡ (table_of id a).entries → (overlay ss (table_of id a) (table_of id r)).keys ≡ (table_of id a).keys
        → HasSameRecords id (kept_if (cond b (is_some a) (is_some a || is_some r)) (overlay ss (table_of id a) (table_of id r))) a
    go (Some a) r true e k = record { entries = e; keys = k }
    go (Some a) r false e k = record { entries = e; keys = k }
    go None r true e k = record { entries = refl; keys = refl }
    go None None false e k = record { entries = refl; keys = refl }
    go None (Some r) false e k = record { entries = e; keys = k }

-- a region that the append queue doesn't name
pub unnamed_same : (id : ℕ) (a r : Option Table) → IsSpokenTable [] (table_of id r) → after Append id None [] ≡ Some a → HasSameRecords id r a
unnamed_same id a r h e =
    let none : a ≡ None = sym (same_some None a e) in
    record {
      entries = no_entries (table_of id r).entries h.entries ∙ sym (ap (λ o. (table_of id o).entries) none);
      keys = same_keys _ _ (λ key. no_pair key (finite.get (table_of id r).keys key) refl ∙ sym (finite.get-empty (slice_cmp nat_cmp) key)) ∙ sym (ap (λ o. (table_of id o).keys) none);
    }
  where
    no_entries : (es : List EntryIndex) → Indexes (IsReached []) es → es ≡ []
    no_entries [] h = refl
    no_entries (e ∷ es) h = absurd (false≢true h.0)

    no_pair : (key : List ℕ) (o : Option Stored) → finite.get (table_of id r).keys key ≡ o → o ≡ None
    no_pair key None e = refl
    no_pair key (Some x) e = absurd (false≢true (h.keys key x e))
