-- What a region mark takes away of a table, as items and by the table's ends.
use Rattle.std.proofs.Common.{◌≡◌, ◌≢◌, ℕ, ◌≤◌, Bool, true, false, cond, List, [], ◌∷◌, ◌++◌, length, map, Option, Some, None, refl, sym, ap, ◌∙◌, append_assoc, append-nil, arith}
use Rattle.std.specs.Prelude.{◌||◌, ◌&&◌, ◌<◌, IsPermutation, MatchOption, filter, flat_map, max, min, nat_le, nat_lt, suc}
use Rattle.std.specs.List.{list_any}
use Rattle.std.specs.Option.{unwrap_or}
use Rattle.std.specs.FinMap as finite
use Rattle.std.proofs.lemmas.Bool.Decides.{nat_tests}
use Rattle.raft_base.specs.declared.entry_index.EntryIndex.{EntryIndex}
use Rattle.raft_base.specs.Runs.{IsRun, RisesFrom, end_of}
use Rattle.raft_records.specs.declared.command.Command.TheVariants as commands
use Rattle.raft_records.specs.Item.{Item, command_item}
use Rattle.raft_records.specs.LogBatch.{Batch, empty_batch}
use Rattle.raft_table.specs.LastWord.{speaks_of_index}
use Rattle.raft_table.specs.MarkJoins.{fresh, mark_of}
use Rattle.raft_table.specs.Marks.{Mark}
use Rattle.raft_table.specs.Steps.{Step, Clean, Compact, Run, Truncate, table_of}
use Rattle.raft_table.specs.Table.{Table}
use Rattle.raft_table.specs.TableEntries.{start_of}
use Rattle.raft_history.specs.MarkedRegions.{region_in}
use Rattle.raft_history.specs.RegionSteps.{Tables}
use Rattle.raft_contexts.specs.MarkedTables.{regions_in}
use Rattle.raft_contexts.specs.TakenAway.{bounds_told, cut_told, first_in, first_of, front_told, is_front_dropped, item_of_step, items_of_steps, items_of_table, steps_at_once, steps_later, takes_of, takes_pair, told_by_mark}
use Rattle.raft_contexts.specs.TakenBatches.{AreOpen, IsTakenAway, with_both, with_items, with_mark_told, with_table_told}
use Rattle.raft_contexts.specs.declared.marked_tables.MarkedTables.{MarkedTables}
use Rattle.raft_contexts.specs.declared.taken_away.TakenAway.{TakenAway}
use Rattle.raft_contexts.proofs.ImpliedMarkLemmas.{get_kept, mark_implied}

-- ---- items

flat-append : {A B : Type 0} (f : A → List B) (xs ys : List A) → flat_map f (xs ++ ys) ≡ flat_map f xs ++ flat_map f ys
flat-append f [] ys = refl
flat-append f (x ∷ xs) ys = ap (λ l. f x ++ l) (flat-append f xs ys) ∙ sym (append_assoc (f x) (flat_map f xs) (flat_map f ys))

pub with_more : (old new newer : Batch) (a b : List Item) → new ≡ record old { items = old.items ++ a } → newer ≡ record new { items = new.items ++ b }
    → newer ≡ record old { items = old.items ++ (a ++ b) }
with_more old new newer a b e f = f ∙ ap (λ (n : Batch). record n { items = n.items ++ b }) e ∙ ap (λ (l : List Item). record old { items = l }) (append_assoc old.items a b)

pub with_none : (old : Batch) → old ≡ record old { items = old.items ++ [] }
with_none old = ap (λ (l : List Item). record old { items = l }) (sym (append-nil old.items))

pub told_both : (region : ℕ) (old new newer : Batch) (a b : List Step) → new ≡ record old { items = old.items ++ items_of_steps region a } → newer ≡ record new { items = new.items ++ items_of_steps region b }
    → newer ≡ record old { items = old.items ++ items_of_steps region (a ++ b) }
told_both region old new newer a b e f = with_more old new newer (items_of_steps region a) (items_of_steps region b) e f
    ∙ ap (λ (l : List Item). record old { items = old.items ++ l }) (sym (flat-append (item_of_step region) a b))

-- ---- the bounds of a mark

pub clean_items : (region : ℕ) (m : Mark) (t : Table) → m.cleaned ≡ true → cond (takes_of t Clean) (command_item region commands.Clean ∷ []) [] ≡ items_of_steps region (filter (takes_of t) (bounds_told m))
clean_items region m t e = sym (ap (λ (b : Bool). items_of_steps region (filter (takes_of t) (cond b (Clean ∷ []) (Compact m.floor ∷ cut_told m.cut)))) e ∙ go (takes_of t Clean))
  where
    go : (b : Bool) → items_of_steps region (cond b (Clean ∷ []) []) ≡ cond b (command_item region commands.Clean ∷ []) []
    go true = refl
    go false = refl

module _ (region : ℕ) (m : Mark) (t : Table) (e : m.cleaned ≡ false) where
  bounds : (cut : Option ℕ) → m.cut ≡ cut → items_of_steps region (filter (takes_of t) (bounds_told m)) ≡ items_of_steps region (filter (takes_of t) (Compact m.floor ∷ cut_told cut))
  bounds cut f = ap (λ (b : Bool). items_of_steps region (filter (takes_of t) (cond b (Clean ∷ []) (Compact m.floor ∷ cut_told m.cut)))) e ∙ ap (λ (c : Option ℕ). items_of_steps region (filter (takes_of t) (Compact m.floor ∷ cut_told c))) f

  pub uncut_items : m.cut ≡ None → cond (takes_of t (Compact m.floor)) (command_item region (commands.Compact m.floor) ∷ []) [] ≡ items_of_steps region (filter (takes_of t) (bounds_told m))
  uncut_items f = sym (bounds None f ∙ go (takes_of t (Compact m.floor)))
    where
      go : (b : Bool) → items_of_steps region (cond b (Compact m.floor ∷ []) []) ≡ cond b (command_item region (commands.Compact m.floor) ∷ []) []
      go true = refl
      go false = refl

  pub cut_items : (index : ℕ) → m.cut ≡ Some index
      → cond (takes_of t (Compact m.floor)) (command_item region (commands.Compact m.floor) ∷ []) [] ++ cond (takes_of t (Truncate index)) (command_item region (commands.Truncate index) ∷ []) []
      ≡ items_of_steps region (filter (takes_of t) (bounds_told m))
  cut_items index f = sym (bounds (Some index) f ∙ go (takes_of t (Compact m.floor)) (takes_of t (Truncate index)))
    where
      go : (a b : Bool) → items_of_steps region (cond a (Compact m.floor ∷ cond b (Truncate index ∷ []) []) (cond b (Truncate index ∷ []) []))
          ≡ cond a (command_item region (commands.Compact m.floor) ∷ []) [] ++ cond b (command_item region (commands.Truncate index) ∷ []) []
      go true true = refl
      go true false = refl
      go false true = refl
      go false false = refl

-- ---- what a step takes of a table, by its ends

or_none : (b : Bool) → (b || false) ≡ b
or_none true = refl
or_none false = refl

cut_one : (i n end : ℕ) (b : Bool) → b ≡ nat_lt i end → (nat_le i n || b) ≡ nat_lt i (max (suc n) end)
cut_one i n end b e = grind (arith, nat_tests)

some_above : (i : ℕ) (es : List EntryIndex) → list_any (λ (e : EntryIndex). nat_le i e.index) es ≡ nat_lt i (end_of es)
unfolding end_of
some_above i [] = grind (arith, nat_tests)
some_above i (e ∷ es) = cut_one i e.index (end_of es) (list_any (λ (e : EntryIndex). nat_le i e.index) es) (some_above i es)

pub takes_truncation : (t : Table) (i : ℕ) → takes_of t (Truncate i) ≡ nat_lt i (end_of t.entries)
takes_truncation t i = or_none (list_any (λ (e : EntryIndex). nat_le i e.index) t.entries) ∙ some_above i t.entries

not_below : (s i : ℕ) → i ≤ s → nat_lt s i ≡ false
not_below s i h = grind (arith, nat_tests)

none_below : (s i : ℕ) (es : List EntryIndex) → RisesFrom s es → i ≤ s → list_any (λ (e : EntryIndex). nat_lt e.index i) es ≡ false
none_below s i [] r h = refl
none_below s i (e ∷ es) r h = ap (λ b. b || list_any (λ (e : EntryIndex). nat_lt e.index i) es) (ap (λ n. nat_lt n i) r.0 ∙ not_below s i h) ∙ none_below (suc s) i es r.1 (omega (arith, h))

pub takes_compaction : (t : Table) (i : ℕ) → IsRun t.entries → t.entries ≢ [] → takes_of t (Compact i) ≡ nat_lt (start_of t.entries) i
takes_compaction t i run some = or_none (list_any (λ (e : EntryIndex). nat_lt e.index i) t.entries) ∙ go t.entries run some
  where
    above : (n : ℕ) (es : List EntryIndex) → RisesFrom (suc n) es → (b : Bool) → nat_lt n i ≡ b → (b || list_any (λ (e : EntryIndex). nat_lt e.index i) es) ≡ b
    above n es r true e = refl
    above n es r false e = none_below (suc n) i es r (least e)
      where
        least : nat_lt n i ≡ false → i ≤ suc n
        least e = grind (arith, nat_tests)

    go : (es : List EntryIndex) → IsRun es → es ≢ [] → list_any (λ (e : EntryIndex). nat_lt e.index i) es ≡ nat_lt (start_of es) i
    go [] run some = absurd (some refl)
    go (e ∷ es) run some = above e.index es run (nat_lt e.index i) refl

pub takes_none : (t : Table) (i : ℕ) → t.entries ≡ [] → takes_of t (Compact i) ≡ false
takes_none t i e = or_none (list_any (λ (e : EntryIndex). nat_lt e.index i) t.entries) ∙ ap (list_any (λ (e : EntryIndex). nat_lt e.index i)) e

some_there : {A B : Type 0} (f : A → B) (xs : List A) → list_any (λ (x : B). true) (map f xs) ≡ nat_lt 0 (length xs)
some_there f [] = grind (arith, nat_tests)
some_there f (x ∷ xs) = grind (arith, nat_tests)

some_entry : (xs : List EntryIndex) → list_any (λ (e : EntryIndex). speaks_of_index e.index Clean) xs ≡ nat_lt 0 (length xs)
some_entry [] = grind (arith, nat_tests)
some_entry (x ∷ xs) = grind (arith, nat_tests)

pub takes_clean : (t : Table) → takes_of t Clean ≡ (nat_lt 0 (length t.entries) || nat_lt 0 (finite.len t.keys))
takes_clean t = ap (λ b. b || takes_pair t Clean) (some_entry t.entries) ∙ ap (λ b. nat_lt 0 (length t.entries) || b) (some_there (λ e. e.0) (finite.entries t.keys) ∙ ap (nat_lt 0) (sym (finite.len-entries t.keys)))

pub has_entry : (t : Table) (n : ℕ) → n ≡ length t.entries → 0 < n → nat_lt 0 n ≡ takes_of t Clean
has_entry t n e h = above n h ∙ sym (takes_clean t ∙ ap (λ b. b || nat_lt 0 (finite.len t.keys)) (ap (nat_lt 0) (sym e) ∙ above n h))
  where
    above : (n : ℕ) → 0 < n → nat_lt 0 n ≡ true
    above n h = grind (arith, nat_tests)

pub has_pair : (t : Table) (n k : ℕ) → n ≡ length t.entries → n ≤ 0 → k ≡ finite.len t.keys → nat_lt 0 k ≡ takes_of t Clean
has_pair t n k e h f = ap (nat_lt 0) f ∙ sym (takes_clean t ∙ ap (λ b. b || nat_lt 0 (finite.len t.keys)) (ap (nat_lt 0) (sym e) ∙ none n h))
  where
    none : (n : ℕ) → n ≤ 0 → nat_lt 0 n ≡ false
    none n h = grind (arith, nat_tests)

-- ---- a mark with a cut

pub told_cut : (old new newer : Batch) (m : Mark) (t : Table) (region floor index : ℕ) (a b : Bool) → region ≡ t.region_id → m.cleaned ≡ false → floor ≡ m.floor → m.cut ≡ Some index
    → a ≡ takes_of t (Compact floor) → b ≡ takes_of t (Truncate index)
    → new ≡ record old { items = old.items ++ cond a (command_item region (commands.Compact floor) ∷ []) [] }
    → newer ≡ record new { items = new.items ++ cond b (command_item region (commands.Truncate index) ∷ []) [] }
    → newer ≡ record old { items = old.items ++ items_of_steps t.region_id (filter (takes_of t) (bounds_told m)) }
told_cut old new newer m t region floor index a b is clean low cut e f g h =
    with_more old new newer (cond a (command_item region (commands.Compact floor) ∷ []) []) (cond b (command_item region (commands.Truncate index) ∷ []) []) g h
    ∙ ap (λ (l : List Item). record old { items = old.items ++ l }) both
  where
    both : cond a (command_item region (commands.Compact floor) ∷ []) [] ++ cond b (command_item region (commands.Truncate index) ∷ []) [] ≡ items_of_steps t.region_id (filter (takes_of t) (bounds_told m))
    both =
        ap (λ x. cond x (command_item region (commands.Compact floor) ∷ []) [] ++ cond b (command_item region (commands.Truncate index) ∷ []) []) e
        ∙ ap (λ x. cond (takes_of t (Compact floor)) (command_item region (commands.Compact floor) ∷ []) [] ++ cond x (command_item region (commands.Truncate index) ∷ []) []) f
        ∙ ap (λ r. cond (takes_of t (Compact floor)) (command_item r (commands.Compact floor) ∷ []) [] ++ cond (takes_of t (Truncate index)) (command_item r (commands.Truncate index) ∷ []) []) is
        ∙ ap (λ n. cond (takes_of t (Compact n)) (command_item t.region_id (commands.Compact n) ∷ []) [] ++ cond (takes_of t (Truncate index)) (command_item t.region_id (commands.Truncate index) ∷ []) []) low
        ∙ cut_items t.region_id m t clean index cut

-- ---- rewritten entries that appended ones don't join

pub no_between : (start from below : ℕ) → false ≡ nat_lt (max start from) (min start below)
no_between start from below = grind (arith, nat_tests)

one_between : (s from below end : ℕ) (b : Bool) → suc s ≤ end → b ≡ nat_lt (max (suc s) from) (min end below)
    → ((nat_le from s && nat_lt s below) || b) ≡ nat_lt (max s from) (min end below)
one_between s from below end b h e = grind (arith, nat_tests)

any_between : (s from below : ℕ) (es : List EntryIndex) → RisesFrom s es
    → list_any (λ (e : EntryIndex). nat_le from e.index && nat_lt e.index below) es ≡ nat_lt (max s from) (min (max s (end_of es)) below)
unfolding end_of
any_between s from below [] r = no_between s from below ∙ ap (λ n. nat_lt (max s from) (min n below)) (sym (omega arith))
any_between s from below (e ∷ es) r =
    ap (λ n. (nat_le from n && nat_lt n below) || list_any (λ (e : EntryIndex). nat_le from e.index && nat_lt e.index below) es) r.0
    ∙ one_between s from below (max (suc s) (end_of es)) (list_any (λ (e : EntryIndex). nat_le from e.index && nat_lt e.index below) es) (omega arith) (any_between (suc s) from below es r.1)
    ∙ ap (λ n. nat_lt (max s from) (min n below)) (omega arith)
    ∙ ap (λ i. nat_lt (max s from) (min (max s (max (suc i) (end_of es))) below)) (sym r.0)

pub run_between : (from below : ℕ) (es : List EntryIndex) → IsRun es → es ≢ []
    → list_any (λ (e : EntryIndex). nat_le from e.index && nat_lt e.index below) es ≡ nat_lt (max (start_of es) from) (min (end_of es) below)
unfolding end_of
run_between from below [] run some = absurd (some refl)
run_between from below (e ∷ es) run some =
    any_between e.index from below (e ∷ es) (refl, run) ∙ ap (λ n. nat_lt (max e.index from) (min n below)) (omega arith)

-- ---- what is told of one table

pub tell_later : (m : Mark) (first : Option ℕ) (t : Table) (old : TakenAway) (told : Batch) → is_front_dropped m first t ≡ false → told ≡ with_items old.later (items_of_steps t.region_id (told_by_mark m t))
    → record old { later = told } ≡ with_mark_told m first t old
tell_later m first t old told kept e =
    ap (λ (l : Batch). record old { later = l }) e
    ∙ ap (λ (l : Batch). record { at_once = l; later = with_items old.later (items_of_steps t.region_id (told_by_mark m t)) }) (with_none old.at_once)
    ∙ sym (ap (λ (b : Bool). with_both old (items_of_steps t.region_id (cond b (told_by_mark m t ++ front_told first t) [])) (items_of_steps t.region_id (cond b [] (told_by_mark m t)))) kept)

pub tell_now : (m : Mark) (index region : ℕ) (t : Table) (old : TakenAway) (told newer : Batch) (takes : Bool) → is_front_dropped m (Some index) t ≡ true → region ≡ t.region_id → takes ≡ takes_of t (Compact index)
    → told ≡ with_items old.at_once (items_of_steps t.region_id (told_by_mark m t)) → newer ≡ record told { items = told.items ++ cond takes (command_item region (commands.Compact index) ∷ []) [] }
    → record old { at_once = newer } ≡ with_mark_told m (Some index) t old
tell_now m index region t old told newer takes dropped is does e f =
    ap (λ (l : Batch). record old { at_once = l }) (with_more old.at_once told newer (items_of_steps t.region_id (told_by_mark m t)) (cond takes (command_item region (commands.Compact index) ∷ []) []) e f)
    ∙ ap (λ (l : List Item). record old { at_once = with_items old.at_once (items_of_steps t.region_id (told_by_mark m t) ++ l) }) front
    ∙ ap (λ (l : List Item). record old { at_once = with_items old.at_once l }) (sym (flat-append (item_of_step t.region_id) (told_by_mark m t) (front_told (Some index) t)))
    ∙ ap (λ (l : Batch). record { at_once = with_items old.at_once (items_of_steps t.region_id (told_by_mark m t ++ front_told (Some index) t)); later = l }) (with_none old.later)
    ∙ sym (ap (λ (b : Bool). with_both old (items_of_steps t.region_id (cond b (told_by_mark m t ++ front_told (Some index) t) [])) (items_of_steps t.region_id (cond b [] (told_by_mark m t)))) dropped)
  where
    go : (b : Bool) → cond b (command_item t.region_id (commands.Compact index) ∷ []) [] ≡ items_of_steps t.region_id (cond b (Compact index ∷ []) [])
    go true = refl
    go false = refl

    front : cond takes (command_item region (commands.Compact index) ∷ []) [] ≡ items_of_steps t.region_id (front_told (Some index) t)
    front =
        ap (λ (b : Bool). cond b (command_item region (commands.Compact index) ∷ []) []) does
        ∙ ap (λ (r : ℕ). cond (takes_of t (Compact index)) (command_item r (commands.Compact index) ∷ []) []) is ∙ go (takes_of t (Compact index))

-- ---- the mark of a table's region

pub first_index_is : (es : List EntryIndex) (first : Option ℕ) → MatchOption first (es ≡ []) (λ (i : ℕ). (es ≢ []) × (i ≡ start_of es)) → first ≡ first_of es
first_index_is [] None h = refl
first_index_is [] (Some i) h = absurd (h.0 refl)
first_index_is (e ∷ es) None h = absurd cc
first_index_is (e ∷ es) (Some i) h = ap Some h.1

pub under_mark : (m : MarkedTables) (t : Table) (id : ℕ) (mark : Mark) (first : Option ℕ) (old new : TakenAway) → id ≡ t.region_id → (region_in (regions_in m) id).mark ≡ mark
    → first ≡ first_of (table_of id (finite.get m.accessor.tables id)).entries
    → new ≡ with_mark_told mark first t old → new ≡ with_table_told (regions_in m) t old
under_mark m t id mark first old new is e f told =
    told ∙ ap (λ (x : Mark). with_mark_told x first t old) (sym e ∙ ap (λ i. (region_in (regions_in m) i).mark) is)
    ∙ ap (λ (x : Option ℕ). with_mark_told (region_in (regions_in m) t.region_id).mark x t old) (f ∙ ap (λ i. first_in (regions_in m) i) is)

pub kept_mark : (m : MarkedTables) (id : ℕ) (mark : Mark) → Some mark ≡ finite.get m.marks id → (region_in (regions_in m) id).mark ≡ mark
kept_mark m id mark e = ap (λ (o : Option Mark). unwrap_or o fresh) (get_kept m.accessor.tables m.marks id mark (sym e))

pub mark_of_table : (m : MarkedTables) (id : ℕ) (own : Option Table) → finite.get m.marks id ≡ None → own ≡ finite.get m.accessor.tables id → (region_in (regions_in m) id).mark ≡ mark_of (Run (table_of id own).entries)
mark_of_table m id own none e = mark_implied m.accessor.tables m.marks id none ∙ ap (λ (o : Option Table). mark_of (Run (table_of id o).entries)) (sym e)

-- ---- tables one after another

-- what is told of some tables, as batches
pub record AreTablesTold (m : MarkedTables) (tables : List Table) (taken : TakenAway) : Type 0 where
  pub at_once : taken.at_once ≡ record empty_batch { items = flat_map (items_of_table steps_at_once (regions_in m)) tables }
  pub later : taken.later ≡ record empty_batch { items = flat_map (items_of_table steps_later (regions_in m)) tables }

pub no_table_told : (m : MarkedTables) → AreTablesTold m [] (record { at_once = empty_batch; later = empty_batch })
no_table_told m = record { at_once = refl; later = refl }

one_more : (f : Table → List Item) (tables : List Table) (t : Table) (told new : Batch) → told ≡ record empty_batch { items = flat_map f tables } → new ≡ with_items told (f t)
    → new ≡ record empty_batch { items = flat_map f (tables ++ t ∷ []) }
one_more f tables t told new h e =
    e ∙ ap (λ (b : Batch). with_items b (f t)) h
    ∙ ap (λ (l : List Item). record empty_batch { items = l }) (ap (λ l. flat_map f tables ++ l) (sym (append-nil (f t))) ∙ sym (flat-append f tables (t ∷ [])))

pub one_table_more : (m : MarkedTables) (tables : List Table) (t : Table) (taken new : TakenAway) → AreTablesTold m tables taken → new ≡ with_table_told (regions_in m) t taken
    → AreTablesTold m (tables ++ t ∷ []) new
one_table_more m tables t taken new h e = record {
  at_once = one_more (items_of_table steps_at_once (regions_in m)) tables t taken.at_once new.at_once h.at_once (ap (λ (x : TakenAway). x.at_once) e);
  later = one_more (items_of_table steps_later (regions_in m)) tables t taken.later new.later h.later (ap (λ (x : TakenAway). x.later) e);
}

pub still_open : (m : MarkedTables) (tables : List Table) (taken : TakenAway) → AreTablesTold m tables taken → AreOpen taken
still_open m tables taken h = record { at_once = ap (λ (b : Batch). b.stage) h.at_once; later = ap (λ (b : Batch). b.stage) h.later }

pub all_told : (m : MarkedTables) (tables : List Table) (rewritten : Tables) (taken : TakenAway) → AreTablesTold m tables taken → IsPermutation tables (finite.values rewritten) → IsTakenAway (regions_in m) rewritten taken
all_told m tables rewritten taken h all = record { tables = tables; all = all; at_once = h.at_once; later = h.later }
