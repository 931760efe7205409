-- What a context of the append queue takes away of rewritten tables is told of each region, at once or later.
use Rattle.raft_engine_laws.proofs.Common.{◌≡◌, ℕ, Bool, true, false, cond, ◌||◌, List, [], ◌∷◌, ◌++◌, map, Option, Some, None, refl, sym, ap, subst, ◌∙◌, filter, flat_map, is_some, nat_le, ◌&&◌, AllByRecursion, list_any, nat_cmp, slice_cmp, false≢true, nil_from_length, IsRun}
use Rattle.raft_engine_laws.proofs.Common.{end_of, EntryIndex, FileId, Append, Rewrite, OpType, is_reserved, Content, Item, command, entries, pair, Batch, is_same_key, Mark, entries_within, is_under, IsExactMark, greatest_compaction, has_clean, is_unjoined, least_cut, overlay}
use Rattle.raft_engine_laws.proofs.Common.{Stands, Step, Run, Compact, Truncate, Put, Del, AtomicGroup, Clean, IsTableOf, table_of, Stored, Table, empty_table, AreTableEntries, RewrittenInFront, is_placed_in, placed_in, same_some, overlay_exact, overlay_run, each_placed}
use Rattle.raft_engine_laws.proofs.Common.{placed_in_other, in_front_of, BatchSteps, Event, batches, IsReadingOfBoth, AreExact, steps_of, IsSoundIn, MarkedRegions, region_in, RegionStep, Tables, content_step, pair_step, steps_of_items, steps_on, exact_reading, each_step_of}
use Rattle.raft_engine_laws.proofs.Common.{each-append, each_filter, steps_good, with_step, RecoverContext, bounds_told, cut_told, first_in, first_of, front_told, is_apart_at, is_front_dropped, item_of_step, items_of_steps, items_of_table, keys_deleted, steps_at_once}
use Rattle.raft_engine_laws.proofs.Common.{steps_later, takes_of, told_by_mark, IsTakenAway, TakenAway, IsToldByMark, IsToldNowOrLater, is_key_dropped, AreBothRead, IsTakenToldByMarks, IsTakenToldNowOrLater, AreAllSteps, TakeAway}
use Rattle.std.specs.FinMap as finite
use Rattle.std.specs.FinSet as finset
use Rattle.raft_records.specs.declared.command.Command.TheVariants as commands
use Rattle.raft_records.specs.declared.key_value.OpType.TheVariants as operations
use Rattle.raft_engine_laws.proofs.BothTables.{both_records}
use Rattle.raft_engine_laws.proofs.MarksTold.{deleted_drop}
use Rattle.raft_engine_laws.proofs.QueueSteps.{IsBounded, read_bounded, read_places, steps_of_queue, steps_placed}
use Rattle.raft_engine_laws.proofs.TakenTables.{same_key}
use Rattle.raft_engine_laws.proofs.ToldNow.{now_or_later}
use Rattle.raft_engine_laws.proofs.ToldRegions.{AreTellable, IsTellable, told_on}

-- ---- no step deletes the reserved key

abbrev IsPlain : Step → Type 0
IsPlain (Del key) = is_reserved key ≡ false
IsPlain _ = Unit {0}

content_plain : (content : Content) (s : Step) → content_step content ≡ Some s → IsPlain s
content_plain (entries es) s e = subst IsPlain (same_some (Run es) s e) tt
content_plain (command commands.Clean) s e = subst IsPlain (same_some Clean s e) tt
content_plain (command (commands.Compact index)) s e = subst IsPlain (same_some (Compact index) s e) tt
content_plain (command (commands.Truncate index)) s e = subst IsPlain (same_some (Truncate index) s e) tt
content_plain (pair p) s e = go (is_reserved p.key) refl e
  where
    of : is_reserved p.key ≡ false → (o : OpType) → pair_step o p.key p.value p.file_id ≡ Some s → IsPlain s
    of r operations.Put e = put p.value p.file_id e
      where
        put : (value : Option (List ℕ)) (id : Option FileId) → pair_step operations.Put p.key value id ≡ Some s → IsPlain s
        put (Some value) (Some id) e = subst IsPlain (same_some (Put p.key value id) s e) tt
        put (Some value) None e = absurd cc
        put None id e = absurd cc
    of r operations.Del e = subst IsPlain (same_some (Del p.key) s e) r

    go : (b : Bool) → is_reserved p.key ≡ b → cond b None (pair_step p.op_type p.key p.value p.file_id) ≡ Some s → IsPlain s
    go true r e = absurd cc
    go false r e = of r p.op_type e

items_plain : (r : ℕ) (items : List Item) → AllByRecursion (λ (s : RegionStep). s.region ≡ r → IsPlain s.step) (steps_of_items items)
items_plain r [] = tt
items_plain r (item ∷ items) = go (content_step item.content) (content_plain item.content) (items_plain r items)
  where
    go : (o : Option Step) → ((s : Step) → o ≡ Some s → IsPlain s) → AllByRecursion (λ (s : RegionStep). s.region ≡ r → IsPlain s.step) (steps_of_items items)
        → AllByRecursion (λ (s : RegionStep). s.region ≡ r → IsPlain s.step) (with_step item.raft_group_id o (steps_of_items items))
    go None each rest = rest
    go (Some s) each rest = (λ is. each s refl, rest)

history_plain : (r : ℕ) (h : List Event) → AllByRecursion (λ (b : BatchSteps). AllByRecursion (λ (s : RegionStep). s.region ≡ r → IsPlain s.step) b.steps) (batches h)
history_plain r [] = tt
history_plain r (e ∷ h) = (items_plain r e.items, history_plain r h)

steps_plain : (r : ℕ) (h : List Event) → AllByRecursion IsPlain (steps_of r (batches h))
steps_plain r h = each_step_of IsPlain (λ a b. tt) r (batches h) (history_plain r h)

dropped_plain : (ss : List Step) (key : List ℕ) → AllByRecursion IsPlain ss → has_clean ss ≡ false → is_key_dropped ss key ≡ true → is_reserved key ≡ false
dropped_plain [] key h c d = absurd (false≢true d)
dropped_plain (Run run ∷ ss) key h c d = dropped_plain ss key h.1 c d
dropped_plain (Compact i ∷ ss) key h c d = dropped_plain ss key h.1 c d
dropped_plain (Truncate i ∷ ss) key h c d = dropped_plain ss key h.1 c d
dropped_plain (Put k value file ∷ ss) key h c d = dropped_plain ss key h.1 c d
dropped_plain (AtomicGroup a b ∷ ss) key h c d = dropped_plain ss key h.1 c d
dropped_plain (Clean ∷ ss) key h c d = absurd (false≢true (sym c))
dropped_plain (Del k ∷ ss) key h c d = go (is_same_key key k) refl d (dropped_plain ss key h.1 c)
  where
    go : (b : Bool) → is_same_key key k ≡ b → (b || is_key_dropped ss key) ≡ true → (is_key_dropped ss key ≡ true → is_reserved key ≡ false) → is_reserved key ≡ false
    go true e d rest = subst (λ (x : List ℕ). is_reserved x ≡ false) (sym (same_key key k e)) h.0
    go false e d rest = rest d

-- ---- what a mark tells can be told

tell-append : (a b : List Step) → AreTellable a → AreTellable b → AreTellable (a ++ b)
tell-append [] b h k = k
tell-append (s ∷ a) b h k = (h.0, tell-append a b h.1 k)

fewer_tell : (p : Step → Bool) (ss : List Step) → AreTellable ss → AreTellable (filter p ss)
fewer_tell p [] h = tt
fewer_tell p (s ∷ ss) h = go (p s) (fewer_tell p ss h.1)
  where
    go : (b : Bool) → AreTellable (filter p ss) → AreTellable (cond b (s ∷ filter p ss) (filter p ss))
    go true k = (h.0, k)
    go false k = k

module _ (m : Mark) (old : Table) where
  bounds_tell : AreTellable (bounds_told m)
  bounds_tell = go m.cleaned m.cut
    where
      go : (b : Bool) (c : Option ℕ) → AreTellable (cond b (Clean ∷ []) (Compact m.floor ∷ cut_told c))
      go true c = (tt, tt)
      go false None = (tt, tt)
      go false (Some c) = (tt, (tt, tt))

  module _ (plain : (key : List ℕ) → finset.contains m.deleted key ≡ true → is_reserved key ≡ false) where
    dels_tell : (ks : List (List ℕ)) → AreTellable (map Del (filter (finset.contains m.deleted) ks))
    dels_tell [] = tt
    dels_tell (k ∷ ks) = go (finset.contains m.deleted k) refl (dels_tell ks)
      where
        go : (b : Bool) → finset.contains m.deleted k ≡ b → AreTellable (map Del (filter (finset.contains m.deleted) ks))
            → AreTellable (map Del (cond b (k ∷ filter (finset.contains m.deleted) ks) (filter (finset.contains m.deleted) ks)))
        go true e rest = (plain k e, rest)
        go false e rest = rest

    mark_tells : AreTellable (told_by_mark m old)
    mark_tells = tell-append (filter (takes_of old) (bounds_told m)) (map Del (keys_deleted m old)) (fewer_tell (takes_of old) (bounds_told m) bounds_tell) (dels_tell (finite.keys old.keys))

    prefix_tells : (first : Option ℕ) → AreTellable (front_told first old)
    prefix_tells None = tt
    prefix_tells (Some first) = fewer_tell (takes_of old) (Compact first ∷ []) (tt, tt)

    at_once_tells : (first : Option ℕ) → AreTellable (steps_at_once m first old)
    at_once_tells first = go (is_front_dropped m first old)
      where
        go : (b : Bool) → AreTellable (cond b (told_by_mark m old ++ front_told first old) [])
        go true = tell-append (told_by_mark m old) (front_told first old) mark_tells (prefix_tells first)
        go false = tt

    later_tells : (first : Option ℕ) → AreTellable (steps_later m first old)
    later_tells first = go (is_front_dropped m first old)
      where
        go : (b : Bool) → AreTellable (cond b [] (told_by_mark m old))
        go true = tt
        go false = mark_tells

-- a mark of steps deletes no reserved key
deleted_plain : (m : Mark) (ss : List Step) → IsExactMark m ss → AllByRecursion IsPlain ss → (key : List ℕ) → finset.contains m.deleted key ≡ true → is_reserved key ≡ false
deleted_plain m ss exact plain key has = go m.cleaned refl
  where
    go : (b : Bool) → m.cleaned ≡ b → is_reserved key ≡ false
    go true c = absurd (false≢true (sym (finset.contains-empty (slice_cmp nat_cmp) key) ∙ ap (λ d. finset.contains d key) (sym (exact.holds.none_deleted c)) ∙ has))
    go false c = dropped_plain ss key plain (sym exact.holds.cleaned ∙ c) (sym (deleted_drop m ss exact key c) ∙ has)

-- ---- nothing is told of an empty table

module _ (m : Mark) (r : ℕ) where
  abbrev none : Table
  none = empty_table r

  no_keys : finite.keys none.keys ≡ []
  no_keys = ap (map (λ (e : List ℕ × Stored). e.0)) (nil_from_length _ (sym (finite.len-entries {K = List ℕ} {X = Stored} {R = slice_cmp nat_cmp} finite.empty) ∙ finite.len-empty (slice_cmp nat_cmp) Stored))

  nothing_taken : (s : Step) → AreTellable (s ∷ []) → takes_of none s ≡ false
  nothing_taken (Compact i) h = refl
  nothing_taken (Truncate i) h = refl
  nothing_taken (Del key) h = ap is_some (finite.get-empty (slice_cmp nat_cmp) key)
  nothing_taken Clean h = ap (list_any (λ (key : List ℕ). true)) no_keys
  nothing_taken (Run run) h = absurd h.0
  nothing_taken (Put key value file) h = absurd h.0
  nothing_taken (AtomicGroup a b) h = absurd h.0

  none_kept : (ss : List Step) → AreTellable ss → filter (takes_of none) ss ≡ []
  none_kept [] h = refl
  none_kept (s ∷ ss) h = ap (λ b. cond b (s ∷ filter (takes_of none) ss) (filter (takes_of none) ss)) (nothing_taken s (h.0, tt)) ∙ none_kept ss h.1

  nothing_told : told_by_mark m none ≡ []
  nothing_told = ap (λ l. l ++ map Del (keys_deleted m none)) (none_kept (bounds_told m) (bounds_tell m none)) ∙ ap (λ ks. map Del (filter (finset.contains m.deleted) ks)) no_keys

  nothing_dropped : (first : Option ℕ) → is_front_dropped m first none ≡ false
  nothing_dropped None = refl
  nothing_dropped (Some first) = go m.cleaned (is_apart_at m.cut first (end_of none.entries))
    where
      go : (b c : Bool) → cond b false (c && false) ≡ false
      go true c = refl
      go false true = refl
      go false false = refl

  nothing_at_once : (first : Option ℕ) → steps_at_once m first none ≡ []
  nothing_at_once first = ap (λ b. cond b (told_by_mark m none ++ front_told first none) []) (nothing_dropped first)

  nothing_later : (first : Option ℕ) → steps_later m first none ≡ []
  nothing_later first = ap (λ b. cond b [] (told_by_mark m none)) (nothing_dropped first) ∙ nothing_told

-- ---- contexts

-- appended entries have no rewritten one in front
prefix_alone : (es : List EntryIndex) → placed_in Append es ≡ es → RewrittenInFront es
prefix_alone es h =
    sym h ∙ ap (λ (l : List EntryIndex). l ++ placed_in Append es) (sym (ap (placed_in Rewrite) (sym h) ∙ placed_in_other Append Rewrite refl es))

module _ (appended rewritten : RecoverContext) (append rewrite : List Event) (read : AreBothRead appended rewritten append rewrite)
    (found : Tables) (cleaned : List ℕ) (both : IsReadingOfBoth rewrite append found cleaned) (r : ℕ) where
  abbrev regions : MarkedRegions
  regions = appended.context.regions

  abbrev tables : Tables
  tables = rewritten.context.regions.tables

  abbrev kept : List Step
  kept = steps_of r (batches append)

  abbrev mark : Mark
  mark = (region_in regions r).mark

  abbrev old : Table
  old = table_of r (finite.get both.rewritten r)

  append_exact : AreExact Append regions (batches append)
  append_exact = (read.append_read.stands.stands Append read.queues.append_suits).append refl

  rewrite_exact : AreExact Rewrite rewritten.context.regions (batches rewrite)
  rewrite_exact = read.rewrite_read.exact.regions Rewrite read.queues.rewrite_suits

  exact : IsExactMark mark kept
  exact = (append_exact.each r).exact refl

  same_appended : finite.get regions.tables r ≡ finite.get both.appended r
  same_appended = same_some _ _ (sym (exact_reading Append regions (batches append) append_exact r) ∙ both.append_read.tables_read r)

  same_rewritten : finite.get tables r ≡ finite.get both.rewritten r
  same_rewritten = same_some _ _ (sym (exact_reading Rewrite rewritten.context.regions (batches rewrite) rewrite_exact r) ∙ both.rewrite_read.tables_read r)

  own : (k : ℕ) (t : Table) → finite.get tables k ≡ Some t → t.region_id ≡ k
  own k t e = sym (ap (λ (o : Option Table). (table_of k o).region_id) e) ∙ (rewrite_exact.each k).stands.own_table.region

  plain : (key : List ℕ) → finset.contains mark.deleted key ≡ true → is_reserved key ≡ false
  plain = deleted_plain mark kept exact (steps_plain r append)

  first_is : first_in regions r ≡ first_of (table_of r (finite.get both.appended r)).entries
  first_is = ap (λ (o : Option Table). first_of (table_of r o).entries) same_appended

  sound : IsSoundIn Append append
  sound = (read.append_read.stands.stands Append read.queues.append_suits).sound

  sound_too : IsSoundIn Rewrite rewrite
  sound_too = (read.rewrite_read.exact.stands.stands Rewrite read.queues.rewrite_suits).sound

  own_rewritten : IsTableOf r old
  own_rewritten = subst (λ (o : Option Table). IsTableOf r (table_of r o)) same_rewritten (rewrite_exact.each r).stands.own_table

  abbrev appended_table : Option Table
  appended_table = finite.get both.appended r

  -- the entries that are found are a run, the rewritten ones in front
  over_run : IsRun (overlay kept (table_of r appended_table) old).entries
  over_run =
      subst (λ (t : Table). IsRun t.entries) (overlay_exact mark kept (table_of r appended_table) old exact)
      (overlay_run r mark appended_table kept old (steps_good r append sound.items) (subst (λ (o : Option Table). Stands Append r mark o kept) same_appended (append_exact.each r).stands) own_rewritten)

  own_bounded : AllByRecursion IsBounded (table_of r appended_table).entries
  own_bounded = read_bounded Append r append appended_table sound (both.append_read.tables_read r)

  own_prefix : RewrittenInFront (table_of r appended_table).entries
  own_prefix = prefix_alone (table_of r appended_table).entries (read_places Append r append appended_table sound (both.append_read.tables_read r))

  within_bounded : (floor : ℕ) (cut : Option ℕ) → AllByRecursion IsBounded (entries_within floor cut old.entries)
  unfolding entries_within
  within_bounded floor cut = each_filter IsBounded (λ e. nat_le floor e.index && is_under cut e.index) old.entries (read_bounded Rewrite r rewrite (finite.get both.rewritten r) sound_too (both.rewrite_read.tables_read r))

  within_placed : (floor : ℕ) (cut : Option ℕ) → placed_in Rewrite (entries_within floor cut old.entries) ≡ entries_within floor cut old.entries
  unfolding entries_within
  within_placed floor cut =
      each_placed Rewrite _ (each_filter (λ (e : EntryIndex). is_placed_in Rewrite e ≡ true) (λ e. nat_le floor e.index && is_under cut e.index) old.entries
      (steps_placed Rewrite r None (finite.get both.rewritten r) (steps_of r (batches rewrite)) (steps_of_queue Rewrite r rewrite sound_too.files sound_too.items) tt (both.rewrite_read.tables_read r)))

  abbrev over_by : Bool → Bool → List EntryIndex
  over_by a b = cond a (table_of r appended_table).entries (cond b [] (entries_within (greatest_compaction kept) (least_cut kept) old.entries) ++ (table_of r appended_table).entries)

  over_entries : IsRun (overlay kept (table_of r appended_table) old).entries → AreTableEntries (overlay kept (table_of r appended_table) old).entries
  over_entries = go (has_clean kept) (is_unjoined (least_cut kept) (end_of old.entries) (table_of r appended_table).entries)
    where
      go : (a b : Bool) → IsRun (over_by a b) → AreTableEntries (over_by a b)
      go true b run = record { consecutive = record { run = run; bounded = own_bounded }; in_front = own_prefix }
      go false true run = record { consecutive = record { run = run; bounded = own_bounded }; in_front = own_prefix }
      go false false run = record {
        consecutive = record {
          run = run;
          bounded = each-append IsBounded (entries_within (greatest_compaction kept) (least_cut kept) old.entries) (table_of r appended_table).entries
              (within_bounded (greatest_compaction kept) (least_cut kept)) own_bounded;
        };
        in_front = in_front_of (entries_within (greatest_compaction kept) (least_cut kept) old.entries) (table_of r appended_table).entries (within_placed (greatest_compaction kept) (least_cut kept)) own_prefix;
      }

  pub found_entries : AreTableEntries (table_of r (finite.get found r)).entries
  found_entries = subst AreTableEntries (sym (both_records append rewrite found cleaned both r).entries) (over_entries over_run)

  module _ (taken : TakenAway) (is : IsTakenAway regions tables taken) where
    module _ (steps : Mark → Option ℕ → Table → List Step) (told : Batch) (tells : told.items ≡ flat_map (items_of_table steps regions) is.tables)
        (tellable : (first : Option ℕ) (t : Table) → AreTellable (steps mark first t)) (nothing : (first : Option ℕ) → steps mark first (empty_table r) ≡ []) where
      told_is : steps_on r (steps_of_items told.items) ≡ steps mark (first_of (table_of r (finite.get both.appended r)).entries) old
      told_is =
          ap (λ (l : List Item). steps_on r (steps_of_items l)) tells
          ∙ told_on tables own is.tables is.all steps regions r (tellable (first_in regions r) (table_of r (finite.get tables r))) (nothing (first_in regions r))
          ∙ ap (λ (o : Option Table). steps mark (first_in regions r) (table_of r o)) same_rewritten
          ∙ ap (λ (f : Option ℕ). steps mark f old) first_is

    told_by : IsToldByMark kept (steps_on r (steps_of_items taken.at_once.items)) (steps_on r (steps_of_items taken.later.items)) (table_of r (finite.get both.appended r)) old
    told_by = record {
      mark = mark;
      exact = exact;
      at_once = told_is steps_at_once taken.at_once (ap (λ (b : Batch). b.items) is.at_once) (λ first t. at_once_tells mark t plain first) (nothing_at_once mark r);
      later = told_is steps_later taken.later (ap (λ (b : Batch). b.items) is.later) (λ first t. later_tells mark t plain first) (nothing_later mark r);
    }

    told_now_or_later : IsToldNowOrLater kept (steps_on r (steps_of_items taken.at_once.items)) (steps_on r (steps_of_items taken.later.items)) old (table_of r (finite.get found r))
    unfolding told_by
    told_now_or_later =
        subst (λ (l : List Step). IsToldNowOrLater kept l (steps_on r (steps_of_items taken.later.items)) old (table_of r (finite.get found r))) (sym told_by.at_once)
        (subst (λ (l : List Step). IsToldNowOrLater kept (steps_at_once mark (first_of (table_of r (finite.get both.appended r)).entries) old) l old (table_of r (finite.get found r))) (sym told_by.later)
        (now_or_later r kept (finite.get both.appended r) old (table_of r (finite.get found r)) mark exact (steps_good r append sound.items) (both.append_read.tables_read r)
        own_rewritten.run
        (both_records append rewrite found cleaned both r).entries))

-- ---- items that take away

step_away : (region : ℕ) (s : Step) → TakeAway (item_of_step region s)
step_away region (Compact i) = (tt, tt)
step_away region (Truncate i) = (tt, tt)
step_away region Clean = (tt, tt)
step_away region (Del key) = (refl, tt)
step_away region (Run run) = tt
step_away region (Put key value file) = tt
step_away region (AtomicGroup a b) = tt

away-append : (a b : List Item) → TakeAway a → TakeAway b → TakeAway (a ++ b)
away-append [] b h k = k
away-append (item ∷ a) b h k = (h.0, away-append a b h.1 k)

steps_away : (region : ℕ) (ss : List Step) → TakeAway (items_of_steps region ss)
steps_away region [] = tt
steps_away region (s ∷ ss) = away-append (item_of_step region s) (items_of_steps region ss) (step_away region s) (steps_away region ss)

tables_away : (steps : Mark → Option ℕ → Table → List Step) (append : MarkedRegions) (ts : List Table) → TakeAway (flat_map (items_of_table steps append) ts)
tables_away steps append [] = tt
tables_away steps append (t ∷ ts) =
    away-append (items_of_table steps append t) (flat_map (items_of_table steps append) ts) (steps_away t.region_id (steps (region_in append t.region_id).mark (first_in append t.region_id) t)) (tables_away steps append ts)

pub taken_is_away : (append : MarkedRegions) (rewritten : Tables) (taken : TakenAway) → IsTakenAway append rewritten taken → TakeAway taken.at_once.items × TakeAway taken.later.items
taken_is_away append rewritten taken is = (
  subst (λ (b : Batch). TakeAway b.items) (sym is.at_once) (tables_away steps_at_once append is.tables),
  subst (λ (b : Batch). TakeAway b.items) (sym is.later) (tables_away steps_later append is.tables),
)

pub told_by_marks : IsTakenToldByMarks
told_by_marks appended rewritten append rewrite read taken is found cleaned both r = told_by appended rewritten append rewrite read found cleaned both r taken is

pub told_each : IsTakenToldNowOrLater
told_each appended rewritten append rewrite read taken is found cleaned both r = told_now_or_later appended rewritten append rewrite read found cleaned both r taken is

-- ---- items that are steps

step_given : (region : ℕ) (s : Step) → IsTellable s → AreAllSteps (item_of_step region s)
step_given region (Compact i) h = ((λ e. absurd cc), tt)
step_given region (Truncate i) h = ((λ e. absurd cc), tt)
step_given region Clean h = ((λ e. absurd cc), tt)
step_given region (Del key) h = ((λ e. go (is_reserved key) h e), tt)
  where
    go : (b : Bool) → b ≡ false → cond b None (Some (Del key)) ≡ None → ⊥
    go true e none = false≢true (sym e)
    go false e none = absurd cc
step_given region (Run run) h = absurd h
step_given region (Put key value file) h = absurd h
step_given region (AtomicGroup a b) h = absurd h

given-append : (a b : List Item) → AreAllSteps a → AreAllSteps b → AreAllSteps (a ++ b)
given-append [] b h k = k
given-append (item ∷ a) b h k = (h.0, given-append a b h.1 k)

steps_given : (region : ℕ) (ss : List Step) → AreTellable ss → AreAllSteps (items_of_steps region ss)
steps_given region [] h = tt
steps_given region (s ∷ ss) h = given-append (item_of_step region s) (items_of_steps region ss) (step_given region s h.0) (steps_given region ss h.1)

tables_given : (append : MarkedRegions) → ((r : ℕ) (key : List ℕ) → finset.contains (region_in append r).mark.deleted key ≡ true → is_reserved key ≡ false)
    → (ts : List Table) → AreAllSteps (flat_map (items_of_table steps_at_once append) ts)
tables_given append unreserved [] = tt
tables_given append unreserved (t ∷ ts) =
    given-append (items_of_table steps_at_once append t) (flat_map (items_of_table steps_at_once append) ts)
    (steps_given t.region_id (steps_at_once (region_in append t.region_id).mark (first_in append t.region_id) t)
    (at_once_tells (region_in append t.region_id).mark t (unreserved t.region_id) (first_in append t.region_id)))
    (tables_given append unreserved ts)

pub taken_in_steps : (appended rewritten : RecoverContext) (append rewrite : List Event) → AreBothRead appended rewritten append rewrite
    → (taken : TakenAway) → IsTakenAway appended.context.regions rewritten.context.regions.tables taken
    → (found : Tables) (cleaned : List ℕ) → IsReadingOfBoth rewrite append found cleaned → AreAllSteps taken.at_once.items
taken_in_steps appended rewritten append rewrite read taken is found cleaned both =
    subst (λ (b : Batch). AreAllSteps b.items) (sym is.at_once)
    (tables_given appended.context.regions (λ r. plain appended rewritten append rewrite read found cleaned both r) is.tables)
