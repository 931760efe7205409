-- What the append queue gives alone, where the rewrite queue holds no batch.
use Rattle.raft_engine.proofs.Common.{◌≡◌, ℕ, Bool, true, false, cond, List, [], ◌∷◌, ◌++◌, map, filter, Option, Some, None, option_map, refl, sym, ap, ◌∙◌, subst, ◌==◌, flat_map, AllByRecursion, option_and_then, EntryIndex, FileId, LogQueue, Append, Rewrite, Version, Content}
use Rattle.raft_engine.proofs.Common.{Item, command, entries, pair, OpType, end_of, Batch, Keys, entries_within, deleted_of, greatest_compaction, has_clean, is_unjoined, kept_if, least_cut, overlaid_table, overlay, entries_after_replay, AtomicGroup, Clean, Compact, Del, Run}
use Rattle.raft_engine.proofs.Common.{Step, Truncate, after, after_step, table_of, Table, empty_table, own_keys, BatchSteps, Event, batches, IsReadingOfBoth, effects, effects_behind, is_named, steps_of, IsOneReading, IsSoundIn, RegionStep, Tables, content_step, is_reserved}
use Rattle.raft_engine.proofs.Common.{pair_step, steps_of_items, steps_on, without_marker, with_step, plain_steps, unnamed_steps, Accessor, Ask, NumberedBytes, one_reading, AreRead, IsReadBackAlone}
use Rattle.std.specs.FinMap as finite
use Rattle.std.specs.FinSet as finset
use Rattle.raft_records.specs.declared.command.Command.TheVariants as commands
use Rattle.raft_records.specs.declared.key_value.OpType.TheVariants as operations
use Rattle.raft_table.specs.Steps.{Put}
use Rattle.raft_engine.proofs.ReadBackLemmas.{unmoved_self}

some_is : {A : Type 0} {x y : A} → Some x ≡ Some y → x ≡ y
some_is e = cc

-- ---- tables of the append queue

-- no step of an atomic group
abbrev IsPlain : Step → Type 0
IsPlain (AtomicGroup first_seq last_seq) = ⊥
IsPlain _ = Unit {0}

-- a region's table, of no atomic group, if there is one
abbrev IsOwn : ℕ → Option Table → Type 0
IsOwn r None = Unit {0}
IsOwn r (Some t) = (t.region_id ≡ r) × (t.atomic_group ≡ None)

own_table : (r : ℕ) (o : Option Table) → IsOwn r o → ((table_of r o).region_id ≡ r) × ((table_of r o).atomic_group ≡ None)
own_table r None h = (refl, refl)
own_table r (Some t) h = h

own_step : (q : LogQueue) (r : ℕ) (o u : Option Table) (s : Step) → IsPlain s → IsOwn r o → after_step q (table_of r o) s ≡ Some u → IsOwn r u
own_step q r o u (Run run) plain h e = go (entries_after_replay q (table_of r o).entries run) e
  where
    go : (x : Option (List EntryIndex)) → option_map Some (option_map {U = Table} (λ es. record (table_of r o) { entries = es }) x) ≡ Some u → IsOwn r u
    go None e = absurd cc
    go (Some es) e = subst (IsOwn r) (some_is e) (own_table r o h)
own_step q r o u (Compact i) plain h e = subst (IsOwn r) (some_is e) (own_table r o h)
own_step q r o u (Truncate i) plain h e = subst (IsOwn r) (some_is e) (own_table r o h)
own_step q r o u (Put key value file) plain h e = subst (IsOwn r) (some_is e) (own_table r o h)
own_step q r o u (Del key) plain h e = subst (IsOwn r) (some_is e) (own_table r o h)
own_step q r o u (AtomicGroup first_seq last_seq) plain h e = absurd plain
own_step q r o u Clean plain h e = subst (IsOwn r) (some_is e) tt

own_after : (q : LogQueue) (r : ℕ) (o u : Option Table) (ss : List Step) → AllByRecursion IsPlain ss → IsOwn r o → after q r o ss ≡ Some u → IsOwn r u
own_after q r o u [] plain h e = subst (IsOwn r) (some_is e) h
own_after q r o u (s ∷ ss) plain h e = go (after_step q (table_of r o) s) refl (λ v here. own_after q r v u ss plain.1 here) e
  where
    go : (x : Option (Option Table)) → after_step q (table_of r o) s ≡ x → ((v : Option Table) → IsOwn r v → after q r v ss ≡ Some u → IsOwn r u) → option_and_then (λ v. after q r v ss) x ≡ Some u → IsOwn r u
    go None is rest k = absurd cc
    go (Some v) is rest k = rest v (own_step q r o v s plain.0 h is) k

-- the steps of items are none of an atomic group
step_plain : (c : Content) (s : Step) → content_step c ≡ Some s → IsPlain s
step_plain (entries es) s e = subst IsPlain (some_is e) tt
step_plain (command commands.Clean) s e = subst IsPlain (some_is e) tt
step_plain (command (commands.Compact index)) s e = subst IsPlain (some_is e) tt
step_plain (command (commands.Truncate index)) s e = subst IsPlain (some_is e) tt
step_plain (pair p) s e = go (is_reserved p.key) p.op_type p.value p.file_id e
  where
    go : (b : Bool) (op : OpType) (value : Option (List ℕ)) (file : Option FileId) → cond b None (pair_step op p.key value file) ≡ Some s → IsPlain s
    go true op value file e = absurd cc
    go false operations.Put None file e = absurd cc
    go false operations.Put (Some value) None e = absurd cc
    go false operations.Put (Some value) (Some file) e = subst IsPlain (some_is e) tt
    go false operations.Del value file e = subst IsPlain (some_is e) tt

items_plain : (items : List Item) → AllByRecursion (λ (s : RegionStep). IsPlain s.step) (steps_of_items items)
items_plain [] = tt
items_plain (item ∷ items) = go (content_step item.content) refl (items_plain items)
  where
    go : (o : Option Step) → content_step item.content ≡ o → AllByRecursion (λ (s : RegionStep). IsPlain s.step) (steps_of_items items)
        → AllByRecursion (λ (s : RegionStep). IsPlain s.step) (with_step item.raft_group_id o (steps_of_items items))
    go None is rest = rest
    go (Some s) is rest = (step_plain item.content s is, rest)

all-both : (xs ys : List Step) → AllByRecursion IsPlain xs → AllByRecursion IsPlain ys → AllByRecursion IsPlain (xs ++ ys)
all-both [] ys a b = b
all-both (x ∷ xs) ys a b = (a.0, all-both xs ys a.1 b)

on_region_plain : (r : ℕ) (steps : List RegionStep) → AllByRecursion (λ (s : RegionStep). IsPlain s.step) steps → AllByRecursion IsPlain (steps_on r steps)
unfolding steps_on
on_region_plain r [] h = tt
on_region_plain r (s ∷ steps) h = go (r == s.region) (on_region_plain r steps h.1)
  where
    go : (b : Bool) → AllByRecursion IsPlain (map (λ (x : RegionStep). x.step) (filter (λ (x : RegionStep). r == x.region) steps))
        → AllByRecursion IsPlain (map (λ (x : RegionStep). x.step) (cond b (s ∷ filter (λ (x : RegionStep). r == x.region) steps) (filter (λ (x : RegionStep). r == x.region) steps)))
    go true rest = (h.0, rest)
    go false rest = rest

batches_plain : (r : ℕ) (h : List Event) → AllByRecursion IsPlain (flat_map (λ (b : BatchSteps). steps_on r b.steps) (batches h))
batches_plain r [] = tt
batches_plain r (e ∷ h) = all-both (steps_on r (steps_of_items e.items)) (flat_map (λ (b : BatchSteps). steps_on r b.steps) (batches h)) (on_region_plain r (steps_of_items e.items) (items_plain e.items)) (batches_plain r h)

-- what is read of the append queue has no atomic group
read_own : (h : List Event) (tables : Tables) (cleaned : List ℕ) → IsSoundIn Append h → IsOneReading Append h tables cleaned → (r : ℕ) → IsOwn r (finite.get tables r)
read_own h tables cleaned sound one r =
    own_after Append r None (finite.get tables r) (steps_of r (batches h))
    (subst (AllByRecursion IsPlain) (sym (plain_steps r (batches h) (without_marker 0 h sound.files))) (batches_plain r h)) tt (one.tables_read r)

-- ---- over nothing

none_within : (b : Bool) (c : Bool) (es : List EntryIndex) (none : List EntryIndex) → none ≡ [] → cond b es (cond c [] none ++ es) ≡ es
none_within true c es none e = refl
none_within false true es none e = refl
none_within false false es none e = ap (λ (l : List EntryIndex). l ++ es) e

no_entries : (floor : ℕ) (cut : Option ℕ) → entries_within floor cut [] ≡ []
unfolding entries_within
no_entries floor cut = refl

-- an own table over none is the own one
overlaid_alone : (r : ℕ) (ss : List Step) (o : Option Table) → IsOwn r o → overlaid_table r ss o None ≡ o
overlaid_alone r ss None own = go (has_clean ss)
  where
    go : (b : Bool) → kept_if (cond b false false) (overlay ss (empty_table r) (empty_table r)) ≡ None
    go true = refl
    go false = refl
overlaid_alone r ss (Some t) own = there (has_clean ss) ∙ ap (λ (x : Table). Some x) same
  where
    there : (b : Bool) → kept_if (cond b true true) (overlay ss t (empty_table r)) ≡ Some (overlay ss t (empty_table r))
    there true = refl
    there false = refl

    rebuilt : (n : ℕ) (es fs : List EntryIndex) (ks ls : Keys) (g g' : Option (ℕ × ℕ)) → n ≡ t.region_id → es ≡ fs → ks ≡ ls → g ≡ g' →
        ◌≡◌ {A = Table} (record { region_id = n; entries = es; keys = ks; atomic_group = g })
        (record { region_id = t.region_id; entries = fs; keys = ls; atomic_group = g' })
    rebuilt n es fs ks ls g g' a b c d = rw (a, b, c, d) refl

    group : (b : Bool) → cond b t.atomic_group None ≡ t.atomic_group
    group true = refl
    group false = sym own.1

    same : overlay ss t (empty_table r) ≡ t
    same =
        rebuilt r _ t.entries _ t.keys _ t.atomic_group (sym own.0)
        (none_within (has_clean ss) (is_unjoined (least_cut ss) (end_of []) t.entries) t.entries _ (no_entries (greatest_compaction ss) (least_cut ss)))
        (own_keys (has_clean ss) (deleted_of finset.empty ss) t.keys) (group (has_clean ss))

-- a reading of both queues, of which the rewrite queue has no batch, is one of the append queue
pub read_alone : (h : List Event) (tables : Tables) (cleaned : List ℕ) → IsSoundIn Append h → IsReadingOfBoth [] h tables cleaned → IsOneReading Append h tables cleaned
unfolding effects_behind
read_alone h tables cleaned sound both = record {
  tables_read = λ r. both.append_read.tables_read r ∙ ap (λ (o : Option Table). Some o) (sym (same r));
  regions_cleaned = both.append_read.regions_cleaned;
}
  where
    nothing : (r : ℕ) → finite.get both.rewritten r ≡ None
    nothing r = some_is (sym (both.rewrite_read.tables_read r))

    same : (r : ℕ) → finite.get tables r ≡ finite.get both.appended r
    same r = both.overlaid r ∙ go (is_named r (batches h)) refl
      where
        unnamed : is_named r (batches h) ≡ false → None ≡ finite.get both.appended r
        unnamed e = some_is (ap (after Append r None) (sym (unnamed_steps r (effects (batches h)) e)) ∙ both.append_read.tables_read r)

        go : (b : Bool) → is_named r (batches h) ≡ b
            → cond b (overlaid_table r (steps_of r (batches h)) (finite.get both.appended r) (finite.get both.rewritten r)) (finite.get both.rewritten r) ≡ finite.get both.appended r
        go true e =
            ap (λ (o : Option Table). overlaid_table r (steps_of r (batches h)) (finite.get both.appended r) o) (nothing r)
            ∙ overlaid_alone r (steps_of r (batches h)) (finite.get both.appended r) (read_own h both.appended cleaned sound both.append_read r)
        go false e = nothing r ∙ unnamed e

-- ---- an engine that was opened

pub opened_read_back : (version : Version) (append rewrite : List NumberedBytes) (asked : List Ask) (accessor : Accessor) (untold : Batch) → AreRead version append rewrite asked accessor untold → IsReadBackAlone version asked accessor
opened_read_back version append rewrite asked accessor untold a none =
    let empty : a.rewritten ≡ [] = one_reading Rewrite version rewrite a.rewritten [] a.rewrite_held (none a.wanted _ rewrite a.asked) in
    let one = read_alone a.appended accessor.tables accessor.cleaned a.append_sound (subst (λ (h : List Event). IsReadingOfBoth h a.appended accessor.tables accessor.cleaned) empty a.reading) in
    record {
      batches = a.appended;
      held = a.append_stays;
      sound = a.append_sound;
      read = accessor.tables;
      reading = one;
      moved = unmoved_self accessor.tables;
      unmoved = λ nothing. refl;
    }
