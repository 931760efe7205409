-- What is so of the entries of batches is so of those of tables.
use Rattle.raft_engine_prefixes.proofs.Common.{◌≡◌, ◌⊎◌, ℕ, Bool, true, false, cond, List, [], ◌∷◌, ◌++◌, Option, Some, None, option_map, inl, inr, refl, sym, subst, AllByRecursion, option_and_then, EntryIndex, FileId, LogQueue, Append, Rewrite, OpType, is_reserved, Item}
use Rattle.raft_engine_prefixes.proofs.Common.{Content, entries, command, pair, entries_within, greatest_compaction, has_clean, is_unjoined, kept_if, least_cut, overlay, overlaid_table, rewritten_within, entries_after_replay, leaves_hole, Step, Run, Compact, Truncate, Del}
use Rattle.raft_engine_prefixes.proofs.Common.{AtomicGroup, Clean, table_of, after_step, after, Table, below, from, same_some, Event, BatchSteps, batches, IsReadingOfBoth, steps_of, is_named, RegionStep, Tables, steps_of_items, content_step, pair_step, each_step_of, each-append}
use Rattle.raft_engine_prefixes.proofs.Common.{each_filter, each_weaker, with_step, end_of, EachEntryAmong, EachEntryIn, EachEntryOf, EndsWithin, EntriesOfTablesStand, StandsAt}
use Rattle.std.specs.FinMap as finite
use Rattle.raft_records.specs.declared.command.Command.TheVariants as commands
use Rattle.raft_records.specs.declared.key_value.OpType.TheVariants as operations
use Rattle.raft_table.specs.Steps.{Put}
use Rattle.raft_engine_prefixes.proofs.EntryPlaceLemmas.{places}

module _ (IsSo : EntryIndex → Type 0) where
  abbrev Each : List EntryIndex → Type 0
  Each es = AllByRecursion IsSo es

  -- a step puts such entries
  abbrev IsStepOf : Step → Type 0
  IsStepOf (Run run) = Each run
  IsStepOf _ = Unit {0}

  -- ---- steps of batches

  content_so : (c : Content) (s : Step) → EachEntryOf IsSo c → content_step c ≡ Some s → IsStepOf s
  content_so (entries es) s h e = subst IsStepOf (same_some (Run es) s e) h
  content_so (command commands.Clean) s h e = subst IsStepOf (same_some Clean s e) tt
  content_so (command (commands.Compact index)) s h e = subst IsStepOf (same_some (Compact index) s e) tt
  content_so (command (commands.Truncate index)) s h e = subst IsStepOf (same_some (Truncate index) s e) tt
  content_so (pair p) s h e = go (is_reserved p.key) e
    where
      of : (o : OpType) (value : Option (List ℕ)) (id : Option FileId) → pair_step o p.key value id ≡ Some s → IsStepOf s
      of operations.Put (Some value) (Some id) e = subst IsStepOf (same_some (Put p.key value id) s e) tt
      of operations.Put (Some value) None e = absurd cc
      of operations.Put None id e = absurd cc
      of operations.Del value id e = subst IsStepOf (same_some (Del p.key) s e) tt

      go : (b : Bool) → cond b None (pair_step p.op_type p.key p.value p.file_id) ≡ Some s → IsStepOf s
      go true e = absurd cc
      go false e = of p.op_type p.value p.file_id e

  items_so : (items : List Item) → EachEntryIn IsSo items → AllByRecursion (λ (i : RegionStep). IsStepOf i.step) (steps_of_items items)
  items_so [] h = tt
  items_so (item ∷ items) h = go (content_step item.content) (λ s e. content_so item.content s h.0 e) (items_so items h.1)
    where
      go : (o : Option Step) → ((s : Step) → o ≡ Some s → IsStepOf s) → AllByRecursion (λ (i : RegionStep). IsStepOf i.step) (steps_of_items items)
          → AllByRecursion (λ (i : RegionStep). IsStepOf i.step) (with_step item.raft_group_id o (steps_of_items items))
      go None each rest = rest
      go (Some s) each rest = (each s refl, rest)

  history_so : (r : ℕ) (h : List Event) → EachEntryAmong IsSo h → AllByRecursion (λ (b : BatchSteps). AllByRecursion (λ (s : RegionStep). s.region ≡ r → IsStepOf s.step) b.steps) (batches h)
  history_so r [] a = tt
  history_so r (e ∷ h) a = (each_weaker (λ (i : RegionStep). IsStepOf i.step) (λ (i : RegionStep). i.region ≡ r → IsStepOf i.step) (λ i so e. so) (steps_of_items e.items) (items_so e.items a.0), history_so r h a.1)

  steps_so : (r : ℕ) (h : List Event) → EachEntryAmong IsSo h → AllByRecursion IsStepOf (steps_of r (batches h))
  steps_so r h a = each_step_of IsStepOf (λ a b. tt) r (batches h) (history_so r h a)

  -- ---- tables

  replay_so : (queue : LogQueue) (es run : List EntryIndex) (new : List EntryIndex) → Each es → Each run → entries_after_replay queue es run ≡ Some new → Each new
  unfolding below from
  replay_so queue es [] new h k e = subst Each (same_some es new e) h
  replay_so Append es (x ∷ run) new h k e = go (leaves_hole es x.index) e
    where
      go : (b : Bool) → cond b None (Some (below x.index es ++ x ∷ run)) ≡ Some new → Each new
      go true e = absurd cc
      go false e = subst Each (same_some (below x.index es ++ x ∷ run) new e) (each-append IsSo (below x.index es) (x ∷ run) (each_filter IsSo _ es h) k)
  replay_so Rewrite es (x ∷ run) new h k e = go (leaves_hole es x.index) e
    where
      go : (b : Bool) → Some (cond b (x ∷ run) (below x.index es ++ x ∷ run)) ≡ Some new → Each new
      go true e = subst Each (same_some (x ∷ run) new e) k
      go false e = subst Each (same_some (below x.index es ++ x ∷ run) new e) (each-append IsSo (below x.index es) (x ∷ run) (each_filter IsSo _ es h) k)

  step_so : (queue : LogQueue) (id : ℕ) (t : Table) (s : Step) (u : Option Table) → Each t.entries → IsStepOf s → after_step queue t s ≡ Some u → Each (table_of id u).entries
  unfolding below from
  step_so queue id t (Run run) u h k e = go (entries_after_replay queue t.entries run) refl e
    where
      go : (o : Option (List EntryIndex)) → entries_after_replay queue t.entries run ≡ o → option_map Some (option_map (λ es. record t { entries = es }) o) ≡ Some u → Each (table_of id u).entries
      go None is e = absurd cc
      go (Some es) is e = subst (λ (v : Option Table). Each (table_of id v).entries) (same_some (Some (record t { entries = es })) u e) (replay_so queue t.entries run es h k is)
  step_so queue id t (Compact i) u h k e = subst (λ (v : Option Table). Each (table_of id v).entries) (same_some (Some (record t { entries = from i t.entries })) u e) (each_filter IsSo _ t.entries h)
  step_so queue id t (Truncate i) u h k e = subst (λ (v : Option Table). Each (table_of id v).entries) (same_some (Some (record t { entries = below i t.entries })) u e) (each_filter IsSo _ t.entries h)
  step_so queue id t (Put key value file) u h k e = subst (λ (v : Option Table). Each (table_of id v).entries) (same_some _ u e) h
  step_so queue id t (Del key) u h k e = subst (λ (v : Option Table). Each (table_of id v).entries) (same_some _ u e) h
  step_so queue id t (AtomicGroup a b) u h k e = subst (λ (v : Option Table). Each (table_of id v).entries) (same_some _ u e) h
  step_so queue id t Clean u h k e = subst (λ (v : Option Table). Each (table_of id v).entries) (same_some None u e) tt

  after_so : (queue : LogQueue) (id : ℕ) (o v : Option Table) (ss : List Step) → AllByRecursion IsStepOf ss → Each (table_of id o).entries → after queue id o ss ≡ Some v → Each (table_of id v).entries
  after_so queue id o v [] h k is = subst (λ (u : Option Table). Each (table_of id u).entries) (same_some o v is) k
  after_so queue id o v (s ∷ ss) h k is = go (λ u k e. after_so queue id u v ss h.1 k e) (after_step queue (table_of id o) s) refl is
    where
      go : ((u : Option Table) → Each (table_of id u).entries → after queue id u ss ≡ Some v → Each (table_of id v).entries)
          → (x : Option (Option Table)) → after_step queue (table_of id o) s ≡ x → option_and_then (λ u. after queue id u ss) x ≡ Some v → Each (table_of id v).entries
      go rest None e m = absurd cc
      go rest (Some u) e m = rest u (step_so queue id (table_of id o) s u k h.0 e) m

  -- ---- both queues

  within_so : (floor : ℕ) (cut : Option ℕ) (own es : List EntryIndex) → Each es → Each (rewritten_within floor cut own es)
  unfolding entries_within
  within_so floor cut own es h = go (is_unjoined cut (end_of es) own)
    where
      go : (b : Bool) → Each (cond b [] (entries_within floor cut es))
      go true = tt
      go false = each_filter IsSo _ es h

  overlay_so : (ss : List Step) (a b : Table) → Each a.entries → Each b.entries → Each (overlay ss a b).entries
  overlay_so ss a b h k = go (has_clean ss)
    where
      go : (c : Bool) → Each (cond c a.entries (rewritten_within (greatest_compaction ss) (least_cut ss) a.entries b.entries ++ a.entries))
      go true = h
      go false = each-append IsSo (rewritten_within (greatest_compaction ss) (least_cut ss) a.entries b.entries) a.entries (within_so (greatest_compaction ss) (least_cut ss) a.entries b.entries k) h

  kept_so : (r : ℕ) (b : Bool) (t : Table) → Each t.entries → Each (table_of r (kept_if b t)).entries
  kept_so r true t h = h
  kept_so r false t h = tt

  pub both_so : (rewrite append : List Event) (tables : Tables) (cleaned : List ℕ) → EachEntryAmong IsSo rewrite → EachEntryAmong IsSo append
      → IsReadingOfBoth rewrite append tables cleaned → (r : ℕ) → Each (table_of r (finite.get tables r)).entries
  both_so rewrite append tables cleaned h k b r =
      let ss = steps_of r (batches append) in
      let own = after_so Append r None (finite.get b.appended r) ss (steps_so r append k) tt (b.append_read.tables_read r) in
      let older = after_so Rewrite r None (finite.get b.rewritten r) (steps_of r (batches rewrite)) (steps_so r rewrite h) tt (b.rewrite_read.tables_read r) in
      subst (λ (o : Option Table). Each (table_of r o).entries) (sym (b.overlaid r)) (go (is_named r (batches append)) own older)
    where
      go : (c : Bool) → Each (table_of r (finite.get b.appended r)).entries → Each (table_of r (finite.get b.rewritten r)).entries
          → Each (table_of r (cond c (overlaid_table r (steps_of r (batches append)) (finite.get b.appended r) (finite.get b.rewritten r)) (finite.get b.rewritten r))).entries
      go true own older = kept_so r _ (overlay (steps_of r (batches append)) (table_of r (finite.get b.appended r)) (table_of r (finite.get b.rewritten r)))
          (overlay_so (steps_of r (batches append)) (table_of r (finite.get b.appended r)) (table_of r (finite.get b.rewritten r)) own older)
      go false own older = older

-- ---- that stand

module _ (P Q R : EntryIndex → Type 0) (so : (e : EntryIndex) → P e → Q e → R e) where
  both_of : (es : List EntryIndex) → AllByRecursion P es → AllByRecursion Q es → AllByRecursion R es
  both_of [] h k = tt
  both_of (e ∷ es) h k = (so e h.0 k.0, both_of es h.1 k.1)

  both_content : (c : Content) → EachEntryOf P c → EachEntryOf Q c → EachEntryOf R c
  both_content (entries es) h k = both_of es h k
  both_content (command c) h k = tt
  both_content (pair p) h k = tt

  both_items : (items : List Item) → EachEntryIn P items → EachEntryIn Q items → EachEntryIn R items
  both_items [] h k = tt
  both_items (item ∷ items) h k = (both_content item.content h.0 k.0, both_items items h.1 k.1)

  both_among : (es : List Event) → EachEntryAmong P es → EachEntryAmong Q es → EachEntryAmong R es
  both_among [] h k = tt
  both_among (e ∷ es) h k = (both_items e.items h.0 k.0, both_among es h.1 k.1)

pub stand : EntriesOfTablesStand
stand version n m append rewrite appended rewritten tables cleaned rising rising' held held' ends ends' b r =
    let Stands = λ (e : EntryIndex). EndsWithin e × (StandsAt Append append e ⊎ StandsAt Rewrite rewrite e) in
    let a = both_among EndsWithin (StandsAt Append append) Stands (λ e p q. (p, inl q)) appended ends (places Append version n append appended rising held) in
    let w = both_among EndsWithin (StandsAt Rewrite rewrite) Stands (λ e p q. (p, inr q)) rewritten ends' (places Rewrite version m rewrite rewritten rising' held') in
    both_so Stands rewritten appended tables cleaned w a b r
