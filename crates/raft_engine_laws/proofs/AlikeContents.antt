-- Where contents are told alike, the records are the same.
use Rattle.raft_engine_laws.proofs.Common.{◌≡◌, ℕ, Bool, true, false, cond, List, [], ◌∷◌, ◌++◌, Option, Some, None, refl, sym, ap, subst, ◌∙◌, filter, flat_map, nat_lt, AllByRecursion, EntryIndex, FileId, OpType, is_reserved, Item, Content, entries, command, pair, Step, Run}
use Rattle.raft_engine_laws.proofs.Common.{Compact, Truncate, Put, Del, AtomicGroup, Clean, table_of, same_some, Event, RegionStep, Tables, content_step, pair_step, steps_of_items, steps_on, with_step, Records, entries_told, after_change, after_changes, live, HaveRecords}
use Rattle.raft_engine_laws.proofs.Common.{AreToldAlike}
use Rattle.std.specs.FinMap as finite
use Rattle.raft_records.specs.declared.command.Command.TheVariants as commands
use Rattle.raft_records.specs.declared.key_value.OpType.TheVariants as operations
use Rattle.raft_engine_laws.proofs.KeptWrites.{on_region}

each_of_both : (P : RegionStep → Type 0) (is js : List RegionStep) → AllByRecursion P is → AllByRecursion P js → AllByRecursion P (is ++ js)
each_of_both P [] js h k = k
each_of_both P (i ∷ is) js h k = (h.0, each_of_both P is js h.1 k)

module _ (told content : EntryIndex → List ℕ) where
  -- the entries of a run are told alike
  abbrev IsStepAlike : Step → Type 0
  IsStepAlike (Run es) = entries_told told es ≡ entries_told content es
  IsStepAlike _ = Unit {0}

  step_alike : (c : Content) (s : Step) → AreToldAlike told content c → content_step c ≡ Some s → IsStepAlike s
  step_alike (entries es) s h is = subst IsStepAlike (same_some (Run es) s is) h
  step_alike (command commands.Clean) s h is = subst IsStepAlike (same_some Clean s is) tt
  step_alike (command (commands.Compact i)) s h is = subst IsStepAlike (same_some (Compact i) s is) tt
  step_alike (command (commands.Truncate i)) s h is = subst IsStepAlike (same_some (Truncate i) s is) tt
  step_alike (pair p) s h is = go (is_reserved p.key) is
    where
      put : (value : Option (List ℕ)) (file : Option FileId) → pair_step operations.Put p.key value file ≡ Some s → IsStepAlike s
      put (Some value) (Some file) is = subst IsStepAlike (same_some (Put p.key value file) s is) tt
      put (Some value) None is = absurd cc
      put None file is = absurd cc

      of : (op : OpType) → pair_step op p.key p.value p.file_id ≡ Some s → IsStepAlike s
      of operations.Put is = put p.value p.file_id is
      of operations.Del is = subst IsStepAlike (same_some (Del p.key) s is) tt

      go : (b : Bool) → cond b None (pair_step p.op_type p.key p.value p.file_id) ≡ Some s → IsStepAlike s
      go true is = absurd cc
      go false is = of p.op_type is

  items_alike : (items : List Item) → AllByRecursion (λ (item : Item). AreToldAlike told content item.content) items → AllByRecursion (λ (i : RegionStep). IsStepAlike i.step) (steps_of_items items)
  items_alike [] h = tt
  items_alike (item ∷ items) h = go (content_step item.content) (λ s e. step_alike item.content s h.0 e) (items_alike items h.1)
    where
      go : (o : Option Step) → ((s : Step) → o ≡ Some s → IsStepAlike s) →
          AllByRecursion (λ (i : RegionStep). IsStepAlike i.step) (steps_of_items items) →
          AllByRecursion (λ (i : RegionStep). IsStepAlike i.step) (with_step item.raft_group_id o (steps_of_items items))
      go None each rest = rest
      go (Some s) each rest = (each s refl, rest)

  history_alike : (h : List Event) → AllByRecursion (λ (e : Event). AllByRecursion (λ (item : Item). AreToldAlike told content item.content) e.items)
      h → AllByRecursion (λ (i : RegionStep). IsStepAlike i.step) (flat_map (λ (e : Event). steps_of_items e.items) h)
  history_alike [] a = tt
  history_alike (e ∷ h) a = each_of_both (λ (i : RegionStep). IsStepAlike i.step) (steps_of_items e.items) (flat_map (λ (e : Event). steps_of_items e.items) h) (items_alike e.items a.0) (history_alike h a.1)

  change_alike : (rs : Records) (s : Step) → IsStepAlike s → after_change told rs s ≡ after_change content rs s
  change_alike rs (Run []) h = refl
  change_alike rs (Run (e ∷ run)) h = ap (λ l. record rs { entries = filter (λ x. nat_lt x.0 e.index) rs.entries ++ l }) h
  change_alike rs (Compact i) h = refl
  change_alike rs (Truncate i) h = refl
  change_alike rs (Put key value file) h = refl
  change_alike rs (Del key) h = refl
  change_alike rs (AtomicGroup a b) h = refl
  change_alike rs Clean h = refl

  changes_alike : (rs : Records) (ss : List Step) → AllByRecursion IsStepAlike ss → after_changes told rs ss ≡ after_changes content rs ss
  changes_alike rs [] h = refl
  changes_alike rs (s ∷ ss) h = ap (λ q. after_changes told q ss) (change_alike rs s h.0) ∙ changes_alike (after_change content rs s) ss h.1

  live_alike : (base : ℕ → Records) (h : List Event) → AllByRecursion (λ (e : Event). AllByRecursion (λ (item : Item). AreToldAlike told content item.content) e.items) h → (r : ℕ) → live told base h r ≡ live content base h r
  unfolding live
  live_alike base h a r = changes_alike (base r) (steps_on r (flat_map (λ (e : Event). steps_of_items e.items) h)) (on_region IsStepAlike r (flat_map (λ (e : Event). steps_of_items e.items) h) (history_alike h a))

  -- tables whose entries are told alike have the records by either
  pub alike_have : (base : ℕ → Records) (tables : Tables) (h : List Event) → AllByRecursion (λ (e : Event). AllByRecursion (λ (item : Item). AreToldAlike told content item.content) e.items) h
      → ((r : ℕ) → entries_told told (table_of r (finite.get tables r)).entries ≡ entries_told content (table_of r (finite.get tables r)).entries)
      → HaveRecords content tables (live content base h) → HaveRecords told tables (live told base h)
  alike_have base tables h a same has r = record {
    entries = same r ∙ (has r).entries ∙ ap (λ (rs : Records). rs.entries) (sym (live_alike base h a r));
    values = λ key. (has r).values key ∙ ap (λ (rs : Records). finite.get rs.values key) (sym (live_alike base h a r));
  }
