-- New items on the tables of all regions.
use Rattle.raft_engine_laws.proofs.Common.{◌≡◌, ℕ, Bool, true, false, cond, ◌||◌, List, [], ◌∷◌, ◌++◌, Option, Some, None, option_map, if◌then◌else◌, inl, inr, refl, sym, ap, subst, ◌∙◌, append-nil, append_assoc, filter, AllByRecursion, option_and_then, EntryIndex, FileId}
use Rattle.raft_engine_laws.proofs.Common.{Append, OpType, is_reserved, Item, Content, entries, command, pair, leaves_hole, starts_in_front, Step, Run, Compact, Truncate, Put, Del, AtomicGroup, Clean, AreSteps, table_of, Table, after_append, IsStepOfQueue, below, from}
use Rattle.raft_engine_laws.proofs.Common.{AreTableEntries, same_some, run_below, run_from, run_replayed, each_placed, AreTableEntries-nil, RewrittenInFront-below, RewrittenInFront-from, in_front_appended, RegionStep, Tables, with_table, content_step, pair_step, steps_of_items}
use Rattle.raft_engine_laws.proofs.Common.{steps_on, with_step, own_none, own_head, own_other, by_region, with_own, with_other, Appending, after_content, after_items, after_pair, with_change, none_some, with_same, IsRegionKept}
use Rattle.std.specs.FinMap as finite
use Rattle.raft_records.specs.declared.command.Command.TheVariants as commands
use Rattle.raft_records.specs.declared.key_value.OpType.TheVariants as operations
use Rattle.raft_engine_laws.proofs.WriteWords.{after_write, after_writes}
use Rattle.raft_engine_laws.proofs.WrittenRegion.{write_kept}

-- ---- one region

each_filter : (P : EntryIndex → Type 0) (p : EntryIndex → Bool) (es : List EntryIndex) → AllByRecursion P es → AllByRecursion P (filter p es)
each_filter P p [] h = tt
each_filter P p (e ∷ es) h = go (p e) (each_filter P p es h.1)
  where
    go : (b : Bool) → AllByRecursion P (filter p es) → AllByRecursion P (cond b (e ∷ filter p es) (filter p es))
    go true rest = (h.0, rest)
    go false rest = rest

each-append : (P : EntryIndex → Type 0) (a b : List EntryIndex) → AllByRecursion P a → AllByRecursion P b → AllByRecursion P (a ++ b)
each-append P [] b h k = k
each-append P (e ∷ a) b h k = (h.0, each-append P a b h.1 k)

below_sound : (i : ℕ) (es : List EntryIndex) → AreTableEntries es → AreTableEntries (below i es)
unfolding below
below_sound i es h = record { consecutive = record { run = run_below i es h.consecutive.run; bounded = each_filter _ _ es h.consecutive.bounded }; in_front = RewrittenInFront-below i es h.in_front }

from_sound : (i : ℕ) (es : List EntryIndex) → AreTableEntries es → AreTableEntries (from i es)
unfolding from
from_sound i es h = record { consecutive = record { run = run_from i es h.consecutive.run; bounded = each_filter _ _ es h.consecutive.bounded }; in_front = RewrittenInFront-from i es h.in_front }

-- a new step leaves a sound table
write_sound : (id : ℕ) (t : Table) (v : Option Table) (s : Step) → AreTableEntries t.entries → IsStepOfQueue Append s → after_write t s ≡ Some v → AreTableEntries (table_of id v).entries
write_sound id t v (Run []) h mine is = subst (λ (u : Option Table). AreTableEntries (table_of id u).entries) (same_some (Some t) v is) h
write_sound id t v (Run (e ∷ run)) h mine is = go (starts_in_front t.entries e.index) (leaves_hole t.entries e.index) refl is
  where
    low : AreTableEntries (below e.index t.entries)
    low = below_sound e.index t.entries h

    go : (a b : Bool) → leaves_hole t.entries e.index ≡ b →
        option_map Some (option_map {U = Table} (λ es. record t { entries = es }) (cond (a || b) None (Some (below e.index t.entries ++ e ∷ run)))) ≡
        Some v → AreTableEntries (table_of id v).entries
    go true b k is = absurd cc
    go false true k is = absurd cc
    go false false k is = subst (λ (u : Option Table). AreTableEntries (table_of id u).entries) (same_some _ v is) (record {
      consecutive = record {
        run = run_replayed Append t.entries (e ∷ run) (below e.index t.entries ++ e ∷ run) h.consecutive.run mine.consecutive.run (ap (λ b. cond b None (Some (below e.index t.entries ++ e ∷ run))) k);
        bounded = each-append _ (below e.index t.entries) (e ∷ run) low.consecutive.bounded mine.consecutive.bounded;
      };
      in_front = in_front_appended (below e.index t.entries) (e ∷ run) low.in_front (each_placed Append (e ∷ run) mine.placed);
    })
write_sound id t v (Compact i) h mine is = subst (λ (u : Option Table). AreTableEntries (table_of id u).entries) (same_some (Some (record t { entries = from i t.entries })) v is) (from_sound i t.entries h)
write_sound id t v (Truncate i) h mine is = subst (λ (u : Option Table). AreTableEntries (table_of id u).entries) (same_some (Some (record t { entries = below i t.entries })) v is) (below_sound i t.entries h)
write_sound id t v (Put key value file) h mine is = subst (λ (u : Option Table). AreTableEntries (table_of id u).entries) (same_some _ v is) h
write_sound id t v (Del key) h mine is = subst (λ (u : Option Table). AreTableEntries (table_of id u).entries) (same_some _ v is) h
write_sound id t v (AtomicGroup a b) h mine is = subst (λ (u : Option Table). AreTableEntries (table_of id u).entries) (same_some _ v is) h
write_sound id t v Clean h mine is = subst (λ (u : Option Table). AreTableEntries (table_of id u).entries) (same_some None v is) AreTableEntries-nil

-- many steps
pub writes_kept : (content : EntryIndex → List ℕ) (id : ℕ) (kept untold : List Step) (rewritten : Table) (o v : Option Table) (ss : List Step) →
    IsRegionKept content id kept untold rewritten (table_of id o) → AreSteps ss → AllByRecursion (IsStepOfQueue Append) ss
    → after_writes id o ss ≡ Some v → IsRegionKept content id (kept ++ ss) (untold ++ ss) rewritten (table_of id v)
writes_kept content id kept untold rewritten o v [] h good mine is =
    subst (λ l. IsRegionKept content id l (untold ++ []) rewritten (table_of id v)) (sym (append-nil kept))
    (subst (λ l. IsRegionKept content id kept l rewritten (table_of id v)) (sym (append-nil untold))
    (subst (λ (u : Option Table). IsRegionKept content id kept untold rewritten (table_of id u)) (same_some o v is) h))
writes_kept content id kept untold rewritten o v (s ∷ ss) h good mine is = go (λ kept untold u h k. writes_kept content id kept untold rewritten u v ss h good.1 mine.1 k) (after_write (table_of id o) s) refl is
  where
    go : ((kept untold : List Step) (u : Option Table) → IsRegionKept content id kept untold rewritten (table_of id u) → after_writes id u ss ≡ Some v → IsRegionKept content id (kept ++ ss) (untold ++ ss) rewritten (table_of id v))
        → (x : Option (Option Table)) → after_write (table_of id o) s ≡ x → option_and_then (λ u. after_writes id u ss) x ≡ Some v → IsRegionKept content id (kept ++ s ∷ ss) (untold ++ s ∷ ss) rewritten (table_of id v)
    go rest None e k = absurd cc
    go rest (Some u) e k =
        subst (λ l. IsRegionKept content id l (untold ++ s ∷ ss) rewritten (table_of id v)) (append_assoc kept (s ∷ []) ss)
        (subst (λ l. IsRegionKept content id ((kept ++ s ∷ []) ++ ss) l rewritten (table_of id v)) (append_assoc untold (s ∷ []) ss)
        (rest (kept ++ s ∷ []) (untold ++ s ∷ []) u (write_kept content id kept untold rewritten (table_of id o) h s u good.0 mine.0 e (write_sound id (table_of id o) u s h.sound mine.0 e)) k))

-- ---- all regions

-- all tables after new steps in order
abbrev tables_written : Tables → List RegionStep → Option Tables
tables_written tables [] = Some tables
tables_written tables (s ∷ steps) = option_and_then (λ t. tables_written (with_table tables s.region t) steps) (after_write (table_of s.region (finite.get tables s.region)) s.step)

module _ (m n : Tables) (id : ℕ) (rest : List RegionStep) (later : Tables → Option Tables) (h : (k : Tables) → later k ≡ Some n → tables_written k rest ≡ Some n) where
  pair-written : (op : OpType) (key : List ℕ) (value : Option (List ℕ)) (file : Option FileId) →
      option_and_then (λ t. later (with_table m id t)) (option_map Some (after_pair (table_of id (finite.get m id)) op key value file)) ≡ Some n →
      tables_written m (with_step id (pair_step op key value file) rest) ≡ Some n
  pair-written operations.Put key (Some value) (Some file) e = h _ e
  pair-written operations.Put key (Some value) None e = absurd (none_some e)
  pair-written operations.Put key None file e = absurd (none_some e)
  pair-written operations.Del key value file e = h _ e

  content-written : (content : Content) → option_and_then (λ t. later (with_table m id t)) (after_content Appending id (finite.get m id) content) ≡ Some n → tables_written m (with_step id (content_step content) rest) ≡ Some n
  content-written (entries es) e =
      elim (after_append (table_of id (finite.get m id)) es) as (λ o. option_and_then (λ t. later (with_table m id t)) (option_map Some o) ≡ Some n →
      option_and_then (λ t. tables_written (with_table m id t) rest) (option_map Some o) ≡ Some n) [
        | None ↦ λ e. absurd (none_some e)
        | Some t ↦ λ e. h _ e
      ] e
  content-written (command commands.Clean) e = h _ e
  content-written (command (commands.Compact i)) e = h _ e
  content-written (command (commands.Truncate i)) e = h _ e
  content-written (pair p) e =
      elim (is_reserved p.key) as (λ b. option_and_then (λ t. later (with_table m id t))
      (if b then Some (finite.get m id) else option_map Some (with_change Appending (table_of id (finite.get m id)) p)) ≡ Some n →
      tables_written m (with_step id (if b then None else pair_step p.op_type p.key p.value p.file_id) rest) ≡ Some n) [
        | true ↦ λ e. h m (subst (λ k. later k ≡ Some n) (with_same m id) e)
        | false ↦ λ e. pair-written p.op_type p.key p.value p.file_id e
      ] e

items_written : (m n : Tables) (items : List Item) → after_items Appending m items ≡ Some n → tables_written m (steps_of_items items) ≡ Some n
items_written m n [] e = e
items_written m n (item ∷ items) e = content-written m n item.raft_group_id (steps_of_items items) (λ k. after_items Appending k items) (λ k. items_written k n items) item.content e

-- region by region
written_by_region : (m n : Tables) (steps : List RegionStep) → tables_written m steps ≡ Some n → (r : ℕ) → after_writes r (finite.get m r) (steps_on r steps) ≡ Some (finite.get n r)
written_by_region m n [] e r = ap (after_writes r (finite.get m r)) (own_none r) ∙ ap (λ (t : Tables). Some (finite.get t r)) (same_some m n e)
written_by_region m n (s ∷ steps) e r = go (λ k e. written_by_region k n steps e r) (after_write (table_of s.region (finite.get m s.region)) s.step) refl e
  where
    go : ((k : Tables) → tables_written k steps ≡ Some n → after_writes r (finite.get k r) (steps_on r steps) ≡ Some (finite.get n r))
        → (x : Option (Option Table)) → after_write (table_of s.region (finite.get m s.region)) s.step ≡ x → option_and_then (λ t. tables_written (with_table m s.region t) steps) x ≡ Some n
        → after_writes r (finite.get m r) (steps_on r (s ∷ steps)) ≡ Some (finite.get n r)
    go rest None k e = absurd (none_some e)
    go rest (Some u) k e = elim (by_region r s.region) [
      | inl same ↦ subst (λ q. after_writes q (finite.get m q) (steps_on q (s ∷ steps)) ≡ Some (finite.get n q)) (sym same)
          (ap (after_writes s.region (finite.get m s.region)) (own_head s steps) ∙ ap (option_and_then (λ u. after_writes s.region u (steps_on s.region steps))) k
          ∙ subst (λ o. after_writes s.region o (steps_on s.region steps) ≡ Some (finite.get n s.region)) (with_own m s.region u)
          (subst (λ q. after_writes q (finite.get (with_table m s.region u) q) (steps_on q steps) ≡ Some (finite.get n q)) same
          (rest (with_table m s.region u) e)))
      | inr other ↦ ap (after_writes r (finite.get m r)) (own_other r s steps other.0) ∙ subst (λ o. after_writes r o (steps_on r steps) ≡ Some (finite.get n r)) (with_other m s.region r u other.1) (rest (with_table m s.region u) e)
    ]

pub items_by_region : (m n : Tables) (items : List Item) → after_items Appending m items ≡ Some n → (r : ℕ) → after_writes r (finite.get m r) (steps_on r (steps_of_items items)) ≡ Some (finite.get n r)
items_by_region m n items e r = written_by_region m n (steps_of_items items) (items_written m n items e) r
