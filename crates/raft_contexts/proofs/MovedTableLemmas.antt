-- Tables of all regions whose places were rewritten, through items that are appended and items that are rewritten.
use Rattle.raft_contexts.proofs.Common.{◌≡◌, ℕ, Bool, true, false, if◌then◌else◌, cond, List, Option, Some, None, inl, inr, refl, sym, ap, subst, ◌∙◌, nat_list_cmp_total, AllByRecursion, nat_cmp, slice_cmp, nat_lt, [], ◌∷◌, EntryIndex}
use Rattle.raft_contexts.proofs.Common.{FileId, LogQueue, IsRun, OpType, is_reserved, Item, Content, entries, command, pair, Stored, Keys, file_at, with_moved, moved_to, Tables, with_table, entries_after_rewrite, entries_after_append}
use Rattle.raft_contexts.proofs.Common.{entries_after_replay, table_of, Table, with_pair, rewritten_in, rewritten_pair, passes_gate, below, from, Appending, Replaying, Rewriting, after_content, after_items, after_pair, after_rewrite_pair}
use Rattle.raft_contexts.proofs.Common.{IsFor, batches, steps_of, steps_good, none_some, some_is, by_id, with_same, option_and_then, IsMovedPair, IsMovedTable, AreMovedTables, AreRuns, ReadingLeavesRuns, option_map, eq_by_cmp}
use Rattle.raft_contexts.proofs.Common.{option_and_then_some, Append, Rewrite, accepted, equal, with_own, with_other}
use Rattle.std.specs.FinMap as finite
use Rattle.raft_records.specs.declared.command.Command.TheVariants as commands
use Rattle.raft_records.specs.declared.key_value.OpType.TheVariants as operations
use Rattle.raft_table.proofs.MarkRuns.{run_from, run_below, run_replayed, no_table, table_after}
use Rattle.raft_contexts.proofs.AppendedLemmas.{made_of}
use Rattle.raft_contexts.proofs.MovedEntryLemmas.{moved_self, moved_below, moved_from, moved_run, entries_rewritten}

abbrev AreMovedKeys : Keys → Keys → Type 0
AreMovedKeys kept keys = (key : List ℕ) → IsMovedPair (finite.get kept key) (finite.get keys key)

pair_self : (s : Option Stored) → IsMovedPair s s
pair_self None = tt
pair_self (Some s) = (refl, inl refl)

insert_moved : (kept keys : Keys) (key : List ℕ) (s : Stored) → AreMovedKeys kept keys → AreMovedKeys (finite.insert kept key s) (finite.insert keys key s)
insert_moved kept keys key s h q = rw (finite.get-insert nat_list_cmp_total kept key s q, finite.get-insert nat_list_cmp_total keys key s q) (go (eq_by_cmp (slice_cmp nat_cmp) q key))
  where
    go : (b : Bool) → IsMovedPair (cond b (Some s) (finite.get kept q)) (cond b (Some s) (finite.get keys q))
    go true = (refl, inl refl)
    go false = h q

remove_moved : (kept keys : Keys) (key : List ℕ) → AreMovedKeys kept keys → AreMovedKeys (finite.remove kept key) (finite.remove keys key)
remove_moved kept keys key h q = rw (finite.get-remove nat_list_cmp_total kept key q, finite.get-remove nat_list_cmp_total keys key q) (go (eq_by_cmp (slice_cmp nat_cmp) q key))
  where
    go : (b : Bool) → IsMovedPair (cond b None (finite.get kept q)) (cond b None (finite.get keys q))
    go true = tt
    go false = h q

-- a pair that moves to the rewrite queue has its old value
pair_moves : (file : FileId) (s : Stored) (o : Option Stored) → file.queue ≡ Rewrite → IsMovedPair (Some s) o → IsMovedPair (Some (record s { file = file })) o
pair_moves file s None rewritten h = absurd h
pair_moves file s (Some t) rewritten h = (h.0, inr rewritten)

key_moves : (kept keys : Keys) (key : List ℕ) (file : FileId) → file.queue ≡ Rewrite → AreMovedKeys kept keys → AreMovedKeys (with_moved kept key file) keys
key_moves kept keys key file rewritten h = go (finite.get kept key) refl
  where
    go : (o : Option Stored) → finite.get kept key ≡ o → AreMovedKeys (moved_to file kept key o) keys
    go None is q = h q
    go (Some s) is q = rw (finite.get-insert nat_list_cmp_total kept key (record s { file = file }) q) (at (eq_by_cmp (slice_cmp nat_cmp) q key) refl)
      where
        at : (b : Bool) → eq_by_cmp (slice_cmp nat_cmp) q key ≡ b → IsMovedPair (cond b (Some (record s { file = file })) (finite.get kept q)) (finite.get keys q)
        at true e = pair_moves file s (finite.get keys q) rewritten
            (subst (λ (o : Option Stored). IsMovedPair o (finite.get keys q)) (ap (finite.get kept) (finite.slice_cmp-IsAntisymmetric finite.nat_cmp-IsAntisymmetric q key (equal _ e)) ∙ is) (h q))
        at false e = h q

keys_rewritten : (gate : Option ℕ) (seq : ℕ) (kept keys : Keys) (key : List ℕ) (file : Option FileId) (new : Keys) → AreMovedKeys kept keys → rewritten_in gate seq kept key file ≡ Some new → AreMovedKeys new keys
keys_rewritten gate seq kept keys key None new h e = subst (λ (k : Keys). AreMovedKeys k keys) (some_is e) h
keys_rewritten gate seq kept keys key (Some file) new h e = go file.queue e
  where
    moved : Keys
    moved = with_moved kept key (record { queue = Rewrite; seq = seq })

    moves : AreMovedKeys moved keys
    moves = key_moves kept keys key (record { queue = Rewrite; seq = seq }) refl h

    passes : (b : Bool) → AreMovedKeys (if b then moved else kept) keys
    passes true = moves
    passes false = h

    go : (q : LogQueue) → rewritten_pair gate seq kept key q file.seq ≡ Some new → AreMovedKeys new keys
    go Append e = subst (λ (k : Keys). AreMovedKeys k keys) (some_is e) (passes (passes_gate gate file.seq))
    go Rewrite e = subst (λ (k : Keys). AreMovedKeys k keys) (accepted (nat_lt seq file.seq) moved new e).1 moves

-- ---- a region's table, or its absence

abbrev IsKept : ℕ → Option Table → Option Table → Type 0
IsKept id o u = IsMovedTable (table_of id o) (table_of id u) × (o ≡ None → u ≡ None)

kept_self : (id : ℕ) (o : Option Table) → IsKept id o o
kept_self id o = (record { entries = moved_self (table_of id o).entries; pairs = λ key. pair_self (finite.get (table_of id o).keys key) }, λ none. none)

some_kept : (id : ℕ) (x : Table) (w u : Option Table) → Some x ≡ w → IsMovedTable x (table_of id u) → IsKept id w u
some_kept id x w u e m = subst (λ (w : Option Table). IsKept id w u) e (m, λ none. absurd (none_some (sym none)))

-- what is read of a table's change
abbrev Follows : ℕ → Option Table → Option (Option Table) → Type 0
Follows id w read = (v : Option Table) × (read ≡ Some v) × IsKept id w v

pair_follows : (id : ℕ) (k t : Table) (op : OpType) (key : List ℕ) (value : Option (List ℕ)) (file : Option FileId) (w : Option Table) → IsMovedTable k t → option_map Some (after_pair k op key value file) ≡ Some w
    → Follows id w (option_map Some (after_pair t op key value file))
pair_follows id k t operations.Put key (Some value) (Some file) w h e =
    let v = Some (with_pair t key value file) in
    (v, refl, some_kept id (with_pair k key value file) w v (some_is e) record { entries = h.entries; pairs = insert_moved k.keys t.keys key (record { value = value; file = file }) h.pairs })
pair_follows id k t operations.Put key (Some value) None w h e = absurd (none_some e)
pair_follows id k t operations.Put key None file w h e = absurd (none_some e)
pair_follows id k t operations.Del key value file w h e =
    let v = Some (record t { keys = finite.remove t.keys key }) in
    (v, refl, some_kept id (record k { keys = finite.remove k.keys key }) w v (some_is e) record { entries = h.entries; pairs = remove_moved k.keys t.keys key h.pairs })

-- an item that is appended to the kept table may be read again into the other
content_follows : (id : ℕ) (o u w : Option Table) (content : Content) → IsKept id o u → after_content Appending id o content ≡ Some w → Follows id w (after_content (Replaying Append) id u content)
content_follows id o u w (entries run) h e =
    let k = table_of id o in
    let t = table_of id u in
    made_of (λ (l : List EntryIndex). record k { entries = l }) (entries_after_append k.entries run) w e (λ l is x.
    let r = moved_run k.entries t.entries run l h.0.entries is in (
      Some (record t { entries = r.0 }),
      ap (λ (y : Option (List EntryIndex)). option_map Some (option_map (λ (l : List EntryIndex). record t { entries = l }) y)) r.1,
      some_kept id (record k { entries = l }) w (Some (record t { entries = r.0 })) x record { entries = r.2; pairs = h.0.pairs },
    ))
content_follows id o u w (command commands.Clean) h e = (None, refl, subst (λ (x : Option Table). IsKept id x None) (some_is e) (kept_self id None))
content_follows id o u w (command (commands.Compact i)) h e =
    let v = Some (record (table_of id u) { entries = from i (table_of id u).entries }) in
    (v, refl, some_kept id (record (table_of id o) { entries = from i (table_of id o).entries }) w v (some_is e) record { entries = moved_from i _ _ h.0.entries; pairs = h.0.pairs })
content_follows id o u w (command (commands.Truncate i)) h e =
    let v = Some (record (table_of id u) { entries = below i (table_of id u).entries }) in
    (v, refl, some_kept id (record (table_of id o) { entries = below i (table_of id o).entries }) w v (some_is e) record { entries = moved_below i _ _ h.0.entries; pairs = h.0.pairs })
content_follows id o u w (pair p) h e = go (is_reserved p.key) e
  where
    go : (b : Bool) → (if b then Some o else option_map Some (after_pair (table_of id o) p.op_type p.key p.value p.file_id)) ≡ Some w
        → Follows id w (if b then Some u else option_map Some (after_pair (table_of id u) p.op_type p.key p.value p.file_id))
    go true e = (u, refl, subst (λ (x : Option Table). IsKept id x u) (some_is e) h)
    go false e = pair_follows id (table_of id o) (table_of id u) p.op_type p.key p.value p.file_id w h.0 e

-- a rewriting leaves a kept table as the one that is read, but for places and files
content_stays : (gate : Option ℕ) (seq id : ℕ) (o u w : Option Table) (content : Content) → IsKept id o u → IsRun (table_of id u).entries
    → IsFor (Rewriting gate seq) content → after_content (Rewriting gate seq) id o content ≡ Some w → IsKept id w u
content_stays gate seq id o u w (entries run) h own asked e =
    let k = table_of id o in
    made_of (λ (l : List EntryIndex). record k { entries = l }) (entries_after_rewrite gate run k.entries) w e
    (λ l is x. some_kept id (record k { entries = l }) w u x record { entries = entries_rewritten gate run k.entries (table_of id u).entries l h.0.entries own asked is; pairs = h.0.pairs })
content_stays gate seq id o u w (command commands.Clean) h own asked e = subst (λ (x : Option Table). IsKept id x u) (some_is e) h
content_stays gate seq id o u w (command (commands.Compact i)) h own asked e = absurd (none_some e)
content_stays gate seq id o u w (command (commands.Truncate i)) h own asked e = absurd (none_some e)
content_stays gate seq id o u w (pair p) h own asked e = go (is_reserved p.key) e
  where
    k : Table
    k = table_of id o

    change : (op : OpType) (value : Option (List ℕ)) → option_map Some (after_rewrite_pair gate seq k op p.key value) ≡ Some w → IsKept id w u
    change operations.Put (Some value) e = made_of (λ (keys : Keys). record k { keys = keys }) (rewritten_in gate seq k.keys p.key (file_at k.keys p.key)) w e
        (λ new is x. some_kept id (record k { keys = new }) w u x record { entries = h.0.entries; pairs = keys_rewritten gate seq k.keys (table_of id u).keys p.key (file_at k.keys p.key) new h.0.pairs is })
    change operations.Put None e = absurd (none_some e)
    change operations.Del value e = absurd (none_some e)

    go : (b : Bool) → (if b then Some o else option_map Some (after_rewrite_pair gate seq k p.op_type p.key p.value)) ≡ Some w → IsKept id w u
    go true e = subst (λ (x : Option Table). IsKept id x u) (some_is e) h
    go false e = change p.op_type p.value e

pub all_moved_self : (m : Tables) → AreMovedTables m m
all_moved_self m = record { each = λ r. (kept_self r (finite.get m r)).0; present = λ r none. none }

-- one region's table in the place of the old one, in both
both_with : (m n : Tables) (id : ℕ) (t v : Option Table) → AreMovedTables m n → IsKept id t v → AreMovedTables (with_table m id t) (with_table n id v)
both_with m n id t v h new = record { each = λ r. (at r).0; present = λ r. (at r).1 }
  where
    at : (r : ℕ) → IsKept r (finite.get (with_table m id t) r) (finite.get (with_table n id v) r)
    at r = elim (by_id r id) [
      | inl same ↦ rw (same, with_own m id t, with_own n id v) new
      | inr other ↦ rw (with_other m id r t other, with_other n id r v other) (h.each r, h.present r)
    ]

-- items that are appended to the kept tables may be read again into the others
pub items_follow : (m n new : Tables) (items : List Item) → AreMovedTables m n → after_items Appending m items ≡ Some new
    → (after : Tables) × (after_items (Replaying Append) n items ≡ Some after) × AreMovedTables new after
items_follow m n new [] h e = (n, refl, subst (λ (x : Tables). AreMovedTables x n) (some_is e) h)
items_follow m n new (item ∷ items) h e =
    let id = item.raft_group_id in
    option_and_then_some (λ t. after_items Appending (with_table m id t) items) (after_content Appending id (finite.get m id) item.content) new e (λ t is k.
    let f = content_follows id (finite.get m id) (finite.get n id) t item.content (h.each id, h.present id) is in
    let r = items_follow (with_table m id t) (with_table n id f.0) new items (both_with m n id t f.0 h f.2) k in
    (r.0, ap (option_and_then (λ v. after_items (Replaying Append) (with_table n id v) items)) f.1 ∙ r.1, r.2))

-- items that are rewritten leave the kept tables those that are read, but for places
pub items_stay : (gate : Option ℕ) (seq : ℕ) (m n new : Tables) (items : List Item) → AreMovedTables m n → AreRuns n → AllByRecursion (λ (item : Item). IsFor (Rewriting gate seq) item.content) items
    → after_items (Rewriting gate seq) m items ≡ Some new → AreMovedTables new n
items_stay gate seq m n new [] h runs asked e = subst (λ (x : Tables). AreMovedTables x n) (some_is e) h
items_stay gate seq m n new (item ∷ items) h runs asked e =
    let id = item.raft_group_id in
    option_and_then_some (λ t. after_items (Rewriting gate seq) (with_table m id t) items) (after_content (Rewriting gate seq) id (finite.get m id) item.content) new e (λ t is k.
    let stays = content_stays gate seq id (finite.get m id) (finite.get n id) t item.content (h.each id, h.present id) (runs.each id) asked.0 is in
    items_stay gate seq (with_table m id t) n new items
    (subst (AreMovedTables (with_table m id t)) (with_same n id) (both_with m n id t (finite.get n id) h stays)) runs asked.1 k)

-- ---- the tables that are read have runs

abbrev HasRun : ℕ → Option Table → Type 0
HasRun id o = IsRun (table_of id o).entries

-- an item that is read again leaves a run
content_runs : (id : ℕ) (o w : Option Table) (content : Content) → HasRun id o → IsFor Appending content → after_content (Replaying Append) id o content ≡ Some w → HasRun id w
content_runs id o w (entries run) h asked e =
    let t = table_of id o in
    made_of (λ (l : List EntryIndex). record t { entries = l }) (entries_after_replay Append t.entries run) w e
    (λ l is x. subst (HasRun id) x (run_replayed Append t.entries run l h asked.consecutive.run is))
content_runs id o w (command commands.Clean) h asked e = subst (HasRun id) (some_is e) tt
content_runs id o w (command (commands.Compact i)) h asked e = subst (HasRun id) (some_is e) (run_from i (table_of id o).entries h)
content_runs id o w (command (commands.Truncate i)) h asked e = subst (HasRun id) (some_is e) (run_below i (table_of id o).entries h)
content_runs id o w (pair p) h asked e = go (is_reserved p.key) e
  where
    change : (op : OpType) (value : Option (List ℕ)) (file : Option FileId) → option_map Some (after_pair (table_of id o) op p.key value file) ≡ Some w → HasRun id w
    change operations.Put (Some value) (Some file) e = subst (HasRun id) (some_is e) h
    change operations.Put (Some value) None e = absurd (none_some e)
    change operations.Put None file e = absurd (none_some e)
    change operations.Del value file e = subst (HasRun id) (some_is e) h

    go : (b : Bool) → (if b then Some o else option_map Some (after_pair (table_of id o) p.op_type p.key p.value p.file_id)) ≡ Some w → HasRun id w
    go true e = subst (HasRun id) (some_is e) h
    go false e = change p.op_type p.value p.file_id e

pub items_run : (m new : Tables) (items : List Item) → AreRuns m → AllByRecursion (λ (item : Item). IsFor Appending item.content) items → after_items (Replaying Append) m items ≡ Some new → AreRuns new
items_run m new [] h asked e = subst AreRuns (some_is e) h
items_run m new (item ∷ items) h asked e =
    let id = item.raft_group_id in
    option_and_then_some (λ t. after_items (Replaying Append) (with_table m id t) items) (after_content (Replaying Append) id (finite.get m id) item.content) new e
    (λ t is k. items_run (with_table m id t) new items (runs_with t (content_runs id (finite.get m id) t item.content (h.each id) asked.0 is)) asked.1 k)
  where
    runs_with : (t : Option Table) → HasRun item.raft_group_id t → AreRuns (with_table m item.raft_group_id t)
    runs_with t new = record {
      each = λ r. elim (by_id r item.raft_group_id) [
        | inl same ↦ rw (same, with_own m item.raft_group_id t) new
        | inr other ↦ rw (with_other m item.raft_group_id r t other) (h.each r)
      ];
    }

pub reading_runs : ReadingLeavesRuns
reading_runs h tables cleaned sound one = record { each = λ r. (table_after Append r None (finite.get tables r) (steps_of r (batches h)) (steps_good r h sound.items) (no_table r) (one.tables_read r)).run }

pub none_run : AreRuns finite.empty
none_run = record { each = λ r. subst (HasRun r) (sym (finite.get-empty nat_cmp r)) tt }
