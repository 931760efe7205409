-- Tables with the same records take the same batches.
use Rattle.raft_engine_laws.proofs.Common.{◌≡◌, ◌⊎◌, ℕ, suc, max, Bool, true, false, cond, ◌||◌, List, [], ◌∷◌, ◌++◌, Option, Some, None, option_map, if◌then◌else◌, inl, inr, refl, sym, ap, subst, ◌∙◌, filter, nat_lt, nat_le, option_and_then, EntryIndex, FileId, end_of, OpType}
use Rattle.raft_engine_laws.proofs.Common.{is_reserved, Item, Content, entries, command, pair, leaves_hole, starts_in_front, table_of, Table, after_append, below, from, same_some, Tables, with_table, IsOther, by_region, with_own, with_other, Appending, after_content, after_items}
use Rattle.raft_engine_laws.proofs.Common.{after_pair, with_change, Entry, Records, entries_told, HaveRecords}
use Rattle.std.specs.FinMap as finite
use Rattle.raft_records.specs.declared.command.Command.TheVariants as commands
use Rattle.raft_records.specs.declared.key_value.OpType.TheVariants as operations
use Rattle.raft_engine_laws.proofs.RecordLemmas.{told-append, told_below, told_from}

abbrev first_index : List Entry → ℕ
first_index [] = 0
first_index (x ∷ xs) = x.0

abbrev rest_of : List Entry → List Entry
rest_of [] = []
rest_of (x ∷ xs) = xs

module _ (content : EntryIndex → List ℕ) where
  abbrev told : List EntryIndex → List Entry
  told es = entries_told content es

  starts_alike : (i : ℕ) (es fs : List EntryIndex) → told es ≡ told fs → starts_in_front es i ≡ starts_in_front fs i
  starts_alike i [] [] h = refl
  starts_alike i [] (f ∷ fs) h = absurd cc
  starts_alike i (e ∷ es) [] h = absurd cc
  starts_alike i (e ∷ es) (f ∷ fs) h = ap (λ n. nat_lt i n) (ap first_index h)

  ends_alike : (es fs : List EntryIndex) → told es ≡ told fs → end_of es ≡ end_of fs
  unfolding end_of
  ends_alike [] [] h = refl
  ends_alike [] (f ∷ fs) h = absurd cc
  ends_alike (e ∷ es) [] h = absurd cc
  ends_alike (e ∷ es) (f ∷ fs) h = ap (λ n. max (suc n) (end_of es)) (ap first_index h) ∙ ap (max (suc f.index)) (ends_alike es fs (ap rest_of h))

  hole_alike : (i : ℕ) (es fs : List EntryIndex) → told es ≡ told fs → leaves_hole es i ≡ leaves_hole fs i
  hole_alike i [] [] h = refl
  hole_alike i [] (f ∷ fs) h = absurd cc
  hole_alike i (e ∷ es) [] h = absurd cc
  hole_alike i (e ∷ es) (f ∷ fs) h = ap (λ n. nat_lt n i) (ends_alike (e ∷ es) (f ∷ fs) h)

  -- two tables that may be absent have entries with the same indexes and contents
  abbrev AreAlike : ℕ → Option Table → Option Table → Type 0
  AreAlike id o p = told (table_of id o).entries ≡ told (table_of id p).entries

  abbrev IsTakenAlike : ℕ → Option Table → Option (Option Table) → Type 0
  IsTakenAlike id v x = (w : Option Table) × (x ≡ Some w) × AreAlike id v w

  run_alike : (id : ℕ) (t u : Table) (es : List EntryIndex) (v : Option Table) → told t.entries ≡ told u.entries → option_map Some (after_append t es) ≡ Some v → IsTakenAlike id v (option_map Some (after_append u es))
  run_alike id t u [] v h is = (Some u, refl, ap (λ (o : Option Table). told (table_of id o).entries) (sym (same_some (Some t) v is)) ∙ h)
  run_alike id t u (e ∷ run) v h is = go (starts_in_front t.entries e.index || leaves_hole t.entries e.index) refl is
    where
      go : (b : Bool) → (starts_in_front t.entries e.index || leaves_hole t.entries e.index) ≡ b →
          option_map Some (option_map {U = Table} (λ es. record t { entries = es }) (cond b None (Some (below e.index t.entries ++ e ∷ run)))) ≡ Some
          v → IsTakenAlike id v (option_map Some (after_append u (e ∷ run)))
      go true k is = absurd cc
      go false k is = (
        Some (record u { entries = below e.index u.entries ++ e ∷ run }),
        ap (λ b. option_map Some (option_map {U = Table} (λ es. record u { entries = es }) (cond b None (Some (below e.index u.entries ++ e ∷ run)))))
            (ap (λ b. b || leaves_hole u.entries e.index) (sym (starts_alike e.index t.entries u.entries h)) ∙ ap (λ b. starts_in_front t.entries e.index || b) (sym (hole_alike e.index t.entries u.entries h)) ∙ k),
        ap (λ (o : Option Table). told (table_of id o).entries) (sym (same_some _ v is)) ∙ told-append content (below e.index t.entries) (e ∷ run)
            ∙ ap (λ l. l ++ told (e ∷ run)) (told_below content e.index t.entries ∙ ap (filter (λ x. nat_lt x.0 e.index)) h ∙ sym (told_below content e.index u.entries)) ∙ sym (told-append content (below e.index u.entries) (e ∷ run)),
      )

  put_alike : (id : ℕ) (o p v : Option Table) → AreAlike id o p → (op : OpType) (key : List ℕ) (value : Option (List ℕ)) (file : Option FileId) →
      option_map Some (after_pair (table_of id o) op key value file) ≡ Some v →
      IsTakenAlike id v (option_map Some (after_pair (table_of id p) op key value file))
  put_alike id o p v h operations.Put key (Some value) (Some file) is = (_, refl, ap (λ (o : Option Table). told (table_of id o).entries) (sym (same_some _ v is)) ∙ h)
  put_alike id o p v h operations.Put key (Some value) None is = absurd cc
  put_alike id o p v h operations.Put key None file is = absurd cc
  put_alike id o p v h operations.Del key value file is = (_, refl, ap (λ (o : Option Table). told (table_of id o).entries) (sym (same_some _ v is)) ∙ h)

  content_alike : (id : ℕ) (o p v : Option Table) → AreAlike id o p → (c : Content) → after_content Appending id o c ≡ Some v → IsTakenAlike id v (after_content Appending id p c)
  content_alike id o p v h (entries es) is = run_alike id (table_of id o) (table_of id p) es v h is
  content_alike id o p v h (command commands.Clean) is = (None, refl, ap (λ (o : Option Table). told (table_of id o).entries) (sym (same_some _ v is)))
  content_alike id o p v h (command (commands.Compact i)) is = (
    _,
    refl,
    ap (λ (o : Option Table). told (table_of id o).entries)
        (sym (same_some (Some (record (table_of id o) { entries = from i (table_of id o).entries })) v is))
        ∙ told_from content i (table_of id o).entries ∙ ap (filter (λ x. nat_le i x.0)) h ∙ sym (told_from content i (table_of id p).entries),
  )
  content_alike id o p v h (command (commands.Truncate i)) is = (
    _,
    refl,
    ap (λ (o : Option Table). told (table_of id o).entries)
        (sym (same_some (Some (record (table_of id o) { entries = below i (table_of id o).entries })) v is))
        ∙ told_below content i (table_of id o).entries ∙ ap (filter (λ x. nat_lt x.0 i)) h ∙ sym (told_below content i (table_of id p).entries),
  )
  content_alike id o p v h (pair x) is = go (is_reserved x.key) is
    where
      go : (b : Bool) → (if b then Some o else option_map Some (with_change Appending (table_of id o) x)) ≡ Some v → IsTakenAlike id v (if b then Some p else option_map Some (with_change Appending (table_of id p) x))
      go true is = (p, refl, ap (λ (o : Option Table). told (table_of id o).entries) (sym (same_some o v is)) ∙ h)
      go false is = put_alike id o p v h x.op_type x.key x.value x.file_id is

  -- all tables
  abbrev AllAlike : Tables → Tables → Type 0
  AllAlike m n = (r : ℕ) → AreAlike r (finite.get m r) (finite.get n r)

  with_alike : (m n : Tables) (id : ℕ) (v w : Option Table) → AllAlike m n → AreAlike id v w → AllAlike (with_table m id v) (with_table n id w)
  with_alike m n id v w all own r = go (by_region r id)
    where
      go : (r ≡ id) ⊎ IsOther r id → AreAlike r (finite.get (with_table m id v) r) (finite.get (with_table n id w) r)
      go (inl same) = subst (λ q. AreAlike q (finite.get (with_table m id v) q) (finite.get (with_table n id w) q)) (sym same)
          (subst (λ o. AreAlike id o (finite.get (with_table n id w) id)) (sym (with_own m id v)) (subst (λ o. AreAlike id v o) (sym (with_own n id w)) own))
      go (inr other) = subst (λ o. AreAlike r o (finite.get (with_table n id w) r)) (sym (with_other m id r v other.1)) (subst (λ o. AreAlike r (finite.get m r) o) (sym (with_other n id r w other.1)) (all r))

  items_alike : (m n new : Tables) (items : List Item) → AllAlike m n → after_items Appending m items ≡ Some new → (later : Tables) × (after_items Appending n items ≡ Some later)
  items_alike m n new [] all is = (n, refl)
  items_alike m n new (item ∷ items) all is = go (λ k l h e. items_alike k l new items h e) (after_content Appending item.raft_group_id (finite.get m item.raft_group_id) item.content) refl is
    where
      go : ((k l : Tables) → AllAlike k l → after_items Appending k items ≡ Some new → (later : Tables) × (after_items Appending l items ≡ Some later))
          → (x : Option (Option Table)) → after_content Appending item.raft_group_id (finite.get m item.raft_group_id) item.content ≡ x → option_and_then (λ t. after_items Appending (with_table m item.raft_group_id t) items) x ≡ Some new
          → (later : Tables) × (option_and_then (λ t. after_items Appending (with_table n item.raft_group_id t) items) (after_content Appending item.raft_group_id (finite.get n item.raft_group_id) item.content) ≡ Some later)
      go rest None e k = absurd cc
      go rest (Some v) e k =
          let a : IsTakenAlike item.raft_group_id v
          (after_content Appending item.raft_group_id (finite.get n item.raft_group_id) item.content) = content_alike item.raft_group_id
          (finite.get m item.raft_group_id) (finite.get n item.raft_group_id) v (all item.raft_group_id) item.content e in
          let b : (later : Tables) × (after_items Appending (with_table n item.raft_group_id a.0) items ≡ Some later) = rest
          (with_table m item.raft_group_id v) (with_table n item.raft_group_id a.0) (with_alike m n item.raft_group_id v a.0 all a.2) k in
          (b.0, ap (option_and_then (λ t. after_items Appending (with_table n item.raft_group_id t) items)) a.1 ∙ b.1)

  -- a batch that some tables take, any with the same records take
  pub alike_taken : (m n new : Tables) (records : ℕ → Records) (items : List Item) → HaveRecords content m records → HaveRecords content n records →
      after_items Appending m items ≡ Some new → (later : Tables) × (after_items Appending n items ≡ Some later)
  alike_taken m n new records items a b is = items_alike m n new items (λ r. (a r).entries ∙ sym (b r).entries) is
