-- The records of tables: after new steps, of tables that are found, and of moved ones.
use Rattle.raft_engine_laws.proofs.Common.{◌≡◌, ℕ, Bool, true, false, cond, ◌||◌, List, [], ◌∷◌, ◌++◌, Option, Some, None, option_map, refl, sym, ap, subst, ◌∙◌, inl, inr, append-nil, filter, flat_map, nat_lt, nat_le, option_and_then, nat_cmp, eq_by_cmp, slice_cmp}
use Rattle.raft_engine_laws.proofs.Common.{nat_list_cmp_total, flat_map-append, EntryIndex, FileId, Stored, Keys, value_at, leaves_hole, starts_in_front, Step, Run, Compact, Truncate, Put, Del, AtomicGroup, Clean, table_of, Table, below, from, same_some, Event, Tables}
use Rattle.raft_engine_laws.proofs.Common.{steps_of_items, steps_on, own-append, own_none, IsMovedPair, Appending, after_items, AreMoved, AreFound, AreCopies, AreRecordsMoved, IsPairMoved, Entry, Records, no_records, no_base, entries_told, after_change, after_changes, live}
use Rattle.raft_engine_laws.proofs.Common.{HasRecords, HaveRecords}
use Rattle.std.specs.FinMap as finite
use Rattle.raft_engine_laws.proofs.RewriteReadings.{no_tables}
use Rattle.raft_engine_laws.proofs.WriteWords.{after_write, after_writes}
use Rattle.raft_engine_laws.proofs.WrittenTables.{items_by_region}

module _ (content : EntryIndex → List ℕ) where
  -- ---- entries

  abbrev told : List EntryIndex → List Entry
  told es = entries_told content es

  pub told-append : (es fs : List EntryIndex) → told (es ++ fs) ≡ told es ++ told fs
  told-append [] fs = refl
  told-append (e ∷ es) fs = ap (λ l. (e.index, content e) ∷ l) (told-append es fs)

  pub told_below : (i : ℕ) (es : List EntryIndex) → told (below i es) ≡ filter (λ x. nat_lt x.0 i) (told es)
  unfolding below
  told_below i [] = refl
  told_below i (e ∷ es) = go (nat_lt e.index i) (told_below i es)
    where
      go : (b : Bool) → told (filter (λ e. nat_lt e.index i) es) ≡ filter (λ x. nat_lt x.0 i) (told es) →
          told (cond b (e ∷ filter (λ e. nat_lt e.index i) es) (filter (λ e. nat_lt e.index i) es)) ≡ cond b
          ((e.index, content e) ∷ filter (λ x. nat_lt x.0 i) (told es)) (filter (λ x. nat_lt x.0 i) (told es))
      go true ih = ap (λ l. (e.index, content e) ∷ l) ih
      go false ih = ih

  pub told_from : (i : ℕ) (es : List EntryIndex) → told (from i es) ≡ filter (λ x. nat_le i x.0) (told es)
  unfolding from
  told_from i [] = refl
  told_from i (e ∷ es) = go (nat_le i e.index) (told_from i es)
    where
      go : (b : Bool) → told (filter (λ e. nat_le i e.index) es) ≡ filter (λ x. nat_le i x.0) (told es) →
          told (cond b (e ∷ filter (λ e. nat_le i e.index) es) (filter (λ e. nat_le i e.index) es)) ≡ cond b
          ((e.index, content e) ∷ filter (λ x. nat_le i x.0) (told es)) (filter (λ x. nat_le i x.0) (told es))
      go true ih = ap (λ l. (e.index, content e) ∷ l) ih
      go false ih = ih

  -- ---- new steps

  run_has : (id : ℕ) (t : Table) (v : Option Table) (rs : Records) (e : EntryIndex) (run : List EntryIndex) → HasRecords content t rs →
      after_write t (Run (e ∷ run)) ≡ Some v → HasRecords content (table_of id v) (after_change content rs (Run (e ∷ run)))
  run_has id t v rs e run h is = go (starts_in_front t.entries e.index || leaves_hole t.entries e.index) is
    where
      go : (b : Bool) → option_map Some
          (option_map {U = Table} (λ es. record t { entries = es }) (cond b None (Some (below e.index t.entries ++ e ∷ run)))) ≡ Some v →
          HasRecords content (table_of id v) (after_change content rs (Run (e ∷ run)))
      go true is = absurd cc
      go false is = subst (λ (u : Option Table). HasRecords content (table_of id u) (after_change content rs (Run (e ∷ run)))) (same_some _ v is) (record {
        entries = told-append (below e.index t.entries) (e ∷ run) ∙ ap (λ l. l ++ told (e ∷ run)) (told_below e.index t.entries ∙ ap (filter (λ x. nat_lt x.0 e.index)) h.entries);
        values = h.values;
      })

  abbrev value_of : Stored → List ℕ
  value_of s = s.value

  if_value : (b : Bool) (s : Stored) (o : Option Stored) → option_map value_of (cond b (Some s) o) ≡ cond b (Some s.value) (option_map value_of o)
  if_value true s o = refl
  if_value false s o = refl

  if_none : (b : Bool) (o : Option Stored) → option_map value_of (cond b None o) ≡ cond b None (option_map value_of o)
  if_none true o = refl
  if_none false o = refl

  put_has : (t : Table) (rs : Records) (key : List ℕ) (s : Stored) → HasRecords content t rs → HasRecords content (record t { keys = finite.insert t.keys key s }) (record rs { values = finite.insert rs.values key s.value })
  put_has t rs key s h = record {
    entries = h.entries;
    values = λ k. ap (option_map value_of) (finite.get-insert nat_list_cmp_total t.keys key s k) ∙ if_value (eq_by_cmp (slice_cmp nat_cmp) k key) s (finite.get t.keys k)
        ∙ ap (cond (eq_by_cmp (slice_cmp nat_cmp) k key) (Some s.value)) (h.values k) ∙ sym (finite.get-insert nat_list_cmp_total rs.values key s.value k);
  }

  del_has : (t : Table) (rs : Records) (key : List ℕ) → HasRecords content t rs → HasRecords content (record t { keys = finite.remove t.keys key }) (record rs { values = finite.remove rs.values key })
  del_has t rs key h = record {
    entries = h.entries;
    values = λ k. ap (option_map value_of) (finite.get-remove nat_list_cmp_total t.keys key k) ∙ if_none (eq_by_cmp (slice_cmp nat_cmp) k key) (finite.get t.keys k)
        ∙ ap (cond (eq_by_cmp (slice_cmp nat_cmp) k key) None) (h.values k) ∙ sym (finite.get-remove nat_list_cmp_total rs.values key k);
  }

  pub none_has : (id : ℕ) → HasRecords content (table_of id None) no_records
  none_has id = record { entries = refl; values = λ key. ap (option_map value_of) (finite.get-empty (slice_cmp nat_cmp) key) ∙ sym (finite.get-empty (slice_cmp nat_cmp) key) }

  write_has : (id : ℕ) (t : Table) (v : Option Table) (rs : Records) (s : Step) → HasRecords content t rs → after_write t s ≡ Some v → HasRecords content (table_of id v) (after_change content rs s)
  write_has id t v rs (Run []) h is = subst (λ (u : Option Table). HasRecords content (table_of id u) rs) (same_some (Some t) v is) h
  write_has id t v rs (Run (e ∷ run)) h is = run_has id t v rs e run h is
  write_has id t v rs (Compact i) h is = subst (λ (u : Option Table). HasRecords content (table_of id u) (after_change content rs (Compact i))) (same_some (Some (record t { entries = from i t.entries })) v is)
      (record { entries = told_from i t.entries ∙ ap (filter (λ x. nat_le i x.0)) h.entries; values = h.values })
  write_has id t v rs (Truncate i) h is = subst (λ (u : Option Table). HasRecords content (table_of id u) (after_change content rs (Truncate i))) (same_some (Some (record t { entries = below i t.entries })) v is)
      (record { entries = told_below i t.entries ∙ ap (filter (λ x. nat_lt x.0 i)) h.entries; values = h.values })
  write_has id t v rs (Put key value file) h
      is = subst (λ (u : Option Table). HasRecords content (table_of id u) (after_change content rs (Put key value file))) (same_some _ v is)
      (put_has t rs key (record { value = value; file = file }) h)
  write_has id t v rs (Del key) h is = subst (λ (u : Option Table). HasRecords content (table_of id u) (after_change content rs (Del key))) (same_some _ v is) (del_has t rs key h)
  write_has id t v rs (AtomicGroup a b) h is = subst (λ (u : Option Table). HasRecords content (table_of id u) rs) (same_some _ v is) (record { entries = h.entries; values = h.values })
  write_has id t v rs Clean h is = subst (λ (u : Option Table). HasRecords content (table_of id u) no_records) (same_some None v is) (none_has id)

  writes_have : (id : ℕ) (o v : Option Table) (rs : Records) (ss : List Step) → HasRecords content (table_of id o) rs → after_writes id o ss ≡ Some v → HasRecords content (table_of id v) (after_changes content rs ss)
  writes_have id o v rs [] h is = subst (λ (u : Option Table). HasRecords content (table_of id u) rs) (same_some o v is) h
  writes_have id o v rs (s ∷ ss) h is = go (λ u k l. writes_have id u v (after_change content rs s) ss k l) (after_write (table_of id o) s) refl is
    where
      go : ((u : Option Table) → HasRecords content (table_of id u) (after_change content rs s) → after_writes id u ss ≡ Some v → HasRecords content (table_of id v) (after_changes content (after_change content rs s) ss))
          → (x : Option (Option Table)) → after_write (table_of id o) s ≡ x → option_and_then (λ u. after_writes id u ss) x ≡ Some v → HasRecords content (table_of id v) (after_changes content (after_change content rs s) ss)
      go rest None e k = absurd cc
      go rest (Some u) e k = rest u (write_has id (table_of id o) u rs s h e) k

  changes-append : (rs : Records) (ss us : List Step) → after_changes content rs (ss ++ us) ≡ after_changes content (after_changes content rs ss) us
  changes-append rs [] us = refl
  changes-append rs (s ∷ ss) us = changes-append (after_change content rs s) ss us

  live-append : (base : ℕ → Records) (h k : List Event) (r : ℕ) → live content base (h ++ k) r ≡ after_changes content (live content base h r) (steps_on r (flat_map (λ e. steps_of_items e.items) k))
  unfolding live
  live-append base h k r = ap (λ l. after_changes content (base r) (steps_on r l)) (flat_map-append (λ (e : Event). steps_of_items e.items) h k)
      ∙ ap (after_changes content (base r)) (own-append r (flat_map (λ (e : Event). steps_of_items e.items) h) (flat_map (λ (e : Event). steps_of_items e.items) k))
      ∙ changes-append (base r) (steps_on r (flat_map (λ (e : Event). steps_of_items e.items) h)) (steps_on r (flat_map (λ (e : Event). steps_of_items e.items) k))

  live-one : (base : ℕ → Records) (h : List Event) (e : Event) (r : ℕ) → live content base (h ++ e ∷ []) r ≡ after_changes content (live content base h r) (steps_on r (steps_of_items e.items))
  live-one base h e r = live-append base h (e ∷ []) r
      ∙ ap (after_changes content (live content base h r))
      (own-append r (steps_of_items e.items) [] ∙ ap (λ l. steps_on r (steps_of_items e.items) ++ l) (own_none r)
      ∙ append-nil (steps_on r (steps_of_items e.items)))

  -- tables that take a batch have the records after it
  pub taken_have : (base : ℕ → Records) (m n : Tables) (h : List Event) (e : Event) → HaveRecords content m (live content base h) → after_items Appending m e.items ≡ Some n → HaveRecords content n (live content base (h ++ e ∷ []))
  taken_have base m n h e has is r = subst (HasRecords content (table_of r (finite.get n r))) (sym (live-one base h e r))
      (writes_have r (finite.get m r) (finite.get n r) (live content base h r) (steps_on r (steps_of_items e.items)) (has r)
      (items_by_region m n e.items is r))

  live-none : (base : ℕ → Records) (r : ℕ) → live content base [] r ≡ base r
  unfolding live
  live-none base r = ap (after_changes content (base r)) (own_none r)

  pub empty_have : HaveRecords content no_tables (live content no_base [])
  empty_have r = subst (HasRecords content (table_of r (finite.get no_tables r))) (sym (live-none no_base r)) (subst (λ (o : Option Table). HasRecords content (table_of r o) no_records) (sym (finite.get-empty nat_cmp r)) (none_has r))

  -- ---- tables that are found

  moved_told : (ks es : List EntryIndex) → AreMoved content ks es → told ks ≡ told es
  moved_told [] [] h = refl
  moved_told [] (e ∷ es) h = absurd h
  moved_told (k ∷ ks) [] h = absurd h
  moved_told (k ∷ ks) (e ∷ es) h = ap (λ i. (i, content k) ∷ told ks) h.0.0.0 ∙ ap (λ c. (e.index, c) ∷ told ks) h.0.1 ∙ ap (λ l. (e.index, content e) ∷ l) (moved_told ks es h.1)

  moved_value : (k s : Option Stored) → IsMovedPair k s → option_map value_of s ≡ option_map value_of k
  moved_value None None h = refl
  moved_value None (Some s) h = absurd h
  moved_value (Some k) None h = absurd h
  moved_value (Some k) (Some s) h = ap (λ v. Some v) (sym h.0)

  pub found_have : (kept found : Tables) (records : ℕ → Records) → AreFound content kept found → HaveRecords content kept records → HaveRecords content found records
  found_have kept found records f has r = record {
    entries = sym (moved_told _ _ (f.entries r)) ∙ (has r).entries;
    values = λ key. moved_value _ _ (f.pairs r key) ∙ (has r).values key;
  }

  -- ---- records that move

  copies_told : (gs es : List EntryIndex) → AreCopies content gs es → told gs ≡ told es
  copies_told [] [] h = refl
  copies_told [] (e ∷ es) h = absurd h
  copies_told (g ∷ gs) [] h = absurd h
  copies_told (g ∷ gs) (e ∷ es) h = ap (λ i. (i, content g) ∷ told gs) h.0.0 ∙ ap (λ c. (e.index, c) ∷ told gs) h.0.2 ∙ ap (λ l. (e.index, content e) ∷ l) (copies_told gs es h.1)

  pair_moved : (file : FileId) (keys moved rewritten put : Keys) (key : List ℕ) → IsPairMoved file keys moved rewritten put key → value_at moved key ≡ value_at keys key
  pair_moved file keys moved rewritten put key (inl h) = ap (option_map value_of) h.0
  pair_moved file keys moved rewritten put key (inr h) = ap (option_map value_of) h.2 ∙ ap (option_map value_of) (sym h.1)

  pub moved_have : (file : FileId) (t moved rewritten put : Table) (rs : Records) → AreRecordsMoved content file t moved rewritten put → HasRecords content t rs → HasRecords content moved rs
  moved_have file t moved rewritten put rs h has = record {
    entries = ap told h.moves ∙ told-append h.front (h.copies ++ h.back) ∙ ap (λ l. told h.front ++ l) (told-append h.copies h.back ∙ ap (λ l. l ++ told h.back) (copies_told h.copies h.middle h.copied) ∙ sym (told-append h.middle h.back))
        ∙ sym (told-append h.front (h.middle ++ h.back)) ∙ ap told (sym h.split) ∙ has.entries;
    values = λ key. pair_moved file t.keys moved.keys rewritten.keys put.keys key (h.pairs key) ∙ has.values key;
  }
