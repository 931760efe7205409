-- Records of one region that a batch moves past a gate: what it makes of its table, and of what is read of the rewrite queue.
use Rattle.raft_engine_laws.proofs.Common.{◌≡◌, ℕ, true, false, List, [], ◌∷◌, ◌++◌, length, Option, Some, option_map, inl, refl, sym, ap, subst, ◌∙◌, append-nil, arith, AllByRecursion, option_and_then, nat_tests, EntryIndex, FileId, Append, Rewrite, IsRun, entries, Keys}
use Rattle.raft_engine_laws.proofs.Common.{entries_after_rewrite, is_misplaced, may_move, entries_after_replay, Run, table_of, after, Table, placed_in, AreTableEntries, entry_count, same_some, placed_in_other, placed_in-append, Tables, with_table, steps_of_items, steps_on}
use Rattle.raft_engine_laws.proofs.Common.{IsOther, with_own, with_other, own_head, Rewriting, after_items, AreCopies, AreRecordsMoved, IsPairMoved, IsFetched, put_items, AreOrdinary}
use Rattle.std.specs.FinMap as finite
use Rattle.raft_engine_laws.proofs.CopiedEntries.{copies_take_places, copies_read_behind}
use Rattle.raft_engine_laws.proofs.CopiedPairs.{moved_all, put_all, pairs_copied}
use Rattle.raft_engine_laws.proofs.RewrittenPuts.{puts_move, puts_read}
use Rattle.raft_engine_laws.proofs.SoundEntries.{placed_twice}

no_tail : (a b : List EntryIndex) → a ++ b ≡ [] → b ≡ []
no_tail [] b e = e
no_tail (x ∷ a) b e = absurd cc

in_place : (gate n : ℕ) → is_misplaced (Some gate) n n ≡ false
in_place gate n = grind (arith, nat_tests)

module _ (content : EntryIndex → List ℕ) (gate seq id : ℕ) (tables new : Tables) (t : Table) (there : finite.get tables id ≡ Some t)
    (sound : AreTableEntries t.entries) (w put : Option Table) (told : (table_of id w).entries ≡ placed_in Rewrite t.entries) where
  abbrev to : FileId
  to = record { queue = Rewrite; seq = seq }

  abbrev front : List EntryIndex
  front = placed_in Rewrite t.entries

  prefix_placed : placed_in Rewrite front ≡ front
  prefix_placed = placed_twice Rewrite t.entries

  none_behind : (middle back : List EntryIndex) → placed_in Append t.entries ≡ middle ++ back → placed_in Rewrite back ≡ []
  none_behind middle back e = no_tail (placed_in Rewrite middle) (placed_in Rewrite back) (sym (placed_in-append Rewrite middle back) ∙ ap (placed_in Rewrite) (sym e) ∙ placed_in_other Append Rewrite refl t.entries)

  -- of pairs alone
  module _ (ps : List (List ℕ × List ℕ)) (ordinary : AreOrdinary ps) (fetched : AllByRecursion (IsFetched (Some gate) t.keys) ps)
      (is : after_items (Rewriting (Some gate) seq) tables (put_items id (record { queue = Rewrite; seq = seq }) ps) ≡ Some new)
      (puts : after Rewrite id w (steps_on id (steps_of_items (put_items id (record { queue = Rewrite; seq = seq }) ps))) ≡ Some put) where
    own_keys : (out : Keys) × (moved_all (Some gate) seq t.keys ps ≡ Some out) × ((key : List ℕ) → IsPairMoved to t.keys out (table_of id w).keys (put_all to (table_of id w).keys ps) key)
    own_keys = pairs_copied (Some gate) seq t.keys (table_of id w).keys ps t.keys (table_of id w).keys fetched (λ key. inl (refl, refl))

    own_kept : (table_of id (finite.get new id) ≡ record t { keys = own_keys.0 }) × ((r : ℕ) → IsOther r id → finite.get new r ≡ finite.get tables r)
    own_kept = puts_move (Some gate) seq id ps tables new t own_keys.0 ordinary own_keys.1 there is

    pub pairs_others : (r : ℕ) → IsOther r id → finite.get new r ≡ finite.get tables r
    pairs_others r other = own_kept.1 r other

    own_read : (v : Option Table) × (after Rewrite id w (steps_on id (steps_of_items (put_items id to ps))) ≡ Some v) × ((table_of id v).entries ≡ (table_of id w).entries) × ((table_of id v).keys ≡ put_all to (table_of id w).keys ps)
    own_read = puts_read id to ps w ordinary

    own_put : own_read.0 ≡ put
    own_put = same_some own_read.0 put (sym own_read.1 ∙ puts)

    pub pairs_moved : AreRecordsMoved content to t (table_of id (finite.get new id)) (table_of id w) (table_of id put)
    pairs_moved = record {
      of_queue = refl;
      front = front;
      middle = [];
      back = placed_in Append t.entries;
      split = sound.in_front;
      in_front = prefix_placed;
      behind = placed_in_other Append Rewrite refl t.entries;
      copies = [];
      copied = tt;
      moves = ap (λ (u : Table). u.entries) own_kept.0 ∙ sound.in_front;
      puts = ap (λ (u : Option Table). (table_of id u).entries) (sym own_put) ∙ own_read.2 ∙ told ∙ sym (append-nil front);
      pairs = λ key. subst (λ (k : Keys). IsPairMoved to t.keys k (table_of id w).keys (table_of id put).keys key) (sym (ap (λ (u : Table). u.keys) own_kept.0))
          (subst (λ (k : Keys). IsPairMoved to t.keys own_keys.0 (table_of id w).keys k key) (sym (ap (λ (u : Option Table). (table_of id u).keys) (sym own_put) ∙ own_read.3)) (own_keys.2 key));
    }

  -- of entries and pairs
  module _ (m : EntryIndex) (ms back : List EntryIndex) (x : EntryIndex) (gs : List EntryIndex) (split : placed_in Append t.entries ≡ m ∷ ms ++ back)
      (move : AllByRecursion (λ (e : EntryIndex). may_move (Some gate) e ≡ true) (m ∷ ms)) (copies : AreCopies content (x ∷ gs) (m ∷ ms))
      (ps : List (List ℕ × List ℕ)) (ordinary : AreOrdinary ps) (fetched : AllByRecursion (IsFetched (Some gate) t.keys) ps)
      (is : after_items (Rewriting (Some gate) seq) tables (record { raft_group_id = id; content = entries (x ∷ gs) } ∷ put_items id (record { queue = Rewrite; seq = seq }) ps) ≡ Some new)
      (puts : after Rewrite id w (steps_on id (steps_of_items (record { raft_group_id = id; content = entries (x ∷ gs) } ∷ put_items id (record { queue = Rewrite; seq = seq }) ps))) ≡ Some put) where
    whole : t.entries ≡ front ++ (m ∷ ms ++ back)
    whole = sound.in_front ∙ ap (λ l. front ++ l) split

    abbrev moved : Table
    moved = record t { entries = front ++ (x ∷ gs ++ back) }

    takes : entries_after_rewrite (Some gate) (x ∷ gs) t.entries ≡ Some (front ++ (x ∷ gs ++ back))
    takes = ap (entries_after_rewrite (Some gate) (x ∷ gs)) whole
        ∙ copies_take_places content (Some gate) front m ms back x gs (subst IsRun whole sound.consecutive.run) copies
        (ap (λ (l : List EntryIndex). is_misplaced (Some gate) (length front) (entry_count Rewrite l)) (sym whole) ∙ in_place gate (length front)) move

    reads : entries_after_replay Rewrite (table_of id w).entries (x ∷ gs) ≡ Some (front ++ x ∷ gs)
    reads = ap (λ l. entries_after_replay Rewrite l (x ∷ gs)) told
        ∙ copies_read_behind content (Some gate) front m ms back x gs (subst IsRun whole sound.consecutive.run) copies
        (ap (λ (l : List EntryIndex). is_misplaced (Some gate) (length front) (entry_count Rewrite l)) (sym whole) ∙ in_place gate (length front)) move

    keys : (out : Keys) × (moved_all (Some gate) seq t.keys ps ≡ Some out) × ((key : List ℕ) → IsPairMoved to t.keys out (table_of id w).keys (put_all to (table_of id w).keys ps) key)
    keys = pairs_copied (Some gate) seq t.keys (table_of id w).keys ps t.keys (table_of id w).keys fetched (λ key. inl (refl, refl))

    after_first : after_items (Rewriting (Some gate) seq) (with_table tables id (Some moved)) (put_items id to ps) ≡ Some new
    after_first =
        subst (λ (o : Option (List EntryIndex)). option_and_then
        (λ o. after_items (Rewriting (Some gate) seq) (with_table tables id o) (put_items id to ps))
        (option_map Some (option_map {U = Table} (λ es. record t { entries = es }) o)) ≡ Some new) takes
        (subst (λ (o : Option Table). option_and_then (λ o. after_items (Rewriting (Some gate) seq) (with_table tables id o) (put_items id to ps))
        (option_map Some (option_map {U = Table} (λ es. record (table_of id o) { entries = es })
        (entries_after_rewrite (Some gate) (x ∷ gs) (table_of id o).entries))) ≡ Some new) there is)

    kept : (table_of id (finite.get new id) ≡ record moved { keys = keys.0 }) × ((r : ℕ) → IsOther r id → finite.get new r ≡ finite.get (with_table tables id (Some moved)) r)
    kept = puts_move (Some gate) seq id ps (with_table tables id (Some moved)) new moved keys.0 ordinary keys.1 (with_own tables id (Some moved)) after_first

    pub others : (r : ℕ) → IsOther r id → finite.get new r ≡ finite.get tables r
    others r other = kept.1 r other ∙ with_other tables id r (Some moved) other.1

    run_step : (v : Option Table) ×
        (after Rewrite id w (steps_on id (steps_of_items (record { raft_group_id = id; content = entries (x ∷ gs) } ∷ put_items id to ps))) ≡ Some v)
        × ((table_of id v).entries ≡ front ++ x ∷ gs) × ((table_of id v).keys ≡ put_all to (table_of id w).keys ps)
    run_step =
        let rest = puts_read id to ps (Some (record (table_of id w) { entries = front ++ x ∷ gs })) ordinary in (
          rest.0,
          ap (after Rewrite id w) (own_head (record { region = id; step = Run (x ∷ gs) }) (steps_of_items (put_items id to ps)))
              ∙ ap (λ (o : Option (List EntryIndex)). option_and_then (λ u. after Rewrite id u (steps_on id (steps_of_items (put_items id to ps))))
              (option_map Some (option_map {U = Table} (λ es. record (table_of id w) { entries = es }) o))) reads
              ∙ rest.1,
          rest.2,
          rest.3,
        )

    put_is : run_step.0 ≡ put
    put_is = same_some run_step.0 put (sym run_step.1 ∙ puts)

    pub region_rewritten : AreRecordsMoved content to t (table_of id (finite.get new id)) (table_of id w) (table_of id put)
    region_rewritten = record {
      of_queue = refl;
      front = front;
      middle = m ∷ ms;
      back = back;
      split = whole;
      in_front = prefix_placed;
      behind = none_behind (m ∷ ms) back split;
      copies = x ∷ gs;
      copied = copies;
      moves = ap (λ (u : Table). u.entries) kept.0;
      puts = ap (λ (u : Option Table). (table_of id u).entries) (sym put_is) ∙ run_step.2;
      pairs = λ key. subst (λ (k : Keys). IsPairMoved to t.keys k (table_of id w).keys (table_of id put).keys key) (sym (ap (λ (u : Table). u.keys) kept.0))
          (subst (λ (k : Keys). IsPairMoved to t.keys keys.0 (table_of id w).keys k key) (sym (ap (λ (u : Option Table). (table_of id u).keys) (sym put_is) ∙ run_step.3)) (keys.2 key));
    }

-- a region of which nothing is rewritten
pub nothing_rewritten : (content : EntryIndex → List ℕ) (file : FileId) (t w : Table) → file.queue ≡ Rewrite → AreTableEntries t.entries → w.entries ≡ placed_in Rewrite t.entries → AreRecordsMoved content file t t w w
nothing_rewritten content file t w q sound told = record {
  of_queue = q;
  front = placed_in Rewrite t.entries;
  middle = [];
  back = placed_in Append t.entries;
  split = sound.in_front;
  in_front = placed_twice Rewrite t.entries;
  behind = placed_in_other Append Rewrite refl t.entries;
  copies = [];
  copied = tt;
  moves = sound.in_front;
  puts = told ∙ sym (append-nil (placed_in Rewrite t.entries));
  pairs = λ key. inl (refl, refl);
}
