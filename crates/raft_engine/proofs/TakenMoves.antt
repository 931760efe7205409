-- The tables take a batch that moves records of a region.
use Rattle.raft_engine.proofs.Common.{◌≡◌, ℕ, ◌≤◌, true, false, cond, List, [], ◌∷◌, ◌++◌, length, Option, Some, None, option_map, inl, inr, refl, sym, ap, subst, ◌∙◌, arith, nat_tests, AllByRecursion, nat_lt, option_and_then, EntryIndex, FileId, LogQueue, Append, Rewrite, IsRun}
use Rattle.raft_engine.proofs.Common.{entries, Tables, with_table, with_own, Keys, Stored, file_at, moved_to, with_moved, entries_after_rewrite, is_misplaced, may_move, Table, rewritten_in, rewritten_pair, AreTableEntries, entry_count, is_placed_in, placed_in, placed_each}
use Rattle.raft_engine.proofs.Common.{Rewriting, after_content, after_items, none_some, AreCopies, AreOrdinary, IsFetched, moving_items, put_item, put_items, copies_take_places, IsCopied, moved_all, now_there, one_more, pairs_copied, placed_twice}
use Rattle.std.specs.FinMap as finite
use Rattle.raft_engine.proofs.FetchedLemmas.{IsRewrittenPair}

-- pairs that move one after another
puts_taken : (gate : Option ℕ) (seq id : ℕ) (ps : List (List ℕ × List ℕ)) (m : Tables) (t : Table) (out : Keys) → AreOrdinary ps → moved_all gate seq t.keys ps ≡ Some out → finite.get m id ≡ Some t
    → (n : Tables) × (after_items (Rewriting gate seq) m (put_items id (record { queue = Rewrite; seq = seq }) ps) ≡ Some n)
    × (u : Table) × (finite.get n id ≡ Some u) × (u.entries ≡ t.entries)
puts_taken gate seq id [] m t out ordinary moved there = (m, refl, t, there, refl)
puts_taken gate seq id (p ∷ ps) m t out ordinary moved there = go (rewritten_in gate seq t.keys p.0 (file_at t.keys p.0)) refl (λ k u rest e. puts_taken gate seq id ps k u out ordinary.1 rest e) moved
  where
    first : (x : Option Keys) → rewritten_in gate seq t.keys p.0 (file_at t.keys p.0) ≡ x →
        after_content (Rewriting gate seq) id (finite.get m id) (put_item id (record { queue = Rewrite; seq = seq }) p).content ≡ option_map Some
        (option_map {U = Table} (λ keys. record t { keys = keys }) x)
    first x e =
        ap (λ (o : Option Table). after_content (Rewriting gate seq) id o (put_item id (record { queue = Rewrite; seq = seq }) p).content) there
        ∙ ap (λ b. cond b (Some (Some t)) (option_map Some (option_map {U = Table} (λ keys. record t { keys = keys }) (rewritten_in gate seq t.keys p.0 (file_at t.keys p.0))))) ordinary.0
        ∙ ap (λ (o : Option Keys). option_map Some (option_map {U = Table} (λ keys. record t { keys = keys }) o)) e

    go : (x : Option Keys) → rewritten_in gate seq t.keys p.0 (file_at t.keys p.0) ≡ x
        → ((k : Tables) (u : Table) → moved_all gate seq u.keys ps ≡ Some out → finite.get k id ≡ Some u
        → (n : Tables) × (after_items (Rewriting gate seq) k (put_items id (record { queue = Rewrite; seq = seq }) ps) ≡ Some n)
        × (v : Table) × (finite.get n id ≡ Some v) × (v.entries ≡ u.entries))
        → option_and_then (λ k. moved_all gate seq k ps) x ≡ Some out
        → (n : Tables) × (after_items (Rewriting gate seq) m (put_items id (record { queue = Rewrite; seq = seq }) (p ∷ ps)) ≡ Some n)
        × (v : Table) × (finite.get n id ≡ Some v) × (v.entries ≡ t.entries)
    go None e rest k = absurd (none_some k)
    go (Some keys) e rest k =
        let u : Table = record t { keys = keys } in
        let all = rest (with_table m id (Some u)) u k (with_own m id (Some u)) in (
          all.0,
          ap (option_and_then (λ o. after_items (Rewriting gate seq) (with_table m id o) (put_items id (record { queue = Rewrite; seq = seq }) ps))) (first (Some keys) e) ∙ all.1,
          all.2,
          all.3,
          all.4,
        )

module _ (gate : Option ℕ) (seq id : ℕ) (tables : Tables) (t : Table) (there : finite.get tables id ≡ Some t)
    (ps : List (List ℕ × List ℕ)) (ordinary : AreOrdinary ps) (keys : (out : Keys) × (moved_all gate seq t.keys ps ≡ Some out)) where
  none_taken : (n : Tables) × (after_items (Rewriting gate seq) tables (moving_items id (record { queue = Rewrite; seq = seq }) [] ps) ≡ Some n)
      × (u : Table) × (finite.get n id ≡ Some u) × (u.entries ≡ t.entries)
  none_taken = puts_taken gate seq id ps tables t keys.0 ordinary keys.1 there

  run_taken : (x : EntryIndex) (gs after : List EntryIndex) → entries_after_rewrite gate (x ∷ gs) t.entries ≡ Some after
      → (n : Tables) × (after_items (Rewriting gate seq) tables (moving_items id (record { queue = Rewrite; seq = seq }) (x ∷ gs) ps) ≡ Some n)
      × (u : Table) × (finite.get n id ≡ Some u) × (u.entries ≡ after)
  run_taken x gs after e =
      let to : FileId = record { queue = Rewrite; seq = seq } in
      let u : Table = record t { entries = after } in
      let rest = puts_taken gate seq id ps (with_table tables id (Some u)) u keys.0 ordinary keys.1 (with_own tables id (Some u)) in
      let first : after_content (Rewriting gate seq) id (finite.get tables id) (entries (x ∷ gs)) ≡ Some (Some u) =
      ap (λ (o : Option Table). after_content (Rewriting gate seq) id o (entries (x ∷ gs))) there
      ∙ ap (λ (o : Option (List EntryIndex)). option_map Some (option_map {U = Table} (λ es. record t { entries = es }) o)) e in
      (rest.0, ap (option_and_then (λ o. after_items (Rewriting gate seq) (with_table tables id o) (put_items id to ps))) first ∙ rest.1, rest.2, rest.3, rest.4)

-- ---- past a gate

in_place : (gate n : ℕ) → is_misplaced (Some gate) n n ≡ false
in_place gate n = grind (arith, nat_tests)

module _ (gate seq id : ℕ) (tables : Tables) (t : Table) (there : finite.get tables id ≡ Some t) (sound : AreTableEntries t.entries)
    (ps : List (List ℕ × List ℕ)) (ordinary : AreOrdinary ps) (fetched : AllByRecursion (IsFetched (Some gate) t.keys) ps) where
  keys : (out : Keys) × (moved_all (Some gate) seq t.keys ps ≡ Some out)
  keys = let all = pairs_copied (Some gate) seq t.keys t.keys ps t.keys t.keys fetched (λ key. inl (refl, refl)) in (all.0, all.1)

  pub moving_taken : (copies middle back : List EntryIndex) → placed_in Append t.entries ≡ middle ++ back → AllByRecursion (λ (x : EntryIndex). may_move (Some gate) x ≡ true) middle
      → AreCopies (λ e. []) copies middle
      → (n : Tables) × (after_items (Rewriting (Some gate) seq) tables (moving_items id (record { queue = Rewrite; seq = seq }) copies ps) ≡ Some n)
      × (u : Table) × (finite.get n id ≡ Some u) × (u.entries ≡ placed_in Rewrite t.entries ++ (copies ++ back))
  moving_taken [] [] back split gated copied =
      let none = none_taken (Some gate) seq id tables t there ps ordinary keys in
      (none.0, none.1, none.2, none.3, none.4 ∙ sound.in_front ∙ ap (λ l. placed_in Rewrite t.entries ++ l) split)
  moving_taken [] (m ∷ ms) back split gated copied = absurd copied
  moving_taken (x ∷ gs) [] back split gated copied = absurd copied
  moving_taken (x ∷ gs) (m ∷ ms) back split gated copied =
      let front : List EntryIndex = placed_in Rewrite t.entries in
      let whole : t.entries ≡ front ++ (m ∷ ms ++ back) = sound.in_front ∙ ap (λ l. front ++ l) split in
      run_taken (Some gate) seq id tables t there ps ordinary keys x gs (front ++ (x ∷ gs ++ back))
      (ap (entries_after_rewrite (Some gate) (x ∷ gs)) whole
      ∙ copies_take_places (λ e. []) (Some gate) front m ms back x gs (subst IsRun whole sound.consecutive.run) copied
      (ap (λ (l : List EntryIndex). is_misplaced (Some gate) (length front) (entry_count Rewrite l)) (sym whole) ∙ in_place gate (length front)) gated)

-- ---- within the rewrite queue

-- a pair in a file up to the one that it moves to
low_moves : (seq : ℕ) (keys : Keys) (key : List ℕ) (x : Stored) → finite.get keys key ≡ Some x → x.file.queue ≡ Rewrite → x.file.seq ≤ seq
    → rewritten_in None seq keys key (file_at keys key) ≡ Some (finite.insert keys key (record x { file = record { queue = Rewrite; seq = seq } }))
low_moves seq keys key x there queue low =
    ap (λ (o : Option Stored). rewritten_in None seq keys key (option_map (λ (y : Stored). y.file) o)) there
    ∙ ap (λ (l : LogQueue). rewritten_pair None seq keys key l x.file.seq) queue
    ∙ ap (λ b. cond b None (Some (with_moved keys key (record { queue = Rewrite; seq = seq })))) (not_below seq x.file.seq low)
    ∙ ap (λ (o : Option Stored). Some (moved_to (record { queue = Rewrite; seq = seq }) keys key o)) there
  where
    not_below : (n m : ℕ) → m ≤ n → nat_lt n m ≡ false
    not_below n m low = grind (arith, nat_tests)

-- the rewritten pairs are in files up to this one
abbrev pub AreLow : ℕ → Keys → Type 0
AreLow seq keys = (key : List ℕ) (s : Stored) → finite.get keys key ≡ Some s → s.file.queue ≡ Rewrite → s.file.seq ≤ seq

module _ (seq : ℕ) (old : Keys) (low : AreLow seq old) where
  abbrev to : FileId
  to = record { queue = Rewrite; seq = seq }

  pairs_again : (ps : List (List ℕ × List ℕ)) (keys rew : Keys) → AllByRecursion (IsRewrittenPair old) ps → IsCopied None seq old old keys rew → (out : Keys) × (moved_all None seq keys ps ≡ Some out)
  pairs_again [] keys rew all h = (keys, refl)
  pairs_again (p ∷ ps) keys rew all h =
      let f : IsRewrittenPair old p = all.0 in
      let s : Stored = record f.stored { file = to } in
      let on : rewritten_in None seq keys p.0 (file_at keys p.0) ≡ Some (finite.insert keys p.0 s) = elim (now_there None seq old old keys rew p.0 f.stored f.there h) [
        | inl e ↦ low_moves seq keys p.0 f.stored e f.queue (low p.0 f.stored f.there f.queue)
        | inr e ↦ low_moves seq keys p.0 s e refl (omega arith)
      ] in
      let rest : (out : Keys) × (moved_all None seq (finite.insert keys p.0 s) ps ≡ Some out) =
      pairs_again ps (finite.insert keys p.0 s) (finite.insert rew p.0 (record { value = p.1; file = to })) all.1 (one_more None seq old old keys rew p.0 f.stored p.1 f.there f.value h) in
      (rest.0, ap (option_and_then (λ k. moved_all None seq k ps)) on ∙ rest.1)

not_misplaced : (n : ℕ) → is_misplaced None 0 n ≡ false
not_misplaced n = grind (arith, nat_tests)

module _ (seq id : ℕ) (tables : Tables) (t : Table) (there : finite.get tables id ≡ Some t) (sound : AreTableEntries t.entries) (low : AreLow seq t.keys)
    (ps : List (List ℕ × List ℕ)) (ordinary : AreOrdinary ps) (rewritten : AllByRecursion (IsRewrittenPair t.keys) ps) where
  again_keys : (out : Keys) × (moved_all None seq t.keys ps ≡ Some out)
  again_keys = pairs_again seq t.keys low ps t.keys t.keys rewritten (λ key. inl (refl, refl))

  pub again_taken : (copies : List EntryIndex) → AreCopies (λ e. []) copies (placed_in Rewrite t.entries)
      → (n : Tables) × (after_items (Rewriting None seq) tables (moving_items id (record { queue = Rewrite; seq = seq }) copies ps) ≡ Some n)
  again_taken [] copied = let none = none_taken None seq id tables t there ps ordinary again_keys in (none.0, none.1)
  again_taken (x ∷ gs) copied = go (placed_in Rewrite t.entries) refl copied
    where
      go : (rew : List EntryIndex) → placed_in Rewrite t.entries ≡ rew → AreCopies (λ e. []) (x ∷ gs) rew
          → (n : Tables) × (after_items (Rewriting None seq) tables (moving_items id (record { queue = Rewrite; seq = seq }) (x ∷ gs) ps) ≡ Some n)
      go [] e copied = absurd copied
      go (m ∷ ms) e copied =
          let back : List EntryIndex = placed_in Append t.entries in
          let whole : t.entries ≡ m ∷ ms ++ back = sound.in_front ∙ ap (λ l. l ++ back) e in
          let move = subst (AllByRecursion (λ (x : EntryIndex). is_placed_in Rewrite x ≡ true)) e (placed_each Rewrite (placed_in Rewrite t.entries) (placed_twice Rewrite t.entries)) in
          let run = run_taken None seq id tables t there ps ordinary again_keys x gs (x ∷ gs ++ back)
          (ap (entries_after_rewrite None (x ∷ gs)) whole
          ∙ copies_take_places (λ e. []) None [] m ms back x gs (subst IsRun whole sound.consecutive.run) copied (not_misplaced (entry_count Rewrite (m ∷ ms ++ back))) move) in
          (run.0, run.1)
