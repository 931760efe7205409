-- The files that kept tables need: the entries of each queue stand in the order of their files, so the first has the least.
use Rattle.raft_engine_laws.proofs.Common.{◌≡◌, ℕ, ◌≤◌, Bool, true, false, cond, List, [], ◌∷◌, ◌++◌, Option, Some, None, inl, inr, refl, sym, ap, subst, ◌∙◌, arith, slice_get, option_map_or, false≢true, EntryIndex, FileBlockHandle, LogQueue, Append, Rewrite, place_seq}
use Rattle.raft_engine_laws.proofs.Common.{entry_seq, first_entry_seq, is_same, Step, table_of, placed_in, is_placed_in, placed_apart, placed_in-append, Event, batches, steps_of, RegionStep, Tables, steps_on, history_rises, seq_of, InOrder, lower, steps_order, append_apart}
use Rattle.raft_engine_laws.proofs.Common.{own_none, IsSeqFrom, AreFrom, NeedsNoneBelow, AreLeastFrom, IsRegionKept, AreKept, AreMoved, is_index_spoken, unspoken}
use Rattle.std.specs.FinMap as finite
use Rattle.raft_engine_laws.proofs.EachLemmas.{each_left, left_each}
use Rattle.raft_engine_laws.proofs.LeastNumbers.{needs_none}
use Rattle.raft_engine_laws.proofs.LowEntries.{placed_such}
use Rattle.raft_engine_laws.proofs.MovedLemmas.{moved_parts, moved_each}
use Rattle.raft_engine_laws.proofs.UnspokenLemmas.{unspoken-append, unspoken-none}

-- entries that are in the order of their files, the first of them from a number on, all are from it on
place_from : (n : ℕ) (q : LogQueue) (o : Option FileBlockHandle) → option_map_or (λ (place : FileBlockHandle). is_same place.id.queue q) o false ≡ true → n ≤ seq_of o → IsSeqFrom n (place_seq o)
place_from n q None h k = absurd (false≢true h)
place_from n q (Some place) h k = k

order_from : (n : ℕ) (q : LogQueue) (low high : ℕ) (es : List EntryIndex) → n ≤ low → InOrder q low high es → AreFrom n es
unfolding is_placed_in
order_from n q low high [] l h = tt
order_from n q low high (e ∷ es) l h = (place_from n q e.entries h.0 (let k = h.1 in omega (arith, l, k)), order_from n q (seq_of e.entries) high es (let k = h.1 in omega (arith, l, k)) h.2)

first_is_least : (n : ℕ) (q : LogQueue) (low high : ℕ) (es : List EntryIndex) → InOrder q low high es → ((m : ℕ) → entry_seq (slice_get es 0) ≡ Some m → n ≤ m) → AreFrom n es
unfolding is_placed_in
first_is_least n q low high [] h first = tt
first_is_least n q low high (e ∷ es) h first = by_place e.entries refl h.0
  where
    by_place : (o : Option FileBlockHandle) → e.entries ≡ o → option_map_or (λ (place : FileBlockHandle). is_same place.id.queue q) o false ≡ true → AreFrom n (e ∷ es)
    by_place None k p = absurd (false≢true p)
    by_place (Some place) k p =
        let least : n ≤ place.id.seq = first place.id.seq (ap place_seq k) in
        let is : seq_of e.entries ≡ place.id.seq = ap seq_of k in
        (subst (IsSeqFrom n) (ap place_seq (sym k)) least, order_from n q (seq_of e.entries) high es (omega (arith, least, is)) h.2)

-- what is kept beside entries in order: those of the append queue are some of them
some_in_order : (content : EntryIndex → List ℕ) (low high : ℕ) (ks es : List EntryIndex) → AreMoved content ks es → InOrder Append low high es → InOrder Append low high (placed_in Append ks)
unfolding placed_in
some_in_order content low high [] [] m h = h
some_in_order content low high [] (e ∷ es) m h = absurd m
some_in_order content low high (k ∷ ks) [] m h = absurd m
some_in_order content low high (k ∷ ks) (e ∷ es) m h = go (is_placed_in Append k) refl (some_in_order content (seq_of e.entries) high ks es m.1 h.2)
  where
    go : (b : Bool) → is_placed_in Append k ≡ b → InOrder Append (seq_of e.entries) high (placed_in Append ks) → InOrder Append low high (cond b (k ∷ placed_in Append ks) (placed_in Append ks))
    go false p rest = lower Append low (seq_of e.entries) high (placed_in Append ks) h.1 rest
    go true p rest = elim m.0.0.1 [
      | inl same ↦ (p, subst (λ (x : EntryIndex). low ≤ seq_of x.entries) (sym same) h.1, subst (λ (x : EntryIndex). InOrder Append (seq_of x.entries) high (placed_in Append ks)) (sym same) rest)
      | inr moved ↦ absurd (false≢true (sym (placed_apart Append Rewrite refl k p) ∙ moved))
    ]

no_prefix : (a b : List EntryIndex) → a ++ b ≡ [] → a ≡ []
no_prefix [] b e = refl
no_prefix (x ∷ a) b e = absurd cc

module _ (content : EntryIndex → List ℕ) (append rewrite : List Event) (untold : List RegionStep) (tables : Tables) (h : AreKept content append rewrite untold tables) (r : ℕ) where
  abbrev kept : List Step
  kept = steps_of r (batches append)

  k : IsRegionKept content r kept (steps_on r untold) (table_of r (finite.get h.rewritten r)) (table_of r (finite.get tables r))
  k = h.each r

  abbrev es : List EntryIndex
  es = (table_of r (finite.get tables r)).entries

  parts : (a : List EntryIndex) × (b : List EntryIndex) × (es ≡ a ++ b) × AreMoved content a (unspoken kept k.seen) × AreMoved content b (table_of r k.own).entries
  parts = moved_parts content es (unspoken kept k.seen) (table_of r k.own).entries (subst (AreMoved content es) k.over.split k.moved)

  front_none : placed_in Append parts.0 ≡ []
  front_none =
      sym (left_each kept (placed_in Append parts.0) (placed_such (λ i. is_index_spoken kept i ≡ false) parts.0 (moved_each content (λ i. is_index_spoken kept i ≡ false) parts.0 _ parts.3 (each_left kept k.seen))))
      ∙ no_prefix (unspoken kept (placed_in Append parts.0)) _ (sym (unspoken-append kept (placed_in Append parts.0) (placed_in Append parts.1))
      ∙ ap (unspoken kept) (sym (ap (placed_in Append) parts.2 ∙ placed_in-append Append parts.0 parts.1)) ∙ k.spoken)

  own_order : (high : ℕ) × InOrder Append 0 high (table_of r k.own).entries
  own_order =
      let x = history_rises Append append h.append_sound (record { each = append_apart 0 append h.append_sound.files }) r in
      (x.0, steps_order Append 0 x.0 r None k.own kept x.1 (omega arith) k.read)

  -- the first entry that has its place in the append queue has the least file of all that have
  appended_from : (n : ℕ) → ((m : ℕ) → first_entry_seq Append es ≡ Some m → n ≤ m) → AreFrom n (placed_in Append es)
  appended_from n first = first_is_least n Append 0 own_order.0 (placed_in Append es)
      (subst (InOrder Append 0 own_order.0)
      (sym (ap (placed_in Append) parts.2 ∙ placed_in-append Append parts.0 parts.1 ∙ ap (λ l. l ++ placed_in Append parts.1) front_none))
      (some_in_order content 0 own_order.0 parts.1 (table_of r k.own).entries parts.4 own_order.1)) first

  rewrite_order : (high : ℕ) × InOrder Rewrite 0 high (table_of r (finite.get h.rewritten r)).entries
  rewrite_order =
      let x = history_rises Rewrite rewrite h.rewrite_sound (h.apart) r in
      (x.0, steps_order Rewrite 0 x.0 r None (finite.get h.rewritten r) (steps_of r (batches rewrite)) x.1 (omega arith) (h.read.tables_read r))

  -- and so the first rewritten one, once the rewrite queue is told
  rewritten_from : untold ≡ [] → (n : ℕ) → ((m : ℕ) → first_entry_seq Rewrite es ≡ Some m → n ≤ m) → AreFrom n (placed_in Rewrite es)
  rewritten_from none n first =
      let same : (table_of r (finite.get h.rewritten r)).entries ≡ placed_in Rewrite es = sym (unspoken-none _) ∙ ap (λ l. unspoken l (table_of r (finite.get h.rewritten r)).entries) (sym (ap (steps_on r) none ∙ own_none r)) ∙ k.told in
      first_is_least n Rewrite 0 rewrite_order.0 (placed_in Rewrite es) (subst (InOrder Rewrite 0 rewrite_order.0) same rewrite_order.1) first

  -- no record of the append queue is in a file below a number that the least one isn't below
  pub append_needs : (n : ℕ) → AreLeastFrom Append n tables → NeedsNoneBelow Append n (table_of r (finite.get tables r))
  append_needs n low = needs_none Append (table_of r (finite.get tables r)) n (low r) (appended_from n)

  -- and none of the rewrite queue, once that is told
  pub rewrite_needs : untold ≡ [] → (n : ℕ) → AreLeastFrom Rewrite n tables → NeedsNoneBelow Rewrite n (table_of r (finite.get tables r))
  rewrite_needs none n low = needs_none Rewrite (table_of r (finite.get tables r)) n (low r) (rewritten_from none n)
