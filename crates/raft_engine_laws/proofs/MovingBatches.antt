-- A batch that moves records of one region past a gate.
use Rattle.raft_engine_laws.proofs.Common.{◌≡◌, ℕ, true, List, [], ◌∷◌, ◌++◌, Option, Some, None, inl, inr, refl, sym, ap, subst, ◌∙◌, AllByRecursion, EntryIndex, FileId, LogQueue, Append, Rewrite, Item, may_move, Step, table_of, after, Table, placed_in, AreTableEntries}
use Rattle.raft_engine_laws.proofs.Common.{same_some, Event, Tables, content_step, steps_on, steps_of_items, IsOther, by_region, own_none, own_other, with_step, Rewriting, after_items, HasNoMarker, AreKept, AreCopies, AreRecordsMoved, put_items, moving_items, IsMovingBatch}
use Rattle.raft_engine_laws.proofs.Common.{IsRewrittenNext, unspoken}
use Rattle.std.specs.FinMap as finite
use Rattle.raft_engine_laws.proofs.KeptRewrites.{moved_kept, put_tables, put_by_region, read_more}
use Rattle.raft_engine_laws.proofs.RewriteReadings.{reading_of}
use Rattle.raft_engine_laws.proofs.RewrittenItems.{others, region_rewritten, pairs_others, pairs_moved, nothing_rewritten}
use Rattle.raft_engine_laws.proofs.UnspokenLemmas.{unspoken-none}

-- items of one region have no step on another
own_items : (r id : ℕ) (items : List Item) → IsOther r id → AllByRecursion (λ (item : Item). item.raft_group_id ≡ id) items → steps_on r (steps_of_items items) ≡ []
own_items r id [] other h = own_none r
own_items r id (item ∷ items) other h = go (content_step item.content) (own_items r id items other h.1)
  where
    go : (o : Option Step) → steps_on r (steps_of_items items) ≡ [] → steps_on r (with_step item.raft_group_id o (steps_of_items items)) ≡ []
    go None rest = rest
    go (Some s) rest = own_other r (record { region = item.raft_group_id; step = s }) (steps_of_items items) (subst (IsOther r) (sym h.0) other).0 ∙ rest

puts_own : (id : ℕ) (file : FileId) (ps : List (List ℕ × List ℕ)) → AllByRecursion (λ (item : Item). item.raft_group_id ≡ id) (put_items id file ps)
puts_own id file [] = tt
puts_own id file (p ∷ ps) = (refl, puts_own id file ps)

moving_own : (id : ℕ) (file : FileId) (es : List EntryIndex) (ps : List (List ℕ × List ℕ)) → AllByRecursion (λ (item : Item). item.raft_group_id ≡ id) (moving_items id file es ps)
moving_own id file [] ps = puts_own id file ps
moving_own id file (e ∷ es) ps = (refl, puts_own id file ps)

-- what a batch of these items makes of all tables
pub record IsMovedBy (content : EntryIndex → List ℕ) (file : FileId) (id : ℕ) (tables new : Tables) (t : Table) (w put : Option Table) : Type 0 where
  pub own : AreRecordsMoved content file t (table_of id (finite.get new id)) (table_of id w) (table_of id put)
  pub others : (r : ℕ) → IsOther r id → finite.get new r ≡ finite.get tables r

module _ (content : EntryIndex → List ℕ) (append rewrite : List Event) (tables new : Tables) (e : Event) (h : AreKept content append rewrite [] tables) (next : IsRewrittenNext rewrite e) (plain : HasNoMarker e)
    (gate id : ℕ) (t : Table) (there : finite.get tables id ≡ Some t) (b : IsMovingBatch content gate id t e) (is : after_items (Rewriting (Some gate) e.file.seq) tables e.items ≡ Some new) where
  abbrev put : Tables
  put = put_tables content append rewrite [] tables e h next plain

  told : (r : ℕ) → (table_of r (finite.get h.rewritten r)).entries ≡ placed_in Rewrite (table_of r (finite.get tables r)).entries
  told r = sym (unspoken-none (table_of r (finite.get h.rewritten r)).entries) ∙ ap (λ l. unspoken l (table_of r (finite.get h.rewritten r)).entries) (sym (own_none r)) ∙ (h.each r).told

  own_told : (table_of id (finite.get h.rewritten id)).entries ≡ placed_in Rewrite t.entries
  own_told = told id ∙ ap (λ (o : Option Table). placed_in Rewrite (table_of id o).entries) there

  abbrev to : FileId
  to = record { queue = Rewrite; seq = e.file.seq }

  file_is : e.file ≡ to
  file_is = ap (λ (q : LogQueue). record { queue = q; seq = e.file.seq }) next.queue

  items_are : e.items ≡ moving_items id to b.copies b.pairs
  items_are = b.items ∙ ap (λ f. moving_items id f b.copies b.pairs) file_is

  own_sound : AreTableEntries t.entries
  own_sound = subst (λ (o : Option Table). AreTableEntries (table_of id o).entries) there (h.each id).sound

  moved_by : (copies middle back : List EntryIndex) → placed_in Append t.entries ≡ middle ++ back → AllByRecursion (λ (x : EntryIndex). may_move (Some gate) x ≡ true) middle → AreCopies content copies middle
      → after_items (Rewriting (Some gate) e.file.seq) tables (moving_items id to copies b.pairs) ≡ Some new →
      after Rewrite id (finite.get h.rewritten id) (steps_on id (steps_of_items (moving_items id to copies b.pairs))) ≡ Some (finite.get put id)
      → IsMovedBy content to id tables new t (finite.get h.rewritten id) (finite.get put id)
  moved_by [] [] back split gated copied is puts = record {
    own = pairs_moved content gate e.file.seq id tables new t there own_sound (finite.get h.rewritten id) (finite.get put id) own_told b.pairs b.ordinary b.fetched is puts;
    others = pairs_others content gate e.file.seq id tables new t there own_sound (finite.get h.rewritten id) (finite.get put id) own_told b.pairs b.ordinary b.fetched is puts;
  }
  moved_by [] (m ∷ ms) back split gated copied is puts = absurd copied
  moved_by (x ∷ gs) [] back split gated copied is puts = absurd copied
  moved_by (x ∷ gs) (m ∷ ms) back split gated copied is puts = record {
    own = region_rewritten content gate e.file.seq id tables new t there own_sound (finite.get h.rewritten id) (finite.get put id) own_told m ms back x gs split gated copied b.pairs b.ordinary b.fetched is puts;
    others = others content gate e.file.seq id tables new t there own_sound (finite.get h.rewritten id) (finite.get put id) own_told m ms back x gs split gated copied b.pairs b.ordinary b.fetched is puts;
  }

  by : IsMovedBy content to id tables new t (finite.get h.rewritten id) (finite.get put id)
  by = moved_by b.copies b.middle b.back b.split b.gated b.copied
      (subst (λ l. after_items (Rewriting (Some gate) e.file.seq) tables l ≡ Some new) items_are is)
      (subst (λ l. after Rewrite id (finite.get h.rewritten id) (steps_on id (steps_of_items l)) ≡ Some (finite.get put id)) items_are (put_by_region content append rewrite [] tables e h next plain id))

  put_same : (r : ℕ) → IsOther r id → finite.get put r ≡ finite.get h.rewritten r
  put_same r other = sym (same_some (finite.get h.rewritten r) (finite.get put r)
      (sym (ap (after Rewrite r (finite.get h.rewritten r))
      (ap (λ l. steps_on r (steps_of_items l)) items_are ∙ own_items r id (moving_items id to b.copies b.pairs) other
      (moving_own id to b.copies b.pairs))) ∙ put_by_region content append rewrite [] tables e h next plain r))

  pub moves : (r : ℕ) → AreRecordsMoved content to (table_of r (finite.get tables r)) (table_of r (finite.get new r)) (table_of r (finite.get h.rewritten r)) (table_of r (finite.get put r))
  moves r = elim (by_region r id) [
    | inl same ↦ subst (λ q. AreRecordsMoved content to (table_of q (finite.get tables q)) (table_of q (finite.get new q)) (table_of q (finite.get h.rewritten q)) (table_of q (finite.get put q))) (sym same)
        (subst (λ (o : Option Table). AreRecordsMoved content to (table_of id o) (table_of id (finite.get new id)) (table_of id (finite.get h.rewritten id)) (table_of id (finite.get put id))) (sym there) by.own)
    | inr other ↦
        subst (λ (o : Option Table). AreRecordsMoved content to (table_of r (finite.get tables r)) (table_of r o) (table_of r (finite.get h.rewritten r)) (table_of r (finite.get put r))) (sym (by.others r other))
        (subst (λ (o : Option Table). AreRecordsMoved content to (table_of r (finite.get tables r)) (table_of r (finite.get tables r)) (table_of r (finite.get h.rewritten r)) (table_of r o)) (sym (put_same r other))
        (nothing_rewritten content to (table_of r (finite.get tables r)) (table_of r (finite.get h.rewritten r)) refl (h.each r).sound (told r)))
  ]

  pub moving_kept : AreKept content append (rewrite ++ e ∷ []) [] new
  moving_kept = moved_kept content append rewrite tables new h.rewritten put e h next h.read (reading_of (rewrite ++ e ∷ []) put (read_more content append rewrite [] tables e h next plain))
      (λ r. subst (λ f. AreRecordsMoved content f (table_of r (finite.get tables r)) (table_of r (finite.get new r)) (table_of r (finite.get h.rewritten r)) (table_of r (finite.get put r))) (sym file_is) (moves r))
