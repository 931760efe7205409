-- Why tables take no more of the items that move.
use Rattle.raft_engine.proofs.Common.{◌≡◌, ◌≢◌, inl, inr, ℕ, suc, ◌<◌, ◌-◌, ◌^◌, true, List, [], ◌∷◌, ◌++◌, map, Option, Some, None, Result, Ok, Err, IfErr, refl, sym, ap, ◌∙◌, subst, append_assoc, map-append, AllByRecursion, option_and_then, Global, Yields, into_iter_items}
use Rattle.raft_engine.proofs.Common.{into_iter_steps, IntoIter, IsConsecutive, IsRun, RisesFrom, EntryIndex, Error, FileBlockHandle, FileId, Rewrite, with_lengths, Content, Item, item_of, placed_item, with_offsets_from, Batch, entry_place, LogItem, Tables, with_table, Table}
use Rattle.raft_engine.proofs.Common.{AreTableEntries, IsRunIn, is_placed_in, Accessor, AreItemsRefused, IsFor, IsWriteFault, Rewriting, after_content, after_items, none_some, Ask, placed_entries, AreCopies, moving_items, put_items, place_at, placed_at, AreTaken, AreUntaken}
use Rattle.raft_engine.proofs.Common.{IsBatchMoving, moving_entries, moving_pairs, pairs_with, IsNextRefused, LacksRoom}
use Rattle.std.specs.FinMap as finite
use Rattle.raft_base.specs.declared.compression_type.CompressionType.TheVariants as compressions
use Rattle.raft_base.specs.declared.errors.Error.TheVariants as errors
use Rattle.raft_engine.proofs.DrainLemmas.{parted}
use Rattle.raft_engine.proofs.FetchedLemmas.{fetched_consecutive}
use Rattle.raft_engine.proofs.MovingPuts.{batch_taken, placed_moving, same_copies}
use Rattle.raft_engine.proofs.PartLemmas.{part_consecutive}

-- ---- tables that don't take a batch

module _ (gate : Option ℕ) (seq : ℕ) where
  -- of one that is taken
  item_room : (id : ℕ) (o : Option Table) (live : ℕ) (content : Content) (e : Error) → IsFor (Rewriting gate seq) content → after_content (Rewriting gate seq) id o content ≢ None
      → IsWriteFault (Rewriting gate seq) id o live content e → LacksRoom e
  item_room id o live content (errors.Corruption text) is taken f = absurd (elim f [ inl not ↦ not is | inr none ↦ taken none ])
  item_room id o live content errors.Full is taken f = inr refl
  item_room id o live content errors.Memory is taken f = inl refl
  item_room id o live content (errors.InvalidArgument text) is taken f = absurd f
  item_room id o live content (errors.Io text) is taken f = absurd f
  item_room id o live content (errors.Codec text) is taken f = absurd f
  item_room id o live content (errors.Message text) is taken f = absurd f
  item_room id o live content (errors.TryAgain text) is taken f = absurd f
  item_room id o live content errors.EntryCompacted is taken f = absurd f
  item_room id o live content errors.EntryNotFound is taken f = absurd f
  item_room id o live content (errors.Other text) is taken f = absurd f
  item_room id o live content errors.Failed is taken f = absurd f

  some_same : (a b : Tables) → Some a ≡ Some b → a ≡ b
  some_same a b e = cc

  -- where all are taken, the next one behind the first ones is
  next_taken : (front : List Item) (item : Item) (rest : List Item) (m n k : Tables) → after_items (Rewriting gate seq) m front ≡ Some n → after_items (Rewriting gate seq) m (front ++ item ∷ rest) ≡ Some k
      → after_content (Rewriting gate seq) item.raft_group_id (finite.get n item.raft_group_id) item.content ≢ None
  next_taken [] item rest m n k at all =
      let same : m ≡ n = some_same m n at in
      λ none. none_some (sym (ap (option_and_then (λ (t : Option Table). after_items (Rewriting gate seq) (with_table m item.raft_group_id t) rest))
      (ap (λ (x : Tables). after_content (Rewriting gate seq) item.raft_group_id (finite.get x item.raft_group_id) item.content) same ∙ none)) ∙ all)
  next_taken (x ∷ front) item rest m n k at all =
      go (after_content (Rewriting gate seq) x.raft_group_id (finite.get m x.raft_group_id) x.content) refl (λ t first whole. next_taken front item rest (with_table m x.raft_group_id t) n k first whole)
    where
      go : (o : Option (Option Table)) → after_content (Rewriting gate seq) x.raft_group_id (finite.get m x.raft_group_id) x.content ≡ o
          → ((t : Option Table) → after_items (Rewriting gate seq) (with_table m x.raft_group_id t) front ≡ Some n → after_items (Rewriting gate seq) (with_table m x.raft_group_id t) (front ++ item ∷ rest) ≡ Some k
          → after_content (Rewriting gate seq) item.raft_group_id (finite.get n item.raft_group_id) item.content ≢ None)
          → after_content (Rewriting gate seq) item.raft_group_id (finite.get n item.raft_group_id) item.content ≢ None
      go None e next = absurd (none_some (sym (ap (option_and_then (λ (t : Option Table). after_items (Rewriting gate seq) (with_table m x.raft_group_id t) front)) e) ∙ at))
      go (Some t) e next = next t
          (sym (ap (option_and_then (λ (t : Option Table). after_items (Rewriting gate seq) (with_table m x.raft_group_id t) front)) e) ∙ at)
          (sym (ap (option_and_then (λ (t : Option Table). after_items (Rewriting gate seq) (with_table m x.raft_group_id t) (front ++ item ∷ rest))) e) ∙ all)

  next_of : (P : Item → Type 0) (front : List Item) (item : Item) (rest : List Item) → AllByRecursion P (front ++ item ∷ rest) → P item
  next_of P [] item rest all = all.0
  next_of P (x ∷ front) item rest all = next_of P front item rest all.1

  -- so the refusal is for want of room
  refused_room : (items xs left : List Item) (old new : Accessor) (e : Error) → items ≡ xs ++ left → AreTaken gate seq old.tables items → AreItemsRefused (Rewriting gate seq) xs old new e → LacksRoom e
  refused_room items xs left old new e is t h =
      let split : items ≡ h.front ++ h.item ∷ left = is ∙ ap (λ (l : List Item). l ++ left) h.split ∙ append_assoc h.front (h.item ∷ []) left in
      item_room h.item.raft_group_id (finite.get new.tables h.item.raft_group_id) _ h.item.content e
      (next_of (λ (item : Item). IsFor (Rewriting gate seq) item.content) h.front h.item left (subst (AllByRecursion (λ (item : Item). IsFor (Rewriting gate seq) item.content)) split t.each))
      (next_taken h.front h.item left old.tables new.tables t.after h.written.tables (subst (λ (l : List Item). after_items (Rewriting gate seq) old.tables l ≡ Some t.after) split t.taken))
      h.fault

  -- a loop over the items of a batch that was drained
  pub drain_room : {R : Type 0} (r : Result R Error) (s : IntoIter LogItem Global) (items : List Item) (old new : Accessor) → map item_of (into_iter_items s) ≡ items → AreTaken gate seq old.tables items
      → IfErr r (λ e. (it : IntoIter LogItem Global) × (xs : List LogItem) × (u : IntoIter LogItem Global) × (it ≡ s) × Yields into_iter_steps it xs u × AreItemsRefused (Rewriting gate seq) (map item_of xs) old new e)
      → IfErr r LacksRoom
  drain_room (Ok x) s items old new is t p = tt
  drain_room (Err e) s items old new is t p =
      let yields = subst (λ (it : IntoIter LogItem Global). Yields into_iter_steps it p.1 p.2) p.3 p.4 in
      refused_room items (map item_of p.1) (map item_of (into_iter_items p.2)) old new e
      (sym is ∙ ap (map item_of) (parted s p.2 p.1 yields) ∙ map-append item_of p.1 (into_iter_items p.2)) t p.5

-- ---- a batch that moves records past a gate is taken

copies_rise : (s : ℕ) (gs es : List EntryIndex) → AreCopies (λ e. []) gs es → RisesFrom s es → RisesFrom s gs
copies_rise s [] es h r = tt
copies_rise s (g ∷ gs) [] h r = absurd h
copies_rise s (g ∷ gs) (e ∷ es) h r = (h.0.0 ∙ r.0, copies_rise (suc s) gs es h.1 r.1)

copies_run : (gs es : List EntryIndex) → AreCopies (λ e. []) gs es → IsRun es → IsRun gs
copies_run [] es h r = tt
copies_run (g ∷ gs) [] h r = absurd h
copies_run (g ∷ gs) (e ∷ es) h r = copies_rise (suc g.index) gs es h.1 (subst (λ (n : ℕ). RisesFrom (suc n) es) (sym h.0.0) r)

copies_bounded : (gs es : List EntryIndex) → AreCopies (λ e. []) gs es → AllByRecursion (λ (e : EntryIndex). e.index < 2 ^ 64 - 1) es → AllByRecursion (λ (e : EntryIndex). e.index < 2 ^ 64 - 1) gs
copies_bounded [] es h r = tt
copies_bounded (g ∷ gs) [] h r = absurd h
copies_bounded (g ∷ gs) (e ∷ es) h r = (subst (λ (n : ℕ). n < 2 ^ 64 - 1) (sym h.0.0) r.0, copies_bounded gs es h.1 r.1)

copies_placed : (gs es : List EntryIndex) → AreCopies (λ e. []) gs es → AllByRecursion (λ (e : EntryIndex). is_placed_in Rewrite e ≡ true) gs
copies_placed [] es h = tt
copies_placed (g ∷ gs) [] h = absurd h
copies_placed (g ∷ gs) (e ∷ es) h = (h.0.1, copies_placed gs es h.1)

puts_for : (gate : Option ℕ) (seq id : ℕ) (file : FileId) (ps : List (List ℕ × List ℕ)) → AllByRecursion (λ (item : Item). IsFor (Rewriting gate seq) item.content) (put_items id file ps)
puts_for gate seq id file [] = tt
puts_for gate seq id file (p ∷ ps) = (λ ordinary. tt, puts_for gate seq id file ps)

moving_for : (gate : Option ℕ) (seq id : ℕ) (file : FileId) (es : List EntryIndex) (ps : List (List ℕ × List ℕ)) → IsRunIn Rewrite es
    → AllByRecursion (λ (item : Item). IsFor (Rewriting gate seq) item.content) (moving_items id file es ps)
moving_for gate seq id file [] ps run = puts_for gate seq id file ps
moving_for gate seq id file (e ∷ es) ps run = (run, puts_for gate seq id file ps)

pub batch_is_taken : (gate : ℕ) (left : List EntryIndex) (tables : Tables) (t : Table) (old asks : List Ask) (batch : Batch) (seq offset : ℕ) → finite.get tables t.region_id ≡ Some t → AreTableEntries t.entries → IsBatchMoving (Some gate) left t old asks batch
    → AreTaken (Some gate) seq tables (placed_at (record { queue = Rewrite; seq = seq }) offset batch)
batch_is_taken gate left tables t old asks batch seq offset there sound m =
    let file : FileId = record { queue = Rewrite; seq = seq } in
    let es : List EntryIndex = m.part in
    let ps : List (List ℕ × List ℕ) = pairs_with left (moving_pairs (Some gate) t.keys) in
    let place : FileBlockHandle = entry_place (place_at file offset batch) batch.entry_bytes in
    let copies : List EntryIndex = placed_entries place (with_offsets_from 0 (with_lengths es m.strings)) in
    let are : AreCopies (λ e. []) copies es = same_copies place 0 es m.strings m.read.reads refl m.read.have in
    let whole : IsConsecutive es = part_consecutive es left (subst IsConsecutive m.next.split (fetched_consecutive (Some gate) t.entries [] (moving_entries (Some gate) t.entries) sound refl refl)) in
    let items : placed_at file offset batch ≡ moving_items t.region_id file copies ps =
    ap (λ (b : Batch). map (placed_item place compressions.None) b.items) m.is ∙ placed_moving place t.region_id es m.strings ps m.read.reads m.read.have in
    let taken = batch_taken gate left tables t old asks batch seq offset there sound m in
    record {
      each = subst (AllByRecursion (λ (item : Item). IsFor (Rewriting (Some gate) seq) item.content)) (sym items)
          (moving_for (Some gate) seq t.region_id file copies ps (record {
            consecutive = record { run = copies_run copies es are whole.run; bounded = copies_bounded copies es are whole.bounded };
            placed = copies_placed copies es are;
          }));
      after = taken.0;
      taken = taken.1;
    }

-- the refusal of one of its items, by the gate
pub untaken : (gate : Option ℕ) (left : List EntryIndex) (t : Table) (asks between : List Ask) (batch : Batch) (seq offset : ℕ) (old new : Accessor) (e : Error)
    → finite.get old.tables t.region_id ≡ Some t → AreTableEntries t.entries → IsBatchMoving gate left t asks between batch
    → (AreTaken gate seq old.tables (placed_at (record { queue = Rewrite; seq = seq }) offset batch) → LacksRoom e)
    → IsNextRefused (Rewriting gate seq) (placed_at (record { queue = Rewrite; seq = seq }) offset batch) old new e
    → AreUntaken gate seq (placed_at (record { queue = Rewrite; seq = seq }) offset batch) old new e
untaken None left t asks between batch seq offset old new e there sound m room refused = refused
untaken (Some gate) left t asks between batch seq offset old new e there sound m room refused = (room (batch_is_taken gate left old.tables t asks between batch seq offset there sound m), refused)
