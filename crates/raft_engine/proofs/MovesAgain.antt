-- A batch of what was read of a region's rewritten records moves them within the rewrite queue, once it stands in its last file.
use Rattle.raft_engine.proofs.Common.{◌≡◌, ◌⊎◌, inl, inr, ℕ, cond, List, [], ◌∷◌, ◌++◌, map, Option, Some, None, refl, sym, ap, subst, ◌∙◌, append-nil, flat_map, AllByRecursion, EntryIndex, FileBlockHandle, FileId, Rewrite, with_lengths, Item, placed_item, with_offsets_from}
use Rattle.raft_engine.proofs.Common.{Batch, entry_place, pairs_up_to, Run, Step, table_of, Table, AreTableEntries, placed_in, RegionStep, Tables, pair_step, steps_of_items, steps_on, by_region, own_head, own_none, own_other, with_step, Rewriting, after_items, Ask, HaveContents}
use Rattle.raft_engine.proofs.Common.{placed_entries, AreCopies, AreOrdinary, MoveAgain, MovesAgain, entries_on, moving_items, put_items, run_of, place_at, placed_at, AreReadByBlocks, IsBatchMoving, batch_of, pairs_with}
use Rattle.std.specs.FinMap as finite
use Rattle.raft_base.specs.declared.compression_type.CompressionType.TheVariants as compressions
use Rattle.raft_table.specs.Steps.{Put}
use Rattle.raft_records.specs.declared.key_value.OpType.TheVariants as operations
use Rattle.raft_engine.proofs.FetchedLemmas.{IsRewrittenPair, all_rewritten}
use Rattle.raft_engine.proofs.MovingPuts.{are_copies, placed_moving, same_copies}
use Rattle.raft_engine.proofs.TakenMoves.{AreLow, again_taken}

-- ---- the entries that items put

puts_steps : (id : ℕ) (file : FileId) (p : List ℕ × List ℕ) (ps : List (List ℕ × List ℕ)) → AreOrdinary (p ∷ ps)
    → steps_of_items (put_items id file (p ∷ ps)) ≡ record { region = id; step = Put p.0 p.1 file } ∷ steps_of_items (put_items id file ps)
puts_steps id file p ps h = ap (λ b. with_step id (cond b None (pair_step operations.Put p.0 (Some p.1) (Some file))) (steps_of_items (put_items id file ps))) h.0

-- keys put have none
pub puts_none : (r id : ℕ) (file : FileId) (ps : List (List ℕ × List ℕ)) → AreOrdinary ps → entries_on r (put_items id file ps) ≡ []
puts_none r id file [] h = ap (λ (l : List Step). flat_map run_of l) (own_none r)
puts_none r id file (p ∷ ps) h =
    ap (λ (l : List RegionStep). flat_map run_of (steps_on r l)) (puts_steps id file p ps h) ∙ one (steps_of_items (put_items id file ps)) ∙ puts_none r id file ps h.1
  where
    put : RegionStep
    put = record { region = id; step = Put p.0 p.1 file }

    one : (steps : List RegionStep) → flat_map run_of (steps_on r (put ∷ steps)) ≡ flat_map run_of (steps_on r steps)
    one steps = elim (by_region r id) [
      | inl same ↦ ap (λ q. flat_map run_of (steps_on q (put ∷ steps))) same ∙ ap (λ (l : List Step). flat_map run_of l) (own_head put steps) ∙ ap (λ q. flat_map run_of (steps_on q steps)) (sym same)
      | inr other ↦ ap (λ (l : List Step). flat_map run_of l) (own_other r put steps other.0)
    ]

-- on its own region the run, on others none
copied_on : (content : EntryIndex → List ℕ) (tables : Tables) (id : ℕ) (t : Table) (file : FileId) (copies : List EntryIndex) (ps : List (List ℕ × List ℕ)) → AreOrdinary ps → finite.get tables id ≡ Some t
    → AreCopies content copies (placed_in Rewrite t.entries)
    → (r : ℕ) → (entries_on r (moving_items id file copies ps) ≡ []) ⊎ AreCopies content (entries_on r (moving_items id file copies ps)) (placed_in Rewrite (table_of r (finite.get tables r)).entries)
copied_on content tables id t file [] ps ordinary found copied r = inl (puts_none r id file ps ordinary)
copied_on content tables id t file (g ∷ gs) ps ordinary found copied r = elim (by_region r id) [
  | inl same ↦ inr (subst (λ q. AreCopies content (entries_on q (moving_items id file (g ∷ gs) ps)) (placed_in Rewrite (table_of q (finite.get tables q)).entries)) (sym same)
      (subst (λ l. AreCopies content l (placed_in Rewrite (table_of id (finite.get tables id)).entries)) (sym own)
      (subst (λ (o : Option Table). AreCopies content (g ∷ gs) (placed_in Rewrite (table_of id o).entries)) (sym found) copied)))
  | inr other ↦ inl (ap (λ (l : List Step). flat_map run_of l) (own_other r run rest other.0) ∙ puts_none r id file ps ordinary)
]
  where
    run : RegionStep
    run = record { region = id; step = Run (g ∷ gs) }

    rest : List RegionStep
    rest = steps_of_items (put_items id file ps)

    own : entries_on id (moving_items id file (g ∷ gs) ps) ≡ g ∷ gs
    own = ap (λ (l : List Step). flat_map run_of l) (own_head run rest) ∙ ap (λ l. g ∷ gs ++ l) (puts_none id id file ps ordinary) ∙ append-nil (g ∷ gs)

-- ---- the items

module _ (tables : Tables) (id : ℕ) (t : Table) (found : finite.get tables id ≡ Some t) (file : FileId) where
  abbrev Moves : Item → Type 0
  Moves item = MovesAgain file (table_of item.raft_group_id (finite.get tables item.raft_group_id)).keys item.content

  pub puts_again : (ps : List (List ℕ × List ℕ)) → AllByRecursion (IsRewrittenPair t.keys) ps → AllByRecursion Moves (put_items id file ps)
  puts_again [] all = tt
  puts_again (p ∷ ps) all =
      let f : IsRewrittenPair t.keys p = all.0 in (
        inr (record {
          stored = f.stored;
          there = ap (λ (o : Option Table). finite.get (table_of id o).keys p.0) found ∙ f.there;
          queue = f.queue;
          put = refl;
          value = ap (λ v. Some v) (sym f.value);
          in_file = refl;
        }),
        puts_again ps all.1,
      )

  all_again : (copies : List EntryIndex) (ps : List (List ℕ × List ℕ)) → AllByRecursion (IsRewrittenPair t.keys) ps → AllByRecursion Moves (moving_items id file copies ps)
  all_again [] ps all = puts_again ps all
  all_again (g ∷ gs) ps all = (tt, puts_again ps all)

-- ---- the batch

-- without a gate a batch has all that moves
pub record IsAllMoving (t : Table) (old asks : List Ask) (batch : Batch) : Type 0 where
  pub strings : List (List ℕ)
  pub read : AreReadByBlocks (placed_in Rewrite t.entries) strings old asks
  pub ordinary : AreOrdinary (pairs_up_to Rewrite None t.keys)
  pub is : batch ≡ batch_of t.region_id (placed_in Rewrite t.entries) strings (pairs_up_to Rewrite None t.keys)

pub all_in_part : (left : List EntryIndex) (t : Table) (old asks : List Ask) (batch : Batch) (m : IsBatchMoving None left t old asks batch) → m.part ≡ placed_in Rewrite t.entries
all_in_part left t old asks batch m = sym (m.next.split ∙ ap (λ (l : List EntryIndex). m.part ++ l) m.next.first ∙ append-nil m.part)

pub all_moving : (left : List EntryIndex) (t : Table) (old asks : List Ask) (batch : Batch) (m : IsBatchMoving None left t old asks batch)
    → (w : IsAllMoving t old asks batch) × (w.strings ≡ m.strings)
all_moving left t old asks batch m =
    let part : m.part ≡ placed_in Rewrite t.entries = all_in_part left t old asks batch m in
    let pairs : pairs_with left (pairs_up_to Rewrite None t.keys) ≡ pairs_up_to Rewrite None t.keys = ap (λ (l : List EntryIndex). pairs_with l (pairs_up_to Rewrite None t.keys)) m.next.first in (
      record {
        strings = m.strings;
        read = subst (λ (l : List EntryIndex). AreReadByBlocks l m.strings old asks) part m.read;
        ordinary = subst AreOrdinary pairs m.ordinary;
        is = m.is ∙ ap (λ (l : List EntryIndex). batch_of t.region_id l m.strings (pairs_with left (pairs_up_to Rewrite None t.keys))) part
            ∙ ap (λ (ps : List (List ℕ × List ℕ)). batch_of t.region_id (placed_in Rewrite t.entries) m.strings ps) pairs;
      },
      refl,
    )

abbrev its_copies : Table → (old asks : List Ask) (batch : Batch) → (seq offset : ℕ) → List (List ℕ) → List EntryIndex
its_copies t old asks batch seq offset strings =
    placed_entries (entry_place (place_at (record { queue = Rewrite; seq = seq }) offset batch) batch.entry_bytes) (with_offsets_from 0 (with_lengths (placed_in Rewrite t.entries) strings))

module _ (tables : Tables) (t : Table) (found : finite.get tables t.region_id ≡ Some t) (old asks : List Ask) (batch : Batch) (m : IsAllMoving t old asks batch) (seq offset : ℕ) where
  abbrev to : FileId
  to = record { queue = Rewrite; seq = seq }

  its_items : placed_at to offset batch ≡ moving_items t.region_id to (its_copies t old asks batch seq offset m.strings) (pairs_up_to Rewrite None t.keys)
  its_items =
      let place : FileBlockHandle = entry_place (place_at to offset batch) batch.entry_bytes in
      ap (λ (b : Batch). map (placed_item place compressions.None) b.items) m.is ∙ placed_moving place t.region_id (placed_in Rewrite t.entries) m.strings (pairs_up_to Rewrite None t.keys) m.read.reads m.read.have

-- it moves records of the table for every content by which both its entries and those that were read have the bytes that were read
pub move_again : (content : EntryIndex → List ℕ) (tables : Tables) (t : Table) → finite.get tables t.region_id ≡ Some t → (old asks : List Ask) (batch : Batch) (m : IsAllMoving t old asks batch) (seq offset : ℕ)
    → HaveContents content (placed_in Rewrite t.entries) m.strings → HaveContents content (its_copies t old asks batch seq offset m.strings) m.strings
    → MoveAgain content tables (record { queue = Rewrite; seq = seq }) (placed_at (record { queue = Rewrite; seq = seq }) offset batch)
move_again content tables t found old asks batch m seq offset have put =
    let file : FileId = record { queue = Rewrite; seq = seq } in
    let place : FileBlockHandle = entry_place (place_at file offset batch) batch.entry_bytes in
    let copies : List EntryIndex = its_copies t old asks batch seq offset m.strings in
    let ps : List (List ℕ × List ℕ) = pairs_up_to Rewrite None t.keys in
    subst (MoveAgain content tables file) (sym (its_items tables t found old asks batch m seq offset)) (record {
      contents = all_again tables t.region_id t found file copies ps (all_rewritten t.keys);
      copied = copied_on content tables t.region_id t file copies ps m.ordinary found (are_copies content place 0 (placed_in Rewrite t.entries) m.strings refl have put);
    })

-- the tables take it, whatever the contents, if their rewritten pairs are in files up to this one
pub again_batch_taken : (tables : Tables) (t : Table) (old asks : List Ask) (batch : Batch) (seq offset : ℕ) → finite.get tables t.region_id ≡ Some t → AreTableEntries t.entries → AreLow seq t.keys → IsAllMoving t old asks batch
    → (new : Tables) × (after_items (Rewriting None seq) tables (placed_at (record { queue = Rewrite; seq = seq }) offset batch) ≡ Some new)
again_batch_taken tables t old asks batch seq offset found sound low m =
    let place : FileBlockHandle = entry_place (place_at (record { queue = Rewrite; seq = seq }) offset batch) batch.entry_bytes in
    let taken = again_taken seq t.region_id tables t found sound low (pairs_up_to Rewrite None t.keys) m.ordinary (all_rewritten t.keys) (its_copies t old asks batch seq offset m.strings)
    (same_copies place 0 (placed_in Rewrite t.entries) m.strings m.read.reads refl m.read.have) in
    (taken.0, ap (after_items (Rewriting None seq) tables) (its_items tables t found old asks batch m seq offset) ∙ taken.1)
