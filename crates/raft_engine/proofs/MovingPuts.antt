-- A batch of what was read of a region's records moves them, once it stands in a file of the rewrite queue.
use Rattle.raft_engine.proofs.Common.{◌≡◌, ◌≢◌, ℕ, ◌+◌, true, List, [], ◌∷◌, map, length, Option, Some, refl, sym, ap, ◌∙◌, append-nil, AllZip, concat, EntryIndex, FileBlockHandle, FileId, Append, Rewrite, Version, signature_of, with_lengths, entries_item, placed_item}
use Rattle.raft_engine.proofs.Common.{with_offsets_from, Batch, entry_place, appended_before, pairs_up_to, Table, AreTableEntries, is_placed_in, Tables, Rewriting, after_items, Ask, Put, acts_on, ask, begun, AddedEntriesAreTold, AreBothTold, HaveContents, KeepsBytes}
use Rattle.raft_engine.proofs.Common.{ReadEntryIsTold, placed_entries, AreRisingFrom, numbers, AreCopies, IsMovingBatch, moving_items, put_item, put_items, bytes_for, event_at, place_at, placed_at, IsLastFile, IsReadAmong, IsBatchMoving, batch_of, moving_pairs, pairs_with}
use Rattle.raft_engine.proofs.Common.{puts_of}
use Rattle.std.specs.FinMap as finite
use Rattle.raft_base.specs.declared.compression_type.CompressionType.TheVariants as compressions
use Rattle.raft_engine.proofs.NextParts.{back_of, left_before, part_may_move, parted, with_fetched}
use Rattle.raft_engine.proofs.TakenMoves.{moving_taken}
use Rattle.raft_engine.proofs.ToldReads.{entries_have}

placed_at_rewrite : (place : FileBlockHandle) (e : EntryIndex) → place.id.queue ≡ Rewrite → is_placed_in Rewrite (record e { entries = Some place; compression_type = compressions.None }) ≡ true
unfolding is_placed_in
placed_at_rewrite place e q = rw q refl

-- the entries of the batch that was put are copies of those that were read
pub are_copies : (content : EntryIndex → List ℕ) (place : FileBlockHandle) (s : ℕ) (es : List EntryIndex) (strings : List (List ℕ)) → place.id.queue ≡ Rewrite
    → HaveContents content es strings → HaveContents content (placed_entries place (with_offsets_from s (with_lengths es strings))) strings
    → AreCopies content (placed_entries place (with_offsets_from s (with_lengths es strings))) es
are_copies content place s [] strings q h k = tt
are_copies content place s (e ∷ es) (bytes ∷ strings) q h k = (
  (refl, placed_at_rewrite place (record e { entry_len = length bytes; entry_offset = s }) q, k.0 ∙ sym h.0),
  are_copies content place (s + length bytes) es strings q h.1 k.1,
)
are_copies content place s (e ∷ es) [] q h k = absurd h

pub placed_puts : (place : FileBlockHandle) (id : ℕ) (ps : List (List ℕ × List ℕ)) → map (placed_item place compressions.None) (puts_of id ps) ≡ put_items id place.id ps
placed_puts place id [] = refl
placed_puts place id (p ∷ ps) = ap (λ l. put_item id place.id p ∷ l) (placed_puts place id ps)

-- the items of the batch at its place
pub placed_moving : (place : FileBlockHandle) (id : ℕ) (es : List EntryIndex) (strings : List (List ℕ)) (ps : List (List ℕ × List ℕ)) (reads : List Ask) → AllZip (IsReadAmong reads) es strings
    → map (placed_item place compressions.None) (batch_of id es strings ps).items ≡ moving_items id place.id (placed_entries place (with_offsets_from 0 (with_lengths es strings))) ps
placed_moving place id [] strings ps reads h = placed_puts place id ps
placed_moving place id (e ∷ es) (bytes ∷ strings) ps reads h =
    ap (λ l. placed_item place compressions.None (entries_item id (with_offsets_from 0 (with_lengths (e ∷ es) (bytes ∷ strings)))) ∷ l) (placed_puts place id ps)
placed_moving place id (e ∷ es) [] ps reads h = absurd h

-- the batch moves records of the table for every content by which both its entries and those that were read have the bytes that were read
pub is_moving : (content : EntryIndex → List ℕ) (gate : ℕ) (left : List EntryIndex) (t : Table) (old asks : List Ask) (batch : Batch) (m : IsBatchMoving (Some gate) left t old asks batch) (seq offset : ℕ)
    → HaveContents content m.part m.strings
    → HaveContents content (placed_entries (entry_place (place_at (record { queue = Rewrite; seq = seq }) offset batch) batch.entry_bytes) (with_offsets_from 0 (with_lengths m.part m.strings))) m.strings
    → IsMovingBatch content gate t.region_id t (event_at (record { queue = Rewrite; seq = seq }) offset batch)
is_moving content gate left t old asks batch m seq offset h k =
    let ps : List (List ℕ × List ℕ) = pairs_with left (pairs_up_to Append (Some gate) t.keys) in
    let id : FileId = record { queue = Rewrite; seq = seq } in
    let place : FileBlockHandle = entry_place (place_at id offset batch) batch.entry_bytes in
    record {
      middle = m.part;
      back = back_of gate left t.entries;
      split = parted gate m.part left t.entries m.next.split;
      gated = part_may_move gate m.part left t.entries m.next.split;
      copies = placed_entries place (with_offsets_from 0 (with_lengths m.part m.strings));
      copied = are_copies content place 0 m.part m.strings refl h k;
      pairs = ps;
      fetched = with_fetched gate left t.keys;
      ordinary = m.ordinary;
      items = ap (λ (b : Batch). map (placed_item place compressions.None) b.items) m.is ∙ placed_moving place t.region_id m.part m.strings ps m.read.reads m.read.have;
    }

-- ---- by what was asked

module _
    (keep : (asks : List Ask) (a : Ask) (content : EntryIndex → List ℕ) → KeepsBytes a.act → AreBothTold (a ∷ asks) content → AreBothTold asks content)
    (added : AddedEntriesAreTold) (read : ReadEntryIsTold) where
  -- the entries of the batch that was put have the bytes that were read, too
  put_told : (version : Version) (asks : List Ask) (seq first : ℕ) (bytes : List ℕ) (batch : Batch) (content : EntryIndex → List ℕ) (id : ℕ) (es : List EntryIndex) (strings : List (List ℕ)) (ps : List (List ℕ × List ℕ))
      → IsLastFile Rewrite asks seq bytes → AreRisingFrom first (numbers (begun (acts_on Rewrite asks))) → batch.items ≢ [] → batch ≡ batch_of id es strings ps → HaveContents content es strings
      → AreBothTold (ask Rewrite (Put (bytes_for (record { id = record { queue = Rewrite; seq = seq }; version = version }) batch)) ∷ asks) content
      → HaveContents content (placed_entries (entry_place (place_at (record { queue = Rewrite; seq = seq }) (length bytes) batch) batch.entry_bytes) (with_offsets_from 0 (with_lengths es strings))) strings
  put_told version asks seq first bytes batch content id [] strings ps last rising some is have told = tt
  put_told version asks seq first bytes batch content id (e ∷ es) strings ps last rising some is have told =
      added Rewrite (place_at (record { queue = Rewrite; seq = seq }) (length bytes) batch) batch.entry_bytes content
      (record {
        signature = signature_of (record { id = record { queue = Rewrite; seq = seq }; version = version });
        items = batch.items;
        some = some;
        acts = acts_on Rewrite asks;
        closed = last.closed;
        last = (seq, bytes);
        first = first;
        files = last.files;
        rising = rising;
        file = refl;
        behind = refl;
        told = told.1;
      })
      (e ∷ es) strings [] [] (ap (λ (b : Batch). b.entry_bytes) is ∙ sym (append-nil (concat strings)))

  -- so both its entries and those that were read have the bytes that were read, by every content that is told once it is put
  pub contents_told : (version : Version) (old asks : List Ask) (seq first : ℕ) (bytes : List ℕ) (gate : Option ℕ) (left : List EntryIndex) (t : Table) (batch : Batch)
      → IsLastFile Rewrite asks seq bytes → AreRisingFrom first (numbers (begun (acts_on Rewrite asks))) → batch.items ≢ [] → (m : IsBatchMoving gate left t old asks batch)
      → (content : EntryIndex → List ℕ) → AreBothTold (ask Rewrite (Put (bytes_for (record { id = record { queue = Rewrite; seq = seq }; version = version }) batch)) ∷ asks) content
      → HaveContents content m.part m.strings
      × HaveContents content (placed_entries (entry_place (place_at (record { queue = Rewrite; seq = seq }) (length bytes) batch) batch.entry_bytes) (with_offsets_from 0 (with_lengths m.part m.strings))) m.strings
  contents_told version old asks seq first bytes gate left t batch last rising some m content told =
      let es : List EntryIndex = m.part in
      let before : AreBothTold asks content = keep asks (ask Rewrite (Put (bytes_for (record { id = record { queue = Rewrite; seq = seq }; version = version }) batch))) content tt told in
      let have : HaveContents content es m.strings = entries_have read m.read.reads old asks m.read.asked content before es m.strings m.read.have in
      (have, put_told version asks seq first bytes batch content t.region_id es m.strings (pairs_with left (moving_pairs gate t.keys)) last rising some m.is have told)

-- ---- whatever the contents

-- the entries of the batch are copies of those that were read, where contents are all the same
pub same_copies : (place : FileBlockHandle) (s : ℕ) (es : List EntryIndex) (strings : List (List ℕ)) (reads : List Ask) → place.id.queue ≡ Rewrite → AllZip (IsReadAmong reads) es strings
    → AreCopies (λ e. []) (placed_entries place (with_offsets_from s (with_lengths es strings))) es
same_copies place s [] strings reads q h = tt
same_copies place s (e ∷ es) (bytes ∷ strings) reads q h = (
  (refl, placed_at_rewrite place (record e { entry_len = length bytes; entry_offset = s }) q, refl),
  same_copies place (s + length bytes) es strings reads q h.1,
)
same_copies place s (e ∷ es) [] reads q h = absurd h

-- the tables take the batch
pub batch_taken : (gate : ℕ) (left : List EntryIndex) (tables : Tables) (t : Table) (old asks : List Ask) (batch : Batch) (seq offset : ℕ) → finite.get tables t.region_id ≡ Some t → AreTableEntries t.entries → IsBatchMoving (Some gate) left t old asks batch
    → (new : Tables) × (after_items (Rewriting (Some gate) seq) tables (placed_at (record { queue = Rewrite; seq = seq }) offset batch) ≡ Some new)
    × (u : Table) × (finite.get new t.region_id ≡ Some u) × (left ≡ appended_before gate u.entries)
batch_taken gate left tables t old asks batch seq offset there sound m =
    let es : List EntryIndex = m.part in
    let ps : List (List ℕ × List ℕ) = pairs_with left (pairs_up_to Append (Some gate) t.keys) in
    let place : FileBlockHandle = entry_place (place_at (record { queue = Rewrite; seq = seq }) offset batch) batch.entry_bytes in
    let copies : List EntryIndex = placed_entries place (with_offsets_from 0 (with_lengths es m.strings)) in
    let back : List EntryIndex = back_of gate left t.entries in
    let split = parted gate es left t.entries m.next.split in
    let are = same_copies place 0 es m.strings m.read.reads refl m.read.have in
    let taken = moving_taken gate seq t.region_id tables t there sound ps m.ordinary (with_fetched gate left t.keys) copies es back
    split (part_may_move gate es left t.entries m.next.split) are in
    let items : placed_at (record { queue = Rewrite; seq = seq }) offset batch ≡ moving_items t.region_id (record { queue = Rewrite; seq = seq }) copies ps =
    ap (λ (b : Batch). map (placed_item place compressions.None) b.items) m.is ∙ placed_moving place t.region_id es m.strings ps m.read.reads m.read.have in (
      taken.0,
      ap (after_items (Rewriting (Some gate) seq) tables) items ∙ taken.1,
      taken.2,
      taken.3,
      left_before gate es left t.entries copies taken.2.entries are m.next.split taken.4,
    )
