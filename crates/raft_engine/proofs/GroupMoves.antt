-- The batches of an atomic group that move a region's rewritten records.
use Rattle.raft_engine.proofs.Common.{◌≡◌, inl, inr, ℕ, zero, suc, ◌+◌, ◌<◌, true, false, eqb, List, [], ◌∷◌, ◌++◌, Option, Some, None, length, map, take, refl, sym, ap, ◌∙◌, subst, append_assoc, append-nil, length-append, arith, flat_map, flat_map-append, AllByRecursion, AllZip}
use Rattle.raft_engine.proofs.Common.{concat, EntryIndex, FileBlockHandle, FileId, LogFileContext, Append, Rewrite, Version, signature_of, with_lengths, group_marker_item, is_reserved, marker_byte, reserved_key, status_byte, Item, entries, placed_item, with_offsets_from, Batch}
use Rattle.raft_engine.proofs.Common.{encoded_length, entry_place, AtomicGroupStatus, Middle, End, log_batch_length, reserved_test, RegionStep, Tables, steps_of_items, steps_on, by_region, own-append, own_none, own_other, Step, table_of, Table, placed_in, Rewriting, after_items}
use Rattle.raft_engine.proofs.Common.{Ask, Put, acts_on, ask, put_behind, last_of, AreCopies, AreOrdinary, MoveAgain, MovesAgain, entries_on, put_items, run_of, copies-append, entries_pair, entries_run, steps-append, AddedEntriesAreTold, AreBothTold, HaveContents, KeepsBytes}
use Rattle.raft_engine.proofs.Common.{ReadEntryIsTold, placed_entries, bytes_for, place_at, placed_at, AreGroupBatchesStored, BegunGroupsAreStored, EndedGroupsArePut, EndedGroupsAreStored, GroupsGoOnStored, IsGroupBegun, IsOfGroup, ArePartsRead, EntriesPart, IsGroupMoving}
use Rattle.raft_engine.proofs.Common.{batches_behind, group_batches, marker_batch, part_batch, placed_from, puts_asks, IsLastFile, AreSynced, AreReads, IsReadAmong, moving_pairs, puts_of, with_puts, AreKeptStored, Bases, IsWritableBatch}
use Rattle.std.specs.FinMap as finite
use Rattle.raft_base.specs.declared.compression_type.CompressionType.TheVariants as compressions
use Rattle.raft_records.specs.declared.key_value.OpType.TheVariants as operations
use Rattle.raft_records.specs.declared.atomic_group.AtomicGroupStatus.TheVariants.{Begin}
use Rattle.raft_engine.proofs.FetchedLemmas.{all_rewritten}
use Rattle.raft_engine.proofs.MovedLemmas.{put_unmarked}
use Rattle.raft_engine.proofs.MovesAgain.{puts_again, puts_none}
use Rattle.raft_engine.proofs.MovingPuts.{are_copies, placed_puts}
use Rattle.raft_engine.proofs.ToldReads.{entries_have}

all_both : {A : Type 0} (P : A → Type 0) (xs ys : List A) → AllByRecursion P xs → AllByRecursion P ys → AllByRecursion P (xs ++ ys)
all_both P [] ys a b = b
all_both P (x ∷ xs) ys a b = (a.0, all_both P xs ys a.1 b)

on_append : (r : ℕ) (a b : List Item) → entries_on r (a ++ b) ≡ entries_on r a ++ entries_on r b
on_append r a b =
    ap (λ (l : List RegionStep). flat_map run_of (steps_on r l)) (steps-append a b)
    ∙ ap (λ (l : List Step). flat_map run_of l) (own-append r (steps_of_items a) (steps_of_items b))
    ∙ flat_map-append run_of (steps_on r (steps_of_items a)) (steps_on r (steps_of_items b))

on_none : (r : ℕ) → entries_on r [] ≡ []
on_none r = ap (λ (l : List Step). flat_map run_of l) (own_none r)

-- the last file, with more bytes
pub last_more : (asks : List Ask) (seq : ℕ) (bytes more : List ℕ) → IsLastFile Rewrite asks seq bytes → IsLastFile Rewrite (ask Rewrite (Put more) ∷ asks) seq (bytes ++ more)
last_more asks seq bytes more l = record { closed = l.closed; files = ap (put_behind more) l.files ∙ last_of (λ old. old ++ more) l.closed (seq, bytes) }

reserved : is_reserved reserved_key ≡ true
reserved = (reserved_test reserved_key).1 refl

puts_plain : (id : ℕ) (ps : List (List ℕ × List ℕ)) → AreOrdinary ps → AllByRecursion (λ (item : Item). marker_byte item.content ≡ None) (puts_of id ps)
puts_plain id [] h = tt
puts_plain id (p ∷ ps) h = (put_unmarked p.0 p.1 h.0, puts_plain id ps h.1)

-- as many byte strings as entries
abbrev AreAsMany : List EntryIndex → List (List ℕ) → Type 0
AreAsMany es strings = AllZip (λ (e : EntryIndex) (bytes : List ℕ). Unit {0}) es strings

as_many : (reads : List Ask) (es : List EntryIndex) (strings : List (List ℕ)) → AllZip (IsReadAmong reads) es strings → AreAsMany es strings
as_many reads [] [] h = tt
as_many reads (e ∷ es) (bytes ∷ strings) h = (tt, as_many reads es strings h.1)
as_many reads [] (bytes ∷ strings) h = absurd h
as_many reads (e ∷ es) [] h = absurd h

-- ---- batches that are of a group

begin_of : (group : ℕ) → IsOfGroup group Begin (marker_batch group Begin)
begin_of group = record { rest = []; first = refl; others = tt }

part_of : (group id : ℕ) (es : List EntryIndex) (strings : List (List ℕ)) → IsOfGroup group Middle (part_batch group id (es, strings))
part_of group id [] strings = record { rest = []; first = refl; others = tt }
part_of group id (e ∷ es) strings = record { rest = _; first = refl; others = (refl, tt) }

end_of_group : (group id : ℕ) (ps : List (List ℕ × List ℕ)) → AreOrdinary ps → IsOfGroup group End (with_puts (marker_batch group End) id ps)
end_of_group group id ps ordinary = record { rest = puts_of id ps; first = refl; others = puts_plain id ps ordinary }

module _
    (keep : (asks : List Ask) (a : Ask) (content : EntryIndex → List ℕ) → KeepsBytes a.act → AreBothTold (a ∷ asks) content → AreBothTold asks content)
    (added : AddedEntriesAreTold) (begins : BegunGroupsAreStored) (goes_on : GroupsGoOnStored) (ends : EndedGroupsAreStored) (is_put : EndedGroupsArePut)
    (version : Version) (base : Bases) (tables : Tables) (t : Table) (found : finite.get tables t.region_id ≡ Some t) (between : List Ask) (group seq : ℕ)
    (ps : List (List ℕ × List ℕ)) (ordinary : AreOrdinary ps) (all : moving_pairs None t.keys ≡ ps) where
  abbrev id : FileId
  id = record { queue = Rewrite; seq = seq }

  abbrev file : LogFileContext
  file = record { id = id; version = version }

  abbrev put_of : Batch → Ask
  put_of b = ask Rewrite (Put (bytes_for file b))

  abbrev place_of : ℕ → Batch → FileBlockHandle
  place_of offset b = entry_place (place_at id offset b) b.entry_bytes

  abbrev Moves : Item → Type 0
  Moves item = MovesAgain id (table_of item.raft_group_id (finite.get tables item.raft_group_id)).keys item.content

  -- the entries of a part have the bytes that were read, as many as there are
  abbrev IsKnown : EntriesPart → Type 0
  IsKnown part = AreAsMany part.0 part.1 × ((content : EntryIndex → List ℕ) → AreBothTold between content → HaveContents content part.0 part.1)

  -- the group is begun, and has copies of these entries
  pub record IsUnderway (asks : List Ask) (bytes : List ℕ) (items : List Item) (done : List EntryIndex) : Type 0 where
    pub begun : IsGroupBegun version asks base tables group seq items
    pub last : IsLastFile Rewrite asks seq bytes
    pub synced : AreSynced (acts_on Append asks)
    pub back : (content : EntryIndex → List ℕ) → AreBothTold asks content → AreBothTold between content
    pub moves : AllByRecursion Moves items
    pub own : (content : EntryIndex → List ℕ) → AreBothTold asks content → AreCopies content (entries_on t.region_id items) done
    pub others : (r : ℕ) → eqb r t.region_id ≡ false → entries_on r items ≡ []

  -- a marker alone has no entries
  none_in_marker : (r : ℕ) (status : AtomicGroupStatus) (place : FileBlockHandle) (items : List Item) → entries_on r (placed_item place compressions.None (group_marker_item group status) ∷ items) ≡ entries_on r items
  none_in_marker r status place items = entries_pair r group (record { op_type = operations.Put; key = reserved_key; value = Some (status_byte status ∷ []); file_id = Some place.id }) items

  -- ---- the Begin

  at_begin : (bytes : List ℕ) → IsLastFile Rewrite between seq bytes → AreSynced (acts_on Append between) → IsWritableBatch (marker_batch group Begin) → AreKeptStored version between base [] tables
      → IsUnderway (put_of (marker_batch group Begin) ∷ between) (bytes ++ bytes_for file (marker_batch group Begin)) (placed_at id (length bytes) (marker_batch group Begin)) []
  at_begin bytes last synced w k = record {
    begun = begins version between base tables seq bytes group (marker_batch group Begin) last w (begin_of group) k;
    last = last_more between seq bytes (bytes_for file (marker_batch group Begin)) last;
    synced = synced;
    back = λ content told. keep between (put_of (marker_batch group Begin)) content tt told;
    moves = (inl reserved, tt);
    own = λ content told. subst (λ l. AreCopies content l []) (sym (none_in_marker t.region_id Begin (place_of (length bytes) (marker_batch group Begin)) [] ∙ on_none t.region_id)) tt;
    others = λ r o. none_in_marker r Begin (place_of (length bytes) (marker_batch group Begin)) [] ∙ on_none r;
  }

  -- ---- a part

  -- what its items are, at a place
  abbrev part_items : (place : FileBlockHandle) (es : List EntryIndex) (strings : List (List ℕ)) → List Item
  part_items place [] strings = []
  part_items place (e ∷ es) strings = record { raft_group_id = t.region_id; content = entries (placed_entries place (with_offsets_from 0 (with_lengths (e ∷ es) strings))) } ∷ []

  part_placed : (offset : ℕ) (es : List EntryIndex) (strings : List (List ℕ)) → AreAsMany es strings
      → (place : FileBlockHandle) → map (placed_item place compressions.None) (part_batch group t.region_id (es, strings)).items ≡ placed_item place compressions.None (group_marker_item group Middle) ∷ part_items place es strings
  part_placed offset [] strings h place = refl
  part_placed offset (e ∷ es) (bytes ∷ strings) h place = refl
  part_placed offset (e ∷ es) [] h place = absurd h

  abbrev copies_of : FileBlockHandle → List EntryIndex → List (List ℕ) → List EntryIndex
  copies_of place es strings = placed_entries place (with_offsets_from 0 (with_lengths es strings))

  on_part : (place : FileBlockHandle) (es : List EntryIndex) (strings : List (List ℕ)) → AreAsMany es strings → entries_on t.region_id (part_items place es strings) ≡ copies_of place es strings
  on_part place [] strings h = on_none t.region_id
  on_part place (e ∷ es) (bytes ∷ strings) h =
      entries_run t.region_id t.region_id _ _ [] refl ∙ ap (λ (l : List EntryIndex). copies_of place (e ∷ es) (bytes ∷ strings) ++ l) (on_none t.region_id) ∙ append-nil (copies_of place (e ∷ es) (bytes ∷ strings))
  on_part place (e ∷ es) [] h = absurd h

  on_others : (r : ℕ) (place : FileBlockHandle) (es : List EntryIndex) (strings : List (List ℕ)) → AreAsMany es strings → eqb r t.region_id ≡ false → entries_on r (part_items place es strings) ≡ []
  on_others r place [] strings h o = on_none r
  on_others r place (e ∷ es) (bytes ∷ strings) h o = ap (λ (l : List Step). flat_map run_of l) (own_other r _ [] o ∙ own_none r)
  on_others r place (e ∷ es) [] h o = absurd h

  part_moves : (place : FileBlockHandle) (es : List EntryIndex) (strings : List (List ℕ)) → AreAsMany es strings → AllByRecursion Moves (part_items place es strings)
  part_moves place [] strings h = tt
  part_moves place (e ∷ es) (bytes ∷ strings) h = (tt, tt)
  part_moves place (e ∷ es) [] h = absurd h

  -- its entries have the bytes that were read
  part_told : (asks : List Ask) (bytes : List ℕ) (items : List Item) (done : List EntryIndex) (u : IsUnderway asks bytes items done) (es : List EntryIndex) (strings : List (List ℕ))
      → IsWritableBatch (part_batch group t.region_id (es, strings))
      → (content : EntryIndex → List ℕ) → AreBothTold (put_of (part_batch group t.region_id (es, strings)) ∷ asks) content
      → HaveContents content es strings → HaveContents content (copies_of (place_of (length bytes) (part_batch group t.region_id (es, strings))) es strings) strings
  part_told asks bytes items done u [] strings w content told have = have
  part_told asks bytes items done u (e ∷ es) strings w content told have =
      let batch = part_batch group t.region_id ((e ∷ es), strings) in
      added Rewrite (place_at id (length bytes) batch) batch.entry_bytes content
      (record {
        signature = signature_of file;
        items = batch.items;
        some = w.some;
        acts = acts_on Rewrite asks;
        closed = u.last.closed;
        last = (seq, bytes);
        first = u.begun.stored.rewrite_done.done.done.first;
        files = u.last.files;
        rising = u.begun.stored.rewrite_done.done.done.rising;
        file = refl;
        behind = refl;
        told = told.1;
      })
      (e ∷ es) strings [] [] (sym (append-nil (concat strings)))

  at_part : (asks : List Ask) (bytes : List ℕ) (items : List Item) (done : List EntryIndex) → IsUnderway asks bytes items done → (es : List EntryIndex) (strings : List (List ℕ)) → IsKnown (es, strings)
      → IsWritableBatch (part_batch group t.region_id (es, strings))
      → IsUnderway (put_of (part_batch group t.region_id (es, strings)) ∷ asks) (bytes ++ bytes_for file (part_batch group t.region_id (es, strings)))
      (items ++ placed_at id (length bytes) (part_batch group t.region_id (es, strings))) (done ++ es)
  at_part asks bytes items done u es strings known w = record {
    begun = goes_on version asks base tables seq bytes group batch items u.last w (part_of group t.region_id es strings) u.begun;
    last = last_more asks seq bytes (bytes_for file batch) u.last;
    synced = u.synced;
    back = λ content told. u.back content (keep asks (put_of batch) content tt told);
    moves = all_both Moves items placed u.moves (subst (AllByRecursion Moves) (sym is) (inl reserved, part_moves place es strings known.0));
    own = λ content told.
        let before = keep asks (put_of batch) content tt told in
        let have = known.1 content (u.back content before) in
        subst (λ l. AreCopies content l (done ++ es)) (sym (on_append t.region_id items placed))
        (copies-append content (entries_on t.region_id items) (entries_on t.region_id placed) done es (u.own content before)
        (subst (λ l. AreCopies content l es) (sym own_placed) (are_copies content place 0 es strings refl have (part_told asks bytes items done u es strings w content told have))));
    others = λ r o.
        on_append r items placed ∙ ap (λ (l : List EntryIndex). l ++ entries_on r placed) (u.others r o)
        ∙ ap (λ (l : List Item). entries_on r l) is ∙ none_in_marker r Middle place (part_items place es strings) ∙ on_others r place es strings known.0 o;
  }
    where
      batch : Batch
      batch = part_batch group t.region_id (es, strings)

      place : FileBlockHandle
      place = place_of (length bytes) batch

      placed : List Item
      placed = placed_at id (length bytes) batch

      is : placed ≡ placed_item place compressions.None (group_marker_item group Middle) ∷ part_items place es strings
      is = part_placed (length bytes) es strings known.0 place

      own_placed : entries_on t.region_id placed ≡ copies_of place es strings
      own_placed = ap (λ (l : List Item). entries_on t.region_id l) is ∙ none_in_marker t.region_id Middle place (part_items place es strings) ∙ on_part place es strings known.0

  -- ---- the End

  abbrev last_batch : Batch
  last_batch = with_puts (marker_batch group End) t.region_id ps

  module _ (asks : List Ask) (bytes : List ℕ) (items : List Item) (u : IsUnderway asks bytes items (placed_in Rewrite t.entries)) (w : IsWritableBatch last_batch) where
    abbrev end_place : FileBlockHandle
    end_place = place_of (length bytes) last_batch

    abbrev end_items : List Item
    end_items = placed_at id (length bytes) last_batch

    end_is : end_items ≡ placed_item end_place compressions.None (group_marker_item group End) ∷ put_items t.region_id id ps
    end_is = ap (λ (l : List Item). placed_item end_place compressions.None (group_marker_item group End) ∷ l) (placed_puts end_place t.region_id ps)

    none_at_end : (r : ℕ) → entries_on r end_items ≡ []
    none_at_end r = ap (λ (l : List Item). entries_on r l) end_is ∙ none_in_marker r End end_place (put_items t.region_id id ps) ∙ puts_none r t.region_id id ps ordinary

    on_all : (r : ℕ) → entries_on r (items ++ end_items) ≡ entries_on r items
    on_all r = on_append r items end_items ∙ ap (λ (l : List EntryIndex). entries_on r items ++ l) (none_at_end r) ∙ append-nil (entries_on r items)

    all_move : (content : EntryIndex → List ℕ) → AreBothTold (put_of last_batch ∷ asks) content → MoveAgain content tables id (items ++ end_items)
    all_move content told = record {
      contents = all_both Moves items end_items u.moves (subst (AllByRecursion Moves) (sym end_is) (inl reserved, puts_again tables t.region_id t found id ps (subst (AllByRecursion _) all (all_rewritten t.keys))));
      copied = λ r. elim (by_region r t.region_id) [
        | inl same ↦ inr (subst (λ q. AreCopies content (entries_on q (items ++ end_items)) (placed_in Rewrite (table_of q (finite.get tables q)).entries)) (sym same)
            (subst (λ l. AreCopies content l (placed_in Rewrite (table_of t.region_id (finite.get tables t.region_id)).entries)) (sym (on_all t.region_id))
            (subst (λ (o : Option Table). AreCopies content (entries_on t.region_id items) (placed_in Rewrite (table_of t.region_id o).entries)) (sym found)
            (u.own content (keep asks (put_of last_batch) content tt told)))))
        | inr other ↦ inl (on_all r ∙ u.others r other.0)
      ];
    }

    end_put : (new : Tables) × AreKeptStored version (put_of last_batch ∷ asks) base [] new
    end_put = is_put version asks base tables seq bytes group last_batch items u.synced u.last w (end_of_group group t.region_id ps ordinary) u.begun all_move

    end_moved : (new : Tables) → after_items (Rewriting None seq) tables (items ++ end_items) ≡ Some new → AreKeptStored version (put_of last_batch ∷ asks) base [] new
    end_moved new taken = ends version asks base tables new seq bytes group last_batch items u.synced u.last w (end_of_group group t.region_id ps ordinary) u.begun taken all_move

  -- ---- one after another

  -- where a batch more ends
  ends_at : (bytes : List ℕ) (batch : Batch) → length (bytes ++ bytes_for file batch) ≡ length bytes + encoded_length batch.items batch.entry_bytes
  ends_at bytes batch = length-append bytes (bytes_for file batch) ∙ ap (λ n. length bytes + n) (log_batch_length (signature_of file) batch.items batch.entry_bytes)

  -- what batches behind others make of what is stored
  pub record AreStoredBehind (asks : List Ask) (bytes : List ℕ) (items : List Item) (batches : List Batch) : Type 0 where
    pub begun : (n : ℕ) → n < length batches → AreKeptStored version (puts_asks file (take n batches) asks) base [] tables
    pub put : (new : Tables) × AreKeptStored version (puts_asks file batches asks) base [] new
    pub moved : (new : Tables) → after_items (Rewriting None seq) tables (items ++ placed_from id (length bytes) batches) ≡ Some new → AreKeptStored version (puts_asks file batches asks) base [] new

  -- with a batch in front of them
  one_more : (asks : List Ask) (bytes : List ℕ) (items : List Item) (batch : Batch) (batches : List Batch) → AreKeptStored version asks base [] tables
      → AreStoredBehind (put_of batch ∷ asks) (bytes ++ bytes_for file batch) (items ++ placed_at id (length bytes) batch) batches → AreStoredBehind asks bytes items (batch ∷ batches)
  one_more asks bytes items batch batches k s = record {
    begun = first;
    put = s.put;
    moved = λ new taken. s.moved new (ap (after_items (Rewriting None seq) tables) (
        ap (λ (n : ℕ). (items ++ placed_at id (length bytes) batch) ++ placed_from id n batches) (ends_at bytes batch)
        ∙ append_assoc items (placed_at id (length bytes) batch) (placed_from id (length bytes + encoded_length batch.items batch.entry_bytes) batches)) ∙ taken);
  }
    where
      first : (n : ℕ) → n < suc (length batches) → AreKeptStored version (puts_asks file (take n (batch ∷ batches)) asks) base [] tables
      first zero low = k
      first (suc n) low = s.begun n (omega (arith, low))

  walk : (parts : List EntriesPart) (asks : List Ask) (bytes : List ℕ) (items : List Item) (done : List EntryIndex) → IsUnderway asks bytes items done
      → AllByRecursion IsKnown parts → AllByRecursion IsWritableBatch (batches_behind group t.region_id parts ps)
      → done ++ flat_map (λ (part : EntriesPart). part.0) parts ≡ placed_in Rewrite t.entries → AreStoredBehind asks bytes items (batches_behind group t.region_id parts ps)
  walk [] asks bytes items done u zips w e =
      let u' : IsUnderway asks bytes items (placed_in Rewrite t.entries) = subst (IsUnderway asks bytes items) (sym (append-nil done) ∙ e) u in record {
        begun = first;
        put = end_put asks bytes items u' w.0;
        moved = λ new taken. end_moved asks bytes items u' w.0 new (ap (λ (l : List Item). after_items (Rewriting None seq) tables (items ++ l)) (sym (append-nil (placed_at id (length bytes) last_batch))) ∙ taken);
      }
    where
      first : (n : ℕ) → n < 1 → AreKeptStored version (puts_asks file (take n (last_batch ∷ [])) asks) base [] tables
      first zero low = record { first = u.begun.first; now = u.begun.stored; ever = u.begun.ever }
      first (suc n) low = absurd (omega (arith, low))
  walk (part ∷ parts) asks bytes items done u zips w e =
      one_more asks bytes items (part_batch group t.region_id part) (batches_behind group t.region_id parts ps) (record { first = u.begun.first; now = u.begun.stored; ever = u.begun.ever })
      (walk parts (put_of (part_batch group t.region_id part) ∷ asks) (bytes ++ bytes_for file (part_batch group t.region_id part)) (items ++ placed_at id (length bytes) (part_batch group t.region_id part)) (done ++ part.0)
      (at_part asks bytes items done u part.0 part.1 zips.0 w.0) zips.1 w.1 (append_assoc done part.0 (flat_map (λ (x : EntriesPart). x.0) parts) ∙ e))

  pub group_walk : (parts : List EntriesPart) (bytes : List ℕ) → IsLastFile Rewrite between seq bytes → AreSynced (acts_on Append between) → AreKeptStored version between base [] tables
      → AllByRecursion IsKnown parts → AllByRecursion IsWritableBatch (group_batches group t.region_id parts ps)
      → flat_map (λ (part : EntriesPart). part.0) parts ≡ placed_in Rewrite t.entries → AreStoredBehind between bytes [] (group_batches group t.region_id parts ps)
  group_walk parts bytes last synced k zips w e =
      one_more between bytes [] (marker_batch group Begin) (batches_behind group t.region_id parts ps) k
      (walk parts (put_of (marker_batch group Begin) ∷ between) (bytes ++ bytes_for file (marker_batch group Begin)) (placed_at id (length bytes) (marker_batch group Begin)) [] (at_begin bytes last synced w.0 k) zips w.1 e)

-- ---- what was read

module _
    (keep : (asks : List Ask) (a : Ask) (content : EntryIndex → List ℕ) → KeepsBytes a.act → AreBothTold (a ∷ asks) content → AreBothTold asks content)
    (read : ReadEntryIsTold) where
  reads_back : (reads asks : List Ask) → AreReads reads → (content : EntryIndex → List ℕ) → AreBothTold (reads ++ asks) content → AreBothTold asks content
  reads_back [] asks h content told = told
  reads_back (a ∷ reads) asks h content told =
      reads_back reads asks h.1 content (keep (reads ++ asks) a content (subst (λ (x : Ask). KeepsBytes x.act) (sym h.0.2) tt) told)

  parts_back : (parts : List EntriesPart) (old new : List Ask) → ArePartsRead parts old new → (content : EntryIndex → List ℕ) → AreBothTold new content → AreBothTold old content
  parts_back [] old new e content told = subst (λ (l : List Ask). AreBothTold l content) e told
  parts_back (part ∷ parts) old new r content told =
      reads_back r.1.reads old r.1.only content (subst (λ (l : List Ask). AreBothTold l content) r.1.asked (parts_back parts r.0 new r.2 content told))

  parts_known : (parts : List EntriesPart) (old new : List Ask) → ArePartsRead parts old new
      → AllByRecursion (λ (part : EntriesPart). AreAsMany part.0 part.1 × ((content : EntryIndex → List ℕ) → AreBothTold new content → HaveContents content part.0 part.1)) parts
  parts_known [] old new e = tt
  parts_known (part ∷ parts) old new r = (
    (
      as_many r.1.reads part.0 part.1 r.1.have,
      λ content told. entries_have read r.1.reads old r.0 r.1.asked content (parts_back parts r.0 new r.2 content told) part.0 part.1 r.1.have,
    ),
    parts_known parts r.0 new r.2,
  )

pub group_stored : ((asks : List Ask) (a : Ask) (content : EntryIndex → List ℕ) → KeepsBytes a.act → AreBothTold (a ∷ asks) content → AreBothTold asks content)
    → AddedEntriesAreTold → ReadEntryIsTold → BegunGroupsAreStored → GroupsGoOnStored → EndedGroupsAreStored → EndedGroupsArePut
    → (version : Version) (old asks : List Ask) (base : Bases) (tables : Tables) (seq : ℕ) (bytes : List ℕ) (group : ℕ) (t : Table) (batches : List Batch)
    → AreSynced (acts_on Append asks) → IsLastFile Rewrite asks seq bytes → AllByRecursion IsWritableBatch batches
    → finite.get tables t.region_id ≡ Some t → IsGroupMoving t old asks group batches → AreKeptStored version asks base [] tables
    → AreGroupBatchesStored version asks base tables (record { id = record { queue = Rewrite; seq = seq }; version = version }) bytes batches
group_stored keep added read begins goes_on ends is_put version old asks base tables seq bytes group t batches synced last w found m k =
    let s = group_walk keep added begins goes_on ends is_put version base tables t found asks group seq (moving_pairs None t.keys) m.ordinary refl
    m.parts bytes last synced k (parts_known keep read m.parts old asks m.read) (subst (AllByRecursion IsWritableBatch) m.are w) m.entries in
    subst (AreGroupBatchesStored version asks base tables (record { id = record { queue = Rewrite; seq = seq }; version = version }) bytes) (sym m.are)
    (record { begun = s.begun; put = s.put; moved = s.moved })
