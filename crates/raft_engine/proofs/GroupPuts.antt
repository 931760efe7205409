-- The batches of an atomic group, which are put one after another.
use Rattle.raft_engine.proofs.Common.{◌≡◌, ◌⊎◌, inl, inr, ℕ, ◌≤◌, List, [], ◌∷◌, ◌++◌, Option, Some, None, length, map, refl, sym, ap, ◌∙◌, subst, append_assoc, append-nil, arith, flat_map, flat_map-append, AllByRecursion, option_or, EntryIndex, FileBlockHandle, FileId, LogQueue}
use Rattle.raft_engine.proofs.Common.{Append, Rewrite, Version, first_marker, group_marker_item, marker_byte, status_byte, Content, Item, command, entries, pair, placed_content, placed_item, Batch, entry_place, AtomicGroupStatus, Middle, End, marker_is, marker_written, Event}
use Rattle.raft_engine.proofs.Common.{PlacedItemsAreInFile, HaveStatus, RegionStep, Tables, Rewriting, after_items, none_some, some_is, Act, Ask, NumberedBytes, Put, acts_on, ask, begun, written_event, whole_file, IsBeforeEnd, IsMarked, IsWholeGroup, LeavesOpen, AreGroupsInRows}
use Rattle.raft_engine.proofs.Common.{MoveAgain, Records, AreInFileOf, Deed, Write, IsNextIn, IsSafe, IsSynced, LoseNothing, deleted, written, rows_begun, rows_gone_on, all_gone, again_is_taken, AreBothTold, KeepsBytes, LastFileIsNext, bytes_for, place_at, placed_at}
use Rattle.raft_engine.proofs.Common.{IsGroupBegun, IsOfGroup, IsLastFile, AreSynced, AreAllDone, AreKeptStored, AreStored, Bases, IsWritableBatch, WhatIsDoneLasts}
use Rattle.std.specs.Option.{option_map}
use Rattle.raft_base.specs.declared.compression_type.CompressionType.TheVariants as compressions
use Rattle.raft_records.specs.declared.atomic_group.AtomicGroupStatus.TheVariants.{Begin}
use Rattle.raft_engine.proofs.DoneLemmas.{deeds_synced}
use Rattle.raft_engine.proofs.LowPairs.{safe_low}
use Rattle.raft_engine.proofs.StoredLemmas.{first_on, goes_on}

-- ---- the marker of a batch that is placed

placed_byte : (place : FileBlockHandle) (c : Content) → marker_byte (placed_content place compressions.None c) ≡ marker_byte c
placed_byte place (entries es) = refl
placed_byte place (command c) = refl
placed_byte place (pair p) = refl

status_low : (status : AtomicGroupStatus) → status_byte status ≤ 2
status_low Begin = omega arith
status_low Middle = omega arith
status_low End = omega arith

others_status : (place : FileBlockHandle) (items : List Item) → AllByRecursion (λ (item : Item). marker_byte item.content ≡ None) items → HaveStatus Rewrite (map (placed_item place compressions.None) items)
others_status place [] h = tt
others_status place (item ∷ items) h = (λ byte e. absurd (none_some (sym (placed_byte place item.content ∙ h.0) ∙ e)), others_status place items h.1)

module _ (group : ℕ) (status : AtomicGroupStatus) (batch : Batch) (of : IsOfGroup group status batch) (place : FileBlockHandle) where
  abbrev first : Item
  first = placed_item place compressions.None (group_marker_item group status)

  placed_first : map (placed_item place compressions.None) batch.items ≡ first ∷ map (placed_item place compressions.None) of.rest
  placed_first = ap (map (placed_item place compressions.None)) of.first

  first_byte : marker_byte first.content ≡ Some (status_byte status)
  first_byte = placed_byte place (group_marker_item group status).content ∙ marker_written group status

  pub group_status : HaveStatus Rewrite (map (placed_item place compressions.None) batch.items)
  group_status = subst (HaveStatus Rewrite) (sym placed_first) (λ byte e. low byte (sym first_byte ∙ e), others_status place of.rest of.others)
    where
      low : (byte : ℕ) → Some (status_byte status) ≡ Some byte → byte ≤ 2
      low byte e = subst (λ (n : ℕ). n ≤ 2) (some_is e) (status_low status)

  first_is : (rest : List Item) → first_marker (first ∷ rest) ≡ Some (group, status)
  unfolding first_marker
  first_is rest = ap (λ (o : Option (ℕ × AtomicGroupStatus)). option_or o (first_marker rest)) (marker_is first (Some (group, status)) (refl, first_byte))

  pub group_marked : (seq : ℕ) → IsMarked group status (record { items = map (placed_item place compressions.None) batch.items; file = record { queue = Rewrite; seq = seq } })
  group_marked seq = ap (option_map (λ m. record { group = m.0; status = m.1 })) (ap first_marker placed_first ∙ first_is (map (placed_item place compressions.None) of.rest))

-- ---- what is stored

module _
    (lasts : WhatIsDoneLasts)
    (lose : (content : EntryIndex → List ℕ) (base : ℕ → Records) (appended rewritten : List Deed) (untold : List RegionStep)
    (tables : Tables) → IsSafe content base appended rewritten untold tables → LoseNothing content base appended rewritten)
    (keep : (asks : List Ask) (a : Ask) (content : EntryIndex → List ℕ) → KeepsBytes a.act → AreBothTold (a ∷ asks) content → AreBothTold asks content)
    (put : (queue : LogQueue) (version : Version) (acts : List Act) (deeds : List Deed) (closed : List NumberedBytes) (last : NumberedBytes)
    (handle : FileBlockHandle) (batch : Batch) → IsWritableBatch batch
    → handle.id ≡ record { queue = queue; seq = last.0 } → handle.offset ≡ length last.1
    → begun acts ≡ closed ++ last ∷ [] → AreAllDone queue version acts deeds
    → AreAllDone queue version (Put (bytes_for (record { id = record { queue = queue; seq = last.0 }; version = version }) batch) ∷ acts)
    (Write (written_event (whole_file queue version last) handle batch.items batch.entry_bytes) ∷ deeds))
    (next : LastFileIsNext) (placed : PlacedItemsAreInFile)
    (version : Version) (asked : List Ask) (base : Bases) (tables : Tables) (seq : ℕ) (bytes : List ℕ) (group : ℕ) (batch : Batch)
    (last : IsLastFile Rewrite asked seq bytes) (w : IsWritableBatch batch) where
  abbrev id : FileId
  id = record { queue = Rewrite; seq = seq }

  abbrev items : List Item
  items = placed_at id (length bytes) batch

  abbrev handle : FileBlockHandle
  handle = place_at id (length bytes) batch

  abbrev e : Event
  e = written_event (whole_file Rewrite version (seq, bytes)) handle batch.items batch.entry_bytes

  abbrev a : Ask
  a = ask Rewrite (Put (bytes_for (record { id = id; version = version }) batch))

  module _ (status : AtomicGroupStatus) (of : IsOfGroup group status batch) (k : AreKeptStored version asked base [] tables) where
    marked : IsMarked group status e
    marked = group_marked group status batch of (entry_place handle batch.entry_bytes) seq

    is_next : IsNextIn Rewrite k.now.rewritten e
    is_next = next Rewrite version (acts_on Rewrite asked) k.now.rewritten last.closed (seq, bytes) e k.now.rewrite_done.done last.files refl
        (placed (entry_place handle batch.entry_bytes) compressions.None 0 batch.items w.tiled.tiled) (group_status group status batch of (entry_place handle batch.entry_bytes))

    safe_before : (content : EntryIndex → List ℕ) → AreBothTold (a ∷ asked) content → IsSafe content (base content) k.now.appended k.now.rewritten [] tables
    safe_before content told = k.now.safe content (keep asked a content tt told)

    abbrev now_stored : (new : Tables) → AreGroupsInRows (written k.now.rewritten ++ e ∷ [])
        → ((content : EntryIndex → List ℕ) → AreBothTold (a ∷ asked) content → IsSafe content (base content) k.now.appended (Write e ∷ k.now.rewritten) [] new)
        → AreStored version (a ∷ asked) base [] new
    now_stored new rows safe = record {
      appended = k.now.appended;
      rewritten = Write e ∷ k.now.rewritten;
      append_done = k.now.append_done;
      rewrite_done = put Rewrite version (acts_on Rewrite asked) k.now.rewritten last.closed (seq, bytes) handle batch w refl refl last.files k.now.rewrite_done;
      rows = rows;
      safe = safe;
    }

    stored_as : (new : Tables) → AreGroupsInRows (written k.now.rewritten ++ e ∷ [])
        → ((content : EntryIndex → List ℕ) → AreBothTold (a ∷ asked) content → IsSafe content (base content) k.now.appended (Write e ∷ k.now.rewritten) [] new)
        → AreKeptStored version (a ∷ asked) base [] new
    stored_as new rows safe = goes_on lasts lose keep version a asked base [] new tt k.first k.ever (now_stored new rows safe)

    -- where the group stays open nothing changes
    module _
        (held : (content : EntryIndex → List ℕ) (base : ℕ → Records) (appended rewritten : List Deed) (untold : List RegionStep)
        (tables : Tables) (e : Event) → IsSafe content base appended rewritten untold tables → IsNextIn Rewrite rewritten e → LeavesOpen e
        → IsSafe content base appended (Write e ∷ rewritten) untold tables)
        (opens : IsBeforeEnd (Some (record { group = group; status = status }))) where
      safe_open : (content : EntryIndex → List ℕ) → AreBothTold (a ∷ asked) content → IsSafe content (base content) k.now.appended (Write e ∷ k.now.rewritten) [] tables
      safe_open content told = held content (base content) k.now.appended k.now.rewritten [] tables e (safe_before content told) is_next (subst IsBeforeEnd (sym marked) opens)

  abbrev Held : Type 0
  Held = (content : EntryIndex → List ℕ) (base : ℕ → Records) (appended rewritten : List Deed) (untold : List RegionStep)
      (tables : Tables) (e : Event) → IsSafe content base appended rewritten untold tables → IsNextIn Rewrite rewritten e → LeavesOpen e
      → IsSafe content base appended (Write e ∷ rewritten) untold tables

  one_flat : flat_map (λ (x : Event). x.items) (e ∷ []) ≡ items
  one_flat = append-nil items

  -- a group begins
  pub group_begun : Held → IsOfGroup group Begin batch → AreKeptStored version asked base [] tables → IsGroupBegun version (a ∷ asked) base tables group seq items
  group_begun held of k = record {
    first = first_on a asked k.first;
    stored = now_stored Begin of k tables (rows_begun (written k.now.rewritten) group e (marked Begin of k) k.now.rows) (safe_open Begin of k held (λ no. absurd cc));
    ever = (stored_as Begin of k tables (rows_begun (written k.now.rewritten) group e (marked Begin of k) k.now.rows) (safe_open Begin of k held (λ no. absurd cc))).ever;
    earlier = written k.now.rewritten;
    begin = e;
    middles = [];
    split = refl;
    begins = marked Begin of k;
    goes_on = tt;
    in_file = (refl, tt);
    have = one_flat;
  }

  module _ (before : List Item) (g : IsGroupBegun version asked base tables group seq before) where
    abbrev k : AreKeptStored version asked base [] tables
    k = record { first = g.first; now = g.stored; ever = g.ever }

    joined : written k.now.rewritten ++ e ∷ [] ≡ (g.earlier ++ g.begin ∷ g.middles) ++ e ∷ []
    joined = ap (λ (l : List Event). l ++ e ∷ []) g.split

    rows_on : (IsMarked group Middle e ⊎ IsMarked group End e) → AreGroupsInRows (written k.now.rewritten ++ e ∷ [])
    rows_on how =
        subst AreGroupsInRows (sym joined) (rows_gone_on g.earlier group g.begin g.middles e (subst AreGroupsInRows g.split k.now.rows) g.begins g.goes_on g.in_file how)

    all_items : flat_map (λ (x : Event). x.items) (g.begin ∷ (g.middles ++ e ∷ [])) ≡ before ++ items
    all_items = flat_map-append (λ (x : Event). x.items) (g.begin ∷ g.middles) (e ∷ []) ∙ ap (λ (l : List Item). l ++ flat_map (λ (x : Event). x.items) (e ∷ [])) g.have ∙ ap (λ (l : List Item). before ++ l) one_flat

    last_in : {A : Type 0} (P : A → Type 0) (xs : List A) (x : A) → AllByRecursion P xs → P x → AllByRecursion P (xs ++ x ∷ [])
    last_in P [] x all p = (p, tt)
    last_in P (y ∷ xs) x all p = (all.0, last_in P xs x all.1 p)

    -- it goes on
    pub group_gone_on : Held → IsOfGroup group Middle batch → IsGroupBegun version (a ∷ asked) base tables group seq (before ++ items)
    group_gone_on held of = record {
      first = first_on a asked g.first;
      stored = now_stored Middle of k tables (rows_on (inl (marked Middle of k))) (safe_open Middle of k held (λ no. absurd cc));
      ever = (stored_as Middle of k tables (rows_on (inl (marked Middle of k))) (safe_open Middle of k held (λ no. absurd cc))).ever;
      earlier = g.earlier;
      begin = g.begin;
      middles = g.middles ++ e ∷ [];
      split = joined ∙ append_assoc g.earlier (g.begin ∷ g.middles) (e ∷ []);
      begins = g.begins;
      goes_on = last_in (IsMarked group Middle) g.middles e g.goes_on (marked Middle of k);
      in_file = (g.in_file.0, last_in (λ (x : Event). x.file.seq ≡ seq) g.middles e g.in_file.1 refl);
      have = all_items;
    }

    -- it ends
    abbrev Whole : Type 0
    Whole = (content : EntryIndex → List ℕ) (base : ℕ → Records) (appended rewritten : List Deed) (tables new : Tables)
        (e : Event) → IsSafe content base appended rewritten [] tables → IsNextIn Rewrite rewritten e → IsSynced appended
        → (earlier middles : List Event) (g : ℕ) (begin : Event) → written rewritten ≡ earlier ++ begin ∷ middles
        → IsWholeGroup g begin middles e → AreInFileOf e.file.seq (begin ∷ middles)
        → MoveAgain content tables e.file (flat_map (λ (b : Event). b.items) (begin ∷ (middles ++ e ∷ [])))
        → after_items (Rewriting None e.file.seq) tables (flat_map (λ (b : Event). b.items) (begin ∷ (middles ++ e ∷ []))) ≡ Some new
        → IsSafe content base appended (Write e ∷ rewritten) [] new

    pub group_ended : Whole
        → AreSynced (acts_on Append asked) → IsOfGroup group End batch → (new : Tables) → after_items (Rewriting None seq) tables (before ++ items) ≡ Some new
        → ((content : EntryIndex → List ℕ) → AreBothTold (a ∷ asked) content → MoveAgain content tables id (before ++ items))
        → AreKeptStored version (a ∷ asked) base [] new
    group_ended whole synced of new taken moves = stored_as End of k new (rows_on (inr (marked End of k)))
        (λ content told. whole content (base content) k.now.appended k.now.rewritten tables new e (safe_before End of k content told) (is_next End of k)
        (deeds_synced Append version (acts_on Append asked) k.now.appended k.now.append_done synced)
        g.earlier g.middles group g.begin g.split (record { begins = g.begins; goes_on = g.goes_on; ends = marked End of k }) g.in_file
        (subst (MoveAgain content tables id) (sym all_items) (moves content told))
        (ap (after_items (Rewriting None seq) tables) all_items ∙ taken))

    -- some tables take it
    pub group_put : Whole → AreSynced (acts_on Append asked) → IsOfGroup group End batch
        → ((content : EntryIndex → List ℕ) → AreBothTold (a ∷ asked) content → MoveAgain content tables id (before ++ items))
        → (new : Tables) × AreKeptStored version (a ∷ asked) base [] new
    group_put whole synced of moves = tried (after_items (Rewriting None seq) tables (before ++ items)) refl
      where
        never : after_items (Rewriting None seq) tables (before ++ items) ≡ None → (content : EntryIndex → List ℕ) → AreBothTold (a ∷ asked) content → ⊥
        never refused content told =
            let safe = safe_before End of k content told in
            let kept = safe.kept (deleted k.now.appended) (deleted k.now.rewritten) (all_gone k.now.appended) (all_gone k.now.rewritten) in
            let taken = again_is_taken content seq tables (λ r. (kept.each r).sound) (safe_low content (base content) k.now.appended k.now.rewritten tables seq safe (is_next End of k).follows) (before ++ items) (moves content told) in
            none_some (sym refused ∙ taken.1)

        tried : (o : Option Tables) → after_items (Rewriting None seq) tables (before ++ items) ≡ o → (new : Tables) × AreKeptStored version (a ∷ asked) base [] new
        tried (Some new) taken = (new, group_ended whole synced of new taken moves)
        tried None refused = (tables, stored_as End of k tables (rows_on (inr (marked End of k))) (λ content told. absurd (never refused content told)))
