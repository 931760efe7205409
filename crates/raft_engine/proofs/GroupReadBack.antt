-- Tables that are read back of the append files, once a group of batches moved records within the rewrite queue.
use Rattle.raft_engine.proofs.Common.{◌≡◌, ℕ, List, [], ◌∷◌, ◌++◌, length, refl, sym, ap, ◌∙◌, subst, append_assoc, append-nil, None, AllByRecursion, FileId, LogFileContext, Append, Rewrite, Version, Item, Batch, entry_place, Event, IsOneReading, ReadingLeavesRuns}
use Rattle.raft_engine.proofs.Common.{RewritingMovesPlaces, Act, Ask, Put, acts_on, ask, begun, FilesHold, TakeAway, bytes_for, event_at, place_at, placed_at, batches_behind, marker_batch, placed_from, puts_asks, IsLastFile, MovedGroupsAreReadBack, moving_pairs, IsWritableBatch}
use Rattle.raft_base.specs.declared.compression_type.CompressionType.TheVariants as compressions
use Rattle.raft_records.specs.declared.atomic_group.AtomicGroupStatus.TheVariants.{Begin}
use Rattle.raft_engine.proofs.GroupMoves.{last_more}
use Rattle.raft_engine.proofs.ReadBackLemmas.{held_more, none_listed, took_all_away}

one_of_all : {A : Type 0} (P : A → Type 0) (xs : List A) (x : A) (ys : List A) → AllByRecursion P (xs ++ x ∷ ys) → P x
one_of_all P [] x ys h = h.0
one_of_all P (y ∷ xs) x ys h = one_of_all P xs x ys h.1

module _ (version : Version) (seq : ℕ) where
  abbrev id : FileId
  id = record { queue = Rewrite; seq = seq }

  abbrev file : LogFileContext
  file = record { id = id; version = version }

  -- nothing is put in append files
  pub puts_append : (batches : List Batch) (asks : List Ask)
      → acts_on Append (puts_asks file batches asks) ≡ acts_on Append asks
  puts_append [] asks = refl
  puts_append (b ∷ batches) asks = puts_append batches (ask Rewrite (Put (bytes_for file b)) ∷ asks)

  -- the batches are held behind those that were
  held_all : (batches : List Batch) (asks : List Ask) (bytes : List ℕ) (h : List Event)
      → IsLastFile Rewrite asks seq bytes → FilesHold Rewrite version (begun (acts_on Rewrite asks)) h
      → AllByRecursion IsWritableBatch batches
      → (more : List Event) × FilesHold Rewrite version (begun (acts_on Rewrite (puts_asks file batches asks))) (h ++ more)
  held_all [] asks bytes h last held w = ([], subst (FilesHold Rewrite version (begun (acts_on Rewrite asks))) (sym (append-nil h)) held)
  held_all (b ∷ batches) asks bytes h last held w =
      let e : Event = event_at id (length bytes) b in
      let one = held_more Rewrite version (acts_on Rewrite asks) last.closed seq bytes b last.files w.0 h held in
      let rest = held_all batches (ask Rewrite (Put (bytes_for file b)) ∷ asks) (bytes ++ bytes_for file b) (h ++ e ∷ []) (last_more asks seq bytes (bytes_for file b) last) one w.1 in
      (e ∷ rest.0, subst (FilesHold Rewrite version (begun (acts_on Rewrite (puts_asks file (b ∷ batches) asks)))) (append_assoc h (e ∷ []) rest.0) rest.1)

  -- a marker is put, so such files don't put nothing
  begin_puts : (group : ℕ) (bytes : List ℕ) → TakeAway (placed_at id (length bytes) (marker_batch group Begin)) → ⊥
  begin_puts group bytes away =
      let batch : Batch = marker_batch group Begin in
      let all = took_all_away (entry_place (place_at id (length bytes) batch) batch.entry_bytes) compressions.None batch.items away in
      let e = all.0 in
      cc

pub groups_read_back : RewritingMovesPlaces → ReadingLeavesRuns → MovedGroupsAreReadBack
unfolding held_all
groups_read_back rewriting runs version before asked old new seq bytes group t batches rewritten last held w m applied r =
    let items : List Item = placed_from (id version seq) (length bytes) batches in
    let same_cleaned : new.cleaned ≡ old.cleaned = applied.cleaned ∙ ap (λ (l : List ℕ). old.cleaned ++ l) (none_listed None seq items) ∙ append-nil old.cleaned in
    record {
      batches = r.batches;
      held = subst (λ (acts : List Act). FilesHold Append version (begun acts) r.batches) (sym (puts_append version seq batches asked)) r.held;
      sound = r.sound;
      read = r.read;
      reading = subst (λ (l : List ℕ). IsOneReading Append r.batches r.read l) (sym same_cleaned) r.reading;
      moved = rewriting None seq old.tables r.read new.tables items r.moved (runs r.batches r.read old.cleaned r.sound r.reading) applied.asked applied.tables;
      unmoved = λ nothing.
          let behind : List Batch = batches_behind group t.region_id m.parts (moving_pairs None t.keys) in
          let all = held_all version seq (marker_batch group Begin ∷ behind) asked bytes rewritten last held (subst (AllByRecursion IsWritableBatch) m.are w) in
          let quiet = nothing (rewritten ++ all.0) (subst (λ (bs : List Batch). FilesHold Rewrite version (begun (acts_on Rewrite (puts_asks (file version seq) bs asked))) (rewritten ++ all.0)) (sym m.are) all.1) in
          absurd (begin_puts version seq group bytes (one_of_all (λ (x : Event). TakeAway x.items) rewritten (event_at (id version seq) (length bytes) (marker_batch group Begin)) _ quiet));
    }
