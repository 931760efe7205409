-- Records that move within the rewrite queue, with one batch or with a whole group, are safe.
use Rattle.raft_engine_laws.proofs.Common.{◌≡◌, ◌≢◌, ℕ, ◌≤◌, Bool, true, false, List, [], ◌∷◌, ◌++◌, Option, Some, None, if◌then◌else◌, refl, sym, ap, subst, ◌∙◌, append_assoc, append-nil, arith, flat_map, AllByRecursion, option_and_then, EntryIndex, FileId, LogQueue, Rewrite}
use Rattle.raft_engine_laws.proofs.Common.{AtomicGroupStatus, Begin, Middle, End, Item, Keys, Step, AtomicGroup, table_of, after, Table, placed_in, AreTableEntries, same_some, after-append, Event, batch_of, batches, Effect, effects, steps_by, steps_of, whole_steps, EachApart}
use Rattle.raft_engine_laws.proofs.Common.{Apart, IsOneReading, RegionStep, Tables, names, steps_on, steps_of_items, batches-append, own_none, Rewriting, after_items, HasNoMarker, LeavesOpen, IsBeforeEnd, IsMarked, IsWholeGroup, AreKept, IsPairMoved, AreRecordsMoved, MoveAgain}
use Rattle.raft_engine_laws.proofs.Common.{Records, unspoken, Deed, Write, written, deleted, IsSynced, MayBeGone, in_files_from, AreInFileOf, IsNextIn, IsSafe}
use Rattle.std.specs.FinMap as finite
use Rattle.raft_engine_laws.proofs.AgainItems.{region_again}
use Rattle.raft_engine_laws.proofs.ApartLemmas.{effects_held}
use Rattle.raft_engine_laws.proofs.GroupFiles.{of_file}
use Rattle.raft_engine_laws.proofs.GroupRows.{alone_apart, group_apart, group_steps}
use Rattle.raft_engine_laws.proofs.RewriteReadings.{plain_more}
use Rattle.raft_engine_laws.proofs.SafeRewrites.{moved_safe}
use Rattle.raft_engine_laws.proofs.CrashLemmas.{from-append, test_le, all_gone}
use Rattle.raft_engine_laws.proofs.ToldItems.{steps-append}
use Rattle.raft_engine_laws.proofs.UnspokenLemmas.{unspoken-none}

-- ---- readings

-- what more steps make of what is read
read_on : (r : ℕ) (ss us : List Step) (o v : Option Table) → after Rewrite r None ss ≡ Some o → after Rewrite r None (ss ++ us) ≡ Some v → after Rewrite r o us ≡ Some v
read_on r ss us o v e k = sym (after-append Rewrite r None ss us ∙ ap (option_and_then (λ u. after Rewrite r u us)) e) ∙ k

-- the steps of a group, and its file numbers behind them, which are no record
same_put : (content : EntryIndex → List ℕ) (file : FileId) (t k w p q : Table) → q.entries ≡ p.entries → q.keys ≡ p.keys → AreRecordsMoved content file t k w p → AreRecordsMoved content file t k w q
same_put content file t k w p q e f h = record {
  of_queue = h.of_queue;
  front = h.front;
  middle = h.middle;
  back = h.back;
  split = h.split;
  in_front = h.in_front;
  behind = h.behind;
  copies = h.copies;
  copied = h.copied;
  moves = h.moves;
  puts = e ∙ h.puts;
  pairs = λ key. subst (λ (keys : Keys). IsPairMoved file t.keys k.keys w.keys keys key) (sym f) (h.pairs key);
}

whole_read : (r : ℕ) (steps : List RegionStep) (a b : ℕ) (o v : Option Table) (X : Option Table → Type 0) → ((p : Option Table) → after Rewrite r o (steps_on r steps) ≡ Some p → X p)
    → ((p q : Option Table) → (table_of r q).entries ≡ (table_of r p).entries → (table_of r q).keys ≡ (table_of r p).keys → X p → X q) → after Rewrite r o (whole_steps r steps a b) ≡ Some v → X v
unfolding whole_steps
whole_read r steps a b o v X all same is = go (after Rewrite r o (steps_on r steps)) refl (sym (after-append Rewrite r o (steps_on r steps) (if names r steps then AtomicGroup a b ∷ [] else [])) ∙ is)
  where
    marked : (p : Option Table) → (c : Bool) → after Rewrite r p (if c then AtomicGroup a b ∷ [] else []) ≡ Some v → X p → X v
    marked p true e x = subst X (same_some _ v e) (same p (Some (record (table_of r p) { atomic_group = Some (a, b) })) refl refl x)
    marked p false e x = subst X (same_some p v e) x

    go : (x : Option (Option Table)) → after Rewrite r o (steps_on r steps) ≡ x → option_and_then (λ u. after Rewrite r u (if names r steps then AtomicGroup a b ∷ [] else [])) x ≡ Some v → X v
    go None e k = absurd cc
    go (Some p) e k = marked p (names r steps) k (all p e)

-- the steps of all items of batches
steps_flat : (h : List Event) → steps_of_items (flat_map (λ (b : Event). b.items) h) ≡ flat_map (λ (b : Event). steps_of_items b.items) h
steps_flat [] = refl
steps_flat (b ∷ h) = steps-append b.items (flat_map (λ (b : Event). b.items) h) ∙ ap (λ l. steps_of_items b.items ++ l) (steps_flat h)

-- ---- batches that leave a group open

marked_open : (g : ℕ) (status : AtomicGroupStatus) (e : Event) → status ≢ End → IsMarked g status e → LeavesOpen e
marked_open g status e n h = subst IsBeforeEnd (sym h) n

middles_open : (g : ℕ) (ms : List Event) → AllByRecursion (IsMarked g Middle) ms → AllByRecursion LeavesOpen ms
middles_open g [] h = tt
middles_open g (e ∷ ms) h = (marked_open g Middle e (λ e. absurd cc) h.0, middles_open g ms h.1)

all_held : (h k : List Event) → AllByRecursion LeavesOpen k → effects (batches (h ++ k)) ≡ effects (batches h)
all_held h [] opens = ap (λ l. effects (batches l)) (append-nil h)
all_held h (e ∷ k) opens =
    ap (λ l. effects (batches l)) (sym (append_assoc h (e ∷ []) k)) ∙ all_held (h ++ e ∷ []) k opens.1 ∙ ap effects (batches-append h (e ∷ [])) ∙ effects_held (batches h) (batch_of e) opens.0

module _ (content : EntryIndex → List ℕ) (base : ℕ → Records) (appended rewritten : List Deed) (tables new : Tables) (e : Event)
    (h : IsSafe content base appended rewritten [] tables) (next : IsNextIn Rewrite rewritten e) (synced : IsSynced appended) where
  abbrev left_of : ℕ → List Event
  left_of n = in_files_from n (written rewritten)

  abbrev to : FileId
  to = record { queue = Rewrite; seq = e.file.seq }

  file_is : e.file ≡ to
  file_is = ap (λ (q : LogQueue). record { queue = q; seq = e.file.seq }) next.queue_is

  there : (n : ℕ) → MayBeGone rewritten n → AreKept content (in_files_from (deleted appended) (written appended)) (left_of n) [] tables
  there n k = h.kept (deleted appended) n (all_gone appended) k

  sound : (n : ℕ) → MayBeGone rewritten n → (r : ℕ) → AreTableEntries (table_of r (finite.get tables r)).entries
  sound n k r = ((there n k).each r).sound

  told : (n : ℕ) (k : MayBeGone rewritten n) (before : Tables) → IsOneReading Rewrite (left_of n) before [] → (r : ℕ) → (table_of r (finite.get before r)).entries ≡ placed_in Rewrite (table_of r (finite.get tables r)).entries
  told n k before read r =
      ap (λ (o : Option Table). (table_of r o).entries) (same_some _ _ (sym (read.tables_read r) ∙ (there n k).read.tables_read r))
      ∙ sym (unspoken-none (table_of r (finite.get (there n k).rewritten r)).entries) ∙ ap (λ l. unspoken l (table_of r (finite.get (there n k).rewritten r)).entries) (sym (own_none r)) ∙ ((there n k).each r).told

  -- with one batch
  pub again_safe : HasNoMarker e → MoveAgain content tables e.file e.items → after_items (Rewriting None e.file.seq) tables e.items ≡ Some new → IsSafe content base appended (Write e ∷ rewritten) [] new
  again_safe plain moves is = moved_safe content base appended rewritten tables new e h next synced (λ n k. alone_apart (left_of n) e plain (there n k).apart)
      (λ n before put k read read_put r. subst (λ f. AreRecordsMoved content f (table_of r (finite.get tables r)) (table_of r (finite.get new r)) (table_of r (finite.get before r)) (table_of r (finite.get put r))) (sym file_is)
      (region_again content e.file.seq r tables new e.items (finite.get before r) (finite.get put r) (subst (λ f. MoveAgain content tables f e.items) file_is moves) is (sound n k r) (told n k before read r)
      (read_on r (steps_of r (batches (left_of n))) (steps_on r (steps_of_items e.items)) (finite.get before r) (finite.get put r)
      (read.tables_read r) (sym (ap (after Rewrite r None) (plain_more r (left_of n) e plain)) ∙ read_put.tables_read r))))

  -- with a whole group
  module _ (earlier middles : List Event) (g : ℕ) (begin : Event) (all : written rewritten ≡ earlier ++ begin ∷ middles) (group : IsWholeGroup g begin middles e) (in_file : AreInFileOf e.file.seq (begin ∷ middles)) where
    abbrev items : List Item
    items = flat_map (λ (b : Event). b.items) (begin ∷ (middles ++ e ∷ []))

    abbrev steps : List RegionStep
    steps = flat_map (λ (b : Event). steps_of_items b.items) (begin ∷ (middles ++ e ∷ []))

    left_is : (n : ℕ) → MayBeGone rewritten n → left_of n ≡ in_files_from n earlier ++ begin ∷ middles
    left_is n k =
        let low : n ≤ e.file.seq = (let a : n ≤ deleted rewritten = k.at_most in let b : deleted rewritten ≤ e.file.seq = next.stays in omega (arith, a, b)) in
        ap (in_files_from n) all ∙ from-append n earlier (begin ∷ middles) ∙ ap (λ l. in_files_from n earlier ++ l) (of_file n e.file.seq true (begin ∷ middles) (test_le n e.file.seq low) in_file)

    held : (n : ℕ) → MayBeGone rewritten n → effects (batches (left_of n)) ≡ effects (batches (in_files_from n earlier))
    held n k = ap (λ l. effects (batches l)) (left_is n k) ∙ all_held (in_files_from n earlier) (begin ∷ middles) (marked_open g Begin begin (λ e. absurd cc) group.begins, middles_open g middles group.goes_on)

    row_is : (n : ℕ) → MayBeGone rewritten n → left_of n ++ e ∷ [] ≡ in_files_from n earlier ++ begin ∷ (middles ++ e ∷ [])
    row_is n k = ap (λ l. l ++ e ∷ []) (left_is n k) ∙ append_assoc (in_files_from n earlier) (begin ∷ middles) (e ∷ [])

    apart : (n : ℕ) → MayBeGone rewritten n → Apart (left_of n ++ e ∷ [])
    apart n k = subst Apart (sym (row_is n k)) (group_apart (in_files_from n earlier) middles g begin e group (record { each = subst EachApart (held n k) (there n k).apart.each }))

    steps_more : (n : ℕ) → MayBeGone rewritten n → (r : ℕ) → steps_of r (batches (left_of n ++ e ∷ [])) ≡ steps_of r (batches (left_of n)) ++ whole_steps r steps begin.file.seq e.file.seq
    steps_more n k r =
        ap (λ l. steps_of r (batches l)) (row_is n k) ∙ group_steps (in_files_from n earlier) middles g begin e group r
        ∙ ap (λ (es : List Effect). flat_map (λ (x : Effect). steps_by r x.earlier x.last) es ++ whole_steps r steps begin.file.seq e.file.seq) (sym (held n k))

    pub group_safe : MoveAgain content tables e.file items → after_items (Rewriting None e.file.seq) tables items ≡ Some new → IsSafe content base appended (Write e ∷ rewritten) [] new
    group_safe moves is = moved_safe content base appended rewritten tables new e h next synced apart
        (λ n before put k read read_put r. subst (λ f. AreRecordsMoved content f (table_of r (finite.get tables r)) (table_of r (finite.get new r)) (table_of r (finite.get before r)) (table_of r (finite.get put r))) (sym file_is)
        (whole_read r steps begin.file.seq e.file.seq (finite.get before r) (finite.get put r)
        (λ p. AreRecordsMoved content to (table_of r (finite.get tables r)) (table_of r (finite.get new r)) (table_of r (finite.get before r)) (table_of r p))
        (λ p puts. region_again content e.file.seq r tables new items (finite.get before r) p (subst (λ f. MoveAgain content tables f items) file_is moves) is (sound n k r) (told n k before read r)
        (ap (λ l. after Rewrite r (finite.get before r) (steps_on r l)) (steps_flat (begin ∷ (middles ++ e ∷ []))) ∙ puts))
        (λ p q a b x. same_put content to (table_of r (finite.get tables r)) (table_of r (finite.get new r)) (table_of r (finite.get before r)) (table_of r p) (table_of r q) a b x)
        (read_on r (steps_of r (batches (left_of n))) (whole_steps r steps begin.file.seq e.file.seq) (finite.get before r) (finite.get put r) (read.tables_read r)
        (sym (ap (after Rewrite r None) (steps_more n k r)) ∙ read_put.tables_read r))))
