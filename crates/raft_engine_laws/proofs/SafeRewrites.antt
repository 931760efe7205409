-- What is written to the rewrite queue is safe.
use Rattle.raft_engine_laws.proofs.Common.{◌≡◌, ◌⊎◌, ℕ, ◌≤◌, List, [], ◌∷◌, ◌++◌, Some, inl, inr, refl, sym, ap, subst, ◌∙◌, arith, EntryIndex, Rewrite, table_of, Table, Event, Apart, IsOneReading, RegionStep, Tables, steps_on, steps_of_items, files-append, Rewriting}
use Rattle.raft_engine_laws.proofs.Common.{after_items, HasNoMarker, LeavesOpen, AreKept, AreRecordsMoved, IsMovingBatch, IsRewrittenNext, Records, live, HaveRecords, Deed, Write, written, deleted, IsSynced, MayStand, MayBeGone, in_files_from, IsLeft, IsNextIn, IsKeptWith}
use Rattle.raft_engine_laws.proofs.Common.{IsSafe, AreRemovals, SayTheSame}
use Rattle.std.specs.FinMap as finite
use Rattle.raft_engine_laws.proofs.GroupRows.{alone_apart, open_apart}
use Rattle.raft_engine_laws.proofs.KeptRewrites.{telling_kept, held_kept, moved_kept}
use Rattle.raft_engine_laws.proofs.MovingBatches.{moves, moving_kept}
use Rattle.raft_engine_laws.proofs.RecordLemmas.{moved_have}
use Rattle.raft_engine_laws.proofs.RewriteReadings.{reading_there}
use Rattle.raft_engine_laws.proofs.CrashLemmas.{from_more, last_low, whole_stands, gone_unwritten, synced_left, all_gone}

module _ (content : EntryIndex → List ℕ) (base : ℕ → Records) (appended rewritten : List Deed) (untold : List RegionStep) (tables : Tables)
    (e : Event) (h : IsSafe content base appended rewritten untold tables) (next : IsNextIn Rewrite rewritten e) where
  abbrev all : List Event
  all = written appended

  abbrev moved : List Event
  moved = written rewritten

  more : (n : ℕ) → MayBeGone rewritten n → in_files_from n (moved ++ e ∷ []) ≡ in_files_from n moved ++ e ∷ []
  more n g = from_more n moved e (let a : n ≤ deleted rewritten = g.at_most in let b : deleted rewritten ≤ e.file.seq = next.stays in omega (arith, a, b))

  next_of : (n : ℕ) → Apart (in_files_from n moved ++ e ∷ []) → IsRewrittenNext (in_files_from n moved) e
  next_of n apart = record {
    queue = next.queue_is;
    follows = (let a = last_low Rewrite n 0 0 moved h.rewrite_files (omega arith) in let b = next.follows in omega (arith, a, b));
    in_file = next.in_file;
    status = next.status;
    apart = apart;
  }

  -- whatever tables are kept with the batch and have the records
  with_batch : (untold' : List RegionStep) (new : Tables) → HaveRecords content new (live content base all)
      → ((m n : ℕ) → MayBeGone appended m → MayBeGone rewritten n → AreKept content (in_files_from m all) (in_files_from n moved ++ e ∷ []) untold' new)
      → ((standing append : List Event) (n : ℕ) → IsLeft appended standing append → MayBeGone rewritten n → IsKeptWith content append (in_files_from n moved ++ e ∷ []) (live content base standing))
      → IsSafe content base appended (Write e ∷ rewritten) untold' new
  with_batch untold' new has kept left = record {
    append_files = h.append_files;
    rewrite_files = files-append Rewrite 0 moved (e ∷ []) h.rewrite_files (next.queue_is, next.follows, tt);
    has = has;
    kept = λ m n g k. let may_go = gone_unwritten rewritten e n k in subst (λ l. AreKept content (in_files_from m all) l untold' new) (sym (more n may_go)) (kept m n g may_go);
    left = λ standing append r rewrite x y. go standing append r rewrite x y y.stands;
  }
    where
      go : (standing append r rewrite : List Event) → IsLeft appended standing append → (y : IsLeft (Write e ∷ rewritten) r rewrite) →
          MayStand rewritten r ⊎ (r ≡ moved ++ e ∷ []) → IsKeptWith content append rewrite (live content base standing)
      go standing append r rewrite x y (inl s) = h.left standing append r rewrite x (record { stands = s; gone = y.gone; may_go = gone_unwritten rewritten e y.gone y.may_go; left = y.left })
      go standing append r rewrite x y (inr s) =
          let may_go = gone_unwritten rewritten e y.gone y.may_go in
          subst (λ l. IsKeptWith content append l (live content base standing)) (sym (y.left ∙ ap (in_files_from y.gone) s ∙ more y.gone may_go)) (left standing append y.gone x may_go)

  -- once the append queue is synced
  with_synced : IsSynced appended → (untold' : List RegionStep) (new : Tables) → HaveRecords content new (live content base all)
      → ((m n : ℕ) → MayBeGone appended m → MayBeGone rewritten n → AreKept content (in_files_from m all) (in_files_from n moved ++ e ∷ []) untold' new)
      → IsSafe content base appended (Write e ∷ rewritten) untold' new
  with_synced synced untold' new has kept = with_batch untold' new has kept (λ standing append n x k.
      let a = synced_left appended standing append synced x in
      record {
        untold = untold';
        tables = new;
        kept = subst (λ l. AreKept content l (in_files_from n moved ++ e ∷ []) untold' new) (sym a.left) (kept a.gone n a.may_go k);
        has = subst (λ l. HaveRecords content new (live content base l)) (sym a.stands) has;
      })

  -- a batch that leaves its group open
  pub held_safe : LeavesOpen e → IsSafe content base appended (Write e ∷ rewritten) untold tables
  held_safe waits = with_batch untold tables h.has
      (λ m n g k. let a = h.kept m n g k in held_kept content (in_files_from m all) (in_files_from n moved) untold tables e a (next_of n (open_apart (in_files_from n moved) e waits a.apart)) waits)
      (λ standing append n x k.
      let a = h.left standing append moved (in_files_from n moved) x (record { stands = whole_stands rewritten; gone = n; may_go = k; left = refl }) in
      record {
        untold = a.untold;
        tables = a.tables;
        kept = held_kept content append (in_files_from n moved) a.untold a.tables e a.kept (next_of n (open_apart (in_files_from n moved) e waits a.kept.apart)) waits;
        has = a.has;
      })

  -- a batch that tells
  pub told_safe : IsSynced appended → HasNoMarker e → (others : List RegionStep) → ((r : ℕ) → AreRemovals (steps_on r (steps_of_items e.items)))
      → ((r : ℕ) → SayTheSame (steps_on r (steps_of_items e.items) ++ steps_on r others) (steps_on r untold)) → IsSafe content base appended (Write e ∷ rewritten) others tables
  told_safe synced plain others removals same = with_synced synced others tables h.has
      (λ m n g k. let a = h.kept m n g k in telling_kept content (in_files_from m all) (in_files_from n moved) untold tables e a (next_of n (alone_apart (in_files_from n moved) e plain a.apart)) plain others removals same)

module _ (content : EntryIndex → List ℕ) (base : ℕ → Records) (appended rewritten : List Deed) (tables new : Tables) (e : Event)
    (h : IsSafe content base appended rewritten [] tables) (next : IsNextIn Rewrite rewritten e) (synced : IsSynced appended) where
  abbrev left_of : ℕ → List Event
  left_of n = in_files_from n (written rewritten)

  -- a batch with which records move
  pub moved_safe : ((n : ℕ) → MayBeGone rewritten n → Apart (left_of n ++ e ∷ []))
      → ((n : ℕ) (before put : Tables) → MayBeGone rewritten n → IsOneReading Rewrite (left_of n) before [] → IsOneReading Rewrite (left_of n ++ e ∷ []) put []
      → (r : ℕ) → AreRecordsMoved content e.file (table_of r (finite.get tables r)) (table_of r (finite.get new r)) (table_of r (finite.get before r)) (table_of r (finite.get put r)))
      → IsSafe content base appended (Write e ∷ rewritten) [] new
  moved_safe apart moves = with_synced content base appended rewritten [] tables e h next synced [] new
      (λ r. let n = deleted rewritten in let a = reading_there (left_of n) in let b = reading_there (left_of n ++ e ∷ []) in
      moved_have content e.file (table_of r (finite.get tables r)) (table_of r (finite.get new r)) (table_of r (finite.get a.0 r))
      (table_of r (finite.get b.0 r)) (live content base (written appended) r) (moves n a.0 b.0 (all_gone rewritten) a.1 b.1 r) (h.has r))
      (λ m n g k. let a = reading_there (left_of n) in let b = reading_there (left_of n ++ e ∷ []) in
      moved_kept content (in_files_from m (written appended)) (left_of n) tables new a.0 b.0 e (h.kept m n g k) (next_of content base appended rewritten [] tables e h next n (apart n k)) a.1 b.1 (moves n a.0 b.0 k a.1 b.1))

  -- a batch with copies of one region's records
  pub moving_safe : HasNoMarker e → (gate id : ℕ) (t : Table) → finite.get tables id ≡ Some t → IsMovingBatch content gate id t e →
      after_items (Rewriting (Some gate) e.file.seq) tables e.items ≡ Some new → IsSafe content base appended (Write e ∷ rewritten) [] new
  moving_safe plain gate id t there batch is = with_synced content base appended rewritten [] tables e h next synced [] new
      (λ r. let m = deleted appended in let n = deleted rewritten in let a = h.kept m n (all_gone appended) (all_gone rewritten) in
      moved_have content _ _ _ _ _ (live content base (written appended) r) (moves content (in_files_from m (written appended)) (left_of n) tables new e a (next_there n a.apart) plain gate id t there batch is r) (h.has r))
      (λ m n g k. let a = h.kept m n g k in moving_kept content (in_files_from m (written appended)) (left_of n) tables new e a (next_there n a.apart) plain gate id t there batch is)
    where
      next_there : (n : ℕ) → Apart (left_of n) → IsRewrittenNext (left_of n) e
      next_there n apart = next_of content base appended rewritten [] tables e h next n (alone_apart (left_of n) e plain apart)
