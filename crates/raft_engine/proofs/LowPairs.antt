-- The rewritten pairs of kept tables are in files up to the last one.
use Rattle.raft_engine.proofs.Common.{◌≡◌, ℕ, suc, ◌<◌, ◌≤◌, Bool, true, false, cond, List, [], ◌∷◌, Some, sym, ap, ◌∙◌, arith, filter, EntryIndex, LogQueue, Rewrite, Stored, table_of, last_pair_stands, Event, batches, steps_of, FilesFrom, last_from, Tables, own_none}
use Rattle.raft_engine.proofs.Common.{AreFilesBelow, AreKept, Records, pair_left, Deed, IsSafe, deleted, in_files_from, written, steps_below, pair_below, all_gone, keeps}
use Rattle.std.specs.FinMap as finite

-- ---- batches whose last file isn't above a number

last_up : (q : LogQueue) (n : ℕ) (h : List Event) → FilesFrom q n h → n ≤ last_from n h
last_up q n [] f = omega arith
last_up q n (e ∷ h) f = let up = last_up q e.file.seq h f.2 in let low = f.1 in omega (arith, up, low)

files_below : (q : LogQueue) (n m : ℕ) (h : List Event) → FilesFrom q n h → last_from n h ≤ m → AreFilesBelow (suc m) h
files_below q n m [] f low = tt
files_below q n m (e ∷ h) f low = ((let up = last_up q e.file.seq h f.2 in omega (arith, up, low)), files_below q e.file.seq m h f.2 low)

some_below : (n m : ℕ) (h : List Event) → AreFilesBelow m h → AreFilesBelow m (in_files_from n h)
unfolding in_files_from
some_below n m [] all = tt
some_below n m (e ∷ h) all = go (keeps n e) (some_below n m h all.1)
  where
    go : (b : Bool) → AreFilesBelow m (filter (keeps n) h) → AreFilesBelow m (cond b (e ∷ filter (keeps n) h) (filter (keeps n) h))
    go true rest = (all.0, rest)
    go false rest = rest

-- ---- pairs

-- a pair that is in the rewrite queue was put by a batch of its files
pair_low : (content : EntryIndex → List ℕ) (append rewrite : List Event) (tables : Tables) (n : ℕ) → AreKept content append rewrite [] tables → AreFilesBelow n rewrite
    → (r : ℕ) (key : List ℕ) (s : Stored) → finite.get (table_of r (finite.get tables r)).keys key ≡ Some s → s.file.queue ≡ Rewrite → s.file.seq < n
pair_low content append rewrite tables n h below r key s there queue =
    let put : finite.get (table_of r (finite.get h.rewritten r)).keys key ≡ Some s =
    ap (λ l. pair_left l key (finite.get (table_of r (finite.get h.rewritten r)).keys key)) (sym (own_none r)) ∙ (h.each r).pair_told key s there queue in
    pair_below n key (steps_of r (batches rewrite)) s (steps_below n r rewrite below h.rewrite_sound.items)
    (sym (last_pair_stands Rewrite key r (finite.get h.rewritten r) (steps_of r (batches rewrite)) (h.read.tables_read r)) ∙ put)

pub safe_low : (content : EntryIndex → List ℕ) (base : ℕ → Records) (appended rewritten : List Deed) (tables : Tables) (last : ℕ) → IsSafe content base appended rewritten [] tables → last_from 0 (written rewritten) ≤ last
    → (r : ℕ) (key : List ℕ) (s : Stored) → finite.get (table_of r (finite.get tables r)).keys key ≡ Some s → s.file.queue ≡ Rewrite → s.file.seq ≤ last
safe_low content base appended rewritten tables last safe low r key s there queue =
    let kept = safe.kept (deleted appended) (deleted rewritten) (all_gone appended) (all_gone rewritten) in
    let below = some_below (deleted rewritten) (suc last) (written rewritten) (files_below Rewrite 0 last (written rewritten) safe.rewrite_files low) in
    let less = pair_low content _ _ tables (suc last) kept below r key s there queue in
    omega (arith, less)
