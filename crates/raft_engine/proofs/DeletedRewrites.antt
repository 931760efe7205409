-- The deletion of a rewrite file that no table needs.
use Rattle.raft_engine.proofs.Common.{◌≡◌, ℕ, ◌+◌, List, [], ◌∷◌, ◌++◌, length, EntryIndex, LogQueue, Append, Rewrite, Version, RegionStep, Tables, Act, Ask, NumberedBytes, acts_on, ask, begun, deletions, AreLeastFrom, EndNoOlderGroup, Records, Deed, IsSafe, IsSynced}
use Rattle.raft_engine.proofs.Common.{LoseNothing, MayBeGone, in_files_from, written, AreBothTold, KeepsBytes, AreAllDone, DeletionsAreStored, WhatIsDoneLasts, rows_files}
use Rattle.raft_files.specs.Asks as asks
use Rattle.raft_engine_laws.specs.Crashes.{Delete}
use Rattle.raft_engine.proofs.DoneLemmas.{deeds_synced}
use Rattle.raft_engine.proofs.StoredLemmas.{goes_on}

pub rewrite_delete_stored : WhatIsDoneLasts
    → ((content : EntryIndex → List ℕ) (base : ℕ → Records) (appended rewritten : List Deed) (untold : List RegionStep)
    (tables : Tables) → IsSafe content base appended rewritten untold tables → LoseNothing content base appended rewritten)
    → ((asks : List Ask) (a : Ask) (content : EntryIndex → List ℕ) → KeepsBytes a.act → AreBothTold (a ∷ asks) content → AreBothTold asks content)
    → ((queue : LogQueue) (version : Version) (acts : List Act) (deeds : List Deed) (gone rest : List NumberedBytes) (oldest next : NumberedBytes)
    → begun acts ≡ gone ++ oldest ∷ next ∷ rest → deletions acts ≡ length gone
    → AreAllDone queue version acts deeds → AreAllDone queue version (asks.Delete ∷ acts) (Delete (oldest.0 + 1) ∷ deeds))
    → ((content : EntryIndex → List ℕ) (base : ℕ → Records) (appended rewritten : List Deed) (tables : Tables) (n : ℕ)
    → IsSafe content base appended rewritten [] tables → IsSynced appended → IsSynced rewritten → AreLeastFrom Rewrite n tables
    → ((m : ℕ) → MayBeGone (Delete n ∷ rewritten) m → EndNoOlderGroup (in_files_from m (written rewritten)))
    → IsSafe content base appended (Delete n ∷ rewritten) [] tables)
    → DeletionsAreStored Rewrite
rewrite_delete_stored lasts lose keep done safe version asked base tables gone rest oldest next append_synced rewrite_synced is count least k =
    let s = k.now in
    goes_on lasts lose keep version (ask Rewrite asks.Delete) asked base [] tables tt k.first k.ever (record {
      appended = s.appended;
      rewritten = Delete (oldest.0 + 1) ∷ s.rewritten;
      append_done = s.append_done;
      rewrite_done = done Rewrite version (acts_on Rewrite asked) s.rewritten gone rest oldest next is count s.rewrite_done;
      safe = λ content told. safe content (base content) s.appended s.rewritten tables (oldest.0 + 1) (s.safe content (keep asked (ask Rewrite asks.Delete) content tt told))
          (deeds_synced Append version (acts_on Append asked) s.appended s.append_done append_synced)
          (deeds_synced Rewrite version (acts_on Rewrite asked) s.rewritten s.rewrite_done rewrite_synced) least (λ m gone. rows_files (written s.rewritten) s.rows m);
      rows = s.rows;
    })
