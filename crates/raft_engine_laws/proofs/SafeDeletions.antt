-- Files that are deleted are not missed.
use Rattle.raft_engine_laws.proofs.Common.{◌≡◌, ℕ, ◌≤◌, List, [], ◌∷◌, ◌++◌, inl, inr, refl, sym, subst, ◌∙◌, arith, EntryIndex, LogQueue, Append, Rewrite, Event, FilesFrom, Tables, AreLeastFrom, EndNoOlderGroup, AreKept, Records, live, HaveRecords, Deed, Delete, written}
use Rattle.raft_engine_laws.proofs.Common.{deleted, IsSynced, MayBeGone, in_files_from, IsSafe}
use Rattle.raft_engine_laws.proofs.AppendDeletions.{shorter}
use Rattle.raft_engine_laws.proofs.GroupFronts.{none_across}
use Rattle.raft_engine_laws.proofs.NeededFiles.{append_needs, rewrite_needs}
use Rattle.raft_engine_laws.proofs.RewriteDeletions.{purged}
use Rattle.raft_engine_laws.proofs.CrashLemmas.{IsSplitAt, split_at, IsDeletedOrNot, deleted_or_not, synced_left, all_gone}

lower_least : (queue : LogQueue) (m n : ℕ) (tables : Tables) → m ≤ n → AreLeastFrom queue n tables → AreLeastFrom queue m tables
lower_least queue m n tables l low r seq e = let k : n ≤ seq = low r seq e in omega (arith, l, k)

module _ (content : EntryIndex → List ℕ) (base : ℕ → Records) (appended rewritten : List Deed) (tables : Tables) (n : ℕ)
    (h : IsSafe content base appended rewritten [] tables) (append_synced : IsSynced appended) (rewrite_synced : IsSynced rewritten) where
  abbrev all : List Event
  all = written appended

  abbrev moved : List Event
  moved = written rewritten

  -- both queues are synced, so it is enough that the tables are kept
  deletion : (appended' rewritten' : List Deed) → written appended' ≡ all → written rewritten' ≡ moved → IsSynced appended' → IsSynced rewritten'
      → ((i j : ℕ) → MayBeGone appended' i → MayBeGone rewritten' j → AreKept content (in_files_from i all) (in_files_from j moved) [] tables)
      → IsSafe content base appended' rewritten' [] tables
  deletion appended' rewritten' same_all same_moved a_synced r_synced kept = record {
    append_files = subst (FilesFrom Append 0) (sym same_all) h.append_files;
    rewrite_files = subst (FilesFrom Rewrite 0) (sym same_moved) h.rewrite_files;
    has = subst (λ l. HaveRecords content tables (live content base l)) (sym same_all) h.has;
    kept = here;
    left = λ standing append r rewrite x y.
        let a = synced_left appended' standing append a_synced x in
        let b = synced_left rewritten' r rewrite r_synced y in
        record {
          untold = [];
          tables = tables;
          kept = subst (λ l. AreKept content l rewrite [] tables) (sym a.left) (subst (λ l. AreKept content (in_files_from a.gone (written appended')) l [] tables) (sym b.left) (here a.gone b.gone a.may_go b.may_go));
          has = subst (λ l. HaveRecords content tables (live content base l)) (sym (a.stands ∙ same_all)) h.has;
        };
  }
    where
      here : (i j : ℕ) → MayBeGone appended' i → MayBeGone rewritten' j → AreKept content (in_files_from i (written appended')) (in_files_from j (written rewritten')) [] tables
      here i j g k = subst (λ l. AreKept content (in_files_from i l) (in_files_from j (written rewritten')) [] tables) (sym same_all)
          (subst (λ l. AreKept content (in_files_from i all) (in_files_from j l) [] tables) (sym same_moved) (kept i j g k))

  pub append_deleted : AreLeastFrom Append n tables → IsSafe content base (Delete n ∷ appended) rewritten [] tables
  append_deleted low = deletion (Delete n ∷ appended) rewritten refl refl append_synced rewrite_synced (λ i j g k. go i j k (deleted_or_not appended n i g))
    where
      go : (i j : ℕ) → MayBeGone rewritten j → IsDeletedOrNot appended n i → AreKept content (in_files_from i all) (in_files_from j moved) [] tables
      go i j k (inl g) = h.kept i j g k
      go i j k (inr p) =
          let s : IsSplitAt (deleted appended) i all = split_at Append (deleted appended) i 0 all p.0 h.append_files in
          let a : AreKept content (s.gone ++ in_files_from i all) (in_files_from j moved) [] tables = subst (λ l. AreKept content l (in_files_from j moved) [] tables) s.split (h.kept (deleted appended) j (all_gone appended) k) in
          shorter content i s.gone (in_files_from i all) (in_files_from j moved) tables a s.below
          (λ r. append_needs content (s.gone ++ in_files_from i all) (in_files_from j moved) [] tables a r i (lower_least Append i n tables p.1 low))

  pub rewrite_deleted : AreLeastFrom Rewrite n tables → ((i : ℕ) → MayBeGone (Delete n ∷ rewritten) i → EndNoOlderGroup (in_files_from i moved)) → IsSafe content base appended (Delete n ∷ rewritten) [] tables
  rewrite_deleted low end_none = deletion appended (Delete n ∷ rewritten) refl refl append_synced rewrite_synced (λ i j g k. go i j g k (deleted_or_not rewritten n j k))
    where
      go : (i j : ℕ) → MayBeGone appended i → MayBeGone (Delete n ∷ rewritten) j → IsDeletedOrNot rewritten n j → AreKept content (in_files_from i all) (in_files_from j moved) [] tables
      go i j g k (inl l) = h.kept i j g l
      go i j g k (inr p) =
          let s : IsSplitAt (deleted rewritten) j moved = split_at Rewrite (deleted rewritten) j 0 moved p.0 h.rewrite_files in
          let a : AreKept content (in_files_from i all) (s.gone ++ in_files_from j moved) [] tables = subst (λ l. AreKept content (in_files_from i all) l [] tables) s.split (h.kept i (deleted rewritten) g (all_gone rewritten)) in
          purged content j (in_files_from i all) s.gone (in_files_from j moved) tables a (none_across s.gone (in_files_from j moved) (end_none j k)) s.below
          (λ r. rewrite_needs content (in_files_from i all) (s.gone ++ in_files_from j moved) [] tables a r refl j (lower_least Rewrite j n tables p.1 low))
