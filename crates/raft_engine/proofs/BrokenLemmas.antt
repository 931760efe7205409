-- An engine whose files failed.
use Rattle.raft_engine.proofs.Common.{◌≡◌, ℕ, zero, suc, ◌≤◌, List, [], ◌∷◌, ◌++◌, inl, inr, sym, subst, append_assoc, arith, Error, LogFileContext, LogQueue, Version, Item, Batch, Tables, Accessor, Act, Ask, Begin, Cut, Delete, Found, NoSyncFailed, Put, Read, Sync}
use Rattle.raft_engine.proofs.Common.{Unsynced, ask, failed_act, Failures, IsKeptBy, asks_of_items, delete_asks, FailedSyncsAreStored, QueueFiles, FailsAmong, AreKeptStored, Bases, false}
use Rattle.raft_engine.proofs.TrustLemmas.{failed_trusted, unfailed_trusted}

-- ---- each first part of what is asked

-- of these asks, newest first, behind what was asked before
abbrev pub AreEver : (List Ask → Type 0) → List Ask → List Ask → Type 0
AreEver P [] old = P old
AreEver P (a ∷ asks) old = P (a ∷ asks ++ old) × AreEver P asks old

pub all_ever : (P : List Ask → Type 0) (asks old : List Ask) → AreEver P asks old → P (asks ++ old)
all_ever P [] old h = h
all_ever P (a ∷ asks) old h = h.0

first_ever : (P : List Ask → Type 0) (later first old : List Ask) → AreEver P (later ++ first) old → AreEver P first old
first_ever P [] first old h = h
first_ever P (a ∷ later) first old h = first_ever P later first old h.1

-- more behind the first ones
pub more_ever : (P : List Ask → Type 0) (more first old : List Ask) → AreEver P more (first ++ old) → AreEver P first old → AreEver P (more ++ first) old
more_ever P [] first old m f = f
more_ever P (a ∷ more) first old m f = (subst (λ (l : List Ask). P (a ∷ l)) (sym (append_assoc more first old)) m.0, more_ever P more first old m.1 f)

-- a batch that is put, if it has items
pub put_ever : (P : List Ask → Type 0) (file : LogFileContext) (batch : Batch) (items : List Item) (old : List Ask) → P (asks_of_items file batch items ++ old) → P old → AreEver P (asks_of_items file batch items) old
put_ever P file batch [] old put none = none
put_ever P file batch (item ∷ items) old put none = (put, none)

-- deletions
pub deletes_ever : (P : List Ask → Type 0) (queue : LogQueue) (n : ℕ) (old : List Ask) → ((m : ℕ) → m ≤ n → P (delete_asks queue m ++ old)) → AreEver P (delete_asks queue n) old
deletes_ever P queue zero old h = h 0 (omega arith)
deletes_ever P queue (suc n) old h = (h (suc n) (omega arith), deletes_ever P queue n old (λ m low. h m (omega (arith, low))))

-- ---- an engine that isn't intact any more

-- what was asked is stored, and no sync failed
pub record AreSafe (version : Version) (asks : List Ask) : Type 0 where
  pub base : Bases
  pub untold : List Item
  pub tables : Tables
  pub stored : AreKeptStored version asks base untold tables
  pub none : NoSyncFailed asks

pub stored_kept : (version : Version) (asks : List Ask) (append rewrite : QueueFiles) (untold : Batch) (accessor : Accessor) → AreSafe version asks → IsKeptBy version asks append rewrite untold accessor false
stored_kept version asks append rewrite untold accessor s = record { base = s.base; untold = s.untold; tables = s.tables; stored = s.stored; trusted = unfailed_trusted asks s.none; whole = λ no. absurd cc }

-- the files failed at one of the asks that were wanted, of which each first part is stored
module _ (unsynced : FailedSyncsAreStored) (version : Version) (new : List Ask) (append rewrite : QueueFiles) (untold : Batch) (accessor : Accessor) where
  not_asked : (earlier : List Ask) → AreSafe version earlier → new ≡ earlier → IsKeptBy version new append rewrite untold accessor false
  not_asked earlier s e = subst (λ (l : List Ask). IsKeptBy version l append rewrite untold accessor false) (sym e) (stored_kept version earlier append rewrite untold accessor s)

  half_asked : (queue : LogQueue) (act : Act) (earlier : List Ask) → AreSafe version (ask queue act ∷ earlier) → AreSafe version earlier → new ≡ ask queue (failed_act act) ∷ earlier
      → IsKeptBy version new append rewrite untold accessor false
  half_asked queue Sync earlier whole s e = subst (λ (l : List Ask). IsKeptBy version l append rewrite untold accessor false) (sym e) (record {
    base = s.base;
    untold = s.untold;
    tables = s.tables;
    stored = unsynced queue version earlier s.base s.untold s.tables s.stored;
    trusted = failed_trusted queue earlier s.none;
    whole = λ no. absurd cc;
  })
  half_asked queue (Put bytes) earlier whole s e = not_asked (ask queue (Put bytes) ∷ earlier) whole e
  half_asked queue (Begin seq) earlier whole s e = not_asked (ask queue (Begin seq) ∷ earlier) whole e
  half_asked queue Unsynced earlier whole s e = not_asked (ask queue Unsynced ∷ earlier) whole e
  half_asked queue Delete earlier whole s e = not_asked (ask queue Delete ∷ earlier) whole e
  half_asked queue (Cut len) earlier whole s e = not_asked (ask queue (Cut len) ∷ earlier) whole e
  half_asked queue (Found files) earlier whole s e = not_asked (ask queue (Found files) ∷ earlier) whole e
  half_asked queue (Read place bytes) earlier whole s e = not_asked (ask queue (Read place bytes) ∷ earlier) whole e

  pub broken_kept : (MayFail : Failures) (wanted old : List Ask) (e : Error) → AreEver (AreSafe version) wanted old → FailsAmong MayFail wanted old new e → IsKeptBy version new append rewrite untold accessor false
  broken_kept MayFail wanted old e ever f =
      let first = first_ever (AreSafe version) f.later (f.failed ∷ f.earlier) old (subst (λ (l : List Ask). AreEver (AreSafe version) l old) f.split ever) in
      let before : AreSafe version (f.earlier ++ old) = all_ever (AreSafe version) f.earlier old first.1 in
      elim f.asked [
        | inl none ↦ not_asked (f.earlier ++ old) before none
        | inr one ↦ half_asked f.failed.queue f.failed.act (f.earlier ++ old) first.0 before one
      ]
