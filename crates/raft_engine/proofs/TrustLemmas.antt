-- What is asked is to be trusted so long as no sync failed, and behind a failed one so long as nothing is asked but reads.
use Rattle.raft_engine.proofs.Common.{ℕ, zero, suc, Bool, true, false, List, [], ◌∷◌, ◌++◌, inl, inr, refl, sym, ap, ◌∙◌, subst, append_assoc, AllByRecursion, LogFileContext, LogQueue, Version, Item, Batch, Ask, IsNoFailedSync, IsReadOrUnsynced, IsTrusted, MayBeAsked}
use Rattle.raft_engine.proofs.Common.{NoSyncFailed, Unsynced, ask, puts_asks, asks_that_tell, missing_asks, asks_of_items, delete_asks, put_asks, AreOnlyRead, AreReads, synced_if, Missing}
use Rattle.raft_engine.specs.declared.missing.Missing.TheVariants as missings

pub unfailed_trusted : (asks : List Ask) → NoSyncFailed asks → IsTrusted asks
unfailed_trusted asks none = record { since = []; before = asks; split = refl; none = none; only = tt }

-- one sync may have failed
pub failed_trusted : (queue : LogQueue) (asks : List Ask) → NoSyncFailed asks → IsTrusted (ask queue Unsynced ∷ asks)
failed_trusted queue asks none = record { since = ask queue Unsynced ∷ []; before = asks; split = refl; none = none; only = (tt, tt) }

pub may_trusted : (queue : LogQueue) (old new : List Ask) → MayBeAsked (ask queue Unsynced) old new → NoSyncFailed old → IsTrusted new
may_trusted queue old new (inl e) none = subst IsTrusted (sym e) (unfailed_trusted old none)
may_trusted queue old new (inr e) none = subst IsTrusted (sym e) (failed_trusted queue old none)

-- ---- lists

pub both_unfailed : (xs ys : List Ask) → NoSyncFailed xs → NoSyncFailed ys → NoSyncFailed (xs ++ ys)
both_unfailed [] ys a b = b
both_unfailed (x ∷ xs) ys a b = (a.0, both_unfailed xs ys a.1 b)

back_unfailed : (xs ys : List Ask) → NoSyncFailed (xs ++ ys) → NoSyncFailed ys
back_unfailed [] ys a = a
back_unfailed (x ∷ xs) ys a = back_unfailed xs ys a.1

both_only : (xs ys : List Ask) → AllByRecursion (λ (a : Ask). IsReadOrUnsynced a.act) xs → AllByRecursion (λ (a : Ask). IsReadOrUnsynced a.act) ys → AllByRecursion (λ (a : Ask). IsReadOrUnsynced a.act) (xs ++ ys)
both_only [] ys a b = b
both_only (x ∷ xs) ys a b = (a.0, both_only xs ys a.1 b)

-- this is asked, or nothing is
pub asked_unfailed : (a : Ask) (old new : List Ask) → IsNoFailedSync a.act → MayBeAsked a old new → NoSyncFailed old → NoSyncFailed new
asked_unfailed a old new is (inl e) none = subst NoSyncFailed (sym e) none
asked_unfailed a old new is (inr e) none = subst NoSyncFailed (sym e) (is, none)

-- ---- reads

reads_only : (reads : List Ask) → AreReads reads → AllByRecursion (λ (a : Ask). IsReadOrUnsynced a.act) reads
reads_only [] r = tt
reads_only (a ∷ reads) r = (subst (λ (x : Ask). IsReadOrUnsynced x.act) (sym r.0.2) tt, reads_only reads r.1)

no_failed : (reads : List Ask) → AreReads reads → NoSyncFailed reads
no_failed [] r = tt
no_failed (a ∷ reads) r = (subst (λ (x : Ask). IsNoFailedSync x.act) (sym r.0.2) tt, no_failed reads r.1)

pub reads_unfailed : (old new : List Ask) → AreOnlyRead old new → NoSyncFailed old → NoSyncFailed new
reads_unfailed old new r none = subst NoSyncFailed (sym r.asked) (both_unfailed r.reads old (no_failed r.reads r.only) none)

pub reads_trusted : (old new : List Ask) → AreOnlyRead old new → IsTrusted old → IsTrusted new
reads_trusted old new r t = record {
  since = r.reads ++ t.since;
  before = t.before;
  split = r.asked ∙ ap (λ (l : List Ask). r.reads ++ l) t.split ∙ sym (append_assoc r.reads t.since t.before);
  none = t.none;
  only = both_only r.reads t.since (reads_only r.reads r.only) t.only;
}

-- ---- what an engine asks

items_unfailed : (file : LogFileContext) (batch : Batch) (items : List Item) → NoSyncFailed (asks_of_items file batch items)
items_unfailed file batch [] = tt
items_unfailed file batch (item ∷ items) = (tt, tt)

pub put_unfailed : (file : LogFileContext) (batch : Batch) (asks : List Ask) → NoSyncFailed asks → NoSyncFailed (put_asks file batch ++ asks)
put_unfailed file batch asks none = both_unfailed (put_asks file batch) asks (items_unfailed file batch batch.items) none

pub synced_unfailed : (sync : Bool) (asks : List Ask) → NoSyncFailed asks → NoSyncFailed (synced_if sync asks)
synced_unfailed true asks none = (tt, none)
synced_unfailed false asks none = none

pub delete_unfailed : (queue : LogQueue) (count : ℕ) (asks : List Ask) → NoSyncFailed asks → NoSyncFailed (delete_asks queue count ++ asks)
delete_unfailed queue zero asks none = none
delete_unfailed queue (suc count) asks none = (tt, delete_unfailed queue count asks none)

pub puts_unfailed : (file : LogFileContext) (batches : List Batch) (asks : List Ask) → NoSyncFailed asks → NoSyncFailed (puts_asks file batches asks)
puts_unfailed file [] asks none = none
puts_unfailed file (batch ∷ batches) asks none = puts_unfailed file batches _ (tt, none)

missing_unfailed : (queue : LogQueue) (missing : Missing) → NoSyncFailed (missing_asks queue missing)
missing_unfailed queue missings.Nothing = tt
missing_unfailed queue missings.FirstFile = (tt, tt)
missing_unfailed queue (missings.Cut tail) = (tt, tt)

tell_unfailed : (version : Version) (seq : ℕ) (told : Batch) (items : List Item) → NoSyncFailed (asks_that_tell version seq told items)
tell_unfailed version seq told [] = tt
tell_unfailed version seq told (item ∷ items) = (tt, (tt, tt))

-- what an opening asks
pub opening_unfailed : (version : Version) (seq : ℕ) (told : Batch) (one other : LogQueue) (append rewrite : Missing) (asks : List Ask) → NoSyncFailed asks
    → NoSyncFailed ((asks_that_tell version seq told told.items ++ (missing_asks one rewrite ++ missing_asks other append)) ++ asks)
opening_unfailed version seq told one other append rewrite asks none =
    both_unfailed (asks_that_tell version seq told told.items ++ (missing_asks one rewrite ++ missing_asks other append)) asks
    (both_unfailed (asks_that_tell version seq told told.items) (missing_asks one rewrite ++ missing_asks other append) (tell_unfailed version seq told told.items)
    (both_unfailed (missing_asks one rewrite) (missing_asks other append) (missing_unfailed one rewrite) (missing_unfailed other append))) none
