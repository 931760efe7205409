-- Why a call breaks an engine.
use Rattle.raft_engine.proofs.Common.{◌≡◌, ◌≢◌, ℕ, zero, suc, ◌+◌, ◌-◌, ◌<◌, Bool, true, false, Result, Ok, Err, IfErr, OnErr, List, [], ◌∷◌, ◌++◌, refl, sym, ap, ◌∙◌, subst, arith, Error, LogFileContext, LogQueue, Append, Rewrite, Item, Batch, Stage, Ask, Delete, MayBeAsked}
use Rattle.raft_engine.proofs.Common.{Put, Sync, Unsynced, ask, failed_ask, bytes_for, Failures, FailsAmong, asks_of_items, delete_asks, put_asks, synced_if, IsWritableBatch, encoded_length, ◌^◌, AreInBytes, IsBatchOf, AreInRange}
use Rattle.raft_engine.proofs.AskedLemmas.{more_failed, one_failed, part_failed}

-- a batch that has items is put
some_put : (file : LogFileContext) (batch : Batch) (items : List Item) → items ≢ [] → asks_of_items file batch items ≡ ask file.id.queue (Put (bytes_for file batch)) ∷ []
some_put file batch [] some = absurd (some refl)
some_put file batch (item ∷ items) some = refl

none_put : (file : LogFileContext) (batch : Batch) (items : List Item) → items ≡ [] → asks_of_items file batch items ≡ []
none_put file batch items none = ap (asks_of_items file batch) none

-- it can be put
pub writable_of : {batch : Batch} → IsBatchOf batch.items batch.entry_bytes → AreInRange batch.items → AreInBytes batch.items → batch.items ≢ [] → encoded_length batch.items batch.entry_bytes < 2 ^ 56 → IsWritableBatch batch
writable_of tiled in_range in_bytes some short = record { tiled = tiled; in_range = in_range; in_bytes = in_bytes; some = some; short = short }

-- a sync that is wanted, behind others
synced_prefix : (sync : Bool) (asks : List Ask) → synced_if sync [] ++ asks ≡ synced_if sync asks
synced_prefix true asks = refl
synced_prefix false asks = refl

synced_more : (sync : Bool) (asks old : List Ask) → synced_if sync (asks ++ old) ≡ synced_if sync asks ++ old
synced_more true asks old = refl
synced_more false asks old = refl

-- its bytes, once they are made, were put
items_made : (file : LogFileContext) (batch : Batch) (s : Stage) (items : List Item) → asks_of_items file (record batch { stage = s }) items ≡ asks_of_items file batch items
items_made file batch s [] = refl
items_made file batch s (item ∷ items) = refl

put_made : (context file : LogFileContext) {s : Stage} (made batch : Batch) → context ≡ file → made ≡ record batch { stage = s } → put_asks context made ≡ put_asks file batch
put_made context file {s} made batch is_file is_made =
    ap (λ (c : LogFileContext). put_asks c made) is_file ∙ ap (λ (b : Batch). put_asks file b) is_made ∙ items_made file batch s batch.items

pub put_whole : (context file : LogFileContext) {s : Stage} (made batch : Batch) (old half : List Ask) → context ≡ file → made ≡ record batch { stage = s } → batch.items ≢ []
    → half ≡ ask context.id.queue (Put (bytes_for context made)) ∷ old → half ≡ put_asks file batch ++ old
put_whole context file made batch old half is_file is_made some is =
    let some_made : made.items ≢ [] = subst (λ (b : Batch). b.items ≢ []) (sym is_made) some in
    is ∙ ap (λ (l : List Ask). l ++ old) (sym (some_put context made made.items some_made) ∙ put_made context file made batch is_file is_made)

-- all was asked that is wanted for a batch
pub writing_whole : (context file : LogFileContext) {s : Stage} (made batch : Batch) (sync : Bool) (old half new : List Ask) → context ≡ file → made ≡ record batch { stage = s } → batch.items ≢ []
    → half ≡ ask context.id.queue (Put (bytes_for context made)) ∷ old → new ≡ synced_if sync half → new ≡ synced_if sync (put_asks file batch) ++ old
writing_whole context file made batch sync old half new is_file is_made some is all =
    all ∙ ap (synced_if sync) (put_whole context file made batch old half is_file is_made some is) ∙ synced_more sync (put_asks file batch) old

module _ (MayFail : Failures) where
  -- ---- two asks

  -- the first of two
  pub first_of_two : (b a : Ask) (old new : List Ask) (e : Error) → MayBeAsked (failed_ask a) old new → MayFail old a e → FailsAmong MayFail (b ∷ a ∷ []) old new e
  first_of_two b a old new e may why = record { later = b ∷ []; failed = a; earlier = []; split = refl; asked = may; why = why }

  -- the second one
  pub second_of_two : (b a : Ask) (old half new : List Ask) (e : Error) → half ≡ a ∷ old → MayBeAsked (failed_ask b) half new → MayFail half b e → FailsAmong MayFail (b ∷ a ∷ []) old new e
  second_of_two b a old half new e is may why = more_failed MayFail (b ∷ []) (a ∷ []) old half new e is (one_failed MayFail b half new e may why)

  -- ---- a batch

  -- one that is put if it has items
  pub put_fails : (file : LogFileContext) (batch : Batch) (old new : List Ask) (e : Error) → batch.items ≢ []
      → MayBeAsked (ask file.id.queue (Put (bytes_for file batch))) old new → MayFail old (ask file.id.queue (Put (bytes_for file batch))) e → FailsAmong MayFail (put_asks file batch) old new e
  put_fails file batch old new e some may why =
      subst (λ (l : List Ask). FailsAmong MayFail l old new e) (sym (some_put file batch batch.items some)) (one_failed MayFail (ask file.id.queue (Put (bytes_for file batch))) old new e may why)

  pub put_so : {T : Type 0} (r : Result T Error) (file : LogFileContext) (batch : Batch) (old new : List Ask) → batch.items ≢ []
      → OnErr r (MayBeAsked (ask file.id.queue (Put (bytes_for file batch))) old new) → IfErr r (MayFail old (ask file.id.queue (Put (bytes_for file batch)))) → IfErr r (FailsAmong MayFail (put_asks file batch) old new)
  put_so (Ok u) file batch old new some may why = tt
  put_so (Err e) file batch old new some may why = put_fails file batch old new e some may why

  -- its bytes are the same once they are made
  pub put_made_fails : (context file : LogFileContext) {s : Stage} (made batch : Batch) (old new : List Ask) (e : Error) → context ≡ file → made ≡ record batch { stage = s }
      → FailsAmong MayFail (put_asks context made) old new e → FailsAmong MayFail (put_asks file batch) old new e
  put_made_fails context file made batch old new e is_file is_made f =
      subst (λ (l : List Ask). FailsAmong MayFail l old new e) (put_made context file made batch is_file is_made) f

  pub made_fails : (context file : LogFileContext) {s : Stage} (made batch : Batch) (old new : List Ask) (e : Error) → context ≡ file → made ≡ record batch { stage = s } → batch.items ≢ []
      → MayBeAsked (ask context.id.queue (Put (bytes_for context made))) old new → MayFail old (ask context.id.queue (Put (bytes_for context made))) e → FailsAmong MayFail (put_asks file batch) old new e
  made_fails context file made batch old new e is_file is_made some may why =
      let some_made : made.items ≢ [] = subst (λ (b : Batch). b.items ≢ []) (sym is_made) some in
      put_made_fails context file made batch old new e is_file is_made (put_fails context made old new e some_made may why)

  -- ---- a sync that may be wanted

  pub sync_so : {T : Type 0} (r : Result T Error) (sync : Bool) (old new : List Ask) → sync ≡ true → OnErr r (MayBeAsked (ask Append Unsynced) old new) → IfErr r (MayFail old (ask Append Sync)) → IfErr r (FailsAmong MayFail (synced_if sync []) old new)
  sync_so (Ok u) sync old new is none why = tt
  sync_so (Err e) sync old new is may why = subst (λ (s : Bool). FailsAmong MayFail (synced_if s []) old new e) (sym is) (one_failed MayFail (ask Append Sync) old new e may why)

  -- ---- deletions

  module _ (queue : LogQueue) where
    delete_more : (a b : ℕ) → delete_asks queue (a + b) ≡ delete_asks queue a ++ delete_asks queue b
    delete_more zero b = ap (delete_asks queue) (let z : 0 + b ≡ b = omega arith in z)
    delete_more (suc a) b = ap (delete_asks queue) (let z : suc a + b ≡ suc (a + b) = omega arith in z) ∙ ap (λ (l : List Ask). ask queue Delete ∷ l) (delete_more a b)

    delete_split : (n m count : ℕ) → count ≡ m + suc n → delete_asks queue count ≡ delete_asks queue m ++ ask queue Delete ∷ delete_asks queue n
    delete_split n m count is = ap (delete_asks queue) is ∙ delete_more m (suc n)

    pub deletion_fails : (n count : ℕ) → n < count → (before old new : List Ask) (e : Error) → before ≡ delete_asks queue n ++ old → MayBeAsked (ask queue Delete) before new
        → MayFail before (ask queue Delete) e → FailsAmong MayFail (delete_asks queue count) old new e
    deletion_fails n count low before old new e is may why = record {
      later = delete_asks queue (count - suc n);
      failed = ask queue Delete;
      earlier = delete_asks queue n;
      split = delete_split n (count - suc n) count (omega (arith, low));
      asked = subst (λ (l : List Ask). MayBeAsked (ask queue Delete) l new) is may;
      why = subst (λ (l : List Ask). MayFail l (ask queue Delete) e) is why;
    }

  -- the sync before the deletions, or one of them
  pub sync_before : (queue : LogQueue) (count : ℕ) (old new : List Ask) (e : Error) → MayBeAsked (ask Rewrite Unsynced) old new → MayFail old (ask Rewrite Sync) e → FailsAmong MayFail (delete_asks queue count ++ ask Rewrite Sync ∷ []) old new e
  sync_before queue count old new e may why = part_failed MayFail (delete_asks queue count) (ask Rewrite Sync ∷ []) old new e (one_failed MayFail (ask Rewrite Sync) old new e may why)

  pub deletion_behind : (queue : LogQueue) (count : ℕ) (old half new : List Ask) (e : Error) → half ≡ ask Rewrite Sync ∷ old → FailsAmong MayFail (delete_asks queue count) half new e
      → FailsAmong MayFail (delete_asks queue count ++ ask Rewrite Sync ∷ []) old new e
  deletion_behind queue count old half new e is f = more_failed MayFail (delete_asks queue count) (ask Rewrite Sync ∷ []) old half new e is f

  -- ---- a batch that is written

  -- its bytes aren't put
  pub writing_put : (context file : LogFileContext) {s : Stage} (made batch : Batch) (sync : Bool) (old new : List Ask) (e : Error) → context ≡ file → made ≡ record batch { stage = s } → batch.items ≢ []
      → MayBeAsked (ask context.id.queue (Put (bytes_for context made))) old new → MayFail old (ask context.id.queue (Put (bytes_for context made))) e
      → FailsAmong MayFail (synced_if sync (put_asks file batch)) old new e
  writing_put context file made batch sync old new e is_file is_made some may why =
      let f = made_fails context file made batch old new e is_file is_made some may why in
      subst (λ (l : List Ask). FailsAmong MayFail l old new e) (synced_prefix sync (put_asks file batch)) (part_failed MayFail (synced_if sync []) (put_asks file batch) old new e f)

  -- they are put, but not synced
  pub writing_sync : (context file : LogFileContext) {s : Stage} (made batch : Batch) (sync : Bool) (old half new : List Ask) (e : Error) → context ≡ file → made ≡ record batch { stage = s } → batch.items ≢ []
      → half ≡ ask context.id.queue (Put (bytes_for context made)) ∷ old → FailsAmong MayFail (synced_if sync []) half new e → FailsAmong MayFail (synced_if sync (put_asks file batch)) old new e
  writing_sync context file made batch sync old half new e is_file is_made some is f =
      subst (λ (l : List Ask). FailsAmong MayFail l old new e) (synced_prefix sync (put_asks file batch))
      (more_failed MayFail (synced_if sync []) (put_asks file batch) old half new e (put_whole context file made batch old half is_file is_made some is) f)

  -- nothing is put, and the sync fails
  pub writing_none : (file : LogFileContext) (batch : Batch) (sync : Bool) (old new : List Ask) (e : Error) → batch.items ≡ [] → FailsAmong MayFail (synced_if sync []) old new e
      → FailsAmong MayFail (synced_if sync (put_asks file batch)) old new e
  writing_none file batch sync old new e none f = subst (λ (l : List Ask). FailsAmong MayFail (synced_if sync l) old new e) (sym (none_put file batch batch.items none)) f
