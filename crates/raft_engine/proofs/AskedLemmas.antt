-- Asks of which one failed.
use Rattle.raft_engine.proofs.Common.{◌≡◌, ◌≢◌, ℕ, Result, Ok, Err, IfErr, OnOk, OnErr, List, [], ◌∷◌, ◌++◌, inl, inr, refl, sym, ap, ◌∙◌, subst, append_assoc, Error, LogQueue, Rewrite, Version, Item, Batch, Act, Ask, Begin, Cut, Delete, Found, MayBeAsked, Put, Read, Sync}
use Rattle.raft_engine.proofs.Common.{Unsynced, ask, failed_act, failed_ask, bytes_for, Failures, FailsAmong, asks_that_tell, missing_asks, told_asks, Missing, CutTail, ◌⊎◌}
use Rattle.raft_engine.specs.declared.missing.Missing.TheVariants as missings

-- the next one of these missing asks, the oldest, is a sync, and it is noted that it failed
pub record IsNextUnsynced (missing between new : List Ask) : Type 0 where
  pub later : List Ask
  pub queue : LogQueue
  pub next : missing ≡ later ++ ask queue Sync ∷ []
  pub noted : new ≡ ask queue Unsynced ∷ between

-- of what is wanted, newest first, some, none or all was asked, the oldest first, and it may be noted that a sync failed behind it
pub record AreAskedInPart (wanted old new : List Ask) : Type 0 where
  pub missing : List Ask
  pub made : List Ask
  pub split : wanted ≡ missing ++ made
  pub asked : (new ≡ made ++ old) ⊎ IsNextUnsynced missing (made ++ old) new

-- where the call for one failed
none_of : (queue : LogQueue) (act : Act) (later earlier wanted old new : List Ask) → wanted ≡ later ++ ask queue act ∷ earlier → new ≡ earlier ++ old → AreAskedInPart wanted old new
none_of queue act later earlier wanted old new split none = record {
  missing = later ++ ask queue act ∷ [];
  made = earlier;
  split = split ∙ sym (append_assoc later (ask queue act ∷ []) earlier);
  asked = inl none;
}

one_of : (queue : LogQueue) (act : Act) (later earlier wanted old new : List Ask) → wanted ≡ later ++ ask queue act ∷ earlier → new ≡ ask queue act ∷ (earlier ++ old) → AreAskedInPart wanted old new
one_of queue act later earlier wanted old new split one = record { missing = later; made = ask queue act ∷ earlier; split = split; asked = inl one }

part_of : (queue : LogQueue) (act : Act) (later earlier wanted old new : List Ask) → wanted ≡ later ++ ask queue act ∷ earlier → MayBeAsked (ask queue (failed_act act)) (earlier ++ old) new → AreAskedInPart wanted old new
part_of queue act later earlier wanted old new split (inl none) = none_of queue act later earlier wanted old new split none
part_of queue Sync later earlier wanted old new split (inr one) = record {
  missing = later ++ ask queue Sync ∷ [];
  made = earlier;
  split = split ∙ sym (append_assoc later (ask queue Sync ∷ []) earlier);
  asked = inr (record { later = later; queue = queue; next = refl; noted = one });
}
part_of queue (Put bytes) later earlier wanted old new split (inr one) = one_of queue (Put bytes) later earlier wanted old new split one
part_of queue (Begin seq) later earlier wanted old new split (inr one) = one_of queue (Begin seq) later earlier wanted old new split one
part_of queue Unsynced later earlier wanted old new split (inr one) = one_of queue Unsynced later earlier wanted old new split one
part_of queue Delete later earlier wanted old new split (inr one) = one_of queue Delete later earlier wanted old new split one
part_of queue (Cut len) later earlier wanted old new split (inr one) = one_of queue (Cut len) later earlier wanted old new split one
part_of queue (Found files) later earlier wanted old new split (inr one) = one_of queue (Found files) later earlier wanted old new split one
part_of queue (Read place bytes) later earlier wanted old new split (inr one) = one_of queue (Read place bytes) later earlier wanted old new split one

module _ (MayFail : Failures) where
  pub asked_part : (wanted old new : List Ask) (e : Error) → FailsAmong MayFail wanted old new e → AreAskedInPart wanted old new
  asked_part wanted old new e f = part_of f.failed.queue f.failed.act f.later f.earlier wanted old new f.split f.asked

  -- ---- one ask

  pub one_failed : (a : Ask) (old new : List Ask) (e : Error) → MayBeAsked (failed_ask a) old new → MayFail old a e → FailsAmong MayFail (a ∷ []) old new e
  one_failed a old new e may why = record { later = []; failed = a; earlier = []; split = refl; asked = may; why = why }

  one_so : {T : Type 0} (r : Result T Error) (a : Ask) (old new : List Ask) → OnErr r (MayBeAsked (failed_ask a) old new) → IfErr r (MayFail old a) → IfErr r (FailsAmong MayFail (a ∷ []) old new)
  one_so (Ok t) a old new may why = tt
  one_so (Err e) a old new may why = one_failed a old new e may why

  -- what is missing
  pub first_failed : {T : Type 0} (r : Result T Error) (queue : LogQueue) (missing : Missing) (old new : List Ask) → missing ≡ missings.FirstFile
      → OnErr r (MayBeAsked (ask queue (Begin 1)) old new) → IfErr r (MayFail old (ask queue (Begin 1))) → IfErr r (FailsAmong MayFail (missing_asks queue missing) old new)
  first_failed r queue missing old new is may why =
      subst (λ (m : Missing). IfErr r (FailsAmong MayFail (missing_asks queue m) old new)) (sym is) (one_so r (ask queue (Begin 1)) old new may why)

  pub cut_failed : {T : Type 0} (r : Result T Error) (queue : LogQueue) (missing : Missing) (tail : CutTail) (old new : List Ask) → missing ≡ missings.Cut tail
      → OnErr r (MayBeAsked (ask queue (Cut tail.offset)) old new) → IfErr r (MayFail old (ask queue (Cut tail.offset))) → IfErr r (FailsAmong MayFail (missing_asks queue missing) old new)
  cut_failed r queue missing tail old new is may why =
      subst (λ (m : Missing). IfErr r (FailsAmong MayFail (missing_asks queue m) old new)) (sym is) (one_so r (ask queue (Cut tail.offset)) old new may why)

  -- ---- one among others

  -- among the first ones
  pub part_failed : (more first old new : List Ask) (e : Error) → FailsAmong MayFail first old new e → FailsAmong MayFail (more ++ first) old new e
  part_failed more first old new e f = record {
    later = more ++ f.later;
    failed = f.failed;
    earlier = f.earlier;
    split = ap (λ (l : List Ask). more ++ l) f.split ∙ sym (append_assoc more f.later (f.failed ∷ f.earlier));
    asked = f.asked;
    why = f.why;
  }

  -- behind the first ones
  pub more_failed : (more first old between new : List Ask) (e : Error) → between ≡ first ++ old → FailsAmong MayFail more between new e → FailsAmong MayFail (more ++ first) old new e
  more_failed more first old between new e all f =
      let same : f.earlier ++ between ≡ (f.earlier ++ first) ++ old = ap (λ (l : List Ask). f.earlier ++ l) all ∙ sym (append_assoc f.earlier first old) in
      record {
        later = f.later;
        failed = f.failed;
        earlier = f.earlier ++ first;
        split = ap (λ (l : List Ask). l ++ first) f.split ∙ append_assoc f.later (f.failed ∷ f.earlier) first;
        asked = subst (λ (l : List Ask). MayBeAsked (failed_ask f.failed) l new) same f.asked;
        why = subst (λ (l : List Ask). MayFail l f.failed e) same f.why;
      }

  pub some_failed : {T : Type 0} (r : Result T Error) (more first old between new : List Ask) → between ≡ first ++ old → IfErr r (FailsAmong MayFail more between new) → IfErr r (FailsAmong MayFail (more ++ first) old new)
  some_failed (Ok t) more first old between new all f = tt
  some_failed (Err e) more first old between new all f = more_failed more first old between new e all f

-- ---- what tells the rewrite queue

pub some_tell : (version : Version) (seq : ℕ) (told : Batch) (items : List Item) → items ≢ [] → asks_that_tell version seq told items ≡ told_asks version seq told []
some_tell version seq told [] some = absurd (some refl)
some_tell version seq told (item ∷ items) some = refl

pub none_tell : (version : Version) (seq : ℕ) (told : Batch) (items : List Item) → items ≡ [] → asks_that_tell version seq told items ≡ []
none_tell version seq told items none = ap (asks_that_tell version seq told) none

module _ (MayFail : Failures) where
  -- a put that failed
  pub put_failed : (version : Version) (seq : ℕ) (told : Batch) (old new : List Ask) (a : Ask) (e : Error) → told.items ≢ []
      → a ≡ ask Rewrite (Put (bytes_for (record { id = record { queue = Rewrite; seq = seq }; version = version }) told))
      → MayBeAsked a old new → MayFail old a e → FailsAmong MayFail (asks_that_tell version seq told told.items) old new e
  put_failed version seq told old new a e some is may why =
      let put : Ask = ask Rewrite (Put (bytes_for (record { id = record { queue = Rewrite; seq = seq }; version = version }) told)) in
      subst (λ (l : List Ask). FailsAmong MayFail l old new e) (sym (some_tell version seq told told.items some))
      (part_failed MayFail (ask Rewrite Sync ∷ []) (put ∷ []) old new e
      (one_failed MayFail put old new e (subst (λ (x : Ask). MayBeAsked x old new) is may) (subst (λ (x : Ask). MayFail old x e) is why)))

  -- the sync that follows it, in any case
  pub told_so : (r : Result Unit Error) (version : Version) (seq : ℕ) (told : Batch) (old between new : List Ask) → told.items ≢ []
      → between ≡ ask Rewrite (Put (bytes_for (record { id = record { queue = Rewrite; seq = seq }; version = version }) told)) ∷ old
      → OnOk r (new ≡ ask Rewrite Sync ∷ between) → OnErr r (MayBeAsked (ask Rewrite Unsynced) between new) → IfErr r (MayFail between (ask Rewrite Sync))
      → OnOk r (new ≡ asks_that_tell version seq told told.items ++ old) × IfErr r (FailsAmong MayFail (asks_that_tell version seq told told.items) old new)
  told_so (Ok u) version seq told old between new some put all none why =
      (all ∙ ap (λ (l : List Ask). ask Rewrite Sync ∷ l) put ∙ ap (λ (l : List Ask). l ++ old) (sym (some_tell version seq told told.items some)), tt)
  told_so (Err e) version seq told old between new some put all none why = (
    tt,
    subst (λ (l : List Ask). FailsAmong MayFail l old new e) (sym (some_tell version seq told told.items some))
        (record {
          later = [];
          failed = ask Rewrite Sync;
          earlier = ask Rewrite (Put (bytes_for (record { id = record { queue = Rewrite; seq = seq }; version = version }) told)) ∷ [];
          split = refl;
          asked = subst (λ (l : List Ask). MayBeAsked (ask Rewrite Unsynced) l new) put none;
          why = subst (λ (l : List Ask). MayFail l (ask Rewrite Sync) e) put why;
        }),
  )
