-- A region's table changed by a call, made where there is none, and steps and rewritings on it.
use Rattle.raft_accessor.proofs.Common.{on_ok_weaker, Full, Memory, Append, Rewrite, ◌≡◌, ℕ, Option, Some, Result, Ok, Err, refl, sym, ap, subst, ◌∙◌, inl, inr, OnOk, OnErr, Error, Counts, table_of, Table, IsRecounted, Tables, table_in}
use Rattle.raft_accessor.proofs.Common.{MutBor, TableCall, TableCalls, MayChange, IsUpdated, BecomesOutcome, IsRunTried, None, List, EntryIndex, LogQueue, other, after_replay, live_of, counts_with_run, start_of, end_of, ◌⊎◌, ◌≤◌, ◌+◌, ◌^◌}
use Rattle.raft_accessor.proofs.Common.{arith, live, IsInserted, ◌≢◌, Bool, true, false, MatchBool, cond, [], ◌∷◌, ◌++◌, append-nil, option_map, IfErr, false≢true, FileId, OpType, is_reserved, Item, Content, Pair, entries, command, pair}
use Rattle.raft_accessor.proofs.Common.{item_step, RegionStep, with_table, content_step, command_step, pair_step, cleaned_by_steps, with_added, file_at, Step, Run, Put, Del, Clean, after_step, empty_table, with_pair, with_pair_deleted}
use Rattle.raft_accessor.proofs.Common.{with_table_deleted, IsTablePutFault, IsUnmixed, counts_after_step, IsStepFault, IsItemWritten, IsReplayed, IsPairReplayed, IsStepTaken, Replaying, after_content, counts_after_content}
use Rattle.raft_accessor.proofs.Common.{counts_after_change, listed_by, IsFor, MixesQueues, IsWriteFault}
use Rattle.raft_accessor.proofs.MapLemmas.{get_own, insert_same, one_written, one_same, get_gone, none_some, some_is}
use Rattle.raft_accessor.proofs.WriteLemmas.{replay_fault, skipped_by, none_listed, reserved_step, reserved_counts, change_step}
use Rattle.std.specs.FinMap as finite
use Rattle.raft_base.specs.declared.errors.Error.TheVariants as errors
use Rattle.raft_records.specs.declared.command.Command.TheVariants as commands
use Rattle.raft_records.specs.declared.key_value.OpType.TheVariants as operations

module _ {F R : Type 0} (g : TableCall F R) (f : F) (m : Tables) (id : ℕ) (counts : Counts) where
  -- a call as it was made
  pub calls-so : {r : Result R Error} {old : Table} (table : MutBor Table) (stats : MutBor Counts) (left : MutBor Table) (left_stats : MutBor Counts) → table.now ≡ old →
      stats.now ≡ counts → g.post f (table, (stats, tt)) (r, (left, (left_stats, tt)))
      → TableCalls g f old counts r left.now left_stats.now
  calls-so table stats left left_stats e k met = record { table = table; stats = stats; shows = (e, k); left = left; left_stats = left_stats; met = met; leaves = (refl, refl) }

  -- the table was there, or it was made and the call did not refuse
  pub updated : (r : Result R Error) (new : Table) (after : Counts) (n : Tables) → ((x : Error) → r ≡ Err x → finite.get m id ≡ Some (table_in m id)) →
      MayChange g f (table_in m id) counts → TableCalls g f (table_in m id) counts r new after → n ≡ finite.insert m id new →
      IsUpdated g f m id counts r n after
  updated r new after n there may ch e =
      let now : table_in n id ≡ new = ap (λ x. table_in x id) e ∙ ap (table_of id) (get_own m id new) in
      let here : TableCalls g f (table_in m id) counts r (table_in n id) after = subst (λ x. TableCalls g f (table_in m id) counts r x after) (sym now) ch in
      record {
        changed = inl here;
        ok = elim r as (λ r. OnOk r (n ≡ finite.insert m id (table_in n id))) [ Ok a ↦ e ∙ ap (finite.insert m id) (sym now) | Err x ↦ tt ];
        there = elim r as (λ r. OnOk r (finite.get n id ≡ Some (table_in n id))) [ Ok a ↦ ap (λ x. finite.get x id) e ∙ get_own m id new ∙ ap Some (sym now) | Err x ↦ tt ];
        err = elim r as (λ s. r ≡ s → OnErr s (new ≡ table_in m id) → OnErr s (n ≡ m)) [ Ok a ↦ λ is k. tt | Err x ↦ λ is k. e ∙ insert_same m id new (there x is ∙ ap Some (sym k)) ] refl (may.kept r new after ch);
        counts_err = may.kept_counts r new after ch;
        one = one_written m n id new e;
        recounted = may.counted r (table_in n id) after here;
      }

  -- the table that would have been made was refused
  pub refused : (x : Error) (new : Table) (after : Counts) (n : Tables) → MayChange g f (table_in m id) counts → TableCalls g f (table_in m id) counts (Err x) new after → n ≡ m → IsUpdated g f m id counts (Err x) n after
  refused x new after n may ch e =
      let kept : new ≡ table_in m id = may.kept (Err x) new after ch in
      let now : table_in n id ≡ new = ap (λ y. table_in y id) e ∙ sym kept in
      let here : TableCalls g f (table_in m id) counts (Err x) (table_in n id) after = subst (λ y. TableCalls g f (table_in m id) counts (Err x) y after) (sym now) ch in
      record {
        changed = inl here;
        ok = tt;
        there = tt;
        err = e;
        counts_err = may.kept_counts (Err x) new after ch;
        one = one_same m n id e;
        recounted = may.counted (Err x) (table_in n id) after here;
      }

  -- there was no memory for a table
  pub no_memory : (n : Tables) → n ≡ m → IsUpdated g f m id counts (Err Memory) n counts
  no_memory n e =
      let now : table_in n id ≡ table_in m id = ap (λ y. table_in y id) e in
      record {
        changed = inr (refl, now, refl);
        ok = tt;
        there = tt;
        err = e;
        counts_err = refl;
        one = one_same m n id e;
        recounted = λ q. subst (λ t. IsRecounted (table_in m id) t counts counts) (sym now) (λ q. refl) q;
      }

-- a table becomes the outcome of a change
taken : {R : Type 0} (m n : Tables) (id : ℕ) (u new : Table) (outcome : Table → Option Table) (IsFault : Error → Type 0) (counts after : Counts)
    (a : R) → table_in m id ≡ u → outcome u ≡ Some new → IsRecounted u new counts after → n ≡ finite.insert m id new →
    BecomesOutcome (outcome (table_in m id)) IsFault m id counts (Ok a) n after
taken m n id u new outcome IsFault counts after a was o r e =
    let now : table_in n id ≡ new = ap (λ x. table_in x id) e ∙ ap (table_of id) (get_own m id new) in
    record {
      ok = ap outcome was ∙ o ∙ ap Some (sym now);
      there = ap (λ x. finite.get x id) e ∙ get_own m id new ∙ ap Some (sym now);
      err = tt;
      counts_err = tt;
      fault = tt;
      one = one_written m n id new e;
      recounted = subst (λ t. IsRecounted t (table_in n id) counts after) (sym was) (subst (λ t. IsRecounted u t counts after) (sym now) r);
    }

-- a change that is not made, as for want of memory
not_taken : {R : Type 0} (m n : Tables) (id : ℕ) (outcome : Option Table) (IsFault : Error → Type 0) (counts after : Counts) → n ≡ m → after ≡ counts → BecomesOutcome {R = R} outcome IsFault m id counts (Err Memory) n after
not_taken m n id outcome IsFault counts after e k =
    let now : table_in n id ≡ table_in m id = ap (λ y. table_in y id) e in
    record {
      ok = tt;
      there = tt;
      err = e;
      counts_err = k;
      fault = inl refl;
      one = one_same m n id e;
      recounted = subst (λ c. IsRecounted (table_in m id) (table_in n id) counts c) (sym k) (subst (λ t. IsRecounted (table_in m id) t counts counts) (sym now) (λ q. refl));
    }

-- a run that is read again was put
pub run_put : (q : LogQueue) (id : ℕ) (run : List EntryIndex) (m n : Tables) (u new : Table) (counts after : Counts) (ends : ℕ × ℕ) → table_in m id ≡ u → ends ≡ (start_of u.entries, end_of u.entries)
    → (after_replay q u run ≡ Some new) × (live_of (other q) u ≡ 0) × (after ≡ counts_with_run q u.entries run counts) → IsRecounted u new counts after → n ≡ finite.insert m id new → IsRunTried q id run m counts (Some ends) n after
run_put q id run m n u new counts after ends was e done r is = record {
  outcome = taken m n id u new (λ t. after_replay q t run) (λ e. ⊥) counts after ends was done.0 r is;
  accepted = ap (live_of (other q)) was ∙ done.1;
  counts_ok = done.2 ∙ ap (λ (t : Table). counts_with_run q t.entries run counts) (sym was);
  ends = e ∙ ap (λ (t : Table). (start_of t.entries, end_of t.entries)) (sym was);
}

-- or not
pub not_put : (q : LogQueue) (id : ℕ) (run : List EntryIndex) (m n : Tables) (counts after : Counts) → n ≡ m → after ≡ counts → IsRunTried q id run m counts None n after
not_put q id run m n counts after e k = record { outcome = not_taken m n id _ (λ e. ⊥) counts after e k; accepted = tt; counts_ok = tt; ends = tt }

-- a table that is not put
pub not_inserted : (id : ℕ) (table : Table) (m n : Tables) (counts after : Counts) (x : Error) → n ≡ m → after ≡ counts → (x ≡ Memory) ⊎ ((x ≡ Full) × ((q : LogQueue) × (2 ^ 64 ≤ live q counts + live_of q table)))
    → IsInserted id table m counts (Err x) n after
not_inserted id table m n counts after x e k fault = record {
  ok = tt;
  replaced = tt;
  own = tt;
  counts = tt;
  err = e;
  counts_err = k;
  fault = fault;
  one = one_same m n id e;
  recounted = λ q. omega (arith, ap (live q) k, ap (λ r. live_of q (table_in r id)) e);
}

-- ---- items that are read again, written by their steps

-- a content that is read again does what a step does
record DoesStep (q : LogQueue) (id : ℕ) (content : Content) (s : Step) : Type 0 where
  asked : IsFor (Replaying q) content
  alone : (t : Table) → IsUnmixed q t s → MixesQueues (Replaying q) t content → ⊥
  after : (o : Option Table) → after_content (Replaying q) id o content ≡ after_step q (table_of id o) s
  counted : (t : Table) (k : Counts) → counts_after_content (Replaying q) t content k ≡ counts_after_step q t s k
  listed : listed_by (Replaying q) (record { raft_group_id = id; content = content }) ≡ cleaned_by_steps q (record { region = id; step = s } ∷ [])
  fault : (o : Option Table) (k : Counts) (e : Error) → IsStepFault q (table_of id o) k s e → IsWriteFault (Replaying q) id o (live q k) content e

none_listed_by : (q : LogQueue) (id : ℕ) (content : Content) (s : Step) →
    listed_by (Replaying Append) (record { raft_group_id = id; content = content }) ≡ cleaned_by_steps Append
    (record { region = id; step = s } ∷ []) → listed_by (Replaying q) (record { raft_group_id = id; content = content }) ≡ cleaned_by_steps q
    (record { region = id; step = s } ∷ [])
none_listed_by Append id content s e = e
none_listed_by Rewrite id content s e = refl

module _ (q : LogQueue) (id : ℕ) where
  put_fault : (p : Pair) (file : FileId) (replaced : Option FileId) (o : Option Table) (k : Counts) (e : Error) → file.queue ≡ q → IsTablePutFault file.queue k replaced e → IsWriteFault (Replaying q) id o (live q k) (pair p) e
  put_fault p file replaced o k errors.Full is f = (subst (λ q. IsTablePutFault q k replaced errors.Full) is f).0
  put_fault p file replaced o k errors.Memory is f = tt
  put_fault p file replaced o k e is f = absurd f

  pair_does : (key : List ℕ) (op : OpType) (value : Option (List ℕ)) (file : Option FileId) (s : Step) → is_reserved key ≡ false →
      IsPairReplayed q op value file → pair_step op key value file ≡ Some s →
      DoesStep q id (pair (record { op_type = op; key = key; value = value; file_id = file })) s
  pair_does key operations.Put (Some value) (Some file) s h k e =
      let p : Pair = record { op_type = operations.Put; key = key; value = Some value; file_id = Some file } in
      subst (DoesStep q id (pair p)) (some_is e) (record {
        asked = λ r. k;
        alone = λ t u m. m;
        after = λ o. change_step (Replaying q) id o p h;
        counted = λ t c. ap (λ b. cond b c (counts_after_change (Replaying q) (file_at t.keys key) p c)) h;
        listed = none_listed_by q id (pair p) (Put key value file) refl;
        fault = λ o c e f. put_fault p file (file_at (table_of id o).keys key) o c e k f;
      })
  pair_does key operations.Put None file s h k e = absurd k
  pair_does key operations.Put (Some value) None s h k e = absurd k
  pair_does key operations.Del value file s h k e =
      let p : Pair = record { op_type = operations.Del; key = key; value = value; file_id = file } in
      subst (DoesStep q id (pair p)) (some_is e) (record {
        asked = λ r. tt;
        alone = λ t u m. m;
        after = λ o. change_step (Replaying q) id o p h;
        counted = λ t c. ap (λ b. cond b c (counts_after_change (Replaying q) (file_at t.keys key) p c)) h;
        listed = none_listed_by q id (pair p) (Del key) refl;
        fault = λ o c e f. absurd f;
      })

  does_step : (content : Content) (s : Step) → IsReplayed q content → content_step content ≡ Some s → DoesStep q id content s
  does_step (entries es) s h e =
      subst (DoesStep q id (entries es)) (some_is e) (record {
        asked = h;
        alone = λ t u m. omega (arith, u, m);
        after = λ o. refl;
        counted = λ t c. refl;
        listed = none_listed_by q id (entries es) (Run es) refl;
        fault = λ o c e f. replay_fault q id o es c e f;
      })
  does_step (command c) s h e = subst (DoesStep q id (command c)) (some_is e) (of_command c)
    where
      of_command : (c : _) → DoesStep q id (command c) (command_step c)
      of_command commands.Clean = record { asked = tt; alone = λ t u m. m; after = λ o. refl; counted = λ t c. refl; listed = none_listed_by q id (command commands.Clean) Clean refl; fault = λ o c e f. absurd f }
      of_command (commands.Compact i) = record { asked = tt; alone = λ t u m. m; after = λ o. refl; counted = λ t c. refl; listed = none_listed_by q id (command (commands.Compact i)) _ refl; fault = λ o c e f. absurd f }
      of_command (commands.Truncate i) = record { asked = tt; alone = λ t u m. m; after = λ o. refl; counted = λ t c. refl; listed = none_listed_by q id (command (commands.Truncate i)) _ refl; fault = λ o c e f. absurd f }
  does_step (pair p) s h e = go (is_reserved p.key) refl e
    where
      go : (b : Bool) → is_reserved p.key ≡ b → cond b None (pair_step p.op_type p.key p.value p.file_id) ≡ Some s → DoesStep q id (pair p) s
      go true is e = absurd (none_some e)
      go false is e = pair_does p.key p.op_type p.value p.file_id s is (h is) e

-- an item is written as its step is taken
pub by_step : (q : LogQueue) (item : Item) (s : Step) (old : Tables) (counts : Counts) (list : List ℕ) (r : Result Unit Error) (new : Tables)
    (after : Counts) (listed : List ℕ) → IsReplayed q item.content → content_step item.content ≡ Some s →
    IsStepTaken q item.raft_group_id s old counts list r new after listed
    → IsItemWritten (Replaying q) item old counts list r new after listed
by_step q item s old counts list r new after listed h e k =
    let id = item.raft_group_id in
    let o = finite.get old id in
    let d = does_step q id item.content s h e in
    record {
      asked = elim r as (λ r. OnOk r (IsFor (Replaying q) item.content)) [ Ok a ↦ d.asked | Err x ↦ tt ];
      accepted = on_ok_weaker r (d.alone (table_of id o)) k.accepted;
      ok = on_ok_weaker r (λ u. d.after o ∙ u) k.ok;
      counts_ok = on_ok_weaker r (λ u. u ∙ sym (d.counted (table_of id o) counts)) k.counts_ok;
      cleaned = on_ok_weaker r (λ u. u ∙ ap (λ l. list ++ l) (sym d.listed)) k.cleaned;
      err = k.err;
      counts_err = k.counts_err;
      cleaned_err = k.cleaned_err;
      fault = elim r as (λ r. IfErr r (λ e. (e ≡ errors.Memory) ⊎ IsStepFault q (table_of id o) counts s e) → IfErr r (IsWriteFault (Replaying q) id o (live q counts) item.content)) [
        | Ok a ↦ λ f. tt
        | Err x ↦ λ f. elim f [ inl is ↦ subst (IsWriteFault (Replaying q) id o (live q counts) item.content) (sym is) tt | inr g ↦ d.fault o counts x g ]
      ] k.fault;
      one = k.one;
      recounted = k.recounted;
    }

-- an item without a step is skipped
pub without_step : (q : LogQueue) (id : ℕ) (content : Content) (old : Tables) (counts : Counts) (list : List ℕ) → IsReplayed q content →
    content_step content ≡ None → IsItemWritten (Replaying q) (record { raft_group_id = id; content = content }) old counts list
    (Ok tt) old counts list
without_step q id (entries es) old counts list h e = absurd (none_some (sym e))
without_step q id (command c) old counts list h e = absurd (none_some (sym e))
without_step q id (pair p) old counts list h e = go (is_reserved p.key) refl e
  where
    of_pair : (op : OpType) (value : Option (List ℕ)) (file : Option FileId) → IsPairReplayed q op value file → pair_step op p.key value file ≡ None → ⊥
    of_pair operations.Put (Some value) (Some file) k e = none_some (sym e)
    of_pair operations.Put None file k e = k
    of_pair operations.Put (Some value) None k e = k
    of_pair operations.Del value file k e = none_some (sym e)

    go : (b : Bool) → is_reserved p.key ≡ b → cond b None (pair_step p.op_type p.key p.value p.file_id) ≡ None → IsItemWritten (Replaying q) (record { raft_group_id = id; content = pair p }) old counts list (Ok tt) old counts list
    go true is e =
        skipped_by (Replaying q) (record { raft_group_id = id; content = pair p }) old counts list (λ f. absurd (false≢true (sym f ∙ is))) (λ m. m)
        (reserved_counts (Replaying q) (table_in old id) p counts is)
        (none_listed (Replaying q) (record { raft_group_id = id; content = pair p }) refl)
        (reserved_step (Replaying q) id (finite.get old id) p is)
    go false is e = absurd (of_pair p.op_type p.value p.file_id (h is) e)

-- what the step of an item tells of its content
pub step_is : (item : Item) (rs : RegionStep) → Some rs ≡ item_step item → (content_step item.content ≡ Some rs.step) × (rs.region ≡ item.raft_group_id)
step_is item rs e = go (content_step item.content) e
  where
    go : (o : Option Step) → Some rs ≡ option_map (λ s. record { region = item.raft_group_id; step = s }) o → (o ≡ Some rs.step) × (rs.region ≡ item.raft_group_id)
    go None e = absurd (none_some (sym e))
    go (Some s) e = let k = some_is e in (ap Some (ap (λ (x : RegionStep). x.step) (sym k)), ap (λ (x : RegionStep). x.region) k)

pub no_step_is : (item : Item) → None ≡ item_step item → content_step item.content ≡ None
no_step_is item e = go (content_step item.content) e
  where
    go : (o : Option Step) → None ≡ option_map {U = RegionStep} (λ s. record { region = item.raft_group_id; step = s }) o → o ≡ None
    go None e = refl
    go (Some s) e = absurd (none_some e)

-- ---- a region that is cleaned

pub clean_taken : (q : LogQueue) (id : ℕ) (old : Tables) (counts : Counts) (list : List ℕ) (new : Tables) (after : Counts) (listed : List ℕ) →
    new ≡ finite.remove old id → after ≡ with_table_deleted (table_in old id) counts → IsRecounted (table_in old id) (empty_table id) counts after
    → listed ≡ list ++ cleaned_by_steps q (record { region = id; step = Clean } ∷ []) → IsStepTaken q id Clean old counts list (Ok tt) new after listed
clean_taken q id old counts list new after listed e k r l =
    let gone : finite.get new id ≡ None = ap (λ m. finite.get m id) e ∙ get_gone old id in
    record {
      ok = ap Some (sym gone);
      accepted = tt;
      counts_ok = k;
      cleaned = l;
      err = tt;
      counts_err = tt;
      cleaned_err = tt;
      fault = tt;
      one = e ∙ ap (with_table old id) (sym gone);
      recounted = subst (λ t. IsRecounted (table_in old id) t counts after) (ap (table_of id) (sym gone)) r;
    }

-- where there is no memory to list the region nothing is done
pub not_listed : (q : LogQueue) (id : ℕ) (s : Step) (old : Tables) (counts : Counts) (list : List ℕ) → IsStepTaken q id s old counts list (Err errors.Memory) old counts list
not_listed q id s old counts list = record { ok = tt; accepted = tt; counts_ok = tt; cleaned = tt; err = refl; counts_err = refl; cleaned_err = refl; fault = inl refl; one = one_same old old id refl; recounted = λ q. refl }

-- ---- a pair that is put where the region has a table

put_cleans : (q : LogQueue) (id : ℕ) (key value : List ℕ) (file : FileId) → cleaned_by_steps q (record { region = id; step = Put key value file } ∷ []) ≡ []
put_cleans Append id key value file = refl
put_cleans Rewrite id key value file = refl

pub put_tried : (q : LogQueue) (id : ℕ) (key value : List ℕ) (file : FileId) (old new : Tables) (u t : Table) (counts after : Counts) (list : List ℕ)
    (b : Bool) → finite.get old id ≡ Some u → new ≡ finite.insert old id t → IsRecounted u t counts after
    → MatchBool b ((t ≡ with_pair u key value file) × (after ≡ with_added file.queue 1 (with_pair_deleted (file_at u.keys key) counts)) × (u.entries ≢ [])) ((t ≡ u) × (after ≡ counts))
    → IsStepTaken q id (Put key value file) old counts list (cond b (Ok tt) (Err errors.Memory)) new after list
put_tried q id key value file old new u t counts after list b is e r h = go b h
  where
    now : finite.get new id ≡ Some t
    now = ap (λ m. finite.get m id) e ∙ get_own old id t

    recounted : IsRecounted (table_in old id) (table_in new id) counts after
    recounted = subst (λ o. IsRecounted (table_of id o) (table_in new id) counts after) (sym is) (subst (λ o. IsRecounted u (table_of id o) counts after) (sym now) r)

    go : (b : Bool) → MatchBool b ((t ≡ with_pair u key value file) × (after ≡ with_added file.queue 1 (with_pair_deleted (file_at u.keys key) counts)) × (u.entries ≢ [])) ((t ≡ u) × (after ≡ counts))
        → IsStepTaken q id (Put key value file) old counts list (cond b (Ok tt) (Err errors.Memory)) new after list
    go true h = record {
      ok = ap (λ o. Some (Some (with_pair (table_of id o) key value file))) is ∙ ap (λ x. Some (Some x)) (sym h.0) ∙ ap Some (sym now);
      accepted = tt;
      counts_ok = h.1 ∙ ap (λ o. with_added file.queue 1 (with_pair_deleted (file_at (table_of id o).keys key) counts)) (sym is);
      cleaned = sym (ap (λ l. list ++ l) (put_cleans q id key value file) ∙ append-nil list);
      err = tt;
      counts_err = tt;
      cleaned_err = tt;
      fault = tt;
      one = e ∙ ap (with_table old id) (sym now);
      recounted = recounted;
    }
    go false h =
        let same : new ≡ old = e ∙ insert_same old id t (is ∙ ap Some (sym h.0)) in
        record {
          ok = tt;
          accepted = tt;
          counts_ok = tt;
          cleaned = tt;
          err = same;
          counts_err = h.1;
          cleaned_err = refl;
          fault = inl refl;
          one = one_same old new id same;
          recounted = recounted;
        }
