-- A table joined with one of a newer neighbor, or put over by an appended one, each under its region mark.
use Rattle.raft_accessor.proofs.Common.{on_ok_weaker, start_of, IsRun, ◌≡◌, ◌≤◌, ◌+◌, ◌^◌, ◌⊎◌, ℕ, Bool, true, false, cond, ◌||◌, Option, Some, None, Result, Ok, Err, refl, sym, ap, subst, ◌∙◌, inl, inr, arith, OnOk, Error, LogQueue}
use Rattle.raft_accessor.proofs.Common.{end_of, Tables, with_table, Counts, live, end_at_reach, IsFaultUnder, IsMarkFault, Mark, entries_within, is_refused_over, table_over, there_if, table_over_older, table_of, Table, empty_table, live_of}
use Rattle.raft_accessor.proofs.Common.{with_table_deleted, IsRecounted, applied_none, own_alone, applied_own, live_of_empty, table_in, false≢true, IsPut, IsTableJoined, is_some, option_map, overlaid_region, kept_if, overlay_under}
use Rattle.raft_accessor.proofs.Common.{IsPutOver, IsTableOverlaid}
use Rattle.raft_accessor.proofs.LiveLemmas.{none_deleted}
use Rattle.raft_accessor.proofs.MapLemmas.{get_own, get_gone, none_some, one_written, with_same}
use Rattle.raft_accessor.specs.TableJoins.{AreEndsMet}
use Rattle.std.specs.FinMap as finite
use Rattle.raft_base.specs.declared.errors.Error.TheVariants as errors

pub ends_met : (m : Mark) (old : Table) (start end : ℕ) → start ≡ start_of old.entries → end ≡ end_at_reach m old → IsRun old.entries → AreEndsMet m old (start, end)
ends_met m old start end from to run = subst (λ (s : ℕ). AreEndsMet m old (s, end)) (sym from) (subst (λ (e : ℕ). AreEndsMet m old (start_of old.entries, e)) (sym to) record { ends = refl; run = run })

pub put_joined : (queue : LogQueue) (m : Mark) (newer : Table) (old : Tables) (id : ℕ) (counts : Counts) (r : Result (ℕ × ℕ) Error) (new : Tables) (after : Counts) → IsPut queue m newer counts r (table_in old id) (table_in new id)
    → OnOk r (finite.get new id ≡ Some (table_in new id)) → new ≡ with_table old id (finite.get new id) → IsRecounted (table_in old id) (table_in new id) counts after → IsTableJoined queue m (Some newer) old id counts r new after
put_joined queue m newer old id counts (Ok ends) new after p there one recounted = record {
  ok = λ run. applied_own queue id m newer (table_in new id) (finite.get old id) (p.ok run) ∙ ap Some (sym there);
  answer = p.answer;
  fault = λ run. tt;
  few = p.few;
  one = one;
  deleted = λ c n. absurd (none_some (sym n));
  recounted = recounted;
}
put_joined queue m newer old id counts (Err e) new after p there one recounted = record { ok = λ run. tt; answer = tt; fault = p.fault; few = tt; one = one; deleted = λ c n. tt; recounted = recounted }

-- the same of a table that was there
pub put_there : (queue : LogQueue) (m : Mark) (newer : Table) (old : Tables) (id : ℕ) (counts : Counts) (r : Result (ℕ × ℕ) Error) (new : Tables)
    (after : Counts) (t own n : Table) → finite.get old id ≡ Some t → own ≡ newer → new ≡ finite.insert old id n → IsPut queue m own counts r t n →
    IsRecounted t n counts after
    → IsTableJoined queue m (Some newer) old id counts r new after
put_there queue m newer old id counts r new after t own n was own_is put p recounted =
    let there : finite.get new id ≡ Some n = ap (λ n. finite.get n id) put ∙ get_own old id n in
    let now : n ≡ table_in new id = sym (ap (table_of id) there) in
    let before : t ≡ table_in old id = sym (ap (table_of id) was) in
    put_joined queue m newer old id counts r new after
    (subst (λ t. IsPut queue m newer counts r t (table_in new id)) before (subst (λ n. IsPut queue m newer counts r t n) now (subst (λ o. IsPut queue m o counts r t n) own_is p)))
    (elim r as (λ r. OnOk r (finite.get new id ≡ Some (table_in new id))) [ Ok x ↦ there ∙ ap Some now | Err x ↦ tt ]) (one_written old new id n put)
    (subst (λ t. IsRecounted t (table_in new id) counts after) before (subst (λ n. IsRecounted t n counts after) now recounted))

-- there was no memory for a table
pub not_joined : (queue : LogQueue) (m : Mark) (newer : Option Table) (old : Tables) (id : ℕ) (counts : Counts) (r : Result (ℕ × ℕ) Error) (new : Tables)
    (after : Counts) → r ≡ Err errors.Memory → new ≡ with_table old id (finite.get new id) →
    IsRecounted (table_in old id) (table_in new id) counts after
    → IsTableJoined queue m newer old id counts r new after
not_joined queue m newer old id counts r new after e one recounted = subst (λ r. IsTableJoined queue m newer old id counts r new after)
    (sym e) record { ok = λ run. tt; answer = tt; fault = λ run. tt; few = tt; one = one; deleted = λ c n. tt; recounted = recounted }

-- ---- a newer table whose region has no older one

nothing_met : (m : Mark) (id : ℕ) (old : Tables) → finite.get old id ≡ None → AreEndsMet m (table_in old id) (0, 0)
unfolding entries_within end_of
nothing_met m id old none = subst (λ o. AreEndsMet m (table_of id o) (0, 0)) (sym none) record { ends = refl; run = tt }

pub first_joined : (queue : LogQueue) (m : Mark) (newer : Table) (old : Tables) (id : ℕ) (counts : Counts) (new : Tables) (after : Counts) →
    finite.get old id ≡ None → newer.region_id ≡ id → new ≡ finite.insert old id newer → IsRecounted (table_in old id) (table_in new id) counts after
    → IsTableJoined queue m (Some newer) old id counts (Ok (0, 0)) new after
first_joined queue m newer old id counts new after none own put recounted =
    let there : finite.get new id ≡ Some newer = ap (λ n. finite.get n id) put ∙ get_own old id newer in
    let now : table_in new id ≡ newer = ap (table_of id) there in
    put_joined queue m newer old id counts (Ok (0, 0)) new after
    (record {
      ok = λ run. ap (λ o. table_over queue m newer (table_of id o)) none ∙ own_alone queue id m newer own ∙ ap Some (sym now);
      answer = nothing_met m id old none;
      fault = λ run. tt;
      few = λ q. omega (arith, ap (live_of q) now);
    }) (there ∙ ap Some (sym now)) (one_written old new id newer put) recounted

pub first_refused : (queue : LogQueue) (m : Mark) (newer : Table) (old : Tables) (id : ℕ) (counts : Counts) (e : Error) (new : Tables)
    (after : Counts) → (e ≡ errors.Memory) ⊎ ((e ≡ errors.Full) × ((q : LogQueue) × (2 ^ 64 ≤ live q counts + live_of q newer))) →
    new ≡ with_table old id (finite.get new id) → IsRecounted (table_in old id) (table_in new id) counts after
    → IsTableJoined queue m (Some newer) old id counts (Err e) new after
first_refused queue m newer old id counts e new after fault one recounted = record {
  ok = λ run. tt;
  answer = tt;
  fault = λ run. elim fault [
    | inl k ↦ subst (IsFaultUnder queue counts m newer (table_in old id)) (sym k) tt
    | inr k ↦ subst (IsFaultUnder queue counts m newer (table_in old id)) (sym k.0) k.1
  ];
  few = tt;
  one = one;
  deleted = λ c n. tt;
  recounted = recounted;
}

-- ---- a newer mark whose region has no table

-- nor is there an older one
pub nothing_joined : (queue : LogQueue) (m : Mark) (old : Tables) (id : ℕ) (counts : Counts) → finite.get old id ≡ None → IsTableJoined queue m None old id counts (Ok (0, 0)) old counts
nothing_joined queue m old id counts e = record {
  ok = λ run. subst (λ o. table_over_older queue id m None o ≡ Some o) (sym e) (applied_none queue id m None refl);
  answer = nothing_met m id old e;
  fault = λ run. tt;
  few = λ q. omega arith;
  one = sym (with_same old id);
  deleted = λ c n. sym (ap (λ o. with_table_deleted (table_of id o) counts) e ∙ none_deleted id counts);
  recounted = λ q. refl;
}

uncleaned : (b : Bool) → b ≡ false → cond b false (false || true) ≡ cond b true (true || true)
uncleaned false e = refl
uncleaned true e = absurd (false≢true (sym e))

-- an empty newer table says the same, where the region was not cleaned
pub empty_joined : (queue : LogQueue) (m : Mark) (old : Tables) (id : ℕ) (counts : Counts) (t : Table) (r : Result (ℕ × ℕ) Error) (new : Tables)
    (after : Counts) → finite.get old id ≡ Some t → m.cleaned ≡ false → IsTableJoined queue m (Some (empty_table id)) old id counts r new after →
    IsTableJoined queue m None old id counts r new after
empty_joined queue m old id counts t r new after e live p = record {
  ok = λ run. subst (λ x. OnOk r (x ≡ Some (finite.get new id))) (sym same) (p.ok run);
  answer = p.answer;
  fault = p.fault;
  few = on_ok_weaker r (λ f q. omega (arith, f q, live_of_empty q id)) p.few;
  one = p.one;
  deleted = λ c n. absurd (false≢true (sym live ∙ c));
  recounted = p.recounted;
}
  where
    same : table_over_older queue id m None (finite.get old id) ≡ table_over_older queue id m (Some (empty_table id)) (finite.get old id)
    same = subst (λ o. table_over_older queue id m None o ≡ table_over_older queue id m (Some (empty_table id)) o) (sym e) (ap (λ b. there_if b (table_over queue m (empty_table id) t)) (uncleaned m.cleaned live))

-- the older one goes
pub cleaned_joined : (queue : LogQueue) (m : Mark) (old : Tables) (id : ℕ) (counts : Counts) (t : Table) (ends : ℕ × ℕ) (new : Tables) (after : Counts) →
    finite.get old id ≡ Some t → m.cleaned ≡ true → is_refused_over queue m t.entries ≡ false → AreEndsMet m t ends → new ≡ finite.remove old id
    → after ≡ with_table_deleted (table_in old id) counts → IsRecounted (table_in old id) (empty_table id) counts after → IsTableJoined queue m None old id counts (Ok ends) new after
cleaned_joined queue m old id counts t ends new after e cleaned accepted answer gone deleted recounted =
    let none : finite.get new id ≡ None = ap (λ n. finite.get n id) gone ∙ get_gone old id in
    record {
      ok = λ run. subst (λ o. table_over_older queue id m None o ≡ Some (finite.get new id)) (sym e) (rw (accepted, cleaned) (ap Some (sym none)));
      answer = subst (λ x. AreEndsMet m x ends) (sym (ap (table_of id) e)) answer;
      fault = λ run. tt;
      few = λ q. omega (arith, ap (λ o. live_of q (table_of id o)) none, live_of_empty q id);
      one = gone ∙ ap (with_table old id) (sym none);
      deleted = λ c n. deleted;
      recounted = subst (λ u. IsRecounted (table_in old id) u counts after) (sym (ap (table_of id) none)) recounted;
    }

-- or the meeting is refused
pub mark_refused : (queue : LogQueue) (m : Mark) (old : Tables) (id : ℕ) (counts : Counts) (t : Table) (x : Error) → finite.get old id ≡ Some t →
    IsMarkFault (is_refused_over queue m t.entries) x → IsTableJoined queue m None old id counts (Err x) old counts
mark_refused queue m old id counts t x e f = record { ok = λ run. tt; answer = tt; fault = λ run. go x f; few = tt; one = sym (with_same old id); deleted = λ c n. tt; recounted = λ q. refl }
  where
    go : (x : Error) → IsMarkFault (is_refused_over queue m t.entries) x → IsFaultUnder queue counts m (empty_table id) (table_in old id) x
    go (errors.Corruption text) f = ap (λ (u : Table). is_refused_over queue m u.entries) (ap (table_of id) e) ∙ f
    go errors.Memory f = tt
    go _ f = absurd f

-- ---- an appended table of one region, or its absence, over the rewritten one

-- with an appended table there is one
own_overlaid : (m : Mark) (t : Table) (id : ℕ) (o : Option Table) → overlaid_region id (Some m) (Some t) o ≡ Some (overlay_under m t (table_of id o))
own_overlaid m t id o = ap (λ b. kept_if b (overlay_under m t (table_of id o))) (either m.cleaned)
  where
    either : (b : Bool) → cond b true true ≡ true
    either true = refl
    either false = refl

put_overlaid : (m : Mark) (appended : Table) (old : Tables) (id : ℕ) (counts : Counts) (r : Result Unit Error) (new : Tables) (after : Counts) → IsPutOver m appended counts r (table_in old id) (table_in new id)
    → OnOk r (finite.get new id ≡ Some (table_in new id)) → new ≡ with_table old id (finite.get new id) → IsRecounted (table_in old id) (table_in new id) counts after → IsTableOverlaid m (Some appended) old id counts r new after
put_overlaid m appended old id counts (Ok x) new after p there one recounted = record {
  ok = λ run. there ∙ ap Some (p.ok run) ∙ sym (own_overlaid m appended id (finite.get old id));
  fault = tt;
  few = p.few;
  one = one;
  deleted = λ c n. absurd (none_some (sym n));
  recounted = recounted;
}
put_overlaid m appended old id counts (Err e) new after p there one recounted = record { ok = λ run. tt; fault = p.fault; few = tt; one = one; deleted = λ c n. tt; recounted = recounted }

-- the same told of a call
pub put_over_by : (m : Mark) (appended : Table) (old : Tables) (id : ℕ) (counts : Counts) (r : Result Unit Error) (new : Tables) (after : Counts)
    (t n : Table) (k : Counts) → t ≡ table_in old id → n ≡ table_in new id → k ≡ counts → IsPutOver m appended k r t n
    → OnOk r (finite.get new id ≡ Some (table_in new id)) → new ≡ with_table old id (finite.get new id) → IsRecounted (table_in old id) (table_in new id) counts after → IsTableOverlaid m (Some appended) old id counts r new after
put_over_by m appended old id counts r new after t n k e f g p =
    put_overlaid m appended old id counts r new after (subst (λ t. IsPutOver m appended counts r t (table_in new id)) e (subst (λ n. IsPutOver m appended counts r t n) f (subst (λ k. IsPutOver m appended k r t n) g p)))

-- there was no memory for a table
pub not_put : (m : Mark) (appended : Option Table) (old : Tables) (id : ℕ) (counts : Counts) (r : Result Unit Error) (new : Tables) (after : Counts) →
    r ≡ Err errors.Memory → new ≡ with_table old id (finite.get new id) → IsRecounted (table_in old id) (table_in new id) counts after
    → IsTableOverlaid m appended old id counts r new after
not_put m appended old id counts r new after e one recounted = subst (λ r. IsTableOverlaid m appended old id counts r new after) (sym e) record { ok = λ run. tt; fault = tt; few = tt; one = one; deleted = λ c n. tt; recounted = recounted }

-- ---- no appended table

-- the region was cleaned: the rewritten table goes
pub cleaned_dropped : (m : Mark) (old : Tables) (id : ℕ) (counts : Counts) (new : Tables) (after : Counts) → m.cleaned ≡ true →
    new ≡ finite.remove old id → after ≡ with_table_deleted (table_in old id) counts → IsRecounted (table_in old id) (empty_table id) counts after →
    IsTableOverlaid m None old id counts (Ok tt) new after
cleaned_dropped m old id counts new after cleaned gone deleted recounted =
    let none : finite.get new id ≡ None = ap (λ n. finite.get n id) gone ∙ get_gone old id in
    record {
      ok = λ run. none ∙ sym (ap (λ b. kept_if (cond b false (false || is_some (finite.get old id))) (overlay_under m (empty_table id) (table_in old id))) cleaned);
      fault = tt;
      few = λ q. omega (arith, ap (λ o. live_of q (table_of id o)) none, live_of_empty q id);
      one = gone ∙ ap (with_table old id) (sym none);
      deleted = λ c n. deleted;
      recounted = subst (λ u. IsRecounted (table_in old id) u counts after) (sym (ap (table_of id) none)) recounted;
    }

-- nor is there a rewritten one
pub nothing_dropped : (m : Mark) (old : Tables) (id : ℕ) (counts : Counts) → finite.get old id ≡ None → IsTableOverlaid m None old id counts (Ok tt) old counts
nothing_dropped m old id counts e = record {
  ok = λ run. subst (λ o. o ≡ overlaid_region id (Some m) None o) (sym e) (sym (ap (λ b. kept_if b (overlay_under m (empty_table id) (empty_table id))) (neither m.cleaned)));
  fault = tt;
  few = λ q. omega arith;
  one = sym (with_same old id);
  deleted = λ c n. sym (ap (λ o. with_table_deleted (table_of id o) counts) e ∙ none_deleted id counts);
  recounted = λ q. refl;
}
  where
    neither : (b : Bool) → cond b false (false || false) ≡ false
    neither true = refl
    neither false = refl

pub absent : {X Y : Type 0} (f : X → Y) (o : Option X) → is_some o ≡ false → option_map f o ≡ None
absent f None e = refl
absent f (Some x) e = absurd (false≢true (sym e))

pub present : {X Y : Type 0} (f : X → Y) (o : Option X) → is_some o ≡ true → (y : Y) × (option_map f o ≡ Some y)
present f None e = absurd (false≢true e)
present f (Some x) e = (f x, refl)

-- an empty appended table says the same, where the region was not cleaned
pub empty_put : (m : Mark) (old : Tables) (id : ℕ) (counts : Counts) (t : Table) (r : Result Unit Error) (new : Tables) (after : Counts) →
    finite.get old id ≡ Some t → m.cleaned ≡ false → IsTableOverlaid m (Some (empty_table id)) old id counts r new after →
    IsTableOverlaid m None old id counts r new after
empty_put m old id counts t r new after e live p = record {
  ok = λ run. subst (λ x. OnOk r (finite.get new id ≡ x)) (sym same) (p.ok run);
  fault = p.fault;
  few = on_ok_weaker r (λ f q. omega (arith, f q, live_of_empty q id)) p.few;
  one = p.one;
  deleted = λ c n. absurd (false≢true (sym live ∙ c));
  recounted = p.recounted;
}
  where
    same : overlaid_region id (Some m) None (finite.get old id) ≡ overlaid_region id (Some m) (Some (empty_table id)) (finite.get old id)
    same = subst (λ o. overlaid_region id (Some m) None o ≡ overlaid_region id (Some m) (Some (empty_table id)) o) (sym e) (ap (λ b. kept_if b (overlay_under m (empty_table id) t)) (uncleaned m.cleaned live))
