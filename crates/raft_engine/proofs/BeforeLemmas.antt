-- The records that there were before an engine's batches.
use Rattle.raft_engine.proofs.Common.{◌≡◌, inl, ℕ, List, [], ◌∷◌, length, Option, Some, refl, sym, ap, ◌∙◌, subst, arith, length-append, nil_from_length, nat_cmp, EntryIndex, LogQueue, Append, Rewrite, Version, Table, Event, IsReadingOfBoth, effects_behind, Tables, steps_on}
use Rattle.raft_engine.proofs.Common.{Begin, Found, NumberedBytes, ask, IsLeftOf, FilesHold, Records, HaveRecords, live, FilesHoldTorn, KeptEngine, IsLasting, IsLastingAfter, AreFromBefore, found_asks}
use Rattle.std.specs.FinMap as finite
use Rattle.raft_engine.proofs.RestartLemmas.{OneReading, found_read, whole_front}

-- the reading of no batch
none_read : IsReadingOfBoth [] [] finite.empty []
unfolding effects_behind
none_read = record {
  rewritten = finite.empty;
  appended = finite.empty;
  rewrite_read = record { tables_read = λ r. ap (λ (o : Option Table). Some o) (sym (finite.get-empty nat_cmp r)); regions_cleaned = refl };
  append_read = record { tables_read = λ r. ap (λ (o : Option Table). Some o) (sym (finite.get-empty nat_cmp r)); regions_cleaned = refl };
  overlaid = λ r. refl;
}

-- no batch makes no records
live_none : (content : EntryIndex → List ℕ) (base : ℕ → Records) (tables : Tables) → HaveRecords content tables (live content base []) → HaveRecords content tables base
unfolding live steps_on
live_none content base tables have = have

module _ (whole : (queue : LogQueue) (version : Version) (files : List NumberedBytes) (h : List Event) → FilesHold queue version files h → FilesHoldTorn queue version files h)
    (one : OneReading) (content : EntryIndex → List ℕ) (version : Version) (base : ℕ → Records) where
  -- ---- found files

  module _ (append rewrite : List NumberedBytes) (l : IsLastingAfter content version base (found_asks append rewrite)) where
    append_left : IsLeftOf Append (found_asks append rewrite) append
    append_left = record { standing = append; stands = refl; gone = 0; at_least = omega arith; at_most = omega arith; left = refl }

    rewrite_left : IsLeftOf Rewrite (found_asks append rewrite) rewrite
    rewrite_left = record { standing = rewrite; stands = refl; gone = 0; at_least = omega arith; at_most = omega arith; left = refl }

    abbrev standing : List Event
    standing = (l.left append rewrite append_left rewrite_left).0

    all_stand : standing ≡ l.batches
    all_stand = whole_front l.synced l.batches standing (l.left append rewrite append_left rewrite_left).1 (one Append version append l.synced l.batches l.synced_held l.batches_held)

    pub found_so : (appended rewritten : List Event) → FilesHoldTorn Append version append appended → FilesHoldTorn Rewrite version rewrite rewritten
        → (tables : Tables) (cleaned : List ℕ) → IsReadingOfBoth rewritten appended tables cleaned → HaveRecords content tables (live content base appended)
    found_so appended rewritten a r tables cleaned reading =
        subst (λ (h : List Event). HaveRecords content tables (live content base h)) (all_stand ∙ one Append version append l.batches appended l.batches_held a)
        (found_read one content version append rewrite (live content base standing) (l.left append rewrite append_left rewrite_left).2 appended rewritten a r tables cleaned reading)

  -- ---- first files

  module _ (l : IsLastingAfter content version base (ask Rewrite (Begin 1) ∷ ask Append (Begin 1) ∷ [])) where
    append_none : IsLeftOf Append (ask Rewrite (Begin 1) ∷ ask Append (Begin 1) ∷ []) []
    append_none = record { standing = []; stands = inl refl; gone = 0; at_least = omega arith; at_most = omega arith; left = refl }

    rewrite_none : IsLeftOf Rewrite (ask Rewrite (Begin 1) ∷ ask Append (Begin 1) ∷ []) []
    rewrite_none = record { standing = []; stands = inl refl; gone = 0; at_least = omega arith; at_most = omega arith; left = refl }

    none_stand : (l.left [] [] append_none rewrite_none).0 ≡ []
    none_stand =
        let f = (l.left [] [] append_none rewrite_none).1 in
        let none : l.batches ≡ [] = one Append version ((1, []) ∷ []) l.batches [] l.batches_held (whole Append version ((1, []) ∷ []) [] (record { first = []; rest = []; first_held = refl; rest_held = refl; split = refl })) in
        let n = ap length (sym none ∙ f.split) ∙ length-append (l.left [] [] append_none rewrite_none).0 f.lost in
        nil_from_length (l.left [] [] append_none rewrite_none).0 (omega (arith, n))

    pub none_so : HaveRecords content finite.empty base
    none_so =
        live_none content base finite.empty (subst (λ (h : List Event). HaveRecords content finite.empty (live content base h)) none_stand
        (found_read one content version [] [] (live content base (l.left [] [] append_none rewrite_none).0) (l.left [] [] append_none rewrite_none).2 [] [] refl refl finite.empty [] none_read))

cons_some : {A : Type 0} (x : A) (xs : List A) → x ∷ xs ≡ [] → ⊥
cons_some x xs e = cc

pub from_before : ((queue : LogQueue) (version : Version) (files : List NumberedBytes) (h : List Event) → FilesHold queue version files h → FilesHoldTorn queue version files h)
    → OneReading → (content : EntryIndex → List ℕ) (engine : KeptEngine) (l : IsLasting content engine) → AreFromBefore content engine.version engine.asks l.base
from_before whole one content engine l = record {
  either = l.first;
  none = λ since asked. none_so whole one content engine.version l.base (l.ever since (ask Rewrite (Begin 1) ∷ ask Append (Begin 1) ∷ []) asked (cons_some (Begin 1) [], cons_some (Begin 1) []));
  found = λ since append rewrite asked. found_so whole one content engine.version l.base append rewrite (l.ever since (found_asks append rewrite) asked (cons_some (Found append) [], cons_some (Found rewrite) []));
}
