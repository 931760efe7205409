-- What was written is what is recovered.
use Rattle.raft_engine.proofs.Common.{◌≡◌, inl, inr, ℕ, ◌<◌, ◌^◌, List, [], ◌∷◌, ◌++◌, Vec, drop, sym, ap, ◌∙◌, subst, arith, Global, LogQueue, Append, Rewrite, Version, Part, Event, IsReadingOfBoth, effects_behind, Apart, IsOneReading, IsSmall, IsSoundIn, Tables, sound_in_front}
use Rattle.raft_engine.proofs.Common.{Accessor, AreCountsOf, live_in_all, AreMovedTables, Act, NumberedBytes, acts_on, MayStand, begun, cut_last, files_of, SegmentsHold, FilesHold, bytes_of_files, whole_file, AreBothRecovered, IsRecovered, ArePut, HoldPrefixWith, FilesHoldTorn}
use Rattle.raft_engine.proofs.Common.{StopsAt, KeptEngine, IsOpened, IsReadBack, NothingMoved, AreReadOf, IsFoundIn, IsReadingOf, IsRecoveredAs, ReadBackIsRoundTrip}
use Rattle.raft_engine.proofs.AloneLemmas.{read_alone}
use Rattle.raft_engine.proofs.LastingLemmas.{held_at_sync}
use Rattle.raft_engine.proofs.RestartLemmas.{OneReading, segments_one}

module _
    (whole : (queue : LogQueue) (version : Version) (files : List NumberedBytes) (h : List Event) → FilesHold queue version files h → FilesHoldTorn queue version files h)
    (one : OneReading)
    (cut : (queue : LogQueue) (version : Version) (closed : List NumberedBytes) (last : NumberedBytes) (h : List Event) (at : ℕ)
    → FilesHoldTorn queue version (closed ++ last ∷ []) h → StopsAt (whole_file queue version last) at → FilesHold queue version (cut_last at (closed ++ last ∷ [])) h)
    (few_records : (queue : LogQueue) (version : Version) (files : List NumberedBytes) (h : List Event) → FilesHold queue version files h → bytes_of_files files < 2 ^ 63 → IsSmall h)
    (apart : (h : List Event) → IsSoundIn Append h → Apart h)
    (same_tables : (q : LogQueue) (h : List Event) (m n : Tables) (a b : List ℕ) → IsOneReading q h m a → IsOneReading q h n b → m ≡ n)
    (same_cleaned : (q : LogQueue) (h : List Event) (m n : Tables) (a b : List ℕ) → IsOneReading q h m a → IsOneReading q h n b → a ≡ b)
    (front : (queue : LogQueue) (version : Version) (acts : List Act) (synced h : List Event) (files : List NumberedBytes)
    → ArePut queue version acts synced h → MayStand acts files → HoldPrefixWith queue version synced h files) where
  -- ---- what segments hold

  -- segments hold what the files do, and that is little
  read_of : (queue : LogQueue) (version : Version) (files : List NumberedBytes) (segments : List (Vec Part Global)) (g h : List Event) → AreReadOf queue version files segments
      → SegmentsHold segments g → FilesHoldTorn queue version files h → (g ≡ h) × IsSmall g
  read_of queue version files segments g h (inl s) there held =
      let holds : FilesHold queue version files g = (s.0 g).1 there in
      (one queue version files g h (whole queue version files g holds) held, few_records queue version files g holds s.1)
  read_of queue version files segments g h (inr s) there held = segments_one whole one cut few_records queue version files segments g h s there held

  none_apart : Apart []
  unfolding effects_behind
  none_apart = record { each = tt }

  -- ---- files that hold a sound history

  module _ (version : Version) (append rewrite : List NumberedBytes) (h : List Event) (held : FilesHoldTorn Append version append h) (sound : IsSoundIn Append h) where
    found_appended : (segments : List (Vec Part Global)) → AreReadOf Append version append segments → (a : Accessor) → IsRecovered Append (SegmentsHold segments) a → IsReadingOf h a
    found_appended segments s a r =
        let same = read_of Append version append segments r.history h s r.held held in
        record {
          reading = subst (λ (g : List Event). IsOneReading Append g a.tables a.cleaned) same.0 (r.one_reading same.1 (subst Apart (sym same.0) (apart h sound)));
          exact_counts = r.exact_counts;
        }

    read_none : (tables : Tables) (cleaned : List ℕ) (rewritten appended : List Event) → rewritten ≡ [] → appended ≡ h → IsReadingOfBoth rewritten appended tables cleaned → IsOneReading Append h tables cleaned
    read_none tables cleaned rewritten appended none same reading =
        read_alone h tables cleaned sound
        (subst (λ (g : List Event). IsReadingOfBoth g h tables cleaned) none (subst (λ (g : List Event). IsReadingOfBoth rewritten g tables cleaned) same reading))

    found_both : FilesHoldTorn Rewrite version rewrite [] → (appended rewritten : List (Vec Part Global)) → AreReadOf Append version append appended → AreReadOf Rewrite version rewrite rewritten
        → (a : Accessor) → AreBothRecovered (SegmentsHold rewritten) (SegmentsHold appended) a → IsReadingOf h a
    found_both none appended rewritten s t a b =
        let x = read_of Append version append appended b.append h s b.append_held held in
        let y = read_of Rewrite version rewrite rewritten b.rewrite [] t b.rewrite_held none in
        record {
          reading = read_none a.tables a.cleaned b.rewrite b.append y.0 x.0 (b.reading y.1 x.1 (subst Apart (sym y.0) none_apart));
          exact_counts = b.exact_counts;
        }

    found_opened : FilesHoldTorn Rewrite version rewrite [] → (engine : KeptEngine) → IsOpened version append rewrite engine → AreCountsOf engine.accessor.tables engine.accessor.counts → IsReadingOf h engine.accessor
    found_opened none engine o counts =
        let r = o.read in
        record {
          reading = read_none engine.accessor.tables engine.accessor.cleaned r.rewritten r.appended (one Rewrite version rewrite r.rewritten [] r.rewrite_held none) (one Append version append r.appended h r.append_held held) r.reading;
          exact_counts = counts;
        }

    found_in : (IsSo : Accessor → Type 0) → ((a : Accessor) → IsReadingOf h a → IsSo a) → IsFoundIn version append rewrite IsSo
    found_in IsSo so = record {
      appended = λ segments s a r. so a (found_appended segments s a r);
      both = λ none appended rewritten s t a b. so a (found_both none appended rewritten s t a b);
      opened = λ none engine o counts. so engine.accessor (found_opened none engine o counts);
    }

  -- ---- an engine

  module _ (engine : KeptEngine) (counts : AreCountsOf engine.accessor.tables engine.accessor.counts) (r : IsReadBack engine.version engine.asks engine.accessor) where
    recovered_as : (a : Accessor) → IsReadingOf r.batches a → IsRecoveredAs engine a
    recovered_as a x =
        let tables : a.tables ≡ r.read = same_tables Append r.batches a.tables r.read a.cleaned engine.accessor.cleaned x.reading r.reading in
        let same : NothingMoved engine.version engine.asks → a.tables ≡ engine.accessor.tables = λ nothing. tables ∙ sym (r.unmoved nothing) in
        record {
          moved = subst (λ (m : Tables). AreMovedTables engine.accessor.tables m) (sym tables) r.moved;
          cleaned = same_cleaned Append r.batches a.tables r.read a.cleaned engine.accessor.cleaned x.reading r.reading;
          tables = same;
          live_counts = λ nothing q. x.exact_counts q ∙ ap (live_in_all q) (same nothing) ∙ sym (counts q);
        }

  pub round_trip : ReadBackIsRoundTrip
  round_trip engine synced batches has put r counts =
      let acts = acts_on Append engine.asks in
      let same : batches ≡ r.batches = one Append engine.version (begun acts) batches r.batches (whole Append engine.version (begun acts) batches put.whole) (whole Append engine.version (begun acts) r.batches r.held) in
      let all : files_of Append engine.asks ≡ begun acts = ap (λ (n : ℕ). drop n (begun acts)) has.none_deleted in
      let held : FilesHold Append engine.version (files_of Append engine.asks) r.batches = subst (λ (files : List NumberedBytes). FilesHold Append engine.version files r.batches) (sym all) r.held in
      record {
        batches = r.batches;
        synced = synced;
        batches_held = held;
        synced_held = held_at_sync Append engine.version acts synced batches put.put;
        readable = λ segments cut few bad.
            bad.unsound r.batches ((cut r.batches).0 held) (few_records Append engine.version (files_of Append engine.asks) r.batches held few) (record { queue = Append; sound = r.sound });
        whole = found_in engine.version (files_of Append engine.asks) (files_of Rewrite engine.asks) r.batches (whole Append engine.version (files_of Append engine.asks) r.batches held) r.sound
            (IsRecoveredAs engine) (recovered_as engine counts r);
        left = λ append rewrite a w.
            let least = a.at_most in
            let nothing = has.none_deleted in
            let gone : a.gone ≡ 0 = omega (arith, least, nothing) in
            let f = front Append engine.version acts synced r.batches append (subst (λ (h : List Event). ArePut Append engine.version acts synced h) same put.put)
            (subst (MayStand acts) (sym (a.left ∙ ap (λ (n : ℕ). drop n a.standing) gone)) a.stands) in (
              f.front,
              f.is_front,
              found_in engine.version append rewrite f.front f.held (sound_in_front Append f.front f.is_front.lost (subst (IsSoundIn Append) f.is_front.split r.sound))
                  (IsReadingOf f.front) (λ x reading. reading),
            );
      }
