-- What restarts find.
use Rattle.raft_engine.proofs.Common.{◌≡◌, ◌⊎◌, inl, inr, ℕ, ◌<◌, ◌^◌, List, [], ◌∷◌, ◌++◌, Vec, length, refl, sym, ap, ◌∙◌, subst, arith, append-nil, length-append, nil_from_length, take_all, Global, EntryIndex, LogQueue, Append, Rewrite, Version, Part, Event, IsReadingOfBoth}
use Rattle.raft_engine.proofs.Common.{Apart, IsSmall, IsSoundIn, Tables, Accessor, Ask, NumberedBytes, IsLeftOf, cut_last, files_of, SegmentsHold, FilesHold, bytes_of_files, whole_file, AreBothRecovered, Records, HaveRecords, live, AreConsecutive, numbers, IsPrefixWith}
use Rattle.raft_engine.proofs.Common.{AreUndamaged, FilesHoldTorn, StopsAt, AreCut, IsCut, IsFirstBegun, IsLastOfOther, IsLastRefused, IsUntorn, KeptEngine, AreFoundIn, IsLasting, IsLastingAfter, IsOpened, IsLastSound, AreFromBefore, AreOpenable, AreSegmentsOf, AreTailsTolerated}
use Rattle.raft_engine.proofs.Common.{HaveSame, IsFoundByRestarts, IsKeptByRestarts, IsKeptUnordered, RestartsFind, RecoveryMode, TolerateTornTail}
use Rattle.raft_engine.specs.FoundFiles.{IsReady}
use Rattle.raft_engine.proofs.OpensLemmas.{AreSoundFiles, openings_over_succeed, openings_succeed}

-- a prefix of all batches with the synced ones is all of them, if all are synced
pub whole_front : (synced h front : List Event) → IsPrefixWith synced h front → synced ≡ h → front ≡ h
whole_front synced h front f same =
    let a = ap length f.split ∙ length-append front f.lost in
    let b = ap length (f.least ∙ ap (λ (s : List Event). s ++ f.more) same) ∙ length-append h f.more in
    let none : f.lost ≡ [] = nil_from_length f.lost (omega (arith, a, b)) in
    sym (f.split ∙ ap (λ (l : List Event). front ++ l) none ∙ append-nil front)

-- files are read in one way
abbrev pub OneReading : Type 0
OneReading = (queue : LogQueue) (version : Version) (files : List NumberedBytes) (g h : List Event) → FilesHoldTorn queue version files g → FilesHoldTorn queue version files h → g ≡ h

-- the default mode refuses no tail of files that aren't damaged
not_refused : (queue : LogQueue) (version : Version) (files : List NumberedBytes) → AreUndamaged queue version files → ¬ (IsLastRefused TolerateTornTail queue version files)
not_refused queue version files u d = u d.closed d.last d.tail.at d.split d.tail.stops d.tail.refused

-- any reading of what the files hold has the records that were found
pub found_read : OneReading → (content : EntryIndex → List ℕ) (version : Version) (append rewrite : List NumberedBytes) (records : ℕ → Records) → AreFoundIn content version append rewrite records
    → (appended rewritten : List Event) → FilesHoldTorn Append version append appended → FilesHoldTorn Rewrite version rewrite rewritten
    → (tables : Tables) (cleaned : List ℕ) → IsReadingOfBoth rewritten appended tables cleaned → HaveRecords content tables records
found_read one content version append rewrite records f appended rewritten a r tables cleaned reading =
    f.found tables cleaned
    (subst (λ (k : List Event). IsReadingOfBoth k f.appended tables cleaned) (one Rewrite version rewrite rewritten f.rewritten r f.rewrite_held)
    (subst (λ (h : List Event). IsReadingOfBoth rewritten h tables cleaned) (one Append version append appended f.appended a f.append_held) reading))

module _
    (whole : (queue : LogQueue) (version : Version) (files : List NumberedBytes) (h : List Event) → FilesHold queue version files h → FilesHoldTorn queue version files h)
    (one : OneReading)
    (cut : (queue : LogQueue) (version : Version) (closed : List NumberedBytes) (last : NumberedBytes) (h : List Event) (at : ℕ)
    → FilesHoldTorn queue version (closed ++ last ∷ []) h → StopsAt (whole_file queue version last) at → FilesHold queue version (cut_last at (closed ++ last ∷ [])) h)
    (few_records : (queue : LogQueue) (version : Version) (files : List NumberedBytes) (h : List Event) → FilesHold queue version files h → bytes_of_files files < 2 ^ 63 → IsSmall h) where
  opened_has : (content : EntryIndex → List ℕ) (version : Version) (append rewrite : List NumberedBytes) (records : ℕ → Records) → AreFoundIn content version append rewrite records
      → (engine : KeptEngine) → IsOpened version append rewrite engine → HaveRecords content engine.accessor.tables records
  opened_has content version append rewrite records f engine o =
      found_read one content version append rewrite records f o.read.appended o.read.rewritten o.read.append_held o.read.rewrite_held engine.accessor.tables engine.accessor.cleaned o.read.reading

  -- ---- a recovery

  -- what is held is held once the last file is cut
  cut_held : (queue : LogQueue) (version : Version) (files left : List NumberedBytes) (h : List Event) → AreCut queue version files left → FilesHoldTorn queue version files h → FilesHold queue version left h
  cut_held queue version files left h (inl none) held =
      let is : h ≡ [] = subst (λ (fs : List NumberedBytes). FilesHoldTorn queue version fs h) none.0 held in
      subst (λ (fs : List NumberedBytes). FilesHold queue version fs h) (sym none.1) is
  cut_held queue version files left h (inr c) held =
      subst (λ (fs : List NumberedBytes). FilesHold queue version fs h) (sym (c.is ∙ ap (cut_last c.at) c.split))
      (cut queue version c.closed c.last h c.at (subst (λ (fs : List NumberedBytes). FilesHoldTorn queue version fs h) c.split held) c.stops)

  -- segments hold what the files do
  pub segments_one : (queue : LogQueue) (version : Version) (files : List NumberedBytes) (segments : List (Vec Part Global)) (g h : List Event) → (s : AreSegmentsOf queue version files segments)
      → SegmentsHold segments g → FilesHoldTorn queue version files h → (g ≡ h) × IsSmall g
  segments_one queue version files segments g h s there held =
      let holds : FilesHold queue version s.cut g = (s.same g).1 there in (
        one queue version s.cut g h (whole queue version s.cut g holds) (whole queue version s.cut h (cut_held queue version files s.cut h s.are_cut held)),
        few_records queue version s.cut g holds s.few,
      )

  recovered_has : (content : EntryIndex → List ℕ) (version : Version) (append rewrite : List NumberedBytes) (records : ℕ → Records) → AreFoundIn content version append rewrite records
      → (appended rewritten : List (Vec Part Global)) → AreSegmentsOf Append version append appended → AreSegmentsOf Rewrite version rewrite rewritten
      → (accessor : Accessor) → AreBothRecovered (SegmentsHold rewritten) (SegmentsHold appended) accessor → HaveRecords content accessor.tables records
  recovered_has content version append rewrite records f appended rewritten s t accessor b =
      let a = segments_one Append version append appended b.append f.appended s b.append_held f.append_held in
      let r = segments_one Rewrite version rewrite rewritten b.rewrite f.rewritten t b.rewrite_held f.rewrite_held in
      f.found accessor.tables accessor.cleaned
      (subst (λ (k : List Event). IsReadingOfBoth k f.appended accessor.tables accessor.cleaned) r.0
      (subst (λ (h : List Event). IsReadingOfBoth b.rewrite h accessor.tables accessor.cleaned) a.0 (b.reading r.1 a.1 (subst Apart (sym r.0) f.apart))))

  -- what was found in the files restarts find
  restarts_find : (content : EntryIndex → List ℕ) (version : Version) (append rewrite : List NumberedBytes) (records : ℕ → Records) (AreSo : Tables → Type 0)
      → ((tables : Tables) → HaveRecords content tables records → AreSo tables) → AreFoundIn content version append rewrite records → RestartsFind version append rewrite AreSo
  restarts_find content version append rewrite records AreSo so f = record {
    opened = λ engine o. so engine.accessor.tables (opened_has content version append rewrite records f engine o);
    recovered = λ appended rewritten a r accessor b. so accessor.tables (recovered_has content version append rewrite records f appended rewritten a r accessor b);
  }

  -- ---- what is accepted

  -- where reading stops at the end of the last file, there is no torn tail
  untorn_held : (queue : LogQueue) (version : Version) (files : List NumberedBytes) (h : List Event)
      → ((closed : List NumberedBytes) (last : NumberedBytes) → files ≡ closed ++ last ∷ [] → StopsAt (whole_file queue version last) (length last.1))
      → FilesHoldTorn queue version files h → FilesHold queue version files h
  untorn_held queue version [] h ends held = held
  untorn_held queue version (file ∷ []) h ends held =
      subst (λ (bytes : List ℕ). FilesHold queue version ((file.0, bytes) ∷ []) h) (take_all (length file.1) file.1 (omega arith)) (cut queue version [] file h (length file.1) held (ends [] file refl))
  untorn_held queue version (file ∷ next ∷ files) h ends held = record {
    first = held.first;
    rest = held.rest;
    first_held = held.first_held;
    rest_held = untorn_held queue version (next ∷ files) held.rest (λ closed last e. ends (file ∷ closed) last (ap (λ (fs : List NumberedBytes). file ∷ fs) e)) held.rest_held;
    split = held.split;
  }

  -- files that are ready hold the same
  pub ready_held : (queue : LogQueue) (version : Version) (asks later : List Ask) (files left : List NumberedBytes) (h : List Event) → IsReady queue version asks later files left
      → FilesHoldTorn queue version files h → FilesHold queue version left h
  ready_held queue version asks later files left h ready held = go ready.ready
    where
      go : IsFirstBegun queue asks later files left ⊎ (IsUntorn queue version asks later files left ⊎ IsCut queue version asks later files left) → FilesHold queue version left h
      go (inl b) =
          let is : h ≡ [] = subst (λ (fs : List NumberedBytes). FilesHoldTorn queue version fs h) b.none held in
          subst (λ (fs : List NumberedBytes). FilesHold queue version fs h) (sym b.first)
          (subst (FilesHold queue version ((1, []) ∷ [])) (sym is) (record { first = []; rest = []; first_held = refl; rest_held = refl; split = refl }))
      go (inr (inl u)) = subst (λ (fs : List NumberedBytes). FilesHold queue version fs h) (sym u.same) (untorn_held queue version files h u.ends held)
      go (inr (inr c)) =
          subst (λ (fs : List NumberedBytes). FilesHold queue version fs h) (sym (c.cut ∙ ap (cut_last c.at) c.split))
          (cut queue version c.closed c.last h c.at (subst (λ (fs : List NumberedBytes). FilesHoldTorn queue version fs h) c.split held) c.torn.0)

  one_openable : (mode : RecoveryMode) (queue : LogQueue) (version : Version) (files : List NumberedBytes) (h : List Event) → AreConsecutive (numbers files) → ¬ (IsLastRefused mode queue version files)
      → ¬ (IsLastOfOther queue version files) → IsLastSound queue version files → FilesHoldTorn queue version files h → IsSoundIn queue h → AreOpenable mode queue version files
  one_openable mode queue version files h consecutive tolerated of_version sealed held sound = record {
    accepted = record { consecutive = consecutive; tolerated = tolerated; of_version = of_version; sound = sealed };
    readable = λ asks later ready is few bad.
        let there = ready_held queue version asks later files ready h is held in
        bad.unsound h there (few_records queue version ready h there few) (record { queue = queue; sound = sound });
    recoverable = λ segments s bad.
        let there = cut_held queue version files s.cut h s.are_cut held in
        bad.unsound h ((s.same h).0 there) (few_records queue version s.cut h there s.few) (record { queue = queue; sound = sound });
  }

  -- ---- a moment

  held_once : (queue : LogQueue) (version : Version) (files : List NumberedBytes) (g h : List Event) → FilesHold queue version files g → FilesHold queue version files h → g ≡ h
  held_once queue version files g h first second = one queue version files g h (whole queue version files g first) (whole queue version files h second)

  sound_files : (content : EntryIndex → List ℕ) (version : Version) (base : ℕ → Records) (asks : List Ask) (l : IsLastingAfter content version base asks) (mode : RecoveryMode) (append rewrite : List NumberedBytes)
      → IsLeftOf Append asks append → IsLeftOf Rewrite asks rewrite → AreTailsTolerated mode version append rewrite → AreSoundFiles mode version append rewrite
  sound_files content version base asks l mode append rewrite a r t =
      let f = (l.left append rewrite a r).2 in record {
        append_accepted = (one_openable mode Append version append f.appended f.append_consecutive t.0 (l.of_version Append append a) (l.sealed Append append a) f.append_held f.append_sound).accepted;
        rewrite_accepted = (one_openable mode Rewrite version rewrite f.rewritten f.rewrite_consecutive t.1 (l.of_version Rewrite rewrite r) (l.sealed Rewrite rewrite r) f.rewrite_held f.rewrite_sound).accepted;
        appended = f.appended;
        rewritten = f.rewritten;
        append_sound = f.append_sound;
        rewrite_sound = f.rewrite_sound;
        rows = f.rows;
        append_found = f.append_held;
        rewrite_found = f.rewrite_held;
        append_held = λ asked later ready is. ready_held Append version asked later append ready f.appended is f.append_held;
        rewrite_held = λ asked later ready is. ready_held Rewrite version asked later rewrite ready f.rewritten is f.rewrite_held;
      }

  pub found_by_restarts : (content : EntryIndex → List ℕ) (version : Version) (base : ℕ → Records) (asks : List Ask) (l : IsLastingAfter content version base asks)
      → IsFoundByRestarts content version base asks l.synced l.batches
  found_by_restarts content version base asks l = record {
    left = λ append rewrite a r.
        let s = l.left append rewrite a r in (
          s.0,
          s.1,
          restarts_find content version append rewrite (live content base s.0) (λ tables. HaveRecords content tables (live content base s.0)) (λ tables have. have) s.2,
        );
    opened_any = λ append rewrite a r engine o.
        let s = l.left_any append rewrite a r o.read.appended o.read.rewritten o.read.append_held o.read.rewrite_held in
        (s.0, s.1, opened_has content version append rewrite (live content base s.0) s.2 engine o);
    tolerated = λ found append rewrite a r. (not_refused Append version append (l.undamaged Append found.0 append a), not_refused Rewrite version rewrite (l.undamaged Rewrite found.1 rewrite r));
    accepted = λ mode append rewrite a r t.
        let f = (l.left append rewrite a r).2 in (
          one_openable mode Append version append f.appended f.append_consecutive t.0 (l.of_version Append append a) (l.sealed Append append a) f.append_held f.append_sound,
          one_openable mode Rewrite version rewrite f.rewritten f.rewrite_consecutive t.1 (l.of_version Rewrite rewrite r) (l.sealed Rewrite rewrite r) f.rewrite_held f.rewrite_sound,
          λ asked later ready is. record { batches = f.rewritten; held = ready_held Rewrite version asked later rewrite ready f.rewritten is f.rewrite_held; rows = f.rows },
        );
    opens = λ mode append rewrite a r t. openings_succeed held_once few_records mode version append rewrite (sound_files content version base asks l mode append rewrite a r t);
    opens_over = λ mode append rewrite a r t. openings_over_succeed held_once few_records mode version append rewrite (sound_files content version base asks l mode append rewrite a r t);
    whole =
        restarts_find content version (files_of Append asks) (files_of Rewrite asks) (live content base l.batches) (λ tables. HaveRecords content tables (live content base l.batches)) (λ tables have. have) l.whole;
    told = λ queue told files left is cut_is. l.told queue told files left is cut_is;
  }

-- what is so of the records is so of what restarts find
find_so : (version : Version) (append rewrite : List NumberedBytes) (These AreSo : Tables → Type 0) → ((tables : Tables) → These tables → AreSo tables)
    → RestartsFind version append rewrite These → RestartsFind version append rewrite AreSo
find_so version append rewrite These AreSo so f = record {
  opened = λ engine o. so engine.accessor.tables (f.opened engine o);
  recovered = λ appended rewritten a r accessor b. so accessor.tables (f.recovered appended rewritten a r accessor b);
}

-- whenever the machine crashes
pub kept_by_restarts : ((content : EntryIndex → List ℕ) (version : Version) (base : ℕ → Records) (asks : List Ask) (l : IsLastingAfter content version base asks)
    → IsFoundByRestarts content version base asks l.synced l.batches)
    → ((content : EntryIndex → List ℕ) (engine : KeptEngine) (l : IsLasting content engine) → AreFromBefore content engine.version engine.asks l.base)
    → (content : EntryIndex → List ℕ) (engine : KeptEngine) → IsLasting content engine → IsKeptByRestarts content engine
kept_by_restarts find before content engine l =
    let f = find content engine.version l.base engine.asks l.now in
    record {
      lasting = l;
      now = f;
      ever = λ later earlier split begun. find content engine.version l.base earlier (l.ever later earlier split begun);
      same_synced = λ intact is append rewrite a r.
          let s = f.left append rewrite a r in
          find_so engine.version append rewrite (λ tables. HaveRecords content tables (live content l.base s.0)) (HaveSame content engine.accessor.tables)
          (λ tables have. record {
            records = live content l.base l.now.batches;
            have = l.has intact;
            others_have = subst (λ (k : List Event). HaveRecords content tables (live content l.base k)) (whole_front l.now.synced l.now.batches s.0 s.1 (l.now.all is)) have;
          })
          s.2;
      before = before content engine l;
      same_whole = λ intact.
          find_so engine.version (files_of Append engine.asks) (files_of Rewrite engine.asks) (λ tables. HaveRecords content tables (live content l.base l.now.batches)) (HaveSame content engine.accessor.tables)
          (λ tables have. record { records = live content l.base l.now.batches; have = l.has intact; others_have = have }) f.whole;
    }

-- the same on a disk that writes in any order
pub kept_unordered : ((content : EntryIndex → List ℕ) (version : Version) (base : ℕ → Records) (asks : List Ask) (l : IsLastingAfter content version base asks)
    → IsFoundByRestarts content version base asks l.synced l.batches)
    → (content : EntryIndex → List ℕ) (engine : KeptEngine) → IsLasting content engine → IsKeptUnordered content engine
kept_unordered find content engine l = record {
  lasting = l;
  now = (find content engine.version l.base engine.asks l.now).opened_any;
  ever = λ later earlier split begun. (find content engine.version l.base earlier (l.ever later earlier split begun)).opened_any;
}
