-- What a recovery gives of the files that are found.
use Rattle.raft_engine.proofs.Common.{◌≡◌, ◌≢◌, ◌⊎◌, inl, inr, ℕ, ◌<◌, ◌≤◌, ◌^◌, List, [], ◌∷◌, ◌++◌, map, Vec, refl, sym, ap, subst, ◌∙◌, arith, Result, Ok, Err, IfErr, OnOk, Global, IsInvalidArgument, Error, FileId, LogQueue, Append, Rewrite, Version, Part, Item, Batch}
use Rattle.raft_engine.proofs.Common.{empty_batch, Event, IsReadingOfBoth, Suits, Apart, AreOfQueue, IsOfQueue, IsSmall, IsSoundIn, Sound, of_both, append_apart, Accessor, AreOfBothQueues, IsOfBothExactly, HasRead, HasReadExactly, RecoverContext, IsTakenAway, TakenAway}
use Rattle.raft_engine.proofs.Common.{NumberedBytes, cut_last, IsReplayed, HoldsFrom, SegmentsAreOf, SegmentsHold, parts_within, IsNothing, StopsAmong, bytes_of_parts, bytes_of_segments, segments_read_of_queue, AreWholeFiles, FilesHold, bytes_of_files, segment_shown, whole_file}
use Rattle.raft_engine.proofs.Common.{MayReplayBoth, as_many, same_read, segments_are_of, AreGroupsInRows, AreBothRead, AreFoundTables, DoesTakenTakeAway, IsTakenToldByMarks, IsTakenToldNowOrLater, rows_apart, taken_in_steps, FilesHoldTorn, StopsAt, AreSegmentsOfFiles}
use Rattle.raft_engine.proofs.Common.{AreOutOfRows, HaveRows, NoneIsInRows, AreRecovered, left_by, missing_asks, AreBothReadUpTo, AreReadBy, HasReadAll, AreReadyFiles, IsNoRefusal, BothRead, Ready, RecoveryMode, AreManyAs, AreUnreadableAs, IsOpeningRefusal, IsRecoveryFault}
use Rattle.raft_engine.proofs.Common.{IsTooLongAs, MayRecover, Refusal}
use Rattle.raft_base.specs.declared.errors.Error.TheVariants as errors
use Rattle.raft_history.specs.Contexts.{files_of}
use Rattle.raft_contexts.specs.declared.context_stage.ContextStage.TheVariants.{Reading}
use Rattle.raft_engine.proofs.FoundQueueLemmas.{left_few}
use Rattle.raft_engine.proofs.RestartLemmas.{OneReading, ready_held}

suits : (queue : LogQueue) (h : List Event) → IsOfQueue queue h → Suits queue (files_of h)
suits queue [] all = tt
suits queue (e ∷ h) all = all.each.0

-- what a context has read of the segments of files can be read
pub read_sound : (queue : LogQueue) (segments : List (Vec Part Global)) (context : RecoverContext) → SegmentsAreOf queue segments → (h : List Event) → SegmentsHold segments h → HasReadAll context h
    → IsSmall h → IsSoundIn queue h
read_sound queue segments context of h held read small =
    let stands = (read small).0.stands in
    (stands.stands queue (subst (Suits queue) (sym stands.files) (suits queue h (segments_read_of_queue queue segments of h held)))).sound

-- files that hold batches, which contexts have read
module _
    (few_records : (queue : LogQueue) (version : Version) (files : List NumberedBytes) (h : List Event) → FilesHold queue version files h → bytes_of_files files < 2 ^ 63 → IsSmall h)
    (one : (segments : List (Vec Part Global)) (g h : List Event) → SegmentsHold segments g → SegmentsHold segments h → g ≡ h)
    (version : Version) (append rewrite : List NumberedBytes) (append_segments rewrite_segments : List (Vec Part Global))
    (a : AreSegmentsOfFiles Append version append append_segments) (r : AreSegmentsOfFiles Rewrite version rewrite rewrite_segments)
    (rows : HaveRows (SegmentsHold rewrite_segments)) (appended rewritten : RecoverContext) where
  pub read_by : (g h : List Event) → FilesHold Append version append g → FilesHold Rewrite version rewrite h → HasReadAll appended g → HasReadAll rewritten h → AreReadBy version append rewrite appended rewritten
  read_by g h g_held h_held g_read h_read = record {
    append_batches = g;
    rewrite_batches = h;
    append_held = g_held;
    rewrite_held = h_held;
    append_of = segments_read_of_queue Append append_segments a.of_queue g ((a.same g).0 g_held);
    rewrite_of = segments_read_of_queue Rewrite rewrite_segments r.of_queue h ((r.same h).0 h_held);
    append_small = few_records Append version append g g_held a.few;
    rewrite_small = few_records Rewrite version rewrite h h_held r.few;
    append_read = g_read;
    rewrite_read = h_read;
    rows =
        let same = one rewrite_segments rows.batches h rows.held ((r.same h).0 h_held) in
        subst AreGroupsInRows same (rows.rows (subst IsSmall (sym same) (few_records Rewrite version rewrite h h_held r.few)));
  }

  pub replayed_by : IsReplayed HasRead HasReadExactly append_segments appended → IsReplayed HasRead HasReadExactly rewrite_segments rewritten → AreReadBy version append rewrite appended rewritten
  replayed_by g h =
      read_by g.history h.history ((a.same g.history).1 g.held) ((r.same h.history).1 h.held) (λ small. (g.stands small, g.exact small)) (λ small. (h.stands small, h.exact small))

-- what contexts give that have read the batches of files
module _ (version : Version) (append rewrite : List NumberedBytes) (appended rewritten : RecoverContext) (by : AreReadBy version append rewrite appended rewritten) where
  abbrev g : List Event
  g = by.append_batches

  abbrev h : List Event
  h = by.rewrite_batches

  pub append_stands : HasRead appended g
  append_stands = (by.append_read by.append_small).0

  pub rewrite_stands : HasRead rewritten h
  rewrite_stands = (by.rewrite_read by.rewrite_small).0

  append_suits : Suits Append appended.context.files
  append_suits = subst (Suits Append) (sym append_stands.stands.files) (suits Append g by.append_of)

  rewrite_suits : Suits Rewrite rewritten.context.files
  rewrite_suits = subst (Suits Rewrite) (sym rewrite_stands.stands.files) (suits Rewrite h by.rewrite_of)

  append_sound : IsSoundIn Append g
  append_sound = (append_stands.stands.stands Append append_suits).sound

  rewrite_sound : IsSoundIn Rewrite h
  rewrite_sound = (rewrite_stands.stands.stands Rewrite rewrite_suits).sound

  apart : Apart h
  apart = rows_apart h by.rows

  append_exactly : HasReadExactly appended g
  append_exactly = (by.append_read by.append_small).1 (record { each = append_apart 0 g append_sound.files })

  rewrite_exactly : HasReadExactly rewritten h
  rewrite_exactly = (by.rewrite_read by.rewrite_small).1 apart

  queues : AreOfBothQueues rewritten.context appended.context
  queues = record { rewrite_suits = rewrite_suits; append_suits = append_suits }

  pub read_on : (appended.stage ≢ Reading) ⊎ (rewritten.stage ≢ Reading) → ⊥
  read_on stopped = elim stopped [
    | inl a ↦ a append_stands.stage
    | inr r ↦ r rewrite_stands.stage
  ]

  both_read : AreBothRead appended rewritten g h
  both_read = record { append_read = append_stands; rewrite_read = rewrite_exactly; queues = queues }

  -- contexts that read on are put over each other for want of memory alone
  pub merge_memory : (e : Error)
      → ((rewrite appended_too : List Event) → IsSmall rewrite → IsSmall appended_too → IsOfQueue Rewrite rewrite → IsOfQueue Append appended_too → HasRead rewritten rewrite → HasRead appended appended_too
      → e ≡ errors.Memory) → e ≡ errors.Memory
  merge_memory e memory = memory h g by.rewrite_small by.append_small by.rewrite_of by.append_of rewrite_stands append_stands

  pub both_exactly : (new : RecoverContext) → ((h g : List Event) → HasReadExactly rewritten h → HasReadExactly appended g → IsOfBothExactly new h g) → IsOfBothExactly new h g
  both_exactly new exact = exact h g rewrite_exactly append_exactly

  module _ (tells : IsTakenToldByMarks) (says : IsTakenToldNowOrLater) (away : DoesTakenTakeAway) (entries : AreFoundTables) (taken : TakenAway) (is : IsTakenAway appended.context.regions rewritten.context.regions.tables taken)
      (accessor : Accessor) (reading : IsReadingOfBoth h g accessor.tables accessor.cleaned) where
    opened : (told : Batch) (items : List Item) → told ≡ record empty_batch { items = items } → told ≡ record empty_batch { items = told.items }
    opened told items e = e ∙ ap (λ (l : List Item). record empty_batch { items = l }) (sym (ap (λ (b : Batch). b.items) e))

    pub recovered_by : AreRecovered version append rewrite accessor taken.at_once taken.later
    recovered_by = record {
      appended = g;
      rewritten = h;
      append_held = by.append_held;
      rewrite_held = by.rewrite_held;
      append_sound = append_sound;
      rewrite_sound = rewrite_sound;
      apart = apart;
      rows = by.rows;
      reading = reading;
      runs = entries appended rewritten g h both_read accessor.tables accessor.cleaned reading;
      told_open = opened taken.at_once _ is.at_once;
      untold_open = opened taken.later _ is.later;
      told_away = (away appended.context.regions rewritten.context.regions.tables taken is).0;
      told_steps = taken_in_steps appended rewritten g h both_read taken is accessor.tables accessor.cleaned reading;
      untold_away = (away appended.context.regions rewritten.context.regions.tables taken is).1;
      tells = tells appended rewritten g h both_read taken is accessor.tables accessor.cleaned reading;
      says = says appended rewritten g h both_read taken is accessor.tables accessor.cleaned reading;
    }

-- ---- why nothing is recovered

head_same : {A : Type 0} (x y : A) (xs ys : List A) → x ∷ xs ≡ y ∷ ys → x ≡ y
head_same x y xs ys e = cc

tail_same : {A : Type 0} (x y : A) (xs ys : List A) → x ∷ xs ≡ y ∷ ys → xs ≡ ys
tail_same x y xs ys e = cc

-- whole files, one after the other, are the parts of their segments, and have as many bytes
pub whole_parts : (queue : LogQueue) (version : Version) (files : List NumberedBytes) (segments : List (Vec Part Global)) → AreWholeFiles queue version files segments
    → parts_within segments ≡ map (whole_file queue version) files
whole_parts queue version [] [] e = refl
whole_parts queue version [] (s ∷ segments) e = absurd cc
whole_parts queue version (f ∷ files) [] e = absurd cc
whole_parts queue version (f ∷ files) (s ∷ segments) e =
    let wholes : List (List Part) = map (λ (file : NumberedBytes). whole_file queue version file ∷ []) files in
    let first : s.items ≡ whole_file queue version f ∷ [] = head_same s.items (whole_file queue version f ∷ []) (map segment_shown segments) wholes e in
    let rest : map segment_shown segments ≡ wholes = tail_same s.items (whole_file queue version f ∷ []) (map segment_shown segments) wholes e in
    ap (λ (l : List Part). l ++ parts_within segments) first ∙ ap (λ (l : List Part). whole_file queue version f ∷ l) (whole_parts queue version files segments rest)

pub whole_bytes : (queue : LogQueue) (version : Version) (files : List NumberedBytes) (segments : List (Vec Part Global)) → AreWholeFiles queue version files segments
    → bytes_of_segments segments ≡ bytes_of_files files
whole_bytes queue version [] [] e = refl
whole_bytes queue version [] (s ∷ segments) e = absurd cc
whole_bytes queue version (f ∷ files) [] e = absurd cc
whole_bytes queue version (f ∷ files) (s ∷ segments) e =
    let wholes : List (List Part) = map (λ (file : NumberedBytes). whole_file queue version file ∷ []) files in
    let first : s.items ≡ whole_file queue version f ∷ [] = head_same s.items (whole_file queue version f ∷ []) (map segment_shown segments) wholes e in
    let rest : map segment_shown segments ≡ wholes = tail_same s.items (whole_file queue version f ∷ []) (map segment_shown segments) wholes e in
    let one = ap bytes_of_parts first in
    let more = whole_bytes queue version files segments rest in
    omega (arith, one, more)

pub few_files : (queue : LogQueue) (version : Version) (files : List NumberedBytes) (segments : List (Vec Part Global)) → AreWholeFiles queue version files segments → bytes_of_segments segments < 2 ^ 63 → bytes_of_files files < 2 ^ 63
few_files queue version files segments all few = subst (λ (n : ℕ). n < 2 ^ 63) (whole_bytes queue version files segments all) few

pub many_files : (queue : LogQueue) (version : Version) (files : List NumberedBytes) (segments : List (Vec Part Global)) (e : Error) → AreWholeFiles queue version files segments
    → (2 ^ 63 ≤ bytes_of_segments segments) × (e ≡ errors.Full) → AreManyAs files e
many_files queue version files segments e all many = (subst (λ (n : ℕ). 2 ^ 63 ≤ n) (whole_bytes queue version files segments all) many.0, many.1)

-- segments of whole files that have few bytes
pub segments_of : (queue : LogQueue) (version : Version) (files : List NumberedBytes) (segments : List (Vec Part Global)) → AreWholeFiles queue version files segments → bytes_of_segments segments < 2 ^ 63
    → AreSegmentsOfFiles queue version files segments
segments_of queue version files segments all few = record {
  same = λ h. let s = same_read queue version files segments all h in (s.0, s.1);
  whole = all;
  of_queue = segments_are_of queue version files segments all;
  count = as_many queue version files segments all;
  few = few_files queue version files segments all few;
}

-- the same of a slice of them
pub of_slice : (queue : LogQueue) (version : Version) (files : List NumberedBytes) (segments slice : List (Vec Part Global)) → slice ≡ segments → AreSegmentsOfFiles queue version files segments
    → AreSegmentsOfFiles queue version files slice
of_slice queue version files segments slice e s = subst (AreSegmentsOfFiles queue version files) (sym e) s

pub unreadable_as : (version : Version) (workers : ℕ) (append rewrite : List NumberedBytes) (append_segments rewrite_segments : List (Vec Part Global)) (e : Error)
    → AreSegmentsOfFiles Append version append append_segments → AreSegmentsOfFiles Rewrite version rewrite rewrite_segments
    → (MayReplayBoth workers rewrite_segments append_segments → bytes_of_segments rewrite_segments < 2 ^ 63 → bytes_of_segments append_segments < 2 ^ 63
    → StopsAmong IsNothing Sound (parts_within rewrite_segments) e ⊎ StopsAmong IsNothing Sound (parts_within append_segments) e)
    → (¬ (MayReplayBoth workers rewrite_segments append_segments) → IsInvalidArgument e)
    → AreUnreadableAs version workers append rewrite e
unreadable_as version workers append rewrite append_segments rewrite_segments e a r place fault = record {
  few = (a.few, r.few);
  stops = λ may. elim (place (replay may) (few Rewrite rewrite rewrite_segments r) (few Append append append_segments a)) [
    | inl s ↦ inr (subst (λ (parts : List Part). StopsAmong IsNothing Sound parts e) (whole_parts Rewrite version rewrite rewrite_segments r.whole) s)
    | inr s ↦ inl (subst (λ (parts : List Part). StopsAmong IsNothing Sound parts e) (whole_parts Append version append append_segments a.whole) s)
  ];
  fault = λ not. fault (λ both. not (recover both));
}
  where
    few : (queue : LogQueue) (files : List NumberedBytes) (segments : List (Vec Part Global)) → AreSegmentsOfFiles queue version files segments → bytes_of_segments segments < 2 ^ 63
    few queue files segments s = subst (λ (n : ℕ). n < 2 ^ 63) (sym (whole_bytes queue version files segments s.whole)) s.few

    replay : MayRecover workers append rewrite → MayReplayBoth workers rewrite_segments append_segments
    replay may = (
      (may.0, may.1, subst (λ (n : ℕ). n < 2 ^ 62) (sym r.count) may.3, r.of_queue),
      (may.0, may.1, subst (λ (n : ℕ). n < 2 ^ 62) (sym a.count) may.2, a.of_queue),
    )

    recover : MayReplayBoth workers rewrite_segments append_segments → MayRecover workers append rewrite
    recover both = (both.0.0, both.0.1, subst (λ (n : ℕ). n < 2 ^ 62) a.count both.1.2, subst (λ (n : ℕ). n < 2 ^ 62) r.count both.0.2)

-- where the rewrite files hold batches that can be read, a group of theirs doesn't stand in a row
pub out_of_rows : ((queue : LogQueue) (version : Version) (files : List NumberedBytes) (h : List Event) → FilesHold queue version files h → bytes_of_files files < 2 ^ 63 → IsSmall h)
    → (version : Version) (rewrite : List NumberedBytes) (h : List Event) (e : Error) → FilesHold Rewrite version rewrite h → bytes_of_files rewrite < 2 ^ 63 → (IsSmall h → IsSoundIn Rewrite h)
    → NoneIsInRows (FilesHold Rewrite version rewrite) e → AreOutOfRows (FilesHold Rewrite version rewrite) e
out_of_rows few_records version rewrite h e held few sound none =
    let small = few_records Rewrite version rewrite h held few in
    let why = none h held small (record { queue = Rewrite; sound = sound small }) in
    record { batches = h; held = held; out = why.0; invalid = why.1 }

-- why a reading is refused, once the files of both queues are ready
module _ (IsRefused : Refusal) (mode : RecoveryMode) (version : Version) (append rewrite : List NumberedBytes) (ready : Ready) (are : AreReadyFiles mode version append rewrite ready) where
  abbrev append_left : List NumberedBytes
  append_left = left_by ready.append.missing append

  abbrev rewrite_left : List NumberedBytes
  rewrite_left = left_by ready.rewrite.missing rewrite

  pub reading_refused : (e : Error) → (e ≢ errors.Memory → IsRecoveryFault IsRefused append_left rewrite_left e ⊎ IsTooLongAs version append_left rewrite_left e) → IsOpeningRefusal IsRefused mode version append rewrite e
  reading_refused e fault other = inr (inr (record {
    accepted = (are.append.missing.accepted, are.rewrite.missing.accepted);
    append_missing = missing_asks Append ready.append.missing;
    rewrite_missing = missing_asks Rewrite ready.rewrite.missing;
    append_left = append_left;
    rewrite_left = rewrite_left;
    append_ready = are.append.missing.ready;
    rewrite_ready = are.rewrite.missing.ready;
    fault = fault other;
  }))

  -- they have too many bytes
  pub many_refused : (e : Error) → (e ≢ errors.Memory → AreManyAs append_left e ⊎ AreManyAs rewrite_left e) → IsOpeningRefusal IsRefused mode version append rewrite e
  many_refused e many = reading_refused e (λ other. elim (many other) [
    | inl m ↦ inl (inl m)
    | inr m ↦ inl (inr (inl m))
  ])

  -- what is told of them at once is too long
  pub long_refused : {T : Type 0} (result : Result T Error) → IfErr result (λ e. e ≢ errors.Memory → IsTooLongAs version append_left rewrite_left e) → IfErr result (IsOpeningRefusal IsRefused mode version append rewrite)
  long_refused (Ok r) long = tt
  long_refused (Err e) long = reading_refused e (λ other. inr (long other))

-- a refusal that no recovery gives is one whatever a recovery refuses
pub any_refusal : (IsRefused : Refusal) (mode : RecoveryMode) (version : Version) (append rewrite : List NumberedBytes) (e : Error) → IsOpeningRefusal IsNoRefusal mode version append rewrite e
    → IsOpeningRefusal IsRefused mode version append rewrite e
any_refusal IsRefused mode version append rewrite e refusal other = elim (refusal other) [
  | inl a ↦ inl a
  | inr r ↦ elim r [
    | inl b ↦ inr (inl b)
    | inr f ↦ inr (inr (record {
      accepted = f.accepted;
      append_missing = f.append_missing;
      rewrite_missing = f.rewrite_missing;
      append_left = f.append_left;
      rewrite_left = f.rewrite_left;
      append_ready = f.append_ready;
      rewrite_ready = f.rewrite_ready;
      fault = elim f.fault [
        | inl g ↦ elim g [
          | inl m ↦ inl (inl m)
          | inr h ↦ elim h [
            | inl m ↦ inl (inr (inl m))
            | inr none ↦ absurd none
          ]
        ]
        | inr l ↦ inr l
      ];
    }))
  ]
]

-- what is read of files of a queue is of the queue
file_of_queue : (queue : LogQueue) (version : Version) (file : NumberedBytes) (at : ℕ) (h : List Event) → HoldsFrom (whole_file queue version file) at h → AreOfQueue queue h
file_of_queue queue version file at [] held = tt
file_of_queue queue version file at (e ∷ h) held = (ap (λ (id : FileId). id.queue) held.0, file_of_queue queue version file held.1.0 h held.1.2)

pub files_of_queue : (queue : LogQueue) (version : Version) (files : List NumberedBytes) (h : List Event) → FilesHold queue version files h → IsOfQueue queue h
files_of_queue queue version [] h held = subst (IsOfQueue queue) (sym held) (record { each = tt })
files_of_queue queue version (file ∷ files) h held =
    subst (IsOfQueue queue) (sym held.split)
    (of_both queue held.first held.rest (record { each = file_of_queue queue version file 0 held.first held.first_held }) (files_of_queue queue version files held.rest held.rest_held))

-- contexts that have read the files of both queues, up to where the reading of the last ones stops
module _
    (whole : (queue : LogQueue) (version : Version) (files : List NumberedBytes) (h : List Event) → FilesHold queue version files h → FilesHoldTorn queue version files h)
    (one : OneReading)
    (cut : (queue : LogQueue) (version : Version) (closed : List NumberedBytes) (last : NumberedBytes) (h : List Event) (at : ℕ)
    → FilesHoldTorn queue version (closed ++ last ∷ []) h → StopsAt (whole_file queue version last) at → FilesHold queue version (cut_last at (closed ++ last ∷ [])) h)
    (few_records : (queue : LogQueue) (version : Version) (files : List NumberedBytes) (h : List Event) → FilesHold queue version files h → bytes_of_files files < 2 ^ 63 → IsSmall h)
    (mode : RecoveryMode) (version : Version) (found known : List NumberedBytes) (ready : Ready) (are : AreReadyFiles mode version found known ready)
    (read : BothRead) (b : AreBothReadUpTo version found known read) where
  append_there : FilesHold Append version (left_by ready.append.missing found) b.appended.history
  append_there =
      ready_held whole one cut few_records Append version [] (missing_asks Append ready.append.missing ++ []) found (left_by ready.append.missing found) b.appended.history
      (are.append.missing.ready []) b.appended.held

  rewrite_there : FilesHold Rewrite version (left_by ready.rewrite.missing known) b.rewritten.history
  rewrite_there =
      ready_held whole one cut few_records Rewrite version [] (missing_asks Rewrite ready.rewrite.missing ++ []) known (left_by ready.rewrite.missing known) b.rewritten.history
      (are.rewrite.missing.ready []) b.rewritten.held

  append_few : IsSmall b.appended.history
  append_few = few_records Append version (left_by ready.append.missing found) b.appended.history append_there (left_few ready.append.missing found (2 ^ 63) (omega arith) b.append_few)

  rewrite_few : IsSmall b.rewritten.history
  rewrite_few = few_records Rewrite version (left_by ready.rewrite.missing known) b.rewritten.history rewrite_there (left_few ready.rewrite.missing known (2 ^ 63) (omega arith) b.rewrite_few)

  pub both_read_by : AreReadBy version (left_by ready.append.missing found) (left_by ready.rewrite.missing known) read.appended.machine read.rewritten.machine
  both_read_by = record {
    append_batches = b.appended.history;
    rewrite_batches = b.rewritten.history;
    append_held = append_there;
    rewrite_held = rewrite_there;
    append_of = files_of_queue Append version (left_by ready.append.missing found) b.appended.history append_there;
    rewrite_of = files_of_queue Rewrite version (left_by ready.rewrite.missing known) b.rewritten.history rewrite_there;
    append_small = append_few;
    rewrite_small = rewrite_few;
    append_read = λ small. (b.appended.stands small, b.appended.exact small);
    rewrite_read = λ small. (b.rewritten.stands small, b.rewritten.exact small);
    rows = b.rows rewrite_few;
  }

-- what holds holds where a call succeeds
pub on_any : {T P : Type 0} (r : Result T Error) → P → OnOk r P
on_any (Ok t) p = p
on_any (Err e) p = tt
