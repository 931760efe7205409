-- What a context that has replayed all segments gives, and files as segments.
use Rattle.raft_recover.proofs.Common.{◌≡◌, ◌≢◌, ◌⊎◌, ◌↔◌, ◌<◌, ◌^◌, inl, inr, ℕ, List, [], ◌∷◌, Option, Result, Ok, Err, IfOk, IfErr, OnOk, Vec, sym, subst, ◌∙◌, arith, Global, Error, LogQueue, Version}
use Rattle.raft_recover.proofs.Common.{Part, IsIoError, Event, Suits, files_of, IsReadingOfBoth, Apart, IsSmall, IsSoundIn, IsOneReading, IsOfQueue, Tables, AreRewrittenFrom, HaveSameRecords, both_same}
use Rattle.raft_recover.proofs.Common.{append_apart, Accessor, AreCountsOf, IsOfBothExactly, RecoverContext, HasRead, HasReadExactly, ContextStage, IsReplayed, SegmentsHold, CannotBeRead, SegmentsAreOf, bytes_of_segments, small_segments}
use Rattle.raft_recover.proofs.Common.{segments_read_of_queue, segments_unique, FilesHold, FilesCannotBeRead, IsPrintFailure, PrintsRecovered, AreBothRecovered, IsRecovered, NumberedBytes, PrintsTables, PrintsFrontOfTables}
use Rattle.std.proofs.lemmas.Bool.{cases_lt}
use Rattle.raft_history.proofs.Words.{records_in_history}
use Rattle.raft_base.specs.declared.errors.Error.TheVariants as errors
use Rattle.raft_base.specs.declared.pipe_log.LogQueue.TheVariants.{Append, Rewrite}
use Rattle.raft_contexts.specs.declared.context_stage.ContextStage.TheVariants as stages

-- ---- the context of all segments

suits : (queue : LogQueue) (h : List Event) → IsOfQueue queue h → Suits queue (files_of h)
suits queue [] all = tt
suits queue (e ∷ h) all = all.each.0

abbrev is_failed : ContextStage → Type 0
is_failed stages.Failed = Unit {0}
is_failed _ = ⊥

module _ (queue : LogQueue) (segments : List (Vec Part Global)) (of_queue : SegmentsAreOf queue segments) (m : RecoverContext)
    (replayed : IsReplayed HasRead HasReadExactly segments m) where
  suited : IsSmall replayed.history → Suits queue m.context.files
  suited small =
      subst (Suits queue) (sym (replayed.stands small).stands.files)
      (suits queue replayed.history (segments_read_of_queue queue segments of_queue replayed.history replayed.held))

  pub recovered : (r : Result Accessor Error)
      → ((q : LogQueue) (h : List Event) → HasReadExactly m h → Suits q m.context.files → IfOk r (λ a. IsOneReading q h a.tables a.cleaned))
      → IfOk r (λ a. AreCountsOf a.tables a.counts) → IfOk r (IsRecovered queue (SegmentsHold segments))
  recovered (Ok a) one counted = record {
    history = replayed.history;
    held = replayed.held;
    sound = λ small. ((replayed.stands small).stands.stands queue (suited small)).sound;
    one_reading = λ small apart. one queue replayed.history (replayed.exact small apart) (suited small);
    exact_counts = counted;
  }
  recovered (Err e) one counted = tt

  pub unfinished : (r : Result Accessor Error) → IfErr r (λ e. (e ≡ errors.Failed) × (m.stage ≡ stages.Failed)) → IfErr r (λ e. e ≢ errors.Memory → CannotBeRead segments)
  unfinished (Ok a) failed = tt
  unfinished (Err e) failed = λ not_memory. record {
    unsound = λ h held small sound.
        let one = segments_unique segments h replayed.history held replayed.held in
        let reading = (replayed.stands (subst IsSmall one small)).stage in
        subst (λ s. is_failed s → ⊥) (sym reading) (λ none. none) (subst is_failed (sym failed.1) tt);
  }

  -- what holds few records is finished
  pub finished_few : {A : Type 0} (r : Result A Error) (P : Error → Type 0) → bytes_of_segments segments < 2 ^ 63 → IfErr r (λ e. (e ≡ errors.Failed) × (m.stage ≡ stages.Failed)) → IfErr r P
  finished_few (Ok a) P few failed = tt
  finished_few (Err e) P few failed =
      let reading = (replayed.stands (small_segments segments replayed.history replayed.held few)).stage in
      absurd (subst is_failed (sym failed.1 ∙ reading) tt)

-- ---- other segments of which the same is read

pub same_replayed : (segments shares : List (Vec Part Global)) → ((h : List Event) → SegmentsHold segments h ↔ SegmentsHold shares h) → (m : RecoverContext)
    → IsReplayed HasRead HasReadExactly shares m → IsReplayed HasRead HasReadExactly segments m
same_replayed segments shares same m r = record {
  history = r.history;
  held = (same r.history).1 r.held;
  stands = r.stands;
  exact = r.exact;
}

-- ---- files as segments

module _ (queue : LogQueue) (version : Version) (ss : List (Vec Part Global)) (files : List NumberedBytes)
    (same : (h : List Event) → FilesHold queue version files h ↔ SegmentsHold ss h) where
  files_recovered : (a : Accessor) → IsRecovered queue (SegmentsHold ss) a → IsRecovered queue (FilesHold queue version files) a
  files_recovered a r = record {
    history = r.history;
    held = (same r.history).1 r.held;
    sound = r.sound;
    one_reading = r.one_reading;
    exact_counts = r.exact_counts;
  }

  pub files_refused : CannotBeRead ss → FilesCannotBeRead queue version files
  files_refused cannot = record { unsound = λ h held. cannot.unsound h ((same h).0 held) }

  module _ (a : Accessor) (r : IsRecovered queue (SegmentsHold ss) a) where
    pub tables_printed : {X : Type 0} (printed : Result X Error) (old new : Option (List ℕ)) → OnOk printed (PrintsTables a old new) → OnOk printed (PrintsRecovered queue version files old new)
    tables_printed (Ok x) old new done = record { accessor = a; recovered = files_recovered a r; printed = done }
    tables_printed (Err e) old new done = tt

    module _ (old new : Option (List ℕ)) where
      failed : (e : Error) → IsIoError e → PrintsFrontOfTables a old new → IsPrintFailure queue version files old new e
      failed e io printed = record { io = io; printed = record { accessor = a; recovered = files_recovered a r; printed = printed } }

      kept_or_failed : (K : Type 0) (e : Error) → ((IsIoError e → ⊥) → K) → (IsIoError e → PrintsFrontOfTables a old new) → K ⊎ IsPrintFailure queue version files old new e
      kept_or_failed K (errors.Io x) silent printed = inr (failed (errors.Io x) tt (printed tt))
      kept_or_failed K e silent printed = inl (silent (λ io. io))

      pub tables_found : {X : Type 0} (printed : Result X Error) (K : Type 0) → IfErr printed (λ e. (IsIoError e → ⊥) → K)
          → IfErr printed (λ e. IsIoError e → PrintsFrontOfTables a old new) → IfErr printed (λ e. K ⊎ IsPrintFailure queue version files old new e)
      tables_found (Ok x) K silent front = tt
      tables_found (Err e) K silent front = kept_or_failed K e silent front

      failed_by : (e : Error) → ((IsIoError e → ⊥) → e ≡ errors.Memory) → (IsIoError e → PrintsFrontOfTables a old new) → e ≢ errors.Memory → IsPrintFailure queue version files old new e
      failed_by (errors.Io x) fault front not_memory = failed (errors.Io x) tt (front tt)
      failed_by e fault front not_memory = absurd (not_memory (fault (λ io. io)))

      pub print_failed : {X : Type 0} (printed : Result X Error) → IfErr printed (λ e. (IsIoError e → ⊥) → e ≡ errors.Memory)
          → IfErr printed (λ e. IsIoError e → PrintsFrontOfTables a old new) → IfErr printed (λ e. e ≢ errors.Memory → FilesCannotBeRead queue version files ⊎ IsPrintFailure queue version files old new e)
      print_failed (Ok x) fault front = tt
      print_failed (Err e) fault front = λ not_memory. inr (failed_by e fault front not_memory)

-- ---- the contexts of both queues

-- segments that hold no small history can't be read
few_or_unread : (segments : List (Vec Part Global)) (h : List Event) → SegmentsHold segments h → IsSmall h ⊎ CannotBeRead segments
few_or_unread segments h held = elim (cases_lt (records_in_history h) (2 ^ 63)) [
  | inl few ↦ inl (record { few = few })
  | inr many ↦ inr (record { unsound = λ g other small sound. let k = (subst IsSmall (segments_unique segments g h other held) small).few in absurd (omega (arith, many, k)) })
]

module _ (rewrite append : List (Vec Part Global)) (rewrite_of : SegmentsAreOf Rewrite rewrite) (append_of : SegmentsAreOf Append append) (old appended : RecoverContext)
    (older : IsReplayed HasRead HasReadExactly rewrite old) (newer : IsReplayed HasRead HasReadExactly append appended) where
  pub both_merged : (r : Result Unit Error)
      → ((h k : List Event) → IsSmall h → IsSmall k → IsOfQueue Rewrite h → IsOfQueue Append k → HasRead old h → HasRead appended k → IfErr r (λ e. e ≡ errors.Memory))
      → IfErr r (λ e. e ≢ errors.Memory → CannotBeRead rewrite ⊎ CannotBeRead append)
  both_merged (Ok u) memory = tt
  both_merged (Err e) memory = λ not_memory. elim (few_or_unread rewrite older.history older.held) [
    | inr cannot ↦ inl cannot
    | inl small ↦ elim (few_or_unread append newer.history newer.held) [
      | inr cannot ↦ inr cannot
      | inl few ↦ absurd (not_memory
          (memory older.history newer.history small few (segments_read_of_queue Rewrite rewrite rewrite_of older.history older.held)
          (segments_read_of_queue Append append append_of newer.history newer.held) (older.stands small) (newer.stands few)))
    ]
  ]

  -- two contexts of few records lack memory alone
  pub both_merged_few : (r : Result Unit Error) (P : Error → Type 0) → bytes_of_segments rewrite < 2 ^ 63 → bytes_of_segments append < 2 ^ 63
      → ((h k : List Event) → IsSmall h → IsSmall k → IsOfQueue Rewrite h → IsOfQueue Append k → HasRead old h → HasRead appended k → IfErr r (λ e. e ≡ errors.Memory))
      → IfErr r (λ e. e ≢ errors.Memory → P e)
  both_merged_few (Ok u) P few_rewrite few_append memory = tt
  both_merged_few (Err e) P few_rewrite few_append memory = λ not_memory.
      let small = small_segments rewrite older.history older.held few_rewrite in
      let few = small_segments append newer.history newer.held few_append in
      absurd (not_memory (memory older.history newer.history small few (segments_read_of_queue Rewrite rewrite rewrite_of older.history older.held)
      (segments_read_of_queue Append append append_of newer.history newer.held) (older.stands small) (newer.stands few)))

  rewrite_sound : IsSmall older.history → IsSoundIn Rewrite older.history
  rewrite_sound small = ((older.stands small).stands.stands Rewrite (suited Rewrite rewrite rewrite_of old older small)).sound

  append_sound : IsSmall newer.history → IsSoundIn Append newer.history
  append_sound small = ((newer.stands small).stands.stands Append (suited Append append append_of appended newer small)).sound

  pub both_recovered : (new : RecoverContext) → ((h k : List Event) → HasReadExactly old h → HasReadExactly appended k → IsOfBothExactly new h k)
      → (r : Result Accessor Error) → ((h k : List Event) → IsOfBothExactly new h k → IfOk r (λ a. IsReadingOfBoth h k a.tables a.cleaned))
      → IfOk r (λ a. AreCountsOf a.tables a.counts) → IfOk r (AreBothRecovered (SegmentsHold rewrite) (SegmentsHold append))
  both_recovered new merged (Ok a) reads counted = record {
    rewrite = older.history;
    append = newer.history;
    rewrite_held = older.held;
    append_held = newer.held;
    rewrite_sound = rewrite_sound;
    append_sound = append_sound;
    reading = λ small few apart. reads older.history newer.history (merged older.history newer.history (older.exact small apart) (newer.exact few (record { each = append_apart 0 newer.history (append_sound few).files })));
    exact_counts = counted;
  }
  both_recovered new merged (Err e) reads counted = tt

-- with a whole append queue both give its records alone
pub both_whole : (rewrite append : List (Vec Part Global)) (r : Result Accessor Error) →
    IfOk r (AreBothRecovered (SegmentsHold rewrite) (SegmentsHold append)) → (h k : List Event) (tables : Tables) (cleaned : List ℕ) →
    SegmentsHold rewrite h → SegmentsHold append k → IsSmall h → IsSmall k → Apart h
    → AreRewrittenFrom k h → IsOneReading Append k tables cleaned → IfOk r (λ a. HaveSameRecords a.tables tables × (a.cleaned ≡ cleaned))
both_whole rewrite append (Ok a) both h k tables cleaned rewrite_held append_held small few apart from one =
    let h_same = segments_unique rewrite both.rewrite h both.rewrite_held rewrite_held in
    let k_same = segments_unique append both.append k both.append_held append_held in
    let reading = subst (λ l. IsReadingOfBoth l k a.tables a.cleaned) h_same
    (subst (λ l. IsReadingOfBoth both.rewrite l a.tables a.cleaned) k_same
    (both.reading (subst IsSmall (sym h_same) small) (subst IsSmall (sym k_same) few) (subst Apart (sym h_same) apart))) in
    let sound = subst (IsSoundIn Append) k_same (both.append_sound (subst IsSmall (sym k_same) few)) in
    (both_same k sound h a.tables tables a.cleaned cleaned from reading one, reading.append_read.regions_cleaned ∙ sym one.regions_cleaned)
both_whole rewrite append (Err e) both h k tables cleaned rewrite_held append_held small few apart from one = tt
