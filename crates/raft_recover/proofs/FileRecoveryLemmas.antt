-- What the recovery of files gives that are read in pieces, and where it stops.
use Rattle.raft_recover.proofs.Common.{◌≡◌, ◌≢◌, ◌⊎◌, ◌+◌, ◌<◌, ◌^◌, inl, inr, ℕ, List, [], ◌∷◌, ◌++◌, Option, Result, Ok, Err, IfOk, IfErr, OnOk, map, refl, sym, ap, ◌∙◌, subst, Error, FileId, LogQueue, Version, Event, Suits, files_of, IsSmall, IsOfQueue, IsOneReading}
use Rattle.raft_recover.proofs.Common.{Sound, Accessor, AreCountsOf, RecoverContext, HasRead, HasReadExactly, ContextStage, IsStoodFor, stands_sound, NumberedBytes, NumberedPath, FilesHold, whole_file, bytes_of_files, IsIoError, PrintsTables, PrintsFrontOfTables}
use Rattle.raft_recover.proofs.Common.{AreAllRead, IsQueueReplayed, IsQueueStop, AreSizesOf, IsFilesPrintFailure, IsFilesRefusal, IsRecoveredFrom, PrintsFiles, bytes_of_sizes, FileSize, IoError, HoldsFrom, GoneOn, IsNothing, AreOfQueue}
use Rattle.raft_recover.proofs.Common.{file_of, of_both, part_of, fault_after}
use Rattle.raft_recover.proofs.FewFileLemmas.{small_files}
use Rattle.raft_base.specs.declared.errors.Error.TheVariants as errors
use Rattle.raft_contexts.specs.declared.context_stage.ContextStage.TheVariants as stages

-- ---- what is read of files of a queue is of the queue

file_of_queue : (queue : LogQueue) (version : Version) (file : NumberedBytes) (at : ℕ) (h : List Event) → HoldsFrom (whole_file queue version file) at h → AreOfQueue queue h
file_of_queue queue version file at [] held = tt
file_of_queue queue version file at (e ∷ h) held = (ap (λ (id : FileId). id.queue) held.0, file_of_queue queue version file held.1.0 h held.1.2)

files_of_queue : (queue : LogQueue) (version : Version) (files : List NumberedBytes) (h : List Event) → FilesHold queue version files h → IsOfQueue queue h
files_of_queue queue version [] h held = subst (IsOfQueue queue) (sym held) (record { each = tt })
files_of_queue queue version (file ∷ files) h held =
    subst (IsOfQueue queue) (sym held.split)
    (of_both queue held.first held.rest (record { each = file_of_queue queue version file 0 held.first held.first_held }) (files_of_queue queue version files held.rest held.rest_held))

suits : (queue : LogQueue) (h : List Event) → IsOfQueue queue h → Suits queue (files_of h)
suits queue [] all = tt
suits queue (e ∷ h) all = all.each.0

abbrev is_failed : ContextStage → Type 0
is_failed stages.Failed = Unit {0}
is_failed _ = ⊥

module _ (Gives : FileId → ℕ → List ℕ → Type 0) (queue : LogQueue) (version : Version) where
  -- ---- sizes

  bytes_read : (sizes : List FileSize) (files : List NumberedBytes) → AreAllRead Gives queue sizes files → bytes_of_files files ≡ bytes_of_sizes sizes
  bytes_read [] [] read = refl
  bytes_read [] (file ∷ files) read = absurd read
  bytes_read (size ∷ sizes) [] read = absurd read
  bytes_read (size ∷ sizes) (file ∷ files) read =
      let rest = bytes_read sizes files read.1 in
      ap (λ (n : ℕ). n + bytes_of_files files) read.0.whole ∙ ap (λ (n : ℕ). size.len + n) rest

  numbers_read : (sizes : List FileSize) (files : List NumberedBytes) → AreAllRead Gives queue sizes files → map (λ (file : NumberedBytes). file.0) files ≡ map (λ (size : FileSize). size.seq) sizes
  numbers_read [] [] read = refl
  numbers_read [] (file ∷ files) read = absurd read
  numbers_read (size ∷ sizes) [] read = absurd read
  numbers_read (size ∷ sizes) (file ∷ files) read =
      let rest = numbers_read sizes files read.1 in let first = read.0.number in
      (λ i. first i ∷ rest i)

  -- the files that were read are those that were named
  pub of_named : (named : List NumberedPath) (sizes : List FileSize) (files : List NumberedBytes) → AreSizesOf named sizes → AreAllRead Gives queue sizes files
      → map (λ (file : NumberedBytes). file.0) files ≡ map (λ (path : NumberedPath). path.0) named
  of_named named sizes files are read = numbers_read sizes files read ∙ are

  module _ (sizes : List FileSize) where
    -- ---- the context of all files

    module _ (m : RecoverContext) (replayed : IsQueueReplayed Gives queue version sizes HasRead HasReadExactly m) where
      suited : IsSmall replayed.history → Suits queue m.context.files
      suited small =
          subst (Suits queue) (sym (replayed.stands small).stands.files)
          (suits queue replayed.history (files_of_queue queue version replayed.files replayed.history replayed.held))

      pub files_recovered : (r : Result Accessor Error)
          → ((q : LogQueue) (h : List Event) → HasReadExactly m h → Suits q m.context.files → IfOk r (λ a. IsOneReading q h a.tables a.cleaned))
          → IfOk r (λ a. AreCountsOf a.tables a.counts) → IfOk r (IsRecoveredFrom Gives queue version sizes)
      files_recovered (Ok a) one counted = record {
        files = replayed.files;
        read = replayed.read;
        recovered = record {
          history = replayed.history;
          held = replayed.held;
          sound = λ small. ((replayed.stands small).stands.stands queue (suited small)).sound;
          one_reading = λ small apart. one queue replayed.history (replayed.exact small apart) (suited small);
          exact_counts = counted;
        };
      }
      files_recovered (Err e) one counted = tt

      -- files of few bytes are finished
      pub few_files : (r : Result Accessor Error) (P : Error → Type 0) → bytes_of_sizes sizes < 2 ^ 63 → IfErr r (λ e. (e ≡ errors.Failed) × (m.stage ≡ stages.Failed)) → IfErr r P
      few_files (Ok a) P few failed = tt
      few_files (Err e) P few failed =
          let bytes = subst (λ (n : ℕ). n < 2 ^ 63) (sym (bytes_read sizes replayed.files replayed.read)) few in
          let reading = (replayed.stands (small_files queue version replayed.files replayed.history replayed.held bytes)).stage in
          absurd (subst is_failed (sym failed.1 ∙ reading) tt)

      -- a context that is refused at its end has failed: its files name too many records
      pub full_files : (Fails : FileId → ℕ → IoError → Type 0) (r : Result Accessor Error) → IfErr r (λ e. (e ≡ errors.Failed) × (m.stage ≡ stages.Failed))
          → IfErr r (λ e. e ≢ errors.Memory → IsFilesRefusal Gives Fails queue version sizes e)
      full_files Fails (Ok a) failed = tt
      full_files Fails (Err e) failed = λ _. inr (record {
        files = replayed.files;
        read = replayed.read;
        history = replayed.history;
        held = replayed.held;
        large = λ small. subst is_failed (sym failed.1 ∙ (replayed.stands small).stage) tt;
        refusal = failed.0;
      })

    -- what a context took in can be read
    pub stop_sound : (Fails : FileId → ℕ → IoError → Type 0) (e : Error) → IsQueueStop Gives Fails queue version sizes (IsStoodFor HasRead) e → IsQueueStop Gives Fails queue version sizes Sound e
    stop_sound Fails e stop = record {
      before = stop.before;
      size = stop.size;
      after = stop.after;
      split = stop.split;
      files = stop.files;
      read = stop.read;
      history = stop.history;
      held = stop.held;
      stop = elim (stop.stop) [
        | inl unread ↦ inl unread
        | inr stops ↦ inr (record {
          bytes = stops.bytes;
          read = stops.read;
          inside = stops.inside;
          stops = λ rest all.
              fault_after (GoneOn IsNothing stop.history) (GoneOn IsNothing stop.history) (IsStoodFor HasRead) Sound
              (part_of (record { id = file_of queue stop.size.seq; version = version }) 0 (stops.bytes ++ rest)) e
              (λ h small stood. stood) (λ h taken. stands_sound taken.0.context h taken.1.stands) (stops.stops rest all);
        })
      ];
    }

    -- ---- their text

    module _ (a : Accessor) (r : IsRecoveredFrom Gives queue version sizes a) (old new : Option (List ℕ)) where
      pub files_printed : {X : Type 0} (printed : Result X Error) → OnOk printed (PrintsTables a old new) → OnOk printed (PrintsFiles Gives queue version sizes old new)
      files_printed (Ok x) done = record { files = r.files; read = r.read; printed = record { accessor = a; recovered = r.recovered; printed = done } }
      files_printed (Err e) done = tt

      print_failed : (e : Error) → IsIoError e → PrintsFrontOfTables a old new → IsFilesPrintFailure Gives queue version sizes old new e
      print_failed e io front = record { io = io; printed = record { files = r.files; read = r.read; printed = record { accessor = a; recovered = r.recovered; printed = front } } }

      kept_or_failed : (K : Type 0) (e : Error) → ((IsIoError e → ⊥) → K) → (IsIoError e → PrintsFrontOfTables a old new) → K ⊎ IsFilesPrintFailure Gives queue version sizes old new e
      kept_or_failed K (errors.Io x) silent front = inr (print_failed (errors.Io x) tt (front tt))
      kept_or_failed K e silent front = inl (silent (λ io. io))

      pub files_found : {X : Type 0} (printed : Result X Error) (K : Type 0) → IfErr printed (λ e. (IsIoError e → ⊥) → K) → IfErr printed (λ e. IsIoError e → PrintsFrontOfTables a old new)
          → IfErr printed (λ e. K ⊎ IsFilesPrintFailure Gives queue version sizes old new e)
      files_found (Ok x) K silent front = tt
      files_found (Err e) K silent front = kept_or_failed K e silent front

      failed_by : (e : Error) → ((IsIoError e → ⊥) → e ≡ errors.Memory) → (IsIoError e → PrintsFrontOfTables a old new) → e ≢ errors.Memory → IsFilesPrintFailure Gives queue version sizes old new e
      failed_by (errors.Io x) fault front not_memory = print_failed (errors.Io x) tt (front tt)
      failed_by e fault front not_memory = absurd (not_memory (fault (λ io. io)))

      pub files_unprinted : (Fails : FileId → ℕ → IoError → Type 0) {X : Type 0} (printed : Result X Error) → IfErr printed (λ e. (IsIoError e → ⊥) → e ≡ errors.Memory)
          → IfErr printed (λ e. IsIoError e → PrintsFrontOfTables a old new)
          → IfErr printed (λ e. e ≢ errors.Memory → IsFilesRefusal Gives Fails queue version sizes e ⊎ IsFilesPrintFailure Gives queue version sizes old new e)
      files_unprinted Fails (Ok x) fault front = tt
      files_unprinted Fails (Err e) fault front = λ not_memory. inr (failed_by e fault front not_memory)
