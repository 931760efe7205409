-- Whole files of a queue as parts, and the lines of their tables.
use Rattle.raft_plain.proofs.Common.{◌≡◌, ◌≢◌, ◌⊎◌, inl, inr, ℕ, List, [], ◌∷◌, ◌++◌, Option, Result, Ok, Err, IfErr, OnOk, Vec, refl, sym, ap, subst, ◌∙◌, map, length, arith, append_assoc, append-nil, All-map, Global, All, Error, LogQueue, Version, Part, IsIoError, Event}
use Rattle.raft_plain.proofs.Common.{Accessor, FilesHold, NumberedBytes, whole_file, CannotFollow, IsNothing, PartsHold, file_shown, FilesCannotBeRead, IsPrintFailure, PrintsRecovered, IsRecovered, PrintsFrontOfTables, PrintsTables}
use Rattle.raft_base.specs.declared.errors.Error.TheVariants as errors

module _ (queue : LogQueue) (version : Version) where
  -- the parts so far and those of the files that are left make up the whole
  abbrev pub AreBegun : List NumberedBytes → List NumberedBytes → List Part → Type 0
  AreBegun files left parts = parts ++ map (whole_file queue version) left ≡ map (whole_file queue version) files

  -- one file more is a part
  pub file_one_more : (files left : List NumberedBytes) (file : NumberedBytes) (parts new : List Part) (part : Part) → AreBegun files (file ∷ left) parts
      → part ≡ whole_file queue version file → new ≡ parts ++ part ∷ [] → AreBegun files left new
  file_one_more files left file parts new part before part_is new_is =
      ap (λ (l : List Part). l ++ map (whole_file queue version) left) (new_is ∙ ap (λ (p : Part). parts ++ p ∷ []) part_is)
      ∙ append_assoc parts (whole_file queue version file ∷ []) (map (whole_file queue version) left)
      ∙ before

  -- all files are parts
  pub all_begun : (files : List NumberedBytes) (left : List (ℕ × Vec ℕ Global)) (parts : List Part) → length left ≡ 0 → AreBegun files (map file_shown left) parts → parts ≡ map (whole_file queue version) files
  all_begun files [] parts none done = sym (append-nil parts) ∙ done
  all_begun files (f ∷ left) parts none done = absurd (omega (arith, none))

  held : (files : List NumberedBytes) (h : List Event) → PartsHold (map (whole_file queue version) files) h → FilesHold queue version files h
  held [] h all = all
  held (file ∷ files) h all = record { first = all.first; rest = all.rest; first_held = all.first_held; rest_held = held files all.rest all.rest_held; split = all.split }

  held_back : (files : List NumberedBytes) (h : List Event) → FilesHold queue version files h → PartsHold (map (whole_file queue version) files) h
  held_back [] h all = all
  held_back (file ∷ files) h all = record { first = all.first; rest = all.rest; first_held = all.first_held; rest_held = held_back files all.rest all.rest_held; split = all.split }

  module _ (files : List NumberedBytes) (parts : List Part) (whole : parts ≡ map (whole_file queue version) files) where
    pub parts_are_of : All (λ part. part.id.queue ≡ queue) parts
    parts_are_of = subst (All (λ (part : Part). part.id.queue ≡ queue)) (sym whole) (All-map (λ (part : Part). part.id.queue ≡ queue) (whole_file queue version) files (λ k d small. refl))

    pub files_refused : CannotFollow (PartsHold parts) IsNothing → FilesCannotBeRead queue version files
    files_refused cannot = record { unsound = λ h held small. cannot.unsound [] h (subst (λ (l : List Part). PartsHold l h) (sym whole) (held_back files h held)) small refl }

    module _ (a : Accessor) (r : IsRecovered queue (PartsHold parts) a) where
      files_recovered : IsRecovered queue (FilesHold queue version files) a
      files_recovered = record {
        history = r.history;
        held = held files r.history (subst (λ (l : List Part). PartsHold l r.history) whole r.held);
        sound = r.sound;
        one_reading = r.one_reading;
        exact_counts = r.exact_counts;
      }

      pub tables_printed : {X : Type 0} (printed : Result X Error) (old new : Option (List ℕ)) → OnOk printed (PrintsTables a old new) → OnOk printed (PrintsRecovered queue version files old new)
      tables_printed (Ok x) old new done = record { accessor = a; recovered = files_recovered; printed = done }
      tables_printed (Err e) old new done = tt

      module _ (old new : Option (List ℕ)) where
        failed : (e : Error) → IsIoError e → PrintsFrontOfTables a old new → IsPrintFailure queue version files old new e
        failed e io printed = record { io = io; printed = record { accessor = a; recovered = files_recovered; printed = printed } }

        kept_or_failed : (K : Type 0) (e : Error) → ((IsIoError e → ⊥) → K) → (IsIoError e → PrintsFrontOfTables a old new) → K ⊎ IsPrintFailure queue version files old new e
        kept_or_failed K (errors.Io x) silent printed = inr (failed (errors.Io x) tt (printed tt))
        kept_or_failed K e silent printed = inl (silent (λ io. io))

        pub print_kept : {X : Type 0} (printed : Result X Error) (K : Type 0) → IfErr printed (λ e. (IsIoError e → ⊥) → K)
            → IfErr printed (λ e. IsIoError e → PrintsFrontOfTables a old new) → IfErr printed (λ e. K ⊎ IsPrintFailure queue version files old new e)
        print_kept (Ok x) K silent front = tt
        print_kept (Err e) K silent front = kept_or_failed K e silent front

        failed_by : (e : Error) → ((IsIoError e → ⊥) → e ≡ errors.Memory) → (IsIoError e → PrintsFrontOfTables a old new) → e ≢ errors.Memory → IsPrintFailure queue version files old new e
        failed_by (errors.Io x) fault front not_memory = failed (errors.Io x) tt (front tt)
        failed_by e fault front not_memory = absurd (not_memory (fault (λ io. io)))

        pub print_failed : {X : Type 0} (printed : Result X Error) → IfErr printed (λ e. (IsIoError e → ⊥) → e ≡ errors.Memory)
            → IfErr printed (λ e. IsIoError e → PrintsFrontOfTables a old new) → IfErr printed (λ e. e ≢ errors.Memory → FilesCannotBeRead queue version files ⊎ IsPrintFailure queue version files old new e)
        print_failed (Ok x) fault front = tt
        print_failed (Err e) fault front = λ not_memory. inr (failed_by e fault front not_memory)
