-- Files that readers have read, up to where the last one can't be read.
use Rattle.std.proofs.Common.{◌≡◌, ◌≢◌, ◌⊎◌, inl, inr, ℕ, ◌+◌, ◌<◌, Option, Some, None, Result, Ok, Err, IfOk, IfErr, List, [], ◌∷◌, ◌++◌, length, map, take, drop, refl, sym, ap, ◌∙◌, subst, arith, append-nil, length-append}
use Rattle.std.proofs.lemmas.List.{drop_at, take_at}
use Rattle.raft_base.specs.Signature.{signature_of}
use Rattle.raft_base.specs.declared.errors.Error.{Error}
use Rattle.raft_base.specs.declared.errors.Error.TheVariants as errors
use Rattle.raft_base.specs.declared.pipe_log.LogFileContext.{LogFileContext}
use Rattle.raft_base.specs.declared.pipe_log.LogQueue.{LogQueue}
use Rattle.raft_base.specs.declared.pipe_log.Version.{Version}
use Rattle.raft_codec.specs.Reading.{HasNoFront}
use Rattle.raft_records.specs.FilePart.{AreBatchesUpTo, IsNextFault, Part, part_of}
use Rattle.raft_records.specs.LogBatch.{IsReadable}
use Rattle.raft_files.specs.Asks.{NumberedBytes}
use Rattle.raft_files.specs.Disk.{cut_last}
use Rattle.raft_files.proofs.LastLemmas.{last_of}
use Rattle.raft_reading.specs.QueueRead.{file_of}
use Rattle.raft_reading.specs.declared.queue_files.FileSize.{FileSize}
use Rattle.raft_recover.specs.Files.{FilesHold}
use Rattle.raft_contexts.specs.RecoverContext.{HasRead, HasReadExactly}
use Rattle.raft_prefix.specs.Prefixes.{IsPrefix}
use Rattle.raft_engine_prefixes.specs.Done.{AreConsecutive, numbers}
use Rattle.raft_engine.specs.FoundFiles.{AreApartAs, BeginsInOther, IsOfEngine, IsOtherText, IsRefusalText, IsRefusedAt, StandTogether}
use Rattle.raft_engine.specs.FoundQueues.{IsLastOf}
use Rattle.raft_engine.specs.ReadQueues.{HaveBothRead, HaveBothReadExactly}
use Rattle.raft_engine.specs.SoundBlocks.{IsPartSound}
use Rattle.raft_engine.specs.declared.missing.Missing.TheVariants.{Nothing, FirstFile, Cut}
use Rattle.raft_engine.specs.KeptEngine.{KeptEngine}
use Rattle.raft_engine.specs.declared.recovered.CutTail.{CutTail}
use Rattle.raft_engine.specs.declared.recovered.Recovered.{Recovered}
use Rattle.raft_engine.specs.declared.recovery_mode.RecoveryMode.{RecoveryMode}
use Rattle.raft_engine.proofs.FoundLemmas.{one_last}
use Rattle.raft_engine.proofs.FoundQueueLemmas.{first_missing}
use Rattle.raft_opening.specs.ReadOnce.{IsStandingFor}
use Rattle.raft_opening.specs.SizedFiles.{AreNumbersApartAs, IsPartFault, IsRestOf, numbers_of, size_of}
use Rattle.raft_opening.proofs.SizedLemmas.{IsLastSized, last_sized, none_sized, numbers_sized, sized_missing, torn_accepted, torn_refused, whole_accepted}
use Rattle.raft_ffi.specs.Calls.{AllHold, Holds, code_of}
use Rattle.raft_ffi.specs.ReadQueues.{IsFrontRead, IsLastReadTo, IsLeftRead, IsOpenedAs, IsReadTo, IsTailBehind}
use Rattle.raft_ffi.specs.declared.read_queue.Size.{Size}
use Rattle.raft_ffi.specs.Readers.{BatchesRead, ReaderSeen}
use Rattle.raft_ffi.proofs.CodeLemmas.{some_code}

-- ---- the last file

module _ (mode : RecoveryMode) (file : LogFileContext) (len : ℕ) (rest front : List ℕ) (f : IsFrontRead file len rest front) where
  abbrev part : Part
  part = part_of file 0 (front ++ rest)

  behind : drop (length front) (front ++ rest) ≡ rest
  behind = drop_at front rest (length front) refl

  -- it ends with its batches
  pub front_whole : rest ≡ [] → IsTailBehind mode file rest front None
  front_whole none =
      let n = length-append front rest in
      let m = ap length none in
      record {
        accepted = whole_accepted mode part (length front) (record { batches = f.batches; stops = omega (arith, n, m); sound = f.sound });
        begins = none;
      }

  -- or no batch can be read there
  module _ (e : Error) (some : rest ≢ []) (unreadable : HasNoFront (λ (xs : List ℕ). IsReadable xs (signature_of file)) rest) (why : IsNextFault (signature_of file) rest e) (other : e ≢ errors.Memory) where
    not_empty : (xs : List ℕ) → xs ≢ [] → 0 < length xs
    not_empty [] ne = absurd (ne refl)
    not_empty (x ∷ xs) ne = omega arith

    stops : IsPrefix part (length front) (Some e)
    stops =
        let n = length-append front rest in
        let m = not_empty rest some in
        record {
          batches = f.batches;
          stops = record {
            before_end = omega (arith, n, m);
            unreadable = subst (HasNoFront (λ (xs : List ℕ). IsReadable xs (signature_of file))) (sym behind) unreadable;
            not_memory = other;
            why = subst (λ (xs : List ℕ). IsNextFault (signature_of file) xs e) (sym behind) why;
          };
          sound = f.sound;
        }

    module _ (rest_part : Part) (offset : ℕ) (is : rest_part ≡ record { id = file.id; version = file.version; offset = offset; bytes = rest }) (at : offset + length rest ≡ len) where
      begins : offset ≡ length front
      begins = let l = f.long in omega (arith, l, at)

      pub is_rest : IsRestOf part (length front) rest_part
      is_rest =
          let b = begins in
          let from : offset ≡ 0 + length front = omega (arith, b) in
          record {
            begins = refl;
            is = is ∙ (λ i. record { id = file.id; version = file.version; offset = from i; bytes = sym behind i });
          }

      pub front_torn : ((whole : Part) (n : ℕ) → IsRestOf whole n rest_part → ¬ (IsRefusedAt mode whole n)) → ((whole : Part) (n : ℕ) → IsRestOf whole n rest_part → n ≡ 0 → ¬ (BeginsInOther whole ⊎ IsOfEngine whole))
          → (tail : CutTail) → tail ≡ record { file = file.id.seq; offset = offset; len = length rest; error = e } → IsTailBehind mode file rest front (Some tail)
      front_torn tolerated of_version tail t =
          let b = begins in
          let n = length-append front rest in
          let to : tail.offset ≡ offset = ap (λ (x : CutTail). x.offset) t in
          let many : tail.len ≡ length rest = ap (λ (x : CutTail). x.len) t in
          record {
            accepted = torn_accepted mode part (length front) e stops (tolerated part (length front) is_rest) (of_version part (length front) is_rest) tail (ap (λ (x : CutTail). x.file) t) (to ∙ b)
                (omega (arith, to, many, b, n)) (ap (λ (x : CutTail). x.error) t);
            begins = to ∙ b;
          }

      pub front_refused : (x : Error) → ((whole : Part) (n : ℕ) → IsRestOf whole n rest_part → (IsRefusedAt mode whole n × IsRefusalText mode whole n x) ⊎ ((n ≡ 0) × IsOtherText whole x)) → IsPartFault mode part x
      front_refused x refused = torn_refused mode part (length front) e stops x (refused part (length front) is_rest)

-- ---- the files of a queue

no_split : {A : Type 0} (closed : List A) (last : A) → [] ≡ closed ++ last ∷ [] → ⊥
no_split [] last e = absurd cc
no_split (c ∷ closed) last e = absurd cc

module _ (mode : RecoveryMode) (queue : LogQueue) (version : Version) (rest : List ℕ) (files : List NumberedBytes) (read : BatchesRead) (up : IsReadTo queue version rest read files) where
  -- there is none
  none_standing : files ≡ [] → IsReadTo queue version rest read files → IsStandingFor queue version HaveBothRead HaveBothReadExactly [] read
  none_standing none (inl n) = n.standing
  none_standing none (inr l) = absurd (no_split l.closed (l.seq, l.front ++ rest) (sym none ∙ l.split))

  first_standing : IsStandingFor queue version HaveBothRead HaveBothReadExactly [] read → IsStandingFor queue version HaveBothRead HaveBothReadExactly ((1, []) ∷ []) read
  first_standing s = record {
    history = s.history;
    held = subst (FilesHold queue version ((1, []) ∷ [])) (sym s.held) (record { first = []; rest = []; first_held = refl; rest_held = refl; split = refl });
    stands = s.stands;
    exact = s.exact;
  }

  pub first_left : (sizes : List FileSize) → sizes ≡ map size_of files → sizes ≡ [] → AreConsecutive (numbers files) → IsLeftRead mode queue version files read FirstFile
  first_left sizes are none consecutive =
      let no_files = none_sized files (sym are ∙ none) in
      record {
        missing_of = first_missing queue version files mode consecutive no_files;
        standing = first_standing (none_standing no_files up);
      }

  -- or there is a last one
  module _ (sizes closed : List FileSize) (last : FileSize) (are : sizes ≡ map size_of files) (split : sizes ≡ closed ++ last ∷ []) (file : LogFileContext) (is : file ≡ record { id = file_of queue last.seq; version = version }) where
    the_last : IsReadTo queue version rest read files → IsLastReadTo queue version rest read files
    the_last (inl n) = absurd (no_split closed last (sym (ap (map size_of) n.none) ∙ sym are ∙ split))
    the_last (inr l) = l

    pub last_read : IsLastReadTo queue version rest read files
    last_read = the_last up

    abbrev l : IsLastSized files closed last
    l = last_sized files closed last (sym are ∙ split)

    same : l.file ≡ (last_read.seq, last_read.front ++ rest)
    same = one_last l.front last_read.closed l.file (last_read.seq, last_read.front ++ rest) (sym l.split ∙ last_read.split)

    own : file ≡ record { id = file_of queue last_read.seq; version = version }
    own =
        let seq : last.seq ≡ l.file.0 = ap (λ (s : FileSize). s.seq) l.size in
        is ∙ ap (λ (n : ℕ). record { id = file_of queue n; version = version }) (seq ∙ ap (λ (f : NumberedBytes). f.0) same)

    pub front_read : IsFrontRead file last.len rest last_read.front
    front_read =
        let len : last.len ≡ length l.file.1 = ap (λ (s : FileSize). s.len) l.size in
        let all : length l.file.1 ≡ length (last_read.front ++ rest) = ap (λ (f : NumberedBytes). length f.1) same in
        let n = length-append last_read.front rest in
        record {
          long = omega (arith, len, all, n);
          batches = subst (λ (c : LogFileContext). AreBatchesUpTo (part_of c 0 (last_read.front ++ rest)) (length last_read.front)) (sym own) last_read.batches;
          sound = subst (λ (c : LogFileContext). IsPartSound (part_of c 0 (last_read.front ++ rest))) (sym own) last_read.sound;
        }

    pub is_last : IsLastOf queue version files (part_of file 0 (last_read.front ++ rest))
    is_last = record { closed = last_read.closed; last = (last_read.seq, last_read.front ++ rest); split = last_read.split; is = ap (λ (c : LogFileContext). part_of c 0 (last_read.front ++ rest)) own }

    module _ (consecutive : AreConsecutive (numbers files)) where
      pub whole_left : (tail : Option CutTail) → tail ≡ None → IsTailBehind mode file rest last_read.front tail → IsLeftRead mode queue version files read Nothing
      whole_left tail none t =
          let s = subst (IsTailBehind mode file rest last_read.front) none t in
          let all : last_read.front ++ rest ≡ last_read.front = ap (λ (xs : List ℕ). last_read.front ++ xs) s.begins ∙ append-nil last_read.front in
          record {
            missing_of = sized_missing mode queue version files (part_of file 0 (last_read.front ++ rest)) is_last consecutive None s.accepted Nothing (inl (refl, refl));
            standing = subst (λ (fs : List NumberedBytes). IsStandingFor queue version HaveBothRead HaveBothReadExactly fs read) (ap (λ (xs : List ℕ). last_read.closed ++ (last_read.seq, xs) ∷ []) (sym all) ∙ sym last_read.split) last_read.standing;
          }

      pub torn_left : (tail : Option CutTail) (cut : CutTail) → tail ≡ Some cut → IsTailBehind mode file rest last_read.front tail → IsLeftRead mode queue version files read (Cut cut)
      torn_left tail cut some t =
          let s = subst (IsTailBehind mode file rest last_read.front) some t in
          let kept : take cut.offset (last_read.front ++ rest) ≡ last_read.front = take_at last_read.front rest cut.offset (sym s.begins) in
          let left : cut_last cut.offset files ≡ last_read.closed ++ (last_read.seq, take cut.offset (last_read.front ++ rest)) ∷ [] =
          ap (cut_last cut.offset) last_read.split ∙ last_of (λ (old : List ℕ). take cut.offset old) last_read.closed (last_read.seq, last_read.front ++ rest) in
          record {
            missing_of = sized_missing mode queue version files (part_of file 0 (last_read.front ++ rest)) is_last consecutive (Some cut) s.accepted (Cut cut) (inr (cut, refl, refl));
            standing = subst (λ (fs : List NumberedBytes). IsStandingFor queue version HaveBothRead HaveBothReadExactly fs read)
                (ap (λ (xs : List ℕ). last_read.closed ++ (last_read.seq, xs) ∷ []) (sym kept) ∙ sym left) last_read.standing;
          }

-- ---- numbers

pub apart_read : (queue : LogQueue) (sizes : List FileSize) (files : List NumberedBytes) → sizes ≡ map size_of files → (e : Error) → AreNumbersApartAs queue (numbers_of sizes) e → AreApartAs queue files e
apart_read queue sizes files are e a =
    let ns : numbers_of sizes ≡ numbers files = ap numbers_of are ∙ numbers_sized files in
    record { last = a.last; next = a.next; together = subst (λ (l : List ℕ). StandTogether l a.last a.next) ns a.together; why = a.why }

pub consecutive_read : (sizes : List FileSize) (files : List NumberedBytes) → sizes ≡ map size_of files → AreConsecutive (numbers_of sizes) → AreConsecutive (numbers files)
consecutive_read sizes files are c = subst AreConsecutive (ap numbers_of are ∙ numbers_sized files) c

-- ---- the tables of it

-- the context of what was read stands for the batches
pub context_standing : (queue : LogQueue) (version : Version) (files : List NumberedBytes) (read : BatchesRead) → IsStandingFor queue version HaveBothRead HaveBothReadExactly files read
    → IsStandingFor queue version HasRead HasReadExactly files read.first
context_standing queue version files read s = record {
  history = s.history;
  held = s.held;
  stands = λ small. (s.stands small).0;
  exact = λ small apart. (s.exact small apart).0;
}

-- ---- refusals

abbrev IsWant : Error → Type 0
IsWant errors.Memory = Unit {0}
IsWant _ = ⊥

memory_or_not : (e : Error) → (e ≡ errors.Memory) ⊎ (e ≢ errors.Memory)
memory_or_not errors.Memory = inl refl
memory_or_not e = inr (λ is. subst IsWant (sym is) tt)

-- a refusal that isn't for want of memory has one of two reasons
pub either_on : (A X : Type 0) (e : Error) → (e ≢ errors.Memory → A ⊎ X) → (e ≢ errors.Memory → A) ⊎ X
either_on A X e why = elim (memory_or_not e) [
  | inl is ↦ inl (λ other. absurd (other is))
  | inr other ↦ elim (why other) [
    | inl a ↦ inl (λ _. a)
    | inr x ↦ inr x
  ]
]

-- ---- answers

-- after an opening whose code is 0 both readers and the engine hold what says that it was opened, and what it cut off was told
pub opened_all : (mode : RecoveryMode) (version : Version) (append : List Size) (append_rest : List ℕ) (rewrite : List Size) (rewrite_rest : List ℕ) (a r : ReaderSeen) (Q : Recovered → Type 0) (result : Result Recovered Error) (code : ℕ)
    (held : Option KeptEngine) → IfOk result (λ x. Holds (λ e. IsOpenedAs mode version append append_rest rewrite rewrite_rest a.read r.read e x) held) → IfOk result Q → IfErr result (λ e. code ≡ code_of e) → code ≡ 0
    → AllHold (λ a r e. (x : Recovered) × IsOpenedAs mode version append append_rest rewrite rewrite_rest a.read r.read e x × Q x) (Some a) (Some r) held
opened_all mode version append append_rest rewrite rewrite_rest a r Q (Ok x) code (Some e) p q is zero = (x, p, q)
opened_all mode version append append_rest rewrite rewrite_rest a r Q (Ok x) code None p q is zero = absurd p
opened_all mode version append append_rest rewrite rewrite_rest a r Q (Err e) code held p q is zero = absurd (some_code e (sym is ∙ zero))

-- what was found by a call whose code is 0 is so
pub found_so : {X : Type 0} (r : Result X Error) (code : ℕ) (P : X → Type 0) (found : X) → IfOk r P → IfOk r (λ x. found ≡ x) → IfErr r (λ e. code ≡ code_of e) → code ≡ 0 → P found
found_so (Ok x) code P found p told is zero = subst P (sym told) p
found_so (Err e) code P found p told is zero = absurd (some_code e (sym is ∙ zero))
