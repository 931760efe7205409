-- The replay of found files by their sizes: what contexts have read of them, or why they can't.
use Rattle.raft_opening.proofs.Common.{◌≡◌, ◌≢◌, ◌⊎◌, inl, inr, ℕ, ◌<◌, ◌≤◌, ◌^◌, List, [], ◌∷◌, ◌++◌, length, map, take, drop, refl, sym, ap, ◌∙◌, subst, arith, append-nil, length-append, take-append-drop, length-map, length-drop, map-append, take-append-le, take_at}
use Rattle.raft_opening.proofs.Common.{IsInvalidArgument, Error, FileId, LogQueue, Append, Rewrite, Version, part_of, HasRead, HasReadExactly, RecoverContext, NumberedBytes, cut_last, Event, Apart, IsSmall, Sound, IsFileStop, StopsInRead, IoError, AreAllRead, IsAllRead}
use Rattle.raft_opening.proofs.Common.{IsQueueReplayed, IsQueueStop, file_of, FileSize, bytes_of_sizes, FilesHold, bytes_of_files, whole_file, EachHolds, HoldsFrom, GoneOn, IsNothing, IsStoodFor, StopsIn, stands_sound, AreGroupsInRows, IsSummaryOf, IsMissingOf, IsReadyQueue}
use Rattle.raft_opening.proofs.Common.{left_by, AreOutOfRows, AreOf, AreReadBy, AreReadyFiles, HaveBothRead, HaveBothReadExactly, rows_shown, IsStandingFor, GiveOnly, GivesOnly, IsReadRefusal, IsSizedQueue, kept_by, size_of, missing_asks, AreManyAs, AreUnreadableAs}
use Rattle.raft_opening.proofs.Common.{IsReadingFault, IsRecoveryFault, IsTooLongAs, MayRecover, Refusal, StopsInFiles, Both, GroupRows, Missing, Nothing, FirstFile, Cut, QueueFiles, RecoveryMode, SizedQueue, files_of_queue}
use Rattle.raft_base.specs.declared.errors.Error.TheVariants as errors
use Rattle.raft_opening.proofs.SizedLemmas.{bytes_sized, read_front, unread_refusal}

-- ---- files that are read up to a byte of theirs

module _ (Gives : FileId → ℕ → List ℕ → Type 0) (queue : LogQueue) where
  -- reads of each of these files give only its bytes, or more that stand behind them
  abbrev pub GiveBehind : List NumberedBytes → Type 0
  GiveBehind [] = Unit {0}
  GiveBehind (file ∷ files) = ((more : List ℕ) × GivesOnly (Gives (file_of queue file.0)) (file.1 ++ more)) × GiveBehind files

  gives_whole : (file : NumberedBytes) → GivesOnly (Gives (file_of queue file.0)) file.1 → (more : List ℕ) × GivesOnly (Gives (file_of queue file.0)) (file.1 ++ more)
  gives_whole file only = ([], subst (GivesOnly (Gives (file_of queue file.0))) (sym (append-nil file.1)) only)

  give_whole : (files : List NumberedBytes) → GiveOnly Gives queue files → GiveBehind files
  give_whole [] only = tt
  give_whole (file ∷ files) only = (gives_whole file only.0, give_whole files only.1)

  give_cut : (at : ℕ) (files : List NumberedBytes) → GiveOnly Gives queue files → GiveBehind (cut_last at files)
  give_cut at [] only = tt
  give_cut at (file ∷ []) only = ((drop at file.1, subst (GivesOnly (Gives (file_of queue file.0))) (sym (take-append-drop at file.1)) only.0), tt)
  give_cut at (file ∷ next ∷ files) only = (gives_whole file only.0, give_cut at (next ∷ files) only.1)

  pub give_kept : (missing : Missing) (files : List NumberedBytes) → GiveOnly Gives queue files → GiveBehind (kept_by missing files)
  give_kept Nothing files only = give_whole files only
  give_kept FirstFile files only = give_whole files only
  give_kept (Cut tail) files only = give_cut tail.offset files only

  front_same : (xs more read rest : List ℕ) → xs ++ more ≡ read ++ rest → length read ≡ length xs → read ≡ xs
  front_same xs more read rest e long = sym (take_at read rest (length xs) long) ∙ ap (take (length xs)) (sym e) ∙ take_at xs more (length xs) refl

  same_file : (file read : NumberedBytes) → (more : List ℕ) × GivesOnly (Gives (file_of queue file.0)) (file.1 ++ more) → IsAllRead Gives queue (size_of file) read → read ≡ file
  same_file file read only r =
      let front = read_front (Gives (file_of queue file.0)) (file.1 ++ only.0) only.1 read.1 r.read in
      let bytes = front_same file.1 only.0 read.1 front.0 front.1 r.whole in
      let number = r.number in
      λ i. (number i, bytes i)

  -- what was read of them are they
  pub same_files : (files read : List NumberedBytes) → GiveBehind files → AreAllRead Gives queue (map size_of files) read → read ≡ files
  same_files [] [] only r = refl
  same_files [] (g ∷ read) only r = absurd r
  same_files (f ∷ files) [] only r = absurd r
  same_files (f ∷ files) (g ∷ read) only r =
      let first = same_file f g only.0 r.0 in
      let rest = same_files files read only.1 r.1 in
      λ i. first i ∷ rest i

-- ---- files that are replayed

module _ {M : Type 0} (Gives : FileId → ℕ → List ℕ → Type 0) (queue : LogQueue) (version : Version) (stands_for stands_exactly : M → List Event → Type 0) (mode : RecoveryMode) (files : List NumberedBytes) (only : GiveOnly Gives queue files) where
  kept_held : (missing : Missing) → IsMissingOf mode queue version files missing → (h : List Event) → FilesHold queue version (kept_by missing files) h → FilesHold queue version (left_by missing files) h
  kept_held Nothing m h held = held
  kept_held FirstFile m h held =
      let none : FilesHold queue version [] h = subst (λ (fs : List NumberedBytes). FilesHold queue version fs h) (m.first.0 refl) held in
      subst (FilesHold queue version ((1, []) ∷ [])) (sym none) (record { first = []; rest = []; first_held = refl; rest_held = refl; split = refl })
  kept_held (Cut tail) m h held = held

  pub left_replayed : (missing : Missing) → IsMissingOf mode queue version files missing → (sizes : List FileSize) → sizes ≡ map size_of (kept_by missing files) → (machine : M)
      → IsQueueReplayed Gives queue version sizes stands_for stands_exactly machine → IsStandingFor queue version stands_for stands_exactly (left_by missing files) machine
  left_replayed missing m sizes is machine r =
      let same = same_files Gives queue (kept_by missing files) r.files (give_kept Gives queue missing files only) (subst (λ (ss : List FileSize). AreAllRead Gives queue ss r.files) is r.read) in
      record {
        history = r.history;
        held = kept_held missing m r.history (subst (λ (fs : List NumberedBytes). FilesHold queue version fs r.history) same r.held);
        stands = r.stands;
        exact = r.exact;
      }

-- ---- files that are refused

-- files of which the sizes of some stand in the midst
record IsSplit (files : List NumberedBytes) (before : List FileSize) (size : FileSize) (after : List FileSize) : Type 0 where
  pub front : List NumberedBytes
  pub file : NumberedBytes
  pub back : List NumberedBytes
  pub split : files ≡ front ++ file ∷ back
  pub sizes : before ≡ map size_of front
  pub is : size ≡ size_of file

split_sized : (files : List NumberedBytes) (before : List FileSize) (size : FileSize) (after : List FileSize) → map size_of files ≡ before ++ size ∷ after → IsSplit files before size after
split_sized [] [] size after e = absurd cc
split_sized [] (b ∷ before) size after e = absurd cc
split_sized (f ∷ files) [] size after e = record { front = []; file = f; back = files; split = refl; sizes = refl; is = cc }
split_sized (f ∷ files) (b ∷ before) size after e =
    let s = split_sized files before size after cc in
    let first : b ≡ size_of f = cc in
    let sizes = s.sizes in
    record { front = f ∷ s.front; file = s.file; back = s.back; split = ap (λ (fs : List NumberedBytes). f ∷ fs) s.split; sizes = (λ i. first i ∷ sizes i); is = s.is }

parts_held : (queue : LogQueue) (version : Version) (files : List NumberedBytes) (h : List Event) → FilesHold queue version files h → EachHolds (λ part. HoldsFrom part 0) (map (whole_file queue version) files) h
parts_held queue version [] h held = held
parts_held queue version (f ∷ files) h held = record {
  first = held.first;
  rest = held.rest;
  first_held = held.first_held;
  rest_held = parts_held queue version files held.rest held.rest_held;
  split = held.split;
}

module _ (Gives : FileId → ℕ → List ℕ → Type 0) (Fails : FileId → ℕ → IoError → Type 0) (queue : LogQueue) (version : Version) (IsTaken : List Event → Type 0) (sound : (h : List Event) → IsTaken h → Sound h) where
  give_at : (front back : List NumberedBytes) (file : NumberedBytes) → GiveBehind Gives queue (front ++ file ∷ back) → GiveBehind Gives queue front × ((more : List ℕ) × GivesOnly (Gives (file_of queue file.0)) (file.1 ++ more))
  give_at [] back file only = (tt, only.0)
  give_at (f ∷ front) back file only = let r = give_at front back file only.1 in ((only.0, r.0), r.1)

  -- the reading of one of these files stops
  file_stops : (file : NumberedBytes) (history : List Event) (e : Error) → (more : List ℕ) × GivesOnly (Gives (file_of queue file.0)) (file.1 ++ more)
      → StopsInRead (Gives (file_of queue file.0)) (record { id = file_of queue file.0; version = version }) (length file.1) (GoneOn IsNothing history) IsTaken e
      → StopsIn (GoneOn IsNothing history) Sound (whole_file queue version file) e
  file_stops file history e only s =
      let front = read_front (Gives (file_of queue file.0)) (file.1 ++ only.0) only.1 s.bytes s.read in
      let begins : take (length s.bytes) file.1 ≡ s.bytes =
      sym (take-append-le (length s.bytes) file.1 only.0 s.inside) ∙ ap (take (length s.bytes)) front.1 ∙ take_at s.bytes front.0 (length s.bytes) refl in
      let rest = drop (length s.bytes) file.1 in
      let all : s.bytes ++ rest ≡ file.1 = ap (λ (t : List ℕ). t ++ rest) (sym begins) ∙ take-append-drop (length s.bytes) file.1 in
      let stop = (s.stops rest (let n = length-drop (length s.bytes) file.1 in let i = s.inside in omega (arith, n, i))).stops in
      subst (λ (xs : List ℕ). StopsIn (GoneOn IsNothing history) Sound (part_of (record { id = file_of queue file.0; version = version }) 0 xs) e) all (record {
        at = stop.at;
        front = stop.front;
        readable = stop.readable;
        taken = λ h small stood. sound _ (stop.taken h small stood);
        before_end = stop.before_end;
        reason = stop.reason;
        placed = stop.placed;
      })

  files_stop : (files : List NumberedBytes) (e : Error) → GiveBehind Gives queue files → IsQueueStop Gives Fails queue version (map size_of files) IsTaken e
      → IsReadRefusal Gives Fails e ⊎ StopsInFiles queue version files e
  files_stop files e only stop =
      let s = split_sized files stop.before stop.size stop.after stop.split in
      let gives = give_at s.front s.back s.file (subst (GiveBehind Gives queue) s.split only) in
      let read = same_files Gives queue s.front stop.files gives.0 (subst (λ (ss : List FileSize). AreAllRead Gives queue ss stop.files) s.sizes stop.read) in
      let why : IsFileStop (Gives (file_of queue s.file.0)) (Fails (file_of queue s.file.0)) (record { id = file_of queue s.file.0; version = version }) (length s.file.1) (GoneOn IsNothing stop.history) IsTaken e =
      subst (λ (size : FileSize). IsFileStop (Gives (file_of queue size.seq)) (Fails (file_of queue size.seq)) (record { id = file_of queue size.seq; version = version }) size.len (GoneOn IsNothing stop.history) IsTaken e) s.is stop.stop in
      elim why [
        | inl unread ↦ inl (unread_refusal Gives Fails e (file_of queue s.file.0) (length s.file.1) unread)
        | inr stops ↦ inr (record {
          before = map (whole_file queue version) s.front;
          part = whole_file queue version s.file;
          after = map (whole_file queue version) s.back;
          split = ap (map (whole_file queue version)) s.split ∙ map-append (whole_file queue version) s.front (s.file ∷ s.back);
          history = stop.history;
          held = parts_held queue version s.front stop.history (subst (λ (fs : List NumberedBytes). FilesHold queue version fs stop.history) read stop.held);
          stops = file_stops s.file stop.history e gives.1 stops;
        })
      ]

  pub left_stops : (mode : RecoveryMode) (files : List NumberedBytes) (missing : Missing) → IsMissingOf mode queue version files missing → GiveOnly Gives queue files → (sizes : List FileSize) → sizes ≡ map size_of (kept_by missing files)
      → (e : Error) → IsQueueStop Gives Fails queue version sizes IsTaken e → IsReadRefusal Gives Fails e ⊎ StopsInFiles queue version (left_by missing files) e
  left_stops mode files Nothing m only sizes is e stop =
      files_stop files e (give_kept Gives queue Nothing files only) (subst (λ (ss : List FileSize). IsQueueStop Gives Fails queue version ss IsTaken e) is stop)
  left_stops mode files FirstFile m only sizes is e stop =
      let none : sizes ≡ [] = is ∙ ap (map size_of) (m.first.0 refl) in
      let n = ap length (sym none ∙ stop.split) ∙ length-append stop.before (stop.size ∷ stop.after) in
      absurd (omega (arith, n))
  left_stops mode files (Cut tail) m only sizes is e stop =
      files_stop (cut_last tail.offset files) e (give_kept Gives queue (Cut tail) files only) (subst (λ (ss : List FileSize). IsQueueStop Gives Fails queue version ss IsTaken e) is stop)

-- what contexts took in can be read
pub context_sound : (h : List Event) → IsStoodFor HasRead h → Sound h
context_sound h taken = stands_sound taken.0.context h taken.1.stands

pub both_sound : (h : List Event) → IsStoodFor HaveBothRead h → Sound h
both_sound h taken = stands_sound taken.0.first.context h taken.1.0.stands

-- ---- how many bytes and files are left

module _ (mode : RecoveryMode) (queue : LogQueue) (version : Version) (files : List NumberedBytes) where
  kept_bytes : (missing : Missing) → IsMissingOf mode queue version files missing → bytes_of_files (left_by missing files) ≡ bytes_of_files (kept_by missing files)
  kept_bytes Nothing m = refl
  kept_bytes FirstFile m = sym (ap bytes_of_files (m.first.0 refl))
  kept_bytes (Cut tail) m = refl

  module _ (missing : Missing) (m : IsMissingOf mode queue version files missing) (sizes : List FileSize) (is : sizes ≡ map size_of (kept_by missing files)) where
    left_bytes : bytes_of_sizes sizes ≡ bytes_of_files (left_by missing files)
    left_bytes = ap bytes_of_sizes is ∙ bytes_sized (kept_by missing files) ∙ sym (kept_bytes missing m)

    pub few_left : bytes_of_sizes sizes < 2 ^ 63 → bytes_of_files (left_by missing files) < 2 ^ 63
    few_left few = subst (λ (n : ℕ). n < 2 ^ 63) left_bytes few

    pub many_left : (e : Error) → (2 ^ 63 ≤ bytes_of_sizes sizes) × (e ≡ errors.Full) → AreManyAs (left_by missing files) e
    many_left e many = (subst (λ (n : ℕ). 2 ^ 63 ≤ n) left_bytes many.0, many.1)

    pub count_left : length (left_by missing files) < 2 ^ 62 → length sizes < 2 ^ 62
    count_left few = let n = ap length is ∙ length-map (kept_by missing files) size_of in let k = kept_count missing m in omega (arith, few, n, k)
      where
        kept_count : (missing : Missing) → IsMissingOf mode queue version files missing → length (kept_by missing files) ≤ length (left_by missing files)
        kept_count Nothing m = omega arith
        kept_count FirstFile m = let n = ap length (m.first.0 refl) in omega (arith, n)
        kept_count (Cut tail) m = omega arith

    pub left_count : length sizes < 2 ^ 62 → length (left_by missing files) < 2 ^ 62
    left_count few = let n = ap length is ∙ length-map (kept_by missing files) size_of in let k = kept_most missing m in omega (arith, few, n, k)
      where
        kept_most : (missing : Missing) → IsMissingOf mode queue version files missing → (length (left_by missing files) ≤ length (kept_by missing files)) ⊎ (length (left_by missing files) ≡ 1)
        kept_most Nothing m = inl (omega arith)
        kept_most FirstFile m = inr refl
        kept_most (Cut tail) m = inl (omega arith)

-- the last file has no more bytes than all
last_of_all : (closed : List NumberedBytes) (last : NumberedBytes) → length last.1 ≤ bytes_of_files (closed ++ last ∷ [])
last_of_all [] last = omega arith
last_of_all (c ∷ closed) last = let r = last_of_all closed last in omega (arith, r)

pub known_room : (files : List NumberedBytes) (known : QueueFiles) → AreOf files known → bytes_of_files files < 2 ^ 63 → known.len < 2 ^ 63
known_room files known of few =
    let all = last_of_all of.closed (known.seq, of.bytes) in
    let n = ap bytes_of_files of.split in
    let e = of.ends in
    omega (arith, few, all, n, e)

-- ---- both queues

module _
    (few_records : (queue : LogQueue) (version : Version) (files : List NumberedBytes) (h : List Event) → FilesHold queue version files h → bytes_of_files files < 2 ^ 63 → IsSmall h)
    (version : Version) (append rewrite : List NumberedBytes) (appended : RecoverContext) (rewritten : Both RecoverContext GroupRows)
    (a : IsStandingFor Append version HasRead HasReadExactly append appended) (r : IsStandingFor Rewrite version HaveBothRead HaveBothReadExactly rewrite rewritten)
    (append_few : bytes_of_files append < 2 ^ 63) (rewrite_few : bytes_of_files rewrite < 2 ^ 63) where
  append_small : IsSmall a.history
  append_small = few_records Append version append a.history a.held append_few

  rewrite_small : IsSmall r.history
  rewrite_small = few_records Rewrite version rewrite r.history r.held rewrite_few

  -- the contexts have read the batches of the files that are left, if their groups stand in rows
  pub both_read : (first : RecoverContext) → first ≡ rewritten.first → ((h : List Event) → IsSummaryOf (rows_shown rewritten.second) h → AreGroupsInRows h) → AreReadBy version append rewrite appended first
  both_read first is rows = record {
    append_batches = a.history;
    rewrite_batches = r.history;
    append_held = a.held;
    rewrite_held = r.held;
    append_of = files_of_queue Append version append a.history a.held;
    rewrite_of = files_of_queue Rewrite version rewrite r.history r.held;
    append_small = append_small;
    rewrite_small = rewrite_small;
    append_read = λ small. (a.stands small, a.exact small);
    rewrite_read = λ small. subst (λ (c : RecoverContext). HasRead c r.history × (Apart r.history → HasReadExactly c r.history)) (sym is) ((r.stands small).0, λ apart. (r.exact small apart).0);
    rows = rows r.history (r.stands rewrite_small).1;
  }

  -- or they don't
  pub out_of_row : (e : Error) → IsInvalidArgument e → ((h : List Event) → IsSummaryOf (rows_shown rewritten.second) h → ¬ (AreGroupsInRows h)) → AreOutOfRows (FilesHold Rewrite version rewrite) e
  out_of_row e invalid rows = record { batches = r.history; held = r.held; out = rows r.history (r.stands rewrite_small).1; invalid = invalid }

-- the files that are left can't be read
pub stops_unreadable : (version : Version) (workers : ℕ) (append rewrite : List NumberedBytes) (e : Error) → bytes_of_files append < 2 ^ 63 → bytes_of_files rewrite < 2 ^ 63 → MayRecover workers append rewrite
    → StopsInFiles Append version append e ⊎ StopsInFiles Rewrite version rewrite e → AreUnreadableAs version workers append rewrite e
stops_unreadable version workers append rewrite e append_few rewrite_few may stops = record {
  few = (append_few, rewrite_few);
  stops = λ _. stops;
  fault = λ not. absurd (not may);
}

-- so many workers or files aren't accepted
pub counts_unreadable : (version : Version) (workers : ℕ) (append rewrite : List NumberedBytes) (e : Error) → bytes_of_files append < 2 ^ 63 → bytes_of_files rewrite < 2 ^ 63 → ¬ (MayRecover workers append rewrite)
    → IsInvalidArgument e → AreUnreadableAs version workers append rewrite e
counts_unreadable version workers append rewrite e append_few rewrite_few not invalid = record {
  few = (append_few, rewrite_few);
  stops = λ may. absurd (not may);
  fault = λ _. invalid;
}

-- ---- the files of both queues are ready

ready_sized : (mode : RecoveryMode) (queue : LogQueue) (version : Version) (files : List NumberedBytes) (sized : SizedQueue) → IsSizedQueue mode queue version files sized
    → bytes_of_files (left_by sized.ready.missing files) < 2 ^ 63 → IsReadyQueue mode queue version files sized.ready
ready_sized mode queue version files sized s few = record {
  missing = s.missing;
  known = s.known;
  room = known_room (left_by sized.ready.missing files) sized.ready.known s.known few;
}

pub both_ready : (mode : RecoveryMode) (version : Version) (append_files rewrite_files : List NumberedBytes) (append rewrite : SizedQueue)
    → IsSizedQueue mode Append version append_files append → bytes_of_files (left_by append.ready.missing append_files) < 2 ^ 63
    → IsSizedQueue mode Rewrite version rewrite_files rewrite → bytes_of_files (left_by rewrite.ready.missing rewrite_files) < 2 ^ 63
    → AreReadyFiles mode version append_files rewrite_files (record { append = append.ready; rewrite = rewrite.ready })
both_ready mode version append_files rewrite_files append rewrite a append_few r rewrite_few = record {
  append = ready_sized mode Append version append_files append a append_few;
  rewrite = ready_sized mode Rewrite version rewrite_files rewrite r rewrite_few;
}

-- ---- refusals

abbrev IsWant : Error → Type 0
IsWant errors.Memory = Unit {0}
IsWant _ = ⊥

memory_or_not : (e : Error) → (e ≡ errors.Memory) ⊎ (e ≢ errors.Memory)
memory_or_not errors.Memory = inl refl
memory_or_not e = inr (λ is. subst IsWant (sym is) tt)

pub either : (A X : Type 0) (e : Error) → (e ≢ errors.Memory → A ⊎ X) → A ⊎ (e ≢ errors.Memory → X)
either A X e why = elim (memory_or_not e) [
  | inl is ↦ inr (λ other. absurd (other is))
  | inr other ↦ elim (why other) [
    | inl a ↦ inl a
    | inr x ↦ inr (λ _. x)
  ]
]

module _ (IsRefused : Refusal) (mode : RecoveryMode) (version : Version) (append rewrite : List NumberedBytes) (append_missing rewrite_missing : Missing)
    (a : IsMissingOf mode Append version append append_missing) (r : IsMissingOf mode Rewrite version rewrite rewrite_missing) where
  pub sized_refused : (e : Error) → IsRecoveryFault IsRefused (left_by append_missing append) (left_by rewrite_missing rewrite) e ⊎ IsTooLongAs version (left_by append_missing append) (left_by rewrite_missing rewrite) e
      → IsReadingFault IsRefused mode version append rewrite e
  sized_refused e fault = record {
    accepted = (a.accepted, r.accepted);
    append_missing = missing_asks Append append_missing;
    rewrite_missing = missing_asks Rewrite rewrite_missing;
    append_left = left_by append_missing append;
    rewrite_left = left_by rewrite_missing rewrite;
    append_ready = a.ready;
    rewrite_ready = r.ready;
    fault = fault;
  }
