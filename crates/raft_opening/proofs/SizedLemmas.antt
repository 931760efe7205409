-- Found files by their sizes, and what reads give of them.
use Rattle.raft_opening.proofs.Common.{◌≡◌, ◌⊎◌, inl, inr, ℕ, suc, ◌+◌, ◌<◌, Option, Some, None, List, [], ◌∷◌, ◌++◌, length, map, take, drop, get_or, refl, sym, ap, ◌∙◌, subst, arith, append_assoc, append-nil, drop-drop, length-append, length-drop, drop_at, drop_more}
use Rattle.raft_opening.proofs.Common.{length-take-le, map-append, nil_from_length, Error, FileId, LogFileContext, LogQueue, Version, Part, part_of, NumberedBytes, cut_last, last_of, IsKnownOf, IsPrefix, IsRestRead, AreGivenFrom, AreRead, IsReadFault, IsUnread, joined, IoError}
use Rattle.raft_opening.proofs.Common.{file_of, FileSize, bytes_of_sizes, bytes_of_files, IsUnreadableAt, AreConsecutive, numbers, StopsAt, IsTailOf, AreApartAs, BeginsInOther, IsApartAs, IsFoundFault, IsOfEngine, IsOtherText, IsRefusalText, IsRefusedAt, StandTogether, IsLastOf}
use Rattle.raft_opening.proofs.Common.{IsMissingOf, left_by, AreOf, IsUnsoundAs, AreKnownOf, AreLeft, AreNumbersApartAs, AreSized, GiveOnly, GivesOnly, IsKnownLast, IsPartFault, IsReadRefusal, IsRestOf, IsTailAccepted, kept_by, numbers_of, size_of, Missing, Nothing, FirstFile}
use Rattle.raft_opening.proofs.Common.{Cut, QueueFiles, CutTail, RecoveryMode, AreReadUpTo, stand_together, begins_as, not_other, one_last, tolerated, whole_not_other, block_fault, is_tail, last_missing, missing_fault, tail_told}
use Rattle.raft_prefix.specs.Blocks as prefix_blocks
use Rattle.raft_engine.proofs.FileNumbers.{read_more}

-- ---- the bytes of a file

module _ (Gives : ℕ → List ℕ → Type 0) (bytes : List ℕ) (only : GivesOnly Gives bytes) where
  -- pieces that reads gave, one behind another, stand in the file
  pieces_stand : (offset : ℕ) (pieces : List (List ℕ)) → AreGivenFrom Gives offset pieces → (rest : List ℕ) × (drop offset bytes ≡ joined pieces ++ rest)
  pieces_stand offset [] given = (drop offset bytes, refl)
  pieces_stand offset (piece ∷ pieces) given =
      let one = only offset piece given.0 in
      let more = pieces_stand (offset + length piece) pieces given.1 in
      let behind : drop (offset + length piece) bytes ≡ one.0 =
      sym (drop-drop (length piece) offset bytes) ∙ ap (drop (length piece)) one.1 ∙ drop_at piece one.0 (length piece) refl in (
        more.0,
        one.1 ∙ ap (λ (t : List ℕ). piece ++ t) (sym behind ∙ more.1) ∙ sym (append_assoc piece (joined pieces) more.0),
      )

  -- what reads gave from its first byte on begins it
  pub read_front : (read : List ℕ) → AreRead Gives read → (rest : List ℕ) × (bytes ≡ read ++ rest)
  read_front read r =
      let s = pieces_stand 0 r.pieces r.given in
      (s.0, s.1 ∙ ap (λ (t : List ℕ). t ++ s.0) r.all)

  -- what is known of what reads gave is known of the file
  pub known_so : (file : LogFileContext) (len : ℕ) (Is : Part → Type 0) → length bytes ≡ len → IsKnownOf Gives file len Is → Is (part_of file 0 bytes)
  known_so file len Is long k =
      let s = read_front k.bytes k.read in
      subst (λ (xs : List ℕ). Is (part_of file 0 xs)) (sym s.1) (k.is s.0 (sym (length-append k.bytes s.0) ∙ sym (ap length s.1) ∙ long))

  -- all bytes that were read from a byte on
  pub rest_so : (file : LogFileContext) (at len : ℕ) (rest : Part) → length bytes ≡ len → IsRestRead Gives file at len rest → IsRestOf (part_of file 0 bytes) at rest
  rest_so file at len rest long r =
      let one = only at r.bytes r.given in
      let many = length-drop at bytes in
      let n = ap length one.1 ∙ length-append r.bytes one.0 in
      let all = r.all in
      let none : one.0 ≡ [] = nil_from_length one.0 (omega (arith, many, n, all, long)) in
      let same : r.bytes ≡ drop at bytes = sym (one.1 ∙ ap (λ (t : List ℕ). r.bytes ++ t) none ∙ append-nil r.bytes) in
      let offset : at ≡ 0 + at = omega arith in
      record {
        begins = refl;
        is = r.is ∙ (λ i. record { id = file.id; version = file.version; offset = offset i; bytes = same i });
      }

-- ---- the last file

-- the blocks of a part as the reading of its prefix says it
pub unsound_so : (part : Part) (e : Error) → prefix_blocks.IsUnsoundAs part e → IsUnsoundAs part e
unsound_so part e u = record {
  block = record {
    at = u.block.at;
    next = u.block.next;
    items = u.block.items;
    batches = u.block.batches;
    batch = u.block.batch;
    unsound = u.block.unsound;
    before = u.block.before;
  };
  text = u.text;
}

module _ (mode : RecoveryMode) (part : Part) (at : ℕ) where
  pub whole_accepted : IsPrefix part at None → IsTailAccepted mode part None
  whole_accepted p =
      let stops : StopsAt part (length part.bytes) = subst (StopsAt part) p.stops (record { batches = p.batches; stops = inl p.stops }) in
      record {
        told = stops;
        tolerated = tolerated mode part (length part.bytes) stops (inl refl);
        of_version = whole_not_other part (length part.bytes) stops.batches refl;
        sound = p.sound;
      }

  module _ (e : Error) (p : IsPrefix part at (Some e)) where
    stops : StopsAt part at
    stops = record { batches = p.batches; stops = inr p.stops.unreadable }

    pub torn_accepted : ¬ (IsRefusedAt mode part at) → (at ≡ 0 → ¬ (BeginsInOther part ⊎ IsOfEngine part)) → (tail : CutTail) → tail.file ≡ part.id.seq → tail.offset ≡ at
        → tail.offset + tail.len ≡ length part.bytes → tail.error ≡ e → IsTailAccepted mode part (Some tail)
    torn_accepted not none tail file offset len error = record {
      told = is_torn;
      tolerated = tolerated mode part at stops (inr not);
      of_version = not_other part at p.batches none;
      sound = p.sound;
    }
      where
        is_torn : IsTailOf part tail
        is_torn = is_tail part at e tail (record { file = file; offset = offset; len = len; reason = error }) stops p.stops.before_end p.stops.why p.stops.not_memory

    pub torn_refused : (f : Error) → (IsRefusedAt mode part at × IsRefusalText mode part at f) ⊎ ((at ≡ 0) × IsOtherText part f) → IsPartFault mode part f
    torn_refused f (inl r) = inl (inl (record { tail = record { at = at; stops = stops; before_end = p.stops.before_end; refused = r.0 }; text = r.1 }))
    torn_refused f (inr o) = inl (inr (record {
      other = record { unreadable = subst (IsUnreadableAt part) o.0 p.stops.unreadable; begins = begins_as part f o.1 };
      text = o.1;
    }))

-- ---- files by their sizes

pub sizes_split : (closed : List NumberedBytes) (last : NumberedBytes) → map size_of (closed ++ last ∷ []) ≡ map size_of closed ++ size_of last ∷ []
sizes_split closed last = map-append size_of closed (last ∷ [])

-- what is last of sizes is that of the last file
pub record IsLastSized (files : List NumberedBytes) (closed : List FileSize) (last : FileSize) : Type 0 where
  pub front : List NumberedBytes
  pub file : NumberedBytes
  pub split : files ≡ front ++ file ∷ []
  pub sizes : closed ≡ map size_of front
  pub size : last ≡ size_of file

pub last_sized : (files : List NumberedBytes) (closed : List FileSize) (last : FileSize) → map size_of files ≡ closed ++ last ∷ [] → IsLastSized files closed last
last_sized [] [] last e = absurd cc
last_sized [] (c ∷ closed) last e = absurd cc
last_sized (f ∷ []) [] last e = record { front = []; file = f; split = refl; sizes = refl; size = cc }
last_sized (f ∷ []) (c ∷ []) last e = absurd cc
last_sized (f ∷ []) (c ∷ d ∷ closed) last e = absurd cc
last_sized (f ∷ g ∷ files) [] last e = absurd cc
last_sized (f ∷ g ∷ files) (c ∷ closed) last e =
    let l = last_sized (g ∷ files) closed last cc in
    let first : c ≡ size_of f = cc in
    record { front = f ∷ l.front; file = l.file; split = ap (λ (fs : List NumberedBytes). f ∷ fs) l.split; sizes = (λ i. first i ∷ l.sizes i); size = l.size }

pub none_sized : (files : List NumberedBytes) → map size_of files ≡ [] → files ≡ []
none_sized [] e = refl
none_sized (f ∷ files) e = absurd cc

pub numbers_sized : (files : List NumberedBytes) → numbers_of (map size_of files) ≡ numbers files
numbers_sized [] = refl
numbers_sized (f ∷ files) = ap (λ (ns : List ℕ). f.0 ∷ ns) (numbers_sized files)

pub bytes_sized : (files : List NumberedBytes) → bytes_of_sizes (map size_of files) ≡ bytes_of_files files
bytes_sized [] = refl
bytes_sized (f ∷ files) = ap (λ (n : ℕ). length f.1 + n) (bytes_sized files)

only_last : (Gives : FileId → ℕ → List ℕ → Type 0) (queue : LogQueue) (front : List NumberedBytes) (file : NumberedBytes) → GiveOnly Gives queue (front ++ file ∷ []) → GivesOnly (Gives (file_of queue file.0)) file.1
only_last Gives queue [] file only = only.0
only_last Gives queue (f ∷ front) file only = only_last Gives queue front file only.1

module _ (Gives : FileId → ℕ → List ℕ → Type 0) (queue : LogQueue) (version : Version) (sizes : List FileSize) (files : List NumberedBytes) (sized : AreSized Gives queue sizes files) where
  pub no_file : sizes ≡ [] → files ≡ []
  no_file none = none_sized files (sym sized.are ∙ none)

  pub apart_sized : (e : Error) → AreNumbersApartAs queue (numbers_of sizes) e → AreApartAs queue files e
  apart_sized e a =
      let ns : numbers_of sizes ≡ numbers files = ap numbers_of sized.are ∙ numbers_sized files in
      record { last = a.last; next = a.next; together = subst (λ (l : List ℕ). StandTogether l a.last a.next) ns a.together; why = a.why }

  pub consecutive_sized : AreConsecutive (numbers_of sizes) → AreConsecutive (numbers files)
  consecutive_sized c = subst AreConsecutive (ap numbers_of sized.are ∙ numbers_sized files) c

  -- the last file
  module _ (closed : List FileSize) (last : FileSize) (split : sizes ≡ closed ++ last ∷ []) where
    pub the_last : IsLastSized files closed last
    the_last = last_sized files closed last (sym sized.are ∙ split)

    pub last_part : (file : LogFileContext) → file ≡ record { id = file_of queue last.seq; version = version } → IsLastOf queue version files (part_of file 0 the_last.file.1)
    last_part file is =
        let l = the_last in
        let seq : last.seq ≡ l.file.0 = ap (λ (s : FileSize). s.seq) l.size in
        record {
          closed = l.front;
          last = l.file;
          split = l.split;
          is = ap (λ (f : LogFileContext). part_of f 0 l.file.1) is ∙ ap (λ (n : ℕ). part_of (record { id = file_of queue n; version = version }) 0 l.file.1) seq;
        }

    pub last_long : length the_last.file.1 ≡ last.len
    last_long = sym (ap (λ (s : FileSize). s.len) (the_last.size))

    pub last_only : (file : LogFileContext) → file ≡ record { id = file_of queue last.seq; version = version } → GivesOnly (Gives file.id) the_last.file.1
    last_only file is =
        let l = the_last in
        let seq : last.seq ≡ l.file.0 = ap (λ (s : FileSize). s.seq) l.size in
        let only = only_last Gives queue l.front l.file (subst (GiveOnly Gives queue) l.split sized.only) in
        subst (λ (id : FileId). GivesOnly (Gives id) l.file.1) (ap (file_of queue) (sym seq) ∙ sym (ap (λ (f : LogFileContext). f.id) is)) only

-- ---- what is missing of files

module _ (mode : RecoveryMode) (queue : LogQueue) (version : Version) (files : List NumberedBytes) (part : Part) (l : IsLastOf queue version files part) where
  pub sized_missing : AreConsecutive (numbers files) → (tail : Option CutTail) → IsTailAccepted mode part tail → (missing : Missing)
      → ((tail ≡ None) × (missing ≡ Nothing)) ⊎ ((t : CutTail) × (tail ≡ Some t) × (missing ≡ Cut t)) → IsMissingOf mode queue version files missing
  sized_missing consecutive tail a missing how =
      last_missing queue version files mode consecutive part l a.tolerated a.of_version a.sound tail (tail_told queue version files part tail l a.told) missing how

  pub sized_fault : (e : Error) → IsPartFault mode part e → IsFoundFault mode queue version files e
  sized_fault e (inl f) = missing_fault queue version files mode part l e f
  sized_fault e (inr u) = block_fault queue version files mode part l e u

-- ---- what is known of them

pub known_last : (files : List NumberedBytes) (known : QueueFiles) → IsKnownLast (map size_of files) known → AreOf files known
known_last files known k =
    let l = last_sized files k.closed k.last k.split in
    let seq = ap (λ (s : FileSize). s.seq) l.size in
    let len = ap (λ (s : FileSize). s.len) l.size in
    record {
      closed = l.front;
      bytes = l.file.1;
      split = l.split ∙ ap (λ (n : ℕ). l.front ++ (n, l.file.1) ∷ []) (sym (k.seq ∙ seq));
      have = k.have ∙ ap numbers_of l.sizes ∙ numbers_sized l.front;
      ends = k.len ∙ len;
    }

first_of : (known : QueueFiles) → known.closed.items ≡ [] → known.seq ≡ 1 → known.len ≡ 0 → AreOf ((1, []) ∷ []) known
first_of known have seq len = record {
  closed = [];
  bytes = [];
  split = ap (λ (n : ℕ). (n, []) ∷ []) (sym seq);
  have = have;
  ends = len;
}

module _ (mode : RecoveryMode) (queue : LogQueue) (version : Version) (files : List NumberedBytes) where
  -- the files that are to be read, as they are left
  pub left_sized : (missing : Missing) → IsMissingOf mode queue version files missing → (sizes left : List FileSize) → sizes ≡ map size_of files → AreLeft missing sizes left
      → left ≡ map size_of (kept_by missing files)
  left_sized Nothing m sizes left is same = same ∙ is
  left_sized FirstFile m sizes left is same = same ∙ is
  left_sized (Cut tail) m sizes left is (inl none) = absurd (none_cut (none_sized files (sym is ∙ none)))
    where
      none_cut : files ≡ [] → ⊥
      none_cut e = no_split m.told.closed m.told.last (sym e ∙ m.told.split)
        where
          no_split : (closed : List NumberedBytes) (last : NumberedBytes) → [] ≡ closed ++ last ∷ [] → ⊥
          no_split [] last e = absurd cc
          no_split (c ∷ closed) last e = absurd cc
  left_sized (Cut tail) m sizes left is (inr cut) =
      let l = last_sized files cut.closed cut.last (sym is ∙ cut.split) in
      let same : l.file ≡ m.told.last = one_last l.front m.told.closed l.file m.told.last (sym l.split ∙ m.told.split) in
      let before : tail.offset < length m.told.last.1 = m.told.is.torn.1 in
      let long : length l.file.1 ≡ length m.told.last.1 = ap (λ (f : NumberedBytes). length f.1) same in
      let taken : length (take tail.offset l.file.1) ≡ tail.offset = length-take-le tail.offset l.file.1 (omega (arith, before, long)) in
      let seq : cut.last.seq ≡ l.file.0 = ap (λ (s : FileSize). s.seq) l.size in
      let kept : cut_last tail.offset files ≡ l.front ++ (l.file.0, take tail.offset l.file.1) ∷ [] = ap (cut_last tail.offset) l.split ∙ last_of (λ (old : List ℕ). take tail.offset old) l.front l.file in
      cut.cut ∙ (λ i. l.sizes i ++ record { seq = seq i; len = sym taken i } ∷ []) ∙ sym (map-append size_of l.front ((l.file.0, take tail.offset l.file.1) ∷ [])) ∙ ap (map size_of) (sym kept)

  pub known_left : (missing : Missing) → IsMissingOf mode queue version files missing → (left : List FileSize) (known : QueueFiles) → left ≡ map size_of (kept_by missing files) → AreKnownOf left known
      → AreOf (left_by missing files) known
  known_left Nothing m left known is (inl none) = absurd (let e : Nothing ≡ FirstFile = m.first.1 (none_sized files (sym is ∙ none.none)) in cc)
  known_left Nothing m left known is (inr some) = known_last files known (subst (λ (ss : List FileSize). IsKnownLast ss known) is some)
  known_left FirstFile m left known is (inl none) = first_of known none.have none.seq none.len
  known_left FirstFile m left known is (inr some) = absurd (no_split some.closed some.last (sym (is ∙ ap (map size_of) (m.first.0 refl)) ∙ some.split))
    where
      no_split : (closed : List FileSize) (last : FileSize) → [] ≡ closed ++ last ∷ [] → ⊥
      no_split [] last e = absurd cc
      no_split (c ∷ closed) last e = absurd cc
  known_left (Cut tail) m left known is (inr some) = known_last (cut_last tail.offset files) known (subst (λ (ss : List FileSize). IsKnownLast ss known) is some)
  known_left (Cut tail) m left known is (inl none) = absurd (none_cut (none_sized (cut_last tail.offset files) (sym is ∙ none.none)))
    where
      none_cut : cut_last tail.offset files ≡ [] → ⊥
      none_cut e =
          let same = ap (cut_last tail.offset) m.told.split ∙ last_of (λ (old : List ℕ). take tail.offset old) m.told.closed m.told.last in
          let n = ap length (sym e ∙ same) ∙ length-append m.told.closed ((m.told.last.0, take tail.offset m.told.last.1) ∷ []) in
          omega (arith, n)

-- ---- why a file can't be read

module _ (Gives : FileId → ℕ → List ℕ → Type 0) (Fails : FileId → ℕ → IoError → Type 0) (e : Error) where
  pub unread_refusal : (id : FileId) (len : ℕ) → IsUnread (Gives id) (Fails id) len e → IsReadRefusal Gives Fails e
  unread_refusal id len u = record { file = id; offset = length u.bytes; asked = u.asked; fault = u.fault }

  pub read_refusal : (id : FileId) (offset asked : ℕ) → IsReadFault (Gives id offset) (Fails id offset) asked e → IsReadRefusal Gives Fails e
  read_refusal id offset asked f = record { file = id; offset = offset; asked = asked; fault = f }

-- ---- sizes, one after the other

next_size : (ns : List ℕ) (last : ℕ) (sizes : List FileSize) (i : ℕ) (d : FileSize) → i < length sizes → AreReadUpTo ns last (numbers_of (drop i sizes))
    → AreReadUpTo ns last ((get_or sizes i d).seq ∷ numbers_of (drop (i + 1) sizes))
next_size ns last sizes i d less r = subst (AreReadUpTo ns last) (ap numbers_of (drop_more sizes i d less)) r

pub more_at : (ns : List ℕ) (last : ℕ) (sizes : List FileSize) (i : ℕ) (d : FileSize) → i < length sizes → AreReadUpTo ns last (numbers_of (drop i sizes)) → (get_or sizes i d).seq ≡ suc last
    → AreReadUpTo ns (get_or sizes i d).seq (numbers_of (drop (i + 1) sizes))
more_at ns last sizes i d less r next = read_more _ _ _ _ (next_size ns last sizes i d less r) next

pub apart_at : (queue : LogQueue) (ns : List ℕ) (last : ℕ) (sizes : List FileSize) (i : ℕ) (d : FileSize) (e : Error) → i < length sizes → AreReadUpTo ns last (numbers_of (drop i sizes)) → IsApartAs queue last (get_or sizes i d).seq e
    → AreNumbersApartAs queue ns e
apart_at queue ns last sizes i d e less r why = record {
  last = last;
  next = (get_or sizes i d).seq;
  together = stand_together _ _ _ _ (next_size ns last sizes i d less r);
  why = why;
}
