-- Files of which each byte was read once.
use Rattle.raft_opening.proofs.Common.{◌≡◌, ◌⊎◌, inl, inr, ℕ, ◌+◌, ◌-◌, Option, Some, None, List, [], ◌∷◌, ◌++◌, Result, Ok, Err, IfOk, length, map, take, drop, refl, sym, ap, ◌∙◌, subst, arith, append_assoc, append-nil, length-append, replicate, Vec, Global, drop_at, length-replicate}
use Rattle.raft_opening.proofs.Common.{nil_from_length, take_at, Error, LogFileContext, LogQueue, Version, Part, part_of, NumberedBytes, last_of, Event, Apart, IsSmall, apart_back, apart_front, small_back, small_front, HasReplayed, HoldsFrom, each_join, each_single, AreRead}
use Rattle.raft_opening.proofs.Common.{AreAllRead, IsQueueReplayed, file_of, FileSize, read_more, FilesHold, whole_file, EndsOrStops, IsPrefix, IsPrefixOf, IsPrefixReplayed, IsTailRead, ReplayedPrefix, BeginsInOther, IsOfEngine, IsRefusedAt, IsLastOf, Nothing, FirstFile, Cut, CutTail, DamagedBatch}
use Rattle.raft_opening.proofs.Common.{RecoveryMode, first_missing, AreNamed, LastRead, AreClosedAndLastRead, AreReplayed, IsTailAccepted, Giving, IsLastReplayed, IsStandingFor, before_tail, IsRestOf, size_of}
use Rattle.raft_opening.proofs.NamedLemmas.{damaged_last, damaged_named, none_damaged}
use Rattle.raft_opening.proofs.SizedLemmas.{sized_missing, torn_accepted, whole_accepted}

-- ---- the last file

module _ {M : Type 0} (Gives : ℕ → List ℕ → Type 0) (mode : RecoveryMode) (file : LogFileContext) (len : ℕ) (stands_for stands_exactly : M → List Event → Type 0) (old new : M) (read : ReplayedPrefix)
    (p : IsPrefixReplayed Gives file len stands_for stands_exactly old new read) (batches : Vec DamagedBatch Global) (named : AreNamed file.id read.prefix.damaged.items batches.items) where
  abbrev given : List ℕ
  given = p.front ++ read.behind.items

  -- it ends with its batches
  module _ (none : read.prefix.stopped ≡ None) where
    abbrev rest : List ℕ
    rest = replicate (len - length p.front - length read.behind.items) 0

    ends : length p.front ≡ length (given ++ rest)
    ends =
        let room = p.inside in
        let many = length-replicate {A = ℕ} (len - length p.front - length read.behind.items) 0 in
        let is = p.is rest (omega (arith, room, many)) in
        let stops : read.prefix.len ≡ length (given ++ rest) = subst (EndsOrStops (part_of file 0 (given ++ rest)) read.prefix.len) none is.is.stops in
        sym p.ends ∙ stops

    sums : length (given ++ rest) ≡ length p.front + length read.behind.items + length rest
    sums = let n = length-append given rest in let m = length-append p.front read.behind.items in omega (arith, n, m)

    nothing_behind : read.behind.items ≡ []
    nothing_behind = nil_from_length read.behind.items (let e = ends in let n = sums in omega (arith, e, n))

    all_given : given ≡ p.front
    all_given = ap (λ (xs : List ℕ). p.front ++ xs) nothing_behind ∙ append-nil p.front

    long : length p.front ≡ len
    long =
        let e = ends in
        let n = sums in
        let room = p.inside in
        let many = length-replicate {A = ℕ} (len - length p.front - length read.behind.items) 0 in
        omega (arith, e, n, many, room)

    pub last_whole : IsLastReplayed Gives mode file len stands_for stands_exactly old new (record { tail = None; damaged = batches })
    last_whole =
        let over : length p.front + length read.behind.items + 0 ≡ len = let n = ap length nothing_behind in let l = long in omega (arith, n, l) in
        let is = subst (λ (xs : List ℕ). IsPrefixOf (part_of file 0 xs) read.prefix) (append-nil given ∙ all_given) (p.is [] over) in
        record {
          bytes = p.front;
          read = subst (AreRead Gives) all_given p.given;
          whole = long;
          accepted = whole_accepted mode (part_of file 0 p.front) read.prefix.len (subst (IsPrefix (part_of file 0 p.front) read.prefix.len) none is.is);
          damaged = damaged_named (part_of file 0 p.front) refl read.prefix.damaged.items batches.items is.damaged named;
          replayed = p.replayed;
        }

  -- or it has a tail
  module _ (e : Error) (some : read.prefix.stopped ≡ Some e) (rest : Part) (t : IsTailRead Gives file read.prefix.len read.behind.items len rest) where
    abbrev bytes : List ℕ
    bytes = given ++ t.bytes

    behind : drop read.prefix.len bytes ≡ read.behind.items ++ t.bytes
    behind = ap (drop read.prefix.len) (append_assoc p.front read.behind.items t.bytes) ∙ drop_at p.front (read.behind.items ++ t.bytes) read.prefix.len (sym p.ends)

    pub is_rest : IsRestOf (part_of file 0 bytes) read.prefix.len rest
    is_rest =
        let offset : read.prefix.len ≡ 0 + read.prefix.len = omega arith in
        let same = behind in
        record {
          begins = refl;
          is = t.is ∙ (λ i. record { id = file.id; version = file.version; offset = offset i; bytes = sym same i });
        }

    whole : length bytes ≡ len
    whole = let n = length-append given t.bytes in let m = length-append p.front read.behind.items in let a = t.all in let b = p.ends in omega (arith, n, m, a, b)

    pub last_torn : (tail : CutTail) → tail ≡ record { file = file.id.seq; offset = read.prefix.len; len = len - read.prefix.len; error = e }
        → ((part : Part) (at : ℕ) → IsRestOf part at rest → ¬ (IsRefusedAt mode part at)) → ((part : Part) (at : ℕ) → IsRestOf part at rest → at ≡ 0 → ¬ (BeginsInOther part ⊎ IsOfEngine part))
        → IsLastReplayed Gives mode file len stands_for stands_exactly old new (record { tail = Some tail; damaged = batches })
    last_torn tail is tolerated of_version =
        let part = part_of file 0 bytes in
        let ends = p.ends in
        let all = t.all in
        let sum = whole in
        let of = p.is t.bytes (omega (arith, all, ends)) in
        let prefix = subst (IsPrefix part read.prefix.len) some of.is in
        let offset : tail.offset ≡ read.prefix.len = ap (λ (x : CutTail). x.offset) is in
        let rest_len : tail.len ≡ len - read.prefix.len = ap (λ (x : CutTail). x.len) is in
        let front : p.front ≡ take tail.offset bytes =
        sym (ap (take tail.offset) (append_assoc p.front read.behind.items t.bytes) ∙ take_at p.front (read.behind.items ++ t.bytes) tail.offset (sym (offset ∙ ends))) in
        let place : read.prefix.len + length read.behind.items ≡ length given = let m = length-append p.front read.behind.items in omega (arith, m, ends) in
        record {
          bytes = bytes;
          read = read_more Gives given t.bytes p.given (subst (λ (n : ℕ). Gives n t.bytes) place t.given);
          whole = whole;
          accepted = torn_accepted mode part read.prefix.len e prefix (tolerated part read.prefix.len is_rest) (of_version part read.prefix.len is_rest) tail (ap (λ (x : CutTail). x.file) is) offset
              (omega (arith, offset, rest_len, all, sum)) (ap (λ (x : CutTail). x.error) is);
          damaged = damaged_named part refl read.prefix.damaged.items batches.items of.damaged named;
          replayed = subst (λ (xs : List ℕ). HasReplayed (HoldsFrom (part_of file 0 xs) 0) stands_for stands_exactly old new) front p.replayed;
        }

-- ---- the files of a queue

none_read : (Gives : Giving) (queue : LogQueue) (files : List NumberedBytes) → AreAllRead Gives queue [] files → files ≡ []
none_read Gives queue [] r = refl
none_read Gives queue (f ∷ files) r = absurd r

-- the sizes of files that were read are theirs
pub read_sizes : (Gives : Giving) (queue : LogQueue) (sizes : List FileSize) (files : List NumberedBytes) → AreAllRead Gives queue sizes files → sizes ≡ map size_of files
read_sizes Gives queue [] [] r = refl
read_sizes Gives queue [] (f ∷ files) r = absurd r
read_sizes Gives queue (s ∷ sizes) [] r = absurd r
read_sizes Gives queue (s ∷ sizes) (f ∷ files) r =
    let seq = r.0.number in
    let len = r.0.whole in
    let rest = read_sizes Gives queue sizes files r.1 in
    λ i. record { seq = sym seq i; len = sym len i } ∷ rest i

read_behind : (Gives : Giving) (queue : LogQueue) (sizes : List FileSize) (files : List NumberedBytes) (size : FileSize) (bytes : List ℕ) → AreAllRead Gives queue sizes files → AreRead (Gives (file_of queue size.seq)) bytes → length bytes ≡ size.len
    → AreAllRead Gives queue (sizes ++ size ∷ []) (files ++ (size.seq, bytes) ∷ [])
read_behind Gives queue [] [] size own r one as_long = (record { number = refl; whole = as_long; read = one }, tt)
read_behind Gives queue [] (f ∷ files) size own r one as_long = absurd r
read_behind Gives queue (s ∷ sizes) [] size own r one as_long = absurd r
read_behind Gives queue (s ∷ sizes) (f ∷ files) size own r one as_long = (r.0, read_behind Gives queue sizes files size own r.1 one as_long)

module _ {M : Type 0} (Gives : Giving) (mode : RecoveryMode) (queue : LogQueue) (version : Version) (stands_for stands_exactly : M → List Event → Type 0) where
  -- the last file alone
  pub alone_read : (last : FileSize) (file : LogFileContext) (old new : M) (own : LastRead) → file ≡ record { id = file_of queue last.seq; version = version } → stands_for old [] → stands_exactly old []
      → IsLastReplayed (Gives file.id) mode file last.len stands_for stands_exactly old new own → AreClosedAndLastRead Gives mode queue version [] last stands_for stands_exactly (new, own)
  alone_read last file old new own is stands exact r =
      let s = subst (λ (c : LogFileContext). IsLastReplayed (Gives c.id) mode c last.len stands_for stands_exactly old new own) is r in
      record {
        files = [];
        files_read = tt;
        bytes = s.bytes;
        bytes_read = s.read;
        whole = s.whole;
        accepted = s.accepted;
        damaged = s.damaged;
        standing = record {
          history = s.replayed.history;
          held = each_single (λ file h. HoldsFrom (whole_file queue version file) 0 h) (last.seq, before_tail own.tail s.bytes) s.replayed.history s.replayed.held;
          stands = λ small. s.replayed.stands [] small stands;
          exact = λ small apart. s.replayed.exact [] small exact;
        };
      }

  -- behind the closed ones
  pub parts_read : (closed : List FileSize) (last : FileSize) (older now : M) (newer : M × LastRead) → IsQueueReplayed Gives queue version closed stands_for stands_exactly older
      → AreClosedAndLastRead Gives mode queue version [] last stands_for stands_exactly newer
      → ((h g : List Event) → IsSmall (h ++ g) → stands_for older h → stands_for newer.0 g → stands_for now (h ++ g))
      → ((h g : List Event) → IsSmall (h ++ g) → Apart (h ++ g) → stands_exactly older h → stands_exactly newer.0 g → stands_exactly now (h ++ g))
      → AreClosedAndLastRead Gives mode queue version closed last stands_for stands_exactly (now, newer.1)
  parts_read closed last older now newer a b stands exact =
      let kept : NumberedBytes = (last.seq, before_tail newer.1.tail b.bytes) in
      let own = b.standing in
      let held = subst (λ (fs : List NumberedBytes). FilesHold queue version (fs ++ kept ∷ []) own.history) (none_read Gives queue b.files b.files_read) own.held in
      record {
        files = a.files;
        files_read = a.read;
        bytes = b.bytes;
        bytes_read = b.bytes_read;
        whole = b.whole;
        accepted = b.accepted;
        damaged = b.damaged;
        standing = record {
          history = a.history ++ own.history;
          held = each_join (λ file h. HoldsFrom (whole_file queue version file) 0 h) a.files (kept ∷ []) a.history own.history a.held held;
          stands = λ small. stands a.history own.history small (a.stands (small_front a.history own.history small)) (own.stands (small_back a.history own.history small));
          exact = λ small apart. exact a.history own.history small apart (a.exact (small_front a.history own.history small) (apart_front a.history own.history apart))
              (own.exact (small_back a.history own.history small) (apart_back a.history own.history apart));
        };
      }

  module _ (sizes closed : List FileSize) (last : FileSize) (split : sizes ≡ closed ++ last ∷ []) where
    all_read : (read : M × LastRead) (r : AreClosedAndLastRead Gives mode queue version closed last stands_for stands_exactly read) → AreAllRead Gives queue sizes (r.files ++ (last.seq, r.bytes) ∷ [])
    all_read read r = subst (λ (ss : List FileSize). AreAllRead Gives queue ss (r.files ++ (last.seq, r.bytes) ∷ [])) (sym split) (read_behind Gives queue closed r.files last r.bytes r.files_read r.bytes_read r.whole)

    is_last : (read : M × LastRead) (r : AreClosedAndLastRead Gives mode queue version closed last stands_for stands_exactly read) → IsLastOf queue version (r.files ++ (last.seq, r.bytes) ∷ []) (whole_file queue version (last.seq, r.bytes))
    is_last read r = record { closed = r.files; last = (last.seq, r.bytes); split = refl; is = refl }

    -- nothing is missing of them
    pub whole_read : (read : M × LastRead) → read.1.tail ≡ None → AreClosedAndLastRead Gives mode queue version closed last stands_for stands_exactly read
        → AreReplayed Gives mode queue version sizes stands_for stands_exactly (record { machine = read.0; missing = Nothing; damaged = read.1.damaged })
    whole_read read none r =
        let files = r.files ++ (last.seq, r.bytes) ∷ [] in
        let part = whole_file queue version (last.seq, r.bytes) in
        record {
          files = files;
          files_read = all_read read r;
          missing = λ consecutive. sized_missing mode queue version files part (is_last read r) consecutive None (subst (IsTailAccepted mode part) none r.accepted) Nothing (inl (refl, refl));
          damaged = damaged_last queue version files r.files (last.seq, r.bytes) read.1.damaged.items refl r.damaged;
          standing = subst (λ (tail : Option CutTail). IsStandingFor queue version stands_for stands_exactly (r.files ++ (last.seq, before_tail tail r.bytes) ∷ []) read.0) none r.standing;
        }

    -- or the cut of this tail
    pub torn_read : (read : M × LastRead) (tail : CutTail) → read.1.tail ≡ Some tail → AreClosedAndLastRead Gives mode queue version closed last stands_for stands_exactly read
        → AreReplayed Gives mode queue version sizes stands_for stands_exactly (record { machine = read.0; missing = Cut tail; damaged = read.1.damaged })
    torn_read read tail some r =
        let files = r.files ++ (last.seq, r.bytes) ∷ [] in
        let part = whole_file queue version (last.seq, r.bytes) in
        let left = last_of (λ (old : List ℕ). take tail.offset old) r.files (last.seq, r.bytes) in
        record {
          files = files;
          files_read = all_read read r;
          missing = λ consecutive. sized_missing mode queue version files part (is_last read r) consecutive (Some tail) (subst (IsTailAccepted mode part) some r.accepted) (Cut tail) (inr (tail, refl, refl));
          damaged = damaged_last queue version files r.files (last.seq, r.bytes) read.1.damaged.items refl r.damaged;
          standing = subst (λ (fs : List NumberedBytes). IsStandingFor queue version stands_for stands_exactly fs read.0) (sym left)
              (subst (λ (t : Option CutTail). IsStandingFor queue version stands_for stands_exactly (r.files ++ (last.seq, before_tail t r.bytes) ∷ []) read.0) some r.standing);
        }

  -- there is none
  pub first_read : (sizes : List FileSize) (machine : M) (batches : Vec DamagedBatch Global) → sizes ≡ [] → batches.items ≡ [] → stands_for machine [] → stands_exactly machine []
      → AreReplayed Gives mode queue version sizes stands_for stands_exactly (record { machine = machine; missing = FirstFile; damaged = batches })
  first_read sizes machine batches none undamaged stands exact = record {
    files = [];
    files_read = subst (λ (ss : List FileSize). AreAllRead Gives queue ss []) (sym none) tt;
    missing = λ consecutive. first_missing queue version [] mode consecutive refl;
    damaged = none_damaged queue version batches.items undamaged;
    standing = record {
      history = [];
      held = record { first = []; rest = []; first_held = refl; rest_held = refl; split = refl };
      stands = λ small. stands;
      exact = λ small apart. exact;
    };
  }

-- ---- three clauses of one result

pub three_ok : {O U : Type 0} (r : Result O U) (A B C D : O → Type 0) → ((x : O) → A x → B x → C x → D x) → IfOk r A → IfOk r B → IfOk r C → IfOk r D
three_ok (Ok x) A B C D all a b c = all x a b c
three_ok (Err e) A B C D all a b c = tt
