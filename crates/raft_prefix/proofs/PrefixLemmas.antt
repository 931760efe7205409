-- A file whose prefix is read piece by piece.
use Rattle.raft_prefix.proofs.Common.{◌≡◌, ◌≢◌, inl, inr, ℕ, ◌+◌, ◌<◌, ◌≤◌, Option, Some, None, List, [], ◌∷◌, ◌++◌, length, take, drop, refl, sym, ap, ◌∙◌, subst, arith, append_assoc, append-nil, length-append, length-drop, drop-drop, take-append-drop, drop_at, length-take-le}
use Rattle.raft_prefix.proofs.Common.{nil_from_length, take-take, IfSome, MatchOption, Vec, Global, signature_of, IsCorruption, Error, LogFileContext, Rewrite, HasNoFront, Part, IsBatchAt, IsNextFault, StandBetween, part_of, Item, IsReadable, part_signature, batch_inside}
use Rattle.raft_prefix.proofs.Common.{no_batches, one_batch_more, Event, bytes_before, HasReplayed, HoldsFrom, IsUnreadableAt, history_in, with_bytes, AreRead, IsAppended, IsReadFault, IsUnread, IoError, none_read, read_more, IsSettled, fault_more, header_of, room_of}
use Rattle.raft_prefix.proofs.Common.{unread_more, held_behind, stands_behind, none_replayed, replayed_as, replayed_more, held_after, IsUnsoundAs, damaged_entries_text, ArePassed, IsDecided, IsHistoryUpTo, IsPassedTo, IsRefusedBehind, IsSoundIn, IsUnsoundIn, EndsOrStops, AreUnsoundIn, AreUnsoundTo, IsGathered}
use Rattle.raft_prefix.proofs.Common.{IsDamageRead, IsKnownOf, IsPrefixOf, IsPrefixReplayed}
use Rattle.raft_base.specs.declared.errors.Error.TheVariants as errors
use Rattle.raft_prefix.specs.declared.file_prefix.Prefix.{Prefix}
use Rattle.raft_prefix.proofs.BlockLemmas.{all_sound, all_unsound, blocks_sound, first_unsound, longer_unsound, longer_unsound_to, longer_up_to, moved_batch, none_unsound, one_more_sound, one_more_unsound}

-- ---- the batches of a piece

module _ (file : LogFileContext) (bytes : List ℕ) where
  abbrev whole : List ℕ → Part
  whole gone = part_of file 0 (gone ++ bytes)

  dropped : (gone : List ℕ) (j : ℕ) → drop (length gone + j) (gone ++ bytes) ≡ drop j bytes
  dropped gone j = sym (drop-drop j (length gone) (gone ++ bytes)) ∙ ap (drop j) (drop_at gone bytes (length gone) refl)

  pub none_passed : (offset : ℕ) (damaged : List ℕ) → ArePassed file offset bytes damaged damaged 0
  none_passed offset damaged =
      let e : offset ≡ offset + 0 = omega arith in (
        [],
        sym (append-nil damaged),
        λ gone before is passed. subst (λ (n : ℕ). IsPassedTo (whole gone) n (before ++ [])) e (subst (IsPassedTo (whole gone) offset) (sym (append-nil before)) passed),
      )

  -- a batch of the piece, in the file
  module _ (offset at next : ℕ) (items : List Item) (b : IsBatchAt (part_of file offset bytes) at items next) (own : List ℕ) (is : own ≡ drop at bytes) (first old : List ℕ) (before : ArePassed file offset bytes first old at) where
    abbrev found : List ℕ
    found = before.0

    module _ (gone ahead : List ℕ) (begins : offset ≡ length gone) (passed : IsPassedTo (part_of file 0 (gone ++ bytes)) offset ahead) where
      here : IsBatchAt (whole gone) (offset + at) items (offset + next)
      here = subst (λ (n : ℕ). IsBatchAt (whole gone) (n + at) items (n + next)) (sym begins)
          (stands_behind file gone bytes at next items (subst (λ (n : ℕ). IsBatchAt (part_of file n bytes) at items next) begins b))

      behind : own ≡ drop (offset + at) (gone ++ bytes)
      behind = is ∙ sym (dropped gone at) ∙ ap (λ (n : ℕ). drop (n + at) (gone ++ bytes)) (sym begins)

      sound_passed : IsSoundIn own → IsPassedTo (whole gone) (offset + next) (ahead ++ found)
      sound_passed sound =
          let p = before.2 gone ahead begins passed in
          record {
            batches = one_batch_more (whole gone) (offset + at) items (offset + next) p.batches here;
            unsound = one_more_sound (whole gone) (offset + at) (offset + next) items p.batches here (ahead ++ found) (λ others n c. sound (whole gone) (offset + at) n others behind c) p.unsound;
            none = p.none;
          }

      unsound_passed : file.id.queue ≢ Rewrite → IsUnsoundIn own → IsPassedTo (whole gone) (offset + next) (ahead ++ (found ++ (offset + at) ∷ []))
      unsound_passed not_rewrite unsound =
          let p = before.2 gone ahead begins passed in
          record {
            batches = one_batch_more (whole gone) (offset + at) items (offset + next) p.batches here;
            unsound = subst (AreUnsoundTo (whole gone) (offset + next)) (append_assoc ahead found ((offset + at) ∷ []))
                (one_more_unsound (whole gone) (offset + at) (offset + next) items p.batches here (ahead ++ found) (unsound (whole gone) (offset + at) (offset + next) items behind here) p.unsound);
            none = λ of_rewrite. absurd (not_rewrite of_rewrite);
          }

      one_refused : file.id.queue ≡ Rewrite → IsUnsoundIn own → (e : Error) → IsCorruption (damaged_entries_text file.id (offset + at)) e → IsUnsoundAs (whole gone) e
      one_refused of_rewrite unsound e text =
          let p = before.2 gone ahead begins passed in
          let inside = batch_inside (whole gone) (offset + at) items (offset + next) here in
          first_unsound (whole gone) (offset + at) (offset + next) items (omega (arith, inside.0, inside.1)) p.batches here (unsound (whole gone) (offset + at) (offset + next) items behind here)
          (all_sound (whole gone) (offset + at) (subst (AreUnsoundTo (whole gone) (offset + at)) (p.none of_rewrite) p.unsound)) e text

    pub one_more_passed : (new : List ℕ) → IsGathered file.id.queue (offset + at) own old new → ArePassed file offset bytes first new next
    one_more_passed new (inl kept) = (found, kept.1 ∙ before.1, λ gone ahead begins passed. sound_passed gone ahead begins passed kept.0)
    one_more_passed new (inr more) = (
      found ++ (offset + at) ∷ [],
      more.2 ∙ ap (λ (xs : List ℕ). xs ++ (offset + at) ∷ []) before.1 ∙ append_assoc first found ((offset + at) ∷ []),
      λ gone ahead begins passed. unsound_passed gone ahead begins passed more.0 more.1,
    )

    pub refused_behind : file.id.queue ≡ Rewrite → IsUnsoundIn own → (e : Error) → IsCorruption (damaged_entries_text file.id (offset + at)) e → IsRefusedBehind file offset bytes first e
    refused_behind of_rewrite unsound e text gone begins passed = one_refused gone first begins passed of_rewrite unsound e text

-- ---- the pieces so far

-- the bytes in front of the piece are passed, with these damaged batches, and let go, and the piece is what was read behind them; of the former this is so
pub record IsUnder (Gives : ℕ → List ℕ → Type 0) (Held : List ℕ → Type 0) (file : LogFileContext) (len at : ℕ) (damaged piece : List ℕ) : Type 0 where
  pub gone : List ℕ
  pub ends : at ≡ length gone
  pub inside : at + length piece ≤ len
  pub read : AreRead Gives (gone ++ piece)
  pub passed : IsPassedTo (part_of file 0 (gone ++ piece)) at damaged
  pub held : Held gone

module _ (Gives : ℕ → List ℕ → Type 0) (Held : List ℕ → Type 0) (file : LogFileContext) (len : ℕ) where
  pub none_under : Held [] → IsUnder Gives Held file len 0 [] []
  none_under held = record {
    gone = [];
    ends = refl;
    inside = omega arith;
    read = none_read Gives;
    passed = record { batches = no_batches (part_of file 0 []); unsound = none_unsound (part_of file 0 []); none = λ _. refl };
    held = held;
  }

  -- so many bytes of the piece are passed too, and let go
  pub under_front : (Now : List ℕ → Type 0) (at count : ℕ) (old new piece left : List ℕ) → IsUnder Gives Held file len at old piece → ArePassed file at piece old new count → count ≤ length piece → left ≡ drop count piece
      → ((gone : List ℕ) → at ≡ length gone → Held gone → Now (gone ++ take count piece)) → IsUnder Gives Now file len (at + count) new left
  under_front Now at count old new piece left u passed inside is grown =
      let same : u.gone ++ piece ≡ (u.gone ++ take count piece) ++ left =
      ap (λ (t : List ℕ). u.gone ++ t) (sym (take-append-drop count piece)) ∙ sym (append_assoc u.gone (take count piece) (drop count piece)) ∙ ap (λ (t : List ℕ). (u.gone ++ take count piece) ++ t) (sym is) in
      let long = length-take-le count piece inside in
      let cut : length left ≡ length (drop count piece) = ap length is in
      record {
        gone = u.gone ++ take count piece;
        ends = let n = u.ends in omega (arith, n, long, length-append u.gone (take count piece));
        inside = let n = u.inside in omega (arith, n, cut, inside, length-drop count piece);
        read = subst (AreRead Gives) same u.read;
        passed = subst (λ (xs : List ℕ). IsPassedTo (part_of file 0 xs) (at + count) new) same (subst (IsPassedTo (part_of file 0 (u.gone ++ piece)) (at + count)) (sym passed.1) (passed.2 u.gone old u.ends u.passed));
        held = grown u.gone u.ends u.held;
      }

  -- more bytes are read behind it
  pub under_more : (at more : ℕ) (damaged piece longer : List ℕ) → at + length piece + more ≤ len → IsUnder Gives Held file len at damaged piece
      → IsAppended (λ bytes. (length bytes ≡ more) × Gives (at + length piece) bytes) piece longer → IsUnder Gives Held file len at damaged longer
  under_more at more damaged piece longer room u a =
      let same : (u.gone ++ piece) ++ a.bytes ≡ u.gone ++ longer = append_assoc u.gone piece a.bytes ∙ ap (λ (t : List ℕ). u.gone ++ t) (sym a.behind) in
      let place : at + length piece ≡ length (u.gone ++ piece) = let n = u.ends in omega (arith, n, length-append u.gone piece) in
      let old = part_of file 0 (u.gone ++ piece) in
      let within : at ≤ length (u.gone ++ piece) = omega (arith, place) in
      record {
        gone = u.gone;
        ends = u.ends;
        inside = let n = a.given.0 in omega (arith, room, n, ap length a.behind, length-append piece a.bytes);
        read = subst (AreRead Gives) same (read_more Gives (u.gone ++ piece) a.bytes u.read (subst (λ (n : ℕ). Gives n a.bytes) place a.given.1));
        passed = subst (λ (xs : List ℕ). IsPassedTo (part_of file 0 xs) at damaged) same (record {
          batches = longer_up_to old a.bytes at u.passed.batches;
          unsound = longer_unsound_to old a.bytes at damaged within u.passed.unsound;
          none = u.passed.none;
        });
        held = u.held;
      }

  -- the file can't be read on behind it
  pub unread_under : (Fails : ℕ → IoError → Type 0) (at asked : ℕ) (damaged piece : List ℕ) (e : Error) → IsUnder Gives Held file len at damaged piece → at + length piece + asked ≤ len
      → IsReadFault (Gives (at + length piece)) (Fails (at + length piece)) asked e → IsUnread Gives Fails len e
  unread_under Fails at asked damaged piece e u room fault =
      let place : at + length piece ≡ length (u.gone ++ piece) = let n = u.ends in omega (arith, n, length-append u.gone piece) in
      record {
        bytes = u.gone ++ piece;
        read = u.read;
        asked = asked;
        inside = omega (arith, room, place);
        fault = subst (λ (n : ℕ). IsReadFault (Gives n) (Fails n) asked e) place fault;
      }

  pub known : (Is : Part → Type 0) (at : ℕ) (damaged piece : List ℕ) (u : IsUnder Gives Held file len at damaged piece) → ((rest : List ℕ) → at + length piece + length rest ≡ len → Is (part_of file 0 ((u.gone ++ piece) ++ rest))) → IsKnownOf Gives file len Is
  known Is at damaged piece u is =
      let place : at + length piece ≡ length (u.gone ++ piece) = let n = u.ends in omega (arith, n, length-append u.gone piece) in
      record {
        bytes = u.gone ++ piece;
        read = u.read;
        inside = let n = u.inside in omega (arith, n, place);
        is = λ rest all. is rest (omega (arith, all, place));
      }

  -- a block in the piece is unsound
  pub damaged_under : (at : ℕ) (damaged piece : List ℕ) (e : Error) → IsUnder Gives Held file len at damaged piece → (file.id.queue ≡ Rewrite) × IsRefusedBehind file at piece damaged e → IsDamageRead Gives file len e
  damaged_under at damaged piece e u r = (
    r.0,
    known (λ part. IsUnsoundAs part e) at damaged piece u (λ rest all. longer_unsound (part_of file 0 (u.gone ++ piece)) rest e (r.1 u.gone u.ends u.passed)),
  )

  -- ---- the end

  -- what stands behind the passed bytes
  from_here : (at : ℕ) (damaged piece rest : List ℕ) (u : IsUnder Gives Held file len at damaged piece) → drop at ((u.gone ++ piece) ++ rest) ≡ piece ++ rest
  from_here at damaged piece rest u =
      ap (drop at) (append_assoc u.gone piece rest) ∙ drop_at u.gone (piece ++ rest) at (sym u.ends)

  unreadable_here : (at left : ℕ) (piece rest : List ℕ) (signature : Option ℕ) → IsDecided piece left → length rest ≡ left → HasNoFront (λ xs. IsReadable xs signature) piece → HasNoFront (λ xs. IsReadable xs signature) (piece ++ rest)
  unreadable_here at left piece [] signature decided all none = subst (HasNoFront (λ xs. IsReadable xs signature)) (sym (append-nil piece)) none
  unreadable_here at left piece (x ∷ rest) signature (inl over) all none = absurd (omega (arith, over, all))
  unreadable_here at left piece (x ∷ rest) signature (inr d) all none =
      unread_more piece (x ∷ rest) signature (subst (IsSettled piece) (sym all) (record { room = d.0; decided = d.1 })) none

  fault_here : (at left : ℕ) (piece rest : List ℕ) (signature : Option ℕ) (e : Error) → IsDecided piece left → length rest ≡ left → IsNextFault signature piece e → IsNextFault signature (piece ++ rest) e
  fault_here at left piece [] signature e decided all fault = subst (λ (xs : List ℕ). IsNextFault signature xs e) (sym (append-nil piece)) fault
  fault_here at left piece (x ∷ rest) signature e (inl over) all fault = absurd (omega (arith, over, all))
  fault_here at left piece (x ∷ rest) signature e (inr d) all fault =
      fault_more piece (x ∷ rest) signature e (subst (IsSettled piece) (sym all) (record { room = d.0; decided = d.1 })) fault

  -- no batch is in front of no byte
  none_in_front : (signature : Option ℕ) → HasNoFront (λ xs. IsReadable xs signature) []
  none_in_front signature front rest items r split =
      let h = header_of [] front rest signature items r split in
      let room = room_of [] h.0 (length front) h.1 in
      absurd (omega (arith, room))

  module _ (at left : ℕ) (damaged : Vec ℕ Global) (piece : List ℕ) (u : IsUnder Gives Held file len at damaged.items piece) (decided : IsDecided piece left) (all : at + length piece + left ≡ len) where
    within : (rest : List ℕ) → at ≤ length (u.gone ++ piece)
    within rest = let n = u.ends in omega (arith, n, length-append u.gone piece)

    abbrev prefix : Option Error → Prefix
    prefix stopped = record { len = at; stopped = stopped; damaged = damaged }

    prefix_of : (rest : List ℕ) (stopped : Option Error) → length rest ≡ left → HasNoFront (λ xs. IsReadable xs (part_signature (part_of file 0 []))) piece
        → EndsOrStops (part_of file 0 ((u.gone ++ piece) ++ rest)) at stopped → IsPrefixOf (part_of file 0 ((u.gone ++ piece) ++ rest)) (prefix stopped)
    prefix_of rest stopped long none stops =
        let old = part_of file 0 (u.gone ++ piece) in
        let up = longer_up_to old rest at u.passed.batches in
        let here : IsUnreadableAt (with_bytes old rest) at =
        subst (HasNoFront (λ xs. IsReadable xs (part_signature old))) (sym (from_here at damaged.items piece rest u)) (unreadable_here at left piece rest (part_signature old) decided long none) in
        let inside : at ≤ length ((u.gone ++ piece) ++ rest) = let n = within rest in omega (arith, n, length-append (u.gone ++ piece) rest) in
        let unsound = all_unsound (with_bytes old rest) at damaged.items inside up here (longer_unsound_to old rest at damaged.items (within rest) u.passed.unsound) in
        record {
          is = record {
            batches = up;
            stops = stops;
            sound = λ of_rewrite. blocks_sound (with_bytes old rest) (subst (AreUnsoundIn (with_bytes old rest)) (u.passed.none of_rewrite) unsound);
          };
          damaged = unsound;
        }

    -- the file ends behind the passed bytes
    ended : piece ≡ [] → (rest : List ℕ) → at + length piece + length rest ≡ len → IsPrefixOf (part_of file 0 ((u.gone ++ piece) ++ rest)) (prefix None)
    ended empty rest sum =
        let long : length rest ≡ left = omega (arith, sum, all) in
        let over : left ≡ 0 = elim decided [
          | inl none ↦ none
          | inr d ↦ absurd (let n = ap length empty in let room = d.0 in omega (arith, n, room))
        ] in
        prefix_of rest None long (subst (HasNoFront (λ xs. IsReadable xs (part_signature (part_of file 0 [])))) (sym empty) (none_in_front (part_signature (part_of file 0 []))))
        (let n = u.ends in omega (arith, n, ap length empty, over, long, length-append u.gone piece, length-append (u.gone ++ piece) rest))

    -- or no batch can be read there
    stopped_at : (e : Error) → 0 < length piece → e ≢ errors.Memory → HasNoFront (λ xs. IsReadable xs (part_signature (part_of file 0 []))) piece
        → IsNextFault (part_signature (part_of file 0 [])) piece e → (rest : List ℕ) → at + length piece + length rest ≡ len → IsPrefixOf (part_of file 0 ((u.gone ++ piece) ++ rest)) (prefix (Some e))
    stopped_at e some other none fault rest sum =
        let long : length rest ≡ left = omega (arith, sum, all) in
        let signature = part_signature (part_of file 0 []) in
        prefix_of rest (Some e) long none (record {
          before_end = let n = u.ends in omega (arith, n, some, length-append u.gone piece, length-append (u.gone ++ piece) rest);
          unreadable = subst (HasNoFront (λ xs. IsReadable xs signature)) (sym (from_here at damaged.items piece rest u)) (unreadable_here at left piece rest signature decided long none);
          not_memory = other;
          why = subst (λ (xs : List ℕ). IsNextFault signature xs e) (sym (from_here at damaged.items piece rest u)) (fault_here at left piece rest signature e decided long fault);
        })

    -- either, by what is known of the piece before its first bytes were let go
    pub stop_known : (count : ℕ) (old : List ℕ) (stopped : Option Error) → piece ≡ drop count old → MatchOption stopped (count ≡ length old) (λ e. count < length old)
        → IfSome stopped (λ e. (e ≢ errors.Memory) × HasNoFront (λ xs. IsReadable xs (signature_of file)) (drop count old)) → IfSome stopped (IsNextFault (signature_of file) (drop count old))
        → (rest : List ℕ) → at + length piece + length rest ≡ len → IsPrefixOf (part_of file 0 ((u.gone ++ piece) ++ rest)) (prefix stopped)
    stop_known count old None is whole none fault = ended (nil_from_length piece (omega (arith, whole, ap length is, length-drop count old)))
    stop_known count old (Some e) is before none fault =
        stopped_at e (omega (arith, before, ap length is, length-drop count old)) none.0 (subst (HasNoFront (λ xs. IsReadable xs (signature_of file))) (sym is) none.1)
        (subst (λ (xs : List ℕ). IsNextFault (signature_of file) xs e) (sym is) fault)

-- so many bytes are passed at most as there are
pub stop_inside : (stopped : Option Error) (count n : ℕ) → MatchOption stopped (count ≡ n) (λ e. count < n) → count ≤ n
stop_inside None count n whole = omega (arith, whole)
stop_inside (Some e) count n before = omega (arith, before)

-- ---- one turn of the loop: the slice is the piece, and what is left of it is looked at again

module _ (Gives : ℕ → List ℕ → Type 0) (Held Now : List ℕ → Type 0) (file : LogFileContext) (len at count : ℕ) (old : List ℕ) (new : Vec ℕ Global) (piece slice left : List ℕ) (stopped : Option Error) (same : slice ≡ piece) (cut : left ≡ drop count piece)
    (u : IsUnder Gives Held file len at old piece) (passed : ArePassed file at slice old new.items count) (whole : MatchOption stopped (count ≡ length slice) (λ e. count < length slice)) where
  inside : count ≤ length piece
  inside = subst (λ (xs : List ℕ). count ≤ length xs) same (stop_inside stopped count (length slice) whole)

  pub count_inside : count ≤ length piece
  count_inside = inside

  module _ (grown : (gone : List ℕ) → at ≡ length gone → Held gone → Now (gone ++ take count slice)) where
    pub under_next : IsUnder Gives Now file len (at + count) new.items left
    under_next =
        under_front Gives Held file len Now at count old new.items piece left u (subst (λ (xs : List ℕ). ArePassed file at xs old new.items count) same passed) inside cut
        (λ gone ends held. subst (λ (xs : List ℕ). Now (gone ++ take count xs)) same (grown gone ends held))

    module _ (rest : List ℕ) (n : ℕ) (is : rest ≡ left) (decided : IsDecided rest n) (all : at + count + length left + n ≡ len)
        (none : IfSome stopped (λ e. (e ≢ errors.Memory) × HasNoFront (λ xs. IsReadable xs (signature_of file)) (drop count slice))) (fault : IfSome stopped (IsNextFault (signature_of file) (drop count slice))) where
      abbrev prefix_then : Prefix
      prefix_then = record { len = at + count; stopped = stopped; damaged = new }

      prefix_next : (more : List ℕ) → at + count + length left + length more ≡ len → IsPrefixOf (part_of file 0 ((under_next.gone ++ left) ++ more)) prefix_then
      prefix_next =
          stop_known Gives Now file len (at + count) n new left under_next (subst (λ (xs : List ℕ). IsDecided xs n) is decided) all count slice stopped (cut ∙ ap (drop count) (sym same)) whole none fault

      pub known_next : IsKnownOf Gives file len (λ part. IsPrefixOf part prefix_then)
      known_next = known Gives Now file len (λ part. IsPrefixOf part prefix_then) (at + count) new.items left under_next prefix_next

      pub replayed_next : {M : Type 0} (stands_for stands_exactly : M → List Event → Type 0) (before now : M) (behind : Vec ℕ Global) → behind.items ≡ left
          → ((gone : List ℕ) → Now gone → HasReplayed (HoldsFrom (part_of file 0 gone) 0) stands_for stands_exactly before now)
          → IsPrefixReplayed Gives file len stands_for stands_exactly before now (record { prefix = prefix_then; behind = behind })
      replayed_next stands_for stands_exactly before now behind same_left so =
          let u = under_next in
          let ends = u.ends in
          let long : length behind.items ≡ length left = ap length same_left in
          record {
            front = u.gone;
            ends = ends;
            inside = let n = u.inside in omega (arith, ends, n, long);
            given = subst (λ (xs : List ℕ). AreRead Gives (u.gone ++ xs)) (sym same_left) u.read;
            is = λ more sum. subst (λ (xs : List ℕ). IsPrefixOf (part_of file 0 ((u.gone ++ xs) ++ more)) prefix_then) (sym same_left) (prefix_next more (omega (arith, sum, ends, long)));
            replayed = so u.gone u.held;
          }

-- ---- what a machine has replayed

module _ {M : Type 0} (stands_for stands_exactly : M → List Event → Type 0) (file : LogFileContext) where
  -- the batches of so many of the first bytes of a file
  abbrev pub Replayed : M → M → List ℕ → Type 0
  Replayed old new gone = HasReplayed (HoldsFrom (part_of file 0 gone) 0) stands_for stands_exactly old new

  pub nothing_replayed : (m : M) → Replayed m m []
  nothing_replayed m = none_replayed stands_for stands_exactly (HoldsFrom (part_of file 0 []) 0) m refl

  pub front_replayed : (at : ℕ) (front : List ℕ) (old mid new : M) → HasReplayed (HoldsFrom (part_of file at front) 0) stands_for stands_exactly mid new
      → (gone : List ℕ) → at ≡ length gone → Replayed old mid gone → Replayed old new (gone ++ front)
  front_replayed at front old mid new r gone ends held =
      let one = subst (λ (n : ℕ). HasReplayed (HoldsFrom (part_of file n front) 0) stands_for stands_exactly mid new) ends r in
      let first : length gone + 0 ≡ length gone = omega arith in
      replayed_more stands_for stands_exactly _ _ (HoldsFrom (part_of file 0 (gone ++ front)) 0) old mid new held one
      (held_after (part_of file 0 gone) front 0 held.history one.history held.held
      (subst (λ (n : ℕ). HoldsFrom (part_of file 0 (gone ++ front)) n one.history) first (held_behind file gone front 0 one.history one.held)))

-- ---- batches in front of a byte

stand_rises : (part : Part) (i end : ℕ) (bs : List (List Item)) → StandBetween part i end bs → i ≤ end
stand_rises part i end [] is = omega (arith, is)
stand_rises part i end (b ∷ bs) s =
    let n = batch_inside part i b s.0 s.1 in
    let more = stand_rises part s.0 end bs s.2 in
    omega (arith, n.0, more)

held_before : (part : Part) (at i : ℕ) (bs : List (List Item)) → at ≤ length part.bytes → StandBetween part i at bs → HoldsFrom (bytes_before part at) i (history_in part bs)
held_before part at i [] inside is = is ∙ sym (length-take-le at part.bytes inside)
held_before part at i (b ∷ bs) inside s =
    let same : take s.0 (take at part.bytes) ≡ take s.0 part.bytes = take-take s.0 at part.bytes (stand_rises part s.0 at bs s.2) in
    (refl, (s.0, moved_batch part (take at part.bytes) i s.0 b s.1 same, held_before part at s.0 bs inside s.2))

pub replayed_before : {M : Type 0} (stands_for stands_exactly : M → List Event → Type 0) (part : Part) (at : ℕ) (old new : M) → at ≤ length part.bytes
    → HasReplayed (IsHistoryUpTo part at) stands_for stands_exactly old new → HasReplayed (HoldsFrom (bytes_before part at) 0) stands_for stands_exactly old new
replayed_before stands_for stands_exactly part at old new inside r =
    replayed_as stands_for stands_exactly (IsHistoryUpTo part at) (HoldsFrom (bytes_before part at) 0) old new
    (λ h up. subst (HoldsFrom (bytes_before part at) 0) (sym up.2) (held_before part at 0 up.0 inside up.1)) r
