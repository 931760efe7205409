-- The entry blocks of the batches of a part.
use Rattle.raft_engine.proofs.Common.{Result, Ok, Err, IfErr, OnOk, ◌≡◌, ◌≢◌, inl, inr, ℕ, ◌+◌, ◌-◌, ◌<◌, ◌≤◌, ◌^◌, List, [], ◌∷◌, ◌++◌, length, map, take, drop, refl, sym, ap, ◌∙◌, subst, arith, append_assoc, append-nil, length-append, cases_lt, append_cancel_left}
use Rattle.raft_engine.proofs.Common.{drop-append-le, drop-take, drop_at, length-drop, length-take-le, nil_from_length, take-append-drop, take-take, take_at, CompressionType, IsCorruption, Error, FileBlockHandle, FileId, LogQueue, Append, Rewrite, Version, HasNoFront, Reads}
use Rattle.raft_engine.proofs.Common.{AreBatchesUpTo, IsBatchAt, Part, StandBetween, IsEntryBlockOf, IsHeader, AreInBytes, Item, bare, IsBatchOf, IsLogBatch, encoded_length, entry_block, header_bytes, log_batch_bytes, AreInRange, header_len, framed, header_one, log_batch_length}
use Rattle.raft_engine.proofs.Common.{log_batch_spelled, same_length, part_signature, batch_inside, one_batch_more, written_stands, NumberedBytes, whole_file, bytes_before, IsUnreadableAt, batch_none, batch_unique, StopsAt, stop_unreadable, AreBlocksSound, HasSoundBlock}
use Rattle.raft_engine.proofs.Common.{IsFileSound, IsPartSound, IsUnsoundAs, damaged_entries_text}
use Rattle.raft_base.specs.declared.errors.Error.TheVariants as errors

-- ---- one batch

-- where a header is read in front of a batch, its entry block lies behind it
pub block_behind : (part : Part) (at next : ℕ) (items : List Item) (b : IsBatchAt part at items next) (behind : List ℕ) (offset len : ℕ) (compression : CompressionType)
    → Reads IsHeader (drop at part.bytes) behind (offset, compression, len) → (offset - 16 ≡ length b.between) × (behind ≡ b.between ++ (b.laid_out.behind ++ drop next part.bytes)) × (len ≡ length b.bytes)
block_behind part at next items b behind offset len compression h =
    let more = drop next part.bytes in
    let l = b.laid_out in
    let f = framed b.bytes (part_signature part) b.read b.between l in
    let one = header_one h.front f.header.front behind (drop 16 b.bytes ++ more) (offset, compression, len) (16 + length b.between, f.compression, length b.bytes) h.spells f.header.spells
    (sym h.split ∙ b.stands ∙ ap (λ (t : List ℕ). t ++ more) f.header.split ∙ append_assoc f.header.front (drop 16 b.bytes) more) in
    let same : offset ≡ 16 + length b.between = ap (λ (x : ℕ × CompressionType × ℕ). x.0) one.1 in
    let rest : behind ≡ drop 16 b.bytes ++ more =
    append_cancel_left h.front behind (drop 16 b.bytes ++ more)
    (sym h.split ∙ b.stands ∙ ap (λ (t : List ℕ). t ++ more) f.header.split ∙ append_assoc f.header.front (drop 16 b.bytes) more ∙ ap (λ (t : List ℕ). t ++ (drop 16 b.bytes ++ more)) (sym one.0)) in
    let head = header_bytes (16 + length b.between) l.compression (length b.bytes) in
    let body : drop 16 b.bytes ≡ b.between ++ l.behind = ap (drop 16) l.split ∙ drop_at head (b.between ++ l.behind) 16 (header_len (16 + length b.between) l.compression (length b.bytes)) in
    (omega (arith, same), rest ∙ ap (λ (t : List ℕ). t ++ more) body ∙ append_assoc b.between l.behind more, ap (λ (x : ℕ × CompressionType × ℕ). x.2) one.1)

-- an entry block of this length in front of bytes that begin with as many others
sealed_as : (len : ℕ) (between more entry_bytes : List ℕ) → len ≡ length between → IsEntryBlockOf len (between ++ more) entry_bytes → between ≡ entry_block entry_bytes
sealed_as len between more entry_bytes e (inl h) = nil_from_length between (omega (arith, e, h.0)) ∙ ap entry_block (sym h.1)
sealed_as len between more [] e (inr h) = absurd (omega (arith, h.2.some))
sealed_as len between more (x ∷ entry_bytes) e (inr h) = sym (take_at between more len (sym e)) ∙ h.2.split

pub block_of : (len : ℕ) (between more entry_bytes : List ℕ) → len ≡ length between → between ≡ entry_block entry_bytes → IsEntryBlockOf len (between ++ more) entry_bytes
block_of len between more [] e is = let none = ap length is in inl (omega (arith, e, none), refl)
block_of len between more (x ∷ entry_bytes) e is =
    let long = ap length is in
    let n = length-append between more in
    inr (omega (arith, e, long), omega (arith, e, n), record { some = omega arith; split = take_at between more len (sym e) ∙ is })

module _ {behind : List ℕ} {offset len : ℕ} {compression : CompressionType} (part : Part) (at next : ℕ) (items : List Item) (b : IsBatchAt part at items next)
    (bytes : List ℕ) (same : bytes ≡ drop at part.bytes) (h : Reads IsHeader bytes behind (offset, compression, len)) where
  block_here : (offset - 16 ≡ length b.between) × (behind ≡ b.between ++ (b.laid_out.behind ++ drop next part.bytes)) × (len ≡ length b.bytes)
  block_here = block_behind part at next items b behind offset len compression (subst (λ (xs : List ℕ). Reads IsHeader xs behind (offset, compression, len)) same h)

  -- an entry block that was read behind the header is the batch's
  pub block_sound : (entry_bytes : List ℕ) → IsEntryBlockOf (offset - 16) behind entry_bytes → HasSoundBlock b
  block_sound entry_bytes is =
      let r = block_here in
      (entry_bytes, sealed_as (offset - 16) b.between (b.laid_out.behind ++ drop next part.bytes) entry_bytes r.0 (subst (λ (t : List ℕ). IsEntryBlockOf (offset - 16) t entry_bytes) r.1 is))

  -- where none was read, it isn't sound
  pub block_unsound : ((entry_bytes : List ℕ) → ¬ (IsEntryBlockOf (offset - 16) behind entry_bytes)) → ¬ (HasSoundBlock b)
  block_unsound none s =
      let r = block_here in
      none s.0 (subst (λ (t : List ℕ). IsEntryBlockOf (offset - 16) t s.0) (sym r.1) (block_of (offset - 16) b.between (b.laid_out.behind ++ drop next part.bytes) s.0 r.0 s.1))

  -- the batch ends where its header says
  pub block_ends : at + len ≡ next
  block_ends = let r = block_here in ap (λ (n : ℕ). at + n) r.2 ∙ sym b.ends

-- a batch has a header in front
pub has_header : (part : Part) (at next : ℕ) (items : List Item) → IsBatchAt part at items next → ¬ (HasNoFront IsHeader (drop at part.bytes))
has_header part at next items b none =
    let f = framed b.bytes (part_signature part) b.read b.between b.laid_out in
    let more = drop next part.bytes in
    none f.header.front (drop 16 b.bytes ++ more) (16 + length b.between, f.compression, length b.bytes) f.header.spells
    (b.stands ∙ ap (λ (t : List ℕ). t ++ more) f.header.split ∙ append_assoc f.header.front (drop 16 b.bytes) more)

-- where a written batch stands its block is sound
pub written_sound : (part : Part) (at : ℕ) (items : List Item) (entry_bytes rest : List ℕ) → IsBatchOf items entry_bytes → AreInRange items → items ≢ [] → encoded_length items entry_bytes < 2 ^ 56
    → drop at part.bytes ≡ log_batch_bytes (part_signature part) items entry_bytes ++ rest → (others : List Item) (next : ℕ) (b : IsBatchAt part at others next) → HasSoundBlock b
written_sound part at items entry_bytes rest tiled range some short stands others next b =
    let bytes = log_batch_bytes (part_signature part) items entry_bytes in
    let l : IsLogBatch bytes (part_signature part) (map bare items) entry_bytes = log_batch_spelled (part_signature part) items entry_bytes tiled range some short in
    let block = entry_block entry_bytes in
    let f = framed bytes (part_signature part) (map bare items) block l in
    let head = header_bytes (16 + length block) l.compression (length bytes) in
    let body : drop 16 bytes ≡ block ++ l.behind = ap (drop 16) l.split ∙ drop_at head (block ++ l.behind) 16 (header_len (16 + length block) l.compression (length bytes)) in
    let r = block_behind part at next others b (drop 16 bytes ++ rest) (16 + length block) (length bytes) f.compression (record {
      front = f.header.front;
      spells = f.header.spells;
      split = stands ∙ ap (λ (t : List ℕ). t ++ rest) f.header.split ∙ append_assoc f.header.front (drop 16 bytes) rest;
    }) in
    let long : length b.between ≡ length block = let n = r.0 in omega (arith, n) in (
      entry_bytes,
      same_length b.between block (b.laid_out.behind ++ drop next part.bytes) (l.behind ++ rest) long
          (sym r.1 ∙ ap (λ (t : List ℕ). t ++ rest) body ∙ append_assoc block l.behind rest),
    )

-- ---- a batch among other bytes

-- where the bytes up to a batch's end are the same, its bytes stand
pub bytes_stand : (part : Part) (xs : List ℕ) (i next : ℕ) (items : List Item) → (b : IsBatchAt part i items next) → take next xs ≡ take next part.bytes → drop i xs ≡ b.bytes ++ drop next xs
bytes_stand part xs i next items b same =
    let inside = batch_inside part i items next b in
    let long = ap length same ∙ length-take-le next part.bytes inside.1 in
    let begins : i ≤ length (take next xs) = omega (arith, long, inside.0) in
    let front : drop i (take next part.bytes) ≡ b.bytes =
    ap (λ (n : ℕ). drop i (take n part.bytes)) b.ends ∙ drop-take i (length b.bytes) part.bytes ∙ ap (take (length b.bytes)) b.stands ∙ take_at b.bytes (drop next part.bytes) (length b.bytes) refl in
    ap (drop i) (sym (take-append-drop next xs)) ∙ drop-append-le i (take next xs) (drop next xs) begins ∙ ap (λ (t : List ℕ). t ++ drop next xs) (ap (drop i) same ∙ front)

-- so the same batch stands there
abbrev pub moved_batch : (part : Part) (xs : List ℕ) (i next : ℕ) (items : List Item) → IsBatchAt part i items next → take next xs ≡ take next part.bytes → IsBatchAt (record part { bytes = xs }) i items next
moved_batch part xs i next items b same = record {
  bytes = b.bytes;
  read = b.read;
  between = b.between;
  laid_out = b.laid_out;
  stands = bytes_stand part xs i next items b same;
  ends = b.ends;
  places = b.places;
}

-- ---- the batches of a part

-- batches end where they begin or behind it
pub stand_on : (p : Part) (from end : ℕ) (bs : List (List Item)) → StandBetween p from end bs → from ≤ end
stand_on p from end [] e = omega (arith, e)
stand_on p from end (x ∷ bs) s =
    let n = (batch_inside p from x s.0 s.1).0 in
    let m = stand_on p s.0 end bs s.2 in
    omega (arith, n, m)

-- batches that go on behind a byte at which one stands go on behind that one
pub stand_past : (p : Part) (from m i next : ℕ) (items : List Item) (ys xs : List (List Item)) → StandBetween p from m ys → IsBatchAt p m items next → StandBetween p from i xs → m < i → next ≤ i
stand_past p from m i next items [] [] s b t less = absurd (omega (arith, s, t, less))
stand_past p from m i next items [] (x ∷ xs) s b t less =
    let same = (batch_unique p m items x next t.0 b (subst (λ (n : ℕ). IsBatchAt p n x t.0) s t.1)).1 in
    let n = stand_on p t.0 i xs t.2 in
    omega (arith, same, n)
stand_past p from m i next items (y ∷ ys) [] s b t less =
    let n = (batch_inside p from y s.0 s.1).0 in
    let k = stand_on p s.0 m ys s.2 in
    absurd (omega (arith, n, k, t, less))
stand_past p from m i next items (y ∷ ys) (x ∷ xs) s b t less =
    let same : t.0 ≡ s.0 = (batch_unique p from x y t.0 s.0 t.1 s.1).1 in
    stand_past p s.0 m i next items ys xs s.2 b (subst (λ (n : ℕ). StandBetween p n i xs) same t.2) less

-- none go on behind a byte at which no batch can be read
pub none_past : (p : Part) (from m i : ℕ) (ys xs : List (List Item)) → StandBetween p from m ys → IsUnreadableAt p m → StandBetween p from i xs → i ≤ m
none_past p from m i [] [] s none t = omega (arith, s, t)
none_past p from m i [] (x ∷ xs) s none t = absurd (batch_none p from x t.0 (subst (IsUnreadableAt p) (sym s) none) t.1)
none_past p from m i (y ∷ ys) [] s none t =
    let n = (batch_inside p from y s.0 s.1).0 in
    let k = stand_on p s.0 m ys s.2 in
    omega (arith, n, k, t)
none_past p from m i (y ∷ ys) (x ∷ xs) s none t =
    let same : t.0 ≡ s.0 = (batch_unique p from x y t.0 s.0 t.1 s.1).1 in
    none_past p s.0 m i ys xs s.2 none (subst (λ (n : ℕ). StandBetween p n i xs) same t.2)

-- all batches of a part that end at this byte or before have sound blocks
abbrev pub AreSoundTo : Part → ℕ → Type 0
AreSoundTo p m = (i next : ℕ) (items : List Item) → AreBatchesUpTo p i → (b : IsBatchAt p i items next) → next ≤ m → HasSoundBlock b

module _ (p : Part) where
  pub none_sound : AreSoundTo p 0
  none_sound i next items up b le = let n = (batch_inside p i items next b).0 in absurd (omega (arith, n, le))

  -- one batch more
  pub one_more_sound : (m next : ℕ) (items : List Item) → AreBatchesUpTo p m → IsBatchAt p m items next → ((others : List Item) (n : ℕ) (c : IsBatchAt p m others n) → HasSoundBlock c)
      → AreSoundTo p m → AreSoundTo p next
  one_more_sound m next items up b here before i n others up' c le = elim (cases_lt i m) [
    | inl less ↦ before i n others up' c (stand_past p 0 i m n others up'.0 up.0 up'.1 c up.1 less)
    | inr not_less ↦ elim (cases_lt m i) [
      | inl more ↦
          let past = stand_past p 0 m i next items up.0 up'.0 up.1 b up'.1 more in
          let long = (batch_inside p i others n c).0 in
          absurd (omega (arith, past, long, le))
      | inr not_more ↦
          let same : m ≡ i = omega (arith, not_less, not_more) in
          subst (λ (j : ℕ). (d : IsBatchAt p j others n) → HasSoundBlock d) same (here others n) c
    ]
  ]

  -- where reading stops these are all
  pub all_sound : (m : ℕ) → StopsAt p m → AreSoundTo p m → AreBlocksSound p
  all_sound m stops before i n others up c = elim (cases_lt i m) [
    | inl less ↦ before i n others up c (stand_past p 0 i m n others up.0 stops.batches.0 up.1 c stops.batches.1 less)
    | inr not_less ↦
        let none = stop_unreadable p m stops.stops in
        let past = none_past p 0 m i stops.batches.0 up.0 stops.batches.1 none up.1 in
        let same : m ≡ i = omega (arith, not_less, past) in
        absurd (batch_none p i others n (subst (IsUnreadableAt p) same none) c)
  ]

  -- ---- a prefix of its bytes

  module _ (m : ℕ) (inside : m ≤ length p.bytes) where
    same_bytes : (n : ℕ) → n ≤ m → take n p.bytes ≡ take n (take m p.bytes)
    same_bytes n le = sym (take-take n m p.bytes le)

    ends_before : (i n : ℕ) (items : List Item) → IsBatchAt (bytes_before p m) i items n → n ≤ m
    ends_before i n items b =
        let a = (batch_inside (bytes_before p m) i items n b).1 in
        let k = length-take-le m p.bytes inside in
        omega (arith, a, k)

    abbrev in_whole : (i n : ℕ) (items : List Item) → IsBatchAt (bytes_before p m) i items n → IsBatchAt p i items n
    in_whole i n items b = moved_batch (bytes_before p m) p.bytes i n items b (same_bytes n (ends_before i n items b))

    abbrev in_prefix : (i n : ℕ) (items : List Item) → n ≤ m → IsBatchAt p i items n → IsBatchAt (bytes_before p m) i items n
    in_prefix i n items le b = moved_batch p (take m p.bytes) i n items b (sym (same_bytes n le))

    stand_in_whole : (from end : ℕ) (bs : List (List Item)) → StandBetween (bytes_before p m) from end bs → StandBetween p from end bs
    stand_in_whole from end [] s = s
    stand_in_whole from end (x ∷ bs) s = (s.0, in_whole from s.0 x s.1, stand_in_whole s.0 end bs s.2)

    stand_in_prefix : (from end : ℕ) (bs : List (List Item)) → end ≤ m → StandBetween p from end bs → StandBetween (bytes_before p m) from end bs
    stand_in_prefix from end [] le s = s
    stand_in_prefix from end (x ∷ bs) le s =
        let n = stand_on p s.0 end bs s.2 in
        (s.0, in_prefix from s.0 x (omega (arith, n, le)) s.1, stand_in_prefix s.0 end bs le s.2)

    pub prefix_sound : AreSoundTo p m → AreBlocksSound (bytes_before p m)
    prefix_sound before i n items up b = before i n items (up.0, stand_in_whole 0 i up.0 up.1) (in_whole i n items b) (ends_before i n items b)

    pub sound_to : AreBlocksSound (bytes_before p m) → AreSoundTo p m
    sound_to before i n items up b le =
        let k = (batch_inside p i items n b).0 in
        before i n items (up.0, stand_in_prefix 0 i up.0 (omega (arith, k, le)) up.1) (in_prefix i n items le b)

    pub part_of_sound : AreBlocksSound p → AreBlocksSound (bytes_before p m)
    part_of_sound all = prefix_sound (λ i n items up b le. all i n items up b)

-- the first batch whose block isn't sound
pub first_unsound : (p : Part) (m next : ℕ) (items : List Item) → m ≤ length p.bytes → AreBatchesUpTo p m → (b : IsBatchAt p m items next) → ¬ (HasSoundBlock b) → AreSoundTo p m
    → (e : Error) → IsCorruption (damaged_entries_text p.id m) e → IsUnsoundAs p e
first_unsound p m next items inside up b none before e text = record {
  block = record {
    at = m;
    next = next;
    items = items;
    batches = up;
    batch = b;
    unsound = none;
    before = prefix_sound p m inside before;
  };
  text = text;
}

-- behind a part whose blocks are sound, and that holds its batches up to its end, a written batch
pub put_sound : (p : Part) (m : ℕ) (handle : FileBlockHandle) (items : List Item) (entry_bytes : List ℕ) → m ≤ length p.bytes
    → IsBatchOf items entry_bytes → AreInRange items → AreInBytes items → items ≢ [] → encoded_length items entry_bytes < 2 ^ 56
    → handle.id ≡ p.id → handle.offset ≡ p.offset + m → drop m p.bytes ≡ log_batch_bytes (part_signature p) items entry_bytes
    → AreBatchesUpTo p m → AreBlocksSound (bytes_before p m) → AreBlocksSound p
put_sound p m handle items entry_bytes inside tiled range held some short id offset stands up before =
    let stands_so : drop m p.bytes ≡ log_batch_bytes (part_signature p) items entry_bytes ++ [] = stands ∙ sym (append-nil (log_batch_bytes (part_signature p) items entry_bytes)) in
    let b = written_stands p m handle items entry_bytes [] tiled range held some short id offset stands_so in
    let next = m + encoded_length items entry_bytes in
    let all : next ≡ length p.bytes =
    let n = ap length stands in
    let k = log_batch_length (part_signature p) items entry_bytes in
    let d = length-drop m p.bytes in
    omega (arith, n, k, d, inside) in
    all_sound p next (record { batches = one_batch_more p m _ next up b; stops = inl all })
    (one_more_sound p m next _ up b (written_sound p m items entry_bytes [] tiled range some short stands_so) (sound_to p m inside before))

-- ---- the batches of a part, looked at one after the other

-- those in front of this byte have sound blocks, and others stand from there on up to where reading stops
pub record IsCheckedTo (p : Part) (end at : ℕ) : Type 0 where
  pub up_to : AreBatchesUpTo p at
  pub left : (batches : List (List Item)) × StandBetween p at end batches
  pub sound : AreSoundTo p at

-- the next one
record IsNextOf (p : Part) (end at : ℕ) : Type 0 where
  pub items : List Item
  pub next : ℕ
  pub batch : IsBatchAt p at items next
  pub left : (batches : List (List Item)) × StandBetween p next end batches

pub none_checked : (p : Part) (end : ℕ) → StopsAt p end → IsCheckedTo p end 0
none_checked p end stops = record { up_to = ([], refl); left = stops.batches; sound = none_sound p }

module _ (p : Part) (end at : ℕ) (c : IsCheckedTo p end at) where
  next_of : at < end → IsNextOf p end at
  next_of less = go c.left.0 c.left.1
    where
      go : (bs : List (List Item)) → StandBetween p at end bs → IsNextOf p end at
      go [] s = absurd (omega (arith, s, less))
      go (x ∷ bs) s = record { items = x; next = s.0; batch = s.1; left = (bs, s.2) }

  pub next_stands : at < end → (items : List Item) × (next : ℕ) × IsBatchAt p at items next
  next_stands less = let n = next_of less in (n.items, n.next, n.batch)

  module _ (less : at < end) (after : ℕ) (ok : (items : List Item) (next : ℕ) (b : IsBatchAt p at items next) → HasSoundBlock b × (after ≡ next)) where
    pub one_checked : IsCheckedTo p end after
    one_checked =
        let n = next_of less in
        let same : n.next ≡ after = sym (ok n.items n.next n.batch).1 in
        subst (IsCheckedTo p end) same (record {
          up_to = one_batch_more p at n.items n.next c.up_to n.batch;
          left = n.left;
          sound = one_more_sound p at n.next n.items c.up_to n.batch (λ others k b. (ok others k b).0) c.sound;
        })

    pub rises : (at < after) × (after ≤ end)
    rises =
        let n = next_of less in
        let same : after ≡ n.next = (ok n.items n.next n.batch).1 in
        let inside = (batch_inside p at n.items n.next n.batch).0 in
        let on = stand_on p n.next end n.left.0 n.left.1 in
        (omega (arith, same, inside), omega (arith, same, on))

  pub next_unsound : at < end → ((items : List Item) (next : ℕ) (b : IsBatchAt p at items next) → ¬ (HasSoundBlock b)) → (e : Error) → IsCorruption (damaged_entries_text p.id at) e → IsUnsoundAs p e
  next_unsound less none e text =
      let n = next_of less in
      let inside = batch_inside p at n.items n.next n.batch in
      first_unsound p at n.next n.items (omega (arith, inside.0, inside.1)) c.up_to n.batch (none n.items n.next n.batch) c.sound e text

  pub all_checked : StopsAt p end → end ≤ at → AreBlocksSound p
  all_checked stops none =
      let on = stand_on p at end c.left.0 c.left.1 in
      all_sound p end stops (subst (AreSoundTo p) (let e : at ≡ end = omega (arith, on, none) in e) c.sound)

-- ---- a part that begins its file

module _ (part : Part) (id : FileId) (is : id ≡ part.id) where
  -- one of an append file isn't looked at
  pub append_sound : id.queue ≡ Append → IsPartSound part
  append_sound of_append of_rewrite = absurd (let e = sym of_append ∙ ap (λ (i : FileId). i.queue) is ∙ of_rewrite in cc)

  pub rewrite_unsound : {R : Type 0} (r : Result R Error) → id.queue ≡ Rewrite → IfErr r (λ e. e ≢ errors.Memory → IsUnsoundAs part e)
      → IfErr r (λ e. e ≢ errors.Memory → (part.id.queue ≡ Rewrite) × IsUnsoundAs part e)
  rewrite_unsound (Ok x) of_rewrite why = tt
  rewrite_unsound (Err e) of_rewrite why = λ other. (sym (ap (λ (i : FileId). i.queue) is) ∙ of_rewrite, why other)

pub rewrite_sound : {R E : Type 0} (part : Part) (r : Result R E) → OnOk r (AreBlocksSound part) → OnOk r (IsPartSound part)
rewrite_sound part (Err e) sound = tt
rewrite_sound part (Ok x) sound = λ of_rewrite. sound

-- a whole file
pub sound_file : (queue : LogQueue) (version : Version) (file : NumberedBytes) → IsPartSound (whole_file queue version file) → IsFileSound queue version file
sound_file Append version file sound = tt
sound_file Rewrite version file sound = sound refl
