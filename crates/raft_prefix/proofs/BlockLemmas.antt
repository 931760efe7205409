-- The entry blocks of the batches of a part.
use Rattle.raft_prefix.proofs.Common.{◌≡◌, inl, inr, ℕ, ◌+◌, ◌-◌, ◌<◌, ◌≤◌, List, [], ◌∷◌, ◌++◌, length, take, drop, refl, sym, ap, ◌∙◌, subst, arith, append_assoc, length-append, cases_lt, append_cancel_left, drop-append-le, drop-take, drop_at, length-take-le, nil_from_length}
use Rattle.raft_prefix.proofs.Common.{◌⊎◌, zero, suc, Contains, AllByRecursion, IsStrictlyIncreasing, Bool, true, false, Result, Ok, Err, IfOk, OnErr, is_ok, slice_index, false≢true, Contains-append_left, Contains-push, each-append, AreUnsoundIn, AreUnsoundTo, IsUnsoundAt}
use Rattle.raft_prefix.proofs.Common.{take-append-drop, take-append-le, take-take, take_at, CompressionType, IsCorruption, Error, HasNoFront, Reads, AreBatchesUpTo, IsBatchAt, Part, StandBetween, IsEntryBlockOf, IsHeader, Item, entry_block, header_bytes, header_len, framed}
use Rattle.raft_prefix.proofs.Common.{header_one, part_signature, batch_inside, bytes_before, IsUnreadableAt, with_bytes, batch_none, batch_unique, AreBlocksSound, AreSoundTo, HasSoundBlock, IsUnsoundAs, damaged_entries_text}

-- ---- one batch

-- where a header is read in front of a batch, its entry block lies behind it
pub block_behind : (part : Part) (at next : ℕ) (items : List Item) (b : IsBatchAt part at items next) (behind : List ℕ) (offset len : ℕ) (compression : CompressionType)
    → Reads IsHeader (drop at part.bytes) behind (offset, compression, len) → (offset - 16 ≡ length b.between) × (behind ≡ b.between ++ (b.laid_out.behind ++ drop next part.bytes)) × (len ≡ length b.bytes)
block_behind part at next items b behind offset len compression h =
    let more = drop next part.bytes in
    let l = b.laid_out in
    let f = framed b.bytes (part_signature part) b.read b.between l in
    let one = header_one h.front f.header.front behind (drop 16 b.bytes ++ more) (offset, compression, len) (16 + length b.between, f.compression, length b.bytes) h.spells f.header.spells
    (sym h.split ∙ b.stands ∙ ap (λ (t : List ℕ). t ++ more) f.header.split ∙ append_assoc f.header.front (drop 16 b.bytes) more) in
    let same : offset ≡ 16 + length b.between = ap (λ (x : ℕ × CompressionType × ℕ). x.0) one.1 in
    let rest : behind ≡ drop 16 b.bytes ++ more =
    append_cancel_left h.front behind (drop 16 b.bytes ++ more)
    (sym h.split ∙ b.stands ∙ ap (λ (t : List ℕ). t ++ more) f.header.split ∙ append_assoc f.header.front (drop 16 b.bytes) more ∙ ap (λ (t : List ℕ). t ++ (drop 16 b.bytes ++ more)) (sym one.0)) in
    let head = header_bytes (16 + length b.between) l.compression (length b.bytes) in
    let body : drop 16 b.bytes ≡ b.between ++ l.behind = ap (drop 16) l.split ∙ drop_at head (b.between ++ l.behind) 16 (header_len (16 + length b.between) l.compression (length b.bytes)) in
    (omega (arith, same), rest ∙ ap (λ (t : List ℕ). t ++ more) body ∙ append_assoc b.between l.behind more, ap (λ (x : ℕ × CompressionType × ℕ). x.2) one.1)

-- an entry block of this length in front of bytes that begin with as many others
sealed_as : (len : ℕ) (between more entry_bytes : List ℕ) → len ≡ length between → IsEntryBlockOf len (between ++ more) entry_bytes → between ≡ entry_block entry_bytes
sealed_as len between more entry_bytes e (inl h) = nil_from_length between (omega (arith, e, h.0)) ∙ ap entry_block (sym h.1)
sealed_as len between more [] e (inr h) = absurd (omega (arith, h.2.some))
sealed_as len between more (x ∷ entry_bytes) e (inr h) = sym (take_at between more len (sym e)) ∙ h.2.split

pub block_of : (len : ℕ) (between more entry_bytes : List ℕ) → len ≡ length between → between ≡ entry_block entry_bytes → IsEntryBlockOf len (between ++ more) entry_bytes
block_of len between more [] e is = let none = ap length is in inl (omega (arith, e, none), refl)
block_of len between more (x ∷ entry_bytes) e is =
    let long = ap length is in
    let n = length-append between more in
    inr (omega (arith, e, long), omega (arith, e, n), record { some = omega arith; split = take_at between more len (sym e) ∙ is })

module _ {behind : List ℕ} {offset len : ℕ} {compression : CompressionType} (part : Part) (at next : ℕ) (items : List Item) (b : IsBatchAt part at items next)
    (bytes : List ℕ) (same : bytes ≡ drop at part.bytes) (h : Reads IsHeader bytes behind (offset, compression, len)) where
  block_here : (offset - 16 ≡ length b.between) × (behind ≡ b.between ++ (b.laid_out.behind ++ drop next part.bytes)) × (len ≡ length b.bytes)
  block_here = block_behind part at next items b behind offset len compression (subst (λ (xs : List ℕ). Reads IsHeader xs behind (offset, compression, len)) same h)

  -- an entry block that was read behind the header is the batch's
  pub block_sound : (entry_bytes : List ℕ) → IsEntryBlockOf (offset - 16) behind entry_bytes → HasSoundBlock b
  block_sound entry_bytes is =
      let r = block_here in
      (entry_bytes, sealed_as (offset - 16) b.between (b.laid_out.behind ++ drop next part.bytes) entry_bytes r.0 (subst (λ (t : List ℕ). IsEntryBlockOf (offset - 16) t entry_bytes) r.1 is))

  -- where none was read, it isn't sound
  pub block_unsound : ((entry_bytes : List ℕ) → ¬ (IsEntryBlockOf (offset - 16) behind entry_bytes)) → ¬ (HasSoundBlock b)
  block_unsound none s =
      let r = block_here in
      none s.0 (subst (λ (t : List ℕ). IsEntryBlockOf (offset - 16) t s.0) (sym r.1) (block_of (offset - 16) b.between (b.laid_out.behind ++ drop next part.bytes) s.0 r.0 s.1))

  -- the batch ends where its header says
  pub block_ends : at + len ≡ next
  block_ends = let r = block_here in ap (λ (n : ℕ). at + n) r.2 ∙ sym b.ends

-- a batch has a header in front
pub has_header : (part : Part) (at next : ℕ) (items : List Item) → IsBatchAt part at items next → ¬ (HasNoFront IsHeader (drop at part.bytes))
has_header part at next items b none =
    let f = framed b.bytes (part_signature part) b.read b.between b.laid_out in
    let more = drop next part.bytes in
    none f.header.front (drop 16 b.bytes ++ more) (16 + length b.between, f.compression, length b.bytes) f.header.spells
    (b.stands ∙ ap (λ (t : List ℕ). t ++ more) f.header.split ∙ append_assoc f.header.front (drop 16 b.bytes) more)

-- what a result has, by whether it is one
module _ {T E : Type 0} (P : T → Type 0) (Q : Type 0) where
  pub read_ok : (r : Result T E) (is : Bool) → is ≡ is_ok r → is ≡ true → IfOk r P → (x : T) × P x
  read_ok (Ok x) is e good h = (x, h)
  read_ok (Err x) is e good h = absurd (false≢true (sym e ∙ good))

  pub not_read : (r : Result T E) (is : Bool) → is ≡ is_ok r → is ≡ false → OnErr r Q → Q
  not_read (Ok x) is e bad h = absurd (false≢true (sym bad ∙ e))
  not_read (Err x) is e bad h = h

-- ---- a batch among other bytes

-- where the bytes up to a batch's end are the same, its bytes stand
pub bytes_stand : (part : Part) (xs : List ℕ) (i next : ℕ) (items : List Item) → (b : IsBatchAt part i items next) → take next xs ≡ take next part.bytes → drop i xs ≡ b.bytes ++ drop next xs
bytes_stand part xs i next items b same =
    let inside = batch_inside part i items next b in
    let long = ap length same ∙ length-take-le next part.bytes inside.1 in
    let begins : i ≤ length (take next xs) = omega (arith, long, inside.0) in
    let front : drop i (take next part.bytes) ≡ b.bytes =
    ap (λ (n : ℕ). drop i (take n part.bytes)) b.ends ∙ drop-take i (length b.bytes) part.bytes ∙ ap (take (length b.bytes)) b.stands ∙ take_at b.bytes (drop next part.bytes) (length b.bytes) refl in
    ap (drop i) (sym (take-append-drop next xs)) ∙ drop-append-le i (take next xs) (drop next xs) begins ∙ ap (λ (t : List ℕ). t ++ drop next xs) (ap (drop i) same ∙ front)

-- so the same batch stands there
abbrev pub moved_batch : (part : Part) (xs : List ℕ) (i next : ℕ) (items : List Item) → IsBatchAt part i items next → take next xs ≡ take next part.bytes → IsBatchAt (record part { bytes = xs }) i items next
moved_batch part xs i next items b same = record {
  bytes = b.bytes;
  read = b.read;
  between = b.between;
  laid_out = b.laid_out;
  stands = bytes_stand part xs i next items b same;
  ends = b.ends;
  places = b.places;
}

-- ---- the batches of a part

-- batches end where they begin or behind it
pub stand_on : (p : Part) (from end : ℕ) (bs : List (List Item)) → StandBetween p from end bs → from ≤ end
stand_on p from end [] e = omega (arith, e)
stand_on p from end (x ∷ bs) s =
    let n = (batch_inside p from x s.0 s.1).0 in
    let m = stand_on p s.0 end bs s.2 in
    omega (arith, n, m)

-- batches that go on behind a byte at which one stands go on behind that one
stand_past : (p : Part) (from m i next : ℕ) (items : List Item) (ys xs : List (List Item)) → StandBetween p from m ys → IsBatchAt p m items next → StandBetween p from i xs → m < i → next ≤ i
stand_past p from m i next items [] [] s b t less = absurd (omega (arith, s, t, less))
stand_past p from m i next items [] (x ∷ xs) s b t less =
    let same = (batch_unique p m items x next t.0 b (subst (λ (n : ℕ). IsBatchAt p n x t.0) s t.1)).1 in
    let n = stand_on p t.0 i xs t.2 in
    omega (arith, same, n)
stand_past p from m i next items (y ∷ ys) [] s b t less =
    let n = (batch_inside p from y s.0 s.1).0 in
    let k = stand_on p s.0 m ys s.2 in
    absurd (omega (arith, n, k, t, less))
stand_past p from m i next items (y ∷ ys) (x ∷ xs) s b t less =
    let same : t.0 ≡ s.0 = (batch_unique p from x y t.0 s.0 t.1 s.1).1 in
    stand_past p s.0 m i next items ys xs s.2 b (subst (λ (n : ℕ). StandBetween p n i xs) same t.2) less

-- none go on behind a byte at which no batch can be read
none_past : (p : Part) (from m i : ℕ) (ys xs : List (List Item)) → StandBetween p from m ys → IsUnreadableAt p m → StandBetween p from i xs → i ≤ m
none_past p from m i [] [] s none t = omega (arith, s, t)
none_past p from m i [] (x ∷ xs) s none t = absurd (batch_none p from x t.0 (subst (IsUnreadableAt p) (sym s) none) t.1)
none_past p from m i (y ∷ ys) [] s none t =
    let n = (batch_inside p from y s.0 s.1).0 in
    let k = stand_on p s.0 m ys s.2 in
    omega (arith, n, k, t)
none_past p from m i (y ∷ ys) (x ∷ xs) s none t =
    let same : t.0 ≡ s.0 = (batch_unique p from x y t.0 s.0 t.1 s.1).1 in
    none_past p s.0 m i ys xs s.2 none (subst (λ (n : ℕ). StandBetween p n i xs) same t.2)

-- numbers below one are below a greater one
below_more : (n m : ℕ) (xs : List ℕ) → n ≤ m → AllByRecursion (λ at. at < n) xs → AllByRecursion (λ at. at < m) xs
below_more n m [] le h = tt
below_more n m (x ∷ xs) le h = (omega (arith, le, h.0), below_more n m xs le h.1)

-- one more behind those that rise
pushed_rising : (xs : List ℕ) (m : ℕ) → IsStrictlyIncreasing xs → AllByRecursion (λ at. at < m) xs → IsStrictlyIncreasing (xs ++ m ∷ [])
pushed_rising [] m h below k less = absurd (omega (arith, less))
pushed_rising (x ∷ []) m h below zero less = below.0
pushed_rising (x ∷ []) m h below (suc k) less = absurd (omega (arith, less))
pushed_rising (x ∷ y ∷ xs) m h below zero less = h 0 (omega arith)
pushed_rising (x ∷ y ∷ xs) m h below (suc k) less =
    let next : (j : ℕ) → suc j + 1 ≡ suc (j + 1) = λ j. omega arith in
    subst (λ (n : ℕ). slice_index (x ∷ y ∷ xs ++ m ∷ []) (suc k) < slice_index (x ∷ y ∷ xs ++ m ∷ []) n) (sym (next k))
    (pushed_rising (y ∷ xs) m (λ j within. subst (λ (n : ℕ). slice_index (x ∷ y ∷ xs) (suc j) < slice_index (x ∷ y ∷ xs) n) (next j) (h (suc j) (omega (arith, within)))) below.1 k (omega (arith, less)))

module _ (p : Part) where
  pub none_unsound : AreUnsoundTo p 0 []
  none_unsound = record {
    are = tt;
    others = λ i next items up b le. let n = (batch_inside p i items next b).0 in absurd (omega (arith, n, le));
    in_order = λ k less. absurd (omega (arith, less));
    before = tt;
  }

  -- where none is unsound all are sound
  pub all_sound : (m : ℕ) → AreUnsoundTo p m [] → AreSoundTo p m
  all_sound m u i n items up b le = elim (u.others i n items up b le) [
    | inl sound ↦ sound
    | inr c ↦ absurd (let less = c.1 in omega (arith, less))
  ]

  -- ---- one batch more

  module _ (m next : ℕ) (items : List Item) (up : AreBatchesUpTo p m) (b : IsBatchAt p m items next) where
    -- whichever ends there or before ends in front of it, or is it
    which : (i n : ℕ) (others : List Item) → AreBatchesUpTo p i → IsBatchAt p i others n → n ≤ next → (n ≤ m) ⊎ (m ≡ i)
    which i n others up' c le = elim (cases_lt i m) [
      | inl less ↦ inl (stand_past p 0 i m n others up'.0 up.0 up'.1 c up.1 less)
      | inr not_less ↦ elim (cases_lt m i) [
        | inl more ↦
            let past = stand_past p 0 m i next items up.0 up'.0 up.1 b up'.1 more in
            let long = (batch_inside p i others n c).0 in
            absurd (omega (arith, past, long, le))
        | inr not_more ↦ inr (omega (arith, not_less, not_more))
      ]
    ]

    rises : m ≤ next
    rises = let n = (batch_inside p m items next b).0 in omega (arith, n)

    pub one_more_sound : (begins : List ℕ) → ((others : List Item) (n : ℕ) (c : IsBatchAt p m others n) → HasSoundBlock c) → AreUnsoundTo p m begins → AreUnsoundTo p next begins
    one_more_sound begins here u = record {
      are = u.are;
      others = λ i n others up' c le. elim (which i n others up' c le) [
        | inl before ↦ u.others i n others up' c before
        | inr same ↦ inl (subst (λ (j : ℕ). (d : IsBatchAt p j others n) → HasSoundBlock d) same (here others n) c)
      ];
      in_order = u.in_order;
      before = below_more m next begins rises u.before;
    }

    pub one_more_unsound : (begins : List ℕ) → ¬ (HasSoundBlock b) → AreUnsoundTo p m begins → AreUnsoundTo p next (begins ++ m ∷ [])
    one_more_unsound begins here u = record {
      are = each-append (IsUnsoundAt p) begins (m ∷ []) u.are ((up, (items, next, b, here)), tt);
      others = λ i n others up' c le. elim (which i n others up' c le) [
        | inl before ↦ elim (u.others i n others up' c before) [
          | inl sound ↦ inl sound
          | inr among ↦ inr (Contains-append_left begins (m ∷ []) i among)
        ]
        | inr same ↦ inr (subst (Contains (begins ++ m ∷ [])) same (Contains-push begins m))
      ];
      in_order = pushed_rising begins m u.in_order u.before;
      before = each-append (λ at. at < next) begins (m ∷ []) (below_more m next begins rises u.before) (let n = (batch_inside p m items next b).0 in omega (arith, n), tt);
    }

  -- where reading stops these are all
  pub all_unsound : (m : ℕ) (begins : List ℕ) → m ≤ length p.bytes → AreBatchesUpTo p m → IsUnreadableAt p m → AreUnsoundTo p m begins → AreUnsoundIn p begins
  all_unsound m begins inside stood none u = record {
    are = u.are;
    others = λ i n others up c le. elim (cases_lt i m) [
      | inl less ↦ u.others i n others up c (stand_past p 0 i m n others up.0 stood.0 up.1 c stood.1 less)
      | inr not_less ↦
          let past = none_past p 0 m i stood.0 up.0 stood.1 none up.1 in
          let same : m ≡ i = omega (arith, not_less, past) in
          absurd (batch_none p i others n (subst (IsUnreadableAt p) same none) c)
    ];
    in_order = u.in_order;
    before = below_more m (length p.bytes) begins inside u.before;
  }

  -- so all blocks are sound if none of these isn't
  pub blocks_sound : AreUnsoundIn p [] → AreBlocksSound p
  blocks_sound u i n items up b = all_sound (length p.bytes) u i n items up b (batch_inside p i items n b).1

  -- ---- a prefix of its bytes

  module _ (m : ℕ) (inside : m ≤ length p.bytes) where
    same_bytes : (n : ℕ) → n ≤ m → take n p.bytes ≡ take n (take m p.bytes)
    same_bytes n le = sym (take-take n m p.bytes le)

    ends_before : (i n : ℕ) (items : List Item) → IsBatchAt (bytes_before p m) i items n → n ≤ m
    ends_before i n items b =
        let a = (batch_inside (bytes_before p m) i items n b).1 in
        let k = length-take-le m p.bytes inside in
        omega (arith, a, k)

    abbrev in_whole : (i n : ℕ) (items : List Item) → IsBatchAt (bytes_before p m) i items n → IsBatchAt p i items n
    in_whole i n items b = moved_batch (bytes_before p m) p.bytes i n items b (same_bytes n (ends_before i n items b))

    stand_in_whole : (from end : ℕ) (bs : List (List Item)) → StandBetween (bytes_before p m) from end bs → StandBetween p from end bs
    stand_in_whole from end [] s = s
    stand_in_whole from end (x ∷ bs) s = (s.0, in_whole from s.0 x s.1, stand_in_whole s.0 end bs s.2)

    pub prefix_sound : AreSoundTo p m → AreBlocksSound (bytes_before p m)
    prefix_sound before i n items up b = before i n items (up.0, stand_in_whole 0 i up.0 up.1) (in_whole i n items b) (ends_before i n items b)

-- the first batch whose block isn't sound
pub first_unsound : (p : Part) (m next : ℕ) (items : List Item) → m ≤ length p.bytes → AreBatchesUpTo p m → (b : IsBatchAt p m items next) → ¬ (HasSoundBlock b) → AreSoundTo p m
    → (e : Error) → IsCorruption (damaged_entries_text p.id m) e → IsUnsoundAs p e
first_unsound p m next items inside up b none before e text = record {
  block = record {
    at = m;
    next = next;
    items = items;
    batches = up;
    batch = b;
    unsound = none;
    before = prefix_sound p m inside before;
  };
  text = text;
}

-- ---- more bytes behind

module _ (p : Part) (more : List ℕ) where
  same_front : (m : ℕ) → m ≤ length p.bytes → take m (p.bytes ++ more) ≡ take m p.bytes
  same_front m inside = take-append-le m p.bytes more inside

  abbrev in_longer : (i n : ℕ) (items : List Item) → IsBatchAt p i items n → IsBatchAt (with_bytes p more) i items n
  in_longer i n items b = moved_batch p (p.bytes ++ more) i n items b (same_front n (batch_inside p i items n b).1)

  stand_in_longer : (from end : ℕ) (bs : List (List Item)) → StandBetween p from end bs → StandBetween (with_bytes p more) from end bs
  stand_in_longer from end [] s = s
  stand_in_longer from end (x ∷ bs) s = (s.0, in_longer from s.0 x s.1, stand_in_longer s.0 end bs s.2)

  pub longer_up_to : (m : ℕ) → AreBatchesUpTo p m → AreBatchesUpTo (with_bytes p more) m
  longer_up_to m up = (up.0, stand_in_longer 0 m up.0 up.1)

  abbrev in_shorter : (i n : ℕ) (items : List Item) → n ≤ length p.bytes → IsBatchAt (with_bytes p more) i items n → IsBatchAt p i items n
  in_shorter i n items le b = moved_batch (with_bytes p more) p.bytes i n items b (sym (same_front n le))

  stand_in_shorter : (from end : ℕ) (bs : List (List Item)) → end ≤ length p.bytes → StandBetween (with_bytes p more) from end bs → StandBetween p from end bs
  stand_in_shorter from end [] le s = s
  stand_in_shorter from end (x ∷ bs) le s =
      let n = stand_on (with_bytes p more) s.0 end bs s.2 in
      (s.0, in_shorter from s.0 x (omega (arith, n, le)) s.1, stand_in_shorter s.0 end bs le s.2)

  each_longer : (begins : List ℕ) → AllByRecursion (IsUnsoundAt p) begins → AllByRecursion (IsUnsoundAt (with_bytes p more)) begins
  each_longer [] h = tt
  each_longer (at ∷ begins) h =
      let u = h.0 in
      ((longer_up_to at u.0, (u.1.0, u.1.1, in_longer at u.1.1 u.1.0 u.1.2, u.1.3)), each_longer begins h.1)

  pub longer_unsound_to : (m : ℕ) (begins : List ℕ) → m ≤ length p.bytes → AreUnsoundTo p m begins → AreUnsoundTo (with_bytes p more) m begins
  longer_unsound_to m begins inside u = record {
    are = each_longer begins u.are;
    others = λ i n items up b le.
        let within : n ≤ length p.bytes = omega (arith, le, inside) in
        let long = (batch_inside (with_bytes p more) i items n b).0 in
        u.others i n items (up.0, stand_in_shorter 0 i up.0 (omega (arith, long, within)) up.1) (in_shorter i n items within b) le;
    in_order = u.in_order;
    before = u.before;
  }

  pub longer_unsound : (e : Error) → IsUnsoundAs p e → IsUnsoundAs (with_bytes p more) e
  longer_unsound e u =
      let inside = batch_inside p u.block.at u.block.items u.block.next u.block.batch in
      record {
        block = record {
          at = u.block.at;
          next = u.block.next;
          items = u.block.items;
          batches = longer_up_to u.block.at u.block.batches;
          batch = in_longer u.block.at u.block.next u.block.items u.block.batch;
          unsound = u.block.unsound;
          before = subst (λ (xs : List ℕ). AreBlocksSound (record p { bytes = xs })) (sym (same_front u.block.at (omega (arith, inside.0, inside.1)))) u.block.before;
        };
        text = u.text;
      }
