-- The batches of a part whose entries are damaged, gathered one after the other.
use Rattle.raft_engine.proofs.Common.{◌≡◌, ◌⊎◌, inl, inr, ℕ, suc, ◌+◌, ◌<◌, ◌≤◌, List, [], ◌∷◌, ◌++◌, length, refl, sym, ap, ◌∙◌, subst, Contains, arith, append-nil, AllByRecursion, cases_lt, Contains-append_left, Contains-append_right, Append, Version, AreBatchesUpTo, IsBatchAt}
use Rattle.raft_engine.proofs.Common.{Part, StandBetween, Item, batch_inside, one_batch_more, each-append, NumberedBytes, whole_file, IsUnreadableAt, batch_none, AreRisingFrom, StopsAt, rising_low, stop_unreadable, AreDamagedBatches, AreDamagedTold, IsDamagedBatch, offsets}
use Rattle.raft_engine.proofs.Common.{AreDamagedBetween, AreReached, IsGathered, IsReachedAt, IsLastOf, HasSoundBlock, DamagedBatch}
use Rattle.raft_engine.proofs.BlockLemmas.{none_past, stand_on, stand_past}
use Rattle.raft_engine.proofs.FoundLemmas.{one_last}
use Rattle.raft_engine.proofs.ReadyLemmas.{no_last}

-- ---- offsets

abbrev AreBelow : ℕ → List ℕ → Type 0
AreBelow n ats = AllByRecursion (λ (at : ℕ). at < n) ats

below_more : (n m : ℕ) (ats : List ℕ) → n ≤ m → AreBelow n ats → AreBelow m ats
below_more n m [] le h = tt
below_more n m (at ∷ ats) le h = (omega (arith, le, h.0), below_more n m ats le h.1)

rising_join : (n m : ℕ) (xs ys : List ℕ) → n ≤ m → AreRisingFrom n xs → AreBelow m xs → AreRisingFrom m ys → AreRisingFrom n (xs ++ ys)
rising_join n m [] ys le r b s = rising_low n m ys le s
rising_join n m (x ∷ xs) ys le r b s = (r.0, rising_join (suc x) m xs ys (omega (arith, b.0)) r.1 b.1 s)

offsets_join : (xs ys : List DamagedBatch) → offsets (xs ++ ys) ≡ offsets xs ++ offsets ys
offsets_join [] ys = refl
offsets_join (x ∷ xs) ys = ap (λ (ats : List ℕ). x.offset ∷ ats) (offsets_join xs ys)

module _ (p : Part) where
  -- ---- stretches

  -- batches, and one more
  stand_more : (from at next : ℕ) (items : List Item) (xs : List (List Item)) → StandBetween p from at xs → IsBatchAt p at items next → StandBetween p from next (xs ++ items ∷ [])
  stand_more from at next items [] e b = (next, subst (λ (n : ℕ). IsBatchAt p n items next) (sym e) b, refl)
  stand_more from at next items (x ∷ xs) s b = (s.0, s.1, stand_more s.0 at next items xs s.2 b)

  -- reading reaches the end of a stretch that it reaches
  stand_up : (from end : ℕ) (xs : List (List Item)) → AreBatchesUpTo p from → StandBetween p from end xs → AreBatchesUpTo p end
  stand_up from end [] up e = subst (AreBatchesUpTo p) e up
  stand_up from end (x ∷ xs) up s = stand_up s.0 end xs (one_batch_more p from x s.0 up s.1) s.2

  pub ends_behind : (from end : ℕ) → AreReached p from end → from ≤ end
  ends_behind from end r = stand_on p from end r.1.0 r.1.1

  -- they end where the part does or before
  stand_within : (i end : ℕ) (bs : List (List Item)) → i ≤ length p.bytes → StandBetween p i end bs → end ≤ length p.bytes
  stand_within i end [] le e = omega (arith, e, le)
  stand_within i end (b ∷ bs) le s = let n = batch_inside p i b s.0 s.1 in stand_within s.0 end bs n.1 s.2

  pub ends_inside : (from end : ℕ) → AreReached p from end → end ≤ length p.bytes
  ends_inside from end r = let up = stand_up from end r.1.0 r.0 r.1.1 in stand_within 0 end up.0 (omega arith) up.1

  -- two stretches are one
  joined : (from m end : ℕ) (xs ys : List DamagedBatch) → from ≤ m → m ≤ end → AreDamagedBetween p from m xs → AreDamagedBetween p m end ys → AreDamagedBetween p from end (xs ++ ys)
  joined from m end xs ys le le' a b = record {
    are = each-append (IsDamagedBatch p) xs ys a.are b.are;
    others = λ at next items up batch low high.
        subst (λ (ats : List ℕ). HasSoundBlock batch ⊎ Contains ats (p.offset + at)) (sym (offsets_join xs ys))
        (elim (cases_lt at m) [
          | inl less ↦ elim (a.others at next items up batch low less) [
            | inl sound ↦ inl sound
            | inr c ↦ inr (Contains-append_left (offsets xs) (offsets ys) (p.offset + at) c)
          ]
          | inr not_less ↦ elim (b.others at next items up batch (omega (arith, not_less)) high) [
            | inl sound ↦ inl sound
            | inr c ↦ inr (Contains-append_right (offsets xs) (offsets ys) (p.offset + at) c)
          ]
        ]);
    in_order = subst (AreRisingFrom (p.offset + from)) (sym (offsets_join xs ys)) (rising_join (p.offset + from) (p.offset + m) (offsets xs) (offsets ys) (omega (arith, le)) a.in_order a.before b.in_order);
    before = subst (AreBelow (p.offset + end)) (sym (offsets_join xs ys)) (each-append (λ (at : ℕ). at < p.offset + end) (offsets xs) (offsets ys) (below_more (p.offset + m) (p.offset + end) (offsets xs) (omega (arith, le')) a.before) b.before);
  }

  pub both_joined : (from m end : ℕ) (xs ys all : List DamagedBatch) → AreReached p from m → AreReached p m end → AreDamagedBetween p from m xs → AreDamagedBetween p m end ys → all ≡ xs ++ ys → AreDamagedBetween p from end all
  both_joined from m end xs ys all r s a b is = subst (AreDamagedBetween p from end) (sym is) (joined from m end xs ys (ends_behind from m r) (ends_behind m end s) a b)

  pub none_there : (at : ℕ) → AreDamagedBetween p at at []
  none_there at = record {
    are = tt;
    others = λ k next items up b low high. absurd (omega (arith, low, high));
    in_order = tt;
    before = tt;
  }

  -- ---- one batch

  module _ (at next : ℕ) (items : List Item) (up : AreBatchesUpTo p at) (batch : IsBatchAt p at items next) where
    -- in the bytes of a batch no other one begins that reading reaches
    only_there : (k : ℕ) → AreBatchesUpTo p k → at ≤ k → k < next → k ≡ at
    only_there k up' low high = elim (cases_lt at k) [
      | inl more ↦ let past = stand_past p 0 at k next items up.0 up'.0 up.1 batch up'.1 more in absurd (omega (arith, past, high))
      | inr not_more ↦ omega (arith, low, not_more)
    ]

    sound_there : ((others : List Item) (n : ℕ) (b : IsBatchAt p at others n) → HasSoundBlock b) → AreDamagedBetween p at next []
    sound_there sound = record {
      are = tt;
      others = λ k n others up' b low high. inl (subst (λ (j : ℕ). (c : IsBatchAt p j others n) → HasSoundBlock c) (sym (only_there k up' low high)) (sound others n) b);
      in_order = tt;
      before = tt;
    }

    one_there : (d : DamagedBatch) → IsDamagedBatch p d → d.offset ≡ p.offset + at → AreDamagedBetween p at next (d ∷ [])
    one_there d is offset =
        let long = (batch_inside p at items next batch).0 in
        record {
          are = (is, tt);
          others = λ k n others up' b low high. inr (0, omega arith, offset ∙ ap (λ (j : ℕ). p.offset + j) (sym (only_there k up' low high)));
          in_order = (omega (arith, offset), tt);
          before = (omega (arith, offset, long), tt);
        }

    gathered_there : (old new : List DamagedBatch) → IsGathered p at old new → (more : List DamagedBatch) × AreDamagedBetween p at next more × (new ≡ old ++ more)
    gathered_there old new (inl g) = ([], sound_there g.0, g.1 ∙ sym (append-nil old))
    gathered_there old new (inr g) = (g.0 ∷ [], one_there g.0 g.1 g.2, g.3)

  -- ---- a walk

  -- reading reached this byte from the first one on, and batches stand from there up to the end
  pub record IsWalkedTo (from end at : ℕ) : Type 0 where
    pub behind : AreReached p from at
    pub ahead : AreReached p at end

  record IsNextOf (end at : ℕ) : Type 0 where
    pub items : List Item
    pub next : ℕ
    pub batch : IsBatchAt p at items next
    pub left : (batches : List (List Item)) × StandBetween p next end batches

  pub none_walked : (from end : ℕ) → AreReached p from end → IsWalkedTo from end from
  none_walked from end r = record { behind = (r.0, ([], refl)); ahead = r }

  module _ (from end at : ℕ) (w : IsWalkedTo from end at) where
    next_of : at < end → IsNextOf end at
    next_of less = go w.ahead.1.0 w.ahead.1.1
      where
        go : (bs : List (List Item)) → StandBetween p at end bs → IsNextOf end at
        go [] s = absurd (omega (arith, s, less))
        go (x ∷ bs) s = record { items = x; next = s.0; batch = s.1; left = (bs, s.2) }

    pub stands : at < end → (items : List Item) × (next : ℕ) × IsBatchAt p at items next
    stands less = let n = next_of less in (n.items, n.next, n.batch)

    pub is_reached : at < end → IsReachedAt p at
    is_reached less = (w.ahead.0, stands less)

    module _ (less : at < end) (after : ℕ) (ok : (items : List Item) (next : ℕ) → IsBatchAt p at items next → after ≡ next) where
      same : (next_of less).next ≡ after
      same = let n = next_of less in sym (ok n.items n.next n.batch)

      pub one_walked : IsWalkedTo from end after
      one_walked =
          let n = next_of less in
          subst (IsWalkedTo from end) same (record {
            behind = (w.behind.0, (w.behind.1.0 ++ n.items ∷ [], stand_more from at n.next n.items w.behind.1.0 w.behind.1.1 n.batch));
            ahead = (one_batch_more p at n.items n.next w.ahead.0 n.batch, n.left);
          })

      pub rises : (at < after) × (after ≤ end)
      rises =
          let n = next_of less in
          let e = same in
          let inside = (batch_inside p at n.items n.next n.batch).0 in
          let on = stand_on p n.next end n.left.0 n.left.1 in
          (omega (arith, e, inside), omega (arith, e, on))

      pub one_gathered : (old new : List DamagedBatch) → AreDamagedBetween p from at old → IsGathered p at old new → AreDamagedBetween p from after new
      one_gathered old new before g =
          let n = next_of less in
          let r = gathered_there at n.next n.items w.ahead.0 n.batch old new g in
          let on = ends_behind from at w.behind in
          let inside = (batch_inside p at n.items n.next n.batch).0 in
          subst (λ (k : ℕ). AreDamagedBetween p from k new) same (subst (AreDamagedBetween p from n.next) (sym r.2) (joined from at n.next old r.0 on (omega (arith, inside)) before r.1))

    pub all_gathered : (batches : List DamagedBatch) → end ≤ at → AreDamagedBetween p from at batches → AreDamagedBetween p from end batches
    all_gathered batches none d =
        let on = ends_behind at end w.ahead in
        subst (λ (k : ℕ). AreDamagedBetween p from k batches) (let e : at ≡ end = omega (arith, on, none) in e) d

  -- ---- a whole part

  pub stop_reached : (end : ℕ) → StopsAt p end → AreReached p 0 end
  stop_reached end s = (([], refl), s.batches)

  pub damaged_whole : (end : ℕ) (batches : List DamagedBatch) → StopsAt p end → AreDamagedBetween p 0 end batches → AreDamagedBatches p batches
  damaged_whole end batches s d = record {
    are = d.are;
    others = λ at next items up b.
        elim (cases_lt at end) [
          | inl less ↦ d.others at next items up b (omega arith) less
          | inr not_less ↦
              let none = stop_unreadable p end s.stops in
              let past = none_past p 0 end at s.batches.0 up.0 s.batches.1 none up.1 in
              let same : end ≡ at = omega (arith, not_less, past) in
              absurd (batch_none p at items next (subst (IsUnreadableAt p) same none) b)
        ];
    in_order = subst (λ (n : ℕ). AreRisingFrom n (offsets batches)) (let none : p.offset + 0 ≡ p.offset = omega arith in none) d.in_order;
  }

-- ---- the last append file

pub damaged_of_last : (version : Version) (files : List NumberedBytes) (part : Part) (batches : List DamagedBatch) → IsLastOf Append version files part → AreDamagedBatches part batches → AreDamagedTold version files batches
damaged_of_last version files part batches l d = (
  λ none. absurd (no_last l.closed l.last (sym none ∙ l.split)),
  λ closed last e. subst (λ (f : NumberedBytes). AreDamagedBatches (whole_file Append version f) batches) (one_last l.closed closed l.last last (sym l.split ∙ e))
      (subst (λ (p : Part). AreDamagedBatches p batches) l.is d),
)

pub none_damaged : (version : Version) (files : List NumberedBytes) (batches : List DamagedBatch) → files ≡ [] → batches ≡ [] → AreDamagedTold version files batches
none_damaged version files batches none is = (λ _. is, λ closed last e. absurd (no_last closed last (sym none ∙ e)))
