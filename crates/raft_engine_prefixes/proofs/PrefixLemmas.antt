-- What a disk leaves of the batches that were put.
use Rattle.raft_engine_prefixes.proofs.Common.{◌≡◌, ℕ, ◌+◌, ◌-◌, ◌<◌, ◌≤◌, List, [], ◌∷◌, ◌++◌, length, take, drop, inl, inr, refl, sym, ap, ◌∙◌, subst, arith, append_assoc, append-nil, length-append, cases_lt, length-take-le, take-append-drop, take-append-le, drop-append-le}
use Rattle.raft_engine_prefixes.proofs.Common.{drop-take, take_at, take-take, LogQueue, Version, Part, IsBatchAt, StandBetween, part_signature, batch_inside, Event, Act, Put, Begin, Sync, Unsynced, Delete, Cut, Found, Read, NumberedBytes, put_behind, begun, MayStand}
use Rattle.raft_engine_prefixes.proofs.Common.{length_on_last, bytes_before, HoldsFrom, IsUnreadableAt, each_join, each_single, FilesHold, whole_file, IsBrokenOff, FilesHoldTorn, AreBatchesPut, ArePut, ArePutFrom, ArePutWhole, IsBrokenWhereItEnds, IsPrefixWith, HoldPrefixWith}
use Rattle.raft_engine_prefixes.proofs.BatchPartLemmas.{prefix_unreadable, shorter_unreadable}
use Rattle.raft_engine_prefixes.proofs.TornLemmas.{with_all, stands_as, held_inside, one_file, whole_torn, torn_more}

-- a prefix of batches that something holds
pub record PrefixOf (Holds : List Event → Type 0) (h : List Event) : Type 0 where
  pub front : List Event
  pub lost : List Event
  pub split : h ≡ front ++ lost
  pub held : Holds front

-- from a byte of a part on these batches stand, up to a byte from which on no batch can be read
record HoldsUpTo (part : Part) (from : ℕ) (h : List Event) : Type 0 where
  pub at : ℕ
  pub inside : at ≤ length part.bytes
  pub held : HoldsFrom (bytes_before part at) from h
  pub torn : IsUnreadableAt part at

-- ---- bytes

module _ (part : Part) (n : ℕ) (few : n ≤ length part.bytes) where
  n_long : length (take n part.bytes) ≡ n
  n_long = length-take-le n part.bytes few

  -- behind a byte, the bytes up to this one are a prefix
  behind_split : (i : ℕ) → i ≤ n → drop i part.bytes ≡ drop i (take n part.bytes) ++ drop n part.bytes
  behind_split i le =
      ap (drop i) (sym (take-append-drop n part.bytes)) ∙ drop-append-le i (take n part.bytes) (drop n part.bytes) (let e = n_long in omega (arith, e, le))

  -- where no more batches are held
  none_more : (at i : ℕ) → at ≤ length part.bytes → i ≡ length (take at part.bytes) → IsUnreadableAt part at → i ≤ n → HoldsUpTo (bytes_before part n) i []
  none_more at i inside ends torn le =
      let m = length-take-le at part.bytes inside in
      let long = n_long in
      let before : at ≤ n = omega (arith, m, ends, le) in
      record {
        at = at;
        inside = omega (arith, before, long);
        held = ends ∙ m ∙ sym (length-take-le at (take n part.bytes) (omega (arith, before, long)));
        torn = prefix_unreadable (drop at (take n part.bytes)) (drop n part.bytes) (drop at part.bytes) (part_signature part) (behind_split at before) torn;
      }

  -- where a batch ends behind the bytes
  torn_batch : (i next : ℕ) (e : Event) → IsBatchAt part i e.items next → i ≤ n → n < next → HoldsUpTo (bytes_before part n) i []
  torn_batch i next e b le past =
      let long = n_long in
      let ends = b.ends in
      let k : n ≡ i + (n - i) = omega (arith, le) in
      let inside : n - i ≤ length b.bytes = omega (arith, ends, past) in
      let front : drop i (take n part.bytes) ≡ take (n - i) b.bytes = ap (λ (m : ℕ). drop i (take m part.bytes)) k ∙ drop-take i (n - i) part.bytes ∙ ap (take (n - i)) b.stands
      ∙ take-append-le (n - i) b.bytes (drop next part.bytes) inside in
      let split : b.bytes ≡ drop i (take n part.bytes) ++ drop (n - i) b.bytes = sym (take-append-drop (n - i) b.bytes) ∙ ap (λ (t : List ℕ). t ++ drop (n - i) b.bytes) (sym front) in
      let short = ap length front ∙ length-take-le (n - i) b.bytes inside in
      record {
        at = i;
        inside = omega (arith, le, long);
        held = sym (length-take-le i (take n part.bytes) (omega (arith, le, long)));
        torn = shorter_unreadable b.bytes (drop i (take n part.bytes)) (drop (n - i) b.bytes) (part_signature part) (part_signature part) b.read (b.between, b.laid_out) split
            (omega (arith, short, ends, past, le));
      }

  -- a batch in front of those that are held
  batch_more : (at i next : ℕ) (e : Event) (h : List Event) → e.file ≡ part.id → IsBatchAt (bytes_before part at) i e.items next → next ≤ at
      → HoldsUpTo (bytes_before part n) next h → HoldsUpTo (bytes_before part n) i (e ∷ h)
  batch_more at i next e h file b before t =
      let m = held_inside (bytes_before (bytes_before part n) t.at) next h t.held in
      let long = length-take-le t.at (take n part.bytes) t.inside in
      let inside = t.inside in
      let all = n_long in
      let same : take next (take t.at (take n part.bytes)) ≡ take next (take at part.bytes) = take-take next t.at (take n part.bytes) (omega (arith, m, long))
      ∙ take-take next n part.bytes (omega (arith, m, long, inside, all)) ∙ sym (take-take next at part.bytes before) in
      record {
        at = t.at;
        inside = t.inside;
        held = (file, (next, stands_as (bytes_before part at) (take t.at (take n part.bytes)) i next e.items b same, t.held));
        torn = t.torn;
      }

  -- the bytes up to this one hold a prefix of the batches
  front_held : (at i : ℕ) (h : List Event) → at ≤ length part.bytes → HoldsFrom (bytes_before part at) i h → IsUnreadableAt part at → i ≤ n
      → PrefixOf (λ f. HoldsUpTo (bytes_before part n) i f) h
  front_held at i [] inside ends torn le = record { front = []; lost = []; split = refl; held = none_more at i inside ends torn le }
  front_held at i (e ∷ h) inside held torn le =
      elim (cases_lt n held.1.0) [
        | inl past ↦ record {
          front = [];
          lost = e ∷ h;
          split = refl;
          held = torn_batch i held.1.0 e (stands_as (bytes_before part at) part.bytes i held.1.0 e.items held.1.1 (sym (take-take held.1.0 at part.bytes ends))) le past;
        }
        | inr within ↦ let r = front_held at held.1.0 h inside held.1.2 torn within in record {
          front = e ∷ r.front;
          lost = r.lost;
          split = ap (λ (t : List Event). e ∷ t) r.split;
          held = batch_more at i held.1.0 e r.front held.0 held.1.1 ends r.held;
        }
      ]
    where
      ends : held.1.0 ≤ at
      ends =
          let m = batch_inside (bytes_before part at) i e.items held.1.0 held.1.1 in
          let long = length-take-le at part.bytes inside in
          omega (arith, m.1, long)

-- where they end the part is torn, where each of its ends is
put_up_to : (part : Part) (n from : ℕ) (h : List Event) → n ≤ length part.bytes → IsBrokenWhereItEnds part from → HoldsUpTo (bytes_before part n) from h → ArePutFrom (bytes_before part n) from h
put_up_to part n from h few broken t = record {
  held = record {
    at = t.at;
    inside = t.inside;
    held = t.held;
    torn = t.torn;
  };
  broken = λ m at batches less stand torn.
      let long = length-take-le n part.bytes few in
      let low : m ≤ n = omega (arith, less, long) in
      let same : take m (take n part.bytes) ≡ take m part.bytes = take-take m n part.bytes low in
      subst (λ (xs : List ℕ). IsBrokenOff (with_all part xs) at) (sym same)
      (broken m at batches (omega (arith, low, few)) (subst (λ (xs : List ℕ). StandBetween (with_all part xs) from at batches) same stand)
      (subst (λ (xs : List ℕ). IsUnreadableAt (with_all part xs) at) same torn));
}

-- what is held of the bytes in front, and then from there on
joined : (part : Part) (xs : List ℕ) (i : ℕ) (g h : List Event) → take (length xs) part.bytes ≡ xs → HoldsFrom (with_all part xs) i g → HoldsFrom part (length xs) h → HoldsFrom part i (g ++ h)
joined part xs i [] h same ends held = subst (λ (n : ℕ). HoldsFrom part n h) (sym ends) held
joined part xs i (e ∷ g) h same first held =
    let n = batch_inside (with_all part xs) i e.items first.1.0 first.1.1 in
    let front : take first.1.0 part.bytes ≡ take first.1.0 xs = sym (take-take first.1.0 (length xs) part.bytes n.1) ∙ ap (take first.1.0) same in
    (first.0, (first.1.0, stands_as (with_all part xs) part.bytes i first.1.0 e.items first.1.1 front, joined part xs first.1.0 g h same first.1.2 held))

-- ---- files

module _ (queue : LogQueue) (version : Version) where
  -- a prefix of the bytes is a prefix of the batches
  pub put_prefix : (files : List NumberedBytes) (bytes front rest : List ℕ) (more : List Event) → bytes ≡ front ++ rest → AreBatchesPut queue version bytes files more
      → PrefixOf (λ f. AreBatchesPut queue version front files f) more
  put_prefix [] bytes front rest more split none = record { front = []; lost = more; split = refl; held = refl }
  put_prefix (file ∷ []) bytes front rest more split t =
      let part = whole_file queue version (file.0, file.1 ++ bytes) in
      let n = length (file.1 ++ front) in
      let all : file.1 ++ bytes ≡ (file.1 ++ front) ++ rest = ap (λ (b : List ℕ). file.1 ++ b) split ∙ sym (append_assoc file.1 front rest) in
      let long = ap length all ∙ length-append (file.1 ++ front) rest in
      let begins = length-append file.1 front in
      let same : take n (file.1 ++ bytes) ≡ file.1 ++ front = ap (take n) all ∙ take_at (file.1 ++ front) rest n refl in
      let r = front_held part n (omega (arith, long)) t.held.at (length file.1) more t.held.inside t.held.held t.held.torn (omega (arith, begins)) in
      record { front = r.front; lost = r.lost; split = r.split; held = subst (λ (xs : List ℕ). ArePutFrom (with_all part xs) (length file.1) r.front) same (put_up_to part n (length file.1) r.front (omega (arith, long)) t.broken r.held) }
  put_prefix (file ∷ next ∷ files) bytes front rest more split t = put_prefix (next ∷ files) bytes front rest more split t

  -- with the bytes that were put, a file holds the batches besides, up to where no batch can be read
  pub put_behind_one : (file : NumberedBytes) (bytes : List ℕ) (old more : List Event) → FilesHold queue version (file ∷ []) old
      → (p : ArePutFrom (whole_file queue version (file.0, file.1 ++ bytes)) (length file.1) more)
      → HoldsFrom (bytes_before (whole_file queue version (file.0, file.1 ++ bytes)) p.held.at) 0 (old ++ more)
  put_behind_one file bytes old more a p =
      let t = p.held in
      let part = whole_file queue version (file.0, file.1 ++ bytes) in
      let begins = held_inside (bytes_before part t.at) (length file.1) more t.held in
      let long = length-take-le t.at (file.1 ++ bytes) t.inside in
      let same : take (length file.1) (take t.at (file.1 ++ bytes)) ≡ file.1 = take-take (length file.1) t.at (file.1 ++ bytes) (omega (arith, begins, long)) ∙ take_at file.1 bytes (length file.1) refl in
      joined (bytes_before part t.at) file.1 0 old more same (one_file queue version file old a) t.held

  -- with the bytes that were put, files hold the batches besides
  pub put_held : (files : List NumberedBytes) (bytes : List ℕ) (old more : List Event) → FilesHold queue version files old → AreBatchesPut queue version bytes files more
      → FilesHoldTorn queue version (put_behind bytes files) (old ++ more)
  put_held [] bytes old more none nothing = ap (λ (h : List Event). h ++ more) none ∙ nothing
  put_held (file ∷ []) bytes old more a p = record { at = p.held.at; inside = p.held.inside; held = put_behind_one file bytes old more a p; torn = p.held.torn }
  put_held (file ∷ next ∷ files) bytes old more a t =
      let n = length_on_last (λ (b : List ℕ). b ++ bytes) (next ∷ files) in
      torn_more queue version file (put_behind bytes (next ∷ files)) (old ++ more) (omega (arith, n))
      (record {
        first = a.first;
        rest = a.rest ++ more;
        first_held = a.first_held;
        rest_held = put_held (next ∷ files) bytes a.rest more a.rest_held t;
        split = ap (λ (h : List Event). h ++ more) a.split ∙ append_assoc a.first a.rest more;
      })

  -- a new file holds nothing
  pub begun_whole : (files : List NumberedBytes) (seq : ℕ) (h : List Event) → FilesHold queue version files h → FilesHold queue version (files ++ (seq, []) ∷ []) h
  begun_whole files seq h a =
      let Whole = λ (file : NumberedBytes) (g : List Event). HoldsFrom (whole_file queue version file) 0 g in
      subst (λ (g : List Event). FilesHold queue version (files ++ (seq, []) ∷ []) g) (append-nil h) (each_join Whole files ((seq, []) ∷ []) h [] a (each_single Whole (seq, []) [] refl))

  pub begun_held : (files : List NumberedBytes) (seq : ℕ) (h : List Event) → FilesHold queue version files h → FilesHoldTorn queue version (files ++ (seq, []) ∷ []) h
  begun_held files seq h a = whole_torn queue version (files ++ (seq, []) ∷ []) h (begun_whole files seq h a)

  -- ---- asks

  pub all_held : (acts : List Act) (synced h : List Event) → ArePut queue version acts synced h → FilesHoldTorn queue version (begun acts) h
  all_held [] synced h p = p.1
  all_held (Put bytes ∷ acts) synced h p =
      subst (FilesHoldTorn queue version (put_behind bytes (begun acts))) (sym p.split) (put_held (begun acts) bytes p.old p.more p.whole p.put)
  all_held (Begin seq ∷ acts) synced h p = begun_held (begun acts) seq h p.1
  all_held (Sync ∷ acts) synced h p = p.1
  all_held (Delete ∷ acts) synced h p = all_held acts synced h p
  all_held (Cut len ∷ acts) synced h p = p.1
  all_held (Found files ∷ acts) synced h p = p.1
  all_held (Read place bytes ∷ acts) synced h p = all_held acts synced h p
  all_held (Unsynced ∷ acts) synced h p = all_held acts synced h p

  same_all : (synced h : List Event) → synced ≡ h → IsPrefixWith synced h h
  same_all synced h e = record { more = []; lost = []; least = sym e ∙ sym (append-nil synced); split = sym (append-nil h) }

  -- all batches are those that were synced, and more
  pub all_front : (acts : List Act) (synced h : List Event) → ArePut queue version acts synced h → IsPrefixWith synced h h
  all_front [] synced h p = same_all synced h (p.0 ∙ sym p.1)
  all_front (Put bytes ∷ acts) synced h p =
      let r = all_front acts synced p.old p.before in
      record {
        more = r.more ++ p.more;
        lost = [];
        least = p.split ∙ ap (λ (g : List Event). g ++ p.more) r.least ∙ append_assoc synced r.more p.more;
        split = sym (append-nil h);
      }
  all_front (Begin seq ∷ acts) synced h p = same_all synced h p.0
  all_front (Sync ∷ acts) synced h p = same_all synced h p.0
  all_front (Delete ∷ acts) synced h p = all_front acts synced h p
  all_front (Cut len ∷ acts) synced h p = all_front acts synced h p.0
  all_front (Found files ∷ acts) synced h p = same_all synced h p.0
  all_front (Read place bytes ∷ acts) synced h p = all_front acts synced h p
  all_front (Unsynced ∷ acts) synced h p = all_front acts synced h p

  -- what is a prefix of the batches before is one of all
  prefix_before : (synced old more h : List Event) (files : List NumberedBytes) → h ≡ old ++ more → HoldPrefixWith queue version synced old files → HoldPrefixWith queue version synced h files
  prefix_before synced old more h files split r = record {
    front = r.front;
    is_front = record {
      more = r.is_front.more;
      lost = r.is_front.lost ++ more;
      least = r.is_front.least;
      split = split ∙ ap (λ (g : List Event). g ++ more) r.is_front.split ∙ append_assoc r.front r.is_front.lost more;
    };
    held = r.held;
  }

  all_left : (synced h : List Event) (files : List NumberedBytes) → IsPrefixWith synced h h → FilesHoldTorn queue version files h → HoldPrefixWith queue version synced h files
  all_left synced h files f held = record { front = h; is_front = f; held = held }

  pub prefix_left : (acts : List Act) (synced h : List Event) (files : List NumberedBytes) → ArePut queue version acts synced h → MayStand acts files → HoldPrefixWith queue version synced h files
  prefix_left [] synced h files p none = all_left synced h files (all_front [] synced h p) (subst (λ (fs : List NumberedBytes). FilesHoldTorn queue version fs h) (sym none) p.1)
  prefix_left (Put bytes ∷ acts) synced h files p s =
      elim s [
        | inl before ↦ prefix_before synced p.old p.more h files p.split (prefix_left acts synced p.old files p.before before)
        | inr f ↦ let r = put_prefix (begun acts) bytes f.front f.rest p.more f.split p.put in
            let k = all_front acts synced p.old p.before in
            record {
              front = p.old ++ r.front;
              is_front = record {
                more = k.more ++ r.front;
                lost = r.lost;
                least = ap (λ (g : List Event). g ++ r.front) k.least ∙ append_assoc synced k.more r.front;
                split = p.split ∙ ap (λ (g : List Event). p.old ++ g) r.split ∙ sym (append_assoc p.old r.front r.lost);
              };
              held = subst (λ (fs : List NumberedBytes). FilesHoldTorn queue version fs (p.old ++ r.front)) (sym f.put) (put_held (begun acts) f.front p.old r.front p.whole r.held);
            }
      ]
  prefix_left (Begin seq ∷ acts) synced h files p s =
      all_left synced h files (all_front (Begin seq ∷ acts) synced h p)
      (elim s [
        | inl is ↦ subst (λ (fs : List NumberedBytes). FilesHoldTorn queue version fs h) (sym is) (whole_torn queue version (begun acts) h p.1)
        | inr is ↦ subst (λ (fs : List NumberedBytes). FilesHoldTorn queue version fs h) (sym is) (begun_held (begun acts) seq h p.1)
      ])
  prefix_left (Sync ∷ acts) synced h files p s = all_left synced h files (all_front (Sync ∷ acts) synced h p) (subst (λ (fs : List NumberedBytes). FilesHoldTorn queue version fs h) (sym s) p.1)
  prefix_left (Delete ∷ acts) synced h files p s = prefix_left acts synced h files p s
  prefix_left (Cut len ∷ acts) synced h files p s =
      elim s [
        | inl before ↦ prefix_left acts synced h files p.0 before
        | inr is ↦ all_left synced h files (all_front acts synced h p.0) (subst (λ (fs : List NumberedBytes). FilesHoldTorn queue version fs h) (sym is) p.1)
      ]
  prefix_left (Found found ∷ acts) synced h files p s =
      all_left synced h files (same_all synced h p.0) (subst (λ (fs : List NumberedBytes). FilesHoldTorn queue version fs h) (sym s) p.1)
  prefix_left (Read place bytes ∷ acts) synced h files p s = prefix_left acts synced h files p s
  prefix_left (Unsynced ∷ acts) synced h files p s = prefix_left acts synced h files p s

  pub synced_left : (acts : List Act) (synced h : List Event) (files : List NumberedBytes) → ArePutWhole queue version acts synced h → MayStand (Sync ∷ acts) files → FilesHold queue version files h
  synced_left acts synced h files p s = subst (λ (fs : List NumberedBytes). FilesHold queue version fs h) (sym s) p.whole
