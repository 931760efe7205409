-- What is read where any bytes stand behind those that were synced.
use Rattle.raft_engine_prefixes.proofs.Common.{◌≡◌, ◌⊎◌, ℕ, ◌+◌, ◌-◌, ◌<◌, ◌≤◌, List, [], ◌∷◌, ◌++◌, length, take, inl, inr, refl, sym, ap, ◌∙◌, subst, arith, append_assoc, append-nil, length-append, cases_lt, length-take-le, take-append-le, take_all, take-take, take-append-add}
use Rattle.raft_engine_prefixes.proofs.Common.{LogQueue, Version, Part, batch_inside, Event, Act, Put, Begin, Sync, Unsynced, Delete, Cut, Found, Read, IsAnyPut, MayStand, MayStandUnordered, NumberedBytes, begun, cut_last, on_last, put_behind, synced_files, length_on_last}
use Rattle.raft_engine_prefixes.proofs.Common.{bytes_before, AreHeldInTurn, HoldsFrom, IsUnreadableAt, batch_none, batch_unique, part_unique, same_event, FilesHold, whole_file, FilesHoldTorn, HoldsTornFrom, AreFirstOf, ArePut, FilesHoldPrefix, FilesBeginWith}
use Rattle.raft_engine_prefixes.proofs.TornLemmas.{with_all, stands_as, untorn, whole_torn}
use Rattle.raft_engine_prefixes.proofs.PrefixLemmas.{all_front, begun_whole}

-- ---- files whose last one changes

pub put_none : (files : List NumberedBytes) → put_behind [] files ≡ files
put_none [] = refl
put_none (f ∷ []) = ap (λ (b : List ℕ). (f.0, b) ∷ []) (append-nil f.1)
put_none (f ∷ g ∷ files) = ap (λ (fs : List NumberedBytes). f ∷ fs) (put_none (g ∷ files))

-- a change in front of at least one file
more_last : (change : List ℕ → List ℕ) (f : NumberedBytes) (files : List NumberedBytes) → 0 < length files → on_last change (f ∷ files) ≡ f ∷ on_last change files
more_last change f [] some = absurd (omega (arith, some))
more_last change f (g ∷ files) some = refl

put_twice : (a b : List ℕ) (files : List NumberedBytes) → put_behind b (put_behind a files) ≡ put_behind (a ++ b) files
put_twice a b [] = refl
put_twice a b (f ∷ []) = ap (λ (bs : List ℕ). (f.0, bs) ∷ []) (append_assoc f.1 a b)
put_twice a b (f ∷ g ∷ files) =
    let n = length_on_last (λ (old : List ℕ). old ++ a) (g ∷ files) in
    more_last (λ (old : List ℕ). old ++ b) f (put_behind a (g ∷ files)) (omega (arith, n)) ∙ ap (λ (fs : List NumberedBytes). f ∷ fs) (put_twice a b (g ∷ files))

-- a cut of the last file cuts nothing of it, or the same as with more behind it
cut_cases : (len : ℕ) (rest : List ℕ) (files : List NumberedBytes) → (cut_last len files ≡ files) ⊎ (cut_last len files ≡ cut_last len (put_behind rest files))
cut_cases len rest [] = inl refl
cut_cases len rest (f ∷ []) =
    elim (cases_lt len (length f.1)) [
      | inl short ↦ inr (ap (λ (b : List ℕ). (f.0, b) ∷ []) (sym (take-append-le len f.1 rest (omega (arith, short)))))
      | inr long ↦ inl (ap (λ (b : List ℕ). (f.0, b) ∷ []) (take_all len f.1 long))
    ]
cut_cases len rest (f ∷ g ∷ files) =
    let n = length_on_last (λ (old : List ℕ). old ++ rest) (g ∷ files) in
    elim (cut_cases len rest (g ∷ files)) [
      | inl e ↦ inl (ap (λ (fs : List NumberedBytes). f ∷ fs) e)
      | inr e ↦ inr (ap (λ (fs : List NumberedBytes). f ∷ fs) e ∙ sym (more_last (λ (old : List ℕ). take len old) f (put_behind rest (g ∷ files)) (omega (arith, n))))
    ]

-- ---- what is synced

cut_behind : (len : ℕ) (rest : List ℕ) (files : List NumberedBytes) → IsAnyPut (cut_last len files) (cut_last len (put_behind rest files))
cut_behind len rest [] = record { rest = []; put = refl }
cut_behind len rest (f ∷ []) =
    elim (cases_lt len (length f.1)) [
      | inl short ↦ record {
        rest = [];
        put = ap (λ (b : List ℕ). (f.0, b) ∷ []) (take-append-le len f.1 rest (omega (arith, short)) ∙ sym (append-nil (take len f.1)));
      }
      | inr long ↦ let k : len ≡ length f.1 + (len - length f.1) = omega (arith, long) in record {
        rest = take (len - length f.1) rest;
        put = ap (λ (b : List ℕ). (f.0, b) ∷ []) (ap (λ (m : ℕ). take m (f.1 ++ rest)) k ∙ take-append-add f.1 rest (len - length f.1) ∙ ap (λ (b : List ℕ). b ++ take (len - length f.1) rest) (sym (take_all len f.1 long)));
      }
    ]
cut_behind len rest (f ∷ g ∷ files) =
    let r = cut_behind len rest (g ∷ files) in
    let n = length_on_last (λ (old : List ℕ). old ++ rest) (g ∷ files) in
    let m = length_on_last (λ (old : List ℕ). take len old) (g ∷ files) in
    record {
      rest = r.rest;
      put = more_last (λ (old : List ℕ). take len old) f (put_behind rest (g ∷ files)) (omega (arith, n)) ∙ ap (λ (fs : List NumberedBytes). f ∷ fs) r.put
          ∙ sym (more_last (λ (old : List ℕ). old ++ r.rest) f (cut_last len (g ∷ files)) (omega (arith, m)));
    }

nothing_behind : (files : List NumberedBytes) → IsAnyPut files files
nothing_behind files = record { rest = []; put = sym (put_none files) }

-- what was put is what is synced, with more behind it
pub synced_more : (acts : List Act) → IsAnyPut (synced_files acts) (begun acts)
synced_more [] = nothing_behind []
synced_more (Put bytes ∷ acts) =
    let k = synced_more acts in record { rest = k.rest ++ bytes; put = ap (put_behind bytes) k.put ∙ put_twice k.rest bytes (synced_files acts) }
synced_more (Begin seq ∷ acts) = nothing_behind (begun acts ++ (seq, []) ∷ [])
synced_more (Sync ∷ acts) = nothing_behind (begun acts)
synced_more (Delete ∷ acts) = synced_more acts
synced_more (Cut len ∷ acts) =
    let k = synced_more acts in
    let c = cut_behind len k.rest (synced_files acts) in
    record { rest = c.rest; put = ap (cut_last len) k.put ∙ c.put }
synced_more (Found files ∷ acts) = nothing_behind files
synced_more (Read place bytes ∷ acts) = synced_more acts
synced_more (Unsynced ∷ acts) = synced_more acts

-- a disk that leaves a prefix of what was put leaves what any disk may
pub may_stand : (acts : List Act) (files : List NumberedBytes) → MayStand acts files → MayStandUnordered acts files
may_stand [] files s = s
may_stand (Put bytes ∷ acts) files s =
    elim s [
      | inl before ↦ inl (may_stand acts files before)
      | inr f ↦ let k = synced_more acts in inr (record { rest = k.rest ++ f.front; put = f.put ∙ ap (put_behind f.front) k.put ∙ put_twice k.rest f.front (synced_files acts) })
    ]
may_stand (Begin seq ∷ acts) files s = s
may_stand (Sync ∷ acts) files s = s
may_stand (Delete ∷ acts) files s = may_stand acts files s
may_stand (Cut len ∷ acts) files s =
    elim s [
      | inl before ↦ inl (may_stand acts files before)
      | inr is ↦ let k = synced_more acts in
          let c = cut_behind len k.rest (synced_files acts) in
          inr (record { rest = c.rest; put = is ∙ ap (cut_last len) k.put ∙ c.put })
    ]
may_stand (Found found ∷ acts) files s = s
may_stand (Read place bytes ∷ acts) files s = may_stand acts files s
may_stand (Unsynced ∷ acts) files s = may_stand acts files s

-- ---- batches in front of anything

-- what is held before a byte from which on no batch can be read begins with whatever stands in front
pub held_first : (part : Part) (n at i : ℕ) (a g : List Event) → n ≤ length part.bytes → at ≤ length part.bytes → HoldsFrom (bytes_before part n) i a → HoldsFrom (bytes_before part at) i g → IsUnreadableAt part at
    → AreFirstOf a g
held_first part n at i [] g few inside p q stop = (g, refl)
held_first part n at i (d ∷ a) [] few inside p q stop =
    let m = batch_inside (bytes_before part n) i d.items p.1.0 p.1.1 in
    let ends : i ≡ at = q ∙ length-take-le at part.bytes inside in
    let b = stands_as (bytes_before part n) part.bytes i p.1.0 d.items p.1.1 (sym (take-take p.1.0 n part.bytes (let l = length-take-le n part.bytes few in omega (arith, m.1, l)))) in
    absurd (batch_none part i d.items p.1.0 (subst (IsUnreadableAt part) (sym ends) stop) b)
held_first part n at i (d ∷ a) (e ∷ g) few inside p q stop =
    let m = batch_inside (bytes_before part n) i d.items p.1.0 p.1.1 in
    let k = batch_inside (bytes_before part at) i e.items q.1.0 q.1.1 in
    let b = stands_as (bytes_before part n) part.bytes i p.1.0 d.items p.1.1 (sym (take-take p.1.0 n part.bytes (let l = length-take-le n part.bytes few in omega (arith, m.1, l)))) in
    let c = stands_as (bytes_before part at) part.bytes i q.1.0 e.items q.1.1 (sym (take-take q.1.0 at part.bytes (let l = length-take-le at part.bytes inside in omega (arith, k.1, l)))) in
    let one = batch_unique part i d.items e.items p.1.0 q.1.0 b c in
    let first = same_event d e one.0 (p.0 ∙ sym q.0) in
    let r = held_first part n at q.1.0 a g few inside (subst (λ (x : ℕ). HoldsFrom (bytes_before part n) x a) one.1 p.1.2) q.1.2 stop in
    (r.0, λ j. sym first j ∷ r.1 j)

-- nothing is read of no bytes
empty_torn : (part : Part) (h : List Event) → part.bytes ≡ [] → HoldsTornFrom part 0 h → h ≡ []
empty_torn part [] none t = refl
empty_torn part (e ∷ h) none t =
    let m = batch_inside (bytes_before part t.at) 0 e.items t.held.1.0 t.held.1.1 in
    let n = length-take-le t.at part.bytes t.inside in
    let inside = t.inside in
    let l = ap length none in
    absurd (omega (arith, m.0, m.1, n, inside, l))

module _ (queue : LogQueue) (version : Version) where
  -- files that hold batches, but for a torn tail, hold them in front
  pub torn_prefix : (files : List NumberedBytes) (h : List Event) → FilesHoldTorn queue version files h → FilesHoldPrefix queue version files h
  torn_prefix [] h t = t
  torn_prefix (f ∷ []) h t = record { at = t.at; inside = t.inside; held = t.held }
  torn_prefix (f ∷ g ∷ files) h t = record {
    first = t.first;
    rest = t.rest;
    first_held = t.first_held;
    rest_held = torn_prefix (g ∷ files) t.rest t.rest_held;
    split = t.split;
  }

  pub whole_front : (files : List NumberedBytes) (h : List Event) → FilesHold queue version files h → FilesHoldPrefix queue version files h
  whole_front files h a = torn_prefix files h (whole_torn queue version files h a)

  front_more : (f : NumberedBytes) (files : List NumberedBytes) (h : List Event) → 0 < length files → AreHeldInTurn (HoldsFrom (whole_file queue version f) 0) (FilesHoldPrefix queue version files) h
      → FilesHoldPrefix queue version (f ∷ files) h
  front_more f [] h some a = absurd (omega (arith, some))
  front_more f (g ∷ files) h some a = a

  pub more_prefix : (f : NumberedBytes) (files : List NumberedBytes) (h : List Event) → 0 < length files → FilesHoldPrefix queue version (f ∷ files) h
      → AreHeldInTurn (HoldsFrom (whole_file queue version f) 0) (FilesHoldPrefix queue version files) h
  more_prefix f [] h some a = absurd (omega (arith, some))
  more_prefix f (g ∷ files) h some a = a

  -- and so they do with anything behind
  pub front_behind : (rest : List ℕ) (files : List NumberedBytes) (h : List Event) → FilesHoldPrefix queue version files h → FilesHoldPrefix queue version (put_behind rest files) h
  front_behind rest [] h t = t
  front_behind rest (f ∷ []) h t =
      let n = length-append f.1 rest in
      let inside = t.inside in
      record {
        at = t.at;
        inside = omega (arith, n, inside);
        held = subst (λ (xs : List ℕ). HoldsFrom (with_all (whole_file queue version f) xs) 0 h) (sym (take-append-le t.at f.1 rest t.inside)) t.held;
      }
  front_behind rest (f ∷ g ∷ files) h t =
      let n = length_on_last (λ (old : List ℕ). old ++ rest) (g ∷ files) in
      front_more f (put_behind rest (g ∷ files)) h (omega (arith, n))
      (record {
        first = t.first;
        rest = t.rest;
        first_held = t.first_held;
        rest_held = front_behind rest (g ∷ files) t.rest t.rest_held;
        split = t.split;
      })

  -- whatever is read of files begins with what they hold in front
  pub reads_prefix : (files : List NumberedBytes) (a g : List Event) → FilesHoldPrefix queue version files a → FilesHoldTorn queue version files g → AreFirstOf a g
  reads_prefix [] a g p q = ([], q ∙ sym p ∙ sym (append-nil a))
  reads_prefix (f ∷ []) a g p q = held_first (whole_file queue version f) p.at q.at 0 a g p.inside q.inside p.held q.held q.torn
  reads_prefix (f ∷ f' ∷ files) a g p q =
      let first = part_unique (whole_file queue version f) 0 q.first p.first q.first_held p.first_held in
      let r = reads_prefix (f' ∷ files) p.rest q.rest p.rest_held q.rest_held in
      (r.0, q.split ∙ (λ j. first j ++ r.1 j) ∙ sym (append_assoc p.first p.rest r.0) ∙ ap (λ (l : List Event). l ++ r.0) (sym p.split))

  -- what is read where a new file was begun is read of the files before it
  pub begun_read : (files : List NumberedBytes) (seq : ℕ) (h : List Event) → FilesHoldTorn queue version (files ++ (seq, []) ∷ []) h → FilesHoldTorn queue version files h
  begun_read [] seq h t = empty_torn (whole_file queue version (seq, [])) h refl t
  begun_read (f ∷ []) seq h t =
      let none = empty_torn (whole_file queue version (seq, [])) t.rest refl t.rest_held in
      subst (λ (g : List Event). FilesHoldTorn queue version (f ∷ []) g) (sym (t.split ∙ ap (λ (g : List Event). t.first ++ g) none ∙ append-nil t.first)) (untorn (whole_file queue version f) t.first t.first_held)
  begun_read (f ∷ g ∷ files) seq h t = record {
    first = t.first;
    rest = t.rest;
    first_held = t.first_held;
    rest_held = begun_read (g ∷ files) seq t.rest t.rest_held;
    split = t.split;
  }

  -- ---- what may stand

  synced_prefix : (synced h : List Event) (files : List NumberedBytes) → (more : List Event) → h ≡ synced ++ more → FilesHoldPrefix queue version files h → FilesBeginWith queue version files synced
  synced_prefix synced h files more split held = record { all = h; held = held; more = more; split = split }

  begin_behind : (rest : List ℕ) (files : List NumberedBytes) (h : List Event) → FilesBeginWith queue version files h → FilesBeginWith queue version (put_behind rest files) h
  begin_behind rest files h b = record { all = b.all; held = front_behind rest files b.all b.held; more = b.more; split = b.split }

  begin_all : (synced h : List Event) (files : List NumberedBytes) → synced ≡ h → FilesHoldPrefix queue version files h → FilesBeginWith queue version files synced
  begin_all synced h files e held = record { all = h; held = held; more = []; split = sym e ∙ sym (append-nil synced) }

  begun_prefix : (files : List NumberedBytes) (seq : ℕ) (h : List Event) → FilesHold queue version files h → FilesHoldPrefix queue version (files ++ (seq, []) ∷ []) h
  begun_prefix files seq h a = whole_front (files ++ (seq, []) ∷ []) h (begun_whole queue version files seq h a)

  as_begin : {files new : List NumberedBytes} {h : List Event} → new ≡ files → FilesBeginWith queue version files h → FilesBeginWith queue version new h
  as_begin {files} {new} {h} e b = subst (λ (fs : List NumberedBytes). FilesBeginWith queue version fs h) (sym e) b

  -- what is synced begins with the synced batches
  pub synced_begins : (acts : List Act) (synced h : List Event) → ArePut queue version acts synced h → FilesBeginWith queue version (synced_files acts) synced
  synced_begins [] synced h p = begin_all synced h [] (p.0 ∙ sym p.1) p.1
  synced_begins (Put bytes ∷ acts) synced h p = synced_begins acts synced p.old p.before
  synced_begins (Begin seq ∷ acts) synced h p = begin_all synced h (begun acts ++ (seq, []) ∷ []) p.0 (begun_prefix (begun acts) seq h p.1)
  synced_begins (Sync ∷ acts) synced h p = begin_all synced h (begun acts) p.0 (torn_prefix (begun acts) h p.1)
  synced_begins (Delete ∷ acts) synced h p = synced_begins acts synced h p
  synced_begins (Cut len ∷ acts) synced h p =
      let k = synced_more acts in
      let all = all_front queue version (Cut len ∷ acts) synced h p in
      elim (cut_cases len k.rest (synced_files acts)) [
        | inl e ↦ as_begin e (synced_begins acts synced h p.0)
        | inr e ↦ as_begin (e ∙ ap (cut_last len) (sym k.put)) (synced_prefix synced h (cut_last len (begun acts)) all.more all.least (torn_prefix (cut_last len (begun acts)) h p.1))
      ]
  synced_begins (Found files ∷ acts) synced h p = begin_all synced h files p.0 (torn_prefix files h p.1)
  synced_begins (Read place bytes ∷ acts) synced h p = synced_begins acts synced h p
  synced_begins (Unsynced ∷ acts) synced h p = synced_begins acts synced h p

  -- whatever may stand begins with the synced batches
  pub any_begins : (acts : List Act) (synced h : List Event) (files : List NumberedBytes) → ArePut queue version acts synced h → MayStandUnordered acts files → FilesBeginWith queue version files synced
  any_begins [] synced h files p s = as_begin s (synced_begins [] synced h p)
  any_begins (Put bytes ∷ acts) synced h files p s =
      elim s [
        | inl before ↦ any_begins acts synced p.old files p.before before
        | inr b ↦ as_begin b.put (begin_behind b.rest (synced_files acts) synced (synced_begins acts synced p.old p.before))
      ]
  any_begins (Begin seq ∷ acts) synced h files p s =
      elim s [
        | inl is ↦ as_begin is (begin_all synced h (begun acts) p.0 (whole_front (begun acts) h p.1))
        | inr is ↦ as_begin is (synced_begins (Begin seq ∷ acts) synced h p)
      ]
  any_begins (Sync ∷ acts) synced h files p s = as_begin s (synced_begins (Sync ∷ acts) synced h p)
  any_begins (Delete ∷ acts) synced h files p s = any_begins acts synced h files p s
  any_begins (Cut len ∷ acts) synced h files p s =
      elim s [
        | inl before ↦ any_begins acts synced h files p.0 before
        | inr b ↦ as_begin b.put (begin_behind b.rest (cut_last len (synced_files acts)) synced (synced_begins (Cut len ∷ acts) synced h p))
      ]
  any_begins (Found found ∷ acts) synced h files p s = as_begin s (synced_begins (Found found ∷ acts) synced h p)
  any_begins (Read place bytes ∷ acts) synced h files p s = any_begins acts synced h files p s
  any_begins (Unsynced ∷ acts) synced h files p s = any_begins acts synced h files p s

  -- whatever is read of what may stand begins with the synced batches
  pub reads_synced : (acts : List Act) (synced h : List Event) (files : List NumberedBytes) (read : List Event) → ArePut queue version acts synced h → MayStandUnordered acts files → FilesHoldTorn queue version files read → AreFirstOf synced read
  reads_synced acts synced h files read p s t =
      let b = any_begins acts synced h files p s in
      let r = reads_prefix files b.all read b.held t in
      (b.more ++ r.0, r.1 ∙ ap (λ (l : List Event). l ++ r.0) b.split ∙ append_assoc synced b.more r.0)
