-- The found files of a queue, what is missing of them, and what they are once it was asked.
use Rattle.raft_engine.proofs.Common.{◌≡◌, ◌≢◌, ◌⊎◌, ℕ, zero, suc, ◌<◌, ◌≤◌, ◌^◌, List, [], ◌∷◌, ◌++◌, Vec, length, map, take, drop, Option, Some, None, Result, Ok, Err, IfErr, OnOk, inl, inr, refl, sym, ap, ◌∙◌, subst, arith, length-take-le, Global, signature_in, Error}
use Rattle.raft_engine.proofs.Common.{LogQueue, Rewrite, Version, Part, IsNextFault, NumberedBytes, cut_last, last_of, AreWholeFiles, bytes_of_files, segment_shown, whole_file, AreConsecutive, numbers, StopsAt, stop_unreadable, IsUnreadableAt, IsTailOf, IsTailTold, IsTornAs}
use Rattle.raft_engine.proofs.Common.{AreAccepted, BeginsInOther, IsFoundFault, IsOfEngine, IsOfOther, IsOtherAs, IsRefusalText, IsRefusedAt, IsTailRefused, IsTailRefusedAs, IsFoundQueue, IsLastOf, IsMissingOf, IsReadyQueue, begun_or_first, known_with, left_by, AreOf}
use Rattle.raft_engine.proofs.Common.{IsPartSound, IsUnsoundAs, IsTailFrom, FoundQueue, Missing, Nothing, FirstFile, QueueFiles, CutTail, RecoveryMode}
use Rattle.raft_base.specs.declared.errors.Error.TheVariants as errors
use Rattle.raft_engine.specs.declared.missing.Missing.TheVariants.{Cut}
use Rattle.raft_engine.proofs.BlockLemmas.{sound_file}
use Rattle.raft_engine.proofs.FoundLemmas.{not_other, one_last, tolerated}
use Rattle.raft_engine.proofs.ReadyLemmas.{cut_ready, first_accepted, first_ready, last_accepted, no_last, untorn_ready}

-- the tail from where reading stops
pub is_tail : (part : Part) (at : ℕ) (error : Error) (tail : CutTail) → IsTailFrom part at error tail → StopsAt part at → at < length part.bytes
    → IsNextFault (signature_in part.version part.id.seq) (drop at part.bytes) error → error ≢ errors.Memory → IsTailOf part tail
is_tail part at error tail f stops before why other = record {
  torn = subst (λ (n : ℕ). StopsAt part n × (n < length part.bytes)) (sym f.offset) (stops, before);
  file = f.file;
  len = f.len;
  why = subst (λ (e : Error). IsNextFault (signature_in part.version part.id.seq) (drop tail.offset part.bytes) e) (sym f.reason)
      (subst (λ (n : ℕ). IsNextFault (signature_in part.version part.id.seq) (drop n part.bytes) error) (sym f.offset) why);
  not_memory = subst (λ (e : Error). e ≢ errors.Memory) (sym f.reason) other;
}

module _ (mode : RecoveryMode) (part : Part) (tail : CutTail) (told : IsTailOf part tail) where
  pub tail_unreadable : (n : ℕ) → tail.offset ≡ n → IsUnreadableAt part n
  tail_unreadable n is = subst (IsUnreadableAt part) is (stop_unreadable part tail.offset told.torn.0.stops)

  pub tail_tolerated : {T : Type 0} (r : Result T Error) → OnOk r (¬ (IsRefusedAt mode part tail.offset)) → OnOk r (¬ (IsTailRefused mode part))
  tail_tolerated (Ok t) not = tolerated mode part tail.offset told.torn.0 (inr not)
  tail_tolerated (Err e) not = tt

  pub tail_of_version : {T : Type 0} (r : Result T Error) → (tail.offset ≡ 0 → ¬ (BeginsInOther part ⊎ IsOfEngine part)) → OnOk r (¬ (IsOfOther part))
  tail_of_version (Ok t) none = not_other part tail.offset told.torn.0.batches none
  tail_of_version (Err e) none = tt

  pub tail_refused : {T : Type 0} (r : Result T Error) → IfErr r (λ e. e ≢ errors.Memory → IsRefusedAt mode part tail.offset × IsRefusalText mode part tail.offset e)
      → IfErr r (λ e. e ≢ errors.Memory → IsTailRefusedAs mode part e ⊎ IsOtherAs part e)
  tail_refused (Ok t) why = tt
  tail_refused (Err e) why = λ other.
      let d = why other in inl (record { tail = record { at = tail.offset; stops = told.torn.0; before_end = told.torn.1; refused = d.0 }; text = d.1 })

begun_same : (files : List NumberedBytes) → files ≢ [] → begun_or_first files ≡ files
begun_same [] some = absurd (some refl)
begun_same (f ∷ files) some = refl

begun_some : (files closed : List NumberedBytes) (last : NumberedBytes) → files ≡ closed ++ last ∷ [] → begun_or_first files ≡ files
begun_some files closed last split = begun_same files (λ none. no_last closed last (sym none ∙ split))

module _ (queue : LogQueue) (version : Version) (files : List NumberedBytes) where
  -- the last file has the tail that is told
  pub torn_as : (part : Part) (tail : Option CutTail) → IsLastOf queue version files part → IsTailTold queue version files tail → IsTornAs part tail
  torn_as part None l told = subst (λ (p : Part). StopsAt p (length p.bytes)) (sym l.is) (told l.closed l.last l.split)
  torn_as part (Some tail) l told =
      subst (λ (p : Part). IsTailOf p tail) (ap (whole_file queue version) (one_last told.closed l.closed told.last l.last (sym told.split ∙ l.split)) ∙ sym l.is) told.is

  pub tail_told : (part : Part) (tail : Option CutTail) → IsLastOf queue version files part → IsTornAs part tail → IsTailTold queue version files tail
  tail_told part None l torn =
      let stops = subst (λ (p : Part). StopsAt p (length p.bytes)) l.is torn in
      λ closed last e. subst (λ (f : NumberedBytes). StopsAt (whole_file queue version f) (length f.1)) (one_last l.closed closed l.last last (sym l.split ∙ e)) stops
  tail_told part (Some tail) l torn = record { closed = l.closed; last = l.last; split = l.split; is = subst (λ (p : Part). IsTailOf p tail) l.is torn }

  pub none_told : files ≡ [] → IsTailTold queue version files None
  none_told none closed last e = absurd (no_last closed last (sym none ∙ e))

  module _ (mode : RecoveryMode) (consecutive : AreConsecutive (numbers files)) where
    pub first_missing : files ≡ [] → IsMissingOf mode queue version files FirstFile
    first_missing none = record {
      accepted = first_accepted mode queue version files consecutive none;
      ready = first_ready mode queue version files consecutive none FirstFile ((1, []) ∷ []) refl refl;
      told = none_told none;
      first = (λ is. none, λ is. refl);
    }

    pub last_missing : (part : Part) → IsLastOf queue version files part → ¬ (IsTailRefused mode part) → ¬ (IsOfOther part) → IsPartSound part → (tail : Option CutTail) → IsTailTold queue version files tail → (missing : Missing)
        → ((tail ≡ None) × (missing ≡ Nothing)) ⊎ ((t : CutTail) × (tail ≡ Some t) × (missing ≡ Cut t)) → IsMissingOf mode queue version files missing
    last_missing part l tolerated of_version sound tail told missing how = go how
      where
        accepted : AreAccepted mode queue version files
        accepted =
            last_accepted mode queue version files consecutive l.closed l.last l.split (subst (λ (p : Part). ¬ (IsTailRefused mode p)) l.is tolerated) (subst (λ (p : Part). ¬ (IsOfOther p)) l.is of_version)
            (sound_file queue version l.last (subst IsPartSound l.is sound))

        go : ((tail ≡ None) × (missing ≡ Nothing)) ⊎ ((t : CutTail) × (tail ≡ Some t) × (missing ≡ Cut t)) → IsMissingOf mode queue version files missing
        go (inl n) =
            let none : IsTailTold queue version files None = subst (IsTailTold queue version files) n.0 told in
            subst (IsMissingOf mode queue version files) (sym n.1) (record {
              accepted = accepted;
              ready = untorn_ready mode queue version files consecutive l.closed l.last l.split accepted (none l.closed l.last l.split);
              told = none;
              first = (λ is. absurd cc, λ is. absurd (no_last l.closed l.last (sym is ∙ l.split)));
            })
        go (inr c) =
            let some : IsTailTold queue version files (Some c.0) = subst (IsTailTold queue version files) c.1 told in
            subst (IsMissingOf mode queue version files) (sym c.2) (record {
              accepted = accepted;
              ready = cut_ready mode queue version files consecutive some.closed some.last some.split accepted c.0 (Cut c.0) (cut_last c.0.offset files) some.is refl refl;
              told = some;
              first = (λ is. absurd cc, λ is. absurd (no_last l.closed l.last (sym is ∙ l.split)));
            })

  pub missing_fault : (mode : RecoveryMode) (part : Part) → IsLastOf queue version files part → (e : Error) → IsTailRefusedAs mode part e ⊎ IsOtherAs part e → IsFoundFault mode queue version files e
  missing_fault mode part l e (inl d) = inr (inl (record { closed = l.closed; last = l.last; split = l.split; tail = subst (λ (p : Part). IsTailRefusedAs mode p e) l.is d }))
  missing_fault mode part l e (inr o) = inr (inr (inl (record { closed = l.closed; last = l.last; split = l.split; other = subst (λ (p : Part). IsOtherAs p e) l.is o })))

  pub block_fault : (mode : RecoveryMode) (part : Part) → IsLastOf queue version files part → (e : Error) → (part.id.queue ≡ Rewrite) × IsUnsoundAs part e → IsFoundFault mode queue version files e
  block_fault mode part l e u =
      inr (inr (inr (record {
        of_rewrite = sym (ap (λ (p : Part). p.id.queue) l.is) ∙ u.0;
        closed = l.closed;
        last = l.last;
        split = l.split;
        unsound = subst (λ (p : Part). IsUnsoundAs p e) l.is u.1;
      })))

-- ---- the files that are left

-- they have no more bytes
fewer_cut : (n : ℕ) (files : List NumberedBytes) → bytes_of_files (cut_last n files) ≤ bytes_of_files files
fewer_cut n [] = omega arith
fewer_cut n (f ∷ []) = let l = take_short n f.1 in omega (arith, l)
  where
    take_short : (k : ℕ) (xs : List ℕ) → length (take k xs) ≤ length xs
    take_short zero xs = omega arith
    take_short (suc k) [] = omega arith
    take_short (suc k) (x ∷ xs) = let l = take_short k xs in omega (arith, l)
fewer_cut n (f ∷ g ∷ files) = let l = fewer_cut n (g ∷ files) in omega (arith, l)

pub left_few : (missing : Missing) (files : List NumberedBytes) (n : ℕ) → 0 < n → bytes_of_files files < n → bytes_of_files (left_by missing files) < n
left_few Nothing files n some few = few
left_few FirstFile files n some few = some
left_few (Cut tail) files n some few = let l = fewer_cut tail.offset files in omega (arith, l, few)

-- ---- what is known of them

pub first_known : (files : List NumberedBytes) (known : QueueFiles) → files ≡ [] → known.closed.items ≡ [] → known.seq ≡ 1 → known.len ≡ 0 → AreOf (begun_or_first files) known
first_known files known none closed seq len = subst (λ (fs : List NumberedBytes). AreOf (begun_or_first fs) known) (sym none) (record {
  closed = [];
  bytes = [];
  split = ap (λ (n : ℕ). (n, []) ∷ []) (sym seq);
  have = closed;
  ends = len;
})

known_cut : (files closed : List NumberedBytes) (last : NumberedBytes) (known : QueueFiles) (at : ℕ) → files ≡ closed ++ last ∷ [] → AreOf files known → at ≤ length last.1
    → AreOf (cut_last at files) (record known { len = at })
known_cut files closed last known at split of inside =
    let same : (known.seq, of.bytes) ≡ last = one_last of.closed closed (known.seq, of.bytes) last (sym of.split ∙ split) in
    let len : length of.bytes ≡ length last.1 = ap (λ (f : NumberedBytes). length f.1) same in
    record {
      closed = of.closed;
      bytes = take at of.bytes;
      split = ap (cut_last at) of.split ∙ last_of (λ (old : List ℕ). take at old) of.closed (known.seq, of.bytes);
      have = of.have;
      ends = sym (length-take-le at of.bytes (omega (arith, len, inside)));
    }

module _ (mode : RecoveryMode) (queue : LogQueue) (version : Version) (files : List NumberedBytes) (found : FoundQueue) (f : IsFoundQueue queue version files found) where
  left_of : (missing : Missing) → IsMissingOf mode queue version files missing → AreOf (left_by missing files) (known_with missing found.known)
  left_of Nothing m = subst (λ (fs : List NumberedBytes). AreOf fs found.known) (begun_same files (λ none. let e : Nothing ≡ FirstFile = m.first.1 none in absurd cc)) f.known
  left_of FirstFile m = subst (λ (fs : List NumberedBytes). AreOf (begun_or_first fs) found.known) (m.first.0 refl) f.known
  left_of (Cut t) m =
      let known : AreOf files found.known = subst (λ (fs : List NumberedBytes). AreOf fs found.known) (begun_some files m.told.closed m.told.last m.told.split) f.known in
      let before = m.told.is.torn.1 in
      known_cut files m.told.closed m.told.last found.known t.offset m.told.split known (omega (arith, before))

  left_room : (missing : Missing) → IsMissingOf mode queue version files missing → (known_with missing found.known).len < 2 ^ 63
  left_room Nothing m = f.room
  left_room FirstFile m = f.room
  left_room (Cut t) m =
      let known : AreOf files found.known = subst (λ (fs : List NumberedBytes). AreOf fs found.known) (begun_some files m.told.closed m.told.last m.told.split) f.known in
      let before : t.offset < length m.told.last.1 = m.told.is.torn.1 in
      let same_last : (found.known.seq, known.bytes) ≡ m.told.last = one_last known.closed m.told.closed (found.known.seq, known.bytes) m.told.last (sym known.split ∙ m.told.split) in
      let len : length known.bytes ≡ length m.told.last.1 = ap (λ (x : NumberedBytes). length x.1) same_last in
      let ends = known.ends in
      let room = f.room in
      omega (arith, len, ends, room, before)

  pub is_ready : (missing : Missing) (known : QueueFiles) → known ≡ known_with missing found.known → IsMissingOf mode queue version files missing
      → IsReadyQueue mode queue version files (record { missing = missing; known = known })
  is_ready missing known is m = record {
    missing = m;
    known = subst (AreOf (left_by missing files)) (sym is) (left_of missing m);
    room = subst (λ (k : QueueFiles). k.len < 2 ^ 63) (sym is) (left_room missing m);
  }

-- ---- segments of the files that are left

abbrev Segments : Type 0
Segments = List (Vec Part Global)

one_part : (ps : List Part) (part whole : Part) → ps ++ part ∷ [] ≡ whole ∷ [] → (ps ≡ []) × (part ≡ whole)
one_part [] part whole e = (refl, cc)
one_part (p ∷ []) part whole e = absurd cc
one_part (p ∷ q ∷ ps) part whole e = absurd cc

-- the last part of the last segment is the last file
pub last_whole : (queue : LogQueue) (version : Version) (ps : List Part) (part : Part) (segment : Vec Part Global) → segment.items ≡ ps ++ part ∷ [] → (rest : Segments) (files : List NumberedBytes)
    → AreWholeFiles queue version files (rest ++ segment ∷ []) → IsLastOf queue version files part
last_whole queue version ps part segment is [] [] all = absurd cc
last_whole queue version ps part segment is [] (f ∷ []) all = record { closed = []; last = f; split = refl; is = (one_part ps part (whole_file queue version f) (sym is ∙ cc)).1 }
last_whole queue version ps part segment is [] (f ∷ g ∷ files) all = absurd cc
last_whole queue version ps part segment is (r ∷ rest) [] all = absurd cc
last_whole queue version ps part segment is (r ∷ rest) (f ∷ files) all =
    let l = last_whole queue version ps part segment is rest files cc in
    record { closed = f ∷ l.closed; last = l.last; split = ap (λ (fs : List NumberedBytes). f ∷ fs) l.split; is = l.is }

pub last_inside : (queue : LogQueue) (version : Version) (closed : List NumberedBytes) (last : NumberedBytes) (at : ℕ) (ps : List Part) (part : Part) (segment : Vec Part Global) → segment.items ≡ ps ++ part ∷ []
    → (rest : Segments) → AreWholeFiles queue version (closed ++ last ∷ []) (rest ++ segment ∷ []) → at ≤ length last.1 → at ≤ length part.bytes
last_inside queue version closed last at ps part segment is rest all inside =
    let l = last_whole queue version ps part segment is rest (closed ++ last ∷ []) all in
    let same : length part.bytes ≡ length last.1 = ap (λ (p : Part). length p.bytes) l.is ∙ ap (λ (f : NumberedBytes). length f.1) (one_last l.closed closed l.last last (sym l.split)) in
    omega (arith, same, inside)

-- no segment, no file
pub no_files : (queue : LogQueue) (version : Version) (files : List NumberedBytes) (ss : Segments) → ss ≡ [] → AreWholeFiles queue version files ss → files ≡ []
no_files queue version [] ss none all = refl
no_files queue version (f ∷ files) [] none all = absurd cc
no_files queue version (f ∷ files) (s ∷ ss) none all = absurd cc

-- no segment is without a part
pub no_part : (queue : LogQueue) (version : Version) (segment : Vec Part Global) → segment.items ≡ [] → (rest : Segments) (files : List NumberedBytes) → AreWholeFiles queue version files (rest ++ segment ∷ []) → ⊥
no_part queue version segment none [] [] all = absurd cc
no_part queue version segment none [] (f ∷ files) all = absurd (let e : segment.items ≡ whole_file queue version f ∷ [] = cc in cc)
no_part queue version segment none (r ∷ rest) [] all = absurd cc
no_part queue version segment none (r ∷ rest) (f ∷ files) all = no_part queue version segment none rest files cc

-- the first file is added to none
pub first_whole : (queue : LogQueue) (version : Version) (old new : Segments) (segment : Vec Part Global) (first : Part) → new ≡ old ++ segment ∷ [] → segment.items ≡ first ∷ []
    → first ≡ whole_file queue version (1, []) → AreWholeFiles queue version [] old → AreWholeFiles queue version ((1, []) ∷ []) new
first_whole queue version [] new segment first is has so all = ap (map segment_shown) is ∙ ap (λ (l : List Part). l ∷ []) (has ∙ ap (λ (p : Part). p ∷ []) so)
first_whole queue version (s ∷ old) new segment first is has so all = absurd cc

pub first_added : {T : Type 0} (mode : RecoveryMode) (queue : LogQueue) (version : Version) (files : List NumberedBytes) → IsMissingOf mode queue version files FirstFile → (old new : Segments)
    → AreWholeFiles queue version files old → (r : Result T Error) → OnOk r (AreWholeFiles queue version [] old → AreWholeFiles queue version ((1, []) ∷ []) new)
    → OnOk r (AreWholeFiles queue version ((1, []) ∷ []) new)
first_added mode queue version files m old new whole (Ok t) added = added (subst (λ (fs : List NumberedBytes). AreWholeFiles queue version fs old) (m.first.0 refl) whole)
first_added mode queue version files m old new whole (Err e) added = tt

module _ (queue : LogQueue) (version : Version) (at : ℕ) (ps : List Part) (part cut : Part) (segment new : Vec Part Global)
    (is : segment.items ≡ ps ++ part ∷ []) (so : new.items ≡ ps ++ cut ∷ []) (cut_is : cut ≡ record part { bytes = take at part.bytes }) where
  pub cut_whole : (rest : Segments) (files : List NumberedBytes) → AreWholeFiles queue version files (rest ++ segment ∷ []) → AreWholeFiles queue version (cut_last at files) (rest ++ new ∷ [])
  cut_whole [] [] all = absurd cc
  cut_whole [] (f ∷ []) all =
      let one = one_part ps part (whole_file queue version f) (sym is ∙ cc) in
      let there : new.items ≡ whole_file queue version (f.0, take at f.1) ∷ [] =
      so ∙ ap (λ (l : List Part). l ++ cut ∷ []) one.0 ∙ ap (λ (p : Part). p ∷ []) (cut_is ∙ ap (λ (p : Part). record p { bytes = take at p.bytes }) one.1) in
      ap (λ (l : List Part). l ∷ []) there
  cut_whole [] (f ∷ g ∷ files) all = absurd cc
  cut_whole (r ∷ rest) [] all = absurd cc
  cut_whole (r ∷ []) (f ∷ []) all = absurd cc
  cut_whole (r ∷ s ∷ rest) (f ∷ []) all = absurd cc
  cut_whole (r ∷ rest) (f ∷ g ∷ files) all =
      let first : r.items ≡ whole_file queue version f ∷ [] = cc in
      let more = cut_whole rest (g ∷ files) cc in
      (λ i. first i ∷ more i)
