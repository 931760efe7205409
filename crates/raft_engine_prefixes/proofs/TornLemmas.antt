-- Files that may end in a torn tail.
use Rattle.raft_engine_prefixes.proofs.Common.{◌≡◌, ◌⊎◌, ℕ, ◌<◌, ◌≤◌, List, [], ◌∷◌, ◌++◌, length, map, take, drop, None, Some, inl, inr, refl, sym, ap, ◌∙◌, subst, arith, append-nil, length-take-le, take-append-drop, drop-append-le, drop-take, take_at, take-take, take_all}
use Rattle.raft_engine_prefixes.proofs.Common.{Error, LogQueue, Version, Part, IsBatchAt, StandBetween, Item, batch_inside, Event, NumberedBytes, cut_last, bytes_before, AreHeldInTurn, HoldsFrom, IsUnreadableAt, each_single, batch_none, batch_unique, part_unique, FilesHold}
use Rattle.raft_engine_prefixes.proofs.Common.{whole_file, HoldsTornFrom, FilesHoldTorn, ReadableFrontStops, StopsAt}
use Rattle.raft_engine_prefixes.proofs.BatchPartLemmas.{end_unreadable}

-- a part with these bytes
abbrev pub with_all : Part → List ℕ → Part
with_all part xs = record part { bytes = xs }

-- where a batch stands hangs on the bytes up to its end
pub stands_as : (part : Part) (xs : List ℕ) (i next : ℕ) (items : List Item) → IsBatchAt part i items next → take next xs ≡ take next part.bytes → IsBatchAt (with_all part xs) i items next
stands_as part xs i next items b same = record {
  bytes = b.bytes;
  read = b.read;
  between = b.between;
  laid_out = b.laid_out;
  stands = stands;
  ends = b.ends;
  places = b.places;
}
  where
    front : drop i (take next part.bytes) ≡ b.bytes
    front =
        ap (λ (n : ℕ). drop i (take n part.bytes)) b.ends
        ∙ drop-take i (length b.bytes) part.bytes
        ∙ ap (take (length b.bytes)) b.stands
        ∙ take_at b.bytes (drop next part.bytes) (length b.bytes) refl

    begins : i ≤ length (take next xs)
    begins =
        let inside = batch_inside part i items next b in
        let n = ap length same ∙ length-take-le next part.bytes inside.1 in
        omega (arith, n, inside.0)

    stands : drop i xs ≡ b.bytes ++ drop next xs
    stands =
        ap (drop i) (sym (take-append-drop next xs))
        ∙ drop-append-le i (take next xs) (drop next xs) begins
        ∙ ap (λ (t : List ℕ). t ++ drop next xs) (ap (drop i) same ∙ front)

pub held_inside : (part : Part) (i : ℕ) (h : List Event) → HoldsFrom part i h → i ≤ length part.bytes
held_inside part i [] ends = omega (arith, ends)
held_inside part i (e ∷ h) held = let n = batch_inside part i e.items held.1.0 held.1.1 in omega (arith, n.0, n.1)

-- the items of batches
abbrev pub items_of : List Event → List (List Item)
items_of h = map (λ (e : Event). e.items) h

-- what is held before a byte stands in the part
pub stand_up_to : (part : Part) (at i : ℕ) (h : List Event) → at ≤ length part.bytes → HoldsFrom (bytes_before part at) i h → StandBetween part i at (items_of h)
stand_up_to part at i [] inside ends = ends ∙ length-take-le at part.bytes inside
stand_up_to part at i (e ∷ h) inside held =
    let n = batch_inside (bytes_before part at) i e.items held.1.0 held.1.1 in
    let m = length-take-le at part.bytes inside in
    let same : take held.1.0 part.bytes ≡ take held.1.0 (take at part.bytes) = sym (take-take held.1.0 at part.bytes (omega (arith, n.1, m))) in
    (held.1.0, stands_as (bytes_before part at) part.bytes i held.1.0 e.items held.1.1 same, stand_up_to part at held.1.0 h inside held.1.2)

-- batches end at one byte from which on none can be read
pub one_stop : (part : Part) (i at at' : ℕ) (bs bs' : List (List Item)) → StandBetween part i at bs → StandBetween part i at' bs' → IsUnreadableAt part at → IsUnreadableAt part at' → at ≡ at'
one_stop part i at at' [] [] p q stop stop' = sym p ∙ q
one_stop part i at at' [] (b ∷ bs') p q stop stop' = absurd (batch_none part i b q.0 (subst (IsUnreadableAt part) (sym p) stop) q.1)
one_stop part i at at' (b ∷ bs) [] p q stop stop' = absurd (batch_none part i b p.0 (subst (IsUnreadableAt part) (sym q) stop') p.1)
one_stop part i at at' (b ∷ bs) (b' ∷ bs') p q stop stop' =
    let next : p.0 ≡ q.0 = (batch_unique part i b b' p.0 q.0 p.1 q.1).1 in
    one_stop part q.0 at at' bs bs' (subst (λ (n : ℕ). StandBetween part n at bs) next p.2) q.2 stop stop'

pub stop_unreadable : (part : Part) (at : ℕ) → (at ≡ length part.bytes) ⊎ IsUnreadableAt part at → IsUnreadableAt part at
stop_unreadable part at s = elim s [ inl e ↦ end_unreadable part at e | inr none ↦ none ]

pub readable_front_stops : ReadableFrontStops
readable_front_stops part at None batches whole refused other = record { batches = batches; stops = inl whole }
readable_front_stops part at (Some e) batches whole refused other = record { batches = batches; stops = inr (refused (λ m. other (ap (λ (x : Error). Some x) m))) }

-- where a reader stops, the whole batches end
pub stop_found : (part : Part) (at : ℕ) (h : List Event) → HoldsTornFrom part 0 h → StopsAt part at → HoldsFrom (bytes_before part at) 0 h
stop_found part at h t s =
    let same = one_stop part 0 t.at at (items_of h) s.batches.0 (stand_up_to part t.at 0 h t.inside t.held) s.batches.1 t.torn (stop_unreadable part at s.stops) in
    subst (λ (n : ℕ). HoldsFrom (bytes_before part n) 0 h) same t.held

pub torn_unique : (part : Part) (g h : List Event) → HoldsTornFrom part 0 g → HoldsTornFrom part 0 h → g ≡ h
torn_unique part g h t u =
    let same = one_stop part 0 t.at u.at (items_of g) (items_of h) (stand_up_to part t.at 0 g t.inside t.held) (stand_up_to part u.at 0 h u.inside u.held) t.torn u.torn in
    part_unique (bytes_before part u.at) 0 g h (subst (λ (n : ℕ). HoldsFrom (bytes_before part n) 0 g) same t.held) u.held

-- batches end where the part does or before
stand_inside : (part : Part) (i end : ℕ) (bs : List (List Item)) → i ≤ length part.bytes → StandBetween part i end bs → end ≤ length part.bytes
stand_inside part i end [] le e = omega (arith, e, le)
stand_inside part i end (b ∷ bs) le s = let n = batch_inside part i b s.0 s.1 in stand_inside part s.0 end bs n.1 s.2

-- a part that ends with its batches has no torn tail
pub untorn : (part : Part) (h : List Event) → HoldsFrom part 0 h → HoldsTornFrom part 0 h
untorn part h held = record {
  at = length part.bytes;
  inside = omega arith;
  held = subst (λ (xs : List ℕ). HoldsFrom (with_all part xs) 0 h) (sym (take_all (length part.bytes) part.bytes (omega arith))) held;
  torn = end_unreadable part (length part.bytes) refl;
}

-- ---- files

module _ (queue : LogQueue) (version : Version) where
  abbrev pub Whole : NumberedBytes → List Event → Type 0
  Whole file h = HoldsFrom (whole_file queue version file) 0 h

  pub one_file : (file : NumberedBytes) (h : List Event) → FilesHold queue version (file ∷ []) h → Whole file h
  one_file file h a = subst (Whole file) (sym (a.split ∙ ap (λ (g : List Event). a.first ++ g) a.rest_held ∙ append-nil a.first)) a.first_held

  pub whole_torn : (files : List NumberedBytes) (h : List Event) → FilesHold queue version files h → FilesHoldTorn queue version files h
  whole_torn [] h a = a
  whole_torn (file ∷ []) h a = untorn (whole_file queue version file) h (one_file file h a)
  whole_torn (file ∷ next ∷ files) h a = record {
    first = a.first;
    rest = a.rest;
    first_held = a.first_held;
    rest_held = whole_torn (next ∷ files) a.rest a.rest_held;
    split = a.split;
  }

  pub one_reading : (files : List NumberedBytes) (g h : List Event) → FilesHoldTorn queue version files g → FilesHoldTorn queue version files h → g ≡ h
  one_reading [] g h p q = p ∙ sym q
  one_reading (file ∷ []) g h p q = torn_unique (whole_file queue version file) g h p q
  one_reading (file ∷ next ∷ files) g h p q =
      let first = part_unique (whole_file queue version file) 0 p.first q.first p.first_held q.first_held in
      let rest = one_reading (next ∷ files) p.rest q.rest p.rest_held q.rest_held in
      p.split ∙ (λ i. first i ++ rest i) ∙ sym q.split

  -- a file in front of others, of which the last may end in a torn tail
  pub torn_more : (file : NumberedBytes) (files : List NumberedBytes) (h : List Event) → 0 < length files → AreHeldInTurn (Whole file) (FilesHoldTorn queue version files) h → FilesHoldTorn queue version (file ∷ files) h
  torn_more file [] h some a = absurd (omega (arith, some))
  torn_more file (next ∷ files) h some a = a

  pub more_torn : (file : NumberedBytes) (files : List NumberedBytes) (h : List Event) → 0 < length files → FilesHoldTorn queue version (file ∷ files) h → AreHeldInTurn (Whole file) (FilesHoldTorn queue version files) h
  more_torn file [] h some a = absurd (omega (arith, some))
  more_torn file (next ∷ files) h some a = a

  pub cut_found : (closed : List NumberedBytes) (last : NumberedBytes) (h : List Event) (at : ℕ) → FilesHoldTorn queue version (closed ++ last ∷ []) h → StopsAt (whole_file queue version last) at
      → FilesHold queue version (cut_last at (closed ++ last ∷ [])) h
  cut_found [] last h at t s = each_single Whole (last.0, take at last.1) h (stop_found (whole_file queue version last) at h t s)
  cut_found (c ∷ []) last h at t s = record {
    first = t.first;
    rest = t.rest;
    first_held = t.first_held;
    rest_held = cut_found [] last t.rest at t.rest_held s;
    split = t.split;
  }
  cut_found (c ∷ d ∷ closed) last h at t s = record {
    first = t.first;
    rest = t.rest;
    first_held = t.first_held;
    rest_held = cut_found (d ∷ closed) last t.rest at t.rest_held s;
    split = t.split;
  }

  pub uncut : (closed : List NumberedBytes) (last : NumberedBytes) (h : List Event) (at : ℕ) → FilesHold queue version (cut_last at (closed ++ last ∷ [])) h → StopsAt (whole_file queue version last) at
      → FilesHoldTorn queue version (closed ++ last ∷ []) h
  uncut [] last h at a s = record {
    at = at;
    inside = stand_inside (whole_file queue version last) 0 at s.batches.0 (omega arith) s.batches.1;
    held = one_file (last.0, take at last.1) h a;
    torn = stop_unreadable (whole_file queue version last) at s.stops;
  }
  uncut (c ∷ []) last h at a s = record {
    first = a.first;
    rest = a.rest;
    first_held = a.first_held;
    rest_held = uncut [] last a.rest at a.rest_held s;
    split = a.split;
  }
  uncut (c ∷ d ∷ closed) last h at a s = record {
    first = a.first;
    rest = a.rest;
    first_held = a.first_held;
    rest_held = uncut (d ∷ closed) last a.rest at a.rest_held s;
    split = a.split;
  }
