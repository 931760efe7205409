-- What is left of files, once they are cut where reading stops, has the bytes that were put.
use Rattle.raft_engine.proofs.Common.{◌≡◌, inl, inr, ℕ, ◌≤◌, List, [], ◌∷◌, ◌++◌, length, take, drop, None, Some, refl, sym, ap, ◌∙◌, subst, arith, append_assoc, length-append, length-drop, append_cancel_left, drop-append-le, drop_all, length-take, length-take-le}
use Rattle.raft_engine.proofs.Common.{take-append-drop, take-append-le, take-take, EntryIndex, LogQueue, Version, AreBatchesUpTo, Part, StandBetween, Item, batch_inside, Event, Act, Ask, Begin, Cut, Delete, Found, NumberedBytes, Put, Read, Sync, Unsynced, acts_on, IsLeftOf}
use Rattle.raft_engine.proofs.Common.{MayStand, begun, cut_last, put_behind, length_on_last, last_of, IsUnreadableAt, batch_none, batch_unique, part_unique, whole_file, AreToldByFiles, AreRisingFrom, numbers, ArePut, FilesHoldTorn, HoldsTornFrom, all_held, items_of, more_torn}
use Rattle.raft_engine.proofs.Common.{stand_up_to, stands_as, with_all, AreCut, IsLastCut}
use Rattle.raft_engine.proofs.PrefixFiles.{ArePrefixes, at_prefixes, at_later, prefixes_begun, prefixes_cut, prefixes_drop, prefixes_of_cut, prefixes_of_put, prefixes_put, prefixes_self}

-- ---- batches that stand in a part

stand_up : (part : Part) (i at : ℕ) (bs : List (List Item)) → StandBetween part i at bs → i ≤ at
stand_up part i at [] s = omega (arith, s)
stand_up part i at (b ∷ bs) s = let n = batch_inside part i b s.0 s.1 in let r = stand_up part s.0 at bs s.2 in omega (arith, n.0, r)

stand_inside : (part : Part) (i at : ℕ) (bs : List (List Item)) → i ≤ length part.bytes → StandBetween part i at bs → at ≤ length part.bytes
stand_inside part i at [] le s = omega (arith, s, le)
stand_inside part i at (b ∷ bs) le s = let n = batch_inside part i b s.0 s.1 in stand_inside part s.0 at bs n.1 s.2

-- they stand in one that has more bytes
stand_more : (part : Part) (more : List ℕ) (i at : ℕ) (bs : List (List Item)) → StandBetween part i at bs → StandBetween (with_all part (part.bytes ++ more)) i at bs
stand_more part more i at [] s = s
stand_more part more i at (b ∷ bs) s =
    let n = batch_inside part i b s.0 s.1 in
    (s.0, stands_as part (part.bytes ++ more) i s.0 b s.1 (take-append-le s.0 part.bytes more n.1), stand_more part more s.0 at bs s.2)

-- and in one that ends where they do
stand_fewer : (part : Part) (i at : ℕ) (bs : List (List Item)) → StandBetween part i at bs → StandBetween (with_all part (take at part.bytes)) i at bs
stand_fewer part i at [] s = s
stand_fewer part i at (b ∷ bs) s =
    let up = stand_up part s.0 at bs s.2 in
    (s.0, stands_as part (take at part.bytes) i s.0 b s.1 (take-take s.0 at part.bytes up), stand_fewer part s.0 at bs s.2)

-- they don't stand past a byte from which on none can be read
stand_below : (part : Part) (i n at : ℕ) (bs cs : List (List Item)) → StandBetween part i n bs → StandBetween part i at cs → IsUnreadableAt part at → n ≤ at
stand_below part i n at [] cs p q stop = let up = stand_up part i at cs q in omega (arith, p, up)
stand_below part i n at (b ∷ bs) [] p q stop = absurd (batch_none part i b p.0 (subst (IsUnreadableAt part) (sym q) stop) p.1)
stand_below part i n at (b ∷ bs) (c ∷ cs) p q stop =
    let next : p.0 ≡ q.0 = (batch_unique part i b c p.0 q.0 p.1 q.1).1 in
    stand_below part q.0 n at bs cs (subst (λ (m : ℕ). StandBetween part m n bs) next p.2) q.2 stop

-- the same batches end at one byte
one_end : (part : Part) (i m n : ℕ) (bs : List (List Item)) → StandBetween part i m bs → StandBetween part i n bs → m ≡ n
one_end part i m n [] p q = sym p ∙ q
one_end part i m n (b ∷ bs) p q =
    let next : p.0 ≡ q.0 = (batch_unique part i b b p.0 q.0 p.1 q.1).1 in
    one_end part q.0 m n bs (subst (λ (k : ℕ). StandBetween part k m bs) next p.2) q.2

-- A part of which a prefix is whole batches isn't cut within these where it holds the same batches before and after.
prefix_short : (part : Part) (front rest : List ℕ) (len : ℕ) (h : List Event) → part.bytes ≡ front ++ rest → AreBatchesUpTo (with_all part front) (length front)
    → HoldsTornFrom part 0 h → HoldsTornFrom (with_all part (take len part.bytes)) 0 h → length front ≤ len
prefix_short part front rest len h split w t u =
    let all : StandBetween part 0 (length front) w.0 = subst (λ (xs : List ℕ). StandBetween (with_all part xs) 0 (length front) w.0) (sym split) (stand_more (with_all part front) rest 0 (length front) w.0 w.1) in
    let held : StandBetween part 0 t.at (items_of h) = stand_up_to part t.at 0 h t.inside t.held in
    let cut : StandBetween part 0 u.at (items_of h) = subst (λ (xs : List ℕ). StandBetween (with_all part xs) 0 u.at (items_of h)) (take-append-drop len part.bytes)
    (stand_more (with_all part (take len part.bytes)) (drop len part.bytes) 0 u.at (items_of h) (stand_up_to (with_all part (take len part.bytes)) u.at 0 h u.inside u.held)) in
    let same = one_end part 0 u.at t.at (items_of h) cut held in
    let less = stand_below part 0 (length front) t.at w.0 (items_of h) all held t.torn in
    let n = length-take len part.bytes in
    let inside = u.inside in
    omega (arith, same, less, n, inside)

module _ (queue : LogQueue) (version : Version) where
  -- ---- files

  -- the last file is whole batches
  abbrev LastWhole : List NumberedBytes → Type 0
  LastWhole [] = Unit {0}
  LastWhole (f ∷ []) = AreBatchesUpTo (whole_file queue version f) (length f.1)
  LastWhole (f ∷ next ∷ files) = LastWhole (next ∷ files)

  last_whole : (closed : List NumberedBytes) (last : NumberedBytes) → AreBatchesUpTo (whole_file queue version last) (length last.1) → LastWhole (closed ++ last ∷ [])
  last_whole [] last w = w
  last_whole (c ∷ []) last w = w
  last_whole (c ∷ d ∷ closed) last w = last_whole (d ∷ closed) last w

  cut_whole : (files left : List NumberedBytes) → AreCut queue version files left → LastWhole left
  cut_whole files left (inl none) = subst LastWhole (sym none.1) tt
  cut_whole files left (inr c) =
      let bs = c.stops.batches in
      let inside : c.at ≤ length c.last.1 = stand_inside (whole_file queue version c.last) 0 c.at bs.0 (omega arith) bs.1 in
      let n : length (take c.at c.last.1) ≡ c.at = length-take-le c.at c.last.1 inside in
      let stand = subst (λ (m : ℕ). StandBetween (whole_file queue version (c.last.0, take c.at c.last.1)) 0 m bs.0) (sym n) (stand_fewer (whole_file queue version c.last) 0 c.at bs.0 bs.1) in
      subst LastWhole (sym (c.is ∙ ap (cut_last c.at) c.split ∙ last_of (λ (old : List ℕ). take c.at old) c.closed c.last)) (last_whole c.closed (c.last.0, take c.at c.last.1) (bs.0, stand))

  -- fronts of all files stay fronts where a torn tail of these is cut
  tail_cut : (len : ℕ) (files all : List NumberedBytes) (g h : List Event) → ArePrefixes files all → LastWhole files
      → FilesHoldTorn queue version all g → FilesHoldTorn queue version (cut_last len all) h → g ≡ h → ArePrefixes files (cut_last len all)
  tail_cut len [] all g h k w t u same = tt
  tail_cut len (f ∷ files) [] g h k w t u same = absurd k
  tail_cut len (f ∷ []) (x ∷ []) g h k w t u same =
      prefixes_of_cut len f x k (prefix_short (whole_file queue version x) f.1 k.bytes.rest len h k.bytes.split
      (subst (λ (n : ℕ). AreBatchesUpTo (whole_file queue version (n, f.1)) (length f.1)) k.number w) (subst (HoldsTornFrom (whole_file queue version x) 0) same t) u)
  tail_cut len (f ∷ []) (x ∷ next ∷ all) g h k w t u same = k
  tail_cut len (f ∷ i ∷ files) (x ∷ []) g h k w t u same = absurd k.1
  tail_cut len (f ∷ i ∷ files) (x ∷ next ∷ all) g h k w t u same =
      let many = length_on_last (λ (old : List ℕ). take len old) (next ∷ all) in
      let v = more_torn queue version x (cut_last len (next ∷ all)) h (omega (arith, many)) u in
      let first = part_unique (whole_file queue version x) 0 t.first v.first t.first_held v.first_held in
      let rest = append_cancel_left v.first t.rest v.rest (ap (λ (l : List Event). l ++ t.rest) (sym first) ∙ sym t.split ∙ same ∙ v.split) in
      (k.0, tail_cut len (i ∷ files) (next ∷ all) t.rest v.rest k.1 w t.rest_held v.rest_held rest)

  cut_front : (files left all : List NumberedBytes) → AreCut queue version files left → ArePrefixes files all → ArePrefixes left all
  cut_front files left all (inl none) k = subst (λ (fs : List NumberedBytes). ArePrefixes fs all) (sym none.1) tt
  cut_front files left all (inr c) k = subst (λ (fs : List NumberedBytes). ArePrefixes fs all) (sym c.is) (prefixes_cut c.at files all k)

  same_front : (files all : List NumberedBytes) → files ≡ all → ArePrefixes files all
  same_front files all e = subst (ArePrefixes files) e (prefixes_self files)

  -- what stands, cut so, is the first of all files, the last one of these with a prefix of its bytes
  stand_prefix : (acts : List Act) (synced h : List Event) (files left : List NumberedBytes) → ArePut queue version acts synced h → MayStand acts files → AreCut queue version files left
      → ArePrefixes left (begun acts)
  stand_prefix [] synced h files left p s c = cut_front files left [] c (same_front files [] s)
  stand_prefix (Put bytes ∷ acts) synced h files left p (inl before) c = prefixes_put bytes left (begun acts) (stand_prefix acts synced p.old files left p.before before c)
  stand_prefix (Put bytes ∷ acts) synced h files left p (inr f) c =
      cut_front files left (put_behind bytes (begun acts)) c
      (subst (λ (fs : List NumberedBytes). ArePrefixes fs (put_behind bytes (begun acts))) (sym f.put)
      (subst (λ (b : List ℕ). ArePrefixes (put_behind f.front (begun acts)) (put_behind b (begun acts))) (sym f.split) (prefixes_of_put f.front f.rest (begun acts))))
  stand_prefix (Begin seq ∷ acts) synced h files left p (inl is) c = prefixes_begun (seq, []) left (begun acts) (cut_front files left (begun acts) c (same_front files (begun acts) is))
  stand_prefix (Begin seq ∷ acts) synced h files left p (inr is) c = cut_front files left (begun acts ++ (seq, []) ∷ []) c (same_front files (begun acts ++ (seq, []) ∷ []) is)
  stand_prefix (Sync ∷ acts) synced h files left p s c = cut_front files left (begun acts) c (same_front files (begun acts) s)
  stand_prefix (Delete ∷ acts) synced h files left p s c = stand_prefix acts synced h files left p s c
  stand_prefix (Cut len ∷ acts) synced h files left p (inl before) c =
      tail_cut len left (begun acts) h h (stand_prefix acts synced h files left p.0 before c) (cut_whole files left c) (all_held queue version acts synced h p.0) p.1 refl
  stand_prefix (Cut len ∷ acts) synced h files left p (inr is) c = cut_front files left (cut_last len (begun acts)) c (same_front files (cut_last len (begun acts)) is)
  stand_prefix (Found found ∷ acts) synced h files left p s c = cut_front files left found c (same_front files found s)
  stand_prefix (Read place bytes ∷ acts) synced h files left p s c = stand_prefix acts synced h files left p s c
  stand_prefix (Unsynced ∷ acts) synced h files left p s c = stand_prefix acts synced h files left p s c

  -- ---- what is left

  -- some files are left
  module _ (asked : List Ask) (synced h : List Event) (first : ℕ) (put : ArePut queue version (acts_on queue asked) synced h) (rising : AreRisingFrom first (numbers (begun (acts_on queue asked))))
      (files left : List NumberedBytes) (l : IsLeftOf queue asked files) (c : IsLastCut queue version files left) where
    abbrev gone : List NumberedBytes
    gone = take l.gone l.standing

    standing_split : l.standing ≡ (gone ++ c.closed) ++ c.last ∷ []
    standing_split = sym (take-append-drop l.gone l.standing) ∙ ap (λ (fs : List NumberedBytes). gone ++ fs) (sym l.left ∙ c.split) ∙ sym (append_assoc gone c.closed (c.last ∷ []))

    cut_standing : cut_last c.at l.standing ≡ gone ++ left
    cut_standing =
        ap (cut_last c.at) standing_split ∙ last_of (λ (old : List ℕ). take c.at old) (gone ++ c.closed) c.last ∙ append_assoc gone c.closed ((c.last.0, take c.at c.last.1) ∷ [])
        ∙ ap (λ (fs : List NumberedBytes). gone ++ fs) (sym (c.is ∙ ap (cut_last c.at) c.split ∙ last_of (λ (old : List ℕ). take c.at old) c.closed c.last))

    few : l.gone ≤ length l.standing
    few =
        let a = length-drop l.gone l.standing in
        let b = ap length (sym l.left ∙ c.split) ∙ length-append c.closed (c.last ∷ []) in
        omega (arith, a, b)

    drop_front : (n : ℕ) (xs ys : List NumberedBytes) → length xs ≡ n → drop n (xs ++ ys) ≡ ys
    drop_front n xs ys e = drop-append-le n xs ys (omega (arith, e)) ∙ ap (λ (fs : List NumberedBytes). fs ++ ys) (drop_all n xs (omega (arith, e)))

    left_prefix : ArePrefixes left (drop l.gone (begun (acts_on queue asked)))
    left_prefix =
        subst (λ (fs : List NumberedBytes). ArePrefixes fs (drop l.gone (begun (acts_on queue asked)))) (ap (drop l.gone) cut_standing ∙ drop_front l.gone gone left (length-take-le l.gone l.standing few))
        (prefixes_drop l.gone (cut_last c.at l.standing) (begun (acts_on queue asked))
        (stand_prefix (acts_on queue asked) synced h l.standing (cut_last c.at l.standing) put l.stands
        (inr (record { closed = gone ++ c.closed; last = c.last; at = c.at; split = standing_split; stops = c.stops; is = refl }))))

    left_told : (content : EntryIndex → List ℕ) → AreToldByFiles queue (begun (acts_on queue asked)) content → AreToldByFiles queue left content
    left_told content told = λ place block is at. told place block is
        (at_later place.id.seq place.offset place.len block first l.gone (begun (acts_on queue asked)) rising
        (at_prefixes place.id.seq place.offset place.len block left (drop l.gone (begun (acts_on queue asked))) left_prefix at))

  none_told : (content : EntryIndex → List ℕ) → AreToldByFiles queue [] content
  none_told content = λ place block is at. absurd (none_some block at)
    where
      none_some : (block : List ℕ) → None ≡ Some block → ⊥
      none_some block e = cc

  -- what is left, once it is cut, tells what all files do
  pub left_tells : (asked : List Ask) (synced h : List Event) (first : ℕ) → ArePut queue version (acts_on queue asked) synced h → AreRisingFrom first (numbers (begun (acts_on queue asked)))
      → (content : EntryIndex → List ℕ) → AreToldByFiles queue (begun (acts_on queue asked)) content → (files left : List NumberedBytes) → IsLeftOf queue asked files → AreCut queue version files left
      → AreToldByFiles queue left content
  left_tells asked synced h first put rising content told files left l (inl none) = subst (λ (fs : List NumberedBytes). AreToldByFiles queue fs content) (sym none.1) (none_told content)
  left_tells asked synced h first put rising content told files left l (inr c) = left_told asked synced h first put rising files left l c content told
