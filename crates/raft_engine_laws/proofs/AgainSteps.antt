-- Steps that move records of a region within the rewrite queue: what they make of its table, and of what is read of the rewrite queue.
use Rattle.raft_engine_laws.proofs.Common.{◌≡◌, ◌⊎◌, ℕ, suc, ◌+◌, Bool, true, false, cond, List, [], ◌∷◌, ◌++◌, length, Option, Some, None, option_map, inl, inr, refl, sym, ap, subst, ◌∙◌, append-nil, append_assoc, length-append, arith, ◌&&◌, nat_lt, AllByRecursion}
use Rattle.raft_engine_laws.proofs.Common.{option_and_then, nat_tests, EntryIndex, FileId, LogQueue, Append, Rewrite, RisesFrom, IsRun, Keys, Stored, with_moved, moved_to, misses, entries_after_rewrite, is_misplaced, may_move, leaves_hole, entries_after_replay, Step, Run, Put}
use Rattle.raft_engine_laws.proofs.Common.{table_of, Table, after_rewrite, after_rewrite_key, rewritten_in, rewritten_pair, below, start_of, placed_in, is_placed_in, entry_count, AreTableEntries, same_some, each_placed, placed_each, placed_in_other, below_start, rises, hole_end}
use Rattle.raft_engine_laws.proofs.Common.{end_of-run, placed_in-append, each_left, each_right, AreCopies, IsPairMoved, AreRecordsMoved}
use Rattle.std.specs.FinMap as finite
use Rattle.raft_engine_laws.proofs.CopiedEntries.{copies_take_places, copies_read_behind}
use Rattle.raft_engine_laws.proofs.CopiedPairs.{one_more, now_there}
use Rattle.raft_engine_laws.proofs.RewrittenRegion.{copies_placed}
use Rattle.raft_engine_laws.proofs.SoundEntries.{placed_twice}

-- a table after a step of a batch that rewrites without a gate
abbrev pub after_again : ℕ → Table → Step → Option (Option Table)
after_again seq t (Run run) = option_map Some (after_rewrite None t run)
after_again seq t (Put key value file) = option_map Some (after_rewrite_key None seq t key)
after_again seq t s = Some (Some t)

-- a region's table, which may be absent, after such steps in order
abbrev pub afters_again : ℕ → ℕ → Option Table → List Step → Option (Option Table)
afters_again seq id o [] = Some o
afters_again seq id o (s ∷ ss) = option_and_then (λ u. afters_again seq id u ss) (after_again seq (table_of id o) s)

-- some entries, or a key put again
abbrev pub IsStepAgain : FileId → Keys → Step → Type 0
IsStepAgain file keys (Run []) = ⊥
IsStepAgain file keys (Run (e ∷ es)) = Unit {0}
IsStepAgain file keys (Put key value to) = (s : Stored) × (finite.get keys key ≡ Some s) × (s.file.queue ≡ Rewrite) × (s.value ≡ value) × (to ≡ file)
IsStepAgain file keys _ = ⊥

-- ---- copies

run_is : (s : ℕ) (es : List EntryIndex) → RisesFrom s es → IsRun es
run_is s [] h = tt
run_is s (e ∷ es) h = subst (λ n. RisesFrom (suc n) es) (sym h.0) h.1

module _ (content : EntryIndex → List ℕ) where
  pub none_copied : (es : List EntryIndex) → AreCopies content [] es → es ≡ []
  none_copied [] h = refl
  none_copied (e ∷ es) h = absurd h

  pub copies-append : (gs hs es fs : List EntryIndex) → AreCopies content gs es → AreCopies content hs fs → AreCopies content (gs ++ hs) (es ++ fs)
  copies-append [] hs [] fs h k = k
  copies-append [] hs (e ∷ es) fs h k = absurd h
  copies-append (g ∷ gs) hs [] fs h k = absurd h
  copies-append (g ∷ gs) hs (e ∷ es) fs h k = (h.0, copies-append gs hs es fs h.1 k)

  -- copies in front of others are copies of a prefix
  pub copies_split : (gs hs es : List EntryIndex) → AreCopies content (gs ++ hs) es → (a : List EntryIndex) × (b : List EntryIndex) × (es ≡ a ++ b) × AreCopies content gs a × AreCopies content hs b
  copies_split [] hs es h = ([], es, refl, tt, h)
  copies_split (g ∷ gs) hs [] h = absurd h
  copies_split (g ∷ gs) hs (e ∷ es) h =
      let p : (a : List EntryIndex) × (b : List EntryIndex) × (es ≡ a ++ b) × AreCopies content gs a × AreCopies content hs b = copies_split gs hs es h.1 in
      (e ∷ p.0, p.1, ap (λ l. e ∷ l) p.2, (h.0, p.3), p.4)

  -- copies in the place of entries leave a run
  copied_rise : (s : ℕ) (gs es xs : List EntryIndex) → AreCopies content gs es → RisesFrom s (es ++ xs) → RisesFrom s (gs ++ xs)
  copied_rise s [] [] xs h r = r
  copied_rise s [] (e ∷ es) xs h r = absurd h
  copied_rise s (g ∷ gs) [] xs h r = absurd h
  copied_rise s (g ∷ gs) (e ∷ es) xs h r = (h.0.0 ∙ r.0, copied_rise (suc s) gs es xs h.1 r.1)

-- a run over one that starts there
read_over : (m : EntryIndex) (xs : List EntryIndex) (g : EntryIndex) (gs : List EntryIndex) → IsRun (m ∷ xs) → g.index ≡ m.index → entries_after_replay Rewrite (m ∷ xs) (g ∷ gs) ≡ Some (g ∷ gs)
read_over m xs g gs run e = ap (λ b. Some (cond b (g ∷ gs) (below g.index (m ∷ xs) ++ g ∷ gs))) no_hole ∙ ap (λ l. Some (l ++ g ∷ gs)) (below_start g.index m.index (m ∷ xs) (refl, run) (omega (arith, e)))
  where
    low : (n k : ℕ) → (nat_lt 0 (n + suc k) && nat_lt (n + suc k) n) ≡ false
    low n k = grind (arith, nat_tests)

    no_hole : leaves_hole (m ∷ xs) g.index ≡ false
    no_hole = hole_end (m ∷ xs) g.index ∙ ap (misses (Some g.index)) (end_of-run m.index (m ∷ xs) (refl, run) (omega arith)) ∙ ap (λ n. misses (Some n) (m.index + length (m ∷ xs))) e ∙ low m.index (length xs)

not_misplaced : (n k : ℕ) → is_misplaced None n (n + k) ≡ false
not_misplaced n k = grind (arith, nat_tests)

none_in : placed_in Rewrite [] ≡ []
unfolding placed_in
none_in = refl

module _ (content : EntryIndex → List ℕ) (seq id : ℕ) (t w : Table) (sound : AreTableEntries t.entries) (told : w.entries ≡ placed_in Rewrite t.entries) where
  abbrev to : FileId
  to = record { queue = Rewrite; seq = seq }

  abbrev rew : List EntryIndex
  rew = placed_in Rewrite t.entries

  abbrev apps : List EntryIndex
  apps = placed_in Append t.entries

  -- what is read: the old entries until some are copied
  abbrev shown : List EntryIndex → List EntryIndex
  shown [] = rew
  shown (c ∷ cs) = c ∷ cs

  -- in the midst of the steps, with entries that are still to be copied
  pub record IsAgain (k p : Table) (todo : List EntryIndex) : Type 0 where
    pub done : List EntryIndex
    pub copies : List EntryIndex
    pub rest : List EntryIndex
    pub split : rew ≡ done ++ (todo ++ rest)
    pub copied : AreCopies content copies done
    pub ends : (rest ≡ []) ⊎ ((todo ≡ []) × (copies ≡ []))
    pub entries : k.entries ≡ copies ++ (todo ++ (rest ++ apps))
    pub read : p.entries ≡ shown copies
    pub pairs : (key : List ℕ) → IsPairMoved to t.keys k.keys w.keys p.keys key

  -- a run of copies
  module _ (k p : Table) (todo todo' : List EntryIndex) (m : EntryIndex) (ms : List EntryIndex) (g : EntryIndex) (gs : List EntryIndex)
      (h : IsAgain k p todo) (two : todo ≡ m ∷ ms ++ todo') (copies : AreCopies content (g ∷ gs) (m ∷ ms)) where
    abbrev back : List EntryIndex
    back = todo' ++ (h.rest ++ apps)

    rew_is : rew ≡ h.done ++ (m ∷ ms ++ (todo' ++ h.rest))
    rew_is = h.split ∙ ap (λ l. h.done ++ (l ++ h.rest)) two ∙ ap (λ l. h.done ++ l) (append_assoc (m ∷ ms) todo' h.rest)

    all_is : t.entries ≡ h.done ++ (m ∷ ms ++ back)
    all_is = sound.in_front ∙ ap (λ l. l ++ apps) rew_is ∙ append_assoc h.done (m ∷ ms ++ (todo' ++ h.rest)) apps
        ∙ ap (λ l. h.done ++ l) (append_assoc (m ∷ ms) (todo' ++ h.rest) apps ∙ ap (λ l. m ∷ ms ++ l) (append_assoc todo' h.rest apps))

    rising : RisesFrom (start_of t.entries) (h.copies ++ (m ∷ ms ++ back))
    rising = copied_rise content (start_of t.entries) h.copies h.done (m ∷ ms ++ back) h.copied (subst (RisesFrom (start_of t.entries)) all_is (rises t.entries sound.consecutive.run))

    run : IsRun (h.copies ++ (m ∷ ms ++ back))
    run = run_is (start_of t.entries) (h.copies ++ (m ∷ ms ++ back)) rising

    in_place : is_misplaced None (length h.copies) (entry_count Rewrite (h.copies ++ (m ∷ ms ++ back))) ≡ false
    in_place =
        ap (λ l. is_misplaced None (length h.copies) (length l))
        (placed_in-append Rewrite h.copies (m ∷ ms ++ back)
        ∙ ap (λ l. l ++ placed_in Rewrite (m ∷ ms ++ back)) (each_placed Rewrite h.copies (copies_placed content h.copies h.done h.copied)))
        ∙ ap (is_misplaced None (length h.copies)) (length-append h.copies (placed_in Rewrite (m ∷ ms ++ back)))
        ∙ not_misplaced (length h.copies) (length (placed_in Rewrite (m ∷ ms ++ back)))

    move : AllByRecursion (λ (e : EntryIndex). may_move None e ≡ true) (m ∷ ms)
    move = each_left (λ (e : EntryIndex). is_placed_in Rewrite e ≡ true) (m ∷ ms) (todo' ++ h.rest) (each_right (λ (e : EntryIndex). is_placed_in Rewrite e ≡ true) h.done (m ∷ ms ++ (todo' ++ h.rest))
        (subst (AllByRecursion (λ (e : EntryIndex). is_placed_in Rewrite e ≡ true)) rew_is (placed_each Rewrite rew (placed_twice Rewrite t.entries))))

    pub takes : entries_after_rewrite None (g ∷ gs) k.entries ≡ Some (h.copies ++ (g ∷ gs ++ back))
    takes = ap (entries_after_rewrite None (g ∷ gs)) (h.entries ∙ ap (λ l. h.copies ++ (l ++ (h.rest ++ apps))) two ∙ ap (λ l. h.copies ++ l) (append_assoc (m ∷ ms) todo' (h.rest ++ apps)))
        ∙ copies_take_places content None h.copies m ms back g gs run copies in_place move

    pub reads : entries_after_replay Rewrite p.entries (g ∷ gs) ≡ Some (h.copies ++ g ∷ gs)
    reads = ap (λ l. entries_after_replay Rewrite l (g ∷ gs)) h.read ∙ go h.copies refl
      where
        go : (c : List EntryIndex) → h.copies ≡ c → entries_after_replay Rewrite (shown c) (g ∷ gs) ≡ Some (c ++ g ∷ gs)
        go [] e =
            let none : h.done ≡ [] = none_copied content h.done (subst (λ l. AreCopies content l h.done) e h.copied) in
            let all : rew ≡ m ∷ ms ++ (todo' ++ h.rest) = rew_is ∙ ap (λ l. l ++ (m ∷ ms ++ (todo' ++ h.rest))) none in
            ap (λ l. entries_after_replay Rewrite l (g ∷ gs)) all ∙ read_over m (ms ++ (todo' ++ h.rest)) g gs (prefix_run all) copies.0.0
          where
            prefix_run : rew ≡ m ∷ ms ++ (todo' ++ h.rest) → IsRun (m ∷ ms ++ (todo' ++ h.rest))
            prefix_run all = run_is (start_of t.entries) (m ∷ ms ++ (todo' ++ h.rest))
                (rises_prefix (start_of t.entries) (m ∷ ms ++ (todo' ++ h.rest)) apps
                (subst (RisesFrom (start_of t.entries)) (sound.in_front ∙ ap (λ l. l ++ apps) all) (rises t.entries sound.consecutive.run)))
              where
                rises_prefix : (s : ℕ) (a b : List EntryIndex) → RisesFrom s (a ++ b) → RisesFrom s a
                rises_prefix s [] b h = tt
                rises_prefix s (e ∷ a) b h = (h.0, rises_prefix (suc s) a b h.1)
        go (c ∷ cs) e = subst (λ l. entries_after_replay Rewrite l (g ∷ gs) ≡ Some (l ++ g ∷ gs)) e (copies_read_behind content None h.copies m ms back g gs run copies in_place move)

    shown_more : (c : List EntryIndex) → c ++ g ∷ gs ≡ shown (c ++ g ∷ gs)
    shown_more [] = refl
    shown_more (c ∷ cs) = refl

    pub run_again : IsAgain (record k { entries = h.copies ++ (g ∷ gs ++ back) }) (record p { entries = h.copies ++ g ∷ gs }) todo'
    run_again = record {
      done = h.done ++ m ∷ ms;
      copies = h.copies ++ g ∷ gs;
      rest = h.rest;
      split = rew_is ∙ sym (append_assoc h.done (m ∷ ms) (todo' ++ h.rest));
      copied = copies-append content h.copies (g ∷ gs) h.done (m ∷ ms) h.copied copies;
      ends = elim h.ends [ inl none ↦ inl none | inr other ↦ absurd (not_nil (sym two ∙ other.0)) ];
      entries = sym (append_assoc h.copies (g ∷ gs) back);
      read = shown_more h.copies;
      pairs = h.pairs;
    }
      where
        not_nil : {x : EntryIndex} {l : List EntryIndex} → x ∷ l ≡ [] → ⊥
        not_nil e = cc

  -- a key put again
  pub put_again : (k p : Table) (todo : List EntryIndex) (key value : List ℕ) (file : FileId) (v : Option Table) → IsAgain k p todo → IsStepAgain to t.keys (Put key value file) → after_again seq k (Put key value file) ≡ Some v
      → IsAgain (table_of id v) (record p { keys = finite.insert p.keys key (record { value = value; file = file }) }) todo
  put_again k p todo key value file v h a is = go (now_there None seq t.keys w.keys k.keys p.keys key a.0 a.1 h.pairs)
    where
      moved : after_rewrite_key None seq k key ≡ Some (record k { keys = finite.insert k.keys key (record a.0 { file = to }) }) →
          IsAgain (table_of id v) (record p { keys = finite.insert p.keys key (record { value = value; file = file }) }) todo
      moved e = subst (λ (o : Option Table). IsAgain (table_of id o) (record p { keys = finite.insert p.keys key (record { value = value; file = file }) }) todo) (same_some _ v (sym (ap (option_map Some) e) ∙ is))
          (record {
            done = h.done;
            copies = h.copies;
            rest = h.rest;
            split = h.split;
            copied = h.copied;
            ends = h.ends;
            entries = h.entries;
            read = h.read;
            pairs = subst (λ (f : FileId). (q : List ℕ) → IsPairMoved to t.keys (finite.insert k.keys key (record a.0 { file = to })) w.keys (finite.insert p.keys key (record { value = value; file = f })) q) (sym a.4)
                (one_more None seq t.keys w.keys k.keys p.keys key a.0 value a.1 a.3 h.pairs);
          })

      by : (x : Stored) → finite.get k.keys key ≡ Some x → x.file.queue ≡ Rewrite → (b : Bool) → nat_lt seq x.file.seq ≡ b →
          after_rewrite_key None seq k key ≡ option_map (λ keys. record k { keys = keys })
          (cond b None (Some (finite.insert k.keys key (record x { file = to }))))
      by x there q b low =
          ap (option_map (λ keys. record k { keys = keys })) (
          ap (λ (o : Option Stored). rewritten_in None seq k.keys key (option_map (λ (y : Stored). y.file) o)) there
          ∙ ap (λ (l : LogQueue). rewritten_pair None seq k.keys key l x.file.seq) q
          ∙ ap (λ b. cond b None (Some (with_moved k.keys key to))) low
          ∙ ap (λ (o : Option Stored). cond b None (Some (moved_to to k.keys key o))) there)

      not_below : (n : ℕ) → nat_lt n n ≡ false
      not_below n = grind (arith, nat_tests)

      old : finite.get k.keys key ≡ Some a.0 → (b : Bool) → nat_lt seq a.0.file.seq ≡ b → IsAgain (table_of id v) (record p { keys = finite.insert p.keys key (record { value = value; file = file }) }) todo
      old there true low = absurd (none_is (sym (ap (option_map Some) (by a.0 there a.2 true low)) ∙ is))
        where
          none_is : {x : Option Table} → None ≡ Some x → ⊥
          none_is e = cc
      old there false low = moved (by a.0 there a.2 false low)

      go : (finite.get k.keys key ≡ Some a.0) ⊎ (finite.get k.keys key ≡ Some (record a.0 { file = to })) → IsAgain (table_of id v) (record p { keys = finite.insert p.keys key (record { value = value; file = file }) }) todo
      go (inl there) = old there (nat_lt seq a.0.file.seq) refl
      go (inr there) = moved (by (record a.0 { file = to }) there refl false (not_below seq))

  -- at the end records have moved
  pub at_end : (k p : Table) → IsAgain k p [] → AreRecordsMoved content to t k w p
  at_end k p h = elim h.ends [ inl none ↦ all none | inr other ↦ nothing other.1 ]
    where
      apart : placed_in Rewrite apps ≡ []
      apart = placed_in_other Append Rewrite refl t.entries

      all : h.rest ≡ [] → AreRecordsMoved content to t k w p
      all none = record {
        of_queue = refl;
        front = [];
        middle = h.done;
        back = apps;
        split = sound.in_front ∙ ap (λ l. l ++ apps) rew_is;
        in_front = none_in;
        behind = apart;
        copies = h.copies;
        copied = h.copied;
        moves = h.entries ∙ ap (λ l. h.copies ++ (l ++ apps)) none;
        puts = h.read ∙ go h.copies h.copied;
        pairs = h.pairs;
      }
        where
          rew_is : rew ≡ h.done
          rew_is = h.split ∙ ap (λ l. h.done ++ l) none ∙ append-nil h.done

          go : (c : List EntryIndex) → AreCopies content c h.done → shown c ≡ c
          go [] e = rew_is ∙ none_copied content h.done e
          go (c ∷ cs) e = refl

      nothing : h.copies ≡ [] → AreRecordsMoved content to t k w p
      nothing none = record {
        of_queue = refl;
        front = rew;
        middle = [];
        back = apps;
        split = sound.in_front;
        in_front = placed_twice Rewrite t.entries;
        behind = apart;
        copies = [];
        copied = tt;
        moves = h.entries ∙ ap (λ l. l ++ (h.rest ++ apps)) none ∙ ap (λ l. l ++ apps) (sym rew_is);
        puts = h.read ∙ ap shown none ∙ sym (append-nil rew);
        pairs = h.pairs;
      }
        where
          rew_is : rew ≡ h.rest
          rew_is = h.split ∙ ap (λ l. l ++ h.rest) (none_copied content h.done (subst (λ l. AreCopies content l h.done) none h.copied))
