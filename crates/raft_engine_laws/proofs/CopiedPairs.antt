-- Copies of pairs: the kept ones move to the file, and are put into the rewritten ones.
use Rattle.raft_engine_laws.proofs.Common.{◌≡◌, ◌⊎◌, ℕ, Bool, true, false, cond, List, [], ◌∷◌, Option, Some, None, option_map, inl, inr, refl, sym, ap, subst, ◌∙◌, arith, nat_lt, AllByRecursion, option_and_then, nat_cmp, is_eq, Ordering, Less, Equal, Greater, slice_cmp}
use Rattle.raft_engine_laws.proofs.Common.{nat_list_cmp_total, nat_tests, FileId, LogQueue, Append, Rewrite, Keys, Stored, file_at, with_moved, moved_to, is_same_key, passes_gate, rewritten_in, rewritten_pair, IsPairMoved, IsFetched}
use Rattle.std.specs.FinMap as finite

-- pairs that are rewritten, one after another, in the kept ones, and as they are put into the rewritten ones
abbrev pub moved_all : Option ℕ → ℕ → Keys → List (List ℕ × List ℕ) → Option Keys
moved_all gate seq keys [] = Some keys
moved_all gate seq keys (p ∷ ps) = option_and_then (λ k. moved_all gate seq k ps) (rewritten_in gate seq keys p.0 (file_at keys p.0))

abbrev pub put_all : FileId → Keys → List (List ℕ × List ℕ) → Keys
put_all file keys [] = keys
put_all file keys (p ∷ ps) = put_all file (finite.insert keys p.0 (record { value = p.1; file = file })) ps

module _ (gate : Option ℕ) (seq : ℕ) (keys0 rew0 : Keys) where
  abbrev file : FileId
  file = record { queue = Rewrite; seq = seq }

  abbrev pub IsCopied : Keys → Keys → Type 0
  IsCopied keys rew = (key : List ℕ) → IsPairMoved file keys0 keys rew0 rew key

  -- the pair of a key that moves, by what is there now: the old one, or the one that has moved already
  moves_on : (keys : Keys) (key : List ℕ) (s : Stored) → s.file.queue ≡ Append → passes_gate gate s.file.seq ≡ true → (finite.get keys key ≡ Some s) ⊎ (finite.get keys key ≡ Some (record s { file = file }))
      → rewritten_in gate seq keys key (file_at keys key) ≡ Some (finite.insert keys key (record s { file = file }))
  moves_on keys key s q g (inl e) =
      ap (λ (o : Option Stored). rewritten_in gate seq keys key (option_map (λ (x : Stored). x.file) o)) e
      ∙ ap (λ (l : LogQueue). rewritten_pair gate seq keys key l s.file.seq) q
      ∙ ap (λ b. Some (cond b (with_moved keys key file) keys)) g
      ∙ ap (λ (o : Option Stored). Some (moved_to file keys key o)) e
  moves_on keys key s q g (inr e) =
      ap (λ (o : Option Stored). rewritten_in gate seq keys key (option_map (λ (x : Stored). x.file) o)) e
      ∙ ap (λ b. cond b None (Some (with_moved keys key file))) (not_below seq)
      ∙ ap (λ (o : Option Stored). Some (moved_to file keys key o)) e
    where
      not_below : (n : ℕ) → nat_lt n n ≡ false
      not_below n = grind (arith, nat_tests)

  -- another key's pair stays as it is, in both
  pub one_more : (keys rew : Keys) (key : List ℕ) (s : Stored) (value : List ℕ) → finite.get keys0 key ≡ Some s → s.value ≡ value → IsCopied keys rew
      → IsCopied (finite.insert keys key (record s { file = file })) (finite.insert rew key (record { value = value; file = file }))
  one_more keys rew key s value there is h q = go (is_same_key q key) refl
    where
      same_key : is_same_key q key ≡ true → q ≡ key
      same_key e = finite.slice_cmp-IsAntisymmetric finite.nat_cmp-IsAntisymmetric q key (equal (slice_cmp nat_cmp q key) e)
        where
          equal : (o : Ordering) → is_eq o ≡ true → o ≡ Equal
          equal Less e = absurd cc
          equal Equal e = refl
          equal Greater e = absurd cc

      kept : (b : Bool) → is_same_key q key ≡ b → finite.get (finite.insert keys key (record s { file = file })) q ≡ cond b (Some (record s { file = file })) (finite.get keys q)
      kept b e = finite.get-insert nat_list_cmp_total keys key (record s { file = file }) q ∙ ap (λ b. cond b (Some (record s { file = file })) (finite.get keys q)) e

      put : (b : Bool) → is_same_key q key ≡ b → finite.get (finite.insert rew key (record { value = value; file = file })) q ≡ cond b (Some (record { value = value; file = file })) (finite.get rew q)
      put b e = finite.get-insert nat_list_cmp_total rew key (record { value = value; file = file }) q ∙ ap (λ b. cond b (Some (record { value = value; file = file })) (finite.get rew q)) e

      go : (b : Bool) → is_same_key q key ≡ b → IsPairMoved file keys0 (finite.insert keys key (record s { file = file })) rew0 (finite.insert rew key (record { value = value; file = file })) q
      go true e = inr (s, subst (λ k. finite.get keys0 k ≡ Some s) (sym (same_key e)) there, kept true e, put true e ∙ ap (λ v. Some (record { value = v; file = file })) (sym is))
      go false e = elim (h q) [
        | inl stays ↦ inl (kept false e ∙ stays.0, put false e ∙ stays.1)
        | inr moves ↦ inr (moves.0, moves.1, kept false e ∙ moves.2, put false e ∙ moves.3)
      ]

  pub now_there : (keys rew : Keys) (key : List ℕ) (s : Stored) → finite.get keys0 key ≡ Some s → IsCopied keys rew → (finite.get keys key ≡ Some s) ⊎ (finite.get keys key ≡ Some (record s { file = file }))
  now_there keys rew key s there h = elim (h key) [
    | inl stays ↦ inl (stays.0 ∙ there)
    | inr moves ↦ inr (moves.2 ∙ ap (λ (x : Stored). Some (record x { file = file })) (some_is (sym moves.1 ∙ there)))
  ]
    where
      some_is : {x y : Stored} → Some x ≡ Some y → x ≡ y
      some_is e = cc

  pub pairs_copied : (ps : List (List ℕ × List ℕ)) (keys rew : Keys) → AllByRecursion (IsFetched gate keys0) ps → IsCopied keys rew → (out : Keys) × (moved_all gate seq keys ps ≡ Some out) × IsCopied out (put_all file rew ps)
  pairs_copied [] keys rew all h = (keys, refl, h)
  pairs_copied (p ∷ ps) keys rew all h =
      let f : IsFetched gate keys0 p = all.0 in
      let on : rewritten_in gate seq keys p.0 (file_at keys p.0) ≡ Some (finite.insert keys p.0 (record f.stored { file = file })) = moves_on keys p.0 f.stored f.queue f.gated (now_there keys rew p.0 f.stored f.there h) in
      let rest : (out : Keys) × (moved_all gate seq (finite.insert keys p.0 (record f.stored { file = file })) ps ≡ Some out) × IsCopied out (put_all file (finite.insert rew p.0 (record { value = p.1; file = file })) ps) =
      pairs_copied ps (finite.insert keys p.0 (record f.stored { file = file })) (finite.insert rew p.0 (record { value = p.1; file = file })) all.1 (one_more keys rew p.0 f.stored p.1 f.there f.value h) in
      (rest.0, ap (option_and_then (λ k. moved_all gate seq k ps)) on ∙ rest.1, rest.2)
