-- Records of a kept region move to the rewrite queue.
use Rattle.raft_engine_laws.proofs.Common.{◌≡◌, ℕ, true, List, [], ◌∷◌, ◌++◌, Option, Some, None, inl, inr, refl, sym, ap, subst, ◌∙◌, append-nil, append_assoc, AllByRecursion, EntryIndex, FileId, Append, Rewrite, Stored, last_pair, Step, Table, placed_in, is_placed_in}
use Rattle.raft_engine_laws.proofs.Common.{AreTableEntries, RewrittenInFront, same_some, each_placed, placed_in_other, placed_in-append, each_right, IsMovedPair, IsRegionKept, AreMoved, AreCopies, AreRecordsMoved, unspoken}
use Rattle.std.specs.FinMap as finite
use Rattle.raft_engine_laws.proofs.MovedLemmas.{moved-append}
use Rattle.raft_engine_laws.proofs.SoundEntries.{consecutive_seen, consecutive_kept, in_two, IsPlaced, each_in_queue, all_appended}
use Rattle.raft_engine_laws.proofs.UnspokenLemmas.{unspoken-append, unspoken-none}

pub copies_placed : (content : EntryIndex → List ℕ) (gs es : List EntryIndex) → AreCopies content gs es → AllByRecursion (λ (e : EntryIndex). is_placed_in Rewrite e ≡ true) gs
copies_placed content [] es h = tt
copies_placed content (g ∷ gs) [] h = absurd h
copies_placed content (g ∷ gs) (e ∷ es) h = (h.0.1, copies_placed content gs es h.1)

no_back : (a b : List EntryIndex) → a ++ b ≡ [] → b ≡ []
no_back [] b e = e
no_back (x ∷ a) b e = absurd cc

copies_moved : (content : EntryIndex → List ℕ) (gs es xs : List EntryIndex) → AreCopies content gs es → AreMoved content es xs → AreMoved content gs xs
copies_moved content [] [] xs h m = m
copies_moved content [] (e ∷ es) xs h m = absurd h
copies_moved content (g ∷ gs) [] xs h m = absurd h
copies_moved content (g ∷ gs) (e ∷ es) [] h m = absurd m
copies_moved content (g ∷ gs) (e ∷ es) (x ∷ xs) h m = (((h.0.0 ∙ m.0.0.0, inr h.0.1), h.0.2 ∙ m.0.1), copies_moved content gs es xs h.1 m.1)

-- the entries that are read, in two parts as the kept ones
seen_parts : (content : EntryIndex → List ℕ) (ks ls xs : List EntryIndex) → AreMoved content (ks ++ ls) xs → (a : List EntryIndex) × (b : List EntryIndex) × (xs ≡ a ++ b) × AreMoved content ks a × AreMoved content ls b
seen_parts content [] ls xs m = ([], xs, refl, tt, m)
seen_parts content (k ∷ ks) ls [] m = absurd m
seen_parts content (k ∷ ks) ls (x ∷ xs) m =
    let p : (a : List EntryIndex) × (b : List EntryIndex) × (xs ≡ a ++ b) × AreMoved content ks a × AreMoved content ls b = seen_parts content ks ls xs m.1 in
    (x ∷ p.0, p.1, ap (λ l. x ∷ l) p.2, (m.0, p.3), p.4)

module _ (content : EntryIndex → List ℕ) (id : ℕ) (kept : List Step) (file : FileId) (rewritten put t moved : Table) (h : IsRegionKept content id kept [] rewritten t) (r : AreRecordsMoved content file t moved rewritten put) where
  parts : (a : List EntryIndex) × (b : List EntryIndex) × (h.seen ≡ a ++ b) × AreMoved content r.front a × AreMoved content (r.middle ++ r.back) b
  parts = seen_parts content r.front (r.middle ++ r.back) h.seen (subst (λ l. AreMoved content l h.seen) r.split h.moved)

  later : (a : List EntryIndex) × (b : List EntryIndex) × (parts.1 ≡ a ++ b) × AreMoved content r.middle a × AreMoved content r.back b
  later = seen_parts content r.middle r.back parts.1 parts.4

  seen_is : h.seen ≡ parts.0 ++ (later.0 ++ later.1)
  seen_is = parts.2 ∙ ap (λ l. parts.0 ++ l) later.2

  all_moved : AreMoved content moved.entries h.seen
  all_moved = subst (λ l. AreMoved content l h.seen) (sym r.moves) (subst (AreMoved content (r.front ++ (r.copies ++ r.back))) (sym seen_is)
      (moved-append content r.front parts.0 (r.copies ++ r.back) (later.0 ++ later.1) parts.3 (moved-append content r.copies later.0 r.back later.1 (copies_moved content r.copies r.middle later.0 r.copied later.3) later.4)))

  copies_in : placed_in Rewrite r.copies ≡ r.copies
  copies_in = each_placed Rewrite r.copies (copies_placed content r.copies r.middle r.copied)

  rewritten_part : placed_in Rewrite moved.entries ≡ r.front ++ r.copies
  rewritten_part =
      ap (placed_in Rewrite) r.moves
      ∙ placed_in-append Rewrite r.front (r.copies ++ r.back)
      ∙ ap (λ l. placed_in Rewrite r.front ++ l) (placed_in-append Rewrite r.copies r.back ∙ ap (λ l. placed_in Rewrite r.copies ++ l) r.behind ∙ append-nil _ ∙ copies_in)
      ∙ ap (λ l. l ++ r.copies) r.in_front

  none_appended : (l : List EntryIndex) → placed_in Rewrite l ≡ l → placed_in Append l ≡ []
  none_appended l e = ap (placed_in Append) (sym e) ∙ placed_in_other Rewrite Append refl l

  appended_part : placed_in Append moved.entries ≡ placed_in Append r.back
  appended_part =
      ap (placed_in Append) r.moves
      ∙ placed_in-append Append r.front (r.copies ++ r.back)
      ∙ ap (λ l. l ++ placed_in Append (r.copies ++ r.back)) (none_appended r.front r.in_front)
      ∙ placed_in-append Append r.copies r.back
      ∙ ap (λ l. l ++ placed_in Append r.back) (none_appended r.copies copies_in)

  back_appended : placed_in Append r.back ≡ r.back
  back_appended = all_appended r.back (each_right IsPlaced r.middle r.back (each_right IsPlaced r.front (r.middle ++ r.back) (subst (AllByRecursion IsPlaced) r.split (each_in_queue t.entries h.sound.in_front)))) r.behind

  sound : AreTableEntries moved.entries
  sound = record {
    consecutive = consecutive_kept content moved.entries h.seen all_moved (consecutive_seen content t.entries h.seen h.moved h.sound.consecutive);
    in_front = subst RewrittenInFront (append_assoc r.front r.copies r.back ∙ sym r.moves)
        (in_two (r.front ++ r.copies) r.back (placed_in-append Rewrite r.front r.copies ∙ ap (λ l. placed_in Rewrite r.front ++ l) copies_in ∙ ap (λ l. l ++ r.copies) r.in_front) back_appended);
  }

  back_spoken : unspoken kept (placed_in Append r.back) ≡ []
  back_spoken = no_back (unspoken kept (placed_in Append r.front ++ placed_in Append r.middle)) (unspoken kept (placed_in Append r.back))
      (sym (unspoken-append kept (placed_in Append r.front ++ placed_in Append r.middle) (placed_in Append r.back))
      ∙ ap (unspoken kept) (append_assoc (placed_in Append r.front) (placed_in Append r.middle) (placed_in Append r.back)
      ∙ ap (λ l. placed_in Append r.front ++ l) (sym (placed_in-append Append r.middle r.back))
      ∙ sym (placed_in-append Append r.front (r.middle ++ r.back)) ∙ ap (placed_in Append) (sym r.split)) ∙ h.spoken)

  same_value : (s : Stored) (o : Option Stored) → IsMovedPair (Some s) o → IsMovedPair (Some (record s { file = file })) o
  same_value s None m = absurd m
  same_value s (Some x) m = (m.0, inr r.of_queue)

  pair_moves : (key : List ℕ) (o : Option Stored) → IsMovedPair (finite.get t.keys key) o → IsMovedPair (finite.get moved.keys key) o
  pair_moves key o m = elim (r.pairs key) [
    | inl stays ↦ subst (λ p. IsMovedPair p o) (sym stays.0) m
    | inr moves ↦ subst (λ p. IsMovedPair p o) (sym moves.2) (same_value moves.0 o (subst (λ p. IsMovedPair p o) moves.1 m))
  ]

  pub rewrite_kept : IsRegionKept content id kept [] put moved
  rewrite_kept = record {
    steps = h.steps;
    sound = sound;
    own = h.own;
    read = h.read;
    seen = h.seen;
    over = h.over;
    moved = all_moved;
    told = unspoken-none put.entries ∙ r.puts ∙ sym rewritten_part;
    covers = h.covers;
    spoken = ap (unspoken kept) appended_part ∙ back_spoken;
    pair_moved = λ key k. pair_moves key (last_pair key kept) (h.pair_moved key k);
    pair_told = λ key s e q. elim (r.pairs key) [
      | inl stays ↦ stays.1 ∙ h.pair_told key s (sym stays.0 ∙ e) q
      | inr moves ↦ moves.3 ∙ sym moves.2 ∙ e
    ];
    pair_gone = λ key e. elim (r.pairs key) [
      | inl stays ↦ stays.1 ∙ h.pair_gone key (sym stays.0 ∙ e)
      | inr moves ↦ absurd (some_none (sym moves.2 ∙ e))
    ];
    pair_covers = h.pair_covers;
    pair_spoken = λ key s e q. elim (r.pairs key) [
      | inl stays ↦ h.pair_spoken key s (sym stays.0 ∙ e) q
      | inr moves ↦ absurd (apart (sym q ∙ ap (λ (x : Stored). x.file.queue) (sym (same_some (record moves.0 { file = file }) s (sym moves.2 ∙ e))) ∙ r.of_queue))
    ];
  }
    where
      some_none : {X : Type 0} {x : X} → Some x ≡ None → ⊥
      some_none e = cc

      apart : Append ≡ Rewrite → ⊥
      apart e = cc
