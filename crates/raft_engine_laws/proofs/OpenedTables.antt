-- A region of any files that a recovery could read: once the rewrite queue is told, what was found is kept.
use Rattle.raft_engine_laws.proofs.Common.{◌≡◌, ℕ, Bool, true, false, cond, List, [], ◌∷◌, ◌++◌, Option, Some, None, inl, inr, refl, sym, ap, subst, ◌∙◌, append-nil, false≢true, EntryIndex, Append, Rewrite, IsRun, Stored, last_pair, overlay, Step, Compact, AreSteps, table_of}
use Rattle.raft_engine_laws.proofs.Common.{after, Table, placed_in, start_of, AreTableEntries, last_pair_stands, placed_in_other, placed_in-append, IsMovedPair, IsRegionKept, unspoken, is_key_dropped, pair_left, AreRemovals, SayEnoughAtOpening, MayBeToldLater}
use Rattle.std.specs.FinMap as finite
use Rattle.raft_engine_laws.proofs.KeyLemmas.{no_word}
use Rattle.raft_engine_laws.proofs.MovedLemmas.{moved_self}
use Rattle.raft_engine_laws.proofs.OpenedEntries.{LeavesOf, leaves, own_spoken}
use Rattle.raft_engine_laws.proofs.OverlaidPairs.{overlaid_pair_is, by_speaking, whole_left}
use Rattle.raft_engine_laws.proofs.ToldRegion.{removals_entries, removals_pair}
use Rattle.raft_engine_laws.proofs.UnspokenLemmas.{unspoken-append, unspoken-steps, unspoken-swap, unspoken-twice, unspoken-none}
use Rattle.raft_engine_laws.proofs.WrittenSteps.{placed-left, moved_pair}

module _ (content : EntryIndex → List ℕ) (id : ℕ) (kept : List Step) (own rewritten : Option Table) (good : AreSteps kept) (is : after Append id None kept ≡ Some own) (run : IsRun (table_of id rewritten).entries)
    (sound : AreTableEntries (overlay kept (table_of id own) (table_of id rewritten)).entries)
    (own_places : placed_in Append (table_of id own).entries ≡ (table_of id own).entries) (places : placed_in Rewrite (table_of id rewritten).entries ≡ (table_of id rewritten).entries)
    (own_files : (key : List ℕ) (s : Stored) → last_pair key kept ≡ Some s → s.file.queue ≡ Append) (files : (key : List ℕ) (s : Stored) → finite.get (table_of id rewritten).keys key ≡ Some s → s.file.queue ≡ Rewrite) where
  abbrev found : Table
  found = overlay kept (table_of id own) (table_of id rewritten)

  abbrev own_entries : List EntryIndex
  own_entries = (table_of id own).entries

  abbrev old : Table
  old = table_of id rewritten

  l : LeavesOf kept own_entries old.entries found.entries
  l = leaves id kept own old.entries good is run

  left_is : l.left ≡ unspoken (Compact (start_of found.entries) ∷ []) (unspoken kept old.entries)
  left_is = sym l.told ∙ sym (unspoken-steps kept (Compact (start_of found.entries) ∷ []) old.entries)

  left_unspoken : unspoken kept l.left ≡ l.left
  left_unspoken = ap (unspoken kept) left_is ∙ unspoken-swap (Compact (start_of found.entries) ∷ []) kept (unspoken kept old.entries) ∙ ap (unspoken (Compact (start_of found.entries) ∷ [])) (unspoken-twice kept old.entries) ∙ sym left_is

  left_placed : placed_in Rewrite l.left ≡ l.left
  left_placed = ap (placed_in Rewrite) (sym l.told) ∙ placed-left Rewrite (kept ++ Compact (start_of found.entries) ∷ []) old.entries ∙ ap (unspoken (kept ++ Compact (start_of found.entries) ∷ [])) places ∙ l.told

  spoken : unspoken kept own_entries ≡ []
  spoken = own_spoken id kept own good is

  last : (key : List ℕ) → finite.get (table_of id own).keys key ≡ last_pair key kept
  last key = last_pair_stands Append key id own kept is

  apart : Append ≡ Rewrite → ⊥
  apart e = cc

  -- once the rewrite queue is told all
  module _ (put : Option Table) (told : List Step) (removals : AreRemovals told) (says : SayEnoughAtOpening kept told old found) (puts : after Rewrite id rewritten told ≡ Some put) where
    put_entries : (table_of id put).entries ≡ l.left
    put_entries = removals_entries Rewrite id rewritten put told removals puts ∙ says.entries ∙ l.told

    put_pair : (key : List ℕ) → finite.get (table_of id put).keys key ≡ pair_left kept key (finite.get old.keys key)
    put_pair key = removals_pair Rewrite key id rewritten put told removals puts ∙ says.pairs key

    -- what was found is kept, and the rewrite queue is told all
    pub opened_kept : IsRegionKept content id kept [] (table_of id put) found
    opened_kept = record {
      steps = good;
      sound = sound;
      own = own;
      read = is;
      seen = found.entries;
      over = record { split = l.split ∙ ap (λ x. x ++ own_entries) (sym (ap (unspoken kept) l.split ∙ unspoken-append kept l.left own_entries ∙ ap (λ x. unspoken kept l.left ++ x) spoken ∙ append-nil _ ∙ left_unspoken)); spoken = spoken };
      moved = moved_self content found.entries;
      told = unspoken-none (table_of id put).entries ∙ put_entries
          ∙ sym (ap (placed_in Rewrite) l.split ∙ placed_in-append Rewrite l.left own_entries
          ∙ ap (λ x. placed_in Rewrite l.left ++ x) (ap (placed_in Rewrite) (sym own_places) ∙ placed_in_other Append Rewrite refl own_entries)
          ∙ append-nil _ ∙ left_placed);
      covers = λ i k. absurd (false≢true k);
      spoken = ap (unspoken kept) (ap (placed_in Append) l.split ∙ placed_in-append Append l.left own_entries
          ∙ ap (λ x. x ++ placed_in Append own_entries) (ap (placed_in Append) (sym left_placed) ∙ placed_in_other Rewrite Append refl l.left)
          ∙ own_places) ∙ spoken;
      pair_moved = λ key k. subst (λ o. IsMovedPair o (last_pair key kept))
          (sym (overlaid_pair_is kept (table_of id own).keys old.keys last key ∙ ap (λ b. cond b (last_pair key kept) (finite.get old.keys key)) k))
          (moved_pair (last_pair key kept));
      pair_told = λ key s e q. elim (by_speaking kept (table_of id own).keys old.keys last key (λ o. o ≡ Some s) e) [
        | inl on ↦ absurd (apart (sym (own_files key s on.1) ∙ q))
        | inr off ↦ put_pair key ∙ whole_left kept (table_of id own).keys old.keys last key off.0 ∙ off.1
      ];
      pair_gone = λ key e. elim (by_speaking kept (table_of id own).keys old.keys last key (λ o. o ≡ None) e) [
        | inl on ↦ put_pair key ∙ ap (λ b. cond b None (finite.get old.keys key)) (no_word key kept on.0 on.1)
        | inr off ↦ put_pair key ∙ whole_left kept (table_of id own).keys old.keys last key off.0 ∙ off.1
      ];
      pair_covers = λ key k. absurd (false≢true k);
      pair_spoken = λ key s e q. elim (by_speaking kept (table_of id own).keys old.keys last key (λ o. o ≡ Some s) e) [
        | inl on ↦ on.0
        | inr off ↦ absurd (apart (sym q ∙ files key s off.1))
      ];
    }

    -- what would be told once more, if the entries that are found begin where they did, is nothing
    pub again_nothing : (again : Table) → start_of again.entries ≡ start_of found.entries → SayEnoughAtOpening kept [] (table_of id put) again
    again_nothing again same = record {
      entries = unspoken-none (table_of id put).entries
          ∙ sym (ap (λ i. unspoken (kept ++ Compact i ∷ []) (table_of id put).entries) same
          ∙ ap (unspoken (kept ++ Compact (start_of found.entries) ∷ [])) by_prefix
          ∙ unspoken-twice (kept ++ Compact (start_of found.entries) ∷ []) old.entries
          ∙ sym by_prefix);
      pairs = λ key. put_pair key ∙ sym (ap (pair_left kept key) (put_pair key) ∙ twice (is_key_dropped kept key) (finite.get old.keys key));
    }
      where
        by_prefix : (table_of id put).entries ≡ unspoken (kept ++ Compact (start_of found.entries) ∷ []) old.entries
        by_prefix = put_entries ∙ sym l.told

        twice : (b : Bool) (o : Option Stored) → cond b None (cond b None o) ≡ cond b None o
        twice true o = refl
        twice false o = refl

  -- where what was found of the rewritten entries is what the kept steps leave of them
  module _ (untold : List Step) (later : MayBeToldLater kept untold old found) where
    -- what was found is kept, and the rewrite queue is told later
    pub later_kept : IsRegionKept content id kept untold old found
    later_kept = record {
      steps = good;
      sound = sound;
      own = own;
      read = is;
      seen = found.entries;
      over = record { split = l.split ∙ ap (λ x. x ++ own_entries) (sym (ap (unspoken kept) l.split ∙ unspoken-append kept l.left own_entries ∙ ap (λ x. unspoken kept l.left ++ x) spoken ∙ append-nil _ ∙ left_unspoken)); spoken = spoken };
      moved = moved_self content found.entries;
      told = later.entries ∙ sym later.joins ∙ l.told
          ∙ sym (ap (placed_in Rewrite) l.split ∙ placed_in-append Rewrite l.left own_entries
          ∙ ap (λ x. placed_in Rewrite l.left ++ x) (ap (placed_in Rewrite) (sym own_places) ∙ placed_in_other Append Rewrite refl own_entries)
          ∙ append-nil _ ∙ left_placed);
      covers = later.covers;
      spoken = ap (unspoken kept) (ap (placed_in Append) l.split ∙ placed_in-append Append l.left own_entries
          ∙ ap (λ x. x ++ placed_in Append own_entries) (ap (placed_in Append) (sym left_placed) ∙ placed_in_other Rewrite Append refl l.left)
          ∙ own_places) ∙ spoken;
      pair_moved = λ key k. subst (λ o. IsMovedPair o (last_pair key kept))
          (sym (overlaid_pair_is kept (table_of id own).keys old.keys last key ∙ ap (λ b. cond b (last_pair key kept) (finite.get old.keys key)) k))
          (moved_pair (last_pair key kept));
      pair_told = λ key s e q. elim (by_speaking kept (table_of id own).keys old.keys last key (λ o. o ≡ Some s) e) [
        | inl on ↦ absurd (apart (sym (own_files key s on.1) ∙ q))
        | inr off ↦ later.pairs key ∙ whole_left kept (table_of id own).keys old.keys last key off.0 ∙ off.1
      ];
      pair_gone = λ key e. elim (by_speaking kept (table_of id own).keys old.keys last key (λ o. o ≡ None) e) [
        | inl on ↦ later.pairs key ∙ ap (λ b. cond b None (finite.get old.keys key)) (no_word key kept on.0 on.1)
        | inr off ↦ later.pairs key ∙ whole_left kept (table_of id own).keys old.keys last key off.0 ∙ off.1
      ];
      pair_covers = later.pair_covers;
      pair_spoken = λ key s e q. elim (by_speaking kept (table_of id own).keys old.keys last key (λ o. o ≡ Some s) e) [
        | inl on ↦ on.0
        | inr off ↦ absurd (apart (sym q ∙ files key s off.1))
      ];
    }
