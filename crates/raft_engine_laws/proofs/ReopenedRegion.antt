-- A kept region that is read again is kept, and all its steps are untold.
use Rattle.raft_engine_laws.proofs.Common.{◌≡◌, ℕ, cond, List, ◌++◌, Some, None, inl, inr, refl, sym, ap, subst, ◌∙◌, append-nil, EntryIndex, Append, Rewrite, Stored, last_pair, overlay, Step, table_of, Table, placed_in, AreTableEntries, RewrittenInFront, placed_in_other}
use Rattle.raft_engine_laws.proofs.Common.{placed_in-append, IsMovedPair, IsRegionKept, unspoken}
use Rattle.std.specs.FinMap as finite
use Rattle.raft_engine_laws.proofs.KeyLemmas.{no_word}
use Rattle.raft_engine_laws.proofs.MovedLemmas.{moved_self}
use Rattle.raft_engine_laws.proofs.OverlaidPairs.{own_last, overlaid_pair_is, by_speaking, whole_left}
use Rattle.raft_engine_laws.proofs.RecoveredRegion.{recovered_are, recovered_entries}
use Rattle.raft_engine_laws.proofs.SoundEntries.{consecutive_seen, in_two}
use Rattle.raft_engine_laws.proofs.UnspokenLemmas.{unspoken-append, unspoken-twice}
use Rattle.raft_engine_laws.proofs.WrittenSteps.{placed-left, moved_pair}

module _ (content : EntryIndex → List ℕ) (id : ℕ) (kept untold : List Step) (rewritten t : Table) (h : IsRegionKept content id kept untold rewritten t)
    (own_places : placed_in Append (table_of id h.own).entries ≡ (table_of id h.own).entries) (places : placed_in Rewrite rewritten.entries ≡ rewritten.entries)
    (own_files : (key : List ℕ) (s : Stored) → last_pair key kept ≡ Some s → s.file.queue ≡ Append) (files : (key : List ℕ) (s : Stored) → finite.get rewritten.keys key ≡ Some s → s.file.queue ≡ Rewrite) where
  abbrev own_entries : List EntryIndex
  own_entries = (table_of id h.own).entries

  abbrev again : Table
  again = overlay kept (table_of id h.own) rewritten

  entries_are : again.entries ≡ unspoken kept rewritten.entries ++ own_entries
  entries_are = recovered_are content id kept untold rewritten t h

  last : (key : List ℕ) → finite.get (table_of id h.own).keys key ≡ last_pair key kept
  last = own_last content id kept untold rewritten t h

  left_placed : placed_in Rewrite (unspoken kept rewritten.entries) ≡ unspoken kept rewritten.entries
  left_placed = placed-left Rewrite kept rewritten.entries ∙ ap (unspoken kept) places

  left_over : unspoken kept again.entries ≡ unspoken kept rewritten.entries
  left_over = ap (unspoken kept) entries_are ∙ unspoken-append kept (unspoken kept rewritten.entries) own_entries
      ∙ ap (λ l. unspoken kept (unspoken kept rewritten.entries) ++ l) h.over.spoken ∙ append-nil _ ∙ unspoken-twice kept rewritten.entries

  sound : AreTableEntries again.entries
  sound = record {
    consecutive = consecutive_seen content t.entries again.entries (recovered_entries content id kept untold rewritten t h) h.sound.consecutive;
    in_front = subst RewrittenInFront (sym entries_are) (in_two (unspoken kept rewritten.entries) own_entries left_placed own_places);
  }

  apart : Append ≡ Rewrite → ⊥
  apart e = cc

  -- whatever its entries are said to have as contents
  pub reopened_kept : (other : EntryIndex → List ℕ) → IsRegionKept other id kept kept rewritten again
  reopened_kept other = record {
    steps = h.steps;
    sound = sound;
    own = h.own;
    read = h.read;
    seen = again.entries;
    over = record { split = entries_are ∙ ap (λ l. l ++ own_entries) (sym left_over); spoken = h.over.spoken };
    moved = moved_self other again.entries;
    told = sym (ap (placed_in Rewrite) entries_are ∙ placed_in-append Rewrite (unspoken kept rewritten.entries) own_entries
        ∙ ap (λ l. l ++ placed_in Rewrite own_entries) left_placed
        ∙ ap (λ l. unspoken kept rewritten.entries ++ l) (ap (placed_in Rewrite) (sym own_places) ∙ placed_in_other Append Rewrite refl own_entries)
        ∙ append-nil _);
    covers = λ i k. k;
    spoken =
        ap (unspoken kept) (ap (placed_in Append) entries_are ∙ placed_in-append Append (unspoken kept rewritten.entries) own_entries
        ∙ ap (λ l. l ++ placed_in Append own_entries)
        (ap (placed_in Append) (sym left_placed) ∙ placed_in_other Rewrite Append refl (unspoken kept rewritten.entries)) ∙ own_places)
        ∙ h.over.spoken;
    pair_moved = λ key k. subst (λ o. IsMovedPair o (last_pair key kept))
        (sym (overlaid_pair_is kept (table_of id h.own).keys rewritten.keys last key
        ∙ ap (λ b. cond b (last_pair key kept) (finite.get rewritten.keys key)) k)) (moved_pair (last_pair key kept));
    pair_told = λ key s e q. elim (by_speaking kept (table_of id h.own).keys rewritten.keys last key (λ o. o ≡ Some s) e) [
      | inl on ↦ absurd (apart (sym (own_files key s on.1) ∙ q))
      | inr off ↦ whole_left kept (table_of id h.own).keys rewritten.keys last key off.0 ∙ off.1
    ];
    pair_gone = λ key e. elim (by_speaking kept (table_of id h.own).keys rewritten.keys last key (λ o. o ≡ None) e) [
      | inl on ↦ ap (λ b. cond b None (finite.get rewritten.keys key)) (no_word key kept on.0 on.1)
      | inr off ↦ whole_left kept (table_of id h.own).keys rewritten.keys last key off.0 ∙ off.1
    ];
    pair_covers = λ key k. k;
    pair_spoken = λ key s e q. elim (by_speaking kept (table_of id h.own).keys rewritten.keys last key (λ o. o ≡ Some s) e) [
      | inl on ↦ on.0
      | inr off ↦ absurd (apart (sym q ∙ files key s off.1))
    ];
  }
