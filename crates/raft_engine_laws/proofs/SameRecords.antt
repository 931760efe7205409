-- A table with the same records as a kept one is kept.
use Rattle.raft_engine_laws.proofs.Common.{◌≡◌, ℕ, List, sym, ap, subst, ◌∙◌, EntryIndex, Append, Rewrite, last_pair, Step, Table, placed_in, AreTableEntries, IsMovedPair, IsRegionKept, AreMoved, unspoken}
use Rattle.std.specs.FinMap as finite

-- a table's entries, and the pairs under each key, are those of another
pub record HasRecordsOf (t u : Table) : Type 0 where
  pub entries : t.entries ≡ u.entries
  pub pairs : (key : List ℕ) → finite.get t.keys key ≡ finite.get u.keys key

pub kept_records : (content : EntryIndex → List ℕ) (id : ℕ) (kept untold : List Step) (rewritten t u : Table) → HasRecordsOf u t → IsRegionKept content id kept untold rewritten t → IsRegionKept content id kept untold rewritten u
kept_records content id kept untold rewritten t u same h = record {
  steps = h.steps;
  sound = subst AreTableEntries (sym same.entries) h.sound;
  own = h.own;
  read = h.read;
  seen = h.seen;
  over = h.over;
  moved = subst (λ l. AreMoved content l h.seen) (sym same.entries) h.moved;
  told = h.told ∙ ap (placed_in Rewrite) (sym same.entries);
  covers = h.covers;
  spoken = ap (λ l. unspoken kept (placed_in Append l)) same.entries ∙ h.spoken;
  pair_moved = λ key k. subst (λ o. IsMovedPair o (last_pair key kept)) (sym (same.pairs key)) (h.pair_moved key k);
  pair_told = λ key s e q. h.pair_told key s (sym (same.pairs key) ∙ e) q;
  pair_gone = λ key e. h.pair_gone key (sym (same.pairs key) ∙ e);
  pair_covers = h.pair_covers;
  pair_spoken = λ key s e q. h.pair_spoken key s (sym (same.pairs key) ∙ e) q;
}
