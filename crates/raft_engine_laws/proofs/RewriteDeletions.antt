-- The front of the rewrite files is deleted.
use Rattle.raft_engine_laws.proofs.Common.{◌≡◌, ℕ, List, [], ◌++◌, Option, Some, None, inr, refl, sym, ap, subst, ◌∙◌, append-nil, option_and_then, slice_cmp, nat_cmp, EntryIndex, Rewrite, Stored, table_of, after, Table, last_pair_stands, same_some, after-append, no_table}
use Rattle.raft_engine_laws.proofs.Common.{table_after, Event, batches, effects, steps_of, EachApart, groups_in, whole_groups, apart_back, sound_in_front, sound_in_back, IsSoundIn, IsOneReading, Tables, batches-append, steps_good, own_none, NeedsNoneBelow, AreFilesBelow}
use Rattle.raft_engine_laws.proofs.Common.{IsRegionKept, AreKept}
use Rattle.std.specs.FinMap as finite
use Rattle.raft_engine_laws.proofs.FileSteps.{steps_below}
use Rattle.raft_engine_laws.proofs.GroupLemmas.{steps_split}
use Rattle.raft_engine_laws.proofs.LowEntries.{pair_below}
use Rattle.raft_engine_laws.proofs.LowSteps.{steps_low}
use Rattle.raft_engine_laws.proofs.PurgedRewrites.{AreBehind, IsPairBehind, steps_behind, purge_kept}
use Rattle.raft_engine_laws.proofs.RewriteReadings.{reading_there}

module _ (content : EntryIndex → List ℕ) (n : ℕ) (append dropped later : List Event) (tables : Tables) (h : AreKept content append (dropped ++ later) [] tables)
    (no_group : whole_groups (groups_in (batches dropped)) (groups_in (batches later)) ≡ []) (below : AreFilesBelow n dropped) (needs : (r : ℕ) → NeedsNoneBelow Rewrite n (table_of r (finite.get tables r))) where
  abbrev alone : Tables
  alone = (reading_there later).0

  read : IsOneReading Rewrite later alone []
  read = (reading_there later).1

  old : IsSoundIn Rewrite dropped
  old = sound_in_front Rewrite dropped later h.rewrite_sound

  rest : IsSoundIn Rewrite later
  rest = sound_in_back Rewrite dropped later h.rewrite_sound

  together : EachApart (effects (batches dropped ++ batches later))
  together = subst (λ l. EachApart (effects l)) (batches-append dropped later) h.apart.each

  two : (r : ℕ) → steps_of r (batches (dropped ++ later)) ≡ steps_of r (batches dropped) ++ steps_of r (batches later)
  two r = ap (steps_of r) (batches-append dropped later) ∙ steps_split r (batches dropped) (batches later) together no_group

  split : (r : ℕ) → (gone : Option Table) × (after Rewrite r None (steps_of r (batches dropped)) ≡ Some gone) × (after Rewrite r gone (steps_of r (batches later)) ≡ Some (finite.get h.rewritten r))
  split r = go (after Rewrite r None (steps_of r (batches dropped))) refl (sym (ap (after Rewrite r None) (two r) ∙ after-append Rewrite r None (steps_of r (batches dropped)) (steps_of r (batches later))) ∙ h.read.tables_read r)
    where
      go : (x : Option (Option Table)) → after Rewrite r None (steps_of r (batches dropped)) ≡ x →
          option_and_then (λ u. after Rewrite r u (steps_of r (batches later))) x ≡ Some (finite.get h.rewritten r) →
          (gone : Option Table) × (after Rewrite r None (steps_of r (batches dropped)) ≡ Some gone) ×
          (after Rewrite r gone (steps_of r (batches later)) ≡ Some (finite.get h.rewritten r))
      go None e k = absurd cc
      go (Some u) e k = (u, e, k)

  -- the table of dropped batches is in files below the number
  gone_low : (r : ℕ) → AreBehind n (table_of r None) (table_of r (split r).0)
  gone_low r = record {
    entries = record { older = (table_of r (split r).0).entries; split = sym (append-nil _); low = steps_low n r None (split r).0 (steps_of r (batches dropped)) (steps_below n r dropped below old.items) tt (split r).1 };
    pairs = λ key. no_own key (finite.get (table_of r (split r).0).keys key) refl;
  }
    where
      no_own : (key : List ℕ) (o : Option Stored) → finite.get (table_of r (split r).0).keys key ≡ o → IsPairBehind n (finite.get (table_of r None).keys key) o
      no_own key None e = finite.get-empty (slice_cmp nat_cmp) key
      no_own key (Some s) e = inr (
        finite.get-empty (slice_cmp nat_cmp) key,
        pair_below n key (steps_of r (batches dropped)) s
            (steps_below n r dropped below old.items) (sym (last_pair_stands Rewrite key r (split r).0 (steps_of r (batches dropped)) (split r).1) ∙ e),
      )

  behind : (r : ℕ) → AreBehind n (table_of r (finite.get alone r)) (table_of r (finite.get h.rewritten r))
  behind r =
      let b : (w : Option Table) × (after Rewrite r None (steps_of r (batches later)) ≡ Some w) × AreBehind n (table_of r w) (table_of r (finite.get h.rewritten r)) =
      steps_behind n r None (split r).0 (finite.get h.rewritten r) (steps_of r (batches later)) (steps_good r later rest.items) (gone_low r)
      (table_after Rewrite r None (split r).0 (steps_of r (batches dropped)) (steps_good r dropped old.items) (no_table r) (split r).1)
      (split r).2 in
      subst (λ (u : Option Table). AreBehind n (table_of r u) (table_of r (finite.get h.rewritten r))) (same_some b.0 (finite.get alone r) (sym b.1 ∙ read.tables_read r)) b.2

  -- the front of the rewrite files is deleted
  pub purged : AreKept content append later [] tables
  purged = record {
    append_sound = h.append_sound;
    rewrite_sound = rest;
    apart = apart_back dropped later h.apart;
    rewritten = alone;
    read = read;
    each = λ r. subst (λ l. IsRegionKept content r (steps_of r (batches append)) l (table_of r (finite.get alone r)) (table_of r (finite.get tables r))) (sym (own_none r))
        (purge_kept content r n (steps_of r (batches append)) (table_of r (finite.get h.rewritten r)) (table_of r (finite.get alone r)) (table_of r (finite.get tables r))
        (subst (λ l. IsRegionKept content r (steps_of r (batches append)) l (table_of r (finite.get h.rewritten r)) (table_of r (finite.get tables r))) (own_none r) (h.each r)) (behind r) (needs r));
  }
