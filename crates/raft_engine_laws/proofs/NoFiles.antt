-- Without a file there are no tables.
use Rattle.raft_engine_laws.proofs.Common.{◌≡◌, ℕ, List, [], Option, Some, None, refl, sym, ap, subst, ◌∙◌, append-nil, false≢true, nat_cmp, slice_cmp, EntryIndex, Append, Rewrite, Stored, table_of, Table, empty_table, placed_in, AreTableEntries-nil, effects_behind, own_none}
use Rattle.raft_engine_laws.proofs.Common.{IsRegionKept, AreKept, unspoken}
use Rattle.std.specs.FinMap as finite
use Rattle.raft_engine_laws.proofs.RewriteReadings.{reading_of, no_tables}
use Rattle.raft_engine_laws.proofs.UnspokenLemmas.{unspoken-nil}

no_pair : (key : List ℕ) (s : Stored) → finite.get (empty_table 0).keys key ≡ Some s → ⊥
no_pair key s e = none_some (sym (finite.get-empty (slice_cmp nat_cmp) key) ∙ e)
  where
    none_some : None ≡ Some s → ⊥
    none_some e = cc

placed-nil : placed_in Rewrite [] ≡ []
unfolding placed_in
placed-nil = refl

appended-nil : placed_in Append [] ≡ []
unfolding placed_in
appended-nil = refl

new_kept : (content : EntryIndex → List ℕ) (r : ℕ) → IsRegionKept content r [] [] (empty_table r) (empty_table r)
new_kept content r = record {
  steps = tt;
  sound = AreTableEntries-nil;
  own = None;
  read = refl;
  seen = [];
  over = record { split = sym (append-nil (unspoken [] []) ∙ unspoken-nil []); spoken = unspoken-nil [] };
  moved = tt;
  told = unspoken-nil [] ∙ sym placed-nil;
  covers = λ i k. absurd (false≢true k);
  spoken = ap (unspoken []) appended-nil ∙ unspoken-nil [];
  pair_moved = λ key k. absurd (false≢true k);
  pair_told = λ key s e q. absurd (no_pair key s e);
  pair_gone = λ key e. e;
  pair_covers = λ key k. absurd (false≢true k);
  pair_spoken = λ key s e q. absurd (no_pair key s e);
}

none : (r : ℕ) → finite.get no_tables r ≡ None
none r = finite.get-empty nat_cmp r

pub none_kept : (content : EntryIndex → List ℕ) → AreKept content [] [] [] no_tables
unfolding effects_behind
none_kept content = record {
  append_sound = record { files = tt; items = tt; markers = tt; accepted = λ r. (None, refl) };
  rewrite_sound = record { files = tt; items = tt; markers = tt; accepted = λ r. (None, refl) };
  apart = record { each = tt };
  rewritten = no_tables;
  read = reading_of [] no_tables (λ r. ap (λ (o : Option Table). Some o) (sym (none r)));
  each = λ r. subst (λ l. IsRegionKept content r [] l (table_of r (finite.get no_tables r)) (table_of r (finite.get no_tables r))) (sym (own_none r))
      (subst (λ (o : Option Table). IsRegionKept content r [] [] (table_of r o) (table_of r o)) (sym (none r)) (new_kept content r));
}
