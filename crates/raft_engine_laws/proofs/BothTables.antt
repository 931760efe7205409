-- The tables that both queues give are overlays.
use Rattle.raft_engine_laws.proofs.Common.{◌≡◌, ℕ, Bool, true, false, cond, not, List, [], ◌++◌, Option, Some, None, refl, sym, ap, subst, ◌∙◌, append-nil, option_or, nat_cmp, slice_cmp, Append, end_of, without, Stored, pairs_over, entries_within, has_clean, greatest_compaction}
use Rattle.raft_engine_laws.proofs.Common.{least_cut, deleted_of, is_unjoined, rewritten_within, overlay, overlaid_table, kept_if, Step, table_of, after, Table, empty_table, get-pairs_over, same_some, get-without, within-nil, within-whole, Event, batches, IsReadingOfBoth}
use Rattle.raft_engine_laws.proofs.Common.{steps_of, is_named, Tables, named-steps}
use Rattle.std.specs.FinMap as finite
use Rattle.std.specs.FinSet as finset
use Rattle.raft_engine_laws.proofs.SameRecords.{HasRecordsOf}

no_entries : (floor : ℕ) (cut : Option ℕ) → rewritten_within floor cut [] [] ++ [] ≡ []
no_entries floor cut = go (is_unjoined cut (end_of []) [])
  where
    go : (b : Bool) → cond b [] (entries_within floor cut []) ++ [] ≡ []
    go true = refl
    go false = ap (λ l. l ++ []) (within-nil floor cut)

no_pairs : (ss : List Step) (key : List ℕ) → finite.get (empty_table 0).keys key ≡ finite.get (pairs_over finite.empty (without (deleted_of finset.empty ss) finite.empty)) key
no_pairs ss key = finite.get-empty (slice_cmp nat_cmp) key
    ∙ sym (get-pairs_over finite.empty (without (deleted_of finset.empty ss) finite.empty) key
    ∙ ap (λ o. option_or o (finite.get (without (deleted_of finset.empty ss) finite.empty) key)) (finite.get-empty (slice_cmp nat_cmp) key)
    ∙ get-without (deleted_of finset.empty ss) finite.empty key ∙ ap (λ o. cond (not (finset.contains (deleted_of finset.empty ss) key)) o None)
    (finite.get-empty (slice_cmp nat_cmp) key) ∙ both (not (finset.contains (deleted_of finset.empty ss) key)))
  where
    both : (b : Bool) → ◌≡◌ {A = Option Stored} (cond b None None) None
    both true = refl
    both false = refl

-- the overlay of tables that may be absent, where it is absent too, has no records
pub overlaid_records : (id : ℕ) (ss : List Step) (a w : Option Table) → HasRecordsOf (table_of id (overlaid_table id ss a w)) (overlay ss (table_of id a) (table_of id w))
overlaid_records id ss (Some a) w = go (has_clean ss)
  where
    go : (b : Bool) → HasRecordsOf (table_of id (kept_if (cond b true true) (overlay ss a (table_of id w)))) (overlay ss a (table_of id w))
    go true = record { entries = refl; pairs = λ key. refl }
    go false = record { entries = refl; pairs = λ key. refl }
overlaid_records id ss None (Some w) = go (has_clean ss) refl
  where
    go : (b : Bool) → has_clean ss ≡ b → HasRecordsOf (table_of id (kept_if (cond b false true) (overlay ss (empty_table id) w))) (overlay ss (empty_table id) w)
    go true c = record {
      entries = sym (ap (λ b. cond b [] (rewritten_within (greatest_compaction ss) (least_cut ss) [] w.entries ++ [])) c);
      pairs = λ key. sym (ap (λ b. finite.get (cond b finite.empty (pairs_over finite.empty (without (deleted_of finset.empty ss) w.keys))) key) c);
    }
    go false c = record { entries = refl; pairs = λ key. refl }
overlaid_records id ss None None = go (has_clean ss) refl
  where
    go : (b : Bool) → has_clean ss ≡ b → HasRecordsOf (table_of id (kept_if (cond b false false) (overlay ss (empty_table id) (empty_table id)))) (overlay ss (empty_table id) (empty_table id))
    go true c = record {
      entries = sym (ap (λ b. cond b [] (rewritten_within (greatest_compaction ss) (least_cut ss) [] [] ++ [])) c);
      pairs = λ key. sym (ap (λ b. finite.get (cond b finite.empty (pairs_over finite.empty (without (deleted_of finset.empty ss) finite.empty)))
          key) c);
    }
    go false c = record {
      entries = sym (ap (λ b. cond b [] (rewritten_within (greatest_compaction ss) (least_cut ss) [] [] ++ [])) c
          ∙ no_entries (greatest_compaction ss) (least_cut ss));
      pairs = λ key. no_pairs ss key
          ∙ sym (ap (λ b. finite.get (cond b finite.empty (pairs_over finite.empty (without (deleted_of finset.empty ss) finite.empty))) key) c);
    }

-- no step of the append queue leaves the rewritten table as it is
pub unnamed_records : (id : ℕ) (w : Option Table) → HasRecordsOf (table_of id w) (overlay [] (empty_table id) (table_of id w))
unnamed_records id w = record {
  entries = sym (append-nil _ ∙ within-whole (table_of id w).entries);
  pairs = λ key. sym (get-pairs_over finite.empty (without finset.empty (table_of id w).keys) key
      ∙ ap (λ o. option_or o (finite.get (without finset.empty (table_of id w).keys) key)) (finite.get-empty (slice_cmp nat_cmp) key)
      ∙ get-without finset.empty (table_of id w).keys key ∙ ap (λ b. cond (not b) (finite.get (table_of id w).keys key) None)
      (finset.contains-empty (slice_cmp nat_cmp) key));
}

module _ (append rewrite : List Event) (found : Tables) (cleaned : List ℕ) (both : IsReadingOfBoth rewrite append found cleaned) (r : ℕ) where
  abbrev kept : List Step
  kept = steps_of r (batches append)

  -- what both queues give has the records of the overlay
  pub both_records : HasRecordsOf (table_of r (finite.get found r)) (overlay kept (table_of r (finite.get both.appended r)) (table_of r (finite.get both.rewritten r)))
  both_records = subst (λ (o : Option Table). HasRecordsOf (table_of r o) (overlay kept (table_of r (finite.get both.appended r)) (table_of r (finite.get both.rewritten r)))) (sym (both.overlaid r)) (go (is_named r (batches append)) refl)
    where
      go : (b : Bool) → is_named r (batches append) ≡ b →
          HasRecordsOf (table_of r (cond b (overlaid_table r kept (finite.get both.appended r) (finite.get both.rewritten r))
          (finite.get both.rewritten r))) (overlay kept (table_of r (finite.get both.appended r)) (table_of r (finite.get both.rewritten r)))
      go true x = overlaid_records r kept (finite.get both.appended r) (finite.get both.rewritten r)
      go false x =
          let none : kept ≡ [] = (named-steps r (batches append)).0 x in
          let absent : finite.get both.appended r ≡ None = sym (same_some None (finite.get both.appended r) (sym (ap (after Append r None) none) ∙ both.append_read.tables_read r)) in
          rw (none, absent) (unnamed_records r (finite.get both.rewritten r))
