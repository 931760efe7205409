-- Where no rewritten entry is left in front of what was found, nothing is told at once.
use Rattle.raft_engine_laws.proofs.Common.{◌≡◌, ◌≢◌, ℕ, List, [], ◌∷◌, Option, Some, None, refl, sym, ◌∙◌, Append, Rewrite, Item, Step, table_of, no_table, table_after, Event, batches, IsReadingOfBoth, steps_of, IsSoundIn, Tables, content_step, steps_of_items, steps_on}
use Rattle.raft_engine_laws.proofs.Common.{steps_good, own_head, with_step, IsToldByMark, Joins, AreAllSteps}
use Rattle.std.specs.FinMap as finite
use Rattle.raft_engine_laws.proofs.BothTables.{both_records}
use Rattle.raft_engine_laws.proofs.ToldNow.{none_at_once}

no_step : (s : Step) (ss : List Step) → s ∷ ss ≡ [] → ⊥
no_step s ss e = absurd cc

-- items that are steps, but of no region, are none
no_items : (items : List Item) → AreAllSteps items → ((r : ℕ) → steps_on r (steps_of_items items) ≡ []) → items ≡ []
no_items [] h none = refl
no_items (item ∷ items) h none = absurd (go (content_step item.content) h.0 (none item.raft_group_id))
  where
    go : (o : Option Step) → o ≢ None → steps_on item.raft_group_id (with_step item.raft_group_id o (steps_of_items items)) ≡ [] → ⊥
    go None some e = some refl
    go (Some s) some e =
        no_step s (steps_on item.raft_group_id (steps_of_items items)) (sym (own_head (record { region = item.raft_group_id; step = s }) (steps_of_items items)) ∙ e)

pub nothing_told : (append rewrite : List Event) (found : Tables) (cleaned : List ℕ) → IsSoundIn Append append → IsSoundIn Rewrite rewrite → (both : IsReadingOfBoth rewrite append found cleaned)
    → ((r : ℕ) → Joins (steps_of r (batches append)) (table_of r (finite.get both.rewritten r)) (table_of r (finite.get found r)))
    → (items : List Item) → AreAllSteps items → (untold : ℕ → List Step)
    → ((r : ℕ) → IsToldByMark (steps_of r (batches append)) (steps_on r (steps_of_items items)) (untold r) (table_of r (finite.get both.appended r)) (table_of r (finite.get both.rewritten r)))
    → items ≡ []
nothing_told append rewrite found cleaned sound sound_too both joins items steps untold tells = no_items items steps (λ r.
    (tells r).at_once
    ∙ none_at_once r (steps_of r (batches append)) (finite.get both.appended r) (table_of r (finite.get both.rewritten r)) (table_of r (finite.get found r)) (tells r).mark (tells r).exact
    (steps_good r append sound.items) (both.append_read.tables_read r)
    (table_after Rewrite r None (finite.get both.rewritten r) (steps_of r (batches rewrite)) (steps_good r rewrite sound_too.items) (no_table r) (both.rewrite_read.tables_read r)).run
    (both_records append rewrite found cleaned both r).entries (joins r))
