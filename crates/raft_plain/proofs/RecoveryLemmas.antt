-- What recovery gives of plain readings.
use Rattle.raft_plain.proofs.Common.{◌≡◌, Bool, true, false, cond, List, [], ◌∷◌, ℕ, Option, Some, None, refl, sym, ap, subst, ◌∙◌, map, arith, BTreeMap, IsOrdered, is_at, lookup, option_map, nat_cmp, LogQueue, Append, Rewrite, live, overlaid_table, Step, after, Table, some_is}
use Rattle.raft_plain.proofs.Common.{named-steps, Event, batches, is_named, steps_of, IsOneReading, cleaned_in, region_step_shown, Tables, cleaned_by_steps, live_in_all, AreBothRecovered, IsRecovered, Reading, Recovered, Region, AreOverlaid, recovered_shown, table_shown}
use Rattle.raft_plain.proofs.Common.{tables_shown, HasRead, IsReadOf}
use Rattle.std.specs.FinMap as finite
use Rattle.raft_plain.proofs.KeyedLemmas.{get-of}
use Rattle.raft_plain.proofs.OverlayLemmas.{unnamed_stays}

none_cleaned : (h : List Event) → cleaned_in Rewrite h ≡ []
none_cleaned [] = refl
none_cleaned (e ∷ h) = none_cleaned h

cleaned_is : (q : LogQueue) (reading : Reading) (h : List Event) → HasRead q reading h → cleaned_by_steps q (map region_step_shown reading.steps.items) ≡ cleaned_in q h
cleaned_is Append reading h read = (read.steps refl).cleaned
cleaned_is Rewrite reading h read = sym (none_cleaned h)

-- the counts of what was recovered
abbrev pub AreCounted : Recovered → Type 0
AreCounted r = (r.append ≡ live_in_all Append (tables_shown r.regions)) × (r.rewrite ≡ live_in_all Rewrite (tables_shown r.regions))

counts_are : (r : Recovered) → AreCounted r → (q : LogQueue) → live q (recovered_shown r).counts ≡ live_in_all q (tables_shown r.regions)
counts_are r counted Append = counted.0
counts_are r counted Rewrite = let is = counted.1 in omega (arith, is)

pub recovered : (q : LogQueue) (IsHistory : List Event → Type 0) (reading : Reading) (r : Recovered) → IsReadOf q IsHistory reading → r.regions ≡ reading.regions
    → r.cleaned.items ≡ cleaned_by_steps q (map region_step_shown reading.steps.items) → AreCounted r → IsRecovered q IsHistory (recovered_shown r)
recovered q IsHistory reading r read same cleaned counted = record {
  history = read.history;
  held = read.held;
  sound = λ small. (read.read small).sound;
  one_reading = λ small apart.
      let is = read.read small in
      subst (λ (m : BTreeMap ℕ Region). IsOneReading q read.history (tables_shown m) r.cleaned.items) (sym same)
      (subst (IsOneReading q read.history (tables_shown reading.regions)) (sym (cleaned ∙ cleaned_is q reading read.history is)) is.one_reading);
  exact_counts = counts_are r counted;
}

-- a region's table is its own
region_own : (m : BTreeMap ℕ Region) (id : ℕ) (t : Table) → IsOrdered nat_cmp m → finite.get (tables_shown m) id ≡ Some t → t.region_id ≡ id
region_own m id t ordered is = go (lookup (is_at (nat_cmp id)) m.entries) (sym (get-of table_shown m.entries id ordered) ∙ is)
  where
    go : (o : Option Region) → option_map (table_shown id) o ≡ Some t → t.region_id ≡ id
    go None e = absurd cc
    go (Some r) e = ap (λ (x : Table). x.region_id) (sym (some_is e))

module _ (rewrite append : List Event) (older newer : Reading) (both : Tables) (read_rewrite : HasRead Rewrite older rewrite) (read_append : HasRead Append newer append)
    (overlaid : AreOverlaid (map region_step_shown newer.steps.items) (tables_shown newer.regions) (tables_shown older.regions) both) (ordered : IsOrdered nat_cmp older.regions) where
  pub overlaid_by_name : (r : ℕ) → finite.get both r ≡ cond (is_named r (batches append)) (overlaid_table r (steps_of r (batches append)) (finite.get (tables_shown newer.regions) r) (finite.get (tables_shown older.regions) r)) (finite.get (tables_shown older.regions) r)
  overlaid_by_name r = overlaid r ∙ ap (λ (ss : List Step). overlaid_table r ss a w) ((read_append.steps refl).each r) ∙ go (is_named r (batches append)) refl
    where
      a : Option Table
      a = finite.get (tables_shown newer.regions) r

      w : Option Table
      w = finite.get (tables_shown older.regions) r

      go : (b : Bool) → is_named r (batches append) ≡ b → overlaid_table r (steps_of r (batches append)) a w ≡ cond b (overlaid_table r (steps_of r (batches append)) a w) w
      go true e = refl
      go false e =
          let none : steps_of r (batches append) ≡ [] = (named-steps r (batches append)).0 e in
          ap (λ (ss : List Step). overlaid_table r ss a w) none
          ∙ unnamed_stays r a w (sym (some_is (ap (after Append r None) (sym none) ∙ read_append.one_reading.tables_read r))) (λ t is. region_own older.regions r t ordered is)

pub both_recovered : (IsRewritten IsAppended : List Event → Type 0) (older newer : Reading) (r : Recovered) → IsOrdered nat_cmp older.regions → IsReadOf Rewrite IsRewritten older → IsReadOf Append IsAppended newer
    → AreOverlaid (map region_step_shown newer.steps.items) (tables_shown newer.regions) (tables_shown older.regions) (tables_shown r.regions)
    → r.cleaned.items ≡ cleaned_by_steps Append (map region_step_shown newer.steps.items) → AreCounted r → AreBothRecovered IsRewritten IsAppended (recovered_shown r)
both_recovered IsRewritten IsAppended older newer r ordered rewrite append overlaid cleaned counted = record {
  rewrite = rewrite.history;
  append = append.history;
  rewrite_held = rewrite.held;
  append_held = append.held;
  rewrite_sound = λ small. (rewrite.read small).sound;
  append_sound = λ small. (append.read small).sound;
  reading = λ few small apart.
      let w = rewrite.read few in
      let a = append.read small in
      record {
        rewritten = tables_shown older.regions;
        appended = tables_shown newer.regions;
        rewrite_read = subst (IsOneReading Rewrite rewrite.history (tables_shown older.regions)) (none_cleaned rewrite.history) w.one_reading;
        append_read = subst (IsOneReading Append append.history (tables_shown newer.regions)) (sym (cleaned ∙ cleaned_is Append newer append.history a)) a.one_reading;
        overlaid = overlaid_by_name rewrite.history append.history older newer (tables_shown r.regions) w a overlaid ordered;
      };
  exact_counts = counts_are r counted;
}
