use Rattle.raft_plain.proofs.Common.{[], ℕ, List, map, Option, IsOrdered, nat_cmp, overlaid_table, Table, region_step_shown, RegionStep, Tables, steps_on, table_shown, tables_in, tables_shown}
use Rattle.std.specs.FinMap as finite
use Rattle.raft_plain.proofs.KeyedLemmas.{Rises}
use Rattle.raft_plain.proofs.OverlayLemmas.{AreOverlaidSoFar}
use Rattle.raft_plain.proofs.overlay.overlay_regions.Given as goal

-- what each region is to have
abbrev pub wanted : List RegionStep → Tables → Tables → ℕ → Option Table
wanted ss appended rewritten r = overlaid_table r (steps_on r ss) (finite.get appended r) (finite.get rewritten r)

abbrev pub invariant-loop-id : goal.invariant-loop-id
invariant-loop-id l = record {
  rises : Rises table_shown l.id-iterator;
  ordered : IsOrdered nat_cmp l.appended;
  both_ordered : IsOrdered nat_cmp l.both;
  far : AreOverlaidSoFar (map region_step_shown l.steps) (wanted (map region_step_shown l.steps) (tables_shown l.fn.appended) (tables_shown l.fn.rewritten)) (tables_shown l.appended) (tables_in l.id-iterator) (tables_shown l.both);
}

abbrev pub invariant-loop-id-2 : goal.invariant-loop-id-2
invariant-loop-id-2 l = record {
  rises : Rises table_shown l.id-iterator;
  both_ordered : IsOrdered nat_cmp l.both;
  far : AreOverlaidSoFar (map region_step_shown l.steps) (wanted (map region_step_shown l.steps) (tables_shown l.fn.appended) (tables_shown l.fn.rewritten)) (tables_in l.id-iterator) (tables_in []) (tables_shown l.both);
}
