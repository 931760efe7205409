use Rattle.raft_table.proofs.Facts.{end_at_reach, table_of, exact_one, exact_join, overlay_exact, overlay_run}
use Rattle.raft_table.proofs.memtable.run.overlays_by_marks.Goals as goal

pub returns : goal.returns
returns c = record {
  one = exact_one;
  joins = λ id m n t ss rs h e f. exact_join (end_at_reach n (table_of id t)) m n (table_of id t).entries ss rs h.fits e f;
  overlay = overlay_exact;
  run = overlay_run;
}
