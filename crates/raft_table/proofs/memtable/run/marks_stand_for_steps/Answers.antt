use Rattle.raft_table.proofs.Facts.{end_at_reach, table_of, holds_join, deleted_count, stands_one, stands_join, refused_join, stands_alone, joined_parts}
use Rattle.raft_table.proofs.memtable.run.marks_stand_for_steps.Goals as goal

pub returns : goal.returns
returns c = record {
  one = stands_one;
  joins = stands_join;
  refused = refused_join;
  alone = stands_alone;
  deleted = λ q id m n t ss rs h e f.
      let p = joined_parts q (end_at_reach n (table_of id t)) m n (table_of id t).entries h.fits in
      holds_join m n _ ss rs e f p.0 p.1;
  few_deleted = deleted_count;
}
