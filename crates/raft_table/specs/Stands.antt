-- That a region mark and an own table stand for steps.
use Rattle.std.specs.Prelude.{◌≡◌, ℕ, List, Option}
use Rattle.raft_base.specs.declared.pipe_log.LogQueue.{LogQueue}
use Rattle.raft_table.specs.Marks.{Mark, table_over_older}
use Rattle.raft_table.specs.MarkFits.{Fits}
use Rattle.raft_table.specs.Steps.{Step, table_of, after, IsTableOf}
use Rattle.raft_table.specs.Table.{Table}

-- the region mark and the own table stand for the steps: over every older table of the region the steps give what the region mark says, or both are refused; the own table is the region's, and fits the region mark
pub record Stands (queue : LogQueue) (id : ℕ) (m : Mark) (own : Option Table) (ss : List Step) : Type 0 where
  pub own_table : IsTableOf id (table_of id own)
  pub fits : Fits queue m (table_of id own).entries
  pub every : (older : Option Table) → IsTableOf id (table_of id older) → after queue id older ss ≡ table_over_older queue id m own older
