use Rattle.raft_engine.proofs.Common.{◌≡◌, ◌++◌, drop, map}
use Rattle.raft_engine.proofs.rewriting.region_ids_of.Given as goal

-- the ids so far, and those of the tables that are left, are those of all
abbrev pub invariant-loop-table : goal.invariant-loop-table
invariant-loop-table l = l.ids.items ++ map (λ t. t.now.region_id) (drop l.table-index l.tables) ≡ map (λ t. t.now.region_id) l.tables
