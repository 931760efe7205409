use Rattle.raft_engine.proofs.Common.{◌≡◌, drop, map, least_among}
use Rattle.raft_engine.proofs.purge.least_file_among.Given as goal

-- the least so far and the tables that are left decide
abbrev pub invariant-loop-table : goal.invariant-loop-table
invariant-loop-table l = least_among l.queue l.least (map (λ t. t.now) (drop l.table-index l.tables)) ≡ least_among l.queue l.last (map (λ t. t.now) l.tables)
