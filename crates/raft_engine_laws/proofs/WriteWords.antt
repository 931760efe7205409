-- A new step of the append queue on a table, and what a step puts.
use Rattle.raft_engine_laws.proofs.Common.{ℕ, List, [], ◌∷◌, Option, Some, option_map, option_and_then, EntryIndex, Append, Step, Run, table_of, after_step, Table, after_append}

-- the entries that a step puts
abbrev pub put_by : Step → List EntryIndex
put_by (Run run) = run
put_by _ = []

-- a table after a new step: a run is not to start in front of all entries
abbrev pub after_write : Table → Step → Option (Option Table)
after_write t (Run run) = option_map Some (after_append t run)
after_write t s = after_step Append t s

-- a region's table, which may be absent, after new steps in order; none where one is refused
abbrev pub after_writes : ℕ → Option Table → List Step → Option (Option Table)
after_writes id o [] = Some o
after_writes id o (s ∷ ss) = option_and_then (λ u. after_writes id u ss) (after_write (table_of id o) s)
