-- The files of all records of a table, and that its least files are the least of them.
use Rattle.std.specs.Prelude.{◌≡◌, ℕ, ◌≤◌, List, ◌++◌, filter_map, Option, Some, None}
use Rattle.std.specs.List.{AllByRecursion}
use Rattle.raft_base.specs.declared.pipe_log.LogQueue.{LogQueue}
use Rattle.raft_base.specs.declared.pipe_log.LogQueue.TheVariants.{Append, Rewrite}
use Rattle.raft_table.specs.Fetches.{place_seq}
use Rattle.raft_table.specs.KeyValues.{least, seqs_in}
use Rattle.raft_table.specs.Least.{at_most_group_seq, least_of}
use Rattle.raft_table.specs.Table.{Table}
use Rattle.raft_table.specs.TableEntries.{placed_in}

-- the numbers of the files of a table's entries and pairs in a queue
abbrev pub record_seqs : LogQueue → Table → List ℕ
record_seqs queue t = filter_map (λ e. place_seq e.entries) (placed_in queue t.entries) ++ seqs_in queue t.keys

-- the number of the least file in each queue is the least of those of all records' files there, lowered by the atomic group alone
pub record AreLeastFiles (t : Table) : Type 0 where
  pub append : least_of Append t ≡ least (record_seqs Append t)
  pub rewrite : least_of Rewrite t ≡ at_most_group_seq t.atomic_group (least (record_seqs Rewrite t))

-- a least number, if there is one, is at or below this one
abbrev pub IsAtOrBelow : Option ℕ → ℕ → Type 0
IsAtOrBelow None n = ⊥
IsAtOrBelow (Some low) n = low ≤ n

-- none of a table's records in a queue is in a file below its least one there
abbrev pub HasNoneBelow : LogQueue → Table → Type 0
HasNoneBelow queue t = AllByRecursion (IsAtOrBelow (least_of queue t)) (record_seqs queue t)
