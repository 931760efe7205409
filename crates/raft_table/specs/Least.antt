-- The least file of a table in a queue.
use Rattle.std.specs.Prelude.{ℕ, min, nat_le, Option, Some, None, if◌then◌else◌}
use Rattle.raft_base.specs.declared.pipe_log.LogQueue.{LogQueue}
use Rattle.raft_base.specs.declared.pipe_log.LogQueue.TheVariants.{Append, Rewrite}
use Rattle.raft_table.specs.Fetches.{first_entry_seq}
use Rattle.raft_table.specs.KeyValues.{lesser, least, seqs_in}
use Rattle.raft_table.specs.Table.{Table}

-- the least of the file numbers of a queue's first entry and of its pairs
abbrev pub least_seq : LogQueue → Table → Option ℕ
least_seq queue t = lesser (first_entry_seq queue t.entries) (least (seqs_in queue t.keys))

-- a file number, lowered to at most the first one of an atomic group where it is at or below the group's last one
abbrev pub at_most_group_seq : Option (ℕ × ℕ) → Option ℕ → Option ℕ
at_most_group_seq None seq = seq
at_most_group_seq (Some atomic_group) None = None
at_most_group_seq (Some atomic_group) (Some seq) = Some (if nat_le seq atomic_group.1 then min atomic_group.0 seq else seq)

-- the number of the least file of a table in a queue, which an atomic group lowers in the rewrite queue
abbrev pub least_of : LogQueue → Table → Option ℕ
least_of Append t = least_seq Append t
least_of Rewrite t = at_most_group_seq t.atomic_group (least_seq Rewrite t)
