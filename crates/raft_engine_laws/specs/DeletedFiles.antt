-- Files that are deleted: those below a number, where no table needs one.
use Rattle.std.specs.Prelude.{◌≡◌, ℕ, ◌<◌, ◌≤◌, List, Option, Some, None}
use Rattle.std.specs.FinMap as finite
use Rattle.std.specs.List.{AllByRecursion}
use Rattle.raft_base.specs.declared.entry_index.EntryIndex.{EntryIndex}
use Rattle.raft_base.specs.declared.pipe_log.LogQueue.{LogQueue}
use Rattle.raft_table.specs.Fetches.{place_seq}
use Rattle.raft_table.specs.KeyValues.{Stored}
use Rattle.raft_table.specs.Least.{least_of}
use Rattle.raft_table.specs.Steps.{table_of}
use Rattle.raft_table.specs.Table.{Table}
use Rattle.raft_table.specs.TableEntries.{placed_in}
use Rattle.raft_history.specs.Batches.{Event}
use Rattle.raft_history.specs.RegionSteps.{Tables}

-- each batch is in a file below the number
abbrev pub AreFilesBelow : ℕ → List Event → Type 0
AreFilesBelow n h = AllByRecursion (λ (e : Event). e.file.seq < n) h

-- the least file of each table in the queue, if it has one, is at the number or above it
abbrev pub AreLeastFrom : LogQueue → ℕ → Tables → Type 0
AreLeastFrom queue n tables = (r seq : ℕ) → least_of queue (table_of r (finite.get tables r)) ≡ Some seq → n ≤ seq

-- there is a file, at the number or above it
abbrev pub IsSeqFrom : ℕ → Option ℕ → Type 0
IsSeqFrom n None = ⊥
IsSeqFrom n (Some seq) = n ≤ seq

-- each entry's place is in a file at the number or above it
abbrev pub AreFrom : ℕ → List EntryIndex → Type 0
AreFrom n es = AllByRecursion (λ (e : EntryIndex). IsSeqFrom n (place_seq e.entries)) es

-- no record of the table in the queue is in a file below the number
pub record NeedsNoneBelow (queue : LogQueue) (n : ℕ) (t : Table) : Type 0 where
  pub entries : AreFrom n (placed_in queue t.entries)
  pub pairs : (key : List ℕ) (s : Stored) → finite.get t.keys key ≡ Some s → s.file.queue ≡ queue → n ≤ s.file.seq
