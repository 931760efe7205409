-- One item written to its region's table.
use Rattle.std.specs.Prelude.{◌≡◌, ℕ, false, List, ◌++◌, Option, Some, Result, IfErr}
use Rattle.std.specs.FinMap as finite
use Rattle.std.specs.Result.{OnOk, OnErr}
use Rattle.raft_base.specs.declared.errors.Error.{Error}
use Rattle.raft_base.specs.declared.pipe_log.FileId.{FileId}
use Rattle.raft_base.specs.declared.pipe_log.LogQueue.{LogQueue}
use Rattle.raft_records.specs.declared.key_value.OpType.{OpType}
use Rattle.raft_records.specs.declared.key_value.OpType.TheVariants as operations
use Rattle.raft_records.specs.Group.{is_reserved}
use Rattle.raft_records.specs.Item.{Item, Content, Pair, entries, command, pair}
use Rattle.raft_table.specs.Counts.{Counts, live}
use Rattle.raft_table.specs.Table.{IsRecounted}
use Rattle.raft_table.specs.TableEntries.{IsRunIn}
use Rattle.raft_history.specs.RegionSteps.{Tables, with_table}
use Rattle.raft_accessor.specs.Accessor.{table_in}
use Rattle.raft_accessor.specs.Writes.{Writing, queue_of, after_content, counts_after_content, listed_by, IsFor, MixesQueues, IsWriteFault}

-- the change of a key of a region
abbrev pub pair_change : ℕ → Pair → Item
pair_change id p = record { raft_group_id = id; content = pair p }

-- a change of a key that is not reserved, as a replay of a queue asks for it: a put has a value, and a file of the queue
abbrev pub IsPairReplayed : LogQueue → OpType → Option (List ℕ) → Option FileId → Type 0
IsPairReplayed queue operations.Put (Some value) (Some file) = file.queue ≡ queue
IsPairReplayed queue operations.Put _ _ = ⊥
IsPairReplayed queue operations.Del _ _ = Unit {0}

-- a content as a replay of a queue asks for it: entries are a run of the queue
abbrev pub IsReplayed : LogQueue → Content → Type 0
IsReplayed queue (entries es) = IsRunIn queue es
IsReplayed queue (command c) = Unit {0}
IsReplayed queue (pair p) = is_reserved p.key ≡ false → IsPairReplayed queue p.op_type p.value p.file_id

-- an item is written to its region's table, and counted
pub record IsItemWritten (w : Writing) (item : Item) (old : Tables) (counts : Counts) (list : List ℕ) (r : Result Unit Error) (new : Tables) (after : Counts) (listed : List ℕ) : Type 0 where
  pub asked : OnOk r (IsFor w item.content)
  pub accepted : OnOk r (MixesQueues w (table_in old item.raft_group_id) item.content → ⊥)
  pub ok : OnOk r (after_content w item.raft_group_id (finite.get old item.raft_group_id) item.content ≡ Some (finite.get new item.raft_group_id))
  pub counts_ok : OnOk r (after ≡ counts_after_content w (table_in old item.raft_group_id) item.content counts)
  pub cleaned : OnOk r (listed ≡ list ++ listed_by w item)
  pub err : OnErr r (new ≡ old)
  pub counts_err : OnErr r (after ≡ counts)
  pub cleaned_err : OnErr r (listed ≡ list)
  pub fault : IfErr r (IsWriteFault w item.raft_group_id (finite.get old item.raft_group_id) (live (queue_of w) counts) item.content)
  pub one : new ≡ with_table old item.raft_group_id (finite.get new item.raft_group_id)
  pub recounted : IsRecounted (table_in old item.raft_group_id) (table_in new item.raft_group_id) counts after
