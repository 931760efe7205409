-- Log items written to the tables of regions: new in the append queue, read again from a queue, or rewritten to a file of the rewrite queue.
use Rattle.std.specs.Prelude.{◌≡◌, ◌⊎◌, ℕ, ◌+◌, ◌<◌, ◌≤◌, ◌^◌, Bool, true, false, List, [], ◌∷◌, ◌++◌, length, flat_map, Option, Some, None, option_map, if◌then◌else◌}
use Rattle.std.specs.Option.{option_and_then}
use Rattle.std.specs.List.{AllByRecursion}
use Rattle.std.specs.FinMap as finite
use Rattle.raft_base.specs.declared.errors.Error.{Error}
use Rattle.raft_base.specs.declared.errors.Error.TheVariants as errors
use Rattle.raft_base.specs.declared.pipe_log.FileId.{FileId}
use Rattle.raft_base.specs.declared.pipe_log.LogQueue.{LogQueue}
use Rattle.raft_base.specs.declared.pipe_log.LogQueue.TheVariants.{Append, Rewrite}
use Rattle.raft_base.specs.declared.entry_index.EntryIndex.{EntryIndex}
use Rattle.raft_records.specs.declared.command.Command.{Command}
use Rattle.raft_records.specs.declared.command.Command.TheVariants as commands
use Rattle.raft_records.specs.declared.key_value.OpType.{OpType}
use Rattle.raft_records.specs.declared.key_value.OpType.TheVariants as operations
use Rattle.raft_records.specs.Group.{is_reserved}
use Rattle.raft_records.specs.Item.{Item, Content, Pair, entries, command, pair}
use Rattle.raft_history.specs.RegionSteps.{Tables, with_table}
use Rattle.raft_table.specs.Counts.{Counts, with_added}
use Rattle.raft_table.specs.TableEntries.{IsRunIn, below, from}
use Rattle.raft_table.specs.KeyValues.{file_at}
use Rattle.raft_table.specs.Queues.{other}
use Rattle.raft_table.specs.Rewriting.{counts_after_rewrite}
use Rattle.raft_table.specs.Start.{counts_with_run, counts_without}
use Rattle.raft_table.specs.Steps.{table_of}
use Rattle.raft_table.specs.Table.{Table, after_append, after_replay, after_rewrite, after_rewrite_key, with_pair, with_table_deleted, with_pair_deleted, with_rewritten_key, leaves_append, live_of}
use Rattle.raft_accessor.specs.Accessor.{Accessor, live_in_all}

-- how items are written: as new ones of the append queue, as read again from a queue, or by a rewriting with this gate to the file of this number
pub data Writing : Type 0 where
  Appending : Writing
  Replaying : LogQueue → Writing
  Rewriting : Option ℕ → ℕ → Writing

-- the queue that is written to
abbrev pub queue_of : Writing → LogQueue
queue_of Appending = Append
queue_of (Replaying queue) = queue
queue_of (Rewriting gate seq) = Rewrite

-- a table with entries written; none where they are refused
abbrev pub after_entries : Writing → Table → List EntryIndex → Option Table
after_entries Appending t es = after_append t es
after_entries (Replaying queue) t es = after_replay queue t es
after_entries (Rewriting gate seq) t es = after_rewrite gate t es

-- a table with a key put; none where it has no value or no file
abbrev pub after_put : Table → List ℕ → Option (List ℕ) → Option FileId → Option Table
after_put t key (Some value) (Some file) = Some (with_pair t key value file)
after_put t key (Some value) None = None
after_put t key None file = None

-- a table with a key put or deleted
abbrev pub after_pair : Table → OpType → List ℕ → Option (List ℕ) → Option FileId → Option Table
after_pair t operations.Put key value file = after_put t key value file
after_pair t operations.Del key value file = Some (record t { keys = finite.remove t.keys key })

-- a table with a key rewritten that has a value; none otherwise
abbrev pub after_rewrite_put : Option ℕ → ℕ → Table → List ℕ → Option (List ℕ) → Option Table
after_rewrite_put gate seq t key (Some value) = after_rewrite_key gate seq t key
after_rewrite_put gate seq t key None = None

-- a table with a key put by a rewriting, which deletes none
abbrev pub after_rewrite_pair : Option ℕ → ℕ → Table → OpType → List ℕ → Option (List ℕ) → Option Table
after_rewrite_pair gate seq t operations.Put key value = after_rewrite_put gate seq t key value
after_rewrite_pair gate seq t operations.Del key value = None

-- a table with the change of a key
abbrev pub with_change : Writing → Table → Pair → Option Table
with_change Appending t p = after_pair t p.op_type p.key p.value p.file_id
with_change (Replaying queue) t p = after_pair t p.op_type p.key p.value p.file_id
with_change (Rewriting gate seq) t p = after_rewrite_pair gate seq t p.op_type p.key p.value

-- a region's table after a command: none after a Clean
abbrev pub after_command : ℕ → Option Table → Command → Option (Option Table)
after_command id o commands.Clean = Some None
after_command id o (commands.Compact index) =
    Some (Some (record (table_of id o) { entries = from index (table_of id o).entries }))
after_command id o (commands.Truncate index) =
    Some (Some (record (table_of id o) { entries = below index (table_of id o).entries }))

-- a region's table after a command by a rewriting, for which a Clean changes nothing and a Compact or a Truncate is refused
abbrev pub after_rewrite_command : Option Table → Command → Option (Option Table)
after_rewrite_command o commands.Clean = Some o
after_rewrite_command o (commands.Compact index) = None
after_rewrite_command o (commands.Truncate index) = None

-- a region's table, or its absence, after a command
abbrev pub after_write_command : Writing → ℕ → Option Table → Command → Option (Option Table)
after_write_command Appending id o c = after_command id o c
after_write_command (Replaying queue) id o c = after_command id o c
after_write_command (Rewriting gate seq) id o c = after_rewrite_command o c

-- a region's table, or its absence, after an item's content; none where that is refused. The reserved key is skipped
abbrev pub after_content : Writing → ℕ → Option Table → Content → Option (Option Table)
after_content w id o (entries es) = option_map Some (after_entries w (table_of id o) es)
after_content w id o (command c) = after_write_command w id o c
after_content w id o (pair p) = if is_reserved p.key then Some o else option_map Some (with_change w (table_of id o) p)

-- all tables after items in order; none where one is refused
abbrev pub after_items : Writing → Tables → List Item → Option Tables
after_items w m [] = Some m
after_items w m (item ∷ items) = option_and_then (λ t. after_items w (with_table m item.raft_group_id t) items) (after_content w item.raft_group_id (finite.get m item.raft_group_id) item.content)

-- a file of a queue
abbrev pub IsFileOf : LogQueue → Option FileId → Type 0
IsFileOf queue None = ⊥
IsFileOf queue (Some file) = file.queue ≡ queue

-- a put of a queue; a deletion is of any
abbrev pub IsPairOfQueue : LogQueue → OpType → Option FileId → Type 0
IsPairOfQueue queue operations.Put file = IsFileOf queue file
IsPairOfQueue queue operations.Del file = Unit {0}

-- what the change of a key is asked to be; a rewriting doesn't look at its file
abbrev pub IsPairFor : Writing → Pair → Type 0
IsPairFor Appending p = IsPairOfQueue Append p.op_type p.file_id
IsPairFor (Replaying queue) p = IsPairOfQueue queue p.op_type p.file_id
IsPairFor (Rewriting gate seq) p = Unit {0}

-- what a content is asked to be: entries a run of the queue, a put, unless it is skipped, of a file of the queue
abbrev pub IsFor : Writing → Content → Type 0
IsFor w (entries es) = IsRunIn (queue_of w) es
IsFor w (command c) = Unit {0}
IsFor w (pair p) = is_reserved p.key ≡ false → IsPairFor w p

-- whether cleaned regions are listed
abbrev pub lists : Writing → Bool
lists Appending = true
lists (Replaying Append) = true
lists (Replaying Rewrite) = false
lists (Rewriting gate seq) = false

-- the region that a command cleans
abbrev pub cleaned_by_command : ℕ → Command → List ℕ
cleaned_by_command id commands.Clean = id ∷ []
cleaned_by_command id (commands.Compact index) = []
cleaned_by_command id (commands.Truncate index) = []

-- the region that a content cleans
abbrev pub cleaned_by_content : ℕ → Content → List ℕ
cleaned_by_content id (entries es) = []
cleaned_by_content id (command c) = cleaned_by_command id c
cleaned_by_content id (pair p) = []

-- the regions that an item lists as cleaned
abbrev pub listed_by : Writing → Item → List ℕ
listed_by w item = if lists w then cleaned_by_content item.raft_group_id item.content else []

-- the regions that items list as cleaned, in order
abbrev pub listed_by_items : Writing → List Item → List ℕ
listed_by_items w items = flat_map (listed_by w) items

-- how many records a content names
abbrev pub records_named : Content → ℕ
records_named (entries es) = length es
records_named (command c) = 0
records_named (pair p) = 1

-- entries that are read again into a table with records of the other queue
abbrev pub MixesQueues : Writing → Table → Content → Type 0
MixesQueues (Replaying queue) t (entries es) = 0 < live_of (other queue) t
MixesQueues w t content = ⊥

-- no item is entries that are read again into a table of the other queue, the tables being those after the items in front of it
abbrev pub NoneMixesQueues : Writing → Tables → List Item → Type 0
NoneMixesQueues w m [] = Unit {0}
NoneMixesQueues w m (item ∷ items) =
    (MixesQueues w (table_of item.raft_group_id (finite.get m item.raft_group_id)) item.content → ⊥)
    × ((t : Option Table) → after_content w item.raft_group_id (finite.get m item.raft_group_id) item.content ≡ Some t → NoneMixesQueues w (with_table m item.raft_group_id t) items)

-- why a content is refused, `live` records being live in the queue: it isn't as asked, or its change is refused; it would be read again into a table of the other queue; the live records and those that it names are more than 2^64 - 1; or want of memory
abbrev pub IsWriteFault : Writing → ℕ → Option Table → ℕ → Content → Error → Type 0
IsWriteFault w id o live content (errors.Corruption text) = (IsFor w content → ⊥) ⊎ (after_content w id o content ≡ None)
IsWriteFault w id o live content (errors.InvalidArgument text) = MixesQueues w (table_of id o) content
IsWriteFault w id o live content errors.Full = 2 ^ 64 ≤ live + records_named content
IsWriteFault w id o live content errors.Memory = Unit {0}
IsWriteFault w id o live content _ = ⊥

-- the counts after entries are written to a table with these entries
abbrev pub counts_after_entries : Writing → List EntryIndex → List EntryIndex → Counts → Counts
counts_after_entries Appending es run counts = counts_with_run Append es run counts
counts_after_entries (Replaying queue) es run counts = counts_with_run queue es run counts
counts_after_entries (Rewriting gate seq) es run counts = counts_after_rewrite gate run es counts

-- the counts after a key is put, told by the file of the pair that it replaces; without a file nothing is put
abbrev pub counts_after_put : Option FileId → Option FileId → Counts → Counts
counts_after_put replaced None counts = counts
counts_after_put replaced (Some file) counts = with_added file.queue 1 (with_pair_deleted replaced counts)

-- the counts after a key is put or deleted
abbrev pub counts_after_pair : OpType → Option FileId → Option FileId → Counts → Counts
counts_after_pair operations.Put replaced file counts = counts_after_put replaced file counts
counts_after_pair operations.Del replaced file counts = with_pair_deleted replaced counts

-- the counts after the change of a key, told by the file of the pair that it had
abbrev pub counts_after_change : Writing → Option FileId → Pair → Counts → Counts
counts_after_change Appending replaced p counts = counts_after_pair p.op_type replaced p.file_id counts
counts_after_change (Replaying queue) replaced p counts = counts_after_pair p.op_type replaced p.file_id counts
counts_after_change (Rewriting gate seq) replaced p counts = with_rewritten_key (leaves_append gate replaced) counts

-- the counts after a table obeys a command
abbrev pub counts_after_command : Table → Command → Counts → Counts
counts_after_command t commands.Clean counts = with_table_deleted t counts
counts_after_command t (commands.Compact index) counts = counts_without (below index t.entries) counts
counts_after_command t (commands.Truncate index) counts = counts_without (from index t.entries) counts

-- the counts after a command is written; a command that is rewritten changes none of them
abbrev pub counts_commanded : Writing → Table → Command → Counts → Counts
counts_commanded Appending t c counts = counts_after_command t c counts
counts_commanded (Replaying queue) t c counts = counts_after_command t c counts
counts_commanded (Rewriting gate seq) t c counts = counts

-- the counts after an item's content is written to its region's table. The reserved key is skipped
abbrev pub counts_after_content : Writing → Table → Content → Counts → Counts
counts_after_content w t (entries es) counts = counts_after_entries w t.entries es counts
counts_after_content w t (command c) counts = counts_commanded w t c counts
counts_after_content w t (pair p) counts = if is_reserved p.key then counts else counts_after_change w (file_at t.keys p.key) p counts

-- what items make of the counts, one after another, each at the tables after the items in front of it
abbrev pub AreCountsAfterItems : Writing → Tables → List Item → Counts → Counts → Type 0
AreCountsAfterItems w m [] old new = new ≡ old
AreCountsAfterItems w m (item ∷ items) old new =
    (t : Option Table) → after_content w item.raft_group_id (finite.get m item.raft_group_id) item.content ≡ Some t
    → AreCountsAfterItems w (with_table m item.raft_group_id t) items (counts_after_content w (table_of item.raft_group_id (finite.get m item.raft_group_id)) item.content old) new

-- items are written: each is as asked, none meets records of the other queue, the tables are those after them in order, the regions that they clean are listed, and they are counted
pub record AreWritten (w : Writing) (items : List Item) (old new : Accessor) : Type 0 where
  pub asked : AllByRecursion (λ (item : Item). IsFor w item.content) items
  pub accepted : NoneMixesQueues w old.tables items
  pub tables : after_items w old.tables items ≡ Some new.tables
  pub cleaned : new.cleaned ≡ old.cleaned ++ listed_by_items w items
  pub counts : AreCountsAfterItems w old.tables items old.counts new.counts

-- the last item is refused, those in front of it are written, and nothing else
pub record AreItemsRefused (w : Writing) (items : List Item) (old new : Accessor) (e : Error) : Type 0 where
  pub front : List Item
  pub item : Item
  pub split : items ≡ front ++ item ∷ []
  pub written : AreWritten w front old new
  pub fault : IsWriteFault w item.raft_group_id (finite.get new.tables item.raft_group_id) (live_in_all (queue_of w) new.tables) item.content e
