-- Files of a queue that machines have replayed up to where the reading of the last one stops.
use Rattle.std.specs.Prelude.{◌≡◌, ◌<◌, ◌^◌, ℕ, List, ◌++◌, Option}
use Rattle.raft_base.specs.declared.pipe_log.LogQueue.{LogQueue}
use Rattle.raft_base.specs.declared.pipe_log.LogQueue.TheVariants.{Append, Rewrite}
use Rattle.raft_base.specs.declared.pipe_log.Version.{Version}
use Rattle.raft_records.specs.FilePart.{Part, StandBetween}
use Rattle.raft_records.specs.Item.{Item}
use Rattle.raft_history.specs.Batches.{Event}
use Rattle.raft_history.specs.Histories.{Apart, IsSmall}
use Rattle.raft_contexts.specs.RecoverContext.{HasRead, HasReadExactly, RecoverContext}
use Rattle.raft_files.specs.Asks.{NumberedBytes}
use Rattle.raft_replay.specs.Stops.{history_in}
use Rattle.raft_recover.specs.Files.{bytes_of_files}
use Rattle.raft_engine_prefixes.specs.TornTails.{FilesHoldTorn, HoldsTornFrom}
use Rattle.raft_engine_laws.specs.GroupsInRows.{AreGroupsInRows}
use Rattle.raft_engine_laws.specs.RowSummaries.{IsSummaryOf}
use Rattle.raft_engine.specs.CutTails.{IsTailTold, IsTornAs}
use Rattle.raft_engine.specs.RowsShown.{rows_shown}
use Rattle.raft_engine.specs.declared.both.Both.{Both}
use Rattle.raft_engine.specs.declared.both_reading.BothRead.{BothRead}
use Rattle.raft_engine.specs.declared.group_rows.GroupRows.{GroupRows}
use Rattle.raft_engine.specs.declared.recovered.CutTail.{CutTail}

-- the batches of a part in front of a byte
abbrev pub IsHistoryUpTo : Part → ℕ → List Event → Type 0
IsHistoryUpTo part at h = (batches : List (List Item)) × StandBetween part 0 at batches × (h ≡ history_in part batches)

-- the machine has replayed the batches of a part that begins its file, up to this tail: it stands for them after whatever it stood for, and exactly if it did exactly and effects are apart
pub record IsReplayedTo {M : Type 0} (stands_for stands_exactly : M → List Event → Type 0) (part : Part) (old new : M) (tail : Option CutTail) : Type 0 where
  pub history : List Event
  pub held : HoldsTornFrom part 0 history
  pub told : IsTornAs part tail
  pub stands : (h : List Event) → IsSmall (h ++ history) → stands_for old h → stands_for new (h ++ history)
  pub exact : (h : List Event) → IsSmall (h ++ history) → Apart (h ++ history) → stands_exactly old h → stands_exactly new (h ++ history)

-- the machine stands for the batches of the files of a queue, of which the last has this tail, and exactly where effects are apart
pub record IsReadUpTo {M : Type 0} (stands_for stands_exactly : M → List Event → Type 0) (queue : LogQueue) (version : Version) (files : List NumberedBytes) (machine : M) (tail : Option CutTail) : Type 0 where
  pub history : List Event
  pub held : FilesHoldTorn queue version files history
  pub told : IsTailTold queue version files tail
  pub stands : IsSmall history → stands_for machine history
  pub exact : IsSmall history → Apart history → stands_exactly machine history

-- a context has read these batches, and it is known whether their groups stand in rows
abbrev pub HaveBothRead : Both RecoverContext GroupRows → List Event → Type 0
HaveBothRead both h = HasRead both.first h × IsSummaryOf (rows_shown both.second) h

-- the same exactly
abbrev pub HaveBothReadExactly : Both RecoverContext GroupRows → List Event → Type 0
HaveBothReadExactly both h = HasReadExactly both.first h × IsSummaryOf (rows_shown both.second) h

-- the contexts of both queues have read the batches of their files, which have fewer than 2^63 bytes, and each group of the rewrite queue stands in a row
pub record AreBothReadUpTo (version : Version) (append rewrite : List NumberedBytes) (read : BothRead) : Type 0 where
  pub appended : IsReadUpTo HasRead HasReadExactly Append version append read.appended.machine read.appended.tail
  pub rewritten : IsReadUpTo HasRead HasReadExactly Rewrite version rewrite read.rewritten.machine read.rewritten.tail
  pub append_few : bytes_of_files append < 2 ^ 63
  pub rewrite_few : bytes_of_files rewrite < 2 ^ 63
  pub rows : IsSmall rewritten.history → AreGroupsInRows rewritten.history
