-- What was read of a stretch of a queue's batches.
use Rattle.std.specs.Prelude.{◌≡◌, ℕ, List, [], ◌++◌, refl}
use Rattle.std.specs.Coded.{Coded, code_by, coded×, coded_list, coded_ℕ}
use Rattle.raft_base.specs.declared.pipe_log.LogFileContext.{LogFileContext}
use Rattle.raft_base.specs.declared.pipe_log.LogQueue.{LogQueue}
use Rattle.raft_records.specs.FilePart.{Part}
use Rattle.raft_history.specs.Batches.{Event}
use Rattle.raft_history.specs.Histories.{Apart, IsOfQueue, IsSmall, Sound}
use Rattle.raft_contexts.specs.RecoverContext.{RecoverContext}
use Rattle.raft_contexts.specs.RecoverContextCode.{recover_context_code}
use Rattle.raft_prefix.specs.Pieces.{ArePassed}
use Rattle.raft_replay.specs.Replays.{HasReplayed}
use Rattle.raft_replay.specs.Segments.{HoldsFrom}
use Rattle.raft_engine.specs.ReadQueues.{HaveBothRead, HaveBothReadExactly}
use Rattle.raft_engine.specs.declared.both.Both.{Both}
use Rattle.raft_engine.specs.declared.group_rows.GroupRows.{GroupRows}
use Rattle.raft_engine.specs.contracts.group_rows.GroupRows as rows

-- the context that has read them, and what is known of their atomic groups
abbrev pub BatchesRead : Type 0
BatchesRead = Both RecoverContext GroupRows

-- what a reader has: that, and where in the queue's last file those batches begin whose entries it found damaged, of an append file
pub record ReaderSeen : Type 0 where
  pub read : BatchesRead
  pub damaged : List ℕ

-- its code
abbrev pub reader_code : Coded ReaderSeen
reader_code = code_by ((RecoverContext × GroupRows) × List ℕ) (coded× (coded× recover_context_code rows.the_row.coded) (coded_list coded_ℕ)) (λ r. ((r.read.first, r.read.second), r.damaged)) (λ p. record { read = record { first = p.0.0; second = p.0.1 }; damaged = p.1 }) (λ _. refl)

-- it has read nothing
pub record HasReadNothing (reader : ReaderSeen) : Type 0 where
  pub none : HaveBothReadExactly reader.read []
  pub undamaged : reader.damaged ≡ []

-- a reader has replayed the batches of a part behind those that it had read
abbrev pub IsReplayedBy : Part → ReaderSeen → ReaderSeen → Type 0
IsReplayedBy part old new = HasReplayed (HoldsFrom part 0) HaveBothRead HaveBothReadExactly old.read new.read

-- it has found no damaged entries more
abbrev pub IsNoneFound : ReaderSeen → ReaderSeen → Type 0
IsNoneFound old new = new.damaged ≡ old.damaged

-- so many of these bytes, which stand in a file from this offset on, are batches, and it has found those of them whose entries are damaged, behind those that it had found
abbrev pub ArePassedBy : LogFileContext → ℕ → List ℕ → ℕ → ReaderSeen → ReaderSeen → Type 0
ArePassedBy file offset bytes count old new = ArePassed file offset bytes old.damaged new.damaged count

-- whatever histories the two readers have read, small together, the merged one has read the newer behind the older
unfoldable pub ReadersStand : ReaderSeen → ReaderSeen → ReaderSeen → Type 0
ReadersStand newer old new = (h g : List Event) → IsSmall (h ++ g) → HaveBothRead old.read h → HaveBothRead newer.read g → HaveBothRead new.read (h ++ g)

-- and exactly so where the two have read theirs exactly, and no group has parts of both
unfoldable pub ReadersStandExactly : ReaderSeen → ReaderSeen → ReaderSeen → Type 0
ReadersStandExactly newer old new = (h g : List Event) → IsSmall (h ++ g) → Apart (h ++ g) → HaveBothReadExactly old.read h → HaveBothReadExactly newer.read g → HaveBothReadExactly new.read (h ++ g)

-- it has found what both had found, the older reader first
abbrev pub HasBothFound : ReaderSeen → ReaderSeen → ReaderSeen → Type 0
HasBothFound newer old new = new.damaged ≡ old.damaged ++ newer.damaged

-- whatever histories of the queue the two readers have read, small together, the newer behind the older isn't sound
unfoldable pub AreReadersUnsound : LogQueue → ReaderSeen → ReaderSeen → Type 0
AreReadersUnsound queue old newer = (h g : List Event) → IsSmall (h ++ g) → IsOfQueue queue (h ++ g) → HaveBothRead old.read h → HaveBothRead newer.read g → ¬ (Sound (h ++ g))
