-- What is asked when found files are opened.
use Rattle.std.specs.Prelude.{◌≡◌, ℕ, List, [], ◌∷◌, ◌++◌}
use Rattle.raft_base.specs.declared.pipe_log.LogQueue.{LogQueue}
use Rattle.raft_base.specs.declared.pipe_log.LogQueue.TheVariants.{Append, Rewrite}
use Rattle.raft_base.specs.declared.pipe_log.Version.{Version}
use Rattle.raft_records.specs.Item.{Item}
use Rattle.raft_records.specs.LogBatch.{Batch}
use Rattle.raft_accessor.specs.Accessor.{Accessor}
use Rattle.raft_files.specs.Asks as asks
use Rattle.raft_files.specs.Asks.{Ask, Begin, NumberedBytes, ask}
use Rattle.raft_engine.specs.FoundFiles.{AreReadyBy}
use Rattle.raft_engine.specs.Opening.{AreRecovered}
use Rattle.raft_engine.specs.StoredFound.{told_asks}
use Rattle.raft_engine.specs.declared.missing.Missing.{Missing}
use Rattle.raft_engine.specs.declared.missing.Missing.TheVariants.{Nothing, FirstFile, Cut}
pub use Rattle.raft_engine.specs.FileFailures.{Failures, FailsAmong}

-- what is asked of a queue's files where this is missing of them
abbrev pub missing_asks : LogQueue → Missing → List Ask
missing_asks queue Nothing = []
missing_asks queue FirstFile = ask queue (Begin 1) ∷ []
missing_asks queue (Cut tail) = ask queue (asks.Cut tail.offset) ∷ []

-- what tells the rewrite queue a batch of these items, behind the last file of this number
abbrev pub asks_that_tell : Version → ℕ → Batch → List Item → List Ask
asks_that_tell version seq told [] = []
asks_that_tell version seq told (item ∷ items) = told_asks version seq told []

-- newest first: what is missing of both queues is asked, then the rewrite queue is told a batch, if that has items
abbrev pub opening_asks : Version → List Ask → List Ask → ℕ → Batch → List Ask
opening_asks version append_missing rewrite_missing seq told = asks_that_tell version seq told told.items ++ (rewrite_missing ++ append_missing)

-- what an opening asks of found files once these tables are recovered of them, newest first: what is missing of both queues, and what tells the rewrite queue, behind its last file, what may not be told later; and what stays untold
pub record AreWanted (version : Version) (append rewrite : List NumberedBytes) (accessor : Accessor) (untold : Batch) (wanted : List Ask) : Type 0 where
  pub append_missing : List Ask
  pub rewrite_missing : List Ask
  pub append_left : List NumberedBytes
  pub rewrite_left : List NumberedBytes
  pub append_ready : AreReadyBy Append version append_missing append append_left
  pub rewrite_ready : AreReadyBy Rewrite version rewrite_missing rewrite rewrite_left
  pub told : Batch
  pub recovered : AreRecovered version append_left rewrite_left accessor told untold
  pub closed : List NumberedBytes
  pub seq : ℕ
  pub bytes : List ℕ
  pub last : rewrite_left ≡ closed ++ (seq, bytes) ∷ []
  pub are : wanted ≡ opening_asks version append_missing rewrite_missing seq told
