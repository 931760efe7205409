-- What an engine knows of the files of a queue, beside their bytes.
use Rattle.std.specs.Prelude.{◌≡◌, ℕ, List, [], ◌∷◌, ◌++◌, drop, length}
use Rattle.raft_base.specs.declared.pipe_log.LogQueue.{LogQueue}
use Rattle.raft_base.specs.declared.pipe_log.LogQueue.TheVariants.{Append, Rewrite}
use Rattle.raft_files.specs.Asks.{NumberedBytes}
use Rattle.raft_engine_prefixes.specs.Done.{numbers}
use Rattle.raft_engine.specs.declared.queue_files.QueueFiles.{QueueFiles}

-- the numbers of these files, but for the last one, and that one's number and length
pub record AreOf (files : List NumberedBytes) (known : QueueFiles) : Type 0 where
  pub closed : List NumberedBytes
  pub bytes : List ℕ
  pub split : files ≡ closed ++ (known.seq, bytes) ∷ []
  pub have : known.closed.items ≡ numbers closed
  pub ends : known.len ≡ length bytes

-- what is known of the files of one of both queues
abbrev pub files_known : LogQueue → QueueFiles → QueueFiles → QueueFiles
files_known Append append rewrite = append
files_known Rewrite append rewrite = rewrite

-- the numbers of so many files, the oldest ones, are taken off
abbrev pub IsShorterBy : ℕ → QueueFiles → QueueFiles → Type 0
IsShorterBy count old new = (new.closed.items ≡ drop count old.closed.items) × (new.seq ≡ old.seq) × (new.len ≡ old.len)

-- they are taken off this queue's list, and what is known of the other queue is as it was
abbrev pub IsQueueShorterBy : LogQueue → ℕ → QueueFiles → QueueFiles → QueueFiles → QueueFiles → Type 0
IsQueueShorterBy Append count append rewrite append' rewrite' = IsShorterBy count append append' × (rewrite' ≡ rewrite)
IsQueueShorterBy Rewrite count append rewrite append' rewrite' = (append' ≡ append) × IsShorterBy count rewrite rewrite'
