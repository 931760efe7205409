-- The files of a folder.
use Rattle.std.specs.Prelude.{ℕ}
use Rattle.raft_base.specs.declared.pipe_log.LogQueue.{LogQueue}
use Rattle.raft_base.specs.declared.pipe_log.LogQueue.TheVariants.{Append, Rewrite}

-- the first and the last file of a queue
abbrev pub range_in : ℕ × ℕ → ℕ × ℕ → LogQueue → ℕ × ℕ
range_in append rewrite Append = append
range_in append rewrite Rewrite = rewrite
