-- The files that a command looks into, by their numbers and paths.
use Rattle.std.specs.Prelude.{ℕ, List, string_bytes, String}
use Rattle.raft_base.specs.declared.pipe_log.LogQueue.{LogQueue}
use Rattle.raft_base.specs.declared.pipe_log.LogQueue.TheVariants.{Append, Rewrite}

-- that of a queue
abbrev pub of_queue : {X : Type 0} → LogQueue → X → X → X
of_queue Append append rewrite = append
of_queue Rewrite append rewrite = rewrite

-- the number of a file, and its path
abbrev pub path_shown : {A : Type 0} → ℕ × String A → ℕ × List ℕ
path_shown file = (file.0, string_bytes file.1)
