-- Files whose orders are taken.
use Rattle.std.specs.Prelude.{ℕ, List}
use Rattle.raft_files.specs.Asks.{Ask}

-- what was asked of the files, newest first, and how many orders were taken
pub record Handed : Type 0 where
  pub asks : List Ask
  pub taken : ℕ
