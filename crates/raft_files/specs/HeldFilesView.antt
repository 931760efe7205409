-- As which asks a `MemoryFiles` is seen, and what it keeps.
use Rattle.std.specs.Prelude.{List, map}
use Rattle.raft_files.specs.Asks.{Ask}
use Rattle.raft_files.specs.HeldFiles.{AreBothHeld, file_shown}
use Rattle.raft_files.specs.declared.memory_files.MemoryFiles.TheInside.{Inside}

-- what was asked
abbrev pub memory_shown : Inside → List Ask
memory_shown m = m.asked.asks

-- the files of both queues are those that were asked for
abbrev pub IsKept : Inside → Type 0
IsKept m = AreBothHeld m.asked.asks (map file_shown m.append.items) (map file_shown m.rewrite.items)
