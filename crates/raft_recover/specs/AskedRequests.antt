-- What the program's requests ask for, as plain values.
use Rattle.std.specs.Prelude.{ℕ, List, map}
use Rattle.std.specs.Borrow.{Bor}
use Rattle.raft_recover.specs.declared.request.RecoverWords.{RecoverWords}
use Rattle.raft_recover.specs.declared.request.Request.{Request}
use Rattle.raft_recover.specs.declared.request.Request.TheVariants.{Batch, Recover}
use Rattle.raft_recover.specs.Requests as requests
pub use Rattle.raft_recover.specs.Files.{file_shown}

-- a file by its number and its path
abbrev pub path_shown : ℕ × Bor (List ℕ) → requests.NumberedPath
path_shown file = (file.0, file.1.now)

-- the recovery that words ask for
abbrev pub asks_for : RecoverWords → requests.AskedRecovery
asks_for r = record { queue = r.queue; version = r.version; workers = r.workers; paths = map path_shown r.paths.items }

-- the words ask for it
abbrev pub IsAsked : List (List ℕ) → Request → Type 0
IsAsked words (Batch context) = requests.AsksBatch words context
IsAsked words (Recover recovery) = requests.AsksRecovery words (asks_for recovery)
