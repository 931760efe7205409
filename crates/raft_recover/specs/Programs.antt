-- What the program prints.
use Rattle.std.specs.Prelude.{◌⊎◌, ◌<◌, ◌≤◌, ℕ, List, Option, IfSome}
use Rattle.std.specs.Io.KnownBytes.{IsAtEnd}
use Rattle.raft_base.specs.Signature.{signature_of}
use Rattle.raft_base.specs.declared.pipe_log.LogFileContext.{LogFileContext}
use Rattle.raft_records.specs.Lines.{IsTextOf, Prints, AppendsFront}
use Rattle.raft_recover.specs.Files.{PrintsRecovered, PrintsFrontOfRecovered}
use Rattle.raft_recover.specs.Requests.{NumberedBytes, AreFilesOf, AskedRecovery, AsksBatch, AsksRecovery}

-- the batch that was asked for was in the input, where that is known, and is printed
pub record IsBatchPrinted (words : List (List ℕ)) (input old new : Option (List ℕ)) : Type 0 where
  pub context : LogFileContext
  pub asked : AsksBatch words context
  pub printed : IfSome input (λ bytes. Prints bytes (signature_of context) old new)

-- the batch that was asked for was in the input, where that is known, all was read, and a front of the batch's text is printed, and not all of it
pub record IsBatchFrontPrinted (words : List (List ℕ)) (input left old new : Option (List ℕ)) : Type 0 where
  pub context : LogFileContext
  pub asked : AsksBatch words context
  pub all_read : IsAtEnd left
  pub text : List ℕ
  pub of_input : IfSome input (λ bytes. IsTextOf bytes (signature_of context) text)
  pub printed : AppendsFront old new text

-- for 1 to 256 workers and files under the numbers that were asked for, whatever bytes stood at their paths, the lines of the files' tables are printed
pub record IsRecoveryPrinted (words : List (List ℕ)) (old new : Option (List ℕ)) : Type 0 where
  pub recovery : AskedRecovery
  pub asked : AsksRecovery words recovery
  pub files : List NumberedBytes
  pub workers : (0 < recovery.workers) × (recovery.workers ≤ 256)
  pub of_paths : AreFilesOf recovery.paths files
  pub printed : PrintsRecovered recovery.queue recovery.version files old new

-- for files under the numbers that were asked for, whatever bytes stood at their paths, a front of the lines of the files' tables is printed, and not all of them
pub record IsRecoveryFrontPrinted (words : List (List ℕ)) (old new : Option (List ℕ)) : Type 0 where
  pub recovery : AskedRecovery
  pub asked : AsksRecovery words recovery
  pub files : List NumberedBytes
  pub of_paths : AreFilesOf recovery.paths files
  pub printed : PrintsFrontOfRecovered recovery.queue recovery.version files old new

-- what was asked for is printed
abbrev pub IsPrinted : List (List ℕ) → Option (List ℕ) → Option (List ℕ) → Option (List ℕ) → Type 0
IsPrinted words input old new = IsBatchPrinted words input old new ⊎ IsRecoveryPrinted words old new

-- a front of what was asked for is printed, and not all of it
abbrev pub IsFrontPrinted : List (List ℕ) → Option (List ℕ) → Option (List ℕ) → Option (List ℕ) → Option (List ℕ) → Type 0
IsFrontPrinted words input left old new = IsBatchFrontPrinted words input left old new ⊎ IsRecoveryFrontPrinted words old new
