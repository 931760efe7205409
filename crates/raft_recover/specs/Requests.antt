-- What the words of a command line ask for, and the words that name refusals.
use Rattle.std.specs.Prelude.{◌≡◌, ℕ, ◌^◌, ◌<◌, List, [], ◌∷◌, ◌++◌, map, codes}
use Rattle.std.specs.Str.Parse.{IsNumeral, digits_value}
use Rattle.raft_base.specs.declared.errors.Error.{Error}
use Rattle.raft_base.specs.declared.errors.Error.TheVariants as errors
use Rattle.raft_base.specs.declared.pipe_log.LogFileContext.{LogFileContext}
use Rattle.raft_base.specs.declared.pipe_log.LogQueue.{LogQueue}
use Rattle.raft_base.specs.declared.pipe_log.Version.{Version}
use Rattle.raft_base.specs.declared.pipe_log.Version.TheVariants.{V1, V2}
use Rattle.raft_replay.specs.Stops.{queue_text}
pub use Rattle.raft_reading.specs.QueueRead.{NumberedBytes}

-- the word for a queue, as in texts of refusals
abbrev pub queue_word : LogQueue → List ℕ
queue_word queue = queue_text queue

-- the word for a version
abbrev pub version_word : Version → List ℕ
version_word V1 = codes "1"
version_word V2 = codes "2"

-- decimal digits, one or more, without a sign; the number is below 2^64
pub record IsNumberWord (word : List ℕ) (n : ℕ) : Type 0 where
  pub digits : IsNumeral 10 word
  pub value : n ≡ digits_value 10 word
  pub fits : n < 2 ^ 64

-- a file by its queue, its number and its version
pub record NamesContext (queue seq version : List ℕ) (context : LogFileContext) : Type 0 where
  pub queue_named : queue ≡ queue_word context.id.queue
  pub number : IsNumberWord seq context.id.seq
  pub version_named : version ≡ version_word context.version

-- `batch` and a file
pub record AsksBatch (words : List (List ℕ)) (context : LogFileContext) : Type 0 where
  pub queue : List ℕ
  pub seq : List ℕ
  pub version : List ℕ
  pub form : words ≡ codes "batch" ∷ queue ∷ seq ∷ version ∷ []
  pub file : NamesContext queue seq version context

-- a file by its number and its path, with `=` between them; digits are no `=`, so it is the word's first
pub record NamesPath (word : List ℕ) (seq : ℕ) (path : List ℕ) : Type 0 where
  pub digits : List ℕ
  pub number : IsNumberWord digits seq
  pub form : word ≡ digits ++ (codes "=" ++ path)

-- a word that names a file by its number and its path
pub record IsPathWord (word : List ℕ) : Type 0 where
  pub seq : ℕ
  pub path : List ℕ
  pub named : NamesPath word seq path

-- a file as a word names it: its number and its path
abbrev pub NumberedPath : Type 0
NumberedPath = ℕ × List ℕ

-- each word names its file, in order
abbrev pub ArePathsNamed : List (List ℕ) → List NumberedPath → Type 0
ArePathsNamed [] [] = Unit {0}
ArePathsNamed [] (path ∷ paths) = ⊥
ArePathsNamed (word ∷ words) [] = ⊥
ArePathsNamed (word ∷ words) (path ∷ paths) = NamesPath word path.0 path.1 × ArePathsNamed words paths

-- a file for each that is named, under its number, in order, whatever its bytes
abbrev pub AreFilesOf : List NumberedPath → List NumberedBytes → Type 0
AreFilesOf named files = map (λ (file : NumberedBytes). file.0) files ≡ map (λ (path : NumberedPath). path.0) named

-- why files are not read: a reading failed, or want of memory
abbrev pub IsFilesFault : Error → Type 0
IsFilesFault (errors.Io e) = Unit {0}
IsFilesFault errors.Memory = Unit {0}
IsFilesFault _ = ⊥

-- a queue, the version of its files, a number of workers, and the paths of the files
pub record AskedRecovery : Type 0 where
  pub queue : LogQueue
  pub version : Version
  pub workers : ℕ
  pub paths : List NumberedPath

-- `recover` and a recovery, with a word for each path
pub record AsksRecovery (words : List (List ℕ)) (recovery : AskedRecovery) : Type 0 where
  pub queue : List ℕ
  pub version : List ℕ
  pub workers : List ℕ
  pub path_words : List (List ℕ)
  pub form : words ≡ codes "recover" ∷ queue ∷ version ∷ workers ∷ path_words
  pub queue_named : queue ≡ queue_word recovery.queue
  pub version_named : version ≡ version_word recovery.version
  pub workers_named : IsNumberWord workers recovery.workers
  pub paths_named : ArePathsNamed path_words recovery.paths

-- neither a batch nor a recovery is asked for
pub record AsksNothing (words : List (List ℕ)) : Type 0 where
  pub no_batch : (context : LogFileContext) → AsksBatch words context → ⊥
  pub no_recovery : (recovery : AskedRecovery) → AsksRecovery words recovery → ⊥

-- the word for a refusal
abbrev pub refusal_word : Error → List ℕ
refusal_word (errors.InvalidArgument _) = codes "invalid-argument"
refusal_word (errors.Corruption _) = codes "corruption"
refusal_word (errors.Io _) = codes "io"
refusal_word (errors.Codec _) = codes "codec"
refusal_word (errors.Message _) = codes "message"
refusal_word errors.Full = codes "full"
refusal_word errors.Memory = codes "memory"
refusal_word _ = codes "failed"
