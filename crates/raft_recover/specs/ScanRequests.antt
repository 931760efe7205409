-- What the words of a command line ask of a scan, and what is printed.
use Rattle.std.specs.Prelude.{◌≡◌, ℕ, Bool, true, false, ◌&&◌, List, [], ◌∷◌, ◌++◌, codes, Option}
use Rattle.std.specs.Io.KnownBytes.{Appends}
use Rattle.raft_base.specs.declared.pipe_log.LogQueue.{LogQueue}
use Rattle.raft_base.specs.declared.pipe_log.Version.{Version}
use Rattle.raft_records.specs.Lines.{AppendsFront}
use Rattle.raft_recover.specs.Files.{whole_file}
use Rattle.raft_recover.specs.Requests.{queue_word, version_word, NumberedPath, NumberedBytes, ArePathsNamed, AreFilesOf}
use Rattle.raft_recover.specs.Scans.{IsScanned}

-- whether to go on past damage, a queue, the version of its files, and their paths
pub record AskedScan : Type 0 where
  pub past_damage : Bool
  pub queue : LogQueue
  pub version : Version
  pub paths : List NumberedPath

-- a queue, a version, and a word for each path
pub record NamesFiles (words : List (List ℕ)) (scan : AskedScan) : Type 0 where
  pub queue : List ℕ
  pub version : List ℕ
  pub path_words : List (List ℕ)
  pub form : words ≡ queue ∷ version ∷ path_words
  pub queue_named : queue ≡ queue_word scan.queue
  pub version_named : version ≡ version_word scan.version
  pub paths_named : ArePathsNamed path_words scan.paths

-- the words in front of these
abbrev pub flag_words : Bool → List (List ℕ) → List (List ℕ)
flag_words false words = words
flag_words true words = codes "--past-damage" ∷ words

-- the files, and in front of them `--past-damage` if the scan is to go on there
pub record AsksScan (words : List (List ℕ)) (scan : AskedScan) : Type 0 where
  pub named : List (List ℕ)
  pub form : words ≡ flag_words scan.past_damage named
  pub files : NamesFiles named scan

-- no scan is asked for
abbrev pub AsksNoScan : List (List ℕ) → Type 0
AsksNoScan words = (scan : AskedScan) → AsksScan words scan → ⊥

-- the texts of scans of files, one after the other, and whether all that they find is undamaged
abbrev pub AreScanned : Bool → LogQueue → Version → List NumberedBytes → Bool → List ℕ → Type 0
AreScanned past queue version [] undamaged text = (undamaged ≡ true) × (text ≡ [])
AreScanned past queue version (file ∷ files) undamaged text =
    (first : Bool)
    × (rest : Bool)
    × (lines : List ℕ)
    × (others : List ℕ)
    × IsScanned past (whole_file queue version file) first lines
    × AreScanned past queue version files rest others
    × (undamaged ≡ first && rest)
    × (text ≡ lines ++ others)

-- for files under the numbers that were asked for, whatever bytes stood at their paths, the texts of their scans, which find this
pub record AreScannedFiles (undamaged : Bool) (words : List (List ℕ)) (text : List ℕ) : Type 0 where
  pub scan : AskedScan
  pub asked : AsksScan words scan
  pub files : List NumberedBytes
  pub of_paths : AreFilesOf scan.paths files
  pub scanned : AreScanned scan.past_damage scan.queue scan.version files undamaged text

-- that text was written after the old bytes, where those are known
pub record IsScanPrinted (undamaged : Bool) (words : List (List ℕ)) (old new : Option (List ℕ)) : Type 0 where
  pub text : List ℕ
  pub of_files : AreScannedFiles undamaged words text
  pub written : Appends old new text

-- a front of that text, and not all of it, was written after the old bytes, where those are known
pub record IsScanFrontPrinted (words : List (List ℕ)) (old new : Option (List ℕ)) : Type 0 where
  pub undamaged : Bool
  pub text : List ℕ
  pub of_files : AreScannedFiles undamaged words text
  pub written : AppendsFront old new text
