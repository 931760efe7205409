-- Files that are cut where reading stops.
use Rattle.std.specs.Prelude.{◌≡◌, ◌⊎◌, ℕ, List, [], ◌∷◌, ◌++◌}
use Rattle.raft_base.specs.declared.pipe_log.LogQueue.{LogQueue}
use Rattle.raft_base.specs.declared.pipe_log.Version.{Version}
use Rattle.raft_files.specs.Asks.{NumberedBytes}
use Rattle.raft_files.specs.Disk.{cut_last}
use Rattle.raft_recover.specs.Files.{whole_file}
use Rattle.raft_engine_prefixes.specs.TornTails.{StopsAt}

-- the last file of a queue is cut where a reader stops in it
pub record IsLastCut (queue : LogQueue) (version : Version) (files cut : List NumberedBytes) : Type 0 where
  pub closed : List NumberedBytes
  pub last : NumberedBytes
  pub at : ℕ
  pub split : files ≡ closed ++ last ∷ []
  pub stops : StopsAt (whole_file queue version last) at
  pub is : cut ≡ cut_last at files

-- the same, or there is no file
abbrev pub AreCut : LogQueue → Version → List NumberedBytes → List NumberedBytes → Type 0
AreCut queue version files cut = ((files ≡ []) × (cut ≡ [])) ⊎ IsLastCut queue version files cut
