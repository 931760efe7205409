-- Whether something is wrong with files.
use Rattle.std.specs.Prelude.{◌≡◌, List, []}
use Rattle.std.specs.List.{AllByRecursion}
use Rattle.raft_listing.specs.declared.scan.FileScan.{FileScan}
use Rattle.raft_inspect.specs.Openings.{CutsNothing}
use Rattle.raft_inspect.specs.declared.opening.Opening.{Opening}

-- a scan has found nothing that can't be read
abbrev pub IsUndamaged : FileScan → Type 0
IsUndamaged scan = scan.damages.items ≡ []

-- nothing is wrong: in no file of either queue something can't be read, and an opening accepts the files and cuts nothing off
pub record IsNothingWrong (append rewrite : List FileScan) (opening : Opening) : Type 0 where
  pub append_undamaged : AllByRecursion IsUndamaged append
  pub rewrite_undamaged : AllByRecursion IsUndamaged rewrite
  pub uncut : CutsNothing opening
