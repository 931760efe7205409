-- What is told of a region when files are opened, at once or later.
use Rattle.std.specs.Prelude.{◌≡◌, ◌⊎◌, ℕ, true, List, [], ◌∷◌, ◌++◌, filter}
use Rattle.std.specs.FinMap as finite
use Rattle.raft_table.specs.Marks.{Mark}
use Rattle.raft_table.specs.Steps.{Step, Compact}
use Rattle.raft_table.specs.Table.{Table}
use Rattle.raft_table.specs.TableEntries.{start_of}
use Rattle.raft_table.specs.Overlay.{IsExactMark}
use Rattle.raft_contexts.specs.TakenAway.{first_of, steps_at_once, steps_later, takes_of, told_by_mark}
use Rattle.raft_engine_laws.specs.Speaking.{unspoken, AreCovered, is_key_dropped, pair_left}
use Rattle.raft_engine_laws.specs.Telling.{AreRemovals, SayEnoughAtOpening}

-- what is told of a region at once: what its mark takes away of the rewritten table, and a compaction to the first entry that was found, if that takes something away
abbrev pub told_at_once : Mark → Table → Table → List Step
told_at_once m rewritten found = told_by_mark m rewritten ++ filter (takes_of rewritten) (Compact (start_of found.entries) ∷ [])

-- of the rewritten entries that the append files' steps leave, none lies in front of the entries that were found
abbrev pub Joins : List Step → Table → Table → Type 0
Joins kept rewritten found = unspoken (kept ++ Compact (start_of found.entries) ∷ []) rewritten.entries ≡ unspoken kept rewritten.entries

-- what the append files' steps take away of the rewritten table may be told later: they leave nothing of it in front of the entries that were found, and the untold steps take away the same of it, and speak of nothing that they don't speak of
pub record MayBeToldLater (kept untold : List Step) (rewritten found : Table) : Type 0 where
  pub joins : Joins kept rewritten found
  pub entries : unspoken untold rewritten.entries ≡ unspoken kept rewritten.entries
  pub covers : AreCovered untold kept
  pub pairs : (key : List ℕ) → pair_left untold key (finite.get rewritten.keys key) ≡ pair_left kept key (finite.get rewritten.keys key)
  pub pair_covers : (key : List ℕ) → is_key_dropped untold key ≡ true → is_key_dropped kept key ≡ true

-- all is told now, and nothing is untold
pub record IsToldNow (kept told untold : List Step) (rewritten found : Table) : Type 0 where
  pub removals : AreRemovals told
  pub says : SayEnoughAtOpening kept told rewritten found
  pub none : untold ≡ []

-- a region is told all now, or nothing now and all later
abbrev pub IsToldNowOrLater : List Step → List Step → List Step → Table → Table → Type 0
IsToldNowOrLater kept told untold rewritten found = IsToldNow kept told untold rewritten found ⊎ ((told ≡ []) × MayBeToldLater kept untold rewritten found)

-- what is told of a region, at once and later, is what a region mark says that tells what the append files' steps take away: of the rewritten table, over which the appended one is put
pub record IsToldByMark (kept told untold : List Step) (appended rewritten : Table) : Type 0 where
  pub mark : Mark
  pub exact : IsExactMark mark kept
  pub at_once : told ≡ steps_at_once mark (first_of appended.entries) rewritten
  pub later : untold ≡ steps_later mark (first_of appended.entries) rewritten
