-- Files of which an opening has nothing to tell at once.
use Rattle.std.specs.Prelude.{◌≡◌, ℕ, List, [], ◌∷◌, ◌++◌}
use Rattle.std.specs.FinMap as finite
use Rattle.raft_base.specs.declared.pipe_log.LogQueue.TheVariants.{Append, Rewrite}
use Rattle.raft_base.specs.declared.pipe_log.Version.{Version}
use Rattle.raft_table.specs.Steps.{table_of}
use Rattle.raft_history.specs.Batches.{Event, batches}
use Rattle.raft_history.specs.BothQueues.{IsReadingOfBoth}
use Rattle.raft_history.specs.Effects.{steps_of}
use Rattle.raft_history.specs.RegionSteps.{Tables}
use Rattle.raft_files.specs.Asks.{Ask, Found, NumberedBytes, ask}
use Rattle.raft_engine_laws.specs.MarksTold.{Joins}
use Rattle.raft_engine_prefixes.specs.TornTails.{FilesHoldTorn}

-- of no region do rewritten entries that the append queue's batches leave lie in front of those that a reading of both queues finds
abbrev pub BatchesJoin : List Event → List Event → Type 0
BatchesJoin append rewrite =
    (tables : Tables) (cleaned : List ℕ) (both : IsReadingOfBoth rewrite append tables cleaned) (region : ℕ)
    → Joins (steps_of region (batches append)) (table_of region (finite.get both.rewritten region)) (table_of region (finite.get tables region))

-- so it is of the batches that files hold, but for a torn tail of each queue
abbrev pub FilesJoin : Version → List NumberedBytes → List NumberedBytes → Type 0
FilesJoin version append rewrite =
    (appended rewritten : List Event) → FilesHoldTorn Append version append appended → FilesHoldTorn Rewrite version rewrite rewritten → BatchesJoin appended rewritten

-- so it is of the files that were found, if files were found
abbrev pub FoundFilesJoin : Version → List Ask → Type 0
FoundFilesJoin version asks =
    (since : List Ask) (append rewrite : List NumberedBytes) → asks ≡ since ++ ask Rewrite (Found rewrite) ∷ ask Append (Found append) ∷ [] → FilesJoin version append rewrite
