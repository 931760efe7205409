-- Lives of an engine: each from its first files, or from an opening, to a stop of the machine, and what of it is found in the next ones.
use Rattle.std.specs.Prelude.{◌≡◌, ℕ, ◌<◌, List, [], ◌∷◌, ◌++◌, refl, take}
use Rattle.std.specs.List.{AllByRecursion}
use Rattle.raft_base.specs.declared.entry_index.EntryIndex.{EntryIndex}
use Rattle.raft_base.specs.declared.pipe_log.LogQueue.TheVariants.{Append, Rewrite}
use Rattle.raft_base.specs.declared.pipe_log.Version.{Version}
use Rattle.raft_files.specs.Asks.{Ask, Begin, NumberedBytes, acts_on, ask}
use Rattle.raft_files.specs.Disk.{IsLeftOf, begun, deletions}
use Rattle.raft_engine_laws.specs.Records.{Records}
use Rattle.raft_engine_laws.specs.Crashes.{in_files_from}
use Rattle.raft_engine_prefixes.specs.Contents.{AreBothTold}
use Rattle.raft_engine_prefixes.specs.Prefixes.{AreFirstOf}
use Rattle.raft_engine.specs.FoundFiles.{AreReadyBy}
use Rattle.raft_engine.specs.KeptEngine.{KeptEngine, table_in}
use Rattle.raft_engine.specs.Lasting.{HaveBothBegun, IsLasting, IsLastingAfter}
use Rattle.raft_engine.specs.Moments.{FindNoFiles}
use Rattle.raft_engine.specs.Opened.{IsOpened}
use Rattle.raft_engine.specs.StoredFound.{found_asks}

-- a life of an engine: what was asked of its files when the machine crashes, the contents of entries, which are told by that, and what lasts, then and at each moment before, once files were begun or found in both queues
pub record Life (version : Version) : Type 0 where
  pub asks : List Ask
  pub content : EntryIndex → List ℕ
  pub base : ℕ → Records
  pub both : HaveBothBegun asks
  pub told : AreBothTold asks content
  pub ever : (later earlier : List Ask) → asks ≡ later ++ earlier → HaveBothBegun earlier → IsLastingAfter content version base earlier

-- what lasts of it when the machine crashes
abbrev pub at_stop : {version : Version} → (life : Life version) → IsLastingAfter life.content version life.base life.asks
at_stop life = life.ever [] life.asks refl life.both

-- in this life the engine began the first file of each queue
pub record IsFirstLife (version : Version) (life : Life version) : Type 0 where
  pub since : List Ask
  pub asked : life.asks ≡ since ++ ask Rewrite (Begin 1) ∷ ask Append (Begin 1) ∷ []
  pub none_found : FindNoFiles since

-- this life is the next one: its engine was opened over files that the stop of the one before may have left
pub record IsNextLife (version : Version) (before life : Life version) : Type 0 where
  pub append : List NumberedBytes
  pub rewrite : List NumberedBytes
  pub append_left : IsLeftOf Append before.asks append
  pub rewrite_left : IsLeftOf Rewrite before.asks rewrite
  pub since : List Ask
  pub asked : life.asks ≡ since ++ found_asks append rewrite
  pub none_found : FindNoFiles since

-- each of the later lives, oldest first, is the next one of that before it
abbrev pub FollowEachOther : (version : Version) → Life version → List (Life version) → Type 0
FollowEachOther version life [] = Unit {0}
FollowEachOther version life (next ∷ later) = IsNextLife version life next × FollowEachOther version next later

-- all append files whose deletion was asked, in each of these lives but the last one, have numbers below this one
abbrev pub DeleteBelow : ℕ → (version : Version) → Life version → List (Life version) → Type 0
DeleteBelow n version life [] = Unit {0}
DeleteBelow n version life (next ∷ later) =
    AllByRecursion (λ (file : NumberedBytes). file.0 < n) (take (deletions (acts_on Append life.asks)) (begun (acts_on Append life.asks))) × DeleteBelow n version next later

-- What was synced in one life is synced in each later one, over any number of restarts: of the batches in files that no life in between
-- deleted, those that were synced in the first life are the first ones of those that are synced in a later one.
abbrev pub SyncedStaysSynced : Type 0
SyncedStaysSynced =
    (version : Version) (n : ℕ) (life : Life version) (later : List (Life version)) → FollowEachOther version life later → DeleteBelow n version life later
    → AllByRecursion (λ (l : Life version). AreFirstOf (in_files_from n (at_stop life).synced) (in_files_from n (at_stop l).synced)) later

-- each engine that is opened over what a crash may leave of a life has the contents of this for each of its entries: so it reads the bytes that were written
abbrev pub EntriesAreFound : (version : Version) → Life version → Type 0
EntriesAreFound version life =
    (append rewrite : List NumberedBytes) → IsLeftOf Append life.asks append → IsLeftOf Rewrite life.asks rewrite → (engine : KeptEngine) → IsOpened version append rewrite engine
    → (content : EntryIndex → List ℕ) → AreBothTold engine.asks content → (region : ℕ) → AllByRecursion (λ (e : EntryIndex). content e ≡ life.content e) (table_in engine region).entries

-- so it is over any number of restarts, where engines of this version alone wrote the files
abbrev pub WrittenEntriesAreFound : Type 0
WrittenEntriesAreFound =
    (version : Version) (life : Life version) (later : List (Life version)) → IsFirstLife version life → FollowEachOther version life later
    → AllByRecursion (EntriesAreFound version) (life ∷ later)

-- an opening of found files asked for what is missing of each queue, and for nothing else: it told the rewrite queue nothing
pub record IsNothingTold (version : Version) (append rewrite : List NumberedBytes) (asks : List Ask) : Type 0 where
  pub append_missing : List Ask
  pub rewrite_missing : List Ask
  pub append_left : List NumberedBytes
  pub rewrite_left : List NumberedBytes
  pub append_ready : AreReadyBy Append version append_missing append append_left
  pub rewrite_ready : AreReadyBy Rewrite version rewrite_missing rewrite rewrite_left
  pub asked : asks ≡ rewrite_missing ++ (append_missing ++ found_asks append rewrite)

-- so does each opening of what a crash may leave of a life
abbrev pub IsLeftToldNothing : (version : Version) → Life version → Type 0
IsLeftToldNothing version life =
    (append rewrite : List NumberedBytes) → IsLeftOf Append life.asks append → IsLeftOf Rewrite life.asks rewrite → (engine : KeptEngine) → IsOpened version append rewrite engine
    → IsNothingTold version append rewrite engine.asks

-- and so it is over any number of restarts, where engines of this version alone wrote the files
abbrev pub OwnFilesAreToldNothing : Type 0
OwnFilesAreToldNothing =
    (version : Version) (life : Life version) (later : List (Life version)) → IsFirstLife version life → FollowEachOther version life later
    → AllByRecursion (IsLeftToldNothing version) (life ∷ later)

-- what was asked of an engine, of which this lasts, is a life of it
abbrev pub WhatLastsIsALife : Type 0
WhatLastsIsALife =
    (content : EntryIndex → List ℕ) (engine : KeptEngine) → AreBothTold engine.asks content → IsLasting content engine
    → (life : Life engine.version) × (life.asks ≡ engine.asks) × (life.content ≡ content)
