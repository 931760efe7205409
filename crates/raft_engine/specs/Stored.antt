-- What is stored of an engine by what was asked of its files.
use Rattle.std.specs.Prelude.{◌≡◌, ℕ, List, ◌++◌}
use Rattle.raft_base.specs.declared.entry_index.EntryIndex.{EntryIndex}
use Rattle.raft_base.specs.declared.pipe_log.LogQueue.{LogQueue}
use Rattle.raft_base.specs.declared.pipe_log.LogQueue.TheVariants.{Append, Rewrite}
use Rattle.raft_base.specs.declared.pipe_log.Version.{Version}
use Rattle.raft_records.specs.Item.{Item}
use Rattle.raft_history.specs.RegionSteps.{Tables, steps_of_items}
use Rattle.raft_files.specs.Asks.{Act, Ask, acts_on}
use Rattle.raft_engine_laws.specs.GroupsInRows.{AreGroupsInRows}
use Rattle.raft_engine_laws.specs.Records.{Records}
use Rattle.raft_engine_laws.specs.Crashes.{Deed, written, synced, IsSafe}
use Rattle.raft_engine_prefixes.specs.Contents.{AreBothTold}
use Rattle.raft_engine_prefixes.specs.Done.{AreDoneWhole}
use Rattle.raft_engine_prefixes.specs.Prefixes.{ArePutWhole}
use Rattle.raft_engine.specs.Lasting.{HaveBothBegun, IsBegunOrFound, IsLastingAfter}
use Rattle.raft_engine.specs.WellPut.{AreWellPut}

-- the records that there were before the batches that are known, by the contents of entries
abbrev pub Bases : Type 0
Bases = (EntryIndex → List ℕ) → ℕ → Records

-- what was asked of the files of a queue does these deeds; all batches that were written were put there, those of deleted files too, and all is well put
pub record AreAllDone (queue : LogQueue) (version : Version) (acts : List Act) (deeds : List Deed) : Type 0 where
  pub done : AreDoneWhole queue version acts deeds
  pub put : ArePutWhole queue version acts (synced deeds) (written deeds)
  pub well : AreWellPut queue version acts

-- what was asked of the files does deeds that are safe for all contents that are told by it: these tables have the records of all batches that were written, and the rewrite queue isn't told these items; each group of it stands in a row
pub record AreStored (version : Version) (asks : List Ask) (base : Bases) (untold : List Item) (tables : Tables) : Type 0 where
  pub appended : List Deed
  pub rewritten : List Deed
  pub append_done : AreAllDone Append version (acts_on Append asks) appended
  pub rewrite_done : AreAllDone Rewrite version (acts_on Rewrite asks) rewritten
  pub rows : AreGroupsInRows (written rewritten)
  pub safe : (content : EntryIndex → List ℕ) → AreBothTold asks content → IsSafe content (base content) appended rewritten (steps_of_items untold) tables

-- for all contents that are told by what was asked, what lasts was so after each ask, the last one and those before it, once files were begun or found in both queues
abbrev pub AreEverLasting : Version → List Ask → Bases → Type 0
AreEverLasting version asks base = (content : EntryIndex → List ℕ) → AreBothTold asks content → (later earlier : List Ask) → asks ≡ later ++ earlier → HaveBothBegun earlier → IsLastingAfter content version (base content) earlier

-- so it is stored now, and lasted ever, since the first files were begun or found
pub record AreKeptStored (version : Version) (asks : List Ask) (base : Bases) (untold : List Item) (tables : Tables) : Type 0 where
  pub first : IsBegunOrFound asks
  pub now : AreStored version asks base untold tables
  pub ever : AreEverLasting version asks base
