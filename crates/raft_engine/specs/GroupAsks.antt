-- What the batches of an atomic group make of what is stored.
use Rattle.std.specs.Prelude.{◌≡◌, ℕ, ◌<◌, List, [], ◌∷◌, ◌++◌, flat_map, Some, None, length, take}
use Rattle.std.specs.FinMap as finite
use Rattle.std.specs.List.{AllByRecursion}
use Rattle.raft_base.specs.declared.entry_index.EntryIndex.{EntryIndex}
use Rattle.raft_base.specs.declared.pipe_log.LogFileContext.{LogFileContext}
use Rattle.raft_base.specs.declared.pipe_log.LogQueue.TheVariants.{Append, Rewrite}
use Rattle.raft_base.specs.declared.pipe_log.Version.{Version}
use Rattle.raft_records.specs.Group.{group_marker_item, marker_byte}
use Rattle.raft_records.specs.Item.{Item}
use Rattle.raft_records.specs.LogBatch.{Batch}
use Rattle.raft_records.specs.declared.atomic_group.AtomicGroupStatus.{AtomicGroupStatus}
use Rattle.raft_records.specs.declared.atomic_group.AtomicGroupStatus.TheVariants.{Begin, Middle, End}
use Rattle.raft_history.specs.Batches.{Event}
use Rattle.raft_history.specs.RegionSteps.{Tables}
use Rattle.raft_table.specs.Table.{Table}
use Rattle.raft_accessor.specs.Writes.{Rewriting, after_items}
use Rattle.raft_files.specs.Asks.{Ask, Put, acts_on, ask}
use Rattle.raft_engine_laws.specs.Groups.{IsMarked}
use Rattle.raft_engine_laws.specs.Moving.{MoveAgain}
use Rattle.raft_engine_laws.specs.Crashes.{AreInFileOf, written}
use Rattle.raft_engine_prefixes.specs.Contents.{AreBothTold}
use Rattle.raft_engine.specs.BatchBytes.{bytes_for, placed_at}
use Rattle.raft_engine.specs.GroupBatches.{IsGroupMoving, placed_from, puts_asks}
use Rattle.raft_engine.specs.KeptEngine.{IsLastFile}
use Rattle.raft_engine.specs.Lasting.{AreSynced, IsBegunOrFound}
use Rattle.raft_engine.specs.Stored.{AreEverLasting, AreKeptStored, AreStored, Bases}
use Rattle.raft_engine.specs.StoredAsks.{IsWritableBatch}

-- a batch of a group: its first item is the group marker of this status, and no other one is a group marker
pub record IsOfGroup (group : ℕ) (status : AtomicGroupStatus) (batch : Batch) : Type 0 where
  pub rest : List Item
  pub first : batch.items ≡ group_marker_item group status ∷ rest
  pub others : AllByRecursion (λ (item : Item). marker_byte item.content ≡ None) rest

-- A group is begun: the batches that were put last in the rewrite queue, in the file of this number, are its Begin and
-- Middles, whose items, with their places, are these. What is stored are still these tables, and nothing is untold.
pub record IsGroupBegun (version : Version) (asks : List Ask) (base : Bases) (tables : Tables) (group seq : ℕ) (items : List Item) : Type 0 where
  pub first : IsBegunOrFound asks
  pub stored : AreStored version asks base [] tables
  pub ever : AreEverLasting version asks base
  pub earlier : List Event
  pub begin : Event
  pub middles : List Event
  pub split : written stored.rewritten ≡ earlier ++ begin ∷ middles
  pub begins : IsMarked group Begin begin
  pub goes_on : AllByRecursion (IsMarked group Middle) middles
  pub in_file : AreInFileOf seq (begin ∷ middles)
  pub have : flat_map (λ (e : Event). e.items) (begin ∷ middles) ≡ items

-- a batch that begins a group may be put behind the rewrite queue's last file
abbrev pub BegunGroupsAreStored : Type 0
BegunGroupsAreStored =
    (version : Version) (asks : List Ask) (base : Bases) (tables : Tables) (seq : ℕ) (bytes : List ℕ) (group : ℕ) (batch : Batch)
    → IsLastFile Rewrite asks seq bytes → IsWritableBatch batch → IsOfGroup group Begin batch
    → AreKeptStored version asks base [] tables
    → IsGroupBegun version (ask Rewrite (Put (bytes_for (record { id = record { queue = Rewrite; seq = seq }; version = version }) batch)) ∷ asks) base tables
    group seq (placed_at (record { queue = Rewrite; seq = seq }) (length bytes) batch)

-- so may one that goes on with it
abbrev pub GroupsGoOnStored : Type 0
GroupsGoOnStored =
    (version : Version) (asks : List Ask) (base : Bases) (tables : Tables) (seq : ℕ) (bytes : List ℕ) (group : ℕ) (batch : Batch) (items : List Item)
    → IsLastFile Rewrite asks seq bytes → IsWritableBatch batch → IsOfGroup group Middle batch
    → IsGroupBegun version asks base tables group seq items
    → IsGroupBegun version (ask Rewrite (Put (bytes_for (record { id = record { queue = Rewrite; seq = seq }; version = version }) batch)) ∷ asks) base tables
    group seq (items ++ placed_at (record { queue = Rewrite; seq = seq }) (length bytes) batch)

-- and where the append queue is synced, one that ends it: the group is stored as the tables that take the items of all its batches by a rewriting, if these
-- move records again for all contents that are told then
abbrev pub EndedGroupsAreStored : Type 0
EndedGroupsAreStored =
    (version : Version) (asks : List Ask) (base : Bases) (tables new : Tables) (seq : ℕ) (bytes : List ℕ) (group : ℕ) (batch : Batch) (items : List Item)
    → AreSynced (acts_on Append asks) → IsLastFile Rewrite asks seq bytes → IsWritableBatch batch → IsOfGroup group End batch
    → IsGroupBegun version asks base tables group seq items
    → after_items (Rewriting None seq) tables (items ++ placed_at (record { queue = Rewrite; seq = seq }) (length bytes) batch) ≡ Some new
    → ((content : EntryIndex → List ℕ)
    → AreBothTold (ask Rewrite (Put (bytes_for (record { id = record { queue = Rewrite; seq = seq }; version = version }) batch)) ∷ asks) content
    → MoveAgain content tables (record { queue = Rewrite; seq = seq }) (items ++ placed_at (record { queue = Rewrite; seq = seq }) (length bytes) batch))
    → AreKeptStored version (ask Rewrite (Put (bytes_for (record { id = record { queue = Rewrite; seq = seq }; version = version }) batch)) ∷ asks) base [] new

-- it is stored as some tables once it is put, before the tables take it
abbrev pub EndedGroupsArePut : Type 0
EndedGroupsArePut =
    (version : Version) (asks : List Ask) (base : Bases) (tables : Tables) (seq : ℕ) (bytes : List ℕ) (group : ℕ) (batch : Batch) (items : List Item)
    → AreSynced (acts_on Append asks) → IsLastFile Rewrite asks seq bytes → IsWritableBatch batch → IsOfGroup group End batch
    → IsGroupBegun version asks base tables group seq items
    → ((content : EntryIndex → List ℕ)
    → AreBothTold (ask Rewrite (Put (bytes_for (record { id = record { queue = Rewrite; seq = seq }; version = version }) batch)) ∷ asks) content
    → MoveAgain content tables (record { queue = Rewrite; seq = seq }) (items ++ placed_at (record { queue = Rewrite; seq = seq }) (length bytes) batch))
    → (new : Tables) × AreKeptStored version (ask Rewrite (Put (bytes_for (record { id = record { queue = Rewrite; seq = seq }; version = version }) batch)) ∷ asks) base [] new

-- What the batches of a group make of what is stored, which are put in this file from the end of these bytes on, one after another: so long as the End isn't put,
-- what was stored; then some tables, and those that take the items of all batches by a rewriting.
pub record AreGroupBatchesStored (version : Version) (asks : List Ask) (base : Bases) (tables : Tables) (file : LogFileContext) (bytes : List ℕ) (batches : List Batch) : Type 0 where
  pub begun : (n : ℕ) → n < length batches → AreKeptStored version (puts_asks file (take n batches) asks) base [] tables
  pub put : (new : Tables) × AreKeptStored version (puts_asks file batches asks) base [] new
  pub moved : (new : Tables) → after_items (Rewriting None file.id.seq) tables (placed_from file.id (length bytes) batches) ≡ Some new
      → AreKeptStored version (puts_asks file batches asks) base [] new

-- where the append queue is synced and nothing is untold, the batches of a group that move a region's rewritten records may be put behind the rewrite queue's last file
abbrev pub MovedGroupsAreStored : Type 0
MovedGroupsAreStored =
    (version : Version) (old asks : List Ask) (base : Bases) (tables : Tables) (seq : ℕ) (bytes : List ℕ) (group : ℕ) (t : Table) (batches : List Batch)
    → AreSynced (acts_on Append asks) → IsLastFile Rewrite asks seq bytes → AllByRecursion IsWritableBatch batches
    → finite.get tables t.region_id ≡ Some t → IsGroupMoving t old asks group batches → AreKeptStored version asks base [] tables
    → AreGroupBatchesStored version asks base tables (record { id = record { queue = Rewrite; seq = seq }; version = version }) bytes batches
