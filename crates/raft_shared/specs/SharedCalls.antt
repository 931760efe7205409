-- Changes under the lock of a slot.
use Rattle.std.specs.Prelude.{◌≡◌, ◌⊎◌, ℕ, List, [], ◌∷◌, ◌++◌, map, Option, Some}
use Rattle.std.specs.List.{AllByRecursion}
use Rattle.std.specs.Fn.{Once, FnOnceReturnsAt}
use Rattle.std.specs.Borrow.{Bor}
use Rattle.raft_base.specs.declared.errors.Error.{Error}
use Rattle.raft_base.specs.declared.errors.Error.TheVariants as errors
use Rattle.raft_records.specs.Item.{Item, command_item}
use Rattle.raft_records.specs.LogBatch.{Batch}
use Rattle.raft_records.specs.declared.command.Command.TheVariants.{Clean}
use Rattle.raft_table.specs.declared.memtable.change.TableChange.{TableChange}
use Rattle.raft_table.specs.Change.{after_change, IsAllowed, IsAnswer, IsChangeFault}
use Rattle.raft_table.specs.Counts.{Counts}
use Rattle.raft_table.specs.Table.{Table}
use Rattle.raft_accessor.specs.Accessor.{slot_of}
use Rattle.raft_shared.specs.Slot.{IsSlotTable}
use Rattle.raft_accessor.specs.Writes.{Writing, IsFor, after_content, IsWriteFault}

-- the number is that of an allowed change of a table that may stand under the id, the change being the call's answer for this table
abbrev pub IsChangeAnswer : {F : Type 0} → Once F (Bor Table × Unit {0}) TableChange → F → ℕ → ℕ → Type 0
IsChangeAnswer g f id n = (t : Table) × (u : Table) × (change : TableChange) × IsSlotTable (slot_of id) id t × FnOnceReturnsAt g f t change × (after_change t change ≡ Some u) × IsAnswer change t u n × IsAllowed change

-- want of memory, or a lock whose slot has another number, or isn't empty where it has to be
abbrev pub IsLockFault : Error → Type 0
IsLockFault e = (e ≡ errors.Memory) ⊎ (e ≡ errors.Failed)

-- the change that the call answers for a table that may stand under the id is refused of it, at some counts, or the lock refuses
abbrev pub IsChangeRefusal : {F : Type 0} → Once F (Bor Table × Unit {0}) TableChange → F → ℕ → Error → Type 0
IsChangeRefusal g f id e = IsLockFault e ⊎ ((t : Table) × (counts : Counts) × (change : TableChange) × IsSlotTable (slot_of id) id t × FnOnceReturnsAt g f t change × IsChangeFault t counts change e)

-- the number is that of this change, which is allowed, of a table that may stand under the id
abbrev pub IsNumberOf : TableChange → ℕ → ℕ → Type 0
IsNumberOf change id n = (t : Table) × (u : Table) × IsSlotTable (slot_of id) id t × (after_change t change ≡ Some u) × IsAnswer change t u n × IsAllowed change

-- this change is refused of a table that may stand under the id, at some counts, or the lock refuses
abbrev pub IsRefusalOf : TableChange → ℕ → Error → Type 0
IsRefusalOf change id e = IsLockFault e ⊎ ((t : Table) × (counts : Counts) × IsSlotTable (slot_of id) id t × IsChangeFault t counts change e)

-- a batch with a `Clean` for each of some regions more
pub record HasCleans (old new : Batch) : Type 0 where
  pub regions : List ℕ
  pub moved : new ≡ record old { items = old.items ++ map (λ id. command_item id Clean) regions }

-- an item may be written: it is as asked, and some table of its region, or its absence, has an outcome
pub record MayBeWritten (w : Writing) (item : Item) : Type 0 where
  pub asked : IsFor w item.content
  pub before : Option Table
  pub after : Option Table
  pub outcome : after_content w item.raft_group_id before item.content ≡ Some after

-- an item is refused of some table of its region, or its absence, at some live count, or the lock refuses
abbrev pub IsSharedItemFault : Writing → Item → Error → Type 0
IsSharedItemFault w item e = (e ≡ errors.Failed) ⊎ ((before : Option Table) × (live : ℕ) × IsWriteFault w item.raft_group_id before live item.content e)

-- the last of some items is refused, and those in front of it may be written
pub record IsLastRefused (w : Writing) (items : List Item) (e : Error) : Type 0 where
  pub front : List Item
  pub last : Item
  pub split : items ≡ front ++ last ∷ []
  pub written : AllByRecursion (MayBeWritten w) front
  pub fault : IsSharedItemFault w last e
