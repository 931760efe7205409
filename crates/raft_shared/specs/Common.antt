-- What the contracts of this crate import of std, of the crates below and of the definitions, in one place.
pub use Rattle.std.specs.Fn.{FnOnceReturnsAt}
pub use Rattle.std.specs.Iterator.{Drains, IsFinite, Yields}
pub use Rattle.std.specs.List.{AllByRecursion, FoldsTo}
pub use Rattle.std.specs.Sync.RwLock.{write_guard_value}
pub use Rattle.raft_base.specs.declared.pipe_log.LogQueue.{LogQueue}
pub use Rattle.raft_records.specs.Item.{command_item, item_of}
pub use Rattle.raft_records.specs.LogBatch.{is_open}
pub use Rattle.raft_records.specs.declared.command.Command.TheVariants.{Clean}
pub use Rattle.raft_records.specs.declared.log_item.LogItem.{LogItem}
pub use Rattle.raft_table.specs.Change.{AreCountsAfter, IsAllowed, IsAnswer, IsChangeFault, after_change}
pub use Rattle.raft_table.specs.Table.{Table, live_of, with_table_added, with_table_deleted}
pub use Rattle.raft_table.specs.declared.memtable.change.TableChange.{TableChange}
pub use Rattle.raft_accessor.specs.Accessor.{AreCountsOf, live_in_all, slot_of, table_in}
pub use Rattle.raft_accessor.specs.AccessorCalls.{IsTableChanged, IsWritten}
pub use Rattle.raft_accessor.specs.AppendChecks.{AreAcceptedOncePlaced, AreRefusedOncePlaced, IsAppendCheckFault}
pub use Rattle.raft_accessor.specs.Walks.{KeepsId, Makes}
pub use Rattle.raft_accessor.specs.Writes.{Appending, Rewriting}
pub use Rattle.raft_accessor.specs.WritingShown.{writing_shown}
pub use Rattle.raft_shared.specs.SharedCalls.{HasCleans, IsChangeAnswer, IsChangeRefusal, IsLastRefused, IsLockFault, IsNumberOf, IsRefusalOf, IsSharedItemFault, MayBeWritten}
pub use Rattle.raft_shared.specs.Slot.{AreSlotTablesAdded, AreTablesTaken, HaveShares, HoldsOwnTables, IsSlotTable}
