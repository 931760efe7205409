-- The types of handles, by what they hold, and the proofs of the calls of each.
use mathlib.Core.Path.{refl}
use Rattle.raft_records.specs.contracts.log_batch.LogBatch as HeldBatch
use Rattle.raft_records.proofs.log_batch.LogBatch.TheLaws as held_batch
use Rattle.raft_ffi.specs.contracts.handles.Batch as Batch
use Rattle.raft_contexts.specs.contracts.recover_context.MemTableRecoverContext as HeldContext
use Rattle.raft_contexts.proofs.recover_context.MemTableRecoverContext.TheLaws as held_context
use Rattle.raft_ffi.specs.contracts.handles.Context as Context
use Rattle.raft_ffi.specs.contracts.item_list.ItemList as HeldItems
use Rattle.raft_ffi.proofs.item_list.ItemList.TheLaws as held_items
use Rattle.raft_ffi.specs.contracts.handles.Items as Items
use Rattle.raft_accessor.specs.contracts.accessor.MemTableAccessor as HeldTables
use Rattle.raft_accessor.proofs.accessor.MemTableAccessor.TheLaws as held_tables
use Rattle.raft_ffi.specs.contracts.handles.Tables as Tables
use Rattle.raft_ffi.specs.contracts.held_engine.HeldEngine as HeldEngine
use Rattle.raft_ffi.proofs.held_engine.HeldEngine.TheLaws as held_engine
use Rattle.raft_ffi.specs.contracts.handles.Engine as Engine
use Rattle.raft_ffi.specs.contracts.queue_reader.QueueReader as HeldReader
use Rattle.raft_ffi.proofs.queue_reader.QueueReader.TheLaws as held_reader
use Rattle.raft_ffi.specs.contracts.handles.Reader as Reader
use Rattle.raft_ffi.proofs.HandleSteps.{Handle}
pub use Rattle.raft_ffi.proofs.MoveSteps.{empty, of_parts, into_parts}
pub use Rattle.raft_ffi.proofs.SendSteps.{send}
pub use denote.Param.Send.{IsSend}

abbrev pub batch : Handle
batch = record { of = HeldBatch.the_row; laws = held_batch.the_row_laws; owner = Batch.the_type; shown = λ d. (d.at, (d.alloc, d.value)); make = λ p a o. record { at = p; alloc = a; value = o }; made = λ p a o. refl }

abbrev pub context : Handle
context = record { of = HeldContext.the_row; laws = held_context.the_row_laws; owner = Context.the_type; shown = λ d. (d.at, (d.alloc, d.value)); make = λ p a o. record { at = p; alloc = a; value = o }; made = λ p a o. refl }

abbrev pub items : Handle
items = record { of = HeldItems.the_row; laws = held_items.the_row_laws; owner = Items.the_type; shown = λ d. (d.at, (d.alloc, d.value)); make = λ p a o. record { at = p; alloc = a; value = o }; made = λ p a o. refl }

abbrev pub tables : Handle
tables = record { of = HeldTables.the_row; laws = held_tables.the_row_laws; owner = Tables.the_type; shown = λ d. (d.at, (d.alloc, d.value)); make = λ p a o. record { at = p; alloc = a; value = o }; made = λ p a o. refl }

abbrev pub engine : Handle
engine = record { of = HeldEngine.the_row; laws = held_engine.the_row_laws; owner = Engine.the_type; shown = λ d. (d.at, (d.alloc, d.value)); make = λ p a o. record { at = p; alloc = a; value = o }; made = λ p a o. refl }

abbrev pub reader : Handle
reader = record { of = HeldReader.the_row; laws = held_reader.the_row_laws; owner = Reader.the_type; shown = λ d. (d.at, (d.alloc, d.value)); make = λ p a o. record { at = p; alloc = a; value = o }; made = λ p a o. refl }
