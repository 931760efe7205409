use Rattle.raft_accessor.proofs.accessor.MemTableAccessor.TheSendSync.{the_send as held}
use Rattle.raft_ffi.proofs.HandleKinds as handles
use Rattle.raft_ffi.specs.contracts.handles.Tables.{the_row}

pub send : handles.IsSend the_row
send = handles.send handles.tables held
