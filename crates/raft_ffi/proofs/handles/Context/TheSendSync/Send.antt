use Rattle.raft_contexts.proofs.recover_context.MemTableRecoverContext.TheSendSync.{the_send as held}
use Rattle.raft_ffi.proofs.HandleKinds as handles
use Rattle.raft_ffi.specs.contracts.handles.Context.{the_row}

pub send : handles.IsSend the_row
send = handles.send handles.context held
