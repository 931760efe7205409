use Rattle.raft_ffi.proofs.held_engine.HeldEngine.TheSendSync.{the_send as held}
use Rattle.raft_ffi.proofs.HandleKinds as handles
use Rattle.raft_ffi.specs.contracts.handles.Engine.{the_row}

pub send : handles.IsSend the_row
send = handles.send handles.engine held
