use Rattle.raft_ffi.proofs.queue_reader.QueueReader.TheSendSync.{the_send as held}
use Rattle.raft_ffi.proofs.HandleKinds as handles
use Rattle.raft_ffi.specs.contracts.handles.Reader.{the_row}

pub send : handles.IsSend the_row
send = handles.send handles.reader held
