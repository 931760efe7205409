use Rattle.raft_records.proofs.log_batch.LogBatch.TheSendSync.{the_send as held}
use Rattle.raft_ffi.proofs.HandleKinds as handles
use Rattle.raft_ffi.specs.contracts.handles.Batch.{the_row}

pub send : handles.IsSend the_row
send = handles.send handles.batch held
