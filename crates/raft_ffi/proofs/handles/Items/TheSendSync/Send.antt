use Rattle.raft_ffi.proofs.item_list.ItemList.TheSendSync.{the_send as held}
use Rattle.raft_ffi.proofs.HandleKinds as handles
use Rattle.raft_ffi.specs.contracts.handles.Items.{the_row}

pub send : handles.IsSend the_row
send = handles.send handles.items held
