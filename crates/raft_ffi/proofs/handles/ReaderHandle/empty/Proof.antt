use Rattle.raft_ffi.proofs.HandleKinds as handles
use Rattle.raft_ffi.proofs.handles.ReaderHandle.empty.Statement as stated
use Rattle.raft_ffi.proofs.handles.ReaderHandle.empty.Code as code

pub empty_spec : {M : Type 1} → stated.statement M
empty_spec 𝓤 𝓛 𝓜 𝓡 wired = handles.empty handles.reader 𝓛 𝓜 𝓡 _ (code.unfolded 𝓤 𝓛.H 𝓜 𝓡 wired)
