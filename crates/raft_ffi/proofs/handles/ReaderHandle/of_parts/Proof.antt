use Rattle.raft_ffi.proofs.HandleKinds as handles
use Rattle.raft_ffi.proofs.handles.ReaderHandle.of_parts.Statement as stated
use Rattle.raft_ffi.proofs.handles.ReaderHandle.of_parts.Code as code

pub of_parts_spec : {M : Type 1} → stated.statement M
of_parts_spec 𝓤 𝓛 𝓜 𝓡 wired = handles.of_parts handles.reader 𝓛 𝓜 𝓡 _ (code.unfolded 𝓤 𝓛.H 𝓜 𝓡 wired)
