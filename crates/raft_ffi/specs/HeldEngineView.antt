-- As which engine a `HeldEngine` is seen.
use Rattle.raft_engine.specs.KeptEngine.{KeptEngine}
use Rattle.raft_ffi.specs.declared.held_engine.HeldEngine.TheInside.{Inside}

-- the engine
abbrev pub engine_in : Inside → KeptEngine
engine_in held = held.engine
