use Rattle.raft_ffi.proofs.Common.{◌≡◌, length, map, take, drop, entry_of}
use Rattle.raft_ffi.proofs.entries.copy_entries.Given as goal

-- the first entries are copied, those behind them are as they were, and there is as much room
abbrev pub invariant-loop-k : goal.invariant-loop-k
invariant-loop-k l = record {
  room : length l.room ≡ length l.fn.room;
  copied : map entry_of (take l.k l.room) ≡ take l.k l.found;
  kept : drop l.k l.room ≡ drop l.k l.fn.room;
}
