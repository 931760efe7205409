use Rattle.std.proofs.Common.{◌≡◌, ◌+◌, ◌++◌, drop}
use Rattle.raft_ffi.specs.Strings.{sized_entries}
use Rattle.raft_ffi.proofs.batch_calls.entries_of_lens.Given as goal

-- the entries so far and those that are left make up the whole
abbrev pub invariant-loop-k : goal.invariant-loop-k
invariant-loop-k l =
    l.entries.items ++ sized_entries (l.first + l.k) (drop l.k l.lens) ≡ sized_entries l.first l.lens
