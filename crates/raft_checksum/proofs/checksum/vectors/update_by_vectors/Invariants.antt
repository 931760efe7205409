-- The window stands for the register.
use Rattle.raft_checksum.proofs.Common.{◌≡◌, ℕ, ◌≤◌, length, register_after}
use Rattle.raft_checksum.specs.Vectors.{StandFor}
use Rattle.raft_checksum.proofs.checksum.vectors.update_by_vectors.Given as goal

abbrev pub invariant-loop-rest : goal.invariant-loop-rest
invariant-loop-rest l = record {
  long : 80 ≤ length l.rest;
  now : ℕ;
  stands : StandFor l.window.a l.window.b l.window.c l.window.d l.window.e now;
  same : register_after now l.rest ≡ register_after l.fn.register l.bytes;
}

abbrev pub decreases-loop-rest : goal.decreases-loop-rest
decreases-loop-rest l = length l.rest

abbrev pub invariant-loop-rest-2 : goal.invariant-loop-rest-2
invariant-loop-rest-2 l = record {
  long : 80 ≤ length l.rest;
  now : ℕ;
  stands : StandFor l.window.a l.window.b l.window.c l.window.d l.window.e now;
  same : register_after now l.rest ≡ register_after l.fn.register l.bytes;
}

abbrev pub decreases-loop-rest-2 : goal.decreases-loop-rest-2
decreases-loop-rest-2 l = length l.rest
