use Rattle.raft_recover.proofs.Common.{map, file_shown}
use Rattle.raft_recover.proofs.FileLemmas.{AreBegun}
use Rattle.raft_recover.proofs.files.file_segments.Given as goal

abbrev pub invariant-loop-seq : goal.invariant-loop-seq
invariant-loop-seq l = AreBegun l.queue l.version (map file_shown l.fn.files.items) (map file_shown l.seq-iterator.rest.items) l.segments.items
