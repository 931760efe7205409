use Rattle.raft_plain.proofs.Common.{map, file_shown}
use Rattle.raft_plain.proofs.FileLemmas.{AreBegun}
use Rattle.raft_plain.proofs.files.file_parts.Given as goal

abbrev pub invariant-loop-seq : goal.invariant-loop-seq
invariant-loop-seq l = AreBegun l.queue l.version (map file_shown l.fn.files.items) (map file_shown l.seq-iterator.rest.items) l.parts.items
