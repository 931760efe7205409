use Rattle.raft_files.proofs.Common.{◌≡◌, map, drop, file_shown, bytes_at}
use Rattle.raft_files.proofs.memory_files.read_bytes_at.Given as goal

abbrev pub invariant-loop-seq : goal.invariant-loop-seq
invariant-loop-seq l =
    bytes_at (map file_shown l.files.items) l.place.id.seq l.place.offset l.place.len ≡ bytes_at (map file_shown (drop l.seq-index l.files.items)) l.place.id.seq l.place.offset l.place.len
