use Rattle.std.proofs.Common.{map, string_bytes}
use Rattle.raft_recover.specs.AskedRequests.{file_shown}
use Rattle.raft_recover.proofs.ScanRequestLemmas.{AreBegun}
use Rattle.raft_recover.proofs.scan_program.append_scans.Given as goal

abbrev pub invariant-loop-seq : goal.invariant-loop-seq
invariant-loop-seq l =
    AreBegun l.scan.past_damage l.scan.queue l.scan.version (map file_shown l.fn.files.items) (map file_shown l.seq-iterator.rest.items) (string_bytes l.fn.text) (string_bytes l.text) l.all_undamaged
