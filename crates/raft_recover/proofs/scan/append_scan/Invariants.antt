use Rattle.std.proofs.Common.{◌-◌, length, string_bytes}
use Rattle.raft_recover.proofs.ScanLemmas.{IsScanning}
use Rattle.raft_recover.proofs.scan.append_scan.Given as goal

abbrev pub invariant-loop-at : goal.invariant-loop-at
invariant-loop-at l = IsScanning l.past_damage l.part (string_bytes l.fn.text) (string_bytes l.text) l.at l.undamaged

abbrev pub decreases-loop-at : goal.decreases-loop-at
decreases-loop-at l = length l.part.bytes - l.at
