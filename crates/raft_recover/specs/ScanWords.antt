-- What the words of a scan ask for, as a plain value.
use Rattle.std.specs.Prelude.{map}
use Rattle.raft_recover.specs.AskedRequests.{path_shown}
use Rattle.raft_recover.specs.ScanRequests.{AskedScan}
use Rattle.raft_recover.specs.declared.scan_program.ScanWords as declared

-- the scan that words ask for
abbrev pub scan_asked : declared.ScanWords → AskedScan
scan_asked s = record { past_damage = s.past_damage; queue = s.queue; version = s.version; paths = map path_shown s.paths.items }
