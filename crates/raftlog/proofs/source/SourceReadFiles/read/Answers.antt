use Rattle.std.proofs.Common.{subst}
use Rattle.raft_recover.specs.FileRecovery.{IsNamed}
use Rattle.raftlog.proofs.source.SourceReadFiles.read.Goals as goal

-- the bytes are those that a read at the path of the file gave
pub returns-in-Ok-clause-ok : goal.returns-in-Ok-clause-ok
returns-in-Ok-clause-ok g c =
    let read = c.in-Ok.ensures.ok in
    record {
      bytes = read.bytes;
      given = (c.in-Some.path.now, subst (λ paths. IsNamed paths c.args.file.seq c.in-Some.path.now) c.paths_of_queue.ensures c.in-Some.ensures, read.given);
      behind = read.behind;
    }
