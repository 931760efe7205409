use Rattle.raft_opening.proofs.Common.{subst, on_ok_weaker, IsNamed}
use Rattle.raft_opening.proofs.path_source.PathSourceReadFiles.read.Goals as goal

-- the bytes are those that a read at the path of the file gave
pub returns-in-Some-clause-ok : goal.returns-in-Some-clause-ok
returns-in-Some-clause-ok g c =
    on_ok_weaker c.read_file.result
    (λ read. record { bytes = read.bytes; given = (c.in-Some.path.now, subst (λ paths. IsNamed paths c.args.file.seq c.in-Some.path.now) c.paths_of_queue.ensures c.in-Some.ensures, read.given); behind = read.behind })
    c.read_file.ensures.ok
