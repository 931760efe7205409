use Rattle.raft_recover.proofs.Common.{rules}
use Rattle.std.proofs.lemmas.List.Sorted.{answers_always}
use Rattle.std.proofs.lemmas.Map.Lookups.{exact_unsigned}
use Rattle.raft_recover.proofs.NamedFileLemmas.{named_by}
use Rattle.raft_recover.proofs.named_files.path_of_file.Goals as goal

-- the closure gives the number of a file
pub returns-in-Ok : goal.returns-in-Ok
returns-in-Ok c =
    let at = c.in-Ok.ensures.position (λ named. named.0) (answers_always _ _ _ (λ f a r g called. search rules)) in
    named_by c.args.paths.now c.in-Ok.index _ c.args.seq c.in-Ok.ensures.bound (exact_unsigned _ _ (at _))
