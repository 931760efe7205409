use Rattle.std.proofs.Common.{rules}
use Rattle.std.proofs.lemmas.List.Sorted.{answers_always}
use Rattle.std.proofs.lemmas.Map.Lookups.{exact_unsigned}
use Rattle.raft_opening.proofs.PathLemmas.{named_by}
use Rattle.raft_opening.proofs.path_source.path_of_file.Goals as goal

-- the closure gives the number of a file
pub returns-in-Ok : goal.returns-in-Ok
returns-in-Ok c =
    let at = c.in-Ok.ensures.position (λ named. named.0) (answers_always _ _ _ (λ f a r g called. search rules)) in
    named_by c.args.paths.now c.in-Ok.index _ c.args.seq c.as_str.result.now c.in-Ok.ensures.bound (exact_unsigned _ _ (at _)) c.as_str.ensures.value
