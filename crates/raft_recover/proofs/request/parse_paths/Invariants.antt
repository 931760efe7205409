use Rattle.raft_recover.proofs.Common.{◌≡◌, IfOk, IfErr, map, string_bytes, take, drop, AllByRecursion, IsPathWord, ArePathsNamed, path_shown}
use Rattle.raft_base.specs.declared.errors.Error.TheVariants.{Memory}
use Rattle.raft_recover.proofs.request.parse_paths.Given as goal

-- the paths so far are those of the words in front, if there was memory for them; all words name files exactly if those that are left do
abbrev pub invariant-loop-word : goal.invariant-loop-word
invariant-loop-word l =
    IfOk l.paths (λ paths. ArePathsNamed (map string_bytes (take l.word-index l.words)) (map path_shown paths.items))
    × IfErr l.paths (λ e. e ≡ Memory)
    × (AllByRecursion IsPathWord (map string_bytes (drop l.word-index l.words)) → AllByRecursion IsPathWord (map string_bytes l.words))
    × (AllByRecursion IsPathWord (map string_bytes l.words) → AllByRecursion IsPathWord (map string_bytes (drop l.word-index l.words)))
