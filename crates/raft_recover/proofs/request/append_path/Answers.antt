use Rattle.raft_recover.proofs.Common.{◌∷◌, [], ◌++◌, map, ap, sym, subst, ◌∙◌, map_push, ArePathsNamed, path_shown}
use Rattle.raft_recover.proofs.RequestLemmas.{named_more}
use Rattle.raft_recover.proofs.request.append_path.Goals as goal

pub returns-clause-named : goal.returns-clause-named
returns-clause-named c words word before one =
    let old = c.in_ok-paths.paths.items in
    subst (ArePathsNamed (words ++ word ∷ [])) (sym (ap (map path_shown) c.in_ok-push.ensures.items ∙ map_push path_shown old c.args.path))
    (named_more words (map path_shown old) word (path_shown c.args.path) (rw c.in_ok-paths.was at before) one)
