use Rattle.raft_recover.proofs.Common.{left_from, IfOk, map, string_bytes, take, sym, subst, AllByRecursion, NamesPath, IsPathWord, ArePathsNamed, path_shown}
use Rattle.raft_recover.proofs.RequestLemmas.{front_more}
use Rattle.raft_recover.proofs.request.parse_paths.Goals as goal

pub loop-word-preserved : goal.loop-word-preserved
loop-word-preserved c =
    let words = c.args.words.now in
    let i = c.loop-word.word-index in
    let word = c.word-item.result in
    let next = left_from words i word c.loop-word-test.true c.word-item.is in
    let named = subst (λ w. NamesPath w c.in-Some.path.0 c.in-Some.path.1.now) c.as_str.ensures.value c.in-Some.ensures.named in
    let more = c.append_path-paths.ensures.named (map string_bytes (take i words)) (string_bytes word) c.loop-word.invariant.0 named in (
      subst (λ ws. IfOk c.append_path-paths.result (λ paths. ArePathsNamed ws (map path_shown paths.items))) (sym (front_more string_bytes words i word c.loop-word-test.true c.word-item.is)) more,
      c.append_path-paths.ensures.memory c.loop-word.invariant.1,
      λ left. c.loop-word.invariant.2 (subst (λ ws. AllByRecursion IsPathWord (map string_bytes ws)) (sym next) (record { seq = c.in-Some.path.0; path = c.in-Some.path.1.now; named = named }, left)),
      λ all. (subst (λ ws. AllByRecursion IsPathWord (map string_bytes ws)) next (c.loop-word.invariant.3 all)).1,
    )
