use Rattle.raft_recover.proofs.Common.{on_passed, ◌≡◌, ◌∷◌, List, ℕ, map, string_bytes, ap, length, ◌-◌, take, drop, subst, ArePathsNamed, AsksRecovery}
use Rattle.raft_recover.proofs.RequestLemmas.{four_and_more, same_text, same_rest, recover_first, files_of_words, each_names}
use Rattle.raft_recover.proofs.request.parse_recover_request.Goals.{In-Some-parse_number}
use Rattle.raft_recover.proofs.request.parse_recover_request.Goals.at as at
use Rattle.raft_recover.proofs.request.parse_recover_request.Goals as goal

-- the words behind the first four
abbrev rest : (c : In-Some-parse_number) → List (List ℕ)
rest c = map string_bytes (take (length c.args.words.now - 4) (drop 4 c.args.words.now))

words : (c : In-Some-parse_number) → map string_bytes c.args.words.now ≡ c.as_str.result.now ∷ c.as_str-2.result.now ∷ c.as_str-3.result.now ∷ c.as_str-4.result.now ∷ rest c
words c =
    let items = four_and_more c.args.words.now c.command-item.result c.queue-item.result c.version-item.result c.workers-item.result c.in-len4-up.len_at_least c.command-item.is c.queue-item.is c.version-item.is c.workers-item.is in
    rw (c.as_str.ensures.value, c.as_str-2.ensures.value, c.as_str-3.ensures.value, c.as_str-4.ensures.value) (ap (map string_bytes) items)

-- what the words ask for, where those behind the first four name these paths
asked : (c : In-Some-parse_number) (paths : List (ℕ × List ℕ)) → ArePathsNamed (rest c) paths
    → AsksRecovery (map string_bytes c.args.words.now) record { queue = c.in-Some.queue; version = c.in-Some-parse_version.version; workers = c.in-Some-parse_number.workers; paths = paths }
asked c paths named = record {
  queue = c.as_str-2.result.now;
  version = c.as_str-3.result.now;
  workers = c.as_str-4.result.now;
  path_words = rest c;
  form = recover_first (map string_bytes c.args.words.now) (rest c) c.as_str.result.now c.as_str-2.result.now c.as_str-3.result.now c.as_str-4.result.now (words c) (same_text _ _ c.if-ne.ensures);
  queue_named = c.in-Some.ensures.named;
  version_named = c.in-Some-parse_version.ensures.named;
  workers_named = c.in-Some-parse_number.ensures.named;
  paths_named = named;
}

pub returns-clause-asked : goal.returns-clause-asked
returns-clause-asked c = asked (at.returns-clause-asked c).In-Some-parse_number _ (rw c.in-Some-2.is at c.in_ok-paths.ensures.named)

pub returns-in_default-2-clause-refused : goal.returns-in_default-2-clause-refused
returns-in_default-2-clause-refused c =
    let before = (at.returns-in_default-2-clause-refused c).In-Some-parse_number in
    let none = rw c.in_default-2.is at c.in_ok-paths.ensures.refused in
    λ recovery asked. none (each_names (rest before) recovery.paths (subst (λ ws. ArePathsNamed ws recovery.paths)
    (same_rest (map string_bytes c.args.words.now) (rest before) asked.path_words _ _ _ _ _ _ _ _ (words before) asked.form) asked.paths_named))

pub returns-in_err-paths-clause-memory : goal.returns-in_err-paths-clause-memory
returns-in_err-paths-clause-memory c =
    let before = (at.returns-in_err-paths-clause-memory c).In-Some-parse_number in
    let files = files_of_words (rest before) c.in_err-paths.ensures.memory.1 in
    on_passed _ _ c.from_residual.ensures.1 (c.in_err-paths.ensures.memory.0, _, asked before files.0 files.1)
