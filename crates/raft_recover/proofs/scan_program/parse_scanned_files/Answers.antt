use Rattle.raft_recover.proofs.Common.{on_passed, ◌≡◌, ◌∷◌, List, ℕ, map, string_bytes, ap, length, ◌-◌, take, drop, subst, refl, ArePathsNamed, AskedScan, NamesFiles}
use Rattle.raft_recover.proofs.RequestLemmas.{two_and_more, files_of_words, each_names}
use Rattle.raft_recover.proofs.ScanRequestLemmas.{same_behind_two}
use Rattle.raft_recover.proofs.scan_program.parse_scanned_files.Goals.{In-Some-parse_version}
use Rattle.raft_recover.proofs.scan_program.parse_scanned_files.Goals.at as at
use Rattle.raft_recover.proofs.scan_program.parse_scanned_files.Goals as goal

-- the words behind the first two
abbrev pub rest : (c : In-Some-parse_version) → List (List ℕ)
rest c = map string_bytes (take (length c.args.words.now - 2) (drop 2 c.args.words.now))

words : (c : In-Some-parse_version) → map string_bytes c.args.words.now ≡ c.as_str.result.now ∷ c.as_str-2.result.now ∷ rest c
words c =
    let items = two_and_more c.args.words.now c.queue-item.result c.version-item.result c.in-len2-up.len_at_least c.queue-item.is c.version-item.is in
    rw (c.as_str.ensures.value, c.as_str-2.ensures.value) (ap (map string_bytes) items)

-- the files that the words name, where those behind the first two name these paths
abbrev pub scan_of : (c : In-Some-parse_version) → List (ℕ × List ℕ) → AskedScan
scan_of c paths = record { past_damage = c.args.past; queue = c.in-Some.queue; version = c.in-Some-parse_version.version; paths = paths }

named : (c : In-Some-parse_version) (paths : List (ℕ × List ℕ)) → ArePathsNamed (rest c) paths → NamesFiles (map string_bytes c.args.words.now) (scan_of c paths)
named c paths names = record {
  queue = c.as_str.result.now;
  version = c.as_str-2.result.now;
  path_words = rest c;
  form = words c;
  queue_named = c.in-Some.ensures.named;
  version_named = c.in-Some-parse_version.ensures.named;
  paths_named = names;
}

pub returns-clause-asked : goal.returns-clause-asked
returns-clause-asked c = (refl, named (at.returns-clause-asked c).In-Some-parse_version _ (rw c.in-Some-2.is at c.in_ok-paths.ensures.named))

pub returns-in_default-2-clause-refused : goal.returns-in_default-2-clause-refused
returns-in_default-2-clause-refused c =
    let before = (at.returns-in_default-2-clause-refused c).In-Some-parse_version in
    let none = rw c.in_default-2.is at c.in_ok-paths.ensures.refused in
    λ scan files. none (each_names (rest before) scan.paths (subst (λ ws. ArePathsNamed ws scan.paths)
    (same_behind_two (map string_bytes c.args.words.now) (rest before) files.path_words _ _ _ _ (words before) files.form) files.paths_named))

pub returns-in_err-paths-clause-memory : goal.returns-in_err-paths-clause-memory
returns-in_err-paths-clause-memory c =
    let before = (at.returns-in_err-paths-clause-memory c).In-Some-parse_version in
    let files = files_of_words (rest before) c.in_err-paths.ensures.memory.1 in
    on_passed _ _ c.from_residual.ensures.1 (c.in_err-paths.ensures.memory.0, scan_of before files.0, refl, named before files.0 files.1)
