-- Files by their numbers and paths.
use Rattle.std.proofs.Common.{◌≡◌, ◌<◌, ◌≤◌, ℕ, ◌+◌, zero, suc, List, [], ◌∷◌, ◌++◌, String, string_bytes, drop, get_or, map, length, refl, subst, sym, ◌∙◌, ap, arith}
use Rattle.std.proofs.lemmas.Simd.{map-map}
use Rattle.raft_reading.specs.declared.queue_files.FileSize.{FileSize}
use Rattle.raft_recover.proofs.RequestLemmas.{number_more, numbers_all}
use Rattle.raft_recover.specs.FileRecovery.{AreSizesOf, IsNamed}
use Rattle.raft_recover.specs.Requests.{NumberedPath}
use Rattle.raftlog.specs.Sources.{path_shown}

-- a file that stands among others is named by its number and its path
named_at : {A : Type 0} (paths : List (ℕ × String A)) (i : ℕ) (d : ℕ × String A) → i < length paths → IsNamed (map path_shown paths) (get_or paths i d).0 (string_bytes (get_or paths i d).1)
named_at [] i d low = absurd (omega (arith, low))
named_at (x ∷ xs) zero d low = record { before = []; after = map path_shown xs; split = refl }
named_at (x ∷ xs) (suc i) d low =
    let rest = named_at xs i d (omega (arith, low)) in
    record { before = path_shown x ∷ rest.before; after = rest.after; split = ap (λ ys. path_shown x ∷ ys) rest.split }

-- a file at whose place this number stands is named by it
pub named_by : {A : Type 0} (paths : List (ℕ × String A)) (i : ℕ) (d : ℕ × String A) (seq : ℕ) (path : List ℕ) → i < length paths → (get_or paths i d).0 ≡ seq → path ≡ string_bytes (get_or paths i d).1
    → IsNamed (map path_shown paths) seq path
named_by paths i d seq path low same is =
    subst (λ (p : List ℕ). IsNamed (map path_shown paths) seq p) (sym is)
    (subst (λ (n : ℕ). IsNamed (map path_shown paths) n (string_bytes (get_or paths i d).1)) same (named_at paths i d low))

-- the number of a file by its path
abbrev number_of : {A : Type 0} → ℕ × String A → ℕ
number_of file = file.0

-- the number of a file by its size
abbrev seq_of : FileSize → ℕ
seq_of size = size.seq

-- the sizes so far, and behind them the files from an index on, have the numbers of all files
abbrev pub AreSoFar : {A : Type 0} → List (ℕ × String A) → ℕ → List FileSize → Type 0
AreSoFar paths i sizes = map seq_of sizes ++ map number_of (drop i paths) ≡ map number_of paths

-- so it is with the size of one file more
pub one_more : {A : Type 0} (paths : List (ℕ × String A)) (i : ℕ) (file : ℕ × String A) (sizes more : List FileSize) (size : FileSize) → i < length paths → file ≡ get_or paths i file → size.seq ≡ file.0 → more ≡ sizes ++ size ∷ []
    → AreSoFar paths i sizes → AreSoFar paths (i + 1) more
one_more paths i file sizes more size low is same behind before =
    subst (λ (all : List FileSize). AreSoFar paths (i + 1) all) (sym behind) (number_more seq_of number_of sizes size paths i file low (same ∙ ap number_of is) before)

-- behind the last file there is a size for each
pub all_sized : {A : Type 0} (paths : List (ℕ × String A)) (i : ℕ) (sizes : List FileSize) → length paths ≤ i → AreSoFar paths i sizes → AreSizesOf (map path_shown paths) sizes
all_sized paths i sizes past before =
    numbers_all seq_of number_of sizes paths i past before ∙ sym (map-map (λ (path : NumberedPath). path.0) path_shown paths)
