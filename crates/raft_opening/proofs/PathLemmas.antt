-- Files by their numbers and paths.
use Rattle.raft_opening.proofs.Common.{◌≡◌, ◌<◌, ℕ, zero, suc, List, [], ◌∷◌, ◌++◌, String, string_bytes, get_or, map, map-append, length, refl, subst, sym, ◌∙◌, ap, arith, FileSize, AreSizesOf, IsNamed, NumberedPath, path_shown}

-- a file that stands among others is named by its number and its path
named_at : {A : Type 0} (paths : List (ℕ × String A)) (i : ℕ) (d : ℕ × String A) → i < length paths → IsNamed (map path_shown paths) (get_or paths i d).0 (string_bytes (get_or paths i d).1)
named_at [] i d low = absurd (omega (arith, low))
named_at (x ∷ xs) zero d low = record { before = []; after = map path_shown xs; split = refl }
named_at (x ∷ xs) (suc i) d low =
    let rest = named_at xs i d (omega (arith, low)) in
    record { before = path_shown x ∷ rest.before; after = rest.after; split = ap (λ ys. path_shown x ∷ ys) rest.split }

-- a file at whose place this number stands is named by it
pub named_by : {A : Type 0} (paths : List (ℕ × String A)) (i : ℕ) (d : ℕ × String A) (seq : ℕ) (path : List ℕ) → i < length paths → (get_or paths i d).0 ≡ seq → path ≡ string_bytes (get_or paths i d).1
    → IsNamed (map path_shown paths) seq path
named_by paths i d seq path low same is =
    subst (λ (p : List ℕ). IsNamed (map path_shown paths) seq p) (sym is)
    (subst (λ (n : ℕ). IsNamed (map path_shown paths) n (string_bytes (get_or paths i d).1)) same (named_at paths i d low))

pub none_sized : {A : Type 0} (paths : List (ℕ × String A)) (sizes : List FileSize) → paths ≡ [] → sizes ≡ [] → AreSizesOf (map path_shown paths) sizes
none_sized paths sizes no_path no_size = ap (map (λ (s : FileSize). s.seq)) no_size ∙ sym (ap (λ ps. map (λ (p : NumberedPath). p.0) (map path_shown ps)) no_path)

-- a size more, and the path of the same file
pub one_sized : {A : Type 0} (paths more : List (ℕ × String A)) (sizes longer : List FileSize) (path : ℕ × String A) (size : FileSize) → size.seq ≡ path.0 → more ≡ paths ++ path ∷ [] → longer ≡ sizes ++ size ∷ []
    → AreSizesOf (map path_shown paths) sizes → AreSizesOf (map path_shown more) longer
one_sized paths more sizes longer path size same is_more is_longer before =
    let seq : FileSize → ℕ = λ s. s.seq in
    let number : NumberedPath → ℕ = λ p. p.0 in
    let left : map seq longer ≡ map seq sizes ++ size.seq ∷ [] = ap (map seq) is_longer ∙ map-append seq sizes (size ∷ []) in
    let right : map number (map path_shown more) ≡ map number (map path_shown paths) ++ path.0 ∷ [] =
    ap (λ ps. map number (map path_shown ps)) is_more ∙ ap (map number) (map-append path_shown paths (path ∷ [])) ∙ map-append number (map path_shown paths) (path_shown path ∷ []) in
    left ∙ (λ i. before i ++ same i ∷ []) ∙ sym right
