-- The last file.
use Rattle.raft_files.proofs.Common.{◌≡◌, ℕ, ◌+◌, ◌-◌, ◌<◌, List, [], ◌∷◌, ◌++◌, length, map, take, refl, sym, ap, ◌∙◌, arith, slice_index_or, slice_set, subst, Vec, None, Some, Result, Ok, Err, OnErr, take_more, take_all, length-take-le, map-append, set-append_seam}
use Rattle.raft_files.proofs.Common.{slice_get_within, get_or_from_slice_get, slice_get-get_or, none-some, slice_get, Global, NumberedBytes, on_last, file_shown, IsNext}

pub at_last : {A : Type 0} (xs : List A) (i : ℕ) (d : A) → i + 1 ≡ length xs → xs ≡ take i xs ++ slice_index_or xs i d ∷ []
at_last xs i d e = sym (take_all (i + 1) xs (omega (arith, e))) ∙ take_more xs i d (omega (arith, e))

pub set_last : {A : Type 0} (xs : List A) (i : ℕ) (v : A) → i + 1 ≡ length xs → slice_set xs i v ≡ take i xs ++ v ∷ []
set_last xs i v e =
    ap (λ ys. slice_set ys i v) (at_last xs i v e) ∙ ap (λ j. slice_set (take i xs ++ slice_index_or xs i v ∷ []) j v) (sym (length-take-le i xs (omega (arith, e))))
    ∙ set-append_seam (take i xs) (slice_index_or xs i v) [] v

pub last_of : (change : List ℕ → List ℕ) (files : List NumberedBytes) (file : NumberedBytes) → on_last change (files ++ file ∷ []) ≡ files ++ (file.0, change file.1) ∷ []
last_of change [] file = refl
last_of change (f ∷ []) file = refl
last_of change (f ∷ g ∷ files) file = ap (λ fs. f ∷ fs) (last_of change (g ∷ files) file)

-- the last of shown files is changed so
pub changed : (change : List ℕ → List ℕ) (xs : List (ℕ × Vec ℕ Global)) (i : ℕ) (last : ℕ × Vec ℕ Global) (bytes : Vec ℕ Global)
    → i + 1 ≡ length xs → last ≡ slice_index_or xs i last → bytes.items ≡ change last.1.items
    → map file_shown (slice_set xs i (last.0, bytes)) ≡ on_last change (map file_shown xs)
changed change xs i last bytes e is items =
    let split : xs ≡ take i xs ++ last ∷ [] = at_last xs i last e ∙ ap (λ x. take i xs ++ x ∷ []) (sym is) in
    ap (map file_shown) (set_last xs i (last.0, bytes) e) ∙ map-append file_shown (take i xs) ((last.0, bytes) ∷ []) ∙ ap (λ b. map file_shown (take i xs) ++ (last.0, b) ∷ []) items
    ∙ sym (ap (λ ys. on_last change (map file_shown ys)) split ∙ ap (on_last change) (map-append file_shown (take i xs) (last ∷ [])) ∙ last_of change (map file_shown (take i xs)) (file_shown last))

-- where they are changed in nothing they are the same
pub unchanged : (xs : List (ℕ × Vec ℕ Global)) (i : ℕ) (last : ℕ × Vec ℕ Global) (bytes : Vec ℕ Global)
    → i + 1 ≡ length xs → last ≡ slice_index_or xs i last → bytes.items ≡ last.1.items
    → map file_shown (slice_set xs i (last.0, bytes)) ≡ map file_shown xs
unchanged xs i last bytes e is items =
    let split : xs ≡ take i xs ++ last ∷ [] = at_last xs i last e ∙ ap (λ x. take i xs ++ x ∷ []) (sym is) in
    ap (map file_shown) (set_last xs i (last.0, bytes) e) ∙ map-append file_shown (take i xs) ((last.0, bytes) ∷ []) ∙ ap (λ b. map file_shown (take i xs) ++ (last.0, b) ∷ []) items
    ∙ sym (ap (map file_shown) split ∙ map-append file_shown (take i xs) (last ∷ []))

next_of : (seq : ℕ) (files : List NumberedBytes) (file : NumberedBytes) → IsNext seq (files ++ file ∷ []) → file.0 < seq
next_of seq [] file n = n
next_of seq (f ∷ []) file n = n
next_of seq (f ∷ g ∷ files) file n = next_of seq (g ∷ files) file n

-- a number that may come next is above that of the last file
pub above : (xs : List (ℕ × Vec ℕ Global)) (last : ℕ × Vec ℕ Global) (seq : ℕ) → slice_get xs (length xs - 1) ≡ Some last → IsNext seq (map file_shown xs) → last.0 < seq
above xs last seq e n =
    let lt : length xs - 1 < length xs = slice_get_within xs (length xs - 1) last e in
    let split : xs ≡ take (length xs - 1) xs ++ last ∷ [] = at_last xs (length xs - 1) last (omega (arith, lt)) ∙ ap (λ x. take (length xs - 1) xs ++ x ∷ []) (get_or_from_slice_get xs (length xs - 1) last last e) in
    next_of seq (map file_shown (take (length xs - 1) xs)) (file_shown last) (subst (λ fs. IsNext seq fs) (ap (map file_shown) split ∙ map-append file_shown (take (length xs - 1) xs) (last ∷ [])) n)

behind : (seq : ℕ) (files : List NumberedBytes) (file : NumberedBytes) → file.0 < seq → IsNext seq (files ++ file ∷ [])
behind seq [] file lt = lt
behind seq (f ∷ []) file lt = lt
behind seq (f ∷ g ∷ files) file lt = behind seq (g ∷ files) file lt

-- a number above that of the last file may come next
pub next_above : (xs : List (ℕ × Vec ℕ Global)) (last : ℕ × Vec ℕ Global) (seq : ℕ) → slice_get xs (length xs - 1) ≡ Some last → last.0 < seq → IsNext seq (map file_shown xs)
next_above xs last seq e lt =
    let within : length xs - 1 < length xs = slice_get_within xs (length xs - 1) last e in
    let split : xs ≡ take (length xs - 1) xs ++ last ∷ [] = at_last xs (length xs - 1) last (omega (arith, within)) ∙ ap (λ x. take (length xs - 1) xs ++ x ∷ []) (get_or_from_slice_get xs (length xs - 1) last last e) in
    subst (λ fs. IsNext seq fs) (sym (ap (map file_shown) split ∙ map-append file_shown (take (length xs - 1) xs) (last ∷ []))) (behind seq (map file_shown (take (length xs - 1) xs)) (file_shown last) lt)

-- any number may come where there is no file
pub next_of_none : (xs : List (ℕ × Vec ℕ Global)) (seq : ℕ) → slice_get xs (length xs - 1) ≡ None → IsNext seq (map file_shown xs)
next_of_none [] seq e = tt
next_of_none (x ∷ xs) seq e = absurd (none-some _ (sym e ∙ slice_get-get_or (x ∷ xs) (length (x ∷ xs) - 1) x (omega arith)))

-- what holds, holds after an error
pub on_err : {T E P : Type 0} (r : Result T E) → P → OnErr r P
on_err (Ok x) p = tt
on_err (Err e) p = p
