-- The order and the text of recovered tables.
use Rattle.raft_recover.proofs.Common.{◌≡◌, ℕ, ◌<◌, List, [], ◌∷◌, ◌++◌, length, map, ap, subst, ◌∙◌, arith, length-map, get_or-map, IsNonDecreasingBy}

-- what rises by a number of its images rises as images
pub images_rise : {A B : Type 0} (f : A → B) (n : B → ℕ) (xs : List A) → IsNonDecreasingBy (λ x. n (f x)) xs → IsNonDecreasingBy n (map f xs)
images_rise f n [] rises = λ i j d le low. absurd (omega (arith, low))
images_rise f n (x ∷ xs) rises = λ i j d le low.
    let bound : j < length (x ∷ xs) = subst (λ k. j < k) (length-map (x ∷ xs) f) low in
    let first = get_or-map f (x ∷ xs) i x d (omega (arith, le, bound)) in
    let second = get_or-map f (x ∷ xs) j x d bound in
    rw (first, second) (rises i j x le bound)

-- a text of three parts, one appended after another
pub three_parts : (none one two three a b c : List ℕ) → none ≡ [] → one ≡ none ++ a → two ≡ one ++ b → three ≡ two ++ c → three ≡ (a ++ b) ++ c
three_parts none one two three a b c start first second third =
    let front : one ≡ a = first ∙ ap (λ xs. xs ++ a) start in
    third ∙ ap (λ xs. xs ++ c) (second ∙ ap (λ xs. xs ++ b) front)
