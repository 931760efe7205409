-- What the elements of a list weigh together, and how often a number stands in a list.
use Rattle.std.specs.Prelude.{ℕ, ◌+◌, List, [], ◌∷◌, if◌then◌else◌, ◌==◌}

-- the weights of the elements, added up
abbrev pub weigh : {A : Type 0} → (A → ℕ) → List A → ℕ
weigh f [] = 0
weigh f (x ∷ xs) = f x + weigh f xs

-- how often a number stands in a list
abbrev pub occurrences : ℕ → List ℕ → ℕ
occurrences x ys = weigh (λ y. if x == y then 1 else 0) ys
