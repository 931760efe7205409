-- Texts one behind another.
use Rattle.raft_survey.proofs.Common.{◌≡◌, ℕ, List, ◌++◌, ◌∙◌, ap, append_assoc}

pub three_added : (old a b c one two new : List ℕ) → one ≡ old ++ a → two ≡ one ++ b → new ≡ two ++ c → new ≡ old ++ (a ++ (b ++ c))
three_added old a b c one two new is_one is_two is_new =
    is_new ∙ ap (λ (t : List ℕ). t ++ c) (is_two ∙ ap (λ (t : List ℕ). t ++ b) is_one) ∙ append_assoc (old ++ a) b c ∙ append_assoc old a (b ++ c)

pub two_added : (old a b mid new : List ℕ) → mid ≡ old ++ a → new ≡ mid ++ b → new ≡ old ++ (a ++ b)
two_added old a b mid new is_mid is_new = is_new ∙ ap (λ (t : List ℕ). t ++ b) is_mid ∙ append_assoc old a b
