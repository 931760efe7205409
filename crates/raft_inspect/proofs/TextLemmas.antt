-- Texts one behind another.
use Rattle.raft_inspect.proofs.Common.{◌≡◌, ℕ, List, ◌++◌, if◌then◌else◌, is_ok, OnOk, Result, Ok, Err, ◌∙◌, ap, append_assoc}

pub two_added : (old a b mid new : List ℕ) → mid ≡ old ++ a → new ≡ mid ++ b → new ≡ old ++ (a ++ b)
two_added old a b mid new is_mid is_new = is_new ∙ ap (λ (t : List ℕ). t ++ b) is_mid ∙ append_assoc old a b

pub three_added : (old a b c one two new : List ℕ) → one ≡ old ++ a → two ≡ one ++ b → new ≡ two ++ c → new ≡ old ++ (a ++ (b ++ c))
three_added old a b c one two new is_one is_two is_new = two_added old a (b ++ c) one new is_one (two_added one b c two new is_two is_new)

pub four_added : (old a b c d one two three new : List ℕ) → one ≡ old ++ a → two ≡ one ++ b → three ≡ two ++ c → new ≡ three ++ d → new ≡ old ++ (a ++ (b ++ (c ++ d)))
four_added old a b c d one two three new is_one is_two is_three is_new = two_added old a (b ++ (c ++ d)) one new is_one (three_added one b c d two three new is_two is_three is_new)

-- text that a call appends, if it can
pub if_appended : {T E : Type 0} (r : Result T E) (new more old : List ℕ) → new ≡ (if is_ok r then more else old) → OnOk r (new ≡ more)
if_appended (Ok v) new more old is = is
if_appended (Err e) new more old is = tt
