-- Orders as numbers and bytes.
use Rattle.raft_ffi.proofs.Common.{◌≡◌, ℕ, ◌≤◌, List, ◌++◌, length, take, drop, refl, ap, ◌∙◌, take_all, take_at, Put, IsCopied}

-- where there is room for all bytes that are put, the first ones are these
pub put_says : (put room new : List ℕ) (n : ℕ) → IsCopied put room new n → length put ≤ length room → Put (take n new) ≡ Put put
put_says put room new n copied fits =
    ap Put (ap (λ k. take k new) copied.counted ∙ ap (λ l. take (length put) l) (copied.copied ∙ ap (λ l. l ++ drop (length put) room) (take_all (length room) put fits))
    ∙ take_at put (drop (length put) room) (length put) refl)
