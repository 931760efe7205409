-- Bytes that are printable, and texts in one line.
use Rattle.raft_listing.proofs.Common.{◌≡◌, ℕ, zero, suc, List, [], ◌∷◌, ◌++◌, length, map, encode_utf8, encode_utf8_all, IsUtf8, IsAscii, ap, ◌∙◌, arith, nil_from_length, IsUtf8-from_ascii, chars_past_char, chars-nil, AllByRecursion, IsPrintable, in_line, unbroken}

printable_is_ascii : (bytes : List ℕ) → AllByRecursion IsPrintable bytes → IsAscii bytes
printable_is_ascii [] all i = omega arith
printable_is_ascii (b ∷ bs) all zero = let below = all.0.1 in omega (arith, below)
printable_is_ascii (b ∷ bs) all (suc i) = printable_is_ascii bs all.1 i

-- printable bytes are UTF-8
pub printable_is_utf8 : (bytes : List ℕ) → AllByRecursion IsPrintable bytes → IsUtf8 bytes
printable_is_utf8 bytes all = IsUtf8-from_ascii bytes (printable_is_ascii bytes all)

-- a text without a character has none in one line
pub none_in_line : (text : List ℕ) → length text ≡ 0 → in_line text ≡ []
none_in_line text none = ap in_line (nil_from_length text none) ∙ ap (λ (cs : List ℕ). encode_utf8_all (map unbroken cs)) chars-nil

-- one character more
pub one_in_line : (text rest : List ℕ) (c : ℕ) → IsUtf8 text → text ≡ encode_utf8 c ++ rest → in_line text ≡ encode_utf8 (unbroken c) ++ in_line rest
one_in_line text rest c utf8 parts = ap (λ (cs : List ℕ). encode_utf8_all (map unbroken cs)) (chars_past_char text rest c utf8 parts)
