-- Numbers that words name.
use Rattle.std.proofs.Common.{◌≡◌, ◌<◌, ◌^◌, ℕ, List, Option, Some, None, Result, Ok, Err, decimal, refl}
use Rattle.std.specs.Str.Parse.{ParsesUnsigned}
use Rattle.std.proofs.lemmas.Fmt.{parse-decimal}
use Rattle.clap.specs.Words.{ReadsOne}

-- a result is one
one_number : {E : Type 0} (r : Result ℕ E) (m n : ℕ) → r ≡ Ok m → r ≡ Ok n → Some m ≡ Some n
one_number r m n is_m is_n = cc

no_error : {E : Type 0} (r : Result ℕ E) (e : E) (n : ℕ) → r ≡ Err e → r ≡ Ok n → ⊥
no_error r e n is_e is_n = cc

-- a number in decimal digits is read as that number
pub number_read : {E : Type 0} (Gives : List ℕ → Result ℕ E → Type 0) → ((text : List ℕ) (r : Result ℕ E) → Gives text r → ParsesUnsigned 64 10 text r) → (n : ℕ) (number : Option ℕ) → n < 2 ^ 64 → ReadsOne {T = ℕ} {E = E} Gives (decimal n) number → number ≡ Some n
number_read {E} Gives parses n (Some m) low read = one_number {E = E} (Ok m) m n refl (parse-decimal 64 n (decimal n) (Ok m) low low refl (parses (decimal n) (Ok m) read))
number_read {E} Gives parses n None low read = absurd (no_error {E = E} (Err read.0) read.0 n refl (parse-decimal 64 n (decimal n) (Err read.0) low low refl (parses (decimal n) (Err read.0) read.1)))
