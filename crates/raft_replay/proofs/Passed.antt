-- What holds of the error that a `?` passes on.
use Rattle.std.proofs.Common.{◌≡◌, Result, Ok, Err, IfErr, sym, subst}
use Rattle.std.specs.Prelude.{MatchResult}
use Rattle.std.specs.Result.{IsErrAnd}

pub on_passed : {T E : Type 0} {e : E} (r : Result T E) (P : E → Type 0) → IsErrAnd r (λ y. y ≡ e) → P e → IfErr r P
on_passed (Ok x) P none p = absurd none
on_passed (Err y) P is p = subst P (sym is) p

pub or_passed : {T E : Type 0} {e : E} (r : Result T E) (P : T → Type 0) (Q : E → Type 0) → IsErrAnd r (λ y. y ≡ e) → Q e → MatchResult r P Q
or_passed (Ok x) P Q none q = absurd none
or_passed (Err y) P Q is q = subst Q (sym is) q
