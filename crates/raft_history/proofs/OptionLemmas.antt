-- What an option that is known says of what it comes from.
use Rattle.std.proofs.Common.{◌≡◌, Bool, true, false, cond, Option, Some, None, refl}
use Rattle.std.specs.Option.{option_and_then, option_map}

pub some_is : {X : Type 0} {x y : X} → Some x ≡ Some y → x ≡ y
some_is e = cc

pub no_both : {X : Type 0} {o : Option X} {x : X} → o ≡ None → o ≡ Some x → ⊥
no_both a b = cc

-- a refusal of two steps is one of the first, or of the second
pub then_none : {A B P : Type 0} (f : A → Option B) (o : Option A) → option_and_then f o ≡ None → (o ≡ None → P) → ((x : A) → o ≡ Some x → f x ≡ None → P) → P
then_none f None e none some = none refl
then_none f (Some x) e none some = some x refl e

pub map_some : {A B P : Type 0} (f : A → B) (o : Option A) (y : B) → option_map f o ≡ Some y → ((x : A) → o ≡ Some x → f x ≡ y → P) → P
map_some f None y e k = absurd cc
map_some f (Some x) y e k = k x refl (some_is e)

pub map_none : {A B : Type 0} (f : A → B) (o : Option A) → option_map f o ≡ None → o ≡ None
map_none f None e = refl
map_none f (Some x) e = absurd cc

-- what an answer that is not refused is
pub accepted_is : {X : Type 0} (b : Bool) (v w : X) → cond b None (Some v) ≡ Some w → v ≡ w
accepted_is true v w e = absurd cc
accepted_is false v w e = some_is e
