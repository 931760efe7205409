-- The code of a refusal.
use Rattle.raft_ffi.proofs.Common.{◌≡◌, ◌≢◌, ◌∙◌, sym, subst, ℕ, Result, Ok, Err, OnErr, OnOk, IfErr, IfOk, Option, Some, None, Error, AllHold, BothHold, Holds, IsCodeForBoth, IsCodeOf, code_of}
use Rattle.raft_base.specs.declared.errors.Error.TheVariants as errors

-- a call that was refused for this reason has the code of an error that has it
pub refusal : {R : Type 0} (r : Result R Error) (code : ℕ) (P : Error → Type 0) → OnOk r (code ≡ 0) → IfErr r (λ e. code ≡ code_of e) → IfErr r P → code ≢ 0 → IsCodeOf P code
refusal (Ok x) code P zero is fault some = absurd (some zero)
refusal (Err e) code P zero is fault some = (e, fault, is)

-- a call that was refused for what two handles hold has the code of an error that has this reason
pub refused_both : {R V W : Type 0} (P : V → W → Error → Type 0) (r : Result R Error) (code : ℕ) {one : Option V} {other : Option W} {v u : V} {w x : W} → one ≡ Some v → other ≡ Some w → u ≡ v → x ≡ w
    → IfErr r (P u x) → OnOk r (code ≡ 0) → IfErr r (λ e. code ≡ code_of e) → code ≢ 0 → IsCodeForBoth P one other code
refused_both {V = V} {W = W} P r code {v = v} {w = w} {x = x} one other same same_other fault zero is some =
    rw (one, other) (refusal r code (P v w) zero is (subst (λ (y : W). IfErr r (P v y)) same_other (subst (λ (y : V). IfErr r (P y x)) same fault)) some)

-- and one that was refused for what three hold
pub refused_all : {R U V W : Type 0} (P : U → V → W → Error → Type 0) (r : Result R Error) (code : ℕ) {one : Option U} {other : Option V} {last : Option W} {t u : U} {v x : V} {w : W}
    → one ≡ Some t → other ≡ Some v → last ≡ Some w → u ≡ t → x ≡ v → IfErr r (P u x w) → OnOk r (code ≡ 0) → IfErr r (λ e. code ≡ code_of e) → code ≢ 0 → AllHold (λ a b c. IsCodeOf (P a b c) code) one other last
refused_all {U = U} {V = V} P r code {t = t} {v = v} {x = x} {w = w} one other last same same_other fault zero is some =
    rw (one, other, last) (refusal r code (P t v w) zero is (subst (λ (y : V). IfErr r (P t y w)) same_other (subst (λ (y : U). IfErr r (P y x w)) same fault)) some)

pub some_code : (e : Error) → code_of e ≢ 0
some_code (errors.InvalidArgument text) h = absurd cc
some_code (errors.Corruption text) h = absurd cc
some_code (errors.Io fault) h = absurd cc
some_code (errors.Codec fault) h = absurd cc
some_code (errors.Message fault) h = absurd cc
some_code (errors.TryAgain text) h = absurd cc
some_code errors.EntryCompacted h = absurd cc
some_code errors.EntryNotFound h = absurd cc
some_code errors.Full h = absurd cc
some_code (errors.Other text) h = absurd cc
some_code errors.Memory h = absurd cc
some_code errors.Failed h = absurd cc

-- a call whose code is 0 passed
pub passed : {R : Type 0} (r : Result R Error) (code : ℕ) (P : Type 0) → OnOk r P → IfErr r (λ e. code ≡ code_of e) → code ≡ 0 → P
passed (Ok x) code P p is zero = p
passed (Err e) code P p is zero = absurd (some_code e (sym is ∙ zero))

-- a call whose code is 0 returned what is so
pub told_both : {R : Type 0} (r : Result R Error) (code : ℕ) (P Q : R → Type 0) → IfOk r P → IfOk r Q → IfErr r (λ e. code ≡ code_of e) → code ≡ 0 → (x : R) × P x × Q x
told_both (Ok x) code P Q p q is zero = (x, p, q)
told_both (Err e) code P Q p q is zero = absurd (some_code e (sym is ∙ zero))

-- a call whose code isn't 0 failed
pub failed : {R : Type 0} (r : Result R Error) (code : ℕ) (P : Type 0) → OnOk r (code ≡ 0) → OnErr r P → code ≢ 0 → P
failed (Ok x) code P zero p some = absurd (some zero)
failed (Err e) code P zero p some = p

-- what a handle holds is so, beside something else
pub held_both : {V W : Type 0} (P : V → W → Type 0) (v : V) (o : Option W) → Holds (P v) o → BothHold P (Some v) o
held_both P v (Some w) h = h
held_both P v None h = absurd h
