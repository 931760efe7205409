-- Keys that are put in a batch, one after another.
use Rattle.raft_engine.proofs.Common.{◌≡◌, ◌≢◌, ℕ, Bool, true, false, List, [], ◌∷◌, length, Some, refl, sym, ap, subst, ◌∙◌, append_assoc, append-nil, arith, Error, IsKeyRefusal, is_reserved, reserved_key, Item, pair_item, Batch, with_item, is_reserved_key, reserved_is}
use Rattle.raft_engine.proofs.Common.{AreOrdinary, puts_of, with_puts, AreKeysRefused}
use Rattle.raft_base.specs.declared.errors.Error.TheVariants as errors
use Rattle.raft_records.specs.declared.key_value.OpType.TheVariants.{Put}

Pairs : Type 0
Pairs = List (List ℕ × List ℕ)

-- the pairs that are left are put in the batch as it is now, as all of them in the batch as it was
pub record ArePutSo (old now : Batch) (id : ℕ) (all rest : List (List ℕ × List ℕ)) : Type 0 where
  pub stage : now.stage ≡ old.stage
  pub put : with_puts now id rest ≡ with_puts old id all
  pub ordinary : AreOrdinary rest → AreOrdinary all
  pub all_ordinary : AreOrdinary all → AreOrdinary rest

pub none_put : (old : Batch) (id : ℕ) (all : List (List ℕ × List ℕ)) → ArePutSo old old id all all
none_put old id all = record { stage = refl; put = refl; ordinary = λ h. h; all_ordinary = λ h. h }

ordinary_key : (key : List ℕ) → key ≢ reserved_key → is_reserved key ≡ false
ordinary_key key h = at (is_reserved key) refl
  where
    at : (b : Bool) → is_reserved key ≡ b → is_reserved key ≡ false
    at true e = absurd (h (reserved_is key e))
    at false e = e

reserved_not : (key : List ℕ) → key ≡ reserved_key → is_reserved key ≡ false → ⊥
reserved_not key e other = let both : true ≡ false = sym is_reserved_key ∙ ap is_reserved (sym e) ∙ other in absurd cc

put_one : (b : Batch) (id : ℕ) (key value : List ℕ) (rest : List (List ℕ × List ℕ)) → with_puts (with_item b (pair_item id Put key (Some value))) id rest ≡ with_puts b id ((key, value) ∷ rest)
put_one b id key value rest = ap (λ (items : List Item). record b { items = items }) (append_assoc b.items (pair_item id Put key (Some value) ∷ []) (puts_of id rest))

pub one_put : (old now new : Batch) (id : ℕ) (key value : List ℕ) (all left rest : List (List ℕ × List ℕ)) → left ≡ (key, value) ∷ rest → new ≡ with_item now (pair_item id Put key (Some value)) → key ≢ reserved_key
    → ArePutSo old now id all left → ArePutSo old new id all rest
one_put old now new id key value all left rest e is other h = record {
  stage = ap (λ (b : Batch). b.stage) is ∙ h.stage;
  put = ap (λ (b : Batch). with_puts b id rest) is ∙ put_one now id key value rest ∙ ap (λ l. with_puts now id l) (sym e) ∙ h.put;
  ordinary = λ k. h.ordinary (subst AreOrdinary (sym e) (ordinary_key key other, k));
  all_ordinary = λ k. (subst AreOrdinary e (h.all_ordinary k)).1;
}

-- a key of the group markers among those that are left is one of all
pub key_refused : (old now : Batch) (id : ℕ) (key value : List ℕ) (all left rest : List (List ℕ × List ℕ)) (e : Error) → left ≡ (key, value) ∷ rest → IsKeyRefusal key e
    → ArePutSo old now id all left → e ≢ errors.Memory → AreKeysRefused all e
key_refused old now id key value all left rest (errors.InvalidArgument text) is refused h some =
    λ k. reserved_not key refused (subst AreOrdinary is (h.all_ordinary k)).0
key_refused old now id key value all left rest errors.Memory is refused h some = absurd (some refl)
key_refused old now id key value all left rest (errors.Corruption text) is refused h some = absurd refused
key_refused old now id key value all left rest errors.Full is refused h some = absurd refused
key_refused old now id key value all left rest (errors.Io text) is refused h some = absurd refused
key_refused old now id key value all left rest (errors.Codec text) is refused h some = absurd refused
key_refused old now id key value all left rest (errors.Message text) is refused h some = absurd refused
key_refused old now id key value all left rest (errors.TryAgain text) is refused h some = absurd refused
key_refused old now id key value all left rest errors.EntryCompacted is refused h some = absurd refused
key_refused old now id key value all left rest errors.EntryNotFound is refused h some = absurd refused
key_refused old now id key value all left rest (errors.Other text) is refused h some = absurd refused
key_refused old now id key value all left rest errors.Failed is refused h some = absurd refused

pub all_put : (old now : Batch) (id : ℕ) (all left : List (List ℕ × List ℕ)) → left ≡ [] → ArePutSo old now id all left → (now ≡ with_puts old id all) × AreOrdinary all
all_put old now id all left e h = (
  sym (ap (λ (items : List Item). record now { items = items }) (append-nil now.items)) ∙ ap (λ l. with_puts now id l) (sym e) ∙ h.put,
  h.ordinary (subst AreOrdinary (sym e) tt),
)

pub no_length : {X : Type 0} (xs : List X) → length xs ≡ 0 → xs ≡ []
no_length [] e = refl
no_length (x ∷ xs) e = absurd (omega (arith, e))
