-- What is read of spellings one behind the other, over any spelling and any state.
use Rattle.raft_codec.proofs.Common.{◌≡◌, ℕ, zero, suc, ◌+◌, ◌<◌, List, [], ◌∷◌, ◌++◌, length, refl, sym, ap, ◌∙◌, subst, append_assoc, arith, inr, append-nil, Reads, HasNoFront, IsSequence, state_after, IsSequenceFault, HasOneFront}
use Rattle.raft_codec.proofs.ReadingLemmas.{second_at}

-- the first of a sequence, and the others behind it
first_of : {S X : Type 0} (next : S → X → S) (P : S → List ℕ → X → Type 0) (s : S) (x : X) (xs : List X) {bytes rest : List ℕ} → (r : Reads (IsSequence next P s) bytes rest (x ∷ xs)) → Reads (P s) bytes (r.spells.second ++ rest) x
first_of next P s x xs {bytes} {rest} r =
    record {
      front = r.spells.first;
      spells = r.spells.first_spells;
      split = r.split ∙ ap (λ (t : List ℕ). t ++ rest) r.spells.split ∙ append_assoc r.spells.first r.spells.second rest;
    }

others_of : {S X : Type 0} (next : S → X → S) (P : S → List ℕ → X → Type 0) (s : S) (x : X) (xs : List X) {bytes rest : List ℕ} →
    (r : Reads (IsSequence next P s) bytes rest (x ∷ xs)) → Reads (IsSequence next P (next s x)) (r.spells.second ++ rest) rest xs
others_of next P s x xs {bytes} {rest} r = record { front = r.spells.second; spells = r.spells.second_spells; split = refl }

sequence_more : {S X : Type 0} (next : S → X → S) (P : S → List ℕ → X → Type 0) (s : S) (xs : List X) (x : X) (a b : List ℕ) → IsSequence next P s a xs → P (state_after next s xs) b x → IsSequence next P s (a ++ b) (xs ++ x ∷ [])
sequence_more next P s [] x a b q p =
    record { first = b; second = []; first_spells = p; second_spells = refl; split = ap (λ (t : List ℕ). t ++ b) q ∙ sym (append-nil b) }
sequence_more next P s (y ∷ ys) x a b q p =
    record {
      first = q.first;
      second = q.second ++ b;
      first_spells = q.first_spells;
      second_spells = sequence_more next P (next s y) ys x q.second b q.second_spells p;
      split = ap (λ (t : List ℕ). t ++ b) q.split ∙ append_assoc q.first q.second b;
    }

-- one more behind those that were read
pub reads_more : {S X : Type 0} (next : S → X → S) (P : S → List ℕ → X → Type 0) (s : S) (xs : List X) (x : X) {bytes mid rest : List ℕ} →
    Reads (IsSequence next P s) bytes mid xs → Reads (P (state_after next s xs)) mid rest x → Reads (IsSequence next P s) bytes rest (xs ++ x ∷ [])
reads_more next P s xs x {bytes} {mid} {rest} r q =
    record {
      front = r.front ++ q.front;
      spells = sequence_more next P s xs x r.front q.front r.spells q.spells;
      split = r.split ∙ ap (λ (t : List ℕ). r.front ++ t) q.split ∙ sym (append_assoc r.front q.front rest);
    }

pub state_after-push : {S X : Type 0} (next : S → X → S) (s : S) (xs : List X) (x : X) → state_after next s (xs ++ x ∷ []) ≡ next (state_after next s xs) x
state_after-push next s [] x = refl
state_after-push next s (y ∷ ys) x = state_after-push next (next s y) ys x

-- some were read and no more stand, so no longer sequence stands
pub stuck : {S X : Type 0} (next : S → X → S) (P : S → List ℕ → X → Type 0) → ((s : S) → HasOneFront (P s)) →
    (s : S) (xs ys : List X) {bytes mid : List ℕ} → Reads (IsSequence next P s) bytes mid xs → HasNoFront (P (state_after next s xs)) mid →
    (front rest : List ℕ) → IsSequence next P s front ys → bytes ≡ front ++ rest → length xs < length ys → ⊥
stuck next P one s xs [] {bytes} {mid} r none front rest q e lt = absurd (omega arith)
stuck next P one s [] (y ∷ ys) {bytes} {mid} r none front rest q e lt =
    let all : bytes ≡ mid = r.split ∙ ap (λ (t : List ℕ). t ++ mid) r.spells in
    none q.first (q.second ++ rest) y q.first_spells (sym all ∙ e ∙ ap (λ (t : List ℕ). t ++ rest) q.split ∙ append_assoc q.first q.second rest)
stuck {X = X} next P one s (x ∷ xs) (y ∷ ys) {bytes} {mid} r none front rest q e lt =
    let at = second_at (P s) (λ v a (u : Unit {0}). IsSequence next P (next s v) a ys) (one s) (first_of next P s x xs r) front rest y tt
    (record { first = q.first; second = q.second; first_spells = q.first_spells; second_spells = q.second_spells; split = q.split }) e in
    let second = subst (λ (v : X). IsSequence next P (next s v) q.second ys) (sym at.0) q.second_spells in
    stuck next P one (next s x) xs ys (others_of next P s x xs r) none q.second rest second at.1 (omega arith)

pub sequence_one_front : {S X : Type 0} (next : S → X → S) (P : S → List ℕ → X → Type 0) → ((s : S) → HasOneFront (P s)) →
    (s : S) (xs ys : List X) (a b more rest : List ℕ) → length xs ≡ length ys → IsSequence next P s a xs → IsSequence next P s b ys →
    a ++ more ≡ b ++ rest → (a ≡ b) × (xs ≡ ys)
sequence_one_front next P one s [] [] a b more rest len p q e = (p ∙ sym q, refl)
sequence_one_front next P one s [] (y ∷ ys) a b more rest len p q e = absurd (omega arith)
sequence_one_front next P one s (x ∷ xs) [] a b more rest len p q e = absurd (omega arith)
sequence_one_front {X = X} next P one s (x ∷ xs) (y ∷ ys) a b more rest len p q e =
    let read : Reads (P s) (a ++ more) (p.second ++ more) x = record { front = p.first; spells = p.first_spells; split = ap (λ (t : List ℕ). t ++ more) p.split ∙ append_assoc p.first p.second more } in
    let at = second_at (P s) (λ v c (u : Unit {0}). IsSequence next P (next s v) c ys) (one s) read b rest y tt
    (record { first = q.first; second = q.second; first_spells = q.first_spells; second_spells = q.second_spells; split = q.split }) e in
    let second = subst (λ (v : X). IsSequence next P (next s v) q.second ys) (sym at.0) q.second_spells in
    let same = sequence_one_front next P one (next s x) xs ys p.second q.second more rest (omega arith) p.second_spells second at.1 in
    let firsts = one s p.first q.first (p.second ++ more) (q.second ++ rest) x y p.first_spells q.first_spells (sym read.split ∙ e ∙ ap (λ (t : List ℕ). t ++ rest) q.split ∙ append_assoc q.first q.second rest) in (
      p.split ∙ ap (λ (t : List ℕ). t ++ p.second) firsts.0 ∙ ap (λ (t : List ℕ). q.first ++ t) same.0 ∙ sym q.split,
      ap (λ (v : X). v ∷ xs) at.0 ∙ ap (λ (vs : List X). y ∷ vs) same.1,
    )

-- a fault behind those that were read is a fault of the whole
pub fault_after : {S X E : Type 0} (next : S → X → S) (P : S → List ℕ → X → Type 0) (F : S → List ℕ → E → Type 0) (s : S) (xs : List X)
    (count more : ℕ) (fault : E) {bytes mid : List ℕ} → count ≡ length xs + more → Reads (IsSequence next P s) bytes mid xs →
    IsSequenceFault next P F more (state_after next s xs) mid fault → IsSequenceFault next P F count s bytes fault
fault_after next P F s [] count more fault {bytes} {mid} c r f =
    let all : bytes ≡ mid = r.split ∙ ap (λ (t : List ℕ). t ++ mid) r.spells in
    let same : count ≡ more = omega arith in
    subst (λ (n : ℕ). IsSequenceFault next P F n s bytes fault) (sym same) (subst (λ (b : List ℕ). IsSequenceFault next P F more s b fault) (sym all) f)
fault_after next P F s (x ∷ xs) zero more fault {bytes} {mid} c r f = absurd (omega arith)
fault_after next P F s (x ∷ xs) (suc count) more fault {bytes} {mid} c r f =
    inr (record {
      first = r.spells.first;
      rest = r.spells.second ++ mid;
      value = x;
      first_spells = r.spells.first_spells;
      split = r.split ∙ ap (λ (t : List ℕ). t ++ mid) r.spells.split ∙ append_assoc r.spells.first r.spells.second mid;
      fault = fault_after next P F (next s x) xs count more fault (omega arith) (others_of next P s x xs r) f;
    })
