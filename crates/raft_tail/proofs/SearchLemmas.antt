-- On bytes that are looked at one after the other.
use Rattle.raft_tail.proofs.Common.{◌≡◌, ◌≢◌, ◌↔◌, ℕ, ◌+◌, ◌^◌, ◌<◌, ◌≤◌, false, List, length, map, drop, Option, Some, None, IsTrue, inl, inr, refl, sym, ap, ◌∙◌, subst, arith, cases_lt, signature_in, Version, V1, V2, HasNoFront, batch_inside, cut_short, no_header, HasHeader}
use Rattle.raft_tail.proofs.Common.{Part, IsHeader, placed_item, IsLaidOut, IsReadable, IsSigner, IsElsewhere, IsNowhere, IsSignedFor, IsSoundAt, in_file}

-- ---- walks

-- it holds of none of the bytes from the first up to the second
pub record AreNoneUpTo (Holds : ℕ → Type 0) (from at : ℕ) : Type 0 where
  pub begins : from ≤ at
  pub none : (n : ℕ) → from ≤ n → n < at → ¬ (Holds n)

pub none_yet : {Holds : ℕ → Type 0} {from : ℕ} → AreNoneUpTo Holds from from
none_yet = record { begins = omega arith; none = λ n le lt h. absurd (omega (arith, le, lt)) }

pub one_more_none : {Holds : ℕ → Type 0} {from at : ℕ} → AreNoneUpTo Holds from at → ¬ (Holds at) → AreNoneUpTo Holds from (at + 1)
one_more_none {Holds} {from} {at} so here =
    record {
      begins = omega (arith, so.begins);
      none = λ n le lt h. elim (cases_lt n at) [
        | inl before ↦ so.none n le before h
        | inr there ↦ here (subst Holds (omega (arith, there, lt)) h)
      ];
    }

pub none_at_all : {Holds : ℕ → Type 0} {from at end : ℕ} → AreNoneUpTo Holds from at → end ≤ at → ((n : ℕ) → Holds n → n < end) → IsNowhere Holds from
none_at_all so past inside n le h = let lt = inside n h in so.none n le (omega (arith, lt, past)) h

pub never : {A : Type 0} → ¬ A → IsTrue false ↔ A
never not_so = (λ e. absurd cc, λ a. absurd (not_so a))

-- ---- sound batches

pub sound_inside : (part : Part) (n : ℕ) → IsSoundAt part n → n < length part.bytes
sound_inside part n (items, next, b) = let m = batch_inside part n items next b in omega (arith, m.0, m.1)

-- where no batch is readable, none is sound
pub unreadable_unsound : {part : Part} {at : ℕ} → HasNoFront (λ bytes. IsReadable bytes (signature_in part.version part.id.seq)) (drop at part.bytes) → ¬ (IsSoundAt part at)
unreadable_unsound {part} none (items, next, b) = none b.bytes (drop next part.bytes) b.read (b.between, b.laid_out) b.stands

pub headless_unsound : (part : Part) (at : ℕ) (rest : List ℕ) → rest ≡ drop at part.bytes → HasNoFront IsHeader rest → ¬ (IsSoundAt part at)
headless_unsound part at rest is none =
    let signature = signature_in part.version part.id.seq in
    unreadable_unsound {part = part} {at = at} (subst (HasNoFront (λ bytes. IsReadable bytes signature)) is (no_header rest signature none))

pub short_unsound : (part : Part) (at : ℕ) (rest : List ℕ) (offset len : ℕ) → rest ≡ drop at part.bytes → HasHeader rest offset len → length rest < len → ¬ (IsSoundAt part at)
short_unsound part at rest offset len is h short =
    let signature = signature_in part.version part.id.seq in
    unreadable_unsound {part = part} {at = at} (subst (HasNoFront (λ bytes. IsReadable bytes signature)) is (cut_short rest h.rest signature offset len h.compression h.header short))

-- ---- batches of other files

pub unsigned : (version : Version) (seq : ℕ) → signature_in version seq ≡ None → ¬ (version ≡ V2)
unsigned V1 seq none is = absurd cc
unsigned V2 seq none is = absurd cc

signs_so : (version : Version) (seq own : ℕ) → signature_in version seq ≡ Some own → version ≡ V2
signs_so V1 seq own is = absurd cc
signs_so V2 seq own is = refl

-- a number that is looked for is its file's signature
number_signs : (version : Version) (seq : ℕ) → version ≡ V2 → seq < 2 ^ 24 → signature_in version seq ≡ Some seq
number_signs V1 seq is small = absurd cc
number_signs V2 seq is small = ap Some (omega (arith, small))

pub elsewhere_inside : (part : Part) (n : ℕ) → IsElsewhere part n → n < length part.bytes
elsewhere_inside part n (seq, s) = sound_inside (in_file seq part) n s.readable

-- in files with the same signature the same batches are sound
same_sound : (part : Part) (seq at : ℕ) → signature_in part.version seq ≡ signature_in part.version part.id.seq → IsSoundAt (in_file seq part) at → IsSoundAt part at
same_sound part seq at same (items, next, b) =
    let laid = subst (λ (s : Option ℕ). IsLaidOut b.bytes s b.read b.between) same b.laid_out in (
      map (placed_item (record { id = part.id; offset = part.offset + at + 16; len = length b.between }) laid.compression) b.read,
      next,
      record { bytes = b.bytes; read = b.read; between = b.between; laid_out = laid; stands = b.stands; ends = b.ends; places = refl },
    )

-- a batch is signed for no file whose number isn't the only signature
pub not_signer : {part : Part} {at : ℕ} {rest : List ℕ} {signer : Option ℕ} → rest ≡ drop at part.bytes → IsSigner rest signer → (seq : ℕ) → signer ≢ Some seq → ¬ (IsSignedFor part at seq)
not_signer {part} {at} {rest} {signer} is signs seq other s =
    let b = s.readable in
    let small : seq < 2 ^ 24 = s.looked_for.1 in
    let signature = number_signs part.version seq s.signs small in
    let batch = b.2 in
    let none = signs seq (omega (arith, small)) other in
    none batch.bytes (drop b.1 part.bytes) batch.read (batch.between, subst (λ (t : Option ℕ). IsLaidOut batch.bytes t batch.read batch.between) signature batch.laid_out) (is ∙ batch.stands)

pub no_signer : {part : Part} {at : ℕ} {rest : List ℕ} → rest ≡ drop at part.bytes → IsSigner rest None → ¬ (IsElsewhere part at)
no_signer is signs (seq, s) = not_signer is signs seq (λ e. absurd cc) s

some_is : (a b : ℕ) → Some a ≡ Some b → a ≡ b
some_is a b e = cc

pub own_signer : {part : Part} {at : ℕ} {rest : List ℕ} {signer own : ℕ} → rest ≡ drop at part.bytes → IsSigner rest (Some signer) → signature_in part.version part.id.seq ≡ Some own → signer ≡ own → ¬ (IsElsewhere part at)
own_signer {part} {at} {rest} {signer} {own} is signs own_is same (seq, s) =
    not_signer is signs seq
    (λ e. s.unreadable (same_sound part seq at (number_signs part.version seq s.signs s.looked_for.1 ∙ sym e ∙ ap Some same ∙ sym own_is) s.readable)) s

pub unlikely_signer : {part : Part} {at : ℕ} {rest : List ℕ} {signer : ℕ} → rest ≡ drop at part.bytes → IsSigner rest (Some signer) → ((1 ≤ signer) → (signer < 2 ^ 24) → ⊥) → ¬ (IsElsewhere part at)
unlikely_signer {part} {at} {rest} {signer} is signs unlikely (seq, s) =
    not_signer is signs seq
    (λ e. let same = some_is signer seq e in unlikely (let low = s.looked_for.0 in omega (arith, same, low)) (let high = s.looked_for.1 in omega (arith, same, high))) s

pub unreadable_signer : {part : Part} {at : ℕ} {rest : List ℕ} {signer : ℕ} → rest ≡ drop at part.bytes → IsSigner rest (Some signer) → ¬ (IsSoundAt (in_file signer part) at) → ¬ (IsElsewhere part at)
unreadable_signer {part} {at} {rest} {signer} is signs unsound (seq, s) =
    not_signer is signs seq (λ e. unsound (subst (λ (n : ℕ). IsSoundAt (in_file n part) at) (sym (some_is signer seq e)) s.readable)) s

pub other_signer : {part : Part} {at : ℕ} {rest : List ℕ} {signer own : ℕ} → rest ≡ drop at part.bytes → IsSigner rest (Some signer) → signature_in part.version part.id.seq ≡ Some own → own < 2 ^ 32
    → signer ≢ own → 1 ≤ signer → signer < 2 ^ 24 → IsSoundAt (in_file signer part) at → IsSignedFor part at signer
other_signer {part} {at} {rest} {signer} {own} is signs own_is fits other low high sound =
    let none = signs own fits (λ e. other (some_is signer own e)) in
    record {
      signs = signs_so part.version part.id.seq own own_is;
      looked_for = (low, high);
      unreadable = unreadable_unsound {part = part} {at = at}
          (subst (λ (s : Option ℕ). HasNoFront (λ bytes. IsReadable bytes s) (drop at part.bytes)) (sym own_is) (subst (HasNoFront (λ bytes. IsReadable bytes (Some own))) is none));
      readable = sound;
    }
