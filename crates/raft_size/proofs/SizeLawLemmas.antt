-- A text stands for one size at most, and then it has no fault.
use Rattle.raft_size.proofs.Common.{◌≡◌, ℕ, ◌^◌, ◌<◌, ◌&&◌, Bool, true, not, List, [], ◌∷◌, length, get_or, Result, Ok, Err, refl, sym, ap, subst, ◌∙◌, inl, inr, arith, trim, IsNotAscii, and_parts, both_ways, not-true, ReadableSize}
use Rattle.raft_size.proofs.Common.{SizeError, Number, digits_of, significant, size_of, size_text, number_text, unit_text, SpellsSize, LacksNumber, HasManyDigits, IsSpellingFault, get_or_past, units, IsAmong, IsUnit, IsReadAs, nat_eq}
use Rattle.raft_size.proofs.Common.{pointwise, pointwise_decides, unsigned_Decides}
use Rattle.raft_size.specs.declared.size_text.SizeError.TheVariants as faults
use Rattle.raft_size.proofs.SizeNumberLemmas.{number_once}
use Rattle.raft_size.proofs.SizePrintLemmas.{printed_is_size}

-- ---- a unit has one factor

-- no row has this key; no two rows have one key
abbrev is_absent : List ℕ → List (List ℕ × ℕ) → Bool
is_absent key [] = true
is_absent key (row ∷ rows) = not (pointwise nat_eq key row.0) && is_absent key rows

abbrev are_apart : List (List ℕ × ℕ) → Bool
are_apart [] = true
are_apart (row ∷ rows) = is_absent row.0 rows && are_apart rows

absent : (rows : List (List ℕ × ℕ)) (key : List ℕ) (factor : ℕ) → is_absent key rows ≡ true → IsAmong rows key factor → ⊥
absent [] key factor h among = among
absent (row ∷ rows) key factor h (inl here) =
    let test = pointwise nat_eq key row.0 in
    both_ways test (not-true test (and_parts (not test) (is_absent key rows) h).0) ((pointwise_decides unsigned_Decides key row.0).1 here.0)
absent (row ∷ rows) key factor h (inr there) = absent rows key factor (and_parts (not (pointwise nat_eq key row.0)) (is_absent key rows) h).1 there

among_once : (rows : List (List ℕ × ℕ)) (key : List ℕ) (f g : ℕ) → are_apart rows ≡ true → IsAmong rows key f → IsAmong rows key g → f ≡ g
among_once [] key f g h a b = absurd a
among_once (row ∷ rows) key f g h (inl a) (inl b) = a.1 ∙ sym b.1
among_once (row ∷ rows) key f g h (inl a) (inr b) = absurd (absent rows row.0 g (and_parts (is_absent row.0 rows) (are_apart rows) h).0 (subst (λ (k : List ℕ). IsAmong rows k g) a.0 b))
among_once (row ∷ rows) key f g h (inr a) (inl b) = absurd (absent rows row.0 f (and_parts (is_absent row.0 rows) (are_apart rows) h).0 (subst (λ (k : List ℕ). IsAmong rows k f) b.0 a))
among_once (row ∷ rows) key f g h (inr a) (inr b) = among_once rows key f g (and_parts (is_absent row.0 rows) (are_apart rows) h).1 a b

unit_once : (unit : List ℕ) (f g : ℕ) → IsUnit unit f → IsUnit unit g → f ≡ g
unit_once unit f g = among_once units unit f g refl

-- ---- a text has one size, or one fault

spelled_once : (text : List ℕ) (m n : ℕ) → SpellsSize text m → SpellsSize text n → m ≡ n
spelled_once text m n a b =
    let number : a.number ≡ b.number = number_once (number_text text) a.number b.number a.is_number b.is_number in
    let factor : a.factor ≡ b.factor = unit_once (unit_text text) a.factor b.factor a.has_unit.unit b.has_unit.unit in
    a.value ∙ ap (λ (k : Number). size_of k a.factor) number ∙ ap (size_of b.number) factor ∙ sym b.value

spelled_faultless : (text : List ℕ) (n : ℕ) (e : SizeError) → SpellsSize text n → IsSpellingFault text e → ⊥
spelled_faultless text n faults.Empty a f = a.has_unit.some_text f
spelled_faultless text n faults.NotAscii a f = omega (arith, a.has_unit.ascii f.0, f.1)
spelled_faultless text n faults.Unit a f = f.no_unit a.factor a.has_unit.unit
spelled_faultless text n faults.Number a f = f.no_number a.number a.is_number
spelled_faultless text n faults.Digits a f =
    let number : a.number ≡ f.number = number_once (number_text text) a.number f.number a.is_number f.is_number in
    omega (arith, a.few_digits, f.many_digits, ap (λ (k : Number). length (significant (digits_of k))) number)
spelled_faultless text n faults.Kind a f = f

empty_ascii : (text : List ℕ) → text ≡ [] → IsNotAscii text → ⊥
empty_ascii text empty f = omega (arith, f.1, ap (λ (t : List ℕ). get_or t f.0 0) empty, get_or_past {X = ℕ} [] f.0 0 (omega arith))

many_number : (text : List ℕ) → HasManyDigits text → LacksNumber text → ⊥
many_number text f g = g.no_number f.number f.is_number

fault_once : (text : List ℕ) (e f : SizeError) → IsSpellingFault text e → IsSpellingFault text f → e ≡ f
fault_once text faults.Empty faults.Empty a b = refl
fault_once text faults.Empty faults.NotAscii a b = absurd (empty_ascii text a b)
fault_once text faults.Empty faults.Unit a b = absurd (b.some_text a)
fault_once text faults.Empty faults.Number a b = absurd (b.has_unit.some_text a)
fault_once text faults.Empty faults.Digits a b = absurd (b.has_unit.some_text a)
fault_once text faults.NotAscii faults.Empty a b = absurd (empty_ascii text b a)
fault_once text faults.NotAscii faults.NotAscii a b = refl
fault_once text faults.NotAscii faults.Unit a b = absurd (omega (arith, b.ascii a.0, a.1))
fault_once text faults.NotAscii faults.Number a b = absurd (omega (arith, b.has_unit.ascii a.0, a.1))
fault_once text faults.NotAscii faults.Digits a b = absurd (omega (arith, b.has_unit.ascii a.0, a.1))
fault_once text faults.Unit faults.Empty a b = absurd (a.some_text b)
fault_once text faults.Unit faults.NotAscii a b = absurd (omega (arith, a.ascii b.0, b.1))
fault_once text faults.Unit faults.Unit a b = refl
fault_once text faults.Unit faults.Number a b = absurd (a.no_unit b.factor b.has_unit.unit)
fault_once text faults.Unit faults.Digits a b = absurd (a.no_unit b.factor b.has_unit.unit)
fault_once text faults.Number faults.Empty a b = absurd (a.has_unit.some_text b)
fault_once text faults.Number faults.NotAscii a b = absurd (omega (arith, a.has_unit.ascii b.0, b.1))
fault_once text faults.Number faults.Unit a b = absurd (b.no_unit a.factor a.has_unit.unit)
fault_once text faults.Number faults.Number a b = refl
fault_once text faults.Number faults.Digits a b = absurd (many_number text b a)
fault_once text faults.Digits faults.Empty a b = absurd (a.has_unit.some_text b)
fault_once text faults.Digits faults.NotAscii a b = absurd (omega (arith, a.has_unit.ascii b.0, b.1))
fault_once text faults.Digits faults.Unit a b = absurd (b.no_unit a.factor a.has_unit.unit)
fault_once text faults.Digits faults.Number a b = absurd (many_number text a b)
fault_once text faults.Digits faults.Digits a b = refl
fault_once text faults.Kind f a b = absurd a
fault_once text e faults.Kind a b = absurd b

pub read_one_way : (text : List ℕ) (r s : Result ReadableSize SizeError) → IsReadAs text r → IsReadAs text s → r ≡ s
read_one_way text (Ok m) (Ok n) a b = ap (λ (k : ℕ). Ok (record { 0 = k })) (spelled_once (trim text) m.0 n.0 a b)
read_one_way text (Ok m) (Err f) a b = absurd (spelled_faultless (trim text) m.0 f a b)
read_one_way text (Err e) (Ok n) a b = absurd (spelled_faultless (trim text) n.0 e b a)
read_one_way text (Err e) (Err f) a b = ap Err (fault_once (trim text) e f a b)

pub printed_read_again : (n : ℕ) (r : Result ReadableSize SizeError) → n < 2 ^ 64 → IsReadAs (size_text n) r → r ≡ Ok (record { 0 = n })
printed_read_again n r small h = read_one_way (size_text n) r (Ok (record { 0 = n })) h (printed_is_size n small)
