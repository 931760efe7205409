-- On numbers in a fixed count of bytes.
use Rattle.raft_codec.proofs.Common.{◌≡◌, ℕ, ◌^◌, ◌<◌, ℤ, pos, List, [], ◌++◌, length, get_or, refl, sym, ap, ◌∙◌, arith, ◌+ℤ◌, w16, w32, w64, FitsSigned, Width, byte_len, cast_unsigned, cast_signed, from_be_bytes, from_le_bytes, ints}
use Rattle.raft_codec.proofs.Common.{to_z-of_z, be_bytes_2, be_bytes_4, be_bytes_8, le_bytes_2, le_bytes_4, le_bytes_8, Fits-of_z, big_number, little_number, big_bytes, little_bytes, big_number-reads_back, little_number-reads_back}
use Rattle.raft_codec.proofs.Common.{length-bytes_high_first, length-bytes_low_first, Reads, HasOneFront, IsSpelledBy, IsReadAgain, IsBig, IsLittle, complement, sign_flipped, u64_desc_bytes, i64_bytes, i64_desc_bytes, signed_le_bytes, take}
use Rattle.raft_codec.proofs.Common.{take-append_seam}
use Rattle.raft_codec.proofs.FixedOrder.{sign_flipped-lt, sign_flipped-offset}
use mir.Val.{bits}

-- each item is a byte
abbrev pub AreBytes : List ℕ → Type 0
AreBytes bs = (i : ℕ) → get_or bs i 0 < 256

-- ---- what the first bytes are read as

pub reads_big_8 : (old front new : List ℕ) (n : ℕ) → old ≡ front ++ new → length front ≡ 8 → AreBytes front → n < 2 ^ 64 → n ≡ from_be_bytes w64 front → Reads (IsBig 8) old new n
reads_big_8 old front new n split len bytes fits value =
    record { front = front; spells = record { in_range = fits; written = sym (be_bytes_8 front n len bytes value) }; split = split }

pub reads_big_4 : (old front new : List ℕ) (n : ℕ) → old ≡ front ++ new → length front ≡ 4 → AreBytes front → n < 2 ^ 32 → n ≡ from_be_bytes w32 front → Reads (IsBig 4) old new n
reads_big_4 old front new n split len bytes fits value =
    record { front = front; spells = record { in_range = fits; written = sym (be_bytes_4 front n len bytes value) }; split = split }

pub reads_big_2 : (old front new : List ℕ) (n : ℕ) → old ≡ front ++ new → length front ≡ 2 → AreBytes front → n < 2 ^ 16 → n ≡ from_be_bytes w16 front → Reads (IsBig 2) old new n
reads_big_2 old front new n split len bytes fits value =
    record { front = front; spells = record { in_range = fits; written = sym (be_bytes_2 front n len bytes value) }; split = split }

pub reads_little_8 : (old front new : List ℕ) (n : ℕ) → old ≡ front ++ new → length front ≡ 8 → AreBytes front → n < 2 ^ 64 → n ≡ from_le_bytes w64 front → Reads (IsLittle 8) old new n
reads_little_8 old front new n split len bytes fits value =
    record { front = front; spells = record { in_range = fits; written = sym (le_bytes_8 front n len bytes value) }; split = split }

pub reads_little_4 : (old front new : List ℕ) (n : ℕ) → old ≡ front ++ new → length front ≡ 4 → AreBytes front → n < 2 ^ 32 → n ≡ from_le_bytes w32 front → Reads (IsLittle 4) old new n
reads_little_4 old front new n split len bytes fits value =
    record { front = front; spells = record { in_range = fits; written = sym (le_bytes_4 front n len bytes value) }; split = split }

pub reads_little_2 : (old front new : List ℕ) (n : ℕ) → old ≡ front ++ new → length front ≡ 2 → AreBytes front → n < 2 ^ 16 → n ≡ from_le_bytes w16 front → Reads (IsLittle 2) old new n
reads_little_2 old front new n split len bytes fits value =
    record { front = front; spells = record { in_range = fits; written = sym (le_bytes_2 front n len bytes value) }; split = split }

-- ---- what is written is read again

-- spellings of one length, each of which stands for one value
read_again : {X : Type 0} (InRange : X → Type 0) (bytes_of : X → List ℕ) (width : ℕ) → ((x : X) → length (bytes_of x) ≡ width) → ((x y : X) → InRange x → InRange y → bytes_of x ≡ bytes_of y → x ≡ y) → IsReadAgain width InRange bytes_of
read_again {X} InRange bytes_of width lengths same =
    record { counted = lengths; spelled = λ x fits. record { in_range = fits; written = refl }; one_front = one_front }
  where
    one_front : HasOneFront (IsSpelledBy InRange bytes_of)
    one_front a b more rest x y p q e =
        let n : length a ≡ length b = ap length p.written ∙ lengths x ∙ sym (lengths y) ∙ sym (ap length q.written) in
        let heads : a ≡ b = sym (take-append_seam a more) ∙ ap (take (length a)) e ∙ ap (λ (k : ℕ). take k (b ++ rest)) n ∙ take-append_seam b rest in
        (heads, same x y p.in_range q.in_range (sym p.written ∙ heads ∙ q.written))

same_from_big : (n x y : ℕ) → x < 256 ^ n → y < 256 ^ n → big_bytes n x ≡ big_bytes n y → x ≡ y
same_from_big n x y p q e =
    sym (big_number-reads_back n x [] p) ∙ ap (λ (bs : List ℕ). big_number n (bs ++ [])) e ∙ big_number-reads_back n y [] q

same_from_little : (n x y : ℕ) → x < 256 ^ n → y < 256 ^ n → little_bytes n x ≡ little_bytes n y → x ≡ y
same_from_little n x y p q e =
    sym (little_number-reads_back n x [] p) ∙ ap (λ (bs : List ℕ). little_number n (bs ++ [])) e ∙ little_number-reads_back n y [] q

pub IsReadAgain-big_bytes : (n : ℕ) → IsReadAgain n (λ x. x < 256 ^ n) (big_bytes n)
IsReadAgain-big_bytes n = read_again (λ x. x < 256 ^ n) (big_bytes n) n (λ x. length-bytes_high_first n x) (same_from_big n)

pub IsReadAgain-little_bytes : (n : ℕ) → IsReadAgain n (λ x. x < 256 ^ n) (little_bytes n)
IsReadAgain-little_bytes n = read_again (λ x. x < 256 ^ n) (little_bytes n) n (λ x. length-bytes_low_first 0 n x) (same_from_little n)

pub IsReadAgain-u64_desc_bytes : IsReadAgain 8 (λ x. x < 2 ^ 64) u64_desc_bytes
IsReadAgain-u64_desc_bytes = read_again (λ x. x < 2 ^ 64) u64_desc_bytes 8 (λ x. refl) same
  where
    same : (x y : ℕ) → x < 2 ^ 64 → y < 2 ^ 64 → u64_desc_bytes x ≡ u64_desc_bytes y → x ≡ y
    same x y p q e = let c : complement x ≡ complement y = same_from_big 8 (complement x) (complement y) (omega arith) (omega arith) e in omega arith

-- an i64 from what its sign bit was flipped to
same_from_flipped : (x y : ℤ) → FitsSigned w64 x → FitsSigned w64 y → sign_flipped x ≡ sign_flipped y → x ≡ y
same_from_flipped x y p q e =
    let c : x +ℤ pos (2 ^ 63) ≡ y +ℤ pos (2 ^ 63) = sym (sign_flipped-offset x p) ∙ ap pos e ∙ sign_flipped-offset y q in
    omega (arith, ints)

pub IsReadAgain-i64_bytes : IsReadAgain 8 (FitsSigned w64) i64_bytes
IsReadAgain-i64_bytes = read_again (FitsSigned w64) i64_bytes 8 (λ z. refl) same
  where
    same : (x y : ℤ) → FitsSigned w64 x → FitsSigned w64 y → i64_bytes x ≡ i64_bytes y → x ≡ y
    same x y p q e = same_from_flipped x y p q (same_from_big 8 (sign_flipped x) (sign_flipped y) (sign_flipped-lt x p) (sign_flipped-lt y q) e)

pub IsReadAgain-i64_desc_bytes : IsReadAgain 8 (FitsSigned w64) i64_desc_bytes
IsReadAgain-i64_desc_bytes = read_again (FitsSigned w64) i64_desc_bytes 8 (λ z. refl) same
  where
    same : (x y : ℤ) → FitsSigned w64 x → FitsSigned w64 y → i64_desc_bytes x ≡ i64_desc_bytes y → x ≡ y
    same x y p q e =
        let a = sign_flipped-lt x p in
        let b = sign_flipped-lt y q in
        let c : complement (sign_flipped x) ≡ complement (sign_flipped y) = same_from_big 8 (complement (sign_flipped x)) (complement (sign_flipped y)) (omega arith) (omega arith) e in
        same_from_flipped x y p q (omega arith)

pub IsReadAgain-signed_le_bytes : (w : Width) (n : ℕ) → byte_len w ≡ n → 2 ^ bits w ≡ 256 ^ n → IsReadAgain n (FitsSigned w) (signed_le_bytes w)
IsReadAgain-signed_le_bytes w n len most =
    read_again (FitsSigned w) (signed_le_bytes w) n (λ z. rw len (length-bytes_low_first 0 n (cast_unsigned w z))) same
  where
    fits : (z : ℤ) → FitsSigned w z → cast_unsigned w z < 256 ^ n
    fits z h = rw (← most) (Fits-of_z {w = w} h).fits

    same : (x y : ℤ) → FitsSigned w x → FitsSigned w y → signed_le_bytes w x ≡ signed_le_bytes w y → x ≡ y
    same x y p q e =
        let bytes : little_bytes n (cast_unsigned w x) ≡ little_bytes n (cast_unsigned w y) = rw len at e in
        let c : cast_unsigned w x ≡ cast_unsigned w y = same_from_little n (cast_unsigned w x) (cast_unsigned w y) (fits x p) (fits y q) bytes in
        sym (to_z-of_z w x p) ∙ ap (cast_signed w) c ∙ to_z-of_z w y q
