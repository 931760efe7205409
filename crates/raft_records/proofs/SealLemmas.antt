-- On checksums behind bytes.
use Rattle.raft_records.proofs.Common.{◌≡◌, ◌≢◌, ℕ, ◌^◌, ◌<◌, List, [], ◌++◌, length, take, drop, Option, Some, None, refl, sym, ap, ◌∙◌, arith, bit_xor, xor_assoc, xor_self, xor_zero_r, take-append-drop, length-append, append_cancel_left}
use Rattle.raft_records.proofs.Common.{append-nil, nil_from_length, little_bytes, Reads, IsLittle, crc32_of, IsReadAgain-little_bytes, signed_crc, checksum_bytes, HasSeal, Error, IsChecksumFault, IsCorruption, codes, decimal}
use Rattle.raft_records.proofs.ItemLemmas.{same_length}

pub four : (n : ℕ) → length (little_bytes 4 n) ≡ 4
four n = (IsReadAgain-little_bytes 4).counted n

-- four bytes are the number that is read of them
pub all_four : (seal rest : List ℕ) (n : ℕ) → length seal ≡ 4 → Reads (IsLittle 4) seal rest n → seal ≡ little_bytes 4 n
all_four seal rest n len r =
    let front : length r.front ≡ 4 = ap length r.spells.written ∙ four n in
    let none : rest ≡ [] = nil_from_length rest (omega (arith, ap length r.split, length-append r.front rest)) in
    r.split ∙ ap (λ (t : List ℕ). r.front ++ t) none ∙ append-nil r.front ∙ r.spells.written

-- signing twice is signing never
signed_twice : (signature : Option ℕ) (n : ℕ) → signed_crc signature (signed_crc signature n) ≡ n
signed_twice None n = refl
signed_twice (Some s) n = xor_assoc n s s ∙ ap (bit_xor n) (xor_self s) ∙ xor_zero_r n

-- the two parts of a split are the whole
split_is : (bytes front back : List ℕ) (n : ℕ) → front ≡ take n bytes → back ≡ drop n bytes → bytes ≡ front ++ back
split_is bytes front back n f b = sym (take-append-drop n bytes) ∙ ap (λ (t : List ℕ). t ++ drop n bytes) (sym f) ∙ ap (λ (t : List ℕ). front ++ t) (sym b)

pub sealed_by : {signature : Option ℕ} {bytes content seal : List ℕ} {found actual : ℕ} (n : ℕ) → content ≡ take n bytes → seal ≡ drop n bytes →
    0 < length content → seal ≡ little_bytes 4 found → actual ≡ crc32_of content → found ≡ signed_crc signature actual →
    HasSeal signature bytes content
sealed_by {signature} {bytes} {content} {seal} n front back some read crc same =
    record { some = some; split = split_is bytes content seal n front back ∙ ap (λ (t : List ℕ). content ++ t) (read ∙ ap (little_bytes 4) (same ∙ ap (signed_crc signature) crc)) }

-- bytes have one content before a checksum
pub content_is : (signature : Option ℕ) (bytes content c seal : List ℕ) → bytes ≡ content ++ seal → length seal ≡ 4 → HasSeal signature bytes c → (c ≡ content) × (checksum_bytes signature c ≡ seal)
content_is signature bytes content c seal split len s =
    let e : c ++ checksum_bytes signature c ≡ content ++ seal = sym s.split ∙ split in
    let lens : length c ≡ length content = omega (arith, ap length e, length-append c (checksum_bytes signature c), length-append content seal, four (signed_crc signature (crc32_of c))) in
    let same = same_length c content (checksum_bytes signature c) seal lens e in
    (same, append_cancel_left content (checksum_bytes signature c) seal (ap (λ (t : List ℕ). t ++ checksum_bytes signature c) (sym same) ∙ e))

pub not_sealed : {signature : Option ℕ} {bytes content seal : List ℕ} {found actual written : ℕ} (n : ℕ) → content ≡ take n bytes → seal ≡ drop n bytes →
    found < 2 ^ 32 → written < 2 ^ 32 → seal ≡ little_bytes 4 found → actual ≡ crc32_of content → written ≡ signed_crc signature actual →
    found ≢ written → (c : List ℕ) → HasSeal signature bytes c → ⊥
not_sealed {signature} {bytes} {content} {seal} {found} {actual} {written} n front back found_fits written_fits read crc signs differs c s =
    let is = content_is signature bytes content c seal (split_is bytes content seal n front back) (ap length read ∙ four found) s in
    let number : written ≡ signed_crc signature (crc32_of c) = signs ∙ ap (signed_crc signature) (crc ∙ ap crc32_of (sym is.0)) in
    let bytes_same : little_bytes 4 found ≡ little_bytes 4 written = sym read ∙ sym is.1 ∙ ap (little_bytes 4) (sym number) in
    let same = (IsReadAgain-little_bytes 4).one_front (little_bytes 4 found) (little_bytes 4 written) [] [] found written
    (record { in_range = found_fits; written = refl }) (record { in_range = written_fits; written = refl })
    (ap (λ (t : List ℕ). t ++ []) bytes_same) in
    differs same.1

-- why the checksum is refused
pub checksum_fault : {signature : Option ℕ} {bytes content seal : List ℕ} {found actual written : ℕ} (n : ℕ) (e : Error) → content ≡ take n bytes →
    seal ≡ drop n bytes → found < 2 ^ 32 → seal ≡ little_bytes 4 found → actual ≡ crc32_of content → written ≡ signed_crc signature actual →
    found ≢ written →
    IsCorruption (codes "Checksum expected " ++ (decimal (signed_crc signature found) ++ (codes " but got " ++ decimal (crc32_of content)))) e →
    IsChecksumFault signature bytes e
checksum_fault {signature} {bytes} {content} {seal} {found} {actual} {written} n e front back found_fits read crc signs differs error =
    record {
      content = content;
      found = found;
      found_fits = found_fits;
      split = split_is bytes content seal n front back ∙ ap (λ (t : List ℕ). content ++ t) read;
      differs = λ same. differs (sym (signed_twice signature found) ∙ ap (signed_crc signature) (sym same ∙ sym crc) ∙ sym signs);
      error = error;
    }
