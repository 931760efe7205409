-- On the signature that a checksum tells.
use Rattle.raft_tail.proofs.Common.{◌≡◌, ℕ, ◌-◌, ◌^◌, ◌<◌, List, [], ◌++◌, length, drop, take, Option, Some, refl, sym, ap, ◌∙◌, subst, arith, bit_xor, length-append, append_cancel_left, length-drop, take-append-drop, xor_of_32, xor_assoc, xor_self, xor_zero_l, little_bytes}
use Rattle.raft_tail.proofs.Common.{crc32_of, IsReadAgain-little_bytes, IsLittle, HasNoFront, Reads, same_length, cut_short, no_header, no_item_batch, all_four, four, HasHeader, IsHeader, IsItemBatch, checksum_bytes, signed_crc, IsItemSigner, IsSigner}

-- four bytes are one number
little_one : (m n : ℕ) → m < 2 ^ 32 → n < 2 ^ 32 → (more rest : List ℕ) → little_bytes 4 m ++ more ≡ little_bytes 4 n ++ rest → m ≡ n
little_one m n m_fits n_fits more rest e =
    ((IsReadAgain-little_bytes 4).one_front (little_bytes 4 m) (little_bytes 4 n) more rest m n (record { in_range = m_fits; written = refl }) (record { in_range = n_fits; written = refl }) e).1

pub only_signer : {bytes content seal more : List ℕ} {found crc n : ℕ} → content ≡ take n bytes → seal ≡ drop n bytes → n ≡ length bytes - 4 → 4 < length bytes →
    Reads (IsLittle 4) seal more found → crc ≡ crc32_of content → crc < 2 ^ 32 → IsItemSigner bytes (Some (bit_xor crc found))
only_signer {bytes} {content} {seal} {more} {found} {crc} {n} front back size some r sums fits s s_fits other items rest b =
    let whole = b.front ++ rest in
    let written = checksum_bytes (Some s) whole in
    let seal_length : length seal ≡ 4 = omega (arith, ap length back, length-drop n bytes, size, some) in
    let split : content ++ seal ≡ whole ++ written = ap (λ (t : List ℕ). t ++ seal) front ∙ ap (λ (t : List ℕ). take n bytes ++ t) back ∙ take-append-drop n bytes ∙ b.split in
    let written_length : length written ≡ 4 = four (signed_crc (Some s) (crc32_of whole)) in
    let lengths : length content ≡ length whole = omega (arith, ap length split, length-append content seal, length-append whole written, seal_length, written_length) in
    let same : content ≡ whole = same_length content whole seal written lengths split in
    let seals : seal ≡ written = append_cancel_left content seal written (split ∙ ap (λ (t : List ℕ). t ++ written) (sym same)) in
    let crc_is : crc32_of whole ≡ crc = ap crc32_of (sym same) ∙ sym sums in
    let numbers : little_bytes 4 found ≡ little_bytes 4 (bit_xor crc s) = sym (all_four seal more found seal_length r) ∙ seals ∙ ap (λ (c : ℕ). little_bytes 4 (bit_xor c s)) crc_is in
    let is : found ≡ bit_xor crc s = little_one found (bit_xor crc s) r.spells.in_range (xor_of_32 crc s fits s_fits) [] [] (ap (λ (t : List ℕ). t ++ []) numbers) in
    other (ap Some (ap (bit_xor crc) is ∙ sym (xor_assoc crc crc s) ∙ ap (λ (k : ℕ). bit_xor k s) (xor_self crc) ∙ xor_zero_l s))

pub signer_behind : {bytes item_bytes : List ℕ} {offset len : ℕ} {signer : Option ℕ} → HasHeader bytes offset len → item_bytes ≡ drop offset (take len bytes) →
    IsItemSigner item_bytes signer → IsSigner bytes signer
signer_behind {bytes} {item_bytes} {offset} {len} h is signs s fits other =
    no_item_batch bytes h.rest (Some s) offset len h.compression h.header (λ items rest b. signs s fits other items rest (subst (λ (t : List ℕ). IsItemBatch t (Some s) items rest) (sym is) b))

pub short_signer : {bytes : List ℕ} {offset len : ℕ} {signer : Option ℕ} → HasHeader bytes offset len → length bytes < len → IsSigner bytes signer
short_signer {bytes} {offset} {len} h short s fits other = cut_short bytes h.rest (Some s) offset len h.compression h.header short

pub headless_signer : {bytes : List ℕ} {signer : Option ℕ} → HasNoFront IsHeader bytes → IsSigner bytes signer
headless_signer {bytes} none s fits other = no_header bytes (Some s) none
