-- On whole items, and on what is cut.
use Rattle.raft_tail.proofs.Common.{◌≡◌, ◌↔◌, ℕ, ◌-◌, ◌^◌, ◌<◌, ◌≤◌, Bool, true, false, List, ◌++◌, length, drop, take, Option, IsTrue, inl, inr, refl, sym, ap, ◌∙◌, subst, arith, append_assoc, append-nil, length-append, nat_eq, not, eqb-true, eq-eqb, append_cancel_left}
use Rattle.raft_tail.proofs.Common.{length-drop, take_at, little_bytes, CompressionType, crc32_of, IsReadAgain-little_bytes, IsLittle, HasNoFront, Reads, header_one, four, HasHeader, IsHeader, checksum_bytes, signed_crc, AreCounted, BeginsWhole, Passes, AreWhole, IsBroken}
use Rattle.raft_tail.proofs.BrokenLemmas.{counted_one_front, whole_length, whole_split}

-- ---- whole items

uncounted : {bytes : List ℕ} {signature : Option ℕ} → HasNoFront AreCounted bytes → ¬ (BeginsWhole signature bytes)
uncounted {bytes} {signature} none (rest, (items, r)) =
    let w = r.spells in
    none w.front (checksum_bytes signature w.front ++ rest) items w.counted
    (r.split ∙ ap (λ (t : List ℕ). t ++ rest) (whole_split r.front signature items w) ∙ append_assoc w.front (checksum_bytes signature w.front) rest)

pub not_counted : {bytes : List ℕ} {signature : Option ℕ} → HasNoFront AreCounted bytes → IsTrue false ↔ BeginsWhole signature bytes
not_counted none = (λ e. absurd cc, λ b. absurd (uncounted none b))

-- what stands behind the counted items of whole ones
behind_counted : {bytes rest : List ℕ} {signature : Option ℕ} → (p : Passes AreCounted bytes rest) → (b : BeginsWhole signature bytes) →
    rest ≡ checksum_bytes signature p.1.front ++ b.0
behind_counted {bytes} {rest} {signature} (xs, r) (more, (items, t)) =
    let w = t.spells in
    let whole = t.split ∙ ap (λ (u : List ℕ). u ++ more) (whole_split t.front signature items w) ∙ append_assoc w.front (checksum_bytes signature w.front) more in
    let same : r.front ≡ w.front = (counted_one_front r.front w.front rest (checksum_bytes signature w.front ++ more) xs items r.spells w.counted (sym r.split ∙ whole)).0 in
    append_cancel_left r.front rest (checksum_bytes signature r.front ++ more)
    (sym r.split ∙ whole ∙ ap (λ (u : List ℕ). u ++ (checksum_bytes signature u ++ more)) (sym same))

pub no_seal : {bytes rest : List ℕ} {signature : Option ℕ} → Passes AreCounted bytes rest → length rest < 4 → IsTrue false ↔ BeginsWhole signature bytes
no_seal {bytes} {rest} {signature} p short = (
  λ e. absurd cc,
  λ b. absurd (omega (
    arith,
    short,
    ap length (behind_counted p b),
    length-append (checksum_bytes signature p.1.front) b.0,
    four (signed_crc signature (crc32_of p.1.front)),
  )),
)

-- what was passed is the first part
passed_is : {bytes rest content : List ℕ} → (p : Passes AreCounted bytes rest) → content ≡ take (length bytes - length rest) bytes → content ≡ p.1.front
passed_is {bytes} {rest} {content} (xs, r) is =
    let n : length r.front ≡ length bytes - length rest = omega (arith, ap length r.split, length-append r.front rest) in
    is ∙ ap (take (length bytes - length rest)) r.split ∙ take_at r.front rest (length bytes - length rest) n

pub sealed : {bytes rest content more : List ℕ} {signature : Option ℕ} {found crc signed : ℕ} → Passes AreCounted bytes rest → content ≡ take (length bytes - length rest) bytes →
    Reads (IsLittle 4) rest more found → crc ≡ crc32_of content → signed ≡ signed_crc signature crc → signed < 2 ^ 32 → IsTrue (nat_eq found signed) ↔ BeginsWhole signature bytes
sealed {bytes} {rest} {content} {more} {signature} {found} {crc} {signed} p is r sums signs fits =
    let counted = p.1 in
    let signed_is : signed ≡ signed_crc signature (crc32_of counted.front) = signs ∙ ap (signed_crc signature) (sums ∙ ap crc32_of (passed_is p is)) in (
      λ same.
          let equal : found ≡ signed = eqb-true found signed same in
          let seal : r.front ≡ checksum_bytes signature counted.front = r.spells.written ∙ ap (little_bytes 4) (equal ∙ signed_is) in
          let front = counted.front ++ checksum_bytes signature counted.front in (
            more,
            (
              p.0,
              record {
                front = front;
                spells = record {
                  front = counted.front;
                  counted = counted.spells;
                  split = ap (λ (t : List ℕ). t ++ checksum_bytes signature t) (sym (append-nil counted.front));
                };
                split = counted.split ∙ ap (λ (t : List ℕ). counted.front ++ t) (r.split ∙ ap (λ (t : List ℕ). t ++ more) seal)
                    ∙ sym (append_assoc counted.front (checksum_bytes signature counted.front) more);
              },
            ),
          ),
      λ b.
          let numbers : little_bytes 4 found ++ more ≡ little_bytes 4 signed ++ b.0 =
          ap (λ (t : List ℕ). t ++ more) (sym r.spells.written) ∙ sym r.split ∙ behind_counted p b ∙ ap (λ (k : ℕ). little_bytes 4 k ++ b.0) (sym signed_is) in
          let same = (IsReadAgain-little_bytes 4).one_front (little_bytes 4 found) (little_bytes 4 signed) more b.0 found signed
          (record { in_range = r.spells.in_range; written = refl }) (record { in_range = fits; written = refl }) numbers in
          eq-eqb found signed same.1,
    )

-- ---- what is cut

pub begins_nothing : (signature : Option ℕ) (offset : ℕ) (bytes : List ℕ) → length bytes < offset → HasNoFront (AreWhole signature) (drop offset bytes)
begins_nothing signature offset bytes past front rest items w e =
    absurd (omega (arith, past, ap length e, length-drop offset bytes, length-append front rest, whole_length front signature items w))

pub unfinished : {signature : Option ℕ} {bytes : List ℕ} (whole : Bool) → IsTrue whole ↔ BeginsWhole signature bytes → IsTrue (not whole) ↔ HasNoFront (AreWhole signature) bytes
unfinished true (there, back) = (λ e. absurd cc, λ none. absurd (let b = there refl in none b.1.1.front b.0 b.1.0 b.1.1.spells b.1.1.split))
unfinished false (there, back) = (
  λ e front rest items w split. absurd (let no : false ≡ true = back (rest, (items, record { front = front; spells = w; split = split })) in cc),
  λ none. refl,
)

one_header : {bytes : List ℕ} {offset len offset' len' : ℕ} → HasHeader bytes offset len → HasHeader bytes offset' len' → (offset ≡ offset') × (len ≡ len')
one_header {offset = offset} {len = len} {offset' = offset'} {len' = len'} h k =
    let same = (header_one h.header.front k.header.front h.rest k.rest (offset, h.compression, len) (offset', k.compression, len') h.header.spells k.header.spells
    (sym h.header.split ∙ k.header.split)).1 in
    (ap (λ (t : ℕ × CompressionType × ℕ). t.0) same, ap (λ (t : ℕ × CompressionType × ℕ). t.2) same)

pub headless_unbroken : {signature : Option ℕ} {bytes : List ℕ} → 16 ≤ length bytes → HasNoFront IsHeader bytes → ¬ (IsBroken signature bytes)
headless_unbroken long none (inl short) = absurd (omega (arith, long, short))
headless_unbroken long none (inr c) = none c.header.header.front c.header.rest (c.offset, c.header.compression, c.len) c.header.header.spells c.header.header.split

pub long_unbroken : {signature : Option ℕ} {bytes : List ℕ} {offset len : ℕ} → 16 ≤ length bytes → HasHeader bytes offset len → len ≤ length bytes → ¬ (IsBroken signature bytes)
long_unbroken long h whole (inl short) = absurd (omega (arith, long, short))
long_unbroken long h whole (inr c) = let same = (one_header h c.header).1 in absurd (omega (arith, same, whole, c.shorter))

pub broken_if : {signature : Option ℕ} {bytes : List ℕ} {offset len : ℕ} (broken : Bool) → 16 ≤ length bytes → HasHeader bytes offset len → length bytes < len →
    IsTrue broken ↔ HasNoFront (AreWhole signature) (drop offset bytes) → IsTrue broken ↔ IsBroken signature bytes
broken_if {signature} {bytes} {offset} {len} broken long h shorter (there, back) = (
  λ e. inr (record { offset = offset; len = len; header = h; shorter = shorter; unfinished = there e }),
  λ b. back (elim b [
    | inl short ↦ absurd (omega (arith, long, short))
    | inr c ↦ subst (λ (n : ℕ). HasNoFront (AreWhole signature) (drop n bytes)) (sym (one_header h c.header).0) c.unfinished
  ]),
)
