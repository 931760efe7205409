-- On headers of log batches.
use Rattle.raft_records.proofs.Common.{◌≡◌, ◌≢◌, ℕ, ◌+◌, ◌-◌, ◌*◌, ◌/◌, ◌%◌, ◌^◌, ◌<◌, ◌≤◌, List, [], ◌++◌, ◌⊎◌, length, take, drop, refl, sym, ap, ◌∙◌, append_assoc, arith, length-append, length-drop, append_cancel_left, append-nil}
use Rattle.raft_records.proofs.Common.{take_at, drop_at, take_all, drop_all, drop-drop, big_bytes, Reads, HasNoFront, IsBig, IsReadAgain-big_bytes, CompressionType, Error, compression_byte, IsCompressionFault, header_bytes, IsHeader}
use Rattle.raft_records.proofs.Common.{IsOffsetFault, IsHeaderNumbersFault}
use Rattle.raft_base.specs.declared.compression_type.CompressionType.TheVariants.{None}
use Rattle.raft_records.proofs.BufferLemmas.{header_len}

pub byte_of_type : (c : CompressionType) → compression_byte c ≡ 0
byte_of_type None = refl

-- the two numbers of a header and what is behind them
pub words_are : (bytes behind rest : List ℕ) (first second : ℕ) → (a : Reads (IsBig 8) bytes behind first) → (b : Reads (IsBig 8) behind rest second) → bytes ≡ big_bytes 8 first ++ (big_bytes 8 second ++ rest)
words_are bytes behind rest first second a b =
    a.split ∙ ap (λ (t : List ℕ). t ++ behind) a.spells.written ∙ ap (λ (t : List ℕ). big_bytes 8 first ++ t) (b.split ∙ ap (λ (t : List ℕ). t ++ rest) b.spells.written)

pub header_read : (bytes behind rest : List ℕ) (first second : ℕ) (c : CompressionType) → Reads (IsBig 8) bytes behind first →
    Reads (IsBig 8) behind rest second → first % 256 ≡ compression_byte c → second ≤ first / 256 → 16 ≤ second →
    Reads IsHeader bytes rest (second, c, first / 256)
unfolding header_bytes
header_read bytes behind rest first second c a b type inside behind_header =
    let fits : first < 2 ^ 64 = a.spells.in_range in
    let whole : first ≡ first / 256 * 256 + compression_byte c = omega (arith, type) in
    record {
      front = big_bytes 8 first ++ big_bytes 8 second;
      spells = record { written = ap (λ (n : ℕ). big_bytes 8 n ++ big_bytes 8 second) whole; length_fits = omega arith; behind_header = behind_header; inside = inside };
      split = words_are bytes behind rest first second a b ∙ sym (append_assoc (big_bytes 8 first) (big_bytes 8 second) rest);
    }

-- what a header that stood there would say
pub header_is : (bytes behind rest front more : List ℕ) (first second : ℕ) (h : ℕ × CompressionType × ℕ) → Reads (IsBig 8) bytes behind first →
    Reads (IsBig 8) behind rest second → IsHeader front h → bytes ≡ front ++ more → (first ≡ h.2 * 256) × (second ≡ h.0)
unfolding header_bytes
header_is bytes behind rest front more first second h a b is split =
    let zero_byte : compression_byte h.1 ≡ 0 = byte_of_type h.1 in
    let fits : h.2 < 2 ^ 56 = is.length_fits in
    let inside : h.0 ≤ h.2 = is.inside in
    let word = h.2 * 256 + compression_byte h.1 in
    let there : bytes ≡ big_bytes 8 word ++ (big_bytes 8 h.0 ++ more) =
    split ∙ ap (λ (t : List ℕ). t ++ more) is.written ∙ append_assoc (big_bytes 8 word) (big_bytes 8 h.0) more in
    let one = (IsReadAgain-big_bytes 8).one_front a.front (big_bytes 8 word) behind (big_bytes 8 h.0 ++ more) first word a.spells (record { in_range = omega arith; written = refl }) (sym a.split ∙ there) in
    let rests : behind ≡ big_bytes 8 h.0 ++ more = append_cancel_left a.front behind (big_bytes 8 h.0 ++ more) (sym a.split ∙ there ∙ ap (λ (t : List ℕ). t ++ (big_bytes 8 h.0 ++ more)) (sym one.0)) in
    let two = (IsReadAgain-big_bytes 8).one_front b.front (big_bytes 8 h.0) rest more second h.0 b.spells (record { in_range = omega arith; written = refl }) (sym b.split ∙ rests) in
    (omega (arith, one.1, zero_byte), two.1)

pub too_short_for_header : (bytes : List ℕ) → length bytes < 16 → HasNoFront IsHeader bytes
too_short_for_header bytes short front rest h is split =
    absurd (omega (arith, short, ap length split, length-append front rest, ap length is.written, header_len h.0 h.1 h.2))

pub unknown_type : (bytes behind rest : List ℕ) (first second : ℕ) → Reads (IsBig 8) bytes behind first → Reads (IsBig 8) behind rest second → first % 256 ≢ 0 → HasNoFront IsHeader bytes
unknown_type bytes behind rest first second a b ne front more h is split =
    let says = header_is bytes behind rest front more first second h a b is split in
    ne (omega (arith, says.0))

pub offset_past_end : (bytes behind rest : List ℕ) (first second : ℕ) → Reads (IsBig 8) bytes behind first → Reads (IsBig 8) behind rest second → first / 256 < second → HasNoFront IsHeader bytes
offset_past_end bytes behind rest first second a b past front more h is split =
    let says = header_is bytes behind rest front more first second h a b is split in
    let inside : h.0 ≤ h.2 = is.inside in
    absurd (omega (arith, says.0, says.1))

pub offset_in_header : (bytes behind rest : List ℕ) (first second : ℕ) → Reads (IsBig 8) bytes behind first → Reads (IsBig 8) behind rest second → second < 16 → HasNoFront IsHeader bytes
offset_in_header bytes behind rest first second a b low front more h is split =
    let says = header_is bytes behind rest front more first second h a b is split in
    let least : 16 ≤ h.0 = is.behind_header in
    absurd (omega (arith, says.1))

-- ---- faults and bytes of headers

pub type_ok : (c : CompressionType) (n : ℕ) → n ≡ compression_byte c → n ≡ 0
type_ok c n e = e ∙ byte_of_type c

pub header_numbers_fault : (bytes behind rest : List ℕ) (first second : ℕ) (e : Error) → Reads (IsBig 8) bytes behind first →
    Reads (IsBig 8) behind rest second → (IsCompressionFault (first % 256) e ⊎ ((first % 256 ≡ 0) × IsOffsetFault (first / 256) second e)) →
    IsHeaderNumbersFault bytes e
header_numbers_fault bytes behind rest first second e a b fault =
    record {
      first = first;
      second = second;
      rest = rest;
      first_fits = a.spells.in_range;
      second_fits = b.spells.in_range;
      split = words_are bytes behind rest first second a b;
      fault = fault;
    }

-- both numbers were written over the first sixteen bytes
pub header_written : (offset len word byte k : ℕ) (old one two : List ℕ) → 16 ≤ length old → word ≡ len * 256 + byte → byte ≡ 0 →
    one ≡ big_bytes 8 word ++ drop 8 old → k ≡ length one - 8 → two ≡ big_bytes 8 offset ++ drop 8 (take k (drop 8 one)) →
    take 8 one ++ (two ++ drop k (drop 8 one)) ≡ header_bytes offset None len ++ drop 16 old
unfolding header_bytes
header_written offset len word byte k old one two room is zero_byte first size second =
    let eight : length (big_bytes 8 word) ≡ 8 = (IsReadAgain-big_bytes 8).counted word in
    let word_is : word ≡ len * 256 + 0 = omega (arith, is, zero_byte) in
    let behind : drop 8 one ≡ drop 8 old = ap (drop 8) first ∙ drop_at (big_bytes 8 word) (drop 8 old) 8 eight in
    let none : drop k (drop 8 one) ≡ [] = drop_all k (drop 8 one) (omega (arith, size, length-drop 8 one)) in
    let part : take k (drop 8 one) ≡ drop 8 old = take_all k (drop 8 one) (omega (arith, size, length-drop 8 one)) ∙ behind in
    let tail : two ≡ big_bytes 8 offset ++ drop 16 old = second ∙ ap (λ (t : List ℕ). big_bytes 8 offset ++ drop 8 t) part ∙ ap (λ (t : List ℕ). big_bytes 8 offset ++ t) (drop_twice old) in
    let front : take 8 one ≡ big_bytes 8 (len * 256 + 0) = ap (take 8) first ∙ take_at (big_bytes 8 word) (drop 8 old) 8 eight ∙ ap (big_bytes 8) word_is in
    ap (λ (t : List ℕ). t ++ (two ++ drop k (drop 8 one))) front
    ∙ ap (λ (t : List ℕ). big_bytes 8 (len * 256 + 0) ++ t) (ap (λ (t : List ℕ). two ++ t) none ∙ append-nil two ∙ tail)
    ∙ sym (append_assoc (big_bytes 8 (len * 256 + 0)) (big_bytes 8 offset) (drop 16 old))
  where
    drop_twice : (xs : List ℕ) → drop 8 (drop 8 xs) ≡ drop 16 xs
    drop_twice xs = drop-drop 8 8 xs
