-- Bytes in front of which it is settled whether a batch stands, whatever comes behind them.
use Rattle.raft_reading.proofs.Common.{◌≡◌, ◌⊎◌, inl, inr, ℕ, ◌+◌, ◌<◌, ◌≤◌, Option, List, ◌++◌, length, take, drop, refl, sym, ap, ◌∙◌, subst, arith, append_assoc, length-append, take-append-drop, Error, HasNoFront}
use Rattle.raft_reading.proofs.Common.{HasHeader, header_len, readable, Item, IsReadable, IsNextFault, IsItemBatchFault}
use Rattle.std.specs.Int.{bytes_high_first}
use Rattle.std.proofs.lemmas.List.{take-append-le, take_at}

-- there is room for a header, and the batch of one in front is whole, or longer than with so many bytes more
pub record IsSettled (bytes : List ℕ) (more : ℕ) : Type 0 where
  pub room : 16 ≤ length bytes
  pub decided : (offset len : ℕ) → HasHeader bytes offset len → (len ≤ length bytes) ⊎ (length bytes + more < len)

sixteen : {bytes : List ℕ} {offset len : ℕ} (h : HasHeader bytes offset len) → length h.header.front ≡ 16
sixteen {bytes} {offset} {len} h = ap length h.header.spells.written ∙ header_len offset h.compression len

pub room_of : (bytes : List ℕ) (offset len : ℕ) → HasHeader bytes offset len → 16 ≤ length bytes
room_of bytes offset len h = omega (arith, sixteen h, ap length h.header.split, length-append h.header.front h.rest)

-- a header stands in front of more bytes too
pub header_more : (bytes more : List ℕ) (offset len : ℕ) → HasHeader bytes offset len → HasHeader (bytes ++ more) offset len
header_more bytes more offset len h = record {
  compression = h.compression;
  rest = h.rest ++ more;
  header = record {
    front = h.header.front;
    spells = h.header.spells;
    split = ap (λ (t : List ℕ). t ++ more) h.header.split ∙ append_assoc h.header.front h.rest more;
  };
}

-- sixteen bytes are all of a header
pub header_less : (bytes more : List ℕ) (offset len : ℕ) → 16 ≤ length bytes → HasHeader (bytes ++ more) offset len → HasHeader bytes offset len
header_less bytes more offset len room h =
    let first : take 16 bytes ≡ h.header.front =
    sym (take-append-le 16 bytes more room) ∙ ap (take 16) h.header.split ∙ take_at h.header.front h.rest 16 (sixteen h) in
    record {
      compression = h.compression;
      rest = drop 16 bytes;
      header = record {
        front = h.header.front;
        spells = h.header.spells;
        split = sym (take-append-drop 16 bytes) ∙ ap (λ (t : List ℕ). t ++ drop 16 bytes) first;
      };
    }

-- the header of a batch in front
pub header_of : (bytes front rest : List ℕ) (signature : Option ℕ) (items : List Item) → IsReadable front signature items → bytes ≡ front ++ rest
    → (offset : ℕ) × HasHeader bytes offset (length front)
header_of bytes front rest signature items r split =
    let framed = (readable front signature items).0 r in
    let f = framed.1 in (
      framed.0,
      record {
        compression = f.compression;
        rest = drop 16 front ++ rest;
        header = record {
          front = f.header.front;
          spells = f.header.spells;
          split = split ∙ ap (λ (t : List ℕ). t ++ rest) f.header.split ∙ append_assoc f.header.front (drop 16 front) rest;
        };
      },
    )

-- no more is readable in front of fewer bytes
pub unread_less : (bytes more : List ℕ) (signature : Option ℕ) → HasNoFront (λ xs. IsReadable xs signature) (bytes ++ more) → HasNoFront (λ xs. IsReadable xs signature) bytes
unread_less bytes more signature none front rest items r split =
    none front (rest ++ more) items r (ap (λ (t : List ℕ). t ++ more) split ∙ append_assoc front rest more)

split_more : (bytes first second rest more : List ℕ) → bytes ≡ first ++ (second ++ rest) → bytes ++ more ≡ first ++ (second ++ (rest ++ more))
split_more bytes first second rest more split =
    ap (λ (t : List ℕ). t ++ more) split ∙ append_assoc first (second ++ rest) more ∙ ap (λ (t : List ℕ). first ++ t) (append_assoc second rest more)

module _ (bytes more : List ℕ) where
  -- a batch in front of more bytes that is whole in these
  whole_front : (front rest : List ℕ) → length front ≤ length bytes → bytes ++ more ≡ front ++ rest → bytes ≡ front ++ drop (length front) bytes
  whole_front front rest whole split =
      let first : take (length front) bytes ≡ front =
      sym (take-append-le (length front) bytes more whole) ∙ ap (take (length front)) split ∙ take_at front rest (length front) refl in
      sym (take-append-drop (length front) bytes) ∙ ap (λ (t : List ℕ). t ++ drop (length front) bytes) first

  -- where it is settled, no batch stands in front of more bytes either
  pub unread_more : (signature : Option ℕ) → IsSettled bytes (length more) → HasNoFront (λ xs. IsReadable xs signature) bytes → HasNoFront (λ xs. IsReadable xs signature) (bytes ++ more)
  unread_more signature settled none front rest items r split =
      let header = header_of (bytes ++ more) front rest signature items r split in
      elim (settled.decided header.0 (length front) (header_less bytes more header.0 (length front) settled.room header.1)) [
        | inl whole ↦ none front (drop (length front) bytes) items r (whole_front front rest whole split)
        | inr long ↦ absurd (omega (arith, long, ap length split, length-append bytes more, length-append front rest))
      ]

  -- and the fault is the same
  pub fault_more : (signature : Option ℕ) (e : Error) → IsSettled bytes (length more) → IsNextFault signature bytes e → IsNextFault signature (bytes ++ more) e
  fault_more signature e settled (inl (inl short)) = absurd (let room = settled.room in omega (arith, room, short.0))
  fault_more signature e settled (inl (inr numbers)) = inl (inr (record {
    first = numbers.first;
    second = numbers.second;
    rest = numbers.rest ++ more;
    first_fits = numbers.first_fits;
    second_fits = numbers.second_fits;
    split = split_more bytes (bytes_high_first 8 numbers.first) (bytes_high_first 8 numbers.second) numbers.rest more numbers.split;
    fault = numbers.fault;
  }))
  fault_more signature e settled (inr (inl cut)) =
      elim (settled.decided cut.offset cut.len cut.header) [
        | inl whole ↦ absurd (let short = cut.short in omega (arith, whole, short))
        | inr long ↦ inr (inl (record {
          offset = cut.offset;
          len = cut.len;
          header = header_more bytes more cut.offset cut.len cut.header;
          short = omega (arith, long, length-append bytes more);
          error = cut.error;
        }))
      ]
  fault_more signature e settled (inr (inr item)) =
      inr (inr (record {
        offset = item.offset;
        len = item.len;
        header = header_more bytes more item.offset item.len item.header;
        whole = let whole = item.whole in omega (arith, whole, length-append bytes more);
        fault = subst (λ (t : List ℕ). IsItemBatchFault signature (drop item.offset t) e) (sym (take-append-le item.len bytes more item.whole)) item.fault;
      }))
