-- A batch that stands in a part, section by section.
use Rattle.raft_records.proofs.Common.{◌≡◌, ℕ, ◌+◌, ◌-◌, List, ◌++◌, map, length, take, drop, ap, ◌∙◌, arith, CompressionType, Part, IsBatchAt, IsFramed, Item, placed_item, part_signature, entries_place, place_between}
use Rattle.raft_records.proofs.FrameLemmas.{framed, laid_out, same_compression}

-- a batch begins at this byte: its header gives the offset of its item batch
pub record IsFramedAt (part : Part) (at : ℕ) (items : List Item) (next : ℕ) : Type 0 where
  pub bytes : List ℕ
  pub read : List Item
  pub offset : ℕ
  pub frame : IsFramed bytes (part_signature part) read offset
  pub stands : drop at part.bytes ≡ bytes ++ drop next part.bytes
  pub ends : next ≡ at + length bytes
  pub places : items ≡ map (placed_item (entries_place part at offset) frame.compression) read

pub framed_at : {part : Part} {at : ℕ} {items : List Item} {next : ℕ} → IsBatchAt part at items next → IsFramedAt part at items next
framed_at {part} {at} {items} {next} b =
    let len : length b.between ≡ 16 + length b.between - 16 = omega arith in
    let frame = framed b.bytes (part_signature part) b.read b.between b.laid_out in
    record {
      bytes = b.bytes;
      read = b.read;
      offset = 16 + length b.between;
      frame = frame;
      stands = b.stands;
      ends = b.ends;
      places = b.places
          ∙ ap (λ (n : ℕ). map (placed_item (place_between part at n) b.laid_out.compression) b.read) len
          ∙ ap (λ (c : CompressionType). map (placed_item (entries_place part at (16 + length b.between)) c) b.read)
          (same_compression b.laid_out.compression frame.compression);
    }

pub laid_at : {part : Part} {at : ℕ} {items : List Item} {next : ℕ} → IsFramedAt part at items next → IsBatchAt part at items next
laid_at {part} {at} {items} {next} b =
    let between = take (b.offset - 16) (drop 16 b.bytes) in
    let lies = laid_out b.bytes (part_signature part) b.read b.offset b.frame in
    let at_offset : 16 + length between ≡ b.offset = lies.0 in
    let len : b.offset - 16 ≡ length between = omega (arith, at_offset) in
    record {
      bytes = b.bytes;
      read = b.read;
      between = between;
      laid_out = lies.1;
      stands = b.stands;
      ends = b.ends;
      places = b.places
          ∙ ap (λ (n : ℕ). map (placed_item (place_between part at n) b.frame.compression) b.read) len
          ∙ ap (λ (c : CompressionType). map (placed_item (place_between part at (length between)) c) b.read)
          (same_compression b.frame.compression lies.1.compression);
    }
