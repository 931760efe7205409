-- Parts that get more bytes, and the batches in them.
use Rattle.raft_replay.proofs.Common.{◌≡◌, ℕ, ◌+◌, List, [], ◌∷◌, ◌++◌, length, drop, refl, sym, ap, ◌∙◌, subst, arith, append_assoc, append-nil, length-append, drop_at, drop-append-le, Part, IsBatchAt, Item, encoded_length}
use Rattle.raft_replay.proofs.Common.{log_batch_bytes, log_batch_length, part_signature, written_stands, Event, HoldsFrom, with_bytes, written_event, WrittenBatchIsHeld, batch_inside}

-- a batch stands in the longer part too
pub longer_stands : (part : Part) (more : List ℕ) (at next : ℕ) (items : List Item) → IsBatchAt part at items next → IsBatchAt (with_bytes part more) at items next
longer_stands part more at next items b =
    let inside = batch_inside part at items next b in
    record {
      bytes = b.bytes;
      read = b.read;
      between = b.between;
      laid_out = b.laid_out;
      stands = drop-append-le at part.bytes more (omega (arith, inside.0, inside.1))
          ∙ ap (λ (t : List ℕ). t ++ more) b.stands
          ∙ append_assoc b.bytes (drop next part.bytes) more
          ∙ ap (λ (t : List ℕ). b.bytes ++ t) (sym (drop-append-le next part.bytes more inside.1));
      ends = b.ends;
      places = b.places;
    }

-- what stands in the bytes that come after is read after
pub held_after : (part : Part) (more : List ℕ) (at : ℕ) (h k : List Event) → HoldsFrom part at h → HoldsFrom (with_bytes part more) (length part.bytes) k → HoldsFrom (with_bytes part more) at (h ++ k)
held_after part more at [] k ends held = subst (λ (n : ℕ). HoldsFrom (with_bytes part more) n k) (sym ends) held
held_after part more at (e ∷ h) k first held =
    (first.0, (first.1.0, longer_stands part more at first.1.0 e.items first.1.1, held_after part more first.1.0 h k first.1.2 held))

pub batch_held : WrittenBatchIsHeld
batch_held part h handle items es batch in_range in_bytes some short file place held =
    let bytes = log_batch_bytes (part_signature part) items es in
    let longer : Part = with_bytes part bytes in
    let first : drop (length part.bytes) longer.bytes ≡ bytes = drop_at part.bytes bytes (length part.bytes) refl in
    let stands = written_stands longer (length part.bytes) handle items es [] batch in_range in_bytes some short file place (first ∙ sym (append-nil bytes)) in
    let all : length part.bytes + encoded_length items es ≡ length longer.bytes =
    ap (λ (n : ℕ). length part.bytes + n) (sym (log_batch_length (part_signature part) items es)) ∙ sym (length-append part.bytes bytes) in
    held_after part bytes 0 h (written_event part handle items es ∷ []) held (refl, (length part.bytes + encoded_length items es, stands, all))
