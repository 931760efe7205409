-- The bytes of entries, as they stand at the place of a written batch.
use Rattle.raft_engine_laws.proofs.Common.{◌≡◌, ℕ, ◌+◌, List, [], ◌∷◌, ◌++◌, length, take, drop, Option, inl, inr, refl, sym, ap, subst, ◌∙◌, append_assoc, length-append, arith, take_at, drop_at, concat, EntryIndex, with_lengths, IsEntryBlockOf, Item, checksum_bytes}
use Rattle.raft_engine_laws.proofs.Common.{item_batch_bytes, with_offsets_from, header_bytes, entry_block, item_offset, encoded_length, log_batch_bytes, header_len, HaveBytes}
use Rattle.raft_base.specs.declared.compression_type.CompressionType.TheVariants as compressions

-- behind the header of a batch that was written after other bytes stands its entry block, whatever came after
pub block_stands : (signature : Option ℕ) (item : Item) (items : List Item) (es old rest : List ℕ) → (more : List ℕ) × (drop (length old + 16) (old ++ (log_batch_bytes signature (item ∷ items) es ++ rest)) ≡ entry_block es ++ more)
block_stands signature item items es old rest =
    let len : ℕ = encoded_length (item ∷ items) es in
    let header : List ℕ = header_bytes (item_offset es) compressions.None len in
    let tail : List ℕ = item_batch_bytes (item ∷ items) in
    let seal : List ℕ = checksum_bytes signature (item_batch_bytes (item ∷ items)) in
    let whole : old ++ (log_batch_bytes signature (item ∷ items) es ++ rest) ≡ (old ++ header) ++ (entry_block es ++ (tail ++ (seal ++ rest))) =
    ap (λ l. old ++ l) (append_assoc (header ++ (entry_block es ++ tail)) seal rest ∙ append_assoc header (entry_block es ++ tail) (seal ++ rest) ∙ ap (λ l. header ++ l) (append_assoc (entry_block es) tail (seal ++ rest)))
    ∙ sym (append_assoc old header (entry_block es ++ (tail ++ (seal ++ rest)))) in
    let at : length (old ++ header) ≡ length old + 16 = let a = length-append old header in let b = header_len (item_offset es) compressions.None len in omega (arith, a, b) in
    (tail ++ (seal ++ rest), ap (drop (length old + 16)) whole ∙ drop_at (old ++ header) (entry_block es ++ (tail ++ (seal ++ rest))) (length old + 16) at)

-- so the entry bytes of the batch are read there
pub block_is_read : (signature : Option ℕ) (item : Item) (items : List Item) (es old rest : List ℕ) → IsEntryBlockOf (length (entry_block es)) (drop (length old + 16) (old ++ (log_batch_bytes signature (item ∷ items) es ++ rest))) es
block_is_read signature item items [] old rest = inl (refl, refl)
block_is_read signature item items (e ∷ es) old rest =
    let b : (more : List ℕ) × (drop (length old + 16) (old ++ (log_batch_bytes signature (item ∷ items) (e ∷ es) ++ rest)) ≡ entry_block (e ∷ es) ++ more) = block_stands signature item items (e ∷ es) old rest in
    subst (λ l. IsEntryBlockOf (length (entry_block (e ∷ es))) l (e ∷ es)) (sym b.1)
    (inr (omega arith, (let n = length-append (entry_block (e ∷ es)) b.0 in omega (arith, n)), record { some = omega arith; split = take_at (entry_block (e ∷ es)) b.0 (length (entry_block (e ∷ es))) refl }))

-- entries that are added behind other bytes have the byte strings that were added for them
pub added_bytes : (es : List EntryIndex) (strings : List (List ℕ)) (before behind : List ℕ) → HaveBytes (before ++ (concat strings ++ behind)) (with_offsets_from (length before) (with_lengths es strings)) strings
added_bytes [] strings before behind = tt
added_bytes (e ∷ es) [] before behind = tt
added_bytes (e ∷ es) (bytes ∷ strings) before behind = (
  ap (take (length bytes)) (drop_at before (concat (bytes ∷ strings) ++ behind) (length before) refl) ∙ ap (take (length bytes)) (append_assoc bytes (concat strings) behind) ∙ take_at bytes (concat strings ++ behind) (length bytes) refl,
  subst (λ (l : List ℕ). HaveBytes l (with_offsets_from (length before + length bytes) (with_lengths es strings)) strings)
      (append_assoc before bytes (concat strings ++ behind) ∙ ap (λ l. before ++ l) (sym (append_assoc bytes (concat strings) behind)))
      (subst (λ (n : ℕ). HaveBytes ((before ++ bytes) ++ (concat strings ++ behind)) (with_offsets_from n (with_lengths es strings)) strings) (length-append before bytes) (added_bytes es strings (before ++ bytes) behind)),
)
