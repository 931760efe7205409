-- On the buffer of a log batch.
use Rattle.raft_records.proofs.Common.{◌≡◌, ◌≢◌, ℕ, ◌+◌, ◌-◌, ◌*◌, ◌^◌, ◌<◌, ◌≤◌, List, [], ◌∷◌, ◌++◌, length, take, drop, Option, None, refl, sym, ap, ◌∙◌, subst, append_assoc, arith, length-append, length-drop, length-take-le}
use Rattle.raft_records.proofs.Common.{take-append-drop, take_at, drop_at, take_all, big_bytes, crc32_of, IsReadAgain-big_bytes, CompressionType, compression_byte, Item, checksum_bytes, item_batch_bytes, entry_bytes_of, IsEncoded}
use Rattle.raft_records.proofs.Common.{signed_crc, no_checksum, Stage, is_open, encoded, sealed, header_bytes, entry_block, item_offset, unsealed_bytes, encoded_length, log_batch_bytes, entry_bytes_in, IsUnsealed, IsEncodedAs, IsHeldAt}
use Rattle.raft_records.proofs.Common.{IsHeld, Keeps, behind_item, uncompressed}
use Rattle.raft_records.proofs.BatchLemmas.{end_push}
use Rattle.raft_records.proofs.SealLemmas.{four}

pub header_len : (offset : ℕ) (c : CompressionType) (len : ℕ) → length (header_bytes offset c len) ≡ 16
unfolding header_bytes
header_len offset c len =
    omega (arith, length-append (big_bytes 8 (len * 256 + compression_byte c)) (big_bytes 8 offset), (IsReadAgain-big_bytes 8).counted (len * 256 + compression_byte c), (IsReadAgain-big_bytes 8).counted offset)

pub checksum_len : (signature : Option ℕ) (bytes : List ℕ) → length (checksum_bytes signature bytes) ≡ 4
checksum_len signature bytes = four (signed_crc signature (crc32_of bytes))

-- an entry block begins with its entry bytes
block_begins : (es : List ℕ) → (more : List ℕ) × (entry_block es ≡ es ++ more)
block_begins [] = ([], refl)
block_begins (e ∷ es) = (checksum_bytes None (e ∷ es), refl)

-- ---- entry bytes in a buffer

-- behind the header of a batch stand its entry bytes
pub entries_behind : (len n : ℕ) (items : List Item) (es seal buf : List ℕ) → length es ≡ n → buf ≡ unsealed_bytes len items es ++ seal → take n (drop 16 buf) ≡ es
entries_behind len n items es seal buf counted split =
    let header = header_bytes (item_offset es) uncompressed len in
    let begins = block_begins es in
    let whole : buf ≡ header ++ (es ++ (begins.0 ++ (item_batch_bytes items ++ seal))) =
    split ∙ append_assoc header (entry_block es ++ item_batch_bytes items) seal
    ∙ ap (λ (t : List ℕ). header ++ t) (append_assoc (entry_block es) (item_batch_bytes items) seal
    ∙ ap (λ (t : List ℕ). t ++ (item_batch_bytes items ++ seal)) begins.1 ∙ append_assoc es begins.0 (item_batch_bytes items ++ seal)) in
    ap (λ (t : List ℕ). take n (drop 16 t)) whole
    ∙ ap (take n) (drop_at header (es ++ (begins.0 ++ (item_batch_bytes items ++ seal))) 16 (header_len (item_offset es) uncompressed len))
    ∙ take_at es (begins.0 ++ (item_batch_bytes items ++ seal)) n counted

-- while items may be added all bytes behind the header are entry bytes
pub open_entries : (n : ℕ) (buf : List ℕ) → length buf - 16 ≡ n → take n (drop 16 buf) ≡ drop 16 buf
open_entries n buf h = take_all n (drop 16 buf) (omega (arith, h, length-drop 16 buf))

-- the entry bytes that were there, and more behind them
pub held_open : (items : List Item) (buf : List ℕ) → length buf - 16 ≡ entry_bytes_of items → entry_bytes_of items < 2 ^ 31 → IsHeld is_open items (entry_bytes_in items buf) buf
held_open items buf h lt =
    let whole : length (entry_bytes_in items buf) ≡ entry_bytes_of items = ap length (open_entries (entry_bytes_of items) buf h) ∙ length-drop 16 buf ∙ h in
    record { whole = whole; fits = omega (arith, whole, lt); held = h; short = tt }

-- ---- encoded and sealed

pub encoded_as : (items : List Item) (es buf : List ℕ) → items ≢ [] → IsUnsealed items es buf → IsEncodedAs items es buf
encoded_as [] es buf some u = absurd (some refl)
encoded_as (x ∷ xs) es buf some u = u

pub unsealed_entries : (items : List Item) (es buf : List ℕ) → length es ≡ entry_bytes_of items → IsUnsealed items es buf → entry_bytes_in items buf ≡ es
unsealed_entries items es buf counted u =
    entries_behind (encoded_length items es) (entry_bytes_of items) items es u.seal buf counted u.split

pub held_encoded : (items : List Item) (es buf : List ℕ) → items ≢ [] → length es ≡ entry_bytes_of items → length es < 2 ^ 31 → IsUnsealed items es buf → length buf < 2 ^ 56 → IsHeld encoded items (entry_bytes_in items buf) buf
held_encoded items es buf some counted lt u short =
    let same = unsealed_entries items es buf counted u in
    record {
      whole = ap length same ∙ counted;
      fits = omega (arith, ap length same, lt);
      held = subst (λ (t : List ℕ). IsEncodedAs items t buf) (sym same) (encoded_as items es buf some u);
      short = short;
    }

-- what is encoded or sealed is the batch, but for its checksum
pub unsealed_at : (stage : Stage) (items : List Item) (es buf : List ℕ) → stage ≢ is_open → items ≢ [] → IsHeldAt stage items es buf → IsUnsealed items es buf
unsealed_at is_open items es buf ne some h = absurd (ne refl)
unsealed_at encoded [] es buf ne some h = absurd (some refl)
unsealed_at encoded (x ∷ xs) es buf ne some h = h
unsealed_at (sealed s) [] es buf ne some h = absurd (some refl)
unsealed_at (sealed s) (x ∷ xs) es buf ne some h = record { seal = checksum_bytes s (item_batch_bytes (x ∷ xs)); four = checksum_len s (item_batch_bytes (x ∷ xs)); split = h }

-- the item batch begins at its offset
unsealed_parts : (items : List Item) (es buf : List ℕ) (offset : ℕ) → (u : IsUnsealed items es buf) → offset ≡ item_offset es →
    (front : List ℕ) × (length front ≡ offset) × (buf ≡ front ++ (item_batch_bytes items ++ u.seal)) ×
    (unsealed_bytes (encoded_length items es) items es ≡ front ++ item_batch_bytes items)
unsealed_parts items es buf offset u at =
    let header = header_bytes (item_offset es) uncompressed (encoded_length items es) in
    let front : unsealed_bytes (encoded_length items es) items es ≡ (header ++ entry_block es) ++ item_batch_bytes items = sym (append_assoc header (entry_block es) (item_batch_bytes items)) in (
      header ++ entry_block es,
      omega (arith, at, length-append header (entry_block es), header_len (item_offset es) uncompressed (encoded_length items es)),
      u.split ∙ ap (λ (t : List ℕ). t ++ u.seal) front ∙ append_assoc (header ++ entry_block es) (item_batch_bytes items) u.seal,
      front,
    )

pub encoded_at : (items : List Item) (es buf : List ℕ) (offset : ℕ) → IsUnsealed items es buf → offset ≡ item_offset es → IsEncoded items (drop offset buf)
encoded_at items es buf offset u at =
    let p = unsealed_parts items es buf offset u at in
    record { seal = u.seal; four = u.four; split = ap (drop offset) p.2 ∙ drop_at p.0 (item_batch_bytes items ++ u.seal) offset p.1 }

pub offset_within : (items : List Item) (es buf : List ℕ) (offset : ℕ) → IsUnsealed items es buf → offset ≡ item_offset es → offset ≤ length buf
offset_within items es buf offset u at =
    let p = unsealed_parts items es buf offset u at in
    omega (arith, p.1, ap length p.2, length-append p.0 (item_batch_bytes items ++ u.seal))

-- the checksum stands in its place
pub sealed_at : (signature : Option ℕ) (items : List Item) (es buf new : List ℕ) (offset : ℕ) → items ≢ [] → IsUnsealed items es buf →
    offset ≡ item_offset es → new ≡ take offset buf ++ (item_batch_bytes items ++ checksum_bytes signature (item_batch_bytes items)) →
    new ≡ log_batch_bytes signature items es
sealed_at signature [] es buf new offset some u at written = absurd (some refl)
sealed_at signature (x ∷ xs) es buf new offset some u at written =
    let items = x ∷ xs in
    let seal = checksum_bytes signature (item_batch_bytes items) in
    let p = unsealed_parts items es buf offset u at in
    let front : take offset buf ≡ p.0 = ap (take offset) p.2 ∙ take_at p.0 (item_batch_bytes items ++ u.seal) offset p.1 in
    written ∙ ap (λ (t : List ℕ). t ++ (item_batch_bytes items ++ seal)) front ∙ sym (append_assoc p.0 (item_batch_bytes items) seal) ∙ ap (λ (t : List ℕ). t ++ seal) (sym p.3)

pub sealed_entries : (signature : Option ℕ) (items : List Item) (es buf : List ℕ) → items ≢ [] → length es ≡ entry_bytes_of items → buf ≡ log_batch_bytes signature items es → entry_bytes_in items buf ≡ es
sealed_entries signature [] es buf some counted h = absurd (some refl)
sealed_entries signature (x ∷ xs) es buf some counted h =
    entries_behind (encoded_length (x ∷ xs) es) (entry_bytes_of (x ∷ xs)) (x ∷ xs) es (checksum_bytes signature (item_batch_bytes (x ∷ xs))) buf counted h

pub held_sealed : (signature : Option ℕ) (items : List Item) (es buf : List ℕ) → items ≢ [] → length es ≡ entry_bytes_of items → length es < 2 ^ 31 →
    buf ≡ log_batch_bytes signature items es → length buf < 2 ^ 56 → IsHeld (sealed signature) items (entry_bytes_in items buf) buf
held_sealed signature items es buf some counted lt h short =
    let same = sealed_entries signature items es buf some counted h in
    record { whole = ap length same ∙ counted; fits = omega (arith, ap length same, lt); held = h ∙ ap (log_batch_bytes signature items) (sym same); short = short }

-- ---- encoding

pub closed_keeps : (old new : List ℕ) → new ≡ take 16 old ++ entry_block (drop 16 old) → Keeps old new
closed_keeps old new e =
    let begins = block_begins (drop 16 old) in
    record {
      behind = begins.0;
      split = e ∙ ap (λ (t : List ℕ). take 16 old ++ t) begins.1 ∙ sym (append_assoc (take 16 old) (drop 16 old) begins.0) ∙ ap (λ (t : List ℕ). t ++ begins.0) (take-append-drop 16 old);
    }

pub behind_keeps : (old closed new more : List ℕ) → closed ≡ take 16 old ++ entry_block (drop 16 old) → new ≡ closed ++ more → Keeps old new
behind_keeps old closed new more e f =
    let k = closed_keeps old closed e in
    record { behind = k.behind ++ more; split = f ∙ ap (λ (t : List ℕ). t ++ more) k.split ∙ append_assoc old k.behind more }

pub length_is : (items : List Item) (old closed whole : List ℕ) → items ≢ [] → 16 ≤ length old → closed ≡ take 16 old ++ entry_block (drop 16 old) →
    whole ≡ closed ++ (item_batch_bytes items ++ no_checksum) →
    (length closed ≡ item_offset (drop 16 old)) × (length whole ≡ encoded_length items (drop 16 old))
length_is [] old closed whole some room e f = absurd (some refl)
length_is (x ∷ xs) old closed whole some room e f =
    let offset : length closed ≡ item_offset (drop 16 old) = omega (arith, ap length e, length-append (take 16 old) (entry_block (drop 16 old)), length-take-le 16 old room) in
    (offset, omega (arith, offset, ap length f, length-append closed (item_batch_bytes (x ∷ xs) ++ no_checksum), length-append (item_batch_bytes (x ∷ xs)) no_checksum))

pub encoded_unsealed : (items : List Item) (old closed whole new : List ℕ) (offset len : ℕ) → items ≢ [] → 16 ≤ length old →
    closed ≡ take 16 old ++ entry_block (drop 16 old) → whole ≡ closed ++ (item_batch_bytes items ++ no_checksum) → offset ≡ length closed →
    len ≡ length whole → new ≡ header_bytes offset uncompressed len ++ drop 16 whole → IsUnsealed items (drop 16 old) new
encoded_unsealed items old closed whole new offset len some room e f at size written =
    let es = drop 16 old in
    let says = length_is items old closed whole some room e f in
    let header : header_bytes offset uncompressed len ≡ header_bytes (item_offset es) uncompressed
    (encoded_length items es) = ap (λ (o : ℕ). header_bytes o uncompressed len) (at ∙ says.0)
    ∙ ap (header_bytes (item_offset es) uncompressed) (size ∙ says.1) in
    let parts : whole ≡ take 16 old ++ (entry_block es ++ (item_batch_bytes items ++ no_checksum)) = f
    ∙ ap (λ (t : List ℕ). t ++ (item_batch_bytes items ++ no_checksum)) e
    ∙ append_assoc (take 16 old) (entry_block es) (item_batch_bytes items ++ no_checksum) in
    let behind : drop 16 whole ≡ entry_block es ++ (item_batch_bytes items ++ no_checksum) = ap (drop 16) parts ∙ drop_at (take 16 old) (entry_block es ++ (item_batch_bytes items ++ no_checksum)) 16 (length-take-le 16 old room) in
    let front = header_bytes (item_offset es) uncompressed (encoded_length items es) in
    record {
      seal = no_checksum;
      four = refl;
      split = written ∙ ap (λ (t : List ℕ). t ++ drop 16 whole) header
          ∙ ap (λ (t : List ℕ). front ++ t) (behind ∙ sym (append_assoc (entry_block es) (item_batch_bytes items) no_checksum))
          ∙ sym (append_assoc front (entry_block es ++ item_batch_bytes items) no_checksum);
    }

-- an item without entry bytes adds none
pub item_same : (items : List Item) (x : Item) → ((s : ℕ) → behind_item s x ≡ s) → entry_bytes_of (items ++ x ∷ []) ≡ entry_bytes_of items
item_same items x same = end_push 0 items x ∙ same (entry_bytes_of items)
