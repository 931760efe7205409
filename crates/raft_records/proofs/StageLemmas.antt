-- On log batches in their buffers: one, one whose entries get their places, and two.
use Rattle.raft_records.proofs.Common.{◌≡◌, ◌≢◌, ◌⊎◌, inl, inr, ℕ, ◌-◌, ◌^◌, ◌<◌, ◌≤◌, List, [], ◌∷◌, ◌++◌, length, take, drop, Option, Result, Ok, Err, OnOk, OnErr, refl, sym, ap, ◌∙◌, subst, arith, length-append, length-drop, take_at}
use Rattle.raft_records.proofs.Common.{drop_all, take_all, append-nil, nil_from_length, crc32_of, BufState, stage_of, Item, checksum_bytes, item_batch_bytes, entry_bytes_of, IsEncoded, signed_crc, no_checksum, Stage, Batch, is_open}
use Rattle.raft_records.proofs.Common.{encoded, sealed, header_bytes, entry_block, item_offset, unsealed_bytes, encoded_length, log_batch_bytes, approximate_length, entry_bytes_in, IsUnsealed, IsHeldAt, IsShortAt, IsHeld, Keeps}
use Rattle.raft_records.proofs.Common.{behind_item, uncompressed, ◌+◌, map, FileBlockHandle, CompressionType, placed_item, IsSealedStage, entry_place, drop-append-le, raised_item, with_batch}
use Rattle.raft_records.proofs.SealLemmas.{four}
use Rattle.raft_records.proofs.BufferLemmas.{header_len, open_entries, held_open, held_encoded, unsealed_entries, unsealed_at, held_sealed, sealed_entries, item_same, length_is, encoded_unsealed}
use Rattle.raft_records.proofs.BatchLemmas.{batch_placed, end_of_placed}
use Rattle.raft_records.proofs.LayLemmas.{merged_end}
use Rattle.raft_records.specs.declared.log_batch.BufState.TheVariants as states

abbrev pub batch_with : List Item → List ℕ → Stage → Batch
batch_with items entry_bytes stage = record { items = items; entry_bytes = entry_bytes; stage = stage }

pub unsealed_len : {items : List Item} {es buf : List ℕ} → items ≢ [] → IsUnsealed items es buf → length buf ≡ encoded_length items es
unsealed_len {items = []} some u = absurd (some refl)
unsealed_len {items = x ∷ xs} {es = es} {buf = buf} some u =
    let items = x ∷ xs in
    let header = header_bytes (item_offset es) uncompressed (encoded_length items es) in
    omega (
      arith,
      ap length u.split,
      length-append (unsealed_bytes (encoded_length items es) items es) u.seal,
      length-append header (entry_block es ++ item_batch_bytes items),
      length-append (entry_block es) (item_batch_bytes items),
      header_len (item_offset es) uncompressed (encoded_length items es),
      u.four,
    )

-- a batch that is seen at a stage has this stage
pub stage_seen : {now : Batch} {stage : Stage} {items : List Item} {es : List ℕ} → batch_with items es stage ≡ now → stage ≡ now.stage
stage_seen view = ap (λ (b : Batch). b.stage) view

pub open_of : {now : Batch} {stage : Stage} {items : List Item} {es : List ℕ} → batch_with items es stage ≡ now → now.stage ≡ is_open → stage ≡ is_open
open_of view begun = stage_seen view ∙ begun

pub made_of : {now : Batch} {stage : Stage} {items : List Item} {es : List ℕ} → batch_with items es stage ≡ now → now.stage ≢ is_open → stage ≢ is_open
made_of view made e = made (sym (stage_seen view) ∙ e)

pub open_held : {stage : Stage} {items : List Item} {es buf : List ℕ} → stage ≡ is_open → IsHeld stage items es buf → length buf - 16 ≡ entry_bytes_of items
open_held {stage} {items} {es} {buf} e h = subst (λ (s : Stage). IsHeldAt s items es buf) e h.held

-- entry bytes within the limit
within : {stage : Stage} {items : List Item} {es buf : List ℕ} → IsHeld stage items es buf → entry_bytes_of items < 2 ^ 31
within h = omega (arith, h.whole, h.fits)

pub reheld : {stage : Stage} {items : List Item} {old new : List ℕ} → stage ≡ is_open → IsHeld stage items (entry_bytes_in items old) old → drop 16 new ≡ drop 16 old → IsHeld stage items (entry_bytes_in items new) new
reheld {stage} {items} {old} {new} e h same =
    subst (λ (s : Stage). IsHeld s items (entry_bytes_in items new) new) (sym e) (held_open items new (omega (arith, open_held e h, ap length same, length-drop 16 old, length-drop 16 new)) (within h))

pub entries_are : {stage : Stage} {items : List Item} {buf : List ℕ} → stage ≡ is_open → IsHeld stage items (entry_bytes_in items buf) buf → entry_bytes_in items buf ≡ drop 16 buf
entries_are {stage} {items} {buf} e h = open_entries (entry_bytes_of items) buf (open_held e h)

-- what was appended to an open batch, cut off again
pub cut_held : {stage : Stage} {items kept : List Item} {old mid new cut : List ℕ} {n : ℕ} → stage ≡ is_open →
    IsHeld stage items (entry_bytes_in items old) old → drop 16 mid ≡ drop 16 old → Keeps mid new → n ≡ length mid → cut ≡ take n new → kept ≡ items →
    IsHeld stage kept (entry_bytes_in kept cut) cut
cut_held {stage} {items} {kept} {old} {mid} {new} {cut} {n} e h same keeps len is_cut is_kept =
    let back : cut ≡ mid = is_cut ∙ ap (take n) keeps.split ∙ take_at mid keeps.behind n (sym len) in
    subst (λ (xs : List Item). IsHeld stage xs (entry_bytes_in xs cut) cut) (sym is_kept) (reheld e h (ap (drop 16) back ∙ same))

-- the length of a batch, of its buffer with room for a header
pub length_seen : {now : Batch} {stage : Stage} {items : List Item} {old : List ℕ} (mid : List ℕ) → batch_with items (entry_bytes_in items old) stage ≡ now →
    now.stage ≡ is_open → IsHeld stage items (entry_bytes_in items old) old → drop 16 mid ≡ drop 16 old →
    encoded_length items (drop 16 mid) ≡ encoded_length now.items now.entry_bytes
length_seen {now} {stage} {items} {old} mid view begun h same =
    ap (encoded_length items) (same ∙ sym (entries_are (open_of view begun) h)) ∙ ap (λ (b : Batch). encoded_length b.items b.entry_bytes) view

pub populated : {stage : Stage} {items : List Item} {old new : List ℕ} (mid : List ℕ) → stage ≡ is_open → IsHeld stage items (entry_bytes_in items old) old →
    drop 16 mid ≡ drop 16 old → items ≢ [] → IsUnsealed items (drop 16 mid) new → encoded_length items (drop 16 mid) < 2 ^ 56 →
    IsHeld encoded items (entry_bytes_in items new) new × (entry_bytes_in items new ≡ entry_bytes_in items old)
populated {stage} {items} {old} {new} mid e h same some u short =
    let are : drop 16 mid ≡ entry_bytes_in items old = same ∙ sym (entries_are e h) in
    let counted : length (drop 16 mid) ≡ entry_bytes_of items = ap length are ∙ h.whole in
    let len : length new ≡ encoded_length items (drop 16 mid) = unsealed_len some u in
    (held_encoded items (drop 16 mid) new some counted (omega (arith, ap length are, h.fits)) u (omega (arith, len, short)), unsealed_entries items (drop 16 mid) new counted u ∙ are)

-- one more item, which has no entry bytes, or none where there was no memory
item_kept : {E : Type 0} (r : Result (Unit {0}) E) (items new : List Item) (x : Item) → ((s : ℕ) → behind_item s x ≡ s) → OnOk r (new ≡ items ++ x ∷ []) → OnErr r (new ≡ items) → entry_bytes_of new ≡ entry_bytes_of items
item_kept (Ok u) items new x same ok err = ap entry_bytes_of ok ∙ item_same items x same
item_kept (Err e) items new x same ok err = ap entry_bytes_of err

pub item_held : {E : Type 0} {now : Batch} {stage : Stage} {items new : List Item} {buf : List ℕ} (r : Result (Unit {0}) E) (x : Item) →
    ((s : ℕ) → behind_item s x ≡ s) → batch_with items (entry_bytes_in items buf) stage ≡ now → now.stage ≡ is_open →
    IsHeld stage items (entry_bytes_in items buf) buf → OnOk r (new ≡ items ++ x ∷ []) → OnErr r (new ≡ items) →
    IsHeld stage new (entry_bytes_in new buf) buf
item_held {E} {now} {stage} {items} {new} {buf} r x same view begun h ok err =
    let e = open_of view begun in
    let kept = item_kept r items new x same ok err in
    subst (λ (s : Stage). IsHeld s new (entry_bytes_in new buf) buf) (sym e) (held_open new buf (open_held e h ∙ sym kept) (omega (arith, kept, within h)))

pub item_view : {E : Type 0} {now : Batch} {stage : Stage} {items : List Item} (new : List Item) (buf : List ℕ) (r : Result (Unit {0}) E) (x : Item) →
    ((s : ℕ) → behind_item s x ≡ s) → batch_with items (entry_bytes_in items buf) stage ≡ now → OnOk r (new ≡ items ++ x ∷ []) →
    OnOk r (batch_with new (entry_bytes_in new buf) stage ≡ batch_with (now.items ++ x ∷ []) now.entry_bytes now.stage)
item_view {E} {now} {stage} {items} new buf (Ok u) x same view ok =
    ap (λ (xs : List Item). batch_with xs (entry_bytes_in xs buf) stage) ok
    ∙ ap (λ (n : ℕ). batch_with (items ++ x ∷ []) (take n (drop 16 buf)) stage) (item_same items x same)
    ∙ ap (λ (b : Batch). batch_with (b.items ++ x ∷ []) b.entry_bytes b.stage) view
item_view new buf (Err e) x same view ok = tt

-- the bytes that a slice of a vector holds after a write are the vector's
pub written_back : (n : ℕ) (new old : List ℕ) → length old ≡ n → length new ≡ length old → take n (new ++ drop (length new) old) ≡ new
written_back n new old counted same = take_at new (drop (length new) old) n (same ∙ counted)

pub encoded_whole : (items : List Item) (old closed whole slice new : List ℕ) (offset len n : ℕ) → items ≢ [] → 16 ≤ length old →
    closed ≡ take 16 old ++ entry_block (drop 16 old) → whole ≡ closed ++ (item_batch_bytes items ++ no_checksum) → offset ≡ length closed →
    len ≡ length whole → slice ≡ whole → length whole ≡ n → new ≡ header_bytes offset uncompressed len ++ drop 16 slice →
    IsUnsealed items (drop 16 old) (take n (new ++ drop (length new) whole))
encoded_whole items old closed whole slice new offset len n some room e f at size is counted written =
    let says = length_is items old closed whole some room e f in
    let wide : 16 ≤ length whole = omega (arith, says.0, ap length f, length-append closed (item_batch_bytes items ++ no_checksum)) in
    let placed : new ≡ header_bytes offset uncompressed len ++ drop 16 whole = written ∙ ap (λ (t : List ℕ). header_bytes offset uncompressed len ++ drop 16 t) is in
    let same : length new ≡ length whole = omega (arith, wide, ap length placed, length-append (header_bytes offset uncompressed len) (drop 16 whole), header_len offset uncompressed len, length-drop 16 whole) in
    subst (λ (t : List ℕ). IsUnsealed items (drop 16 old) t) (sym (written_back n new whole counted same)) (encoded_unsealed items old closed whole new offset len some room e f at size placed)

-- ---- signing

pub held_unsigned : {stage : Stage} {items : List Item} {es buf : List ℕ} → stage ≢ is_open → IsHeld stage items es buf → IsHeld encoded items es buf
held_unsigned {stage = is_open} ne h = absurd (ne refl)
held_unsigned {stage = encoded} ne h = h
held_unsigned {stage = sealed s} {items = []} ne h = record { whole = h.whole; fits = h.fits; held = h.held; short = h.short }
held_unsigned {stage = sealed s} {items = x ∷ xs} ne h =
    record { whole = h.whole; fits = h.fits; held = record { seal = checksum_bytes s (item_batch_bytes (x ∷ xs)); four = four (signed_crc s (crc32_of (item_batch_bytes (x ∷ xs)))); split = h.held }; short = h.short }

sealed_held : (signature : Option ℕ) (items : List Item) (es buf : List ℕ) → length es ≡ entry_bytes_of items → length es < 2 ^ 31 →
    buf ≡ log_batch_bytes signature items es → length buf < 2 ^ 56 → IsHeld (sealed signature) items (entry_bytes_in items buf) buf ×
    (entry_bytes_in items buf ≡ es)
sealed_held signature [] es buf counted lt h short =
    (record { whole = refl; fits = omega arith; held = h; short = short }, sym (nil_from_length es counted))
sealed_held signature (x ∷ xs) es buf counted lt h short =
    let some : (x ∷ xs) ≢ [] = λ e. absurd cc in
    (held_sealed signature (x ∷ xs) es buf some counted lt h short, sealed_entries signature (x ∷ xs) es buf some counted h)

-- a batch that has no bytes is signed as it is
pub nothing_sealed : (signature : Option ℕ) (items : List Item) (es buf : List ℕ) → IsHeld encoded items es buf → length buf ≡ 0 → buf ≡ log_batch_bytes signature items es
nothing_sealed signature [] es buf h none = h.held
nothing_sealed signature (x ∷ xs) es buf h none =
    absurd (omega (arith, none, unsealed_len {items = x ∷ xs} (λ e. absurd cc) h.held))

pub unsealed_of : (items : List Item) (es buf : List ℕ) → IsHeld encoded items es buf → length buf ≢ 0 → (items ≢ []) × IsUnsealed items es buf
unsealed_of [] es buf h ne = absurd (ne (ap length h.held))
unsealed_of (x ∷ xs) es buf h ne = (λ e. absurd cc, h.held)

-- the part that a slice holds up to its end
pub to_the_end : (items : List Item) (offset k : ℕ) (buf : List ℕ) → k ≡ length buf - offset → IsEncoded items (drop offset buf) → IsEncoded items (take k (drop offset buf))
to_the_end items offset k buf e h =
    subst (λ (t : List ℕ). IsEncoded items t) (sym (take_all k (drop offset buf) (omega (arith, e, length-drop offset buf)))) h

pub part_written : (offset k : ℕ) (old new : List ℕ) → k ≡ length old - offset → take offset old ++ (new ++ drop k (drop offset old)) ≡ take offset old ++ new
part_written offset k old new e =
    ap (λ (t : List ℕ). take offset old ++ (new ++ t)) (drop_all k (drop offset old) (omega (arith, e, length-drop offset old))) ∙ ap (λ (t : List ℕ). take offset old ++ t) (append-nil new)

pub sealed_len : (signature : Option ℕ) (items : List Item) (es buf new : List ℕ) → items ≢ [] → IsUnsealed items es buf → new ≡ log_batch_bytes signature items es → length new ≡ length buf
sealed_len signature [] es buf new some u e = absurd (some refl)
sealed_len signature (x ∷ xs) es buf new some u e =
    let items = x ∷ xs in
    let front = unsealed_bytes (encoded_length items es) items es in
    let seal = checksum_bytes signature (item_batch_bytes items) in
    omega (arith, ap length e, length-append front seal, four (signed_crc signature (crc32_of (item_batch_bytes items))), ap length u.split, length-append front u.seal, u.four)

-- the signed bytes are as many as the unsigned ones
sealed_short : (signature : Option ℕ) (items : List Item) (es buf new : List ℕ) → IsHeld encoded items es buf → new ≡ log_batch_bytes signature items es → length new < 2 ^ 56
sealed_short signature [] es buf new h e = omega (arith, ap length e)
sealed_short signature (x ∷ xs) es buf new h e =
    let short : length buf < 2 ^ 56 = h.short in
    omega (arith, short, sealed_len signature (x ∷ xs) es buf new (λ e. absurd cc) h.held e)

pub signed_held : {stage : Stage} {items : List Item} {buf new : List ℕ} (signature : Option ℕ) → stage ≢ is_open →
    IsHeld stage items (entry_bytes_in items buf) buf → new ≡ log_batch_bytes signature items (entry_bytes_in items buf) →
    IsHeld (sealed signature) items (entry_bytes_in items new) new × (entry_bytes_in items new ≡ entry_bytes_in items buf)
signed_held {stage} {items} {buf} {new} signature ne h is =
    let es = entry_bytes_in items buf in
    sealed_held signature items es new h.whole h.fits is (sealed_short signature items es buf new (held_unsigned ne h) is)

-- ---- approximate sizes

approximated : (stage : Stage) (items : List Item) (es : List ℕ) → stage ≢ is_open → approximate_length stage items es ≡ encoded_length items es
approximated is_open items es ne = absurd (ne refl)
approximated encoded [] es ne = refl
approximated encoded (x ∷ xs) es ne = refl
approximated (sealed s) [] es ne = refl
approximated (sealed s) (x ∷ xs) es ne = refl

pub not_open : (state : BufState) → (state ≡ states.Encoded) ⊎ ((s : Option ℕ) × (state ≡ states.Sealed s)) → stage_of state ≢ is_open
not_open states.Open (inl e) p = absurd cc
not_open states.Open (inr e) p = let is = e.1 in absurd cc
not_open states.Encoded e p = absurd cc
not_open (states.Sealed s) e p = absurd cc

-- a batch with items, whose bytes are made, has as many bytes as its length says
pub encoded_length_at : {now : Batch} {stage : Stage} {items : List Item} {es buf : List ℕ} → batch_with items es stage ≡ now → stage ≢ is_open →
    items ≢ [] → IsHeld stage items es buf → length buf ≡ encoded_length now.items now.entry_bytes
encoded_length_at {now} {stage} {items} {es} {buf} view ne some h =
    unsealed_len some (unsealed_at stage items es buf ne some h.held) ∙ ap (λ (b : Batch). encoded_length b.items b.entry_bytes) view

pub length_at : {now : Batch} {stage : Stage} {items : List Item} {es buf : List ℕ} → batch_with items es stage ≡ now → stage ≢ is_open → items ≢ [] →
    IsHeld stage items es buf → length buf ≡ approximate_length now.stage now.items now.entry_bytes
length_at {now} {stage} {items} {es} {buf} view ne some h =
    unsealed_len some (unsealed_at stage items es buf ne some h.held) ∙ sym (approximated stage items es ne) ∙ ap (λ (b : Batch). approximate_length b.stage b.items b.entry_bytes) view

-- once the bytes of a batch are made, they are below the limit
pub encoded_short : {now : Batch} {stage : Stage} {items : List Item} {es buf : List ℕ} → batch_with items es stage ≡ now → IsHeld stage items es buf →
    now.stage ≢ is_open → encoded_length now.items now.entry_bytes < 2 ^ 56
encoded_short {now} {stage} {items} {es} {buf} view h ne = subst (λ (b : Batch). encoded_length b.items b.entry_bytes < 2 ^ 56) view (at items h)
  where
    few : (s : Stage) → s ≢ is_open → IsShortAt s buf → length buf < 2 ^ 56
    few is_open n short = absurd (n refl)
    few encoded n short = short
    few (sealed signature) n short = short

    at : (xs : List Item) → IsHeld stage xs es buf → encoded_length xs es < 2 ^ 56
    at [] k = omega arith
    at (x ∷ xs) k =
        let some : (x ∷ xs) ≢ [] = λ e. absurd cc in
        let made = made_of view ne in
        omega (arith, few stage made k.short, unsealed_len some (unsealed_at stage (x ∷ xs) es buf made some k.held))

-- places are not in the bytes
pub log_bytes_placed : (handle : FileBlockHandle) (c : CompressionType) (signature : Option ℕ) (items : List Item) (es : List ℕ) → log_batch_bytes signature (map (placed_item handle c) items) es ≡ log_batch_bytes signature items es
log_bytes_placed handle c signature [] es = refl
log_bytes_placed handle c signature (x ∷ xs) es =
    ap (λ (b : List ℕ). (header_bytes (item_offset es) uncompressed (item_offset es + length b + 4) ++ (entry_block es ++ b)) ++ checksum_bytes signature b) (batch_placed handle c (x ∷ xs))

pub entries_placed : (handle : FileBlockHandle) (c : CompressionType) (items : List Item) (buf : List ℕ) → entry_bytes_in (map (placed_item handle c) items) buf ≡ entry_bytes_in items buf
entries_placed handle c items buf = ap (λ (n : ℕ). take n (drop 16 buf)) (end_of_placed handle c 0 items)

pub placed_held : (handle : FileBlockHandle) (c : CompressionType) (stage : Stage) (items : List Item) (buf : List ℕ) → IsSealedStage stage →
    IsHeld stage items (entry_bytes_in items buf) buf →
    IsHeld stage (map (placed_item handle c) items) (entry_bytes_in (map (placed_item handle c) items) buf) buf
placed_held handle c is_open items buf s h = absurd s
placed_held handle c encoded items buf s h = absurd s
placed_held handle c (sealed signature) items buf s h =
    let same = entries_placed handle c items buf in
    record {
      whole = ap length same ∙ h.whole ∙ sym (end_of_placed handle c 0 items);
      fits = omega (arith, ap length same, h.fits);
      short = h.short;
      held = h.held ∙ sym (log_bytes_placed handle c signature items (entry_bytes_in items buf)) ∙ ap (log_batch_bytes signature (map (placed_item handle c) items)) (sym same);
    }

pub placed_view : (handle : FileBlockHandle) (c : CompressionType) (now : Batch) (stage : Stage) (items new : List Item) (buf : List ℕ) →
    batch_with items (entry_bytes_in items buf) stage ≡ now → new ≡ map (placed_item handle c) items →
    batch_with new (entry_bytes_in new buf) stage ≡ batch_with (map (placed_item handle c) now.items) now.entry_bytes now.stage
placed_view handle c now stage items new buf view places =
    ap (λ (xs : List Item). batch_with xs (entry_bytes_in xs buf) stage) places
    ∙ ap (λ (t : List ℕ). batch_with (map (placed_item handle c) items) t stage) (entries_placed handle c items buf)
    ∙ ap (λ (b : Batch). batch_with (map (placed_item handle c) b.items) b.entry_bytes b.stage) view

-- where the entry block stands
pub place_is : (handle : FileBlockHandle) (now : Batch) (stage : Stage) (items : List Item) (es : List ℕ) (size offset : ℕ) →
    batch_with items es stage ≡ now → length es ≡ entry_bytes_of items → size ≡ entry_bytes_of items →
    ((bytes : List ℕ) → length bytes ≡ size → offset ≡ item_offset bytes) →
    record { id = handle.id; offset = handle.offset + 16; len = offset - 16 } ≡ entry_place handle now.entry_bytes
place_is handle now stage items es size offset view whole counted behind =
    let at : offset ≡ item_offset es = behind es (whole ∙ sym counted) in
    let len : offset - 16 ≡ length (entry_block es) = omega (arith, at) in
    ap (λ (n : ℕ). record { id = handle.id; offset = handle.offset + 16; len = n }) len ∙ ap (λ (b : Batch). entry_place handle b.entry_bytes) view

-- ---- bytes behind a header

pub appended : (old new others : List ℕ) → 16 < length old → new ≡ old ++ drop 16 others → drop 16 new ≡ drop 16 old ++ drop 16 others
appended old new others lt e = ap (drop 16) e ∙ drop-append-le 16 old (drop 16 others) (omega arith)

pub taken_over : (old new others : List ℕ) → length old ≤ 16 → new ≡ others → drop 16 new ≡ drop 16 old ++ drop 16 others
taken_over old new others le e = ap (drop 16) e ∙ sym (ap (λ (t : List ℕ). t ++ drop 16 others) (drop_all 16 old le))

-- ---- two batches

-- the items and the entry bytes of both
pub joined_held : {stage stage' : Stage} {own others items : List Item} {buf rest new : List ℕ} → stage ≡ is_open → stage' ≡ is_open →
    IsHeld stage own (entry_bytes_in own buf) buf → IsHeld stage' others (entry_bytes_in others rest) rest →
    entry_bytes_of own + entry_bytes_of others < 2 ^ 31 → items ≡ own ++ map (raised_item (entry_bytes_of own)) others →
    drop 16 new ≡ drop 16 buf ++ drop 16 rest →
    IsHeld stage items (entry_bytes_in items new) new × (entry_bytes_in items new ≡ entry_bytes_in own buf ++ entry_bytes_in others rest)
joined_held {stage} {stage'} {own} {others} {items} {buf} {rest} {new} e e' h h' lt joins bytes =
    let parts = length-append (drop 16 buf) (drop 16 rest) in
    let ends = merged_end own others in
    let len : length new - 16 ≡ entry_bytes_of items = omega (arith, open_held e h, open_held e' h', ap length bytes, parts, length-drop 16 buf, length-drop 16 rest, length-drop 16 new, ends, ap entry_bytes_of joins) in
    let whole : drop 16 buf ++ drop 16 rest ≡ entry_bytes_in own buf ++ entry_bytes_in others rest = ap (λ (t : List ℕ). t ++ drop 16 rest)
    (sym (entries_are e h)) ∙ ap (λ (t : List ℕ). entry_bytes_in own buf ++ t) (sym (entries_are e' h')) in (
      subst (λ (s : Stage). IsHeld s items (entry_bytes_in items new) new) (sym e) (held_open items new len (omega (arith, ap entry_bytes_of joins, merged_end own others, lt))),
      open_entries (entry_bytes_of items) new len ∙ bytes ∙ whole,
    )

-- their value
pub joined_view : {now more : Batch} {stage stage' : Stage} {own others items : List Item} {es es' new : List ℕ} → batch_with own es stage ≡ now →
    batch_with others es' stage' ≡ more → length es ≡ entry_bytes_of own → items ≡ own ++ map (raised_item (entry_bytes_of own)) others →
    new ≡ es ++ es' → batch_with items new stage ≡ with_batch now more
joined_view {now} {more} {stage} {stage'} {own} {others} {items} {es} {es'} {new} view view' whole joins bytes =
    ap (λ (xs : List Item). batch_with xs new stage) joins
    ∙ ap (λ (n : ℕ). batch_with (own ++ map (raised_item n) others) new stage) (sym whole)
    ∙ ap (λ (t : List ℕ). batch_with (own ++ map (raised_item (length es)) others) t stage) bytes
    ∙ ap (λ (b : Batch). with_batch b (batch_with others es' stage')) view
    ∙ ap (with_batch now) view'
