-- A batch names no more records than it has bytes.
use Rattle.raft_replay.proofs.Common.{◌≡◌, ℕ, ◌+◌, ◌-◌, ◌<◌, ◌≤◌, ◌^◌, Bool, true, false, if◌then◌else◌, List, [], ◌∷◌, ◌++◌, Vec, length, map, drop, Option, Some, None, option_map, refl, ap, ◌∙◌, arith, length-append, length-drop}
use Rattle.raft_replay.proofs.Common.{length-map, Global, cons_option, flat_map, IsSequence, signature_in, IsVarint, CompressionType, EntryIndex, FileBlockHandle, FileId, OpType, Part, IsBatchAt, IsFramedAt, framed_at, IsTail}
use Rattle.raft_replay.proofs.Common.{AreIndexAndTails, IsContent, IsItem, tail_of, end_of_content, is_reserved, Item, Content, entries, command, pair, placed_item, placed_content, checksum_bytes, Event, IsSmall, records_in, RegionStep}
use Rattle.raft_replay.proofs.Common.{content_step, pair_step, steps_of_items, Step, size-append, records-append, records_in_history, HoldsFrom, EachHolds, SegmentsHold, bytes_of_parts, bytes_of_segments}
use Rattle.raft_records.specs.declared.command.Command.TheVariants as commands
use Rattle.raft_records.specs.declared.key_value.OpType.TheVariants as operations
use Rattle.raft_replay.proofs.Words.{PartHolds, PartsHold, SegmentReads}

-- how many entries and key values a content names
abbrev records_named : Content → ℕ
records_named (entries es) = length es
records_named (command c) = 0
records_named (pair p) = 1

varint_some : (bytes : List ℕ) (n : ℕ) → IsVarint bytes n → 1 ≤ length bytes
varint_some [] n h = absurd h.continued
varint_some (b ∷ bs) n h = omega arith

-- where each spelling has a byte, there are no more of them than bytes
sequence_few : {S X : Type 0} (next : S → X → S) (P : S → List ℕ → X → Type 0) → ((s : S) (bytes : List ℕ) (x : X) → P s bytes x → 1 ≤ length bytes) → (state : S) (bytes : List ℕ) (xs : List X)
    → IsSequence next P state bytes xs → length xs ≤ length bytes
sequence_few next P some state bytes [] h = omega arith
sequence_few next P some state bytes (x ∷ xs) h =
    let a = some state h.first x h.first_spells in
    let b = sequence_few next P some (next state x) h.second xs h.second_spells in
    omega (arith, a, b, ap length h.split, length-append h.first h.second)

run_few : (s n : ℕ) (bytes : List ℕ) (es : List EntryIndex) → AreIndexAndTails s n bytes es → length es ≤ length bytes
run_few s n bytes [] h = omega arith
run_few s n bytes (e ∷ es) h =
    let b = sequence_few (λ (at : ℕ × ℕ) e. (at.0 + 1, tail_of e)) IsTail (λ at bytes e t. varint_some bytes (tail_of e) t.tail) (e.index, s) h.second (e ∷ es) h.second_spells.tails in
    omega (arith, b, ap length h.split, length-append h.first h.second)

content_few : (s : ℕ) (bytes : List ℕ) (content : Content) → IsContent s bytes content → records_named content ≤ length bytes
content_few s bytes (entries es) h =
    let f = h.2 in
    let b = run_few s (length es) f.second es f.second_spells in
    omega (arith, b, ap length h.1, ap length f.split, length-append f.first f.second)
content_few s bytes (command c) h = omega arith
content_few s bytes (pair p) h = omega (arith, ap length h.1)

-- how many records items name
named : List Item → ℕ
named [] = 0
named (item ∷ items) = records_named item.content + named items

items_few : (s : ℕ) (bytes : List ℕ) (items : List Item) → IsSequence (λ s (item : Item). end_of_content s item.content) IsItem s bytes items → named items ≤ length bytes
unfolding named
items_few s bytes [] h = omega arith
items_few s bytes (item ∷ items) h =
    let i = h.first_spells in
    let a = content_few s i.second item.content i.second_spells in
    let b = items_few (end_of_content s item.content) h.second items h.second_spells in
    omega (arith, a, b, ap length h.split, length-append h.first h.second, ap length i.split, length-append i.first i.second)

placed_named : (place : FileBlockHandle) (compression : CompressionType) (items : List Item) → named (map (placed_item place compression) items) ≡ named items
unfolding named
placed_named place compression [] = refl
placed_named place compression (item ∷ items) = go item.content (placed_named place compression items)
  where
    go : (content : Content) → named (map (placed_item place compression) items) ≡ named items →
        records_named (placed_content place compression content) + named (map (placed_item place compression) items) ≡ records_named content + named
        items
    go (entries es) h = let l = length-map es (λ (e : EntryIndex). record e { entries = Some place; compression_type = compression }) in omega (arith, l, h)
    go (command c) h = omega (arith, h)
    go (pair p) h = omega (arith, h)

-- a step, if there is one, in front of others
abbrev with_step : ℕ → Option Step → List RegionStep → List RegionStep
with_step region o steps = cons_option (option_map (λ s. record { region = region; step = s }) o) steps

-- one step names no more than its content
pair_few : (region : ℕ) (op : OpType) (key : List ℕ) (value : Option (List ℕ)) (file : Option FileId) (rest : List RegionStep) → records_in (with_step region (pair_step op key value file) rest) ≤ 1 + records_in rest
pair_few region operations.Put key (Some value) (Some file) rest = omega arith
pair_few region operations.Put key (Some value) None rest = omega arith
pair_few region operations.Put key None file rest = omega arith
pair_few region operations.Del key value file rest = omega arith

step_few : (region : ℕ) (content : Content) (rest : List RegionStep) → records_in (with_step region (content_step content) rest) ≤ records_named content + records_in rest
step_few region (entries es) rest = omega arith
step_few region (command commands.Clean) rest = omega arith
step_few region (command (commands.Compact i)) rest = omega arith
step_few region (command (commands.Truncate i)) rest = omega arith
step_few region (pair p) rest = go (is_reserved p.key)
  where
    go : (b : Bool) → records_in (with_step region (if b then None else pair_step p.op_type p.key p.value p.file_id) rest) ≤ 1 + records_in rest
    go true = omega arith
    go false = pair_few region p.op_type p.key p.value p.file_id rest

steps_few : (items : List Item) → records_in (steps_of_items items) ≤ named items
unfolding named
steps_few [] = omega arith
steps_few (item ∷ items) = let a = step_few item.raft_group_id item.content (steps_of_items items) in let b = steps_few items in omega (arith, a, b)

-- a batch that stands in a part
batch_few : (part : Part) (at next : ℕ) (items : List Item) → IsBatchAt part at items next → at + records_in (steps_of_items items) ≤ next
batch_few part at next items stands =
    let b : IsFramedAt part at items next = framed_at stands in
    let i = b.frame.item_batch in
    let c = i.counted in
    let few = items_few 0 c.second b.read c.second_spells.spelled in
    let seal = checksum_bytes (signature_in part.version part.id.seq) (i.front ++ b.frame.rest) in
    let front : length c.second ≤ length i.front = omega (arith, ap length c.split, length-append c.first c.second) in
    let behind : length i.front ≤ length (drop b.offset b.bytes) =
    omega (arith, ap length i.split, length-append (i.front ++ b.frame.rest) seal, length-append i.front b.frame.rest) in
    let cut = length-drop b.offset b.bytes in
    let same : named items ≡ named b.read = ap named b.places ∙ placed_named (record { id = part.id; offset = part.offset + at + 16; len = b.offset - 16 }) b.frame.compression b.read in
    let steps = steps_few items in
    let ends = b.ends in
    omega (arith, few, front, behind, cut, same, steps, ends)

pub part_few : (part : Part) (at : ℕ) (h : List Event) → HoldsFrom part at h → at + records_in_history h ≤ length part.bytes
part_few part at [] h = omega (arith, h)
part_few part at (e ∷ h) held =
    let a = batch_few part at held.1.0 e.items held.1.1 in
    let b = part_few part held.1.0 h held.1.2 in
    let s = records-append (steps_of_items e.items) (flat_map (λ (e : Event). steps_of_items e.items) h) in
    omega (arith, a, b, s)

-- what of each is no more than its size is no more than all sizes together
pub each_few : {A : Type 0} (Holds : A → List Event → Type 0) (size : A → ℕ) (total : List A → ℕ) → ((x : A) (xs : List A) → total (x ∷ xs) ≡ size x + total xs)
    → ((x : A) (h : List Event) → Holds x h → records_in_history h ≤ size x) → (xs : List A) (h : List Event) → EachHolds Holds xs h → records_in_history h ≤ total xs
each_few Holds size total sum few [] h held = let n : records_in_history h ≡ 0 = ap records_in_history held in omega (arith, n)
each_few Holds size total sum few (x ∷ xs) h held =
    let a = few x held.first held.first_held in
    let b = each_few Holds size total sum few xs held.rest held.rest_held in
    let s = ap records_in_history held.split ∙ size-append held.first held.rest in
    omega (arith, a, b, s, sum x xs)

parts_few : (parts : List Part) (h : List Event) → PartsHold parts h → records_in_history h ≤ bytes_of_parts parts
parts_few = each_few PartHolds (λ part. length part.bytes) bytes_of_parts (λ part parts. refl) (λ part h held. let a = part_few part 0 h held in omega (arith, a))

segments_few : (segments : List (Vec Part Global)) (h : List Event) → SegmentsHold segments h → records_in_history h ≤ bytes_of_segments segments
segments_few = each_few SegmentReads (λ segment. bytes_of_parts segment.items) bytes_of_segments (λ segment segments. refl) (λ segment. parts_few segment.items)

pub small_segments : (segments : List (Vec Part Global)) (h : List Event) → SegmentsHold segments h → bytes_of_segments segments < 2 ^ 63 → IsSmall h
small_segments segments h held few = let a = segments_few segments h held in record { few = omega (arith, a, few) }
