-- What is written is a spelling.
use Rattle.raft_records.proofs.Common.{◌≡◌, ℕ, ◌+◌, ◌-◌, ◌^◌, ◌<◌, List, [], ◌∷◌, ◌++◌, map, length, Option, Some, None, refl, sym, ap, subst, arith, flat_map, append-nil, length-map, IsFollowedBy, IsSequence, IsVarint, varint}
use Rattle.raft_records.proofs.Common.{varint_spells, EntryIndex, IsConsecutive, IsConsecutiveFrom, from_first, Command, OpType, Item, Content, entries, command, pair, bare_entry, bare_content, bare, written_value, Tile, op_type_byte}
use Rattle.raft_records.proofs.Common.{IsCommand, IsByteString, IsPairOf, tail_of, IsTail, AreIndexAndTails, IsEntries, IsContent, IsItem, end_behind, command_bytes, byte_string, value_bytes, pair_bytes, tails_bytes, run_bytes}
use Rattle.raft_records.proofs.Common.{entries_bytes, content_bytes, item_bytes, IsWritableWith, FitsBehind, FitTogether, AreItems, IsItemBatch, item_batch_bytes, checksum_bytes, HasIndex, HasLength, IsContentInRange, IsInRange, AreInRange}
use Rattle.raft_records.proofs.Common.{Clean, Compact, Truncate, Put, Del, behind_entry, behind_item}

pub command_spelled : (c : Command) → HasIndex c → IsCommand (command_bytes c) c
command_spelled Clean h = refl
command_spelled (Compact index) h = (varint index, refl, varint_spells index h)
command_spelled (Truncate index) h = (varint index, refl, varint_spells index h)

text_spelled : (text : List ℕ) → length text < 2 ^ 64 → IsByteString (byte_string text) text
text_spelled text lt = record { first = varint (length text); second = text; first_spells = varint_spells (length text) lt; second_spells = (refl, refl); split = refl }

pub pair_spelled : (o : OpType) (key : List ℕ) (v : Option (List ℕ)) → IsWritableWith o v → length key < 2 ^ 64 → HasLength v → IsPairOf o (written_value o v) None key (op_type_byte o ∷ byte_string key ++ value_bytes o v)
pair_spelled Put key (Some value) w k l =
    (byte_string key ++ byte_string value, refl, record { first = byte_string key; second = byte_string value; first_spells = text_spelled key k; second_spells = text_spelled value l; split = refl })
pair_spelled Put key None w k l = absurd w
pair_spelled Del key v w k l = (byte_string key, ap (λ (t : List ℕ). 2 ∷ t) (append-nil (byte_string key)), text_spelled key k)

tails_spelled : (i s : ℕ) (es : List EntryIndex) → IsConsecutiveFrom i es → Tile s es → IsSequence behind_entry IsTail (i, s) (tails_bytes es) (map bare_entry es)
tails_spelled i s [] h t = refl
tails_spelled i s (e ∷ es) h t =
    let begins : e.entry_offset ≡ s = t.0 in
    let fits : s + e.entry_len < 2 ^ 32 = t.1 in
    let tail_fits : tail_of e < 2 ^ 32 = omega arith in
    let ends : s + e.entry_len ≡ tail_of e = omega arith in
    let index : e.index ≡ i = h.0 in
    let index_fits : i < 2 ^ 64 - 1 = h.1 in
    record {
      first = varint (tail_of e);
      second = tails_bytes es;
      first_spells = record { tail = varint_spells (tail_of e) (omega arith); index = index; offset = begins; index_fits = omega arith; tail_fits = tail_fits; bare = refl };
      second_spells = tails_spelled (i + 1) (tail_of e) es h.2 (subst (λ (o : ℕ). Tile o es) ends t.2);
      split = refl;
    }

run_spelled : (s : ℕ) (es : List EntryIndex) → IsConsecutive es → Tile s es → AreIndexAndTails s (length es) (run_bytes es) (map bare_entry es)
run_spelled s [] h t = (refl, refl)
run_spelled s (e ∷ es) h t =
    let rising = from_first e es h in
    let index_fits : e.index < 2 ^ 64 - 1 = rising.1 in
    record {
      first = varint e.index;
      second = tails_bytes (e ∷ es);
      first_spells = varint_spells e.index (omega arith);
      second_spells = record { tails = tails_spelled e.index s (e ∷ es) rising t; count = length-map (e ∷ es) bare_entry };
      split = refl;
    }

pub entries_spelled : (s : ℕ) (es : List EntryIndex) → length es < 2 ^ 64 → IsConsecutive es → Tile s es → IsEntries s (entries_bytes es) (map bare_entry es)
entries_spelled s es lt h t =
    let counted : IsFollowedBy IsVarint (AreIndexAndTails s) (entries_bytes es) (length es)
    (map bare_entry es) = record {
      first = varint (length es);
      second = run_bytes es;
      first_spells = varint_spells (length es) lt;
      second_spells = run_spelled s es h t;
      split = refl;
    } in
    subst (λ (n : ℕ). IsFollowedBy IsVarint (AreIndexAndTails s) (entries_bytes es) n (map bare_entry es)) (sym (length-map es bare_entry)) counted

content_spelled : (s : ℕ) (c : Content) → FitsBehind s c → IsContentInRange c → IsContent s (content_bytes c) (bare_content c)
content_spelled s (entries es) f r = (entries_bytes es, refl, entries_spelled s es r f.0 f.1)
content_spelled s (command c) f r = (command_bytes c, refl, command_spelled c r)
content_spelled s (pair p) f r = (pair_bytes p, refl, pair_spelled p.op_type p.key p.value f r.0 r.1)

pub item_spelled : (s : ℕ) (item : Item) → FitsBehind s item.content → IsInRange item → IsItem s (item_bytes item) (bare item)
item_spelled s item f r =
    record { first = varint item.raft_group_id; second = content_bytes item.content; first_spells = varint_spells item.raft_group_id r.0; second_spells = content_spelled s item.content f r.1; split = refl }

end_bare : (s : ℕ) (es : List EntryIndex) → end_behind s (map bare_entry es) ≡ end_behind s es
end_bare s [] = refl
end_bare s (e ∷ es) = end_bare (tail_of e) es

behind_bare : (s : ℕ) (c : Content) → behind_item s (bare (record { raft_group_id = 0; content = c })) ≡ behind_item s (record { raft_group_id = 0; content = c })
behind_bare s (entries es) = end_bare s es
behind_bare s (command c) = refl
behind_bare s (pair p) = refl

items_spelled : (s : ℕ) (items : List Item) → FitTogether s items → AreInRange items → IsSequence behind_item IsItem s (flat_map item_bytes items) (map bare items)
items_spelled s [] f r = refl
items_spelled s (x ∷ xs) f r =
    record {
      first = item_bytes x;
      second = flat_map item_bytes xs;
      first_spells = item_spelled s x f.0 r.0;
      second_spells = subst (λ (o : ℕ). IsSequence behind_item IsItem o (flat_map item_bytes xs) (map bare xs)) (sym (behind_bare s x.content)) (items_spelled (behind_item s x) xs f.1 r.1);
      split = refl;
    }

pub batch_spelled : (signature : Option ℕ) (items : List Item) → FitTogether 0 items → AreInRange items → length items < 2 ^ 64 →
    IsItemBatch (item_batch_bytes items ++ checksum_bytes signature (item_batch_bytes items)) signature (map bare items) []
unfolding item_batch_bytes
batch_spelled signature items f r lt =
    let counted : IsFollowedBy IsVarint AreItems (item_batch_bytes items) (length items)
    (map bare items) = record {
      first = varint (length items);
      second = flat_map item_bytes items;
      first_spells = varint_spells
          (length items) lt;
      second_spells = record { spelled = items_spelled 0 items f r; count = length-map items bare };
      split = refl;
    } in
    record {
      front = item_batch_bytes items;
      counted = subst (λ (n : ℕ). IsFollowedBy IsVarint AreItems (item_batch_bytes items) n (map bare items)) (sym (length-map items bare)) counted;
      split = ap (λ (t : List ℕ). t ++ checksum_bytes signature t) (sym (append-nil (item_batch_bytes items)));
    }
