-- On clones of items: a clone is seen as what it was made of.
use Rattle.raft_records.proofs.Common.{◌≡◌, ℕ, List, [], ◌∷◌, map, Option, Some, None, Vec, Global, refl, ap, rules, AllZip, each_same, FileId, Command, KeyValue, OpType, LogItem, LogItemContent, entries, command, pair, Pair, pair_of}
use Rattle.raft_records.proofs.Common.{content_of, item_of, item_with}
use Rattle.raft_records.specs.contracts.command.CommandClone.TheImpl.{is_clone-value as command_clones}
use Rattle.raft_records.specs.contracts.entry_indexes.EntryIndexesClone.TheImpl.{is_clone-value as entries_clones}
use Rattle.raft_records.specs.contracts.key_value.KeyValueClone.TheImpl.{is_clone-value as pair_clones}
use Rattle.raft_records.specs.contracts.log_item.LogItemContentClone.TheImpl.{is_clone-value as content_clones}
use Rattle.raft_records.specs.contracts.log_item.LogItemClone.TheImpl.{is_clone-value as item_clones}
use Rattle.raft_records.specs.declared.entry_indexes.EntryIndexes.{EntryIndexes as Entries}
use Rattle.raft_records.specs.declared.log_item.LogItemContent.TheVariants.{EntryIndexes, Command as Commands, Kv}

command_clone : (a b : Command) → command_clones.it a b → b ≡ a
command_clone a b h = search rules

abbrev kv : OpType → Vec ℕ Global → Option (Vec ℕ Global) → Option FileId → KeyValue
kv o key value file = record { op_type = o; key = key; value = value; file_id = file }

abbrev seen : OpType → List ℕ → Option (List ℕ) → Option FileId → Pair
seen o key value file = record { op_type = o; key = key; value = value; file_id = file }

kv_clone : (o o' : OpType) (k k' : Vec ℕ Global) (v v' : Option (Vec ℕ Global)) (f f' : Option FileId) → pair_clones.it (kv o k v f) (kv o' k' v' f') → pair_of (kv o' k' v' f') ≡ pair_of (kv o k v f)
kv_clone o o' k k' None (Some w) f f' h = absurd h.1.1.0
kv_clone o o' k k' (Some v) None f f' h = absurd h.1.1.0
kv_clone o o' k k' None None None (Some g) h = absurd h.1.1.1
kv_clone o o' k k' None None (Some f) None h = absurd h.1.1.1
kv_clone o o' k k' (Some v) (Some w) None (Some g) h = absurd h.1.1.1
kv_clone o o' k k' (Some v) (Some w) (Some f) None h = absurd h.1.1.1
kv_clone o o' k k' None None None None h =
    let key = each_same k.items k'.items h.1.0.0 in
    λ i. seen (h.0 i) (key i) None None
kv_clone o o' k k' None None (Some f) (Some g) h =
    let key = each_same k.items k'.items h.1.0.0 in
    λ i. seen (h.0 i) (key i) None (Some (h.1.1.1 i))
kv_clone o o' k k' (Some v) (Some w) None None h =
    let key = each_same k.items k'.items h.1.0.0 in
    let value = each_same v.items w.items h.1.1.0.0 in
    λ i. seen (h.0 i) (key i) (Some (value i)) None
kv_clone o o' k k' (Some v) (Some w) (Some f) (Some g) h =
    let key = each_same k.items k'.items h.1.0.0 in
    let value = each_same v.items w.items h.1.1.0.0 in
    λ i. seen (h.0 i) (key i) (Some (value i)) (Some (h.1.1.1 i))

pub pair_clone : (a b : KeyValue) → pair_clones.it a b → pair_of b ≡ pair_of a
pair_clone a b h = kv_clone a.op_type b.op_type a.key b.key a.value b.value a.file_id b.file_id h

pub entries_clone : (a b : Entries) → entries_clones.it a b → b.0.items ≡ a.0.items
entries_clone a b h = each_same a.0.items b.0.items h.0

pub content_clone : (a b : LogItemContent) → content_clones.it a b → content_of b ≡ content_of a
content_clone (EntryIndexes x) (EntryIndexes y) h = ap entries (entries_clone x y h)
content_clone (Commands c) (Commands d) h = ap command (command_clone c d h)
content_clone (Kv p) (Kv q) h = ap pair (pair_clone p q h)
content_clone (EntryIndexes x) (Commands d) h = absurd h
content_clone (EntryIndexes x) (Kv q) h = absurd h
content_clone (Commands c) (EntryIndexes y) h = absurd h
content_clone (Commands c) (Kv q) h = absurd h
content_clone (Kv p) (EntryIndexes y) h = absurd h
content_clone (Kv p) (Commands d) h = absurd h

pub item_clone : (a b : LogItem) → item_clones.it a b → item_of b ≡ item_of a
item_clone a b h =
    let c = content_clone a.content b.content h.1 in
    λ i. item_with (h.0 i) (c i)

pub items_clone : (xs ys : List LogItem) → AllZip item_clones.it xs ys → map item_of ys ≡ map item_of xs
items_clone [] [] h = refl
items_clone [] (y ∷ ys) h = absurd h
items_clone (x ∷ xs) [] h = absurd h
items_clone (x ∷ xs) (y ∷ ys) h = λ i. item_clone x y h.0 i ∷ items_clone xs ys h.1 i
