-- On equality of items: `==` of what is in memory decides equality of what it is seen as.
use Rattle.raft_records.proofs.Common.{◌≡◌, ℕ, Bool, true, ◌&&◌, List, [], ◌∷◌, map, refl, sym, ap, ◌∙◌, rules, Decides, one_answer, unsigned_Decides, first_so, second_so, pointwise, pointwise_decides, EntryIndex, Command, KeyValue}
use Rattle.raft_records.proofs.Common.{LogItem, LogItemContent, same_pair, same_content, same_item, same_items, Item, Content, entries, command, pair, Pair, pair_of, content_of, item_of, item_with, nat_eq, and-true}
use Rattle.raft_base.specs.contracts.entry_index.EntryIndexPartialEq.TheImpl.{eq-value as entry_eq}
use Rattle.raft_records.specs.contracts.command.CommandPartialEq.TheImpl.{eq-value as command_eq}
use Rattle.raft_records.specs.contracts.key_value.KeyValuePartialEq.TheImpl.{eq-value as pair_eq}
use Rattle.raft_records.specs.contracts.log_item.LogItemContentPartialEq.TheImpl.{eq-value as content_eq}
use Rattle.raft_records.specs.contracts.log_item.LogItemPartialEq.TheImpl.{eq-value as item_eq}
use Rattle.raft_records.specs.declared.log_item.LogItemContent.TheVariants.{EntryIndexes, Command as Commands, Kv}

both : {a b : Bool} → a ≡ true → b ≡ true → (a && b) ≡ true
both {a} {b} p q = (λ i. p i && q i)

entry_decides : (a b : EntryIndex) → Decides (entry_eq.it a b) (a ≡ b)
entry_decides a b = search rules

command_decides : (a b : Command) → Decides (command_eq.it a b) (a ≡ b)
command_decides a b = search rules

pair_decides : (a b : KeyValue) → Decides (pair_eq.it a b) (pair_of a ≡ pair_of b)
pair_decides a b = search rules

-- ---- the tests of what is seen

same_pair_decides : (p q : Pair) → Decides (same_pair p q) (p ≡ q)
same_pair_decides p q = search rules

same_content_decides : (a b : Content) → Decides (same_content a b) (a ≡ b)
same_content_decides (entries x) (entries y) =
    let d = pointwise_decides entry_decides x y in
    (λ e. ap entries (d.0 (first_so _ _ e)), λ e. both (d.1 cc) refl)
same_content_decides (command c) (command d) =
    let k = command_decides c d in
    (λ e. ap command (k.0 (first_so _ _ e)), λ e. both (k.1 cc) refl)
same_content_decides (pair p) (pair q) =
    let d = same_pair_decides p q in
    (λ e. ap pair (d.0 e), λ e. d.1 cc)
same_content_decides (entries x) (command d) = (λ e. absurd cc, λ e. absurd cc)
same_content_decides (entries x) (pair q) = (λ e. absurd cc, λ e. absurd cc)
same_content_decides (command c) (entries y) = (λ e. absurd cc, λ e. absurd cc)
same_content_decides (command c) (pair q) = (λ e. absurd cc, λ e. absurd cc)
same_content_decides (pair p) (entries y) = (λ e. absurd cc, λ e. absurd cc)
same_content_decides (pair p) (command d) = (λ e. absurd cc, λ e. absurd cc)

same_item_decides : (x y : Item) → Decides (same_item x y) (x ≡ y)
same_item_decides x y =
    let d = same_content_decides x.content y.content in
    let n = unsigned_Decides x.raft_group_id y.raft_group_id in
    (λ e. ap (λ (m : ℕ). item_with m x.content) (n.0 (first_so _ _ e)) ∙ ap (item_with y.raft_group_id) (d.0 (second_so _ _ e)), λ e. both (n.1 (ap (λ (z : Item). z.raft_group_id) e)) (d.1 (ap (λ (z : Item). z.content) e)))

-- ---- lists of items

content_alike : (a b : LogItemContent) → content_eq.it a b ≡ same_content (content_of a) (content_of b)
content_alike (EntryIndexes x) (EntryIndexes y) = sym (and-true (pointwise entry_eq.it x.0.items y.0.items))
content_alike (Commands c) (Commands d) = sym (and-true (command_eq.it c d))
content_alike (Kv p) (Kv q) = one_answer (pair_eq.it p q) (same_pair (pair_of p) (pair_of q)) (pair_decides p q) (same_pair_decides (pair_of p) (pair_of q))
content_alike (EntryIndexes x) (Commands d) = refl
content_alike (EntryIndexes x) (Kv q) = refl
content_alike (Commands c) (EntryIndexes y) = refl
content_alike (Commands c) (Kv q) = refl
content_alike (Kv p) (EntryIndexes y) = refl
content_alike (Kv p) (Commands d) = refl

items_alike : (xs ys : List LogItem) → pointwise item_eq.it xs ys ≡ same_items (map item_of xs) (map item_of ys)
items_alike [] [] = refl
items_alike [] (y ∷ ys) = refl
items_alike (x ∷ xs) [] = refl
items_alike (x ∷ xs) (y ∷ ys) = λ i. (nat_eq x.raft_group_id y.raft_group_id && content_alike x.content y.content i) && items_alike xs ys i

-- what a comparison of the items in memory says of what is seen of them
pub items_compared : (xs ys : List LogItem) (one other : List Item) (result : Bool) → map item_of xs ≡ one → map item_of ys ≡ other → result ≡ pointwise item_eq.it xs ys → result ≡ same_items one other
items_compared xs ys one other result seen seen' e =
    e ∙ items_alike xs ys ∙ ap (λ (zs : List Item). same_items zs (map item_of ys)) seen ∙ ap (same_items one) seen'

pub exactly : (one other : List Item) (result : Bool) → result ≡ same_items one other → (result ≡ true → one ≡ other) × (one ≡ other → result ≡ true)
exactly one other result tested =
    let d = pointwise_decides same_item_decides one other in
    (λ e. d.0 (sym tested ∙ e), λ e. tested ∙ d.1 e)
