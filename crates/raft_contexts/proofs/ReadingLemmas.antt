-- Items that are read again, as the steps of a history.
use Rattle.raft_contexts.proofs.Common.{◌≡◌, ℕ, true, false, if◌then◌else◌, List, [], ◌∷◌, ◌++◌, Option, Some, None, refl, sym, ap, subst, ◌∙◌, option_and_then, FileId, LogQueue, OpType, is_reserved, Item, Content, entries, command, pair}
use Rattle.raft_contexts.proofs.Common.{Tables, RegionStep, with_table, content_step, pair_step, steps_of_items, tables_after, cleaned_by_steps, with_step, table_of, after_replay, Replaying, after_content, after_items, after_pair}
use Rattle.raft_contexts.proofs.Common.{with_change, listed_by, listed_by_items, none_some, with_same, option_map, Append}
use Rattle.std.specs.FinMap as finite
use Rattle.raft_records.specs.declared.command.Command.TheVariants as commands
use Rattle.raft_records.specs.declared.key_value.OpType.TheVariants as operations

module _ (q : LogQueue) (m n : Tables) (id : ℕ) (rest : List RegionStep) (later : Tables → Option Tables) (h : (k : Tables) → later k ≡ Some n → tables_after q k rest ≡ Some n) where
  pair-read : (op : OpType) (key : List ℕ) (value : Option (List ℕ)) (file : Option FileId) →
      option_and_then (λ t. later (with_table m id t)) (option_map Some (after_pair (table_of id (finite.get m id)) op key value file)) ≡ Some n →
      tables_after q m (with_step id (pair_step op key value file) rest) ≡ Some n
  pair-read operations.Put key (Some value) (Some file) e = h _ e
  pair-read operations.Put key (Some value) None e = absurd (none_some e)
  pair-read operations.Put key None file e = absurd (none_some e)
  pair-read operations.Del key value file e = h _ e

  content-read : (content : Content) → option_and_then (λ t. later (with_table m id t)) (after_content (Replaying q) id (finite.get m id) content) ≡ Some n → tables_after q m (with_step id (content_step content) rest) ≡ Some n
  content-read (entries es) e =
      elim (after_replay q (table_of id (finite.get m id)) es)
      as (λ o. option_and_then (λ t. later (with_table m id t)) (option_map Some o) ≡ Some n →
      option_and_then (λ t. tables_after q (with_table m id t) rest) (option_map Some o) ≡ Some n) [
        | None ↦ λ e. absurd (none_some e)
        | Some t ↦ λ e. h _ e
      ] e
  content-read (command commands.Clean) e = h _ e
  content-read (command (commands.Compact i)) e = h _ e
  content-read (command (commands.Truncate i)) e = h _ e
  content-read (pair p) e =
      elim (is_reserved p.key) as (λ b. option_and_then (λ t. later (with_table m id t))
      (if b then Some (finite.get m id) else option_map Some (with_change (Replaying q) (table_of id (finite.get m id)) p)) ≡ Some n →
      tables_after q m (with_step id (if b then None else pair_step p.op_type p.key p.value p.file_id) rest) ≡ Some n) [
        | true ↦ λ e. h m (subst (λ k. later k ≡ Some n) (with_same m id) e)
        | false ↦ λ e. pair-read p.op_type p.key p.value p.file_id e
      ] e

pub items_read : (q : LogQueue) (m n : Tables) (items : List Item) → after_items (Replaying q) m items ≡ Some n → tables_after q m (steps_of_items items) ≡ Some n
items_read q m n [] e = e
items_read q m n (item ∷ items) e = content-read q m n item.raft_group_id (steps_of_items items) (λ k. after_items (Replaying q) k items) (λ k. items_read q k n items) item.content e

content-listed : (content : Content) (id : ℕ) (rest : List RegionStep) →
    cleaned_by_steps Append (with_step id (content_step content) rest) ≡ listed_by (Replaying Append)
    (record { raft_group_id = id; content = content }) ++ cleaned_by_steps Append rest
content-listed (entries es) id rest = refl
content-listed (command commands.Clean) id rest = refl
content-listed (command (commands.Compact i)) id rest = refl
content-listed (command (commands.Truncate i)) id rest = refl
content-listed (pair p) id rest = elim
    (is_reserved p.key) as (λ b. cleaned_by_steps Append
    (with_step id (if b then None else pair_step p.op_type p.key p.value p.file_id) rest) ≡ cleaned_by_steps Append rest)
    [ true ↦ refl | false ↦ of_pair p.op_type p.key p.value p.file_id ]
  where
    of_pair : (op : OpType) (key : List ℕ) (value : Option (List ℕ)) (file : Option FileId) → cleaned_by_steps Append (with_step id (pair_step op key value file) rest) ≡ cleaned_by_steps Append rest
    of_pair operations.Put key (Some value) (Some file) = refl
    of_pair operations.Put key (Some value) None = refl
    of_pair operations.Put key None file = refl
    of_pair operations.Del key value file = refl

pub items_listed : (items : List Item) → listed_by_items (Replaying Append) items ≡ cleaned_by_steps Append (steps_of_items items)
items_listed [] = refl
items_listed (item ∷ items) = ap (λ l. listed_by (Replaying Append) item ++ l) (items_listed items) ∙ sym (content-listed item.content item.raft_group_id (steps_of_items items))
