-- New items of the append queue, as items that are read again.
use Rattle.raft_contexts.proofs.Common.{◌≡◌, ℕ, true, false, ◌||◌, if◌then◌else◌, List, [], ◌∷◌, ◌++◌, Option, Some, None, refl, ap, ◌∙◌, option_and_then, none_some, some_is, EntryIndex, Item, Content, entries, command, pair, Tables}
use Rattle.raft_contexts.proofs.Common.{with_table, starts_in_front, leaves_hole, entries_after_append, entries_after_replay, table_of, Table, below, Appending, Replaying, after_content, after_items, AppendedItemsAreRead, option_map}
use Rattle.raft_contexts.proofs.Common.{option_and_then_some, Append}
use Rattle.std.specs.FinMap as finite
use Rattle.raft_contexts.proofs.ReadingLemmas.{items_read}

-- what a region's table was made of
pub made_of : {X P : Type 0} (f : X → Table) (o : Option X) (w : Option Table) → option_map Some (option_map f o) ≡ Some w → ((x : X) → o ≡ Some x → Some (f x) ≡ w → P) → P
made_of f None w e k = absurd (none_some e)
made_of f (Some x) w e k = k x refl (some_is e)

-- a run that is accepted as a new one is accepted when it is read again, and leaves the same entries
pub run_replays : (es run new : List EntryIndex) → entries_after_append es run ≡ Some new → entries_after_replay Append es run ≡ Some new
run_replays es [] new h = h
run_replays es (e ∷ run) new h =
    elim (starts_in_front es e.index) as (λ b. (if b || leaves_hole es e.index then None else Some (below e.index es ++ e ∷ run)) ≡ Some new → (if leaves_hole es e.index then None else Some (below e.index es ++ e ∷ run)) ≡ Some new) [
      | true ↦ λ k. absurd (none_some k)
      | false ↦ λ k. k
    ] h

content_replays : (id : ℕ) (o t : Option Table) (content : Content) → after_content Appending id o content ≡ Some t → after_content (Replaying Append) id o content ≡ Some t
content_replays id o t (entries es) h = made_of (λ (l : List EntryIndex). record (table_of id o) { entries = l }) (entries_after_append (table_of id o).entries es) t h
    (λ l is k. ap (λ (x : Option (List EntryIndex)). option_map Some (option_map (λ (l : List EntryIndex). record (table_of id o) { entries = l }) x)) (run_replays (table_of id o).entries es l is) ∙ ap Some k)
content_replays id o t (command c) h = h
content_replays id o t (pair p) h = h

pub items_replay : (m n : Tables) (items : List Item) → after_items Appending m items ≡ Some n → after_items (Replaying Append) m items ≡ Some n
items_replay m n [] h = h
items_replay m n (item ∷ items) h =
    let id = item.raft_group_id in
    option_and_then_some (λ t. after_items Appending (with_table m id t) items) (after_content Appending id (finite.get m id) item.content) n h
    (λ t is k. ap (option_and_then (λ t. after_items (Replaying Append) (with_table m id t) items)) (content_replays id (finite.get m id) t item.content is) ∙ items_replay (with_table m id t) n items k)

pub items_appended : AppendedItemsAreRead
items_appended m n items h = items_read Append m n items (items_replay m n items h)
