-- Items that are written or read again, as the steps of a history.
use Rattle.std.specs.Prelude.{◌≡◌, List, Some}
use Rattle.raft_base.specs.declared.pipe_log.LogQueue.{LogQueue}
use Rattle.raft_base.specs.declared.pipe_log.LogQueue.TheVariants.{Append}
use Rattle.raft_records.specs.Item.{Item}
use Rattle.raft_history.specs.RegionSteps.{Tables, steps_of_items, tables_after, cleaned_by_steps}
use Rattle.raft_accessor.specs.Writes.{Appending, Replaying, after_items, listed_by_items}

-- items that are read again and accepted leave the tables that their steps leave
abbrev pub ItemsAreRead : Type 0
ItemsAreRead =
    (q : LogQueue) (m n : Tables) (items : List Item) → after_items (Replaying q) m items ≡ Some n → tables_after q m (steps_of_items items) ≡ Some n

-- new items that the append queue accepts leave the tables that their steps leave
abbrev pub AppendedItemsAreRead : Type 0
AppendedItemsAreRead =
    (m n : Tables) (items : List Item) → after_items Appending m items ≡ Some n → tables_after Append m (steps_of_items items) ≡ Some n

-- they list the regions that their steps clean
abbrev pub AppendedItemsAreListed : Type 0
AppendedItemsAreListed =
    (items : List Item) → listed_by_items Appending items ≡ cleaned_by_steps Append (steps_of_items items)
