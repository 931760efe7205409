-- The groups that wait, as their contracts see them.
use Rattle.std.specs.Ordering.{nat_cmp}
use Rattle.std.specs.BTreeMap.{IsOrdered}
use Rattle.raft_history.specs.WaitingGroups.{WaitingGroups}
use Rattle.raft_contexts.specs.declared.waiting_groups.WaitingGroups.TheInside.{Inside}
use Rattle.raft_contexts.specs.WaitingShown.{seen_entries}

-- the map of groups
abbrev pub groups_seen : Inside → WaitingGroups
groups_seen a = seen_entries a.groups.entries

-- the keys of the map of groups are in order
pub record AreGroupsOrdered (a : Inside) : Type 0 where
  pub ordered : IsOrdered nat_cmp a.groups
