-- Tables as their contracts see them.
use Rattle.raft_table.specs.declared.memtable.MemTable.TheInside.{Inside}
use Rattle.raft_table.specs.Table.{Table}

-- a table by its fields as they are
abbrev pub table_shown : Inside → Table
table_shown a = record { region_id = a.region_id; entries = a.entries; keys = a.keys; atomic_group = a.atomic_group }
