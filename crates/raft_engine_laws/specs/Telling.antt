-- What the rewrite queue is told: steps that take away what untold steps take away, and put nothing.
use Rattle.std.specs.Prelude.{◌≡◌, ◌≢◌, ℕ, Bool, true, false, List, [], ◌∷◌, ◌++◌, filter, flat_map, None, nat_lt}
use Rattle.std.specs.FinMap as finite
use Rattle.std.specs.List.{AllByRecursion}
use Rattle.raft_base.specs.declared.entry_index.EntryIndex.{EntryIndex}
use Rattle.raft_records.specs.declared.command.Command.TheVariants as commands
use Rattle.raft_records.specs.declared.key_value.OpType.{OpType}
use Rattle.raft_records.specs.declared.key_value.OpType.TheVariants as operations
use Rattle.raft_records.specs.Item.{Item, Content, entries, command, pair, command_item, pair_item}
use Rattle.raft_base.specs.Runs.{end_of}
use Rattle.raft_table.specs.Steps.{Step, Run, Compact, Truncate, Put, Del, AtomicGroup, Clean, table_of}
use Rattle.raft_table.specs.Table.{Table}
use Rattle.raft_table.specs.TableEntries.{start_of}
use Rattle.raft_history.specs.RegionSteps.{RegionStep, Tables, content_step}
use Rattle.raft_engine_laws.specs.Speaking.{is_index_spoken, unspoken, AreCovered, is_key_dropped, pair_left}

-- a step that takes away and puts nothing
abbrev pub IsRemoval : Step → Type 0
IsRemoval (Compact i) = Unit {0}
IsRemoval (Truncate i) = Unit {0}
IsRemoval (Del key) = Unit {0}
IsRemoval Clean = Unit {0}
IsRemoval _ = ⊥

-- each step is one
abbrev pub AreRemovals : List Step → Type 0
AreRemovals ss = AllByRecursion IsRemoval ss

-- two lists of steps speak of the same indexes and take the same keys away
pub record SayTheSame (a b : List Step) : Type 0 where
  pub indexes : (i : ℕ) → is_index_spoken a i ≡ is_index_spoken b i
  pub keys : (key : List ℕ) → is_key_dropped a key ≡ is_key_dropped b key

-- fewer steps say enough: of these entries they leave as much, and they take the same keys away
pub record SayEnough (untold fewer : List Step) (es : List EntryIndex) : Type 0 where
  pub covers : AreCovered fewer untold
  pub entries : unspoken fewer es ≡ unspoken untold es
  pub keys : (key : List ℕ) → is_key_dropped fewer key ≡ is_key_dropped untold key

-- what is told says enough of the rewritten table that was read alone: of its entries and pairs it takes away what the append files' steps on the region do, and what lies in front of the entries that were found
pub record SayEnoughAtOpening (kept told : List Step) (rewritten found : Table) : Type 0 where
  pub entries : unspoken told rewritten.entries ≡ unspoken (kept ++ Compact (start_of found.entries) ∷ []) rewritten.entries
  pub pairs : (key : List ℕ) → pair_left told key (finite.get rewritten.keys key) ≡ pair_left kept key (finite.get rewritten.keys key)

-- ---- what needn't be told

-- whether a step takes something away of a table whose entries end there: any but a put, and but a run that starts at the end or behind it
abbrev pub takes_away : ℕ → Step → Bool
takes_away end (Run []) = false
takes_away end (Run (e ∷ run)) = nat_lt e.index end
takes_away end (Put key value file) = false
takes_away end (AtomicGroup first_seq last_seq) = false
takes_away end _ = true

-- whether a step takes something away of its region's table
abbrev pub takes_from : Tables → RegionStep → Bool
takes_from tables s = takes_away (end_of (table_of s.region (finite.get tables s.region)).entries) s.step

-- the steps that do
abbrev pub taking_steps : Tables → List RegionStep → List RegionStep
taking_steps tables steps = filter (takes_from tables) steps

-- ---- as items

-- what is told of the change of a key: a deletion as it is, a put not at all
abbrev pub told_of_pair : ℕ → OpType → List ℕ → List Item
told_of_pair region operations.Put key = []
told_of_pair region operations.Del key = pair_item region operations.Del key None ∷ []

-- what is told of a content: entries as a truncation at the first of them, a command as it is
abbrev pub told_of : ℕ → Content → List Item
told_of region (entries []) = []
told_of region (entries (e ∷ es)) = command_item region (commands.Truncate e.index) ∷ []
told_of region (command c) = command_item region c ∷ []
told_of region (pair p) = told_of_pair region p.op_type p.key

-- what is told of items, in order
abbrev pub told_items : List Item → List Item
told_items items = flat_map (λ item. told_of item.raft_group_id item.content) items

-- whether a change of a key takes it away
abbrev pub is_deletion : OpType → Bool
is_deletion operations.Put = false
is_deletion operations.Del = true

-- whether a content takes something away of a table whose entries end there: entries that start below the end, a command, and the deletion of a key
abbrev pub content_takes_away : ℕ → Content → Bool
content_takes_away end (entries []) = false
content_takes_away end (entries (e ∷ es)) = nat_lt e.index end
content_takes_away end (command c) = true
content_takes_away end (pair p) = is_deletion p.op_type

-- whether an item takes something away of its region's table
abbrev pub item_takes_from : Tables → Item → Bool
item_takes_from tables item = content_takes_away (end_of (table_of item.raft_group_id (finite.get tables item.raft_group_id)).entries) item.content

-- the items that do
abbrev pub taking_items : Tables → List Item → List Item
taking_items tables items = filter (item_takes_from tables) items

-- a content that takes away and puts nothing: a command, or the deletion of a key
abbrev pub TakesAway : Content → Type 0
TakesAway (entries es) = ⊥
TakesAway (command c) = Unit {0}
TakesAway (pair p) = p.op_type ≡ operations.Del

-- each item is such a one
abbrev pub TakeAway : List Item → Type 0
TakeAway items = AllByRecursion (λ (item : Item). TakesAway item.content) items

-- each item is a step of its region
abbrev pub AreAllSteps : List Item → Type 0
AreAllSteps items = AllByRecursion (λ (item : Item). content_step item.content ≢ None) items
