-- What is to be done to files, of all that is asked of them.
use Rattle.std.specs.Prelude.{ℕ, List, [], ◌∷◌, ◌++◌, length, Option, Some, slice_get, ◌≡◌}
use Rattle.raft_files.specs.Asks.{Act, Ask, Begin, Cut, Delete, Found, Put, Read, Sync, Unsynced, ask}
use Rattle.raft_orders.specs.declared.order.Order.{Order}
use Rattle.raft_orders.specs.declared.order.Task.{Task}
use Rattle.raft_orders.specs.declared.waiting_orders.NumberedOrder.{NumberedOrder}
use Rattle.raft_orders.specs.declared.order.Task.TheVariants as tasks

-- the act that a task is
abbrev pub act_of : Task → Act
act_of (tasks.Put bytes) = Put bytes.items
act_of (tasks.Begin seq) = Begin seq
act_of tasks.Sync = Sync
act_of tasks.Delete = Delete
act_of (tasks.Cut len) = Cut len

-- how many bytes a task puts
abbrev pub length_put : Task → ℕ
length_put (tasks.Put bytes) = length bytes.items
length_put _ = 0

-- what an order says that is asked
abbrev pub ask_of : Order → Ask
ask_of order = ask order.queue (act_of order.task)

-- what is asked, if it is to be done to files: what was found and read is done already, and a failed sync is nothing to do
abbrev pub to_do : Ask → Act → List Ask
to_do a (Found files) = []
to_do a (Read place bytes) = []
to_do a Unsynced = []
to_do a _ = a ∷ []

-- what is to be done to files of all that was asked, oldest first; what was asked is given newest first
abbrev pub all_to_do : List Ask → List Ask
all_to_do [] = []
all_to_do (a ∷ earlier) = all_to_do earlier ++ to_do a a.act

-- the order with this number, of all that is to be done, counted from 0
abbrev pub next_to_do : List Ask → ℕ → Option Ask
next_to_do asks number = slice_get (all_to_do asks) number

-- an order has this number, and is the one with it
pub record IsOrder (asks : List Ask) (number : ℕ) (taken : NumberedOrder) : Type 0 where
  pub numbered : taken.number ≡ number
  pub is : next_to_do asks number ≡ Some (ask_of taken.order)
