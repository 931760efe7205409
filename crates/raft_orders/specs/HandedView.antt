-- As which files `HandedFiles` is seen, and what it keeps.
use Rattle.std.specs.Prelude.{◌≡◌, ℕ, ◌-◌, ◌≤◌, List, drop, length, map}
use Rattle.raft_files.specs.Asks.{Ask}
use Rattle.raft_orders.specs.Handed.{Handed}
use Rattle.raft_orders.specs.Orders.{all_to_do, ask_of}
use Rattle.raft_orders.specs.declared.handed_files.HandedFiles.TheInside.{Inside}
use Rattle.raft_orders.specs.declared.waiting_orders.WaitingOrders.{WaitingOrders}

-- how many orders don't wait any more
abbrev pub taken_of : WaitingOrders → ℕ
taken_of waiting = waiting.count - length waiting.orders.items

-- what was asked, and how many orders were taken
abbrev pub handed_shown : Inside → Handed
handed_shown f = record { asks = f.asked.asks; taken = taken_of f.waiting }

-- the orders that wait are all of what is to be done but for the first ones, and so many there were
pub record AreWaiting (asks : List Ask) (waiting : WaitingOrders) : Type 0 where
  pub are : map ask_of waiting.orders.items ≡ drop (taken_of waiting) (all_to_do asks)
  pub count : waiting.count ≡ length (all_to_do asks)
  pub few : length waiting.orders.items ≤ waiting.count

-- the orders that wait are those that were asked and not taken
abbrev pub IsHanded : Inside → Type 0
IsHanded f = AreWaiting f.asked.asks f.waiting
