-- Orders that are taken where there is room for their bytes.
use Rattle.std.specs.Prelude.{◌≡◌, ℕ, ◌<◌, ◌≤◌, List, Some, None}
use Rattle.raft_files.specs.Asks.{Ask}
use Rattle.raft_orders.specs.Orders.{ask_of, length_put, next_to_do}
use Rattle.raft_orders.specs.declared.order.Order.{Order}
use Rattle.raft_ffi.specs.declared.order_calls.Taking.{Taking}
use Rattle.raft_ffi.specs.declared.order_calls.Taking.TheVariants.{NoneWaits, Taken, TooLong}

-- an order waits that has this number, and so many bytes
pub record IsWaiting (asks : List Ask) (number len : ℕ) : Type 0 where
  pub order : Order
  pub is : next_to_do asks number ≡ Some (ask_of order)
  pub long : length_put order.task ≡ len

-- the order of its number is taken, and has no more bytes than there is room for; or one waits that has more; or none waits that has this number, or a greater one
abbrev pub IsTaking : List Ask → ℕ → Taking → Type 0
IsTaking asks room (Taken taken) = (next_to_do asks taken.number ≡ Some (ask_of taken.order)) × (length_put taken.order.task ≤ room)
IsTaking asks room (TooLong number len) = (room < len) × IsWaiting asks number len
IsTaking asks room (NoneWaits number) = next_to_do asks number ≡ None
