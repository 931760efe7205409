-- How numbers and bytes note an ask.
use Rattle.std.specs.Prelude.{ℕ, zero, suc, List, slice_index}
use Rattle.raft_base.specs.declared.pipe_log.FileBlockHandle.{FileBlockHandle}
use Rattle.raft_base.specs.declared.pipe_log.LogQueue.{LogQueue}
use Rattle.raft_base.specs.declared.pipe_log.LogQueue.TheVariants.{Append, Rewrite}
use Rattle.raft_files.specs.Asks.{NumberedBytes, Act, Put, Begin, Sync, Unsynced, Delete, Cut, Found, Read, Ask, ask}

-- the queue that a number notes
abbrev pub queue_noted : ℕ → LogQueue
queue_noted zero = Append
queue_noted (suc n) = Rewrite

-- the place that five numbers note: its queue, a kind, the number of its file, its offset and its length
abbrev pub place_noted : List ℕ → FileBlockHandle
place_noted numbers = record {
  id = record { queue = queue_noted (slice_index numbers 0); seq = slice_index numbers 2 };
  offset = slice_index numbers 3;
  len = slice_index numbers 4;
}

-- the act that the number of a kind, the numbers that it is one of, and bytes note
abbrev pub act_noted : ℕ → List ℕ → List ℕ → Act
act_noted zero numbers bytes = Put bytes
act_noted (suc zero) numbers bytes = Begin (slice_index numbers 2)
act_noted (suc (suc zero)) numbers bytes = Sync
act_noted (suc (suc (suc zero))) numbers bytes = Delete
act_noted (suc (suc (suc (suc zero)))) numbers bytes = Cut (slice_index numbers 2)
act_noted (suc (suc (suc (suc (suc zero))))) numbers bytes = Read (place_noted numbers) bytes
act_noted (suc (suc (suc (suc (suc (suc kind)))))) numbers bytes = Unsynced

-- the ask that numbers and bytes note: its queue, its kind, and a number or a place
abbrev pub ask_noted : List ℕ → List ℕ → Ask
ask_noted numbers bytes = ask (queue_noted (slice_index numbers 0)) (act_noted (slice_index numbers 1) numbers bytes)

-- the ask that one number and files note: its queue, and the files that are found
abbrev pub found_noted : List ℕ → List NumberedBytes → Ask
found_noted numbers files = ask (queue_noted (slice_index numbers 0)) (Found files)
