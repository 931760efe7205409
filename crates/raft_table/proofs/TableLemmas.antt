-- Counts of tables.
use Rattle.raft_table.proofs.Common.{◌≡◌, ℕ, ◌≤◌, List, Some, refl, sym, ap, ◌∙◌, arith, FileId, LogQueue, Keys, file_at, file_weight, pair_count, placed_in, empty_table, live_of, count_in}
use Rattle.raft_base.specs.declared.pipe_log.LogQueue.TheVariants.{Append, Rewrite}
use Rattle.raft_table.proofs.KeyValueReads.{entries-empty}
use Rattle.raft_table.proofs.KeyValueCounts.{file_weight-le}

pub count_in_own : (q : LogQueue) (n : ℕ) → count_in q q n ≡ n
count_in_own Append n = refl
count_in_own Rewrite n = refl

-- a key's pair counts in its file's queue
pub pair_counted : (keys : Keys) (key : List ℕ) (file : FileId) → Some file ≡ file_at keys key → 1 ≤ pair_count file.queue keys
pair_counted keys key file h =
    let a = file_weight-le file.queue keys key in
    let e : file_weight file.queue (file_at keys key) ≡ 1 = ap (file_weight file.queue) (sym h) ∙ count_in_own file.queue 1 in
    omega arith

pub live_of_empty : (q : LogQueue) (id : ℕ) → live_of q (empty_table id) ≡ 0
unfolding placed_in
live_of_empty q id = rw entries-empty refl
