-- Given schedules: who draws each segment, how many pieces that makes, and which plan fits them.
use Rattle.std.specs.Prelude.{ℕ, zero, suc, ◌≡◌, ◌+◌, ◌<◌, ◌≤◌, ◌==◌, Bool, false, not, if◌then◌else◌, List, length, EachIndex, slice_index, Vec}
use Rattle.std.specs.Global.{Global}
use Rattle.raft_base.specs.declared.pipe_log.LogQueue.{LogQueue}
use Rattle.raft_records.specs.FilePart.{Part}
use Rattle.raft_replay.specs.declared.plan.Plan.{Plan}
use Rattle.raft_replay.specs.Plans.{leaves}
use Rattle.raft_replay.specs.Segments.{SegmentsAreOf}

-- whether another worker draws the segment than the one before it. The list says who draws each; past its end worker 0 draws
abbrev pub switches : List ℕ → ℕ → Bool
switches draws zero = false
switches draws (suc n) = not (slice_index draws (suc n) == slice_index draws n)

-- for how many numbers below n the test holds
abbrev pub count_below : (ℕ → Bool) → ℕ → ℕ
count_below test zero = 0
count_below test (suc n) = count_below test n + (if test n then 1 else 0)

-- the pieces that so many segments make: one, and one more each time that another worker draws
abbrev pub pieces_in : ℕ → List ℕ → ℕ
pieces_in zero draws = 0
pieces_in (suc n) draws = count_below (switches draws) (suc n) + 1

-- segments of this queue, draws by these workers, of whom there are 1 to 256, and a plan of the pieces, if there are any
pub record IsSchedule (segments : List (Vec Part Global)) (queue : LogQueue) (workers : ℕ) (draws : List ℕ) (plan : Plan) : Type 0 where
  pub of_queue : SegmentsAreOf queue segments
  pub some_worker : 0 < workers
  pub few_workers : workers ≤ 256
  pub known_workers : EachIndex draws (λ n. slice_index draws n < workers)
  pub plan_fits : 0 < length segments → leaves plan ≡ pieces_in (length segments) draws
